-- Words that are cut into parts: each part is a slice, and a part of no bits is there by itself.
use Rattle.std.proofs.Common.{◌≡◌, ◌∙◌, ℕ, zero, suc, ◌+◌, ◌-◌, ◌≤◌, ℤ, pos, negsuc, Bool, true, false, List, [], ◌∷◌, length, map, take, drop, Option}
use Rattle.std.proofs.Common.{Some, None, refl, sym, ap, subst, arith, eqb-true, if◌then◌else◌}
use Rattle.std.specs.Prelude.{◌&&◌, is_some, nat_eq, nat_le, nat_lt, option_map}
use Rattle.std.proofs.lemmas.List.{drop-take, drop_all, length-drop, length-take-le, take_all, take-take}
use Rattle.std.proofs.lemmas.Bool.{and_parts}
use Rattle.std.proofs.lemmas.Bool.Decides.{nat_tests, Decides-int_eq}
use Rattle.sail_base.specs.Bits.{slice_bits}
use Rattle.sail_types.specs.Sums.{and_then}
use Rattle.sail_types.specs.declared.numbers.Num.{Num}
use Rattle.sail_types.specs.declared.values.Value.{Value, Value-F, out-Value, roll-Value}
use Rattle.sail_types.specs.declared.values.Value.TheViews.{roll-out-Value}
use Rattle.sail_types.specs.declared.values.Value.TheOpen as E
use Rattle.sail_types.specs.declared.values.Value.TheVariants as V
use Rattle.size_values.specs.declared.sized.Sized.{Sized, Sized-F, out-Sized}
use Rattle.size_values.specs.declared.sized.Sized.TheOpen as Z
use Rattle.size_values.specs.declared.sized.Sized.TheVariants as S
use Rattle.size_values.specs.declared.sized.Sized.TheViews.{out-roll-Sized}
use Rattle.jib.specs.declared.types.ValueType.{ValueType}
use Rattle.jib.specs.Operations as P
use Rattle.jib.specs.Operations.{at_indices, index_of}
use Rattle.jib.specs.Jib.{Slots, operate, plain, reads}
use Rattle.sail_core.specs.Numbers.{Givens, known}
use Rattle.sail_core.specs.Values.{bits_typ, natural_of}
use Rattle.sail_core.specs.declared.patterns.Head.{Head}
use Rattle.sail_core.specs.declared.patterns.Head.TheVariants as H
use Rattle.sail_core.specs.Run.{Now}
use Rattle.sail_core.specs.Patterns.{Parts, Wrong, as_run, cut, cut_by, looked, opened, parts_or_wrong, so_many, width_of, widths_of}
use Rattle.checked_meaning.specs.Fits.{form_fits, has_sizes}
use Rattle.checked_meaning.specs.Items.{Item, fixed_typ, item}
use Rattle.jib.specs.declared.code.Instruction.TheVariants as I
use Rattle.std.specs.Prelude.{slice_get}
use Rattle.lowered_laws.specs.Standing.{HasAt, Tested}
use Rattle.lowered_pieces.specs.Arms.{Held, Taken, Taking, cut_take, cut_takes, cut_widths, head_taken, part_width, takes_held, width_or}
use Rattle.lowered_pieces.specs.Arms.{width_lowered, widths_lowered, word_takes, word_width}
use Rattle.lowered_laws.specs.Simulation.{bare, Followed, AtWork, kit, own_code, reading, RunsOn, Settled, Holding, Sits}
use Rattle.lowered_laws.proofs.Follows.{no}
use Rattle.lowered_laws.proofs.Had.{fits_as_form}
use Rattle.lowered_laws.proofs.Heads.{HeldIs}
use Rattle.lowered_laws.proofs.Takes.{Takes, takes_run}
use Rattle.lowered_laws.proofs.Works.{none_is, out_as, some_same}

-- ---- slices

within : (m n : ℕ) → nat_le n m ≡ true → n ≤ m
within m n h = grind (arith, nat_tests)

is_there : (bs : List Bool) (m n : ℕ) → suc n ≤ m → m ≤ length bs → (nat_le (m - suc n) (m - 1) && nat_lt (m - 1) (length bs)) ≡ true
is_there bs m n le most = grind (arith, nat_tests)

-- the bits from one index down to another
sliced : (bs : List Bool) (m n : ℕ) → suc n ≤ m → m ≤ length bs
    → P.slice (E.Bits bs) (m - 1) (m - suc n) ≡ Some (V.Bits (drop (m - suc n) (take m bs)))
sliced bs m n le most =
    let low : ℕ = m - suc n in
    let many : (m - 1) - low + 1 ≡ suc n = omega (arith, le) in
    let all : low + suc n ≡ m = omega (arith, le) in
    ap (λ b. P.some_bits b (slice_bits bs (m - 1) low)) (is_there bs m n le most)
    ∙ ap (λ k. Some (V.Bits (take k (drop low bs)))) many
    ∙ ap (λ us. Some (V.Bits us)) (sym (drop-take low (suc n) bs)) ∙ ap (λ k. Some (V.Bits (drop low (take k bs)))) all

-- none of no bits
none_left : (bs : List Bool) (m : ℕ) → m ≤ length bs → drop (m - 0) (take m bs) ≡ []
none_left bs m most = drop_all (m - 0) (take m bs) (omega (arith, length-take-le m bs most))

module _ (g : AtWork) where
  -- what is known of the variables is so
  abbrev pub Widths : Givens → Type 0
  Widths nu = (t : Num) (z : ℤ) → g.size t ≡ Some z → known nu t ≡ Some z

  -- a head does what it means, where these are the numbers of the variables
  abbrev pub HeadAt : Givens → Taken → ℕ → ℕ → Held → Head → ℕ → Type 1
  HeadAt nu tk q fail h head k = (x : Item) (pc pf : ℕ) (sl : Slots) (t : Now Item) (K : List Item → Now Item → Type 0)
      (H : Value → Now Item → Type 0) (N : Now Item → Type 0) → HeldIs g q sl h x → HasAt (own_code g) pc tk.code
      → slice_get (own_code g) pf ≡ Some (I.Label fail)
      → Followed g.ending (as_run (looked (reading g) nu head k x) t) K H N
      → ((xs : List Item) (sl2 : Slots) → Tested (kit g) q sl sl2 → Holding g sl2 tk.parts xs → Settled tk.free tk.parts → q ≤ tk.free → K xs t
      → RunsOn g (pc + length tk.code) sl2 (bare t))
      → ((sl2 : Slots) → Tested (kit g) q sl sl2 → N t → RunsOn g pf sl2 (bare t))
      → RunsOn g pc sl (bare t)

  -- ---- widths

  width_is : (nu : Givens) → Widths nu → (w : Option Num) → width_lowered g.size w ≡ true → width_of nu w ≡ Some (part_width g.size w)
  width_is nu widths None h = refl
  width_is nu widths (Some t) h = by (g.size t) refl h
    where
      by : (o : Option ℤ) → g.size t ≡ o → is_some (and_then o natural_of) ≡ true → width_of nu (Some t) ≡ Some (part_width g.size (Some t))
      by None e h = no h
      by (Some (pos n)) e h =
          ap (λ o. option_map (λ (m : ℕ). Some m) (and_then o natural_of)) (widths t (pos n) e) ∙ ap (λ o. Some (Some (width_or o))) (sym e)
      by (Some (negsuc n)) e h = no h

  widths_are : (nu : Givens) → Widths nu → (ws : List (Option Num)) → widths_lowered g.size ws ≡ true
      → widths_of nu ws ≡ Some (map (part_width g.size) ws)
  widths_are nu widths [] h = refl
  widths_are nu widths (w ∷ ws) h =
      let both = and_parts (width_lowered g.size w) (widths_lowered g.size ws) h in
      ap (λ o. and_then o (λ n. option_map (λ ns. n ∷ ns) (widths_of nu ws))) (width_is nu widths w both.0)
      ∙ ap (option_map (λ ns. part_width g.size w ∷ ns)) (widths_are nu widths ws both.1)

  -- ---- a word has the width of its type

  word_is : (bs : List Bool) (z : Sized-F Sized) → form_fits g.table (E.Bits bs) z ≡ true → word_width z ≡ length bs
  word_is bs (Z.Bits n) h = ap (λ z. width_or (Some z)) (sym ((Decides-int_eq (pos (length bs)) n).0 h))
  word_is bs z h = no h

  -- ---- what each part is

  abbrev part_at : List Bool → ℕ → ℕ → Value
  part_at bs m n = V.Bits (drop (m - n) (take m bs))

  part_many : (bs : List Bool) (m n : ℕ) → n ≤ m → m ≤ length bs → length (drop (m - n) (take m bs)) ≡ n
  part_many bs m n le most = omega (arith, length-drop (m - n) (take m bs), length-take-le m bs most, le)

  part_had : (bs : List Bool) (m n : ℕ) → n ≤ m → m ≤ length bs → has_sizes g.table (part_at bs m n) (S.Bits (pos n)) ≡ true
  part_had bs m n le most =
      let us : List Bool = drop (m - n) (take m bs) in
      fits_as_form g (V.Bits us) (E.Bits us) (S.Bits (pos n)) (V.rolls-Bits us)
      ∙ ap (form_fits g.table (E.Bits us)) (ap out-Sized (sym (S.rolls-Bits (pos n))) ∙ out-roll-Sized (Z.Bits (pos n)))
      ∙ (Decides-int_eq (pos (length us)) (pos n)).1 (ap pos (part_many bs m n le most))

  -- indexes are constants
  index_is : (m : ℕ) → index_of (out-Value (V.Integer (pos m))) ≡ Some m
  index_is m = ap index_of (out_as (V.Integer (pos m)) (E.Integer (pos m)) (V.rolls-Integer (pos m)))

  taken_so : (h : Held) (hv : Value) (t : Now Item) (bs : List Bool) → out-Value hv ≡ E.Bits bs → (m n : ℕ) → n ≤ m → m ≤ length bs → (sl : Slots)
      → sl (g.name h.place (g.number h.typ)) ≡ hv → (o : Option ValueType)
      → operate o (cut_take g.table (kit g) h m n).op (reads g.m g.lets g.hart (cut_take g.table (kit g) h m n).sources sl (bare t)) g.hart t.state
      ≡ Some (plain t.state (part_at bs m n))
  taken_so h hv t bs e m zero le most sl stands o = ap (λ us. Some (plain t.state (V.Bits us))) (sym (none_left bs m most))
  taken_so h hv t bs e m (suc n) le most sl stands o =
      let high : Value = V.Integer (pos (m - 1)) in
      let low : Value = V.Integer (pos (m - suc n)) in
      ap (λ w. option_map (plain t.state) (at_indices (index_of (out-Value high)) (index_of (out-Value low)) (P.slice (out-Value w)))) stands
      ∙ ap (λ y. option_map (plain t.state) (at_indices (index_of (out-Value high)) (index_of (out-Value low)) (P.slice y))) e
      ∙ ap (λ a. option_map (plain t.state) (at_indices a (index_of (out-Value low)) (P.slice (E.Bits bs)))) (index_is (m - 1))
      ∙ ap (λ b. option_map (plain t.state) (at_indices (Some (m - 1)) b (P.slice (E.Bits bs)))) (index_is (m - suc n))
      ∙ ap (option_map (plain t.state)) (sliced bs m n le most)

  none_cut : (rest : List Bool) (xs : List Item) (h : Held) (hv : Value) (t : Now Item) → cut (reading g) [] rest ≡ Some xs → Takes g h hv t [] xs
  none_cut [] xs h hv t e = subst (λ ys. Takes g h hv t [] ys) (some_same [] xs e) tt
  none_cut (b ∷ rest) xs h hv t e = none_is xs e

  typ_of : (h : Held) (m n : ℕ) → (cut_take g.table (kit g) h m n).typ ≡ S.Bits (pos n)
  typ_of h m zero = refl
  typ_of h m (suc n) = refl

  parts_taken : (h : Held) (hv : Value) (t : Now Item) (bs : List Bool) → out-Value hv ≡ E.Bits bs
      → ((n : ℕ) → n ≤ length bs → (g.tables.known (S.Bits (pos n)) ≡ true) × (fixed_typ g.table (bits_typ n) ≡ S.Bits (pos n)))
      → (ns : List ℕ) (m : ℕ) → m ≤ length bs → (xs : List Item) → cut (reading g) ns (take m bs) ≡ Some xs
      → Takes g h hv t (cut_takes g.table (kit g) h m ns) xs
  parts_taken h hv t bs e knows [] m most xs is = none_cut (take m bs) xs h hv t is
  parts_taken h hv t bs e knows (n ∷ ns) m most xs is =
      by (λ ys f. parts_taken h hv t bs e knows ns (m - n) (omega (arith, most)) ys f) (nat_le n m) refl (cut (reading g) ns (take (m - n) bs)) refl
      (sym opens ∙ is)
    where
      opens : cut (reading g) (n ∷ ns) (take m bs)
          ≡ (if nat_le n m then option_map (λ ys. item (fixed_typ g.table (bits_typ n)) (part_at bs m n) ∷ ys) (cut (reading g) ns (take (m - n) bs)) else None)
      opens =
          ap (λ k. if nat_le n k then option_map (λ ys. item (fixed_typ g.table (bits_typ n)) (V.Bits (drop (k - n) (take m bs))) ∷ ys)
          (cut (reading g) ns (take (k - n) (take m bs))) else None) (length-take-le m bs most)
          ∙ ap (λ us. if nat_le n m then option_map (λ ys. item (fixed_typ g.table (bits_typ n)) (part_at bs m n) ∷ ys) (cut (reading g) ns us) else None)
          (take-take (m - n) m bs (omega arith))

      by : ((ys : List Item) → cut (reading g) ns (take (m - n) bs) ≡ Some ys → Takes g h hv t (cut_takes g.table (kit g) h (m - n) ns) ys) → (b : Bool)
          → nat_le n m ≡ b → (o : Option (List Item)) → cut (reading g) ns (take (m - n) bs) ≡ o
          → (if b then option_map (λ ys. item (fixed_typ g.table (bits_typ n)) (part_at bs m n) ∷ ys) o else None) ≡ Some xs
          → Takes g h hv t (cut_take g.table (kit g) h m n ∷ cut_takes g.table (kit g) h (m - n) ns) xs
      by rest false c o f z = none_is xs z
      by rest true c None f z = none_is xs z
      by rest true c (Some ys) f z =
          let le : n ≤ m = within m n c in
          let know = knows n (omega (arith, le, most)) in
          let one : Item = item (fixed_typ g.table (bits_typ n)) (part_at bs m n) in
          subst (λ us. Takes g h hv t (cut_take g.table (kit g) h m n ∷ cut_takes g.table (kit g) h (m - n) ns) us) (some_same (one ∷ ys) xs z) (
            typ_of h m n ∙ sym know.1,
            λ sl stands o. taken_so h hv t bs e m n le most sl stands o,
            subst (λ s. Sits g (part_at bs m n) s) (sym know.1) (part_had bs m n le most, know.0),
            rest ys f,
          )

  takes_count : (ks : List Taking) (ys : List Item) (h : Held) (hv : Value) (t : Now Item) → Takes g h hv t ks ys → length ks ≡ length ys
  takes_count [] [] h hv t all = refl
  takes_count [] (y ∷ ys) h hv t all = absurd all
  takes_count (k ∷ ks) [] h hv t all = absurd all
  takes_count (k ∷ ks) (y ∷ ys) h hv t all = ap suc (takes_count ks ys h hv t all.3)

  -- ---- the head

  pub cut_runs : (nu : Givens) → Widths nu → (ws : List (Option Num)) (k q fail : ℕ) (h : Held) → widths_lowered g.size ws ≡ true
      → HeadAt nu (head_taken g.table (kit g) h (H.Cut ws) k q fail) q fail h (H.Cut ws) k
  cut_runs nu widths ws k q fail h lowered x pc pf sl t K Hx N held at_ hl th next failed = by (out-Value x.val) refl th
    where
      takes : List Taking
      takes = word_takes g.table (kit g) h ws

      by : (o : Value-F Value) → out-Value x.val ≡ o → Followed g.ending (as_run (so_many k (opened (reading g) nu (H.Cut ws) k x o)) t) K Hx N
          → RunsOn g pc sl (bare t)
      by (E.Bits bs) e z =
          let fits = sym (fits_as_form g x.val (E.Bits bs) x.typ (ap roll-Value (sym e) ∙ roll-out-Value x.val)) ∙ held.had.0 in
          let many : word_width (out-Sized h.typ) ≡ length bs =
          ap (λ s. word_width (out-Sized s)) held.same ∙ word_is bs (out-Sized x.typ) fits in
          let here_ : word_width (out-Sized x.typ) ≡ length bs = word_is bs (out-Sized x.typ) fits in
          let ws_ : List (Option ℕ) = map (part_width g.size) ws in
          let ns : List ℕ = cut_widths (length bs) ws_ in
          let z1 = subst (λ o. Followed g.ending (as_run (so_many k (parts_or_wrong (and_then o (cut_by (reading g) bs)))) t) K Hx N)
          (widths_are nu widths ws lowered) z in
          let whole : cut (reading g) ns bs ≡ cut (reading g) ns (take (length bs) bs) = ap (cut (reading g) ns)
          (sym (take_all (length bs) bs (omega arith))) in
          let so : takes ≡ cut_takes g.table (kit g) h (length bs) ns = ap (λ n. cut_takes g.table (kit g) h n (cut_widths n ws_)) many in
          found (cut (reading g) ns bs) refl whole so
          (λ n le. g.knows.of_bits x.typ n held.had.1 (subst (λ m. n ≤ m) (sym here_) le)) z1
        where
          found : (o : Option (List Item)) → cut (reading g) (cut_widths (length bs) (map (part_width g.size) ws)) bs ≡ o
              → cut (reading g) (cut_widths (length bs) (map (part_width g.size) ws)) bs
              ≡ cut (reading g) (cut_widths (length bs) (map (part_width g.size) ws)) (take (length bs) bs)
              → takes ≡ cut_takes g.table (kit g) h (length bs) (cut_widths (length bs) (map (part_width g.size) ws))
              → ((n : ℕ) → n ≤ length bs → (g.tables.known (S.Bits (pos n)) ≡ true) × (fixed_typ g.table (bits_typ n) ≡ S.Bits (pos n)))
              → Followed g.ending (as_run (so_many k (parts_or_wrong o)) t) K Hx N → RunsOn g pc sl (bare t)
          found None f whole so knows y = absurd y
          found (Some xs) f whole so knows y = counted (nat_eq (length xs) k) refl y
            where
              all : Takes g h x.val t takes xs
              all =
                  subst (λ ks. Takes g h x.val t ks xs) (sym so)
                  (parts_taken h x.val t bs e knows (cut_widths (length bs) (map (part_width g.size) ws)) (length bs) (omega arith) xs (sym whole ∙ f))

              counted : (b : Bool) → nat_eq (length xs) k ≡ b → Followed g.ending (as_run (if b then Parts xs else Wrong) t) K Hx N → RunsOn g pc sl (bare t)
              counted false c y = absurd y
              counted true c y =
                  let len : length takes ≡ k = takes_count takes xs h x.val t all ∙ eqb-true (length xs) k c in
                  takes_run g takes xs h x q pc sl t held all at_
                  (λ sl2 td hold settled.
                  next xs sl2 td hold (subst (λ n. Settled (q + n) (takes_held g.table (kit g) takes q)) len settled) (omega arith) y)
      by o e z = absurd z
