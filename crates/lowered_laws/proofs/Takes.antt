-- Heads that take out items, one by one.
use Rattle.std.proofs.Common.{◌≡◌, ◌∙◌, ℕ, zero, suc, ◌+◌, ◌<◌, pos, Bool, true, false, List, [], ◌∷◌, ◌++◌, length, map, reverse, Option, Some}
use Rattle.std.proofs.Common.{refl, sym, ap, subst, arith, eqb-true, if◌then◌else◌}
use Rattle.std.specs.Prelude.{nat_eq, nat_lt, slice_get, option_map}
use Rattle.std.specs.Ordering.{int_eq}
use Rattle.std.proofs.lemmas.List.{length-map, length-reverse, reverse-append}
use Rattle.std.proofs.lemmas.Bool.{and_parts}
use Rattle.std.proofs.lemmas.Bool.Decides.{nat_tests}
use Rattle.sail_types.specs.declared.values.Value.{Value, Value-F, out-Value, roll-Value}
use Rattle.sail_types.specs.declared.values.Value.TheViews.{roll-out-Value}
use Rattle.sail_types.specs.declared.values.Value.TheOpen as E
use Rattle.sail_types.specs.declared.values.Value.TheVariants as V
use Rattle.size_values.specs.declared.sized.Sized.{Sized, Sized-F, out-Sized}
use Rattle.size_values.specs.declared.sized.Sized.TheOpen as Z
use Rattle.jib.specs.declared.types.ValueType.{ValueType}
use Rattle.jib.specs.declared.code.Operation.TheVariants as O
use Rattle.jib.specs.declared.code.Instruction.{Instruction}
use Rattle.jib.specs.declared.code.Instruction.TheVariants as I
use Rattle.jib.specs.Operations as P
use Rattle.jib.specs.Operations.{at_index, index_of}
use Rattle.jib.specs.Jib.{Slots, operate, plain, put, reads, slots_of}
use Rattle.sail_core.specs.declared.patterns.Head.TheVariants as H
use Rattle.sail_core.specs.Run.{Now}
use Rattle.sail_core.specs.Making.{one_item}
use Rattle.sail_core.specs.Patterns.{Parts, Wrong, as_run, items, opened, so_many}
use Rattle.checked_meaning.specs.Fits.{all_fit, form_fits, has_sizes}
use Rattle.checked_meaning.specs.Items.{Item, item_typ, part_typ}
use Rattle.lowered_pieces.specs.Places.{Temp, to}
use Rattle.lowered_laws.specs.Standing.{HasAt, Tested}
use Rattle.lowered_laws.proofs.Facts.{put_same, tested_here, tested_both, tested_less, tested_put, here_not}
use Rattle.lowered_laws.proofs.Steps.{go, moves, computed}
use Rattle.lowered_pieces.specs.Arms.{Held, Taking, takes_code, takes_held, item_take, vector_takes, head_taken}
use Rattle.lowered_laws.specs.Simulation.{bare, Followed, AtWork, kit, own_code, reading, RunsOn, Settled, Holding, Sits}
use Rattle.lowered_laws.proofs.Follows.{no}
use Rattle.lowered_laws.proofs.States.{Is}
use Rattle.lowered_laws.proofs.Had.{fits_as_form, in_types}
use Rattle.lowered_laws.proofs.Works.{none_is, out_as, some_same}
use Rattle.lowered_laws.proofs.Heads.{HeadBy, HeldIs, held_tested, held_more, settled_more}

-- ---- items from the end

get_last : {X : Type 0} {A : Type 0} (us : List A) (b : A) (i : ℕ) (v : A) → slice_get (us ++ b ∷ []) i ≡ Some v → (i ≡ length us → b ≡ v → X)
    → (i < length us → slice_get us i ≡ Some v → X) → X
get_last [] b zero v e f h = f refl (some_same b v e)
get_last [] b (suc i) v e f h = none_is v e
get_last (a ∷ us) b zero v e f h = h (omega arith) e
get_last (a ∷ us) b (suc i) v e f h = get_last us b i v e (λ s t. f (ap suc s) t) (λ lt g. h (omega (arith, lt)) g)

get_reverse : {A : Type 0} (vs : List A) (i : ℕ) (v : A) → slice_get (reverse vs) i ≡ Some v → (m : ℕ) → m + i + 1 ≡ length vs → slice_get vs m ≡ Some v
get_reverse [] i v e m c = none_is v e
get_reverse (u ∷ vs) i v e m c =
    get_last (reverse vs) u i v (subst (λ ws. slice_get ws i ≡ Some v) (reverse-append (u ∷ []) vs) e)
    (λ s t. first m (omega (arith, s, c, length-reverse vs)) t)
    (λ lt g. later m (omega (arith, lt, c, length-reverse vs)) (λ j same. get_reverse vs i v g j (omega (arith, same, c))))
  where
    first : (m : ℕ) → m ≡ 0 → u ≡ v → slice_get (u ∷ vs) m ≡ Some v
    first zero z t = ap Some t
    first (suc m) z t = cc

    later : (m : ℕ) → 0 < m → ((j : ℕ) → m ≡ j + 1 → slice_get vs j ≡ Some v) → slice_get (u ∷ vs) m ≡ Some v
    later zero lt f = absurd (nothing lt)
      where
        nothing : 0 < 0 → ⊥
        nothing lt = omega (arith, lt)
    later (suc j) lt f = f j (omega arith)

module _ (g : AtWork) where
  -- ---- parts, one by one

  -- what each is
  abbrev pub Takes : Held → Value → Now Item → List Taking → List Item → Type 0
  Takes h hv t [] [] = Unit {0}
  Takes h hv t (k ∷ ks) (y ∷ ys) = (k.typ ≡ y.typ)
      × ((sl : Slots) → sl (g.name h.place (g.number h.typ)) ≡ hv → (o : Option ValueType)
      → operate o k.op (reads g.m g.lets g.hart k.sources sl (bare t)) g.hart t.state ≡ Some (plain t.state y.val))
      × Sits g y.val y.typ × Takes h hv t ks ys
  Takes h hv t ks ys = ⊥

  pub takes_run : (ks : List Taking) (ys : List Item) (h : Held) (x : Item) (q pc : ℕ) (sl : Slots) (t : Now Item) → HeldIs g q sl h x
      → Takes h x.val t ks ys → HasAt (own_code g) pc (takes_code g.table (kit g) ks q)
      → ((sl2 : Slots) → Tested (kit g) q sl sl2 → Holding g sl2 (takes_held g.table (kit g) ks q) ys
      → Settled (q + length ks) (takes_held g.table (kit g) ks q) → RunsOn g (pc + length (takes_code g.table (kit g) ks q)) sl2 (bare t))
      → RunsOn g pc sl (bare t)
  takes_run [] [] h x q pc sl t held all at_ next =
      moves g.m g.lets g.hart g.here g.ending (pc + 0) pc sl (bare t) (omega arith) (next sl (tested_here (kit g) q sl) tt tt)
  takes_run [] (y ∷ ys) h x q pc sl t held all at_ next = absurd all
  takes_run (k ∷ ks) [] h x q pc sl t held all at_ next = absurd all
  takes_run (k ∷ ks) (y ∷ ys) h x q pc sl t held all at_ next =
      let u : ℕ = g.number k.typ in
      let i : Instruction = I.Apply (to (kit g) (Temp q) u) k.op k.sources in
      let is : Is g (Temp q) u = g.slots pc (g.name (Temp q) u) i at_.0 refl in
      let had : Sits g y.val k.typ = subst (λ s. Sits g y.val s) (sym all.0) all.2 in
      let sl1 : Slots = put sl (g.name (Temp q) u) y.val in
      let td : Tested (kit g) q sl sl1 = tested_put (kit g) (slots_of g.m g.here.function) g.names q q u sl y.val (omega arith) is in
      let c : List Instruction = takes_code g.table (kit g) ks (q + 1) in
      go g.m g.lets g.hart g.here g.ending pc sl sl1 (bare t) (bare t) i at_.0
      (computed g.m g.lets g.hart g.here g.ending (kit g) g.names (Temp q) u k.op k.sources sl (bare t) y.val is
      (all.1 sl held.stands (slice_get g.m.types u)) (in_types g y.val k.typ had))
      (takes_run ks ys h x (q + 1) (pc + 1) sl1 t (held_more g q (q + 1) sl1 h x (omega arith) (held_tested g q sl sl1 h x td held)) all.3 at_.1
      (λ sl2 td2 hold settled.
      moves g.m g.lets g.hart g.here g.ending (pc + length (i ∷ c)) (pc + 1 + length c) sl2 (bare t) (omega arith)
      (next sl2 (tested_both (kit g) q sl sl1 sl2 td (tested_less (kit g) q (q + 1) sl1 sl2 (omega arith) td2))
      (all.0, td2.others (Temp q) u (here_not q) ∙ put_same sl (g.name (Temp q) u) y.val, all.2, hold) (
        below_all q (length ks),
        settled_more (q + 1 + length ks) (q + suc (length ks)) (takes_held g.table (kit g) ks (q + 1)) (omega arith) settled,
      ))))
    where
      below_all : (q k : ℕ) → nat_lt q (q + suc k) ≡ true
      below_all q k = grind (arith, nat_tests)

  -- ---- vectors

  pub fits_one : (vs : List Value) (s : Sized) (m : ℕ) (v : Value) → all_fit (map (has_sizes g.table) vs) s ≡ true → slice_get vs m ≡ Some v
      → has_sizes g.table v s ≡ true
  fits_one [] s m v h e = none_is v e
  fits_one (w ∷ vs) s zero v h e =
      subst (λ u. has_sizes g.table u s ≡ true) (some_same w v e) (and_parts (has_sizes g.table w s) (all_fit (map (has_sizes g.table) vs) s) h).0
  fits_one (w ∷ vs) s (suc m) v h e = fits_one vs s m v (and_parts (has_sizes g.table w s) (all_fit (map (has_sizes g.table) vs) s) h).1 e

  pub vector_had : (vs : List Value) (z : Sized-F Sized) → form_fits g.table (E.Vector (map (has_sizes g.table) vs)) z ≡ true → (m : ℕ) (v : Value)
      → slice_get vs m ≡ Some v → has_sizes g.table v (item_typ z) ≡ true
  vector_had vs (Z.Vector n s) h m v e =
      fits_one vs s m v (and_parts (int_eq (pos (length (map (has_sizes g.table) vs))) n) (all_fit (map (has_sizes g.table) vs) s) h).1 e
  vector_had vs z h m v e = no h

  -- an item is worked out
  pub item_worked : (hv : Value) (o : Value-F Value) (m : ℕ) (v : Value) → out-Value hv ≡ o → P.item o m ≡ Some v
      → at_index (index_of (out-Value (V.Integer (pos m)))) (P.item (out-Value hv)) ≡ Some v
  item_worked hv o m v e f =
      ap (λ n. at_index (index_of n) (P.item (out-Value hv))) (out_as (V.Integer (pos m)) (E.Integer (pos m)) (V.rolls-Integer (pos m)))
      ∙ ap (λ y. P.item y m) e ∙ f

  item_taken : (h : Held) (hv : Value) (t : Now Item) (o : Value-F Value) (m : ℕ) (v : Value) → out-Value hv ≡ o → P.item o m ≡ Some v → (sl : Slots)
      → sl (g.name h.place (g.number h.typ)) ≡ hv → (ty : Option ValueType)
      → operate ty O.Item (reads g.m g.lets g.hart (item_take g.table (kit g) h m).sources sl (bare t)) g.hart t.state ≡ Some (plain t.state v)
  item_taken h hv t o m v e f sl stands ty =
      ap (λ w. operate ty O.Item (w ∷ V.Integer (pos m) ∷ []) g.hart t.state) stands ∙ ap (option_map (plain t.state)) (item_worked hv o m v e f)

  vector_taken : (h : Held) (x : Item) (t : Now Item) (vs : List Value) → h.typ ≡ x.typ → out-Value x.val ≡ E.Vector vs
      → Sits g x.val x.typ → (ws : List Value) (k : ℕ) → length ws ≡ k
      → ((i : ℕ) (v : Value) → slice_get ws i ≡ Some v → (m : ℕ) → m + i + 1 ≡ k → slice_get vs m ≡ Some v)
      → Takes h x.val t (vector_takes g.table (kit g) h k) (items (reading g) x ws)
  vector_taken h x t vs same e had [] zero len at = tt
  vector_taken h x t vs same e had [] (suc k) len at = cc
  vector_taken h x t vs same e had (w ∷ ws) zero len at = cc
  vector_taken h x t vs same e had (w ∷ ws) (suc k) len at =
      let there : slice_get vs k ≡ Some w = at 0 w refl k (omega arith) in
      let fits = sym (fits_as_form g x.val (E.Vector vs) x.typ (ap roll-Value (sym e) ∙ roll-out-Value x.val)) ∙ had.0 in (
        ap (part_typ g.table one_item) same,
        item_taken h x.val t (E.Vector vs) k w e there,
        (vector_had vs (out-Sized x.typ) fits k w there, g.knows.of_items x.typ had.1),
        vector_taken h x t vs same e had ws k (omega (arith, len)) (λ i v f m c. at (suc i) v f m (omega (arith, c))),
      )

  takes_many : (h : Held) (k : ℕ) → length (vector_takes g.table (kit g) h k) ≡ k
  takes_many h zero = refl
  takes_many h (suc k) = ap suc (takes_many h k)

  pub vector_runs : (k q fail : ℕ) (h : Held) → HeadBy g (head_taken g.table (kit g) h H.Vector k q fail) q fail h H.Vector k
  vector_runs k q fail h x pc pf sl t nu K Hx N held at_ hl th next failed = by (out-Value x.val) refl th
    where
      by : (o : Value-F Value) → out-Value x.val ≡ o → Followed g.ending (as_run (so_many k (opened (reading g) nu H.Vector k x o)) t) K Hx N
          → RunsOn g pc sl (bare t)
      by (E.Vector vs) e z = counted (nat_eq (length ys) k) refl z
        where
          ys : List Item
          ys = items (reading g) x (reverse vs)

          counted : (b : Bool) → nat_eq (length ys) k ≡ b → Followed g.ending (as_run (if b then Parts ys else Wrong) t) K Hx N → RunsOn g pc sl (bare t)
          counted false c y = absurd y
          counted true c y =
              let len : length (reverse vs) ≡ k = sym (length-map (reverse vs) ((reading g).part one_item x)) ∙ eqb-true (length ys) k c in
              takes_run (vector_takes g.table (kit g) h k) ys h x q pc sl t held
              (vector_taken h x t vs held.same e held.had (reverse vs) k len
              (λ i v f m w. get_reverse vs i v f m (omega (arith, w, len, length-reverse vs)))) at_
              (λ sl2 td hold settled.
              next ys sl2 td hold (subst (λ n. Settled (q + n) (takes_held g.table (kit g) (vector_takes g.table (kit g) h k) q)) (takes_many h k) settled)
              (omega arith) y)
      by o e z = absurd z
