-- Concatenations in patterns: the parts of the value have the widths that the walk gives them.
use Rattle.std.proofs.Common.{◌≡◌, ℕ, zero, suc, ◌+◌, ◌-◌, ◌≤◌, ◌^◌, min, nat_eq, pos, ◌+ℤ◌, ◌-ℤ◌, int_le, Bool, true, false, ◌&&◌, List, [], ◌∷◌}
use Rattle.std.proofs.Common.{map, length, take, drop, Option, Some, None, option_map, if◌then◌else◌, refl, sym, ap, ◌∙◌, subst, arith, length-take}
use Rattle.std.proofs.Common.{length-drop}
use Rattle.std.specs.Ordering.{int_eq}
use Rattle.std.proofs.lemmas.Bool.{and_parts, leb-true, le-leb}
use Rattle.std.proofs.lemmas.Bool.Decides.{Decides-eqb, Decides-int_eq}
use Rattle.std.proofs.lemmas.Int.{ints}
use Rattle.std.proofs.lemmas.List.{length-map}
use Rattle.sail_base.specs.declared.place.Place.{Place}
use Rattle.sail_types.specs.Belongs.{Reading as Closed}
use Rattle.sail_types.specs.Limits.{largest, is_small, is_width}
use Rattle.sail_types.specs.Numbers.{Assignment, Positive, number}
use Rattle.sail_types.specs.Sums.{and_then, constant, difference, sum, zero_num}
use Rattle.sail_types.proofs.SumNumbers.{some_same, then_parts, sum_number_is, difference_number}
use Rattle.sail_types.proofs.Substituted.{number_constant}
use Rattle.sail_types.specs.declared.numbers.Con.TheVariants as C
use Rattle.sail_types.specs.declared.numbers.Num.{Num}
use Rattle.sail_types.specs.declared.values.Value.{Value, Value-F, out-Value}
use Rattle.sail_types.specs.declared.values.Value.TheOpen as V
use Rattle.sail_types.specs.declared.values.Value.TheVariants as VV
use Rattle.sail_types.specs.declared.values.Value.TheViews.{out-roll-Value}
use Rattle.size_values.specs.declared.constants.Constant.TheVariants as K
use Rattle.size_values.specs.declared.sized.Sized.{Sized}
use Rattle.size_laws.proofs.Numbers.{known_number}
use Rattle.sail_core.specs.Run.{Local, ◌then◌}
use Rattle.sail_core.specs.Numbers.{Givens, known}
use Rattle.sail_core.specs.Making.{Making, World}
use Rattle.sail_core.specs.Values.{bits_typ, natural_of}
use Rattle.sail_core.specs.declared.patterns.Head.TheVariants as H
use Rattle.sail_core.specs.Patterns.{parts_or_wrong, widths_of, known_sum, solved, cut, cut_by, opened, so_many, as_run, Matcher, parts_match as run_parts}
use Rattle.value_indices.specs.declared.indices.Indices.TheOpen as W
use Rattle.value_indices.specs.declared.indices.Indices.TheVariants as I
use Rattle.value_indices.specs.declared.notes.Fact.{Fact}
use Rattle.value_indices.specs.declared.notes.Made.TheVariants as Makes
use Rattle.value_indices.specs.Opening.{number_or_fresh}
use Rattle.value_indices.specs.Steps.{Walk, bind, each, give, note, owe_under, size_note}
use Rattle.checked_meaning.specs.Items.{Item, item, fixed_typ}
use Rattle.checked_meaning.specs.Checked.{Cases}
use Rattle.pattern_leaves.specs.declared.names.Bound.{Bound}
use Rattle.pattern_leaves.specs.Settings.{Around}
use Rattle.pattern_leaves.specs.Widths.{sum_of, sum_from, first_sum, all_known, one_rest, cut_condition, cut_conditions, bits_part, sized_bits}
use Rattle.pattern_leaves.specs.Widths.{cut_width, cut_owed}
use Rattle.pattern_notes.specs.declared.matching.Matching.{Matching}
use Rattle.pattern_notes.specs.Patterns.{Look, cut_parts, cut_met}
use Rattle.value_laws.specs.Belonging.{Integers, standing, form_holds}
use Rattle.value_laws.specs.Known.{Point, Agree, Later, Goes}
use Rattle.value_laws.proofs.Basics.{no, two}
use Rattle.value_laws.proofs.Steps.{same, agree_on, gives, goes_as, goes_on, goes_then}
use Rattle.value_laws.proofs.Numbers.{at_most_is, truth_is}
use Rattle.value_laws.proofs.Values.{meant_is}
use Rattle.value_laws.proofs.Meanings.{bits_same}
use Rattle.value_laws.proofs.Knowing.{form_meant, number_goes}
use Rattle.pattern_laws.specs.Beside.{AllMet, Stands, Ends, OfSizes, Behind, Beside}
use Rattle.fitting_laws.specs.Fitting.{Said}
use Rattle.pattern_laws.specs.Typing.{Typing, Bears}
use Rattle.pattern_laws.specs.Standing.{each_stands, number_owns, widths_stand}
use Rattle.pattern_laws.proofs.Conditions.{equal_numbers, goals_said, met_behind, met_front}
use Rattle.pattern_laws.proofs.Steps.{walks, knowing, after_beside, owed_quiet, met_after}
use Rattle.pattern_laws.proofs.OwnNumbers.{own_known}
use Rattle.pattern_laws.proofs.Literals.{pos_same}
use Rattle.pattern_laws.proofs.Values.{bits_had, wide_as}
use Rattle.pattern_laws.proofs.Points.{Kept, Is, EachIs, EachSuits, all_bear, names_on, note_goes}
use Rattle.pattern_laws.proofs.Parts.{reads, Grounds, grounds_on, Names, AllWell, all_stand, parts_beside, seen_parts}
use Rattle.pattern_laws.proofs.Heads.{as_many_stand}

-- ---- the widths of a run

abbrev rests : List (Option ℕ) → ℕ
rests [] = 0
rests (None ∷ ns) = suc (rests ns)
rests (Some n ∷ ns) = rests ns

abbrev all : List ℕ → ℕ
all [] = 0
all (n ∷ ns) = n + all ns

abbrev allowed : Bool → ℕ
allowed true = 1
allowed false = 0

abbrev EachKnown : Givens → List (Option Num) → List (Option ℕ) → Type 0
EachKnown nu [] [] = Unit {0}
EachKnown nu (None ∷ ws) (None ∷ ns) = EachKnown nu ws ns
EachKnown nu (Some t ∷ ws) (Some n ∷ ns) = (known nu t ≡ Some (pos n)) × EachKnown nu ws ns
EachKnown nu ws ns = ⊥

known_long : (nu : Givens) (ws : List (Option Num)) (ns : List (Option ℕ)) → EachKnown nu ws ns → length ns ≡ length ws
known_long nu [] [] h = refl
known_long nu [] (n ∷ ns) h = absurd h
known_long nu (None ∷ ws) [] h = absurd h
known_long nu (None ∷ ws) (None ∷ ns) h = ap suc (known_long nu ws ns h)
known_long nu (None ∷ ws) (Some n ∷ ns) h = absurd h
known_long nu (Some t ∷ ws) [] h = absurd h
known_long nu (Some t ∷ ws) (None ∷ ns) h = absurd h
known_long nu (Some t ∷ ws) (Some n ∷ ns) h = ap suc (known_long nu ws ns h.1)

none_left : (rest : ℕ) (ns : List (Option ℕ)) → rests ns ≤ 0 → all (map (solved rest) ns) ≡ known_sum ns
none_left rest [] h = refl
none_left rest (None ∷ ns) h = let l : suc (rests ns) ≤ 0 = h in absurd (omega (arith, l))
none_left rest (Some n ∷ ns) h = ap (λ m. n + m) (none_left rest ns h)

one_left : (rest : ℕ) (ns : List (Option ℕ)) → rests ns ≡ 1 → all (map (solved rest) ns) ≡ known_sum ns + rest
one_left rest [] h = absurd (cc)
one_left rest (None ∷ ns) h =
    let l : suc (rests ns) ≡ 1 = h in
    let e : all (map (solved rest) ns) ≡ known_sum ns = none_left rest ns (omega (arith, l)) in omega (arith, e)
one_left rest (Some n ∷ ns) h = let e : all (map (solved rest) ns) ≡ known_sum ns + rest = one_left rest ns h in omega (arith, e)

-- all of the word is used up, and one part at most has the rest
abbrev Fits : ℕ → List (Option ℕ) → Type 0
Fits width ns = (known_sum ns ≤ width) × (rests ns ≡ 0 → known_sum ns ≡ width) × (rests ns ≤ 1)

used_up : (width : ℕ) (ns : List (Option ℕ)) → Fits width ns → all (map (solved (width - known_sum ns)) ns) ≡ width
used_up width ns fits = by (rests ns) refl
  where
    by : (k : ℕ) → rests ns ≡ k → all (map (solved (width - known_sum ns)) ns) ≡ width
    by zero e = none_left (width - known_sum ns) ns (omega (arith, e)) ∙ fits.1 e
    by (suc zero) e =
        let l : known_sum ns ≤ width = fits.0 in
        let s : all (map (solved (width - known_sum ns)) ns) ≡ known_sum ns + (width - known_sum ns) = one_left (width - known_sum ns) ns e in
        omega (arith, l, s)
    by (suc (suc k)) e = let l : rests ns ≤ 1 = fits.2 in absurd (omega (arith, l, e))

pub small_width : (n : ℕ) → n ≤ 128 → is_small (pos n) ≡ true
unfolding largest
small_width n l = le-leb n (2 ^ 126) (omega (arith, l))

module _ (around : Around) (past : Positive) (own : List Closed) {fit : OfSizes} (y : Typing around.types past own fit) (q : Ends fit) (cases : Cases)
    (w : World Item) where
  abbrev Found : Behind (List Bound) (List (Local Item))
  Found = Names around past own y q cases w

  abbrev Good : {n : ℕ} → Point n → Type 0
  Good f = Grounds around past own y q cases w f

  abbrev z : Making Item
  z = reads around past own y q cases w

  abbrev there : Integers → Assignment
  there g = standing past g

  abbrev typ : ℕ → Sized
  typ n = fixed_typ around.types (bits_typ n)

  -- bits of a width, and what they mean
  abbrev bits_kept : ℕ → Kept around.types past own y
  bits_kept n = (form_meant around.types past own (W.Bits (constant (pos n))), typ n)

  abbrev zeros : Integers
  zeros i = pos 0

  bits_hold : (n : ℕ) (b : List Bool) → length b ≡ n → n ≤ 128 → (bits_kept n).0.holds (VV.Bits b) ≡ true
  bits_hold n b e l =
      ap (form_holds around.types (there zeros) own (W.Bits (constant (pos n)))) (ap out-Value (sym (VV.rolls-Bits b)) ∙ out-roll-Value (V.Bits b))
      ∙ two (int_eq (pos (length b)) (number (there zeros) (constant (pos n)))) (is_width (length b))
      ((Decides-int_eq (pos (length b)) (number (there zeros) (constant (pos n)))).1 (ap pos e ∙ sym (number_constant (there zeros) (pos n))))
      (subst (λ m. is_width m ≡ true) (sym e) (le-leb n 128 l))

  bits_mean : (n : ℕ) (u : Num) (g : Integers) → fit g (Makes.ByIndices (I.Bits u)) → number (there g) u ≡ pos n
      → Is around.types past own y (bits_kept n) g (I.Bits u)
  bits_mean n u g size h = (
    meant_is around.types (there g) own (I.Bits u) (W.Bits u) (I.rolls-Bits u)
        ∙ bits_same around.types past own g zeros u (constant (pos n)) (h ∙ sym (number_constant (there zeros) (pos n))),
    y.kept.cut g u n size h,
  )

  -- ---- the walk's parts

  abbrev Gives : {n : ℕ} → Point n → Option Num → ℕ → Type 0
  Gives f o k = (k ≤ 128) × ((u : Num) → o ≡ Some u → (g : Integers) → Agree f g → number (there g) u ≡ pos k)

  -- what is in force before a step of the walk is in force behind it
  stands_behind : {n : ℕ} {f : Point n} {facts : List Fact} {A : Type 0} {walk : Walk A} {Holds : Integers → A → Type 0}
      (r : Goes past n f facts walk Holds) → Stands q past f facts → Stands q past r.goes.point (walk facts n).facts
  stands_behind r stands = record {
    there = λ g c. r.goes.true_there g c (stands.there g (agree_on r.goes.later c));
    so = λ g c. subst (q.so g) (sym r.goes.given) (stands.so g (agree_on r.goes.later c));
  }

  sized_goes : {n : ℕ} {f : Point n} {facts : List Fact} (place : Place) (u : Num) (k : ℕ)
      → ((g : Integers) → Agree f g → fit g (Makes.ByIndices (I.Bits u))) → ((g : Integers) → Agree f g → number (there g) u ≡ pos k)
      → Goes past n f facts (sized_bits place u) (λ g i. Is around.types past own y (bits_kept k) g i)
  sized_goes place u k sizes h =
      goes_then (note_goes (λ here. size_note here place (Makes.ByIndices (I.Bits u)))) (λ m2 g2 fs2 t l2 e2.
      gives (I.Bits u) (λ i c. bits_mean k u i (sizes i (agree_on l2 c)) (h i (agree_on l2 c))))

  part_goes : {n : ℕ} {f : Point n} {facts : List Fact} (place : Place) (o : Option Num) (k : ℕ) → AllMet q past (bits_part place o facts n).notes
      → Stands q past f facts → Gives f o k → Goes past n f facts (bits_part place o) (λ g i. Is around.types past own y (bits_kept k) g i)
  unfolding bind note
  part_goes {n} {f} {facts} place o k met stands h =
      let wide = number_or_fresh o in
      let first : Goes past n f facts wide (λ g t. number (there g) t ≡ pos k) =
      number_goes around.types past own o (pos k) (small_width k h.0) h.1 in
      let noted = met_behind q past (wide facts n).notes _ met in
      let now : Stands q past first.goes.point (wide facts n).facts = stands_behind first stands in
      goes_on (sized_bits place) first
      (sized_goes place (wide facts n).value k (λ g c. noted.0 g (now.there g c) (now.so g c)) first.goes.holds)

  -- what a part's width is said to be
  abbrev said : Option Num → Option Num → Option Num
  said rest None = rest
  said rest (Some t) = Some t

  abbrev EachGives : {n : ℕ} → Point n → Option Num → List (Option Num) → List ℕ → Type 0
  EachGives f rest [] [] = Unit {0}
  EachGives f rest (o ∷ os) (k ∷ ks) = Gives f (said rest o) k × EachGives f rest os ks
  EachGives f rest os ks = ⊥

  gives_on : {n m : ℕ} {f : Point n} {g : Point m} (rest : Option Num) (os : List (Option Num)) (ks : List ℕ) → Later f g → EachGives f rest os ks
      → EachGives g rest os ks
  gives_on rest [] [] l h = tt
  gives_on rest [] (k ∷ ks) l h = absurd h
  gives_on rest (o ∷ os) [] l h = absurd h
  gives_on rest (o ∷ os) (k ∷ ks) l h = ((h.0.0, λ u e g a. h.0.1 u e g (agree_on l a)), gives_on rest os ks l h.1)

  width_goes : {n : ℕ} {f : Point n} {facts : List Fact} (place : Place) (rest : Option Num) (o : Option Num) (k : ℕ)
      → AllMet q past (cut_width place rest o facts n).notes → Stands q past f facts → Gives f (said rest o) k
      → Goes past n f facts (cut_width place rest o) (λ g i. Is around.types past own y (bits_kept k) g i)
  width_goes place rest None k met stands h = part_goes place rest k met stands h
  width_goes place rest (Some t) k met stands h = part_goes place (Some t) k met stands h

  widths_go : (place : Place) (rest : Option Num) (os : List (Option Num)) (ks : List ℕ) {n : ℕ} {f : Point n} {facts : List Fact}
      → AllMet q past (each (cut_width place rest) os facts n).notes → Stands q past f facts → EachGives f rest os ks
      → Goes past n f facts (each (cut_width place rest) os) (λ g is. EachIs around.types past own y (map bits_kept ks) g is)
  unfolding bind
  widths_go place rest [] [] met stands h = gives [] (λ g a. tt)
  widths_go place rest [] (k ∷ ks) met stands h = absurd h
  widths_go place rest (o ∷ os) [] met stands h = absurd h
  widths_go place rest (o ∷ os) (k ∷ ks) {n} {f} {facts} met stands h =
      let one = cut_width place rest o in
      let others = each (cut_width place rest) os in
      let here = met_front q past (one facts n).notes _ met in
      let behind = met_front q past (others (one facts n).facts (one facts n).next).notes _ (met_behind q past (one facts n).notes _ met) in
      let i = (one facts n).value in
      let first : Goes past n f facts one (λ g j. Is around.types past own y (bits_kept k) g j) = width_goes place rest o k here stands h.0 in
      goes_on (λ j. bind others (λ is. give (j ∷ is))) first
      (goes_then (widths_go place rest os ks behind (stands_behind first stands) (gives_on rest os ks first.goes.later h.1)) (λ m2 g2 fs2 is l2 e2.
      gives (i ∷ is) (λ j c. (first.goes.holds j (agree_on l2 c), e2 j c))))

  -- ---- widths that are written are known: their sizes are noted

  number_quiet : {n : ℕ} {f : Point n} {facts : List Fact} (o : Option Num) → Goes past n f facts (number_or_fresh o) (λ g t. Unit {0})
  unfolding number_or_fresh
  number_quiet (Some u) = gives u (λ g a. tt)
  number_quiet None =
      goes_as (number_goes around.types past own None (pos 0) (small_width 0 (omega arith)) (λ u e. absurd (cc))) (λ g t e. tt)

  part_quiet : {n : ℕ} {f : Point n} {facts : List Fact} (place : Place) (o : Option Num) → Goes past n f facts (bits_part place o) (λ g i. Unit {0})
  part_quiet place o =
      goes_then (number_quiet o) (λ m g fs u l e.
      goes_then (note_goes (λ here. size_note here place (Makes.ByIndices (I.Bits u)))) (λ m2 g2 fs2 t l2 e2. gives (I.Bits u) (λ i c. tt)))

  -- the size of a number that is said, where it is noted
  part_sized : {n : ℕ} {f : Point n} {facts : List Fact} (place : Place) (t : Num) → AllMet q past (bits_part place (Some t) facts n).notes
      → Stands q past f facts → fit f.integers (Makes.ByIndices (I.Bits t))
  unfolding number_or_fresh give bind note
  part_sized {f = f} place t met stands = met.0 f.integers (stands.there f.integers (same f)) (stands.so f.integers (same f))

  abbrev Widths : List (Option Num) → Type 0
  Widths ws = (ns : List (Option ℕ)) × (widths_of w.numbers ws ≡ Some ns) × EachKnown w.numbers ws ns

  width_found : {n : ℕ} {f : Point n} {facts : List Fact} (place : Place) (t : Num) → Good f → number_owns around.numbers t ≡ true
      → AllMet q past (bits_part place (Some t) facts n).notes → Stands q past f facts → (k : ℕ) × (known w.numbers t ≡ Some (pos k))
  width_found {n} {f} {facts} place t s h met stands =
      let k = y.kept.width f.integers t (part_sized {n = n} {f = f} {facts = facts} place t met stands) in
      (k.0, own_known past around.numbers w.numbers f.integers (s.given f.integers (same f)) t h ∙ k.1)

  widths_found : (place : Place) (rest : Option Num) (ws : List (Option Num)) → widths_stand around.numbers ws ≡ true → {n : ℕ} {f : Point n}
      {facts : List Fact} → Good f → AllMet q past (each (cut_width place rest) ws facts n).notes → Stands q past f facts → Widths ws
  unfolding bind
  widths_found place rest [] h s met stands = ([], refl, tt)
  widths_found place rest (None ∷ ws) h {n} {f} {facts} s met stands =
      let one = bits_part place rest in
      let others = each (cut_width place rest) ws in
      let quiet : Goes past n f facts one (λ g i. Unit {0}) = part_quiet place rest in
      let behind = met_front q past (others (one facts n).facts (one facts n).next).notes _ (met_behind q past (one facts n).notes _ met) in
      let more = widths_found place rest ws h (grounds_on around past own y q cases w quiet.goes.later s) behind (stands_behind quiet stands) in
      (None ∷ more.0, ap (λ o. and_then (Some None) (λ m. option_map (λ ns. m ∷ ns) o)) more.1, more.2)
  widths_found place rest (Some t ∷ ws) h {n} {f} {facts} s met stands =
      let both = and_parts (number_owns around.numbers t) (widths_stand around.numbers ws) h in
      let one = bits_part place (Some t) in
      let others = each (cut_width place rest) ws in
      let quiet : Goes past n f facts one (λ g i. Unit {0}) = part_quiet place (Some t) in
      let behind = met_front q past (others (one facts n).facts (one facts n).next).notes _ (met_behind q past (one facts n).notes _ met) in
      let first = width_found {n = n} {f = f} {facts = facts} place t s both.0 (met_front q past (one facts n).notes _ met) stands in
      let more = widths_found place rest ws both.1 (grounds_on around past own y q cases w quiet.goes.later s) behind (stands_behind quiet stands) in (
        Some first.0 ∷ more.0,
        (λ j. and_then (option_map Some (and_then (first.1 j) natural_of)) (λ m. option_map (λ ns. m ∷ ns) (more.1 j))),
        (first.1, more.2),
      )

  cut_found : {n : ℕ} {f : Point n} {facts : List Fact} (place : Place) (how : Matching) (looks : List Look) (ws : List (Option Num)) (t : Num)
      → widths_stand around.numbers ws ≡ true → Good f → AllMet q past (cut_met place looks around how ws t facts n).notes → Stands q past f facts
      → Widths ws
  unfolding bind
  cut_found {n} {f} {facts} place how looks ws t h s met stands =
      let rest = and_then (first_sum ws) (difference t) in
      let parts = (met_after q past n facts (cut_parts place looks around how ws rest) (cut_owed place ws t) met).0 in
      widths_found place rest ws h s (met_front q past (each (cut_width place rest) ws facts n).notes _ parts) stands

  -- ---- the run's parts

  -- parts of these widths
  abbrev EachBits : List ℕ → List Item → Type 0
  EachBits [] [] = Unit {0}
  EachBits (n ∷ ns) (x ∷ xs) = ((b : List Bool) × (x ≡ item (typ n) (VV.Bits b)) × (length b ≡ n)) × EachBits ns xs
  EachBits ns xs = ⊥

  cut_gives : (ns : List ℕ) (bs : List Bool) → all ns ≡ length bs → (xs : List Item) × (cut z ns bs ≡ Some xs) × EachBits ns xs
  cut_gives [] [] e = ([], refl, tt)
  cut_gives [] (b ∷ bs) e = absurd (cc)
  cut_gives (n ∷ ns) bs e =
      let l : n + all ns ≡ length bs = e in
      let front : List Bool = drop (length bs - n) bs in
      let back : List Bool = take (length bs - n) bs in
      let short : min (length bs - n) (length bs) ≡ length bs - n = omega (arith, l) in
      let long : length back ≡ length bs - n = length-take (length bs - n) bs ∙ short in
      let more = cut_gives ns back (omega (arith, l, long)) in
      let wide : length front ≡ length bs - (length bs - n) = length-drop (length bs - n) bs in
      let x = item (typ n) (VV.Bits front) in (
        x ∷ more.0,
        (λ j. if le-leb n (length bs) (omega (arith, l)) j then option_map (λ xs. x ∷ xs) (more.1 j) else None),
        ((front, refl, omega (arith, l, wide)), more.2),
      )

  bits_suit : (ns : List ℕ) (xs : List Item) → all ns ≤ 128 → EachBits ns xs → EachSuits around.types past own y (map bits_kept ns) xs
  bits_suit [] [] l h = tt
  bits_suit [] (x ∷ xs) l h = absurd h
  bits_suit (n ∷ ns) [] l h = absurd h
  bits_suit (n ∷ ns) (x ∷ xs) l h =
      let le : n + all ns ≤ 128 = l in (
        (subst (λ (i : Item). (bits_kept n).0.holds i.val ≡ true) (sym h.0.1) (bits_hold n h.0.0 h.0.2 (omega (arith, le))), ap (λ (i : Item). i.typ) h.0.1),
        bits_suit ns xs (omega (arith, le)) h.1,
      )

  bits_long : (ns : List ℕ) (xs : List Item) → EachBits ns xs → length xs ≡ length ns
  bits_long [] [] h = refl
  bits_long [] (x ∷ xs) h = absurd h
  bits_long (n ∷ ns) [] h = absurd h
  bits_long (n ∷ ns) (x ∷ xs) h = ap suc (bits_long ns xs h.1)

  -- ---- sums of widths

  module _ {n : ℕ} (f : Point n) (s : Good f) where
    -- a width that the run knows is the number that it knows
    width_is : (t : Num) (k : ℕ) → number_owns around.numbers t ≡ true → known w.numbers t ≡ Some (pos k) → (g : Integers) → Agree f g
        → number (there g) t ≡ pos k
    width_is t k o e g a =
        (known_number (λ i. K.Number (g i)) (there g) (λ i z c. some_same (g i) z c) t (pos k)
        (sym (own_known past around.numbers w.numbers g (s.given g a) t o) ∙ e)).0

    sums_from : (total : Option Num) (ws : List (Option Num)) (ns : List (Option ℕ)) → widths_stand around.numbers ws ≡ true
        → EachKnown w.numbers ws ns → (u : Num) → sum_from total ws ≡ Some u → (g : Integers) → Agree f g → (k : ℕ)
        → ((v : Num) → total ≡ Some v → number (there g) v ≡ pos k) → number (there g) u ≡ pos (k + known_sum ns)
    sums_from total [] [] o h u e g a k t = t u e ∙ ap pos (omega arith)
    sums_from total [] (m ∷ ns) o h u e g a k t = absurd h
    sums_from total (None ∷ ws) [] o h u e g a k t = absurd h
    sums_from total (None ∷ ws) (None ∷ ns) o h u e g a k t = sums_from total ws ns o h u e g a k t
    sums_from total (None ∷ ws) (Some m ∷ ns) o h u e g a k t = absurd h
    sums_from total (Some v ∷ ws) [] o h u e g a k t = absurd h
    sums_from total (Some v ∷ ws) (None ∷ ns) o h u e g a k t = absurd h
    sums_from total (Some v ∷ ws) (Some m ∷ ns) o h u e g a k t =
        let both = and_parts (number_owns around.numbers v) (widths_stand around.numbers ws) o in
        sums_from (sum_of total v) ws ns both.1 h.1 u e g a (k + m) (λ c d.
        let first = then_parts total (λ x. sum x v) c d in
        sum_number_is (there g) first.0 v c first.2 ∙ (λ j. t first.0 first.1 j +ℤ width_is v m both.0 h.0 g a j))
        ∙ ap pos (omega arith)

    first_sums : (ws : List (Option Num)) (ns : List (Option ℕ)) → widths_stand around.numbers ws ≡ true → EachKnown w.numbers ws ns → (u : Num)
        → first_sum ws ≡ Some u → (g : Integers) → Agree f g → number (there g) u ≡ pos (known_sum ns)
    first_sums [] [] o h u e g a = ap (number (there g)) (sym (some_same zero_num u e)) ∙ number_constant (there g) (pos 0)
    first_sums [] (m ∷ ns) o h u e g a = absurd h
    first_sums (None ∷ ws) [] o h u e g a = absurd h
    first_sums (None ∷ ws) (None ∷ ns) o h u e g a = first_sums ws ns o h u e g a
    first_sums (None ∷ ws) (Some m ∷ ns) o h u e g a = absurd h
    first_sums (Some v ∷ ws) [] o h u e g a = absurd h
    first_sums (Some v ∷ ws) (None ∷ ns) o h u e g a = absurd h
    first_sums (Some v ∷ ws) (Some m ∷ ns) o h u e g a =
        let both = and_parts (number_owns around.numbers v) (widths_stand around.numbers ws) o in
        sums_from (Some v) ws ns both.1 h.1 u e g a m
        (λ c d. ap (number (there g)) (sym (some_same v c d)) ∙ width_is v m both.0 h.0 g a)

    -- what each part of the walk is said to be
    each_said : (rest : Option Num) (ws : List (Option Num)) (ns : List (Option ℕ)) (left : ℕ) → widths_stand around.numbers ws ≡ true
        → EachKnown w.numbers ws ns → all (map (solved left) ns) ≤ 128
        → ((u : Num) → rest ≡ Some u → (g : Integers) → Agree f g → number (there g) u ≡ pos left) → EachGives f rest ws (map (solved left) ns)
    each_said rest [] [] left o h l t = tt
    each_said rest [] (m ∷ ns) left o h l t = absurd h
    each_said rest (None ∷ ws) [] left o h l t = absurd h
    each_said rest (None ∷ ws) (None ∷ ns) left o h l t =
        let le : left + all (map (solved left) ns) ≤ 128 = l in ((omega (arith, le), t), each_said rest ws ns left o h (omega (arith, le)) t)
    each_said rest (None ∷ ws) (Some m ∷ ns) left o h l t = absurd h
    each_said rest (Some v ∷ ws) [] left o h l t = absurd h
    each_said rest (Some v ∷ ws) (None ∷ ns) left o h l t = absurd h
    each_said rest (Some v ∷ ws) (Some m ∷ ns) left o h l t =
        let le : m + all (map (solved left) ns) ≤ 128 = l in
        let both = and_parts (number_owns around.numbers v) (widths_stand around.numbers ws) o in (
          (omega (arith, le), λ u e g a. ap (number (there g)) (sym (some_same v u e)) ∙ width_is v m both.0 h.0 g a),
          each_said rest ws ns left both.1 h.1 (omega (arith, le)) t,
        )

    known_all : (ws : List (Option Num)) (ns : List (Option ℕ)) → EachKnown w.numbers ws ns → rests ns ≡ 0 → all_known ws ≡ true
    known_all [] [] h e = refl
    known_all [] (m ∷ ns) h e = absurd h
    known_all (None ∷ ws) [] h e = absurd h
    known_all (None ∷ ws) (None ∷ ns) h e = absurd (cc)
    known_all (None ∷ ws) (Some m ∷ ns) h e = absurd h
    known_all (Some v ∷ ws) [] h e = absurd h
    known_all (Some v ∷ ws) (None ∷ ns) h e = absurd h
    known_all (Some v ∷ ws) (Some m ∷ ns) h e = known_all ws ns h.1 e

    -- what is owed tells that the parts fit
    fits_by : (t : Num) (total : Option Num) (b : Bool) (width sum_is : ℕ) → number (there f.integers) t ≡ pos width
        → ((u : Num) → total ≡ Some u → number (there f.integers) u ≡ pos sum_is) → Said (there f.integers) (cut_condition t total b)
        → (sum_is ≤ width) × (b ≡ true → sum_is ≡ width)
    fits_by t None true width sum_is e h d = absurd d
    fits_by t None false width sum_is e h d = absurd d
    fits_by t (Some u) true width sum_is e h d =
        let l : sum_is ≡ width = pos_same (sym (h u refl) ∙ equal_numbers (there f.integers) u t d.0 ∙ e) in (omega (arith, l), λ b. l)
    fits_by t (Some u) false width sum_is e h d =
        (at_most_pos sum_is width ((λ j. int_le (sym (h u refl) j) (sym e j)) ∙ sym (at_most_is (there f.integers) u t) ∙ d.0), λ b. no b)
      where
        at_most_pos : (a b : ℕ) → int_le (pos a) (pos b) ≡ true → a ≤ b
        at_most_pos a b h = leb-true a b h

    few_rests : (may : Bool) (ws : List (Option Num)) (ns : List (Option ℕ)) → EachKnown w.numbers ws ns → one_rest may ws ≡ true
        → rests ns ≤ allowed may
    few_rests may [] [] h e = omega arith
    few_rests may [] (m ∷ ns) h e = absurd h
    few_rests may (None ∷ ws) [] h e = absurd h
    few_rests true (None ∷ ws) (None ∷ ns) h e = let l : rests ns ≤ 0 = few_rests false ws ns h e in omega (arith, l)
    few_rests false (None ∷ ws) (None ∷ ns) h e = no e
    few_rests may (None ∷ ws) (Some m ∷ ns) h e = absurd h
    few_rests may (Some v ∷ ws) [] h e = absurd h
    few_rests may (Some v ∷ ws) (None ∷ ns) h e = absurd h
    few_rests may (Some v ∷ ws) (Some m ∷ ns) h e = few_rests may ws ns h.1 e

    -- more than one rest owes what is false
    conditions_by : (t : Num) (total : Option Num) (c b : Bool) → Said (there f.integers) (if c then cut_condition t total b else Some (C.Truth false) ∷ [])
        → (c ≡ true) × Said (there f.integers) (cut_condition t total b)
    conditions_by t total true b d = (refl, d)
    conditions_by t total false b d = no (sym (truth_is (there f.integers) false) ∙ d.0)

  -- ---- a word and its parts

  cut_fits : {n : ℕ} {f : Point n} {facts : List Fact} (s : Good f) (place : Place) (how : Matching) (looks : List Look) (ws : List (Option Num))
      (ns : List (Option ℕ)) → widths_stand around.numbers ws ≡ true → EachKnown w.numbers ws ns → (t : Num) (width : ℕ)
      → number (there f.integers) t ≡ pos width → AllMet q past (cut_met place looks around how ws t facts n).notes → Stands q past f facts
      → Fits width ns
  unfolding owe_under
  cut_fits {n} {f} {facts} s place how looks ws ns o h t width e met stands =
      let rest = and_then (first_sum ws) (difference t) in
      let owed = (met_after q past n facts (cut_parts place looks around how ws rest) (cut_owed place ws t) met).1 in
      let told = conditions_by f s t (first_sum ws) (one_rest true ws) (all_known ws)
      (goals_said q past facts place (cut_conditions t (first_sum ws) ws) owed f.integers (stands.there f.integers (same f))) in
      let fit = fits_by f s t (first_sum ws) (all_known ws) width (known_sum ns) e (λ u k. first_sums f s ws ns o h u k f.integers (same f)) told.1 in
      (fit.0, (λ none. fit.1 (known_all f s ws ns h none)), few_rests f s true ws ns h told.0)

  rest_is : {n : ℕ} {f : Point n} (s : Good f) (ws : List (Option Num)) (ns : List (Option ℕ)) → widths_stand around.numbers ws ≡ true
      → EachKnown w.numbers ws ns → (t : Num) (width : ℕ) → ((g : Integers) → Agree f g → number (there g) t ≡ pos width) → known_sum ns ≤ width
      → (u : Num) → and_then (first_sum ws) (difference t) ≡ Some u → (g : Integers) → Agree f g → number (there g) u ≡ pos (width - known_sum ns)
  rest_is {f = f} s ws ns o h t width e l u k g a =
      let p = then_parts (first_sum ws) (difference t) u k in
      difference_number (there g) t p.0 u p.2 ∙ (λ j. e g a j -ℤ first_sums f s ws ns o h p.0 p.1 g a j) ∙ less width (known_sum ns) l
    where
      less : (a b : ℕ) → b ≤ a → pos a -ℤ pos b ≡ pos (a - b)
      less a b l = omega (arith, ints, l)

  -- the parts, whose sizes are noted
  parts_go : {n : ℕ} {f : Point n} {facts : List Fact} (place : Place) (how : Matching) (looks : List Look) (rest : Option Num)
      (os : List (Option Num)) (ks : List ℕ) → EachGives f rest os ks → AllMet q past (cut_parts place looks around how os rest facts n).notes
      → Stands q past f facts → Goes past n f facts (each (cut_width place rest) os) (λ g is. EachIs around.types past own y (map bits_kept ks) g is)
  unfolding bind
  parts_go {n} {f} {facts} place how looks rest os ks h met stands =
      widths_go place rest os ks (met_front q past (each (cut_width place rest) os facts n).notes _ met) stands h

  pub cut_beside : {n : ℕ} {f : Point n} {facts : List Fact} (place : Place) (how : Matching) (looks : List Look) (ms : List (Matcher Item))
      (ss : List Bool) → AllWell around past own y q cases w looks ms ss → (ws : List (Option Num)) (t : Num) (x : Item)
      → Bears around.types past own y f (I.Bits t) x → Good f
      → ((nat_eq (length ws) (length ss) && widths_stand around.numbers ws) && each_stands ss) ≡ true
      → (v : Value-F Value) → out-Value x.val ≡ v
      → Beside q past n f facts (cut_met place looks around how ws t)
      (as_run (so_many (length ms) (opened z w.numbers (H.Cut ws) (length ms) x v)) then run_parts ms) Found
  cut_beside {n} {f} {facts} place how looks ms ss fine ws t x b s d (V.Bits bs) e =
      let one = and_parts (nat_eq (length ws) (length ss) && widths_stand around.numbers ws) (each_stands ss) d in
      let both = and_parts (nat_eq (length ws) (length ss)) (widths_stand around.numbers ws) one.0 in
      let held : (g : Integers) → Agree f g → form_holds around.types (there g) own (W.Bits t) (V.Bits bs) ≡ true =
      λ g a. ap (form_holds around.types (there g) own (W.Bits t)) (sym e) ∙ bits_had around.types past own g t x.val (b.has_it g a) in
      let wide : (g : Integers) → Agree f g → number (there g) t ≡ pos (length bs) = λ g a. wide_as around.types past own g t bs (held g a) in
      let few : length bs ≤ 128 =
      leb-true (length bs) 128 (and_parts (int_eq (pos (length bs)) (number (there f.integers) t)) (is_width (length bs)) (held f.integers (same f))).1 in
      knowing (cut_found place how looks ws t both.1 s) (λ found.
      let ns = found.0 in
      knowing (cut_fits s place how looks ws ns both.1 found.2 t (length bs) (wide f.integers (same f))) (λ fits.
      let left = length bs - known_sum ns in
      let widths = map (solved left) ns in
      let up : all widths ≡ length bs = used_up (length bs) ns fits in
      let parts = cut_gives widths bs up in
      let enough : all widths ≤ 128 = omega (arith, up, few) in
      let many : length widths ≡ length ss =
      length-map ns (solved left) ∙ known_long w.numbers ws ns found.2 ∙ (Decides-eqb (length ws) (length ss)).0 both.0 in
      let rest = and_then (first_sum ws) (difference t) in
      subst (λ o. Beside q past n f facts (cut_met place looks around how ws t)
      (as_run (so_many (length ms) (parts_or_wrong o)) then run_parts ms) Found)
      (sym (ap (λ o. and_then o (cut_by z bs)) found.1 ∙ parts.1))
      (seen_parts around past own y q cases w ms parts.0
      (bits_long widths parts.0 parts.2 ∙ many ∙ as_many_stand around past own y q cases w looks ms ss fine)
      (after_beside (cut_owed place ws t)
      (knowing (parts_go place how looks rest ws widths
      (each_said f s rest ws ns left both.1 found.2 enough (rest_is s ws ns both.1 found.2 t (length bs) wide fits.0))) (λ go. walks go
      (λ m g fs is l is_so. parts_beside around past own y q cases w place how looks ms ss fine is parts.0
      (all_bear around.types past own y is (map bits_kept widths) parts.0 (bits_suit widths parts.0 enough parts.2) is_so)
      (grounds_on around past own y q cases w l s) (all_stand around past own y q cases w ss one.1))))
      (λ m k p g bs ls l h. names_on around.types past own y around.numbers bs ls l h)
      (λ m g fs l stands. owed_quiet facts place _ stands)))))
  cut_beside {f = f} place how looks ms ss fine ws t x b s d v e =
      no (ap (form_holds around.types (there f.integers) own (W.Bits t)) (sym e)
      ∙ bits_had around.types past own f.integers t x.val (b.has_it f.integers (same f)))
