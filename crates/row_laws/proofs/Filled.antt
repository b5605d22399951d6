-- A vector of so many times any value.
use Rattle.std.proofs.Common.{◌≡◌, ℕ, zero, suc, ◌≤◌, ℤ, pos, negsuc, ◌≤ℤ◌, true, false, List, [], ◌∷◌, map, length, replicate, ap, sym, ◌∙◌}
use Rattle.std.proofs.Common.{refl, subst, arith, Some}
use Rattle.std.specs.List.{list_all}
use Rattle.std.proofs.lemmas.Bool.{and_parts, le-leb}
use Rattle.std.proofs.lemmas.Int.{ints}
use Rattle.std.proofs.lemmas.List.{length-replicate}
use Rattle.sail_base.specs.declared.place.Place.{Place}
use Rattle.sail_types.specs.Belongs.{Reading as Closed, assigned, belongs}
use Rattle.sail_types.specs.Limits.{is_length}
use Rattle.sail_types.specs.Numbers.{Assignment, Positive, number}
use Rattle.sail_types.specs.Rows.{member}
use Rattle.sail_types.specs.Shapes.{fits}
use Rattle.sail_types.specs.Sums.{constant, number_or_zero, zero_num}
use Rattle.sail_types.specs.declared.numbers.Index.{Index}
use Rattle.sail_types.specs.declared.numbers.Index.TheVariants as N
use Rattle.sail_types.specs.declared.numbers.Num.{Num}
use Rattle.sail_types.specs.declared.rows.Row.TheVariants as R
use Rattle.sail_types.specs.declared.shapes.Shape.TheVariants as S
use Rattle.sail_types.specs.declared.table.Types.{Types}
use Rattle.sail_types.specs.declared.values.Value.{Value, out-Value, roll-Value, roll-out-Value}
use Rattle.sail_types.specs.declared.values.Value.TheOpen as V
use Rattle.sail_types.specs.declared.values.Value.TheVariants as Val
use Rattle.builtins.specs.RowValues.{repeated, row, where_}
use Rattle.row_types.specs.Calls.{number_of}
use Rattle.row_types.specs.Formulas.{first, at_most}
use Rattle.row_types.specs.declared.kinds.Outcome.TheVariants as O
use Rattle.row_types.specs.declared.kinds.Product.TheVariants as P
use Rattle.row_types.specs.laws.Formulas.{at_least_from, number_variable, one_from}
use Rattle.row_types.specs.laws.Results.{opened_vector}
use Rattle.row_types.specs.laws.Shapes.{integer_value, only_member}
use Rattle.sail_core.specs.Run.{Now, needs, row_run}
use Rattle.value_indices.specs.declared.indices.Indices.{Indices}
use Rattle.value_indices.specs.declared.indices.Indices.TheVariants as I
use Rattle.value_indices.specs.declared.notes.Fact.{Fact}
use Rattle.value_indices.specs.declared.notes.Made.TheVariants as Makes
use Rattle.value_indices.specs.Steps.{bind, goals_under, owe, size_note}
use Rattle.value_laws.specs.Belonging.{Integers, Meant, standing, meant, closed, has, is_of, each_holds}
use Rattle.value_laws.specs.Known.{Point, Agree, given_in}
use Rattle.value_laws.proofs.Basics.{no, two}
use Rattle.value_laws.proofs.Knowing.{number_goes, opens_then, vector_known}
use Rattle.value_laws.proofs.Steps.{same, agree_on}
use Rattle.wide_types.specs.Widening.{widened}
use Rattle.call_notes.specs.Rows.{argument_index, number_in, numbers_under, outcome, owed_by, second_of, taken_call}
use Rattle.call_notes.specs.Taken.{each_suits, suits, takes}
use Rattle.call_notes.specs.declared.numbers.Numbers.{Numbers}
use Rattle.row_laws.specs.Laws.{HaveIndices, Ends, IsKnown, second_widens}
use Rattle.row_laws.proofs.Ends.{stays}
use Rattle.row_laws.proofs.Forms.{says, shape_is}
use Rattle.row_laws.proofs.Goals.{met_front, met_behind, goal_said, number_said, conditions_true, owed_said}
use Rattle.row_laws.proofs.Members.{member_of, int}
use Rattle.row_laws.proofs.Steady.{widened_same}
use Rattle.row_laws.proofs.Room.{Here, length_room, notes_pass, small_count}
use Rattle.row_laws.proofs.Taken.{owes_pass}

-- the second of two that are the same
abbrev second_or : Meant → List Meant → Meant
second_or m (a ∷ b ∷ more) = b
second_or m ms = m

second_same : (a c b d : Meant) → (a ∷ b ∷ []) ≡ (c ∷ d ∷ []) → b ≡ d
second_same a c b d e = ap (second_or b) e

all_belong : (types : Types) (c : Closed) (w : Value) (k : ℕ) → belongs types w c ≡ true → list_all (λ x. belongs types x c) (replicate k w) ≡ true
all_belong types c w zero h = refl
all_belong types c w (suc k) h = two (belongs types w c) (list_all (λ x. belongs types x c) (replicate k w)) h (all_belong types c w k h)

module _ (types : Types) (past : Positive) (own : List Closed) (place : Place) {n : ℕ} (f : Point n) (facts : List Fact) (i j : Indices) (v w : Value)
    (suit : suits types S.Int i ≡ true) (held : (g : Integers) → Agree f g → has types (standing past g) own i v ≡ true)
    (steady : (g : Integers) → Agree f g → meant types (standing past g) own j ≡ meant types (standing past f.integers) own j)
    (widens : is_of types (standing past f.integers) own (widened j) w ≡ true) (here : Here past n f facts (taken_call place R.VectorInit (i ∷ j ∷ []))) where
  abbrev three : List Index
  three = argument_index i ∷ argument_index j ∷ N.Number zero_num ∷ []

  abbrev ns : Numbers
  ns = numbers_under P.Nothing (argument_index i ∷ argument_index j ∷ N.Number zero_num ∷ []) zero_num

  abbrev walk : List Indices
  walk = i ∷ j ∷ []

  fits_integer : fits types v S.Int ≡ true
  fits_integer = shape_is types v S.Int ∙ (says types (standing past f.integers) own S.Int i v int suit (held f.integers (same f))).fitting

  integer : (z : ℤ) × (out-Value v ≡ V.Integer z)
  integer = integer_value types v fits_integer

  count_is : (g : Integers) → Agree f g → number (standing past g) (number_or_zero (Some (argument_index i))) ≡ integer.0
  count_is g a = (says types (standing past g) own S.Int i v int suit (held g a)).number_said ∙ ap number_of integer.1

  not_negative : pos 0 ≤ℤ integer.0
  unfolding bind owe
  not_negative =
      let g = f.integers in
      let a = same f in
      let c = at_most (constant (pos 0)) first in
      let said = goal_said past g facts place (owed_by P.Nothing ns (c ∷ []))
      (met_front past (given_in facts) g (goals_under facts place (owed_by P.Nothing ns (c ∷ [])))
      (outcome place P.Nothing three walk ns (O.Vector first) facts n).notes (here.met g a)) (here.force g a) in
      let nu : Assignment = assigned (standing past g) ns.indices in
      let low : pos 0 ≤ℤ number (standing past g) (number_or_zero (Some (argument_index i))) =
      at_least_from nu (pos 0) 0 (one_from nu c (conditions_true past g ns (c ∷ []) (owed_said past g ns P.Nothing (c ∷ []) said))) in
      subst (λ z. pos 0 ≤ℤ z) (count_is g a) low

  behind : Here past n f facts (outcome place P.Nothing three walk ns (O.Vector first))
  unfolding bind owe
  behind = record {
    force = here.force;
    met = λ g a. met_behind past (given_in facts) g (goals_under facts place (owed_by P.Nothing ns (at_most (constant (pos 0)) first ∷ [])))
        (outcome place P.Nothing three walk ns (O.Vector first) facts n).notes (here.met g a);
  }

  -- the type of the items
  abbrev item : Closed
  item = closed types (standing past f.integers) own (widened j)

  item_is : (g : Integers) → Agree f g → closed types (standing past g) own (second_of walk) ≡ item
  item_is g a = widened_same types past own g f.integers j (steady g a)

  first_is : (u : Num) → number_in ns first ≡ Some u → (g : Integers) → Agree f g → number (standing past g) u ≡ integer.0
  first_is u e g a = number_said past g ns first u e ∙ number_variable (assigned (standing past g) ns.indices) 0 ∙ count_is g a

  short : integer.0 ≤ℤ pos 4096
  short = (length_room types past own place (second_of walk) (number_in ns first) integer.0 first_is behind).1

  module _ (k : ℕ) (count : integer.0 ≡ pos k) where
    few : k ≤ 4096
    few = let l = short in let e = count in omega (arith, ints, l, e)

    long : is_length (length (replicate k w)) ≡ true
    long = ap is_length (length-replicate k w) ∙ le-leb k 4096 few

    given : row R.VectorInit (v ∷ w ∷ []) ≡ Some (Val.Vector (replicate k w))
    given =
        ap (λ o. repeated (o ∷ out-Value w ∷ [])) (integer.1 ∙ ap V.Integer count)
        ∙ ap (λ b. where_ b (Some (Val.Vector (replicate k (roll-Value (out-Value w)))))) (le-leb k 4096 few)
        ∙ ap (λ x. Some (Val.Vector (replicate k x))) (roll-out-Value w)

    known : IsKnown types past own n f facts (taken_call place R.VectorInit (i ∷ j ∷ [])) (Val.Vector (replicate k w))
    known =
        let made = Val.Vector (replicate k w) in
        opens_then types past own made (owes_pass place (owed_by P.Nothing ns (at_most (constant (pos 0)) first ∷ []))) (λ m g fs x l q.
        opens_then types past own made
        (number_goes types past own (number_in ns first) (pos k) (small_count k few) (λ u e h a. first_is u e h (agree_on l a) ∙ count))
        (λ m2 g2 fs2 u l2 q2. opens_then types past own made
        (notes_pass (λ fs. size_note fs place (Makes.ByIndices (I.Vector u (second_of walk)))))
        (λ m3 g3 fs3 y l3 q3. vector_known types past own u (second_of walk) item made (replicate k w) (opened_vector (replicate k w)) long
        (λ h a. q2 h (agree_on l3 a) ∙ ap pos (sym (length-replicate k w)))
        (λ h a. item_is h (agree_on l (agree_on l2 (agree_on l3 a))))
        (all_belong types item w k widens))))

    module _ {X : Type 0} (hart : ℕ) (now : Now X) where
      fills : Ends (IsKnown types past own n f facts (taken_call place R.VectorInit (i ∷ j ∷ []))) now (row_run R.VectorInit hart (v ∷ w ∷ []) now)
      fills =
          subst (λ o. Ends (IsKnown types past own n f facts (taken_call place R.VectorInit (i ∷ j ∷ []))) now (needs o now)) (sym given)
          (known, stays now)

  pub fill_ends : {X : Type 0} (hart : ℕ) (now : Now X)
      → Ends (IsKnown types past own n f facts (taken_call place R.VectorInit (i ∷ j ∷ []))) now (row_run R.VectorInit hart (v ∷ w ∷ []) now)
  fill_ends hart now = by_sign integer.0 refl
    where
      by_sign : (z : ℤ) → integer.0 ≡ z
          → Ends (IsKnown types past own n f facts (taken_call place R.VectorInit (i ∷ j ∷ []))) now (row_run R.VectorInit hart (v ∷ w ∷ []) now)
      by_sign (pos k) e = fills k e hart now
      by_sign (negsuc k) e = let l : pos 0 ≤ℤ negsuc k = subst (λ z. pos 0 ≤ℤ z) e not_negative in absurd (omega (arith, ints, l))

-- ---- arguments of any number

integer_first : (types : Types) (is : List Indices) → takes types R.VectorInit is ≡ true → each_suits types (S.Int ∷ S.Variable 0 ∷ []) is ≡ true
integer_first types is h =
    let m = member_of types R.VectorInit is h in
    subst (λ x. each_suits types x.params is ≡ true)
    (sym (only_member (member R.VectorInit (S.Int ∷ S.Variable 0 ∷ []) (S.Vector (S.Variable 0))) m.0 m.1)) m.2

module _ (types : Types) (past : Positive) (own : List Closed) (place : Place) {n : ℕ} (f : Point n) (facts : List Fact) where
  held_first : (i j : Indices) (v w : Value) → HaveIndices types past own f (i ∷ j ∷ []) (v ∷ w ∷ [])
      → (g : Integers) → Agree f g → has types (standing past g) own i v ≡ true
  held_first i j v w have g a =
      (and_parts (has types (standing past g) own i v) (each_holds (map (meant types (standing past g) own) (j ∷ [])) (w ∷ []))
      (ap (λ ms. each_holds ms (v ∷ w ∷ [])) (have.steady g a) ∙ have.held)).0

  steady_second : (i j : Indices) (vs : List Value) → HaveIndices types past own f (i ∷ j ∷ []) vs
      → (g : Integers) → Agree f g → meant types (standing past g) own j ≡ meant types (standing past f.integers) own j
  steady_second i j vs have g a =
      second_same (meant types (standing past g) own i) (meant types (standing past f.integers) own i) (meant types (standing past g) own j)
      (meant types (standing past f.integers) own j) (have.steady g a ∙ sym (have.steady f.integers (same f)))

  by_parts : {X : Type 0} (is : List Indices) (vs : List Value) → each_suits types (S.Int ∷ S.Variable 0 ∷ []) is ≡ true
      → HaveIndices types past own f is vs → second_widens types (standing past f.integers) own is vs ≡ true
      → Here past n f facts (taken_call place R.VectorInit is)
      → (hart : ℕ) (now : Now X)
      → Ends (IsKnown types past own n f facts (taken_call place R.VectorInit is)) now (row_run R.VectorInit hart vs now)
  by_parts (i ∷ j ∷ []) (v ∷ w ∷ []) h have widens here hart now =
      fill_ends types past own place f facts i j v w (and_parts (suits types S.Int i) (suits types (S.Variable 0) j) h).0
      (held_first i j v w have) (steady_second i j (v ∷ w ∷ []) have) widens here hart now
  by_parts (i ∷ j ∷ []) [] h have widens here hart now = no widens
  by_parts (i ∷ j ∷ []) (v ∷ []) h have widens here hart now = no widens
  by_parts (i ∷ j ∷ []) (v ∷ w ∷ u ∷ vs) h have widens here hart now =
      let g = f.integers in
      let mu = standing past g in
      let k = and_parts (has types mu own i v) (each_holds (map (meant types mu own) (j ∷ [])) (w ∷ u ∷ vs))
      (ap (λ ms. each_holds ms (v ∷ w ∷ u ∷ vs)) (have.steady g (same f)) ∙ have.held) in
      no (and_parts (has types mu own j w) false k.1).1
  by_parts is vs h have widens here hart now = no h

  pub filled_ends : {X : Type 0} (is : List Indices) (vs : List Value) → takes types R.VectorInit is ≡ true
      → HaveIndices types past own f is vs → second_widens types (standing past f.integers) own is vs ≡ true
      → Here past n f facts (taken_call place R.VectorInit is)
      → (hart : ℕ) (now : Now X)
      → Ends (IsKnown types past own n f facts (taken_call place R.VectorInit is)) now (row_run R.VectorInit hart vs now)
  filled_ends is vs h have widens here hart now = by_parts is vs (integer_first types is h) have widens here hart now
