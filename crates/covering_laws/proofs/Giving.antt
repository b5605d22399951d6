-- The numbers that a value gives are noted, whatever else is said at its node.
use Rattle.std.proofs.Common.{◌≡◌, ◌∙◌, ap, sym, refl, subst, ℕ, nat_eq, ℤ, Bool, true, false, not, ◌||◌, inl, inr, List, [], ◌∷◌, map}
use Rattle.std.specs.Prelude.{pos, length, ◌&&◌, Option, Some, None, if◌then◌else◌}
use Rattle.std.specs.List.{list_all, list_any}
use Rattle.std.specs.Ordering.{int_eq}
use Rattle.std.proofs.lemmas.Bool.{and_parts}
use Rattle.std.proofs.lemmas.Bool.Decides.{Decides-eqb, Decides-int_eq}
use Rattle.sail_types.specs.Belongs.{Reading as Closed, belongs}
use Rattle.sail_types.specs.Limits.{is_length, is_small, is_width}
use Rattle.sail_types.specs.Numbers.{Assignment, Positive, number}
use Rattle.sail_types.specs.declared.numbers.Num.{Num}
use Rattle.sail_types.specs.declared.table.Types.{Types}
use Rattle.sail_types.specs.declared.values.Value.{Value, Value-F, out-Value}
use Rattle.sail_types.specs.declared.values.Value.TheOpen as V
use Rattle.value_indices.specs.declared.indices.Indices.{Indices, out-Indices, roll-Indices}
use Rattle.value_indices.specs.declared.indices.Indices.TheFolds.{fold-roll-Indices, ind-Indices, map-Indices}
use Rattle.value_indices.specs.declared.indices.Indices.TheOpen as W
use Rattle.value_indices.specs.declared.indices.Indices.TheOpen.{Indices-F}
use Rattle.value_indices.specs.declared.indices.Indices.TheViews.{roll-out-Indices}
use Rattle.value_indices.specs.declared.indices.Reading.{Reading, fold-Reading}
use Rattle.value_indices.specs.declared.notes.Fact.{Fact}
use Rattle.call_arguments.specs.Placing.{variable_in}
use Rattle.call_fits.proofs.Variables.{number_is, variable_found}
use Rattle.value_laws.specs.Belonging.{Integers, Meant, closed, each_holds, form_holds, has, indices_hold, meant, standing}
use Rattle.value_laws.proofs.Basics.{no}
use Rattle.value_laws.proofs.Values.{has_form, meanings}
use Rattle.split_laws.specs.Counted.{IsIn}
use Rattle.soundness_steps.specs.Noted.{variables_given}
use Rattle.checked_meaning.specs.Checked.{Noted}
use Rattle.sized_trees.specs.Combinations.{is_given}
use Rattle.sized_meanings.specs.Noting.{Noting, each_noted, form_noted, noted_by, noted_by_each, noted_for, reading_noted, value_noted}
use Rattle.noting_laws.proofs.Noted.{all_noted}
use Rattle.covering_laws.specs.Tested.{Agreeing, agrees_there, agrees_with, each_agrees, indices_agree, integer_agrees, is_it, is_needed, is_unneeded}
use Rattle.covering_laws.specs.Tested.{is_variable, length_agrees, parts_agree, type_agrees, width_agrees}

-- the number of a variable stands alone
variable_same : (o : Option ℕ) (w : ℕ) → is_variable o w ≡ true → o ≡ Some w
variable_same None w h = no h
variable_same (Some v) w h = ap (λ (n : ℕ). Some n) ((Decides-eqb v w).0 h)

module _ (types : Types) (past : Positive) (f : Integers) (own : List Closed) (w : ℕ) (needed : ℕ → Bool) (is_there : needed w ≡ true) where
  abbrev mu : Assignment
  mu = standing past f

  abbrev IsRight : Noted → Type 0
  IsRight noted = noted w ≡ Some (f w)

  -- other indices of a value that has some
  abbrev Keeps : Indices → Type 0
  Keeps j = (i : Indices) (v : Value) (noted : Noted) → agrees_with needed j i ≡ true → has types mu own i v ≡ true → IsRight noted
      → IsRight (noted_by j v noted)

  abbrev SuchI : Type 0
  SuchI = (j : Indices) × Keeps j

  abbrev SuchR : Type 0
  SuchR = Reading × Unit {0}

  abbrev bare : List SuchI → List Indices
  bare ys = map (λ (p : SuchI). p.0) ys

  abbrev indices_of : Indices-F SuchI SuchR → Indices-F Indices Reading
  indices_of y = map-Indices SuchI SuchR Indices Reading (λ p. p.0) (λ p. p.0) y

  -- ---- a number

  written : (u : ℕ) (z : ℤ) (b : Bool) (noted : Noted) → nat_eq u w ≡ b → (u ≡ w → z ≡ f w) → IsRight noted → (if b then Some z else noted w) ≡ Some (f w)
  written u z true noted e h r = ap (λ (x : ℤ). Some x) (h ((Decides-eqb u w).0 e))
  written u z false noted e h r = r

  or_needed : (b c : Bool) → b ≡ true → (not b || c) ≡ true → c ≡ true
  or_needed true c e h = h
  or_needed false c e h = no e

  not_needed : (b : Bool) → b ≡ true → not b ≡ true → false ≡ true
  not_needed true e h = h
  not_needed false e h = e

  variable_keeps : (o : Option ℕ) (t : Num) (z : ℤ) (noted : Noted) → is_it needed o t ≡ true → (variable_in t ≡ Some w → z ≡ f w) → IsRight noted
      → IsRight (noted_for o z noted)
  variable_keeps None t z noted a h r = r
  variable_keeps (Some u) t z noted a h r =
      written u z (nat_eq u w) noted refl
      (λ e. h (variable_same (variable_in t) w
      (or_needed (needed w) (is_variable (variable_in t) w) is_there
      (subst (λ (n : ℕ). (not (needed n) || is_variable (variable_in t) n) ≡ true) e a)))) r

  -- where the variable isn't needed
  unneeded_keeps : (o : Option ℕ) (z : ℤ) (noted : Noted) → is_unneeded needed o ≡ true → IsRight noted → IsRight (noted_for o z noted)
  unneeded_keeps None z noted a r = r
  unneeded_keeps (Some u) z noted a r =
      written u z (nat_eq u w) noted refl
      (λ e. no (not_needed (needed w) is_there (subst (λ (n : ℕ). not (needed n) ≡ true) e a))) r

  -- what the value has there is the variable's number
  number_had : (t : Num) (z : ℤ) (within : Bool) → (int_eq z (number mu t) && within) ≡ true → variable_in t ≡ Some w → z ≡ f w
  number_had t z within h e =
      (Decides-int_eq z (number mu t)).0 (and_parts (int_eq z (number mu t)) within h).0 ∙ number_is mu t w (variable_found t w e)

  -- the form of the value
  at_form : (y : Indices-F Meant Closed) (v : Value) (u : Value-F Value) → out-Value v ≡ u → form_holds types mu own y (out-Value v) ≡ true
      → form_holds types mu own y u ≡ true
  at_form y v u q h = subst (λ (d : Value-F Value). form_holds types mu own y d ≡ true) q h

  abbrev meant_there : Indices-F Indices Reading → Indices-F Meant Closed
  meant_there x = meanings types mu own x

  abbrev Had : Indices-F Indices Reading → Value → Type 0
  Had x v = indices_hold types mu own (meant_there x) v ≡ true

  -- ---- an integer, a width, and a length

  integer_there : (o : Option ℕ) (z : ℤ) (x : Indices-F Indices Reading) (v : Value) (noted : Noted) → out-Value v ≡ V.Integer z
      → integer_agrees needed o x ≡ true → Had x v → IsRight noted → IsRight (noted_for o z noted)
  integer_there o z (W.Integer s) v noted q a h r =
      variable_keeps o s z noted a (number_had s z (is_small z) (at_form (meant_there (W.Integer s)) v (V.Integer z) q h)) r
  integer_there o z (W.Variable i) v noted q a h r = unneeded_keeps o z noted a r
  integer_there o z W.Never v noted q a h r = no (at_form (meant_there W.Never) v (V.Integer z) q h)
  integer_there o z W.Unit v noted q a h r = no (at_form (meant_there W.Unit) v (V.Integer z) q h)
  integer_there o z (W.Truth c) v noted q a h r = no (at_form (meant_there (W.Truth c)) v (V.Integer z) q h)
  integer_there o z W.Bit v noted q a h r = no (at_form (meant_there W.Bit) v (V.Integer z) q h)
  integer_there o z (W.Bits s) v noted q a h r = no (at_form (meant_there (W.Bits s)) v (V.Integer z) q h)
  integer_there o z W.String v noted q a h r = no (at_form (meant_there W.String) v (V.Integer z) q h)
  integer_there o z (W.List c) v noted q a h r = no (at_form (meant_there (W.List c)) v (V.Integer z) q h)
  integer_there o z (W.Vector s c) v noted q a h r = no (at_form (meant_there (W.Vector s c)) v (V.Integer z) q h)
  integer_there o z (W.Tuple is) v noted q a h r = no (at_form (meant_there (W.Tuple is)) v (V.Integer z) q h)
  integer_there o z (W.Named u is rs) v noted q a h r = no (at_form (meant_there (W.Named u is rs)) v (V.Integer z) q h)

  width_there : (o : Option ℕ) (bits : List Bool) (x : Indices-F Indices Reading) (v : Value) (noted : Noted) → out-Value v ≡ V.Bits bits
      → width_agrees needed o x ≡ true → Had x v → IsRight noted → IsRight (noted_for o (pos (length bits)) noted)
  width_there o bits (W.Bits s) v noted q a h r =
      variable_keeps o s (pos (length bits)) noted a
      (number_had s (pos (length bits)) (is_width (length bits)) (at_form (meant_there (W.Bits s)) v (V.Bits bits) q h)) r
  width_there o bits (W.Variable i) v noted q a h r = unneeded_keeps o (pos (length bits)) noted a r
  width_there o bits W.Never v noted q a h r = no (at_form (meant_there W.Never) v (V.Bits bits) q h)
  width_there o bits W.Unit v noted q a h r = no (at_form (meant_there W.Unit) v (V.Bits bits) q h)
  width_there o bits (W.Truth c) v noted q a h r = no (at_form (meant_there (W.Truth c)) v (V.Bits bits) q h)
  width_there o bits W.Bit v noted q a h r = no (at_form (meant_there W.Bit) v (V.Bits bits) q h)
  width_there o bits (W.Integer s) v noted q a h r = no (at_form (meant_there (W.Integer s)) v (V.Bits bits) q h)
  width_there o bits W.String v noted q a h r = no (at_form (meant_there W.String) v (V.Bits bits) q h)
  width_there o bits (W.List c) v noted q a h r = no (at_form (meant_there (W.List c)) v (V.Bits bits) q h)
  width_there o bits (W.Vector s c) v noted q a h r = no (at_form (meant_there (W.Vector s c)) v (V.Bits bits) q h)
  width_there o bits (W.Tuple is) v noted q a h r = no (at_form (meant_there (W.Tuple is)) v (V.Bits bits) q h)
  width_there o bits (W.Named u is rs) v noted q a h r = no (at_form (meant_there (W.Named u is rs)) v (V.Bits bits) q h)

  length_there : (o : Option ℕ) (vs : List Value) (x : Indices-F Indices Reading) (v : Value) (noted : Noted) → out-Value v ≡ V.Vector vs
      → length_agrees needed o x ≡ true → Had x v → IsRight noted → IsRight (noted_for o (pos (length vs)) noted)
  length_there o vs (W.Vector s c) v noted q a h r =
      variable_keeps o s (pos (length vs)) noted a
      (number_had s (pos (length vs)) (is_length (length vs))
      (and_parts (int_eq (pos (length vs)) (number mu s) && is_length (length vs)) (list_all (λ i. belongs types i (closed types mu own c)) vs)
      (at_form (meant_there (W.Vector s c)) v (V.Vector vs) q h)).0) r
  length_there o vs (W.Variable i) v noted q a h r = unneeded_keeps o (pos (length vs)) noted a r
  length_there o vs W.Never v noted q a h r = no (at_form (meant_there W.Never) v (V.Vector vs) q h)
  length_there o vs W.Unit v noted q a h r = no (at_form (meant_there W.Unit) v (V.Vector vs) q h)
  length_there o vs (W.Truth c) v noted q a h r = no (at_form (meant_there (W.Truth c)) v (V.Vector vs) q h)
  length_there o vs W.Bit v noted q a h r = no (at_form (meant_there W.Bit) v (V.Vector vs) q h)
  length_there o vs (W.Bits s) v noted q a h r = no (at_form (meant_there (W.Bits s)) v (V.Vector vs) q h)
  length_there o vs (W.Integer s) v noted q a h r = no (at_form (meant_there (W.Integer s)) v (V.Vector vs) q h)
  length_there o vs W.String v noted q a h r = no (at_form (meant_there W.String) v (V.Vector vs) q h)
  length_there o vs (W.List c) v noted q a h r = no (at_form (meant_there (W.List c)) v (V.Vector vs) q h)
  length_there o vs (W.Tuple is) v noted q a h r = no (at_form (meant_there (W.Tuple is)) v (V.Vector vs) q h)
  length_there o vs (W.Named u is rs) v noted q a h r = no (at_form (meant_there (W.Named u is rs)) v (V.Vector vs) q h)

  integer_keeps : (t : Num) (x : Indices-F Indices Reading) (v : Value) (noted : Noted) → integer_agrees needed (variable_in t) x ≡ true → Had x v
      → IsRight noted → (u : Value-F Value) → out-Value v ≡ u → IsRight (value_noted (W.Integer t) u noted)
  integer_keeps t x v noted a h r (V.Integer z) q = integer_there (variable_in t) z x v noted q a h r
  integer_keeps t x v noted a h r u q = r

  bits_keep : (t : Num) (x : Indices-F Indices Reading) (v : Value) (noted : Noted) → width_agrees needed (variable_in t) x ≡ true → Had x v
      → IsRight noted → (u : Value-F Value) → out-Value v ≡ u → IsRight (value_noted (W.Bits t) u noted)
  bits_keep t x v noted a h r (V.Bits bits) q = width_there (variable_in t) bits x v noted q a h r
  bits_keep t x v noted a h r u q = r

  vector_keeps : (t : Num) (item : Noting) (x : Indices-F Indices Reading) (v : Value) (noted : Noted) → length_agrees needed (variable_in t) x ≡ true
      → Had x v → IsRight noted → (u : Value-F Value) → out-Value v ≡ u → IsRight (value_noted (W.Vector t item) u noted)
  vector_keeps t item x v noted a h r (V.Vector vs) q = length_there (variable_in t) vs x v noted q a h r
  vector_keeps t item x v noted a h r u q = r

  -- ---- a tuple

  parts_keep : (ys : List SuchI) (is : List Indices) (vs : List Value) (noted : Noted) → each_agrees (map (agrees_with needed) (bare ys)) is ≡ true
      → each_holds (map (meant types mu own) is) vs ≡ true → IsRight noted → IsRight (each_noted (map noted_by (bare ys)) vs noted)
  parts_keep [] is vs noted a h r = r
  parts_keep (y ∷ ys) [] vs noted a h r = no a
  parts_keep (y ∷ ys) (i ∷ is) [] noted a h r = no h
  parts_keep (y ∷ ys) (i ∷ is) (v ∷ vs) noted a h r =
      let p = and_parts (agrees_with needed y.0 i) (each_agrees (map (agrees_with needed) (bare ys)) is) a in
      let k = and_parts (has types mu own i v) (each_holds (map (meant types mu own) is) vs) h in
      parts_keep ys is vs (noted_by y.0 v noted) p.1 k.1 (y.1 i v noted p.0 k.0 r)

  parts_there : (ys : List SuchI) (vs : List Value) (x : Indices-F Indices Reading) (v : Value) (noted : Noted) → out-Value v ≡ V.Tuple vs
      → parts_agree (map (agrees_with needed) (bare ys)) x ≡ true → Had x v → IsRight noted → IsRight (each_noted (map noted_by (bare ys)) vs noted)
  parts_there ys vs (W.Tuple is) v noted q a h r = parts_keep ys is vs noted a (at_form (meant_there (W.Tuple is)) v (V.Tuple vs) q h) r
  parts_there ys vs (W.Variable i) v noted q a h r = no a
  parts_there ys vs W.Never v noted q a h r = no (at_form (meant_there W.Never) v (V.Tuple vs) q h)
  parts_there ys vs W.Unit v noted q a h r = no (at_form (meant_there W.Unit) v (V.Tuple vs) q h)
  parts_there ys vs (W.Truth c) v noted q a h r = no (at_form (meant_there (W.Truth c)) v (V.Tuple vs) q h)
  parts_there ys vs W.Bit v noted q a h r = no (at_form (meant_there W.Bit) v (V.Tuple vs) q h)
  parts_there ys vs (W.Bits s) v noted q a h r = no (at_form (meant_there (W.Bits s)) v (V.Tuple vs) q h)
  parts_there ys vs (W.Integer s) v noted q a h r = no (at_form (meant_there (W.Integer s)) v (V.Tuple vs) q h)
  parts_there ys vs W.String v noted q a h r = no (at_form (meant_there W.String) v (V.Tuple vs) q h)
  parts_there ys vs (W.List c) v noted q a h r = no (at_form (meant_there (W.List c)) v (V.Tuple vs) q h)
  parts_there ys vs (W.Vector s c) v noted q a h r = no (at_form (meant_there (W.Vector s c)) v (V.Tuple vs) q h)
  parts_there ys vs (W.Named u is rs) v noted q a h r = no (at_form (meant_there (W.Named u is rs)) v (V.Tuple vs) q h)

  tuple_keeps : (ys : List SuchI) (x : Indices-F Indices Reading) (v : Value) (noted : Noted)
      → parts_agree (map (agrees_with needed) (bare ys)) x ≡ true → Had x v → IsRight noted → (u : Value-F Value) → out-Value v ≡ u
      → IsRight (value_noted (W.Tuple (map noted_by (bare ys))) u noted)
  tuple_keeps ys x v noted a h r (V.Tuple vs) q = parts_there ys vs x v noted q a h r
  tuple_keeps ys x v noted a h r u q = r

  -- ---- all indices

  abbrev types_noted : Reading → Noting
  types_noted = fold-Reading Noting Noting form_noted reading_noted

  abbrev types_agree : Reading → Agreeing
  types_agree = fold-Reading Agreeing Agreeing (indices_agree needed) type_agrees

  abbrev noting_of : Indices-F Indices Reading → Noting
  noting_of x = form_noted (map-Indices Indices Reading Noting Noting noted_by types_noted x)

  abbrev agreeing_of : Indices-F Indices Reading → Agreeing
  agreeing_of x = indices_agree needed (map-Indices Indices Reading Agreeing Agreeing (agrees_with needed) types_agree x)

  formed : (y : Indices-F SuchI SuchR) (i : Indices) (v : Value) (noted : Noted) → agreeing_of (indices_of y) i ≡ true → has types mu own i v ≡ true
      → IsRight noted → IsRight (noting_of (indices_of y) v noted)
  formed (W.Integer t) i v noted a h r =
      integer_keeps t (out-Indices i) v noted a (sym (has_form types mu own i (out-Indices i) v (roll-out-Indices i)) ∙ h) r (out-Value v) refl
  formed (W.Bits t) i v noted a h r =
      bits_keep t (out-Indices i) v noted a (sym (has_form types mu own i (out-Indices i) v (roll-out-Indices i)) ∙ h) r (out-Value v) refl
  formed (W.Vector t p) i v noted a h r =
      vector_keeps t (types_noted p.0) (out-Indices i) v noted a (sym (has_form types mu own i (out-Indices i) v (roll-out-Indices i)) ∙ h) r (out-Value v) refl
  formed (W.Tuple ys) i v noted a h r =
      tuple_keeps ys (out-Indices i) v noted a (sym (has_form types mu own i (out-Indices i) v (roll-out-Indices i)) ∙ h) r (out-Value v) refl
  formed y i v noted a h r = r

  rolled : (y : Indices-F SuchI SuchR) → Keeps (roll-Indices (indices_of y))
  rolled y i v noted a h r =
      let x = indices_of y in
      let agrees : agrees_with needed (roll-Indices x) ≡ agreeing_of x = fold-roll-Indices Agreeing Agreeing (indices_agree needed) type_agrees x in
      let notes : noted_by (roll-Indices x) ≡ noting_of x = fold-roll-Indices Noting Noting form_noted reading_noted x in
      ap (λ (g : Noting). g v noted w) notes ∙ formed y i v noted (sym (ap (λ (g : Agreeing). g i) agrees) ∙ a) h r

  keeps : (j : Indices) → Keeps j
  keeps = ind-Indices Keeps (λ r. Unit {0}) (λ e y is. subst (λ d. Keeps (roll-Indices d)) is (rolled y)) (λ e y is. tt)

  -- ---- several

  each_keeps : (i : Indices) (js : List Indices) (v : Value) (noted : Noted) → list_all (λ j. agrees_with needed j i) js ≡ true
      → has types mu own i v ≡ true → IsRight noted → IsRight (noted_by_each js v noted)
  each_keeps i [] v noted a h r = r
  each_keeps i (j ∷ js) v noted a h r =
      let p = and_parts (agrees_with needed j i) (list_all (λ j. agrees_with needed j i) js) a in
      each_keeps i js v (noted_by j v noted) p.1 h (keeps j i v noted p.0 h r)

  -- one of them gives it
  each_gives : (i : Indices) (js : List Indices) (v : Value) (noted : Noted) → list_all (λ j. agrees_with needed j i) js ≡ true
      → has types mu own i v ≡ true → IsIn i js → IsIn w (variables_given i) → IsRight (noted_by_each js v noted)
  each_gives i [] v noted a h k g = absurd k
  each_gives i (j ∷ js) v noted a h (inl e) g =
      let p = and_parts (agrees_with needed j i) (list_all (λ j. agrees_with needed j i) js) a in
      let one : IsRight (noted_by i v noted) = all_noted types past f own (i ∷ []) v noted w (λ l m n. only i l v m h) (inr (inl g)) in
      each_keeps i js v (noted_by j v noted) p.1 h (subst (λ (l : Indices). IsRight (noted_by l v noted)) e one)
    where
      only : (i l : Indices) (v : Value) → IsIn l (i ∷ []) → has types mu own i v ≡ true → has types mu own l v ≡ true
      only i l v (inl e) h = subst (λ (m : Indices). has types mu own m v ≡ true) (sym e) h
      only i l v (inr m) h = absurd m
  each_gives i (j ∷ js) v noted a h (inr k) g =
      let p = and_parts (agrees_with needed j i) (list_all (λ j. agrees_with needed j i) js) a in
      each_gives i js v (noted_by j v noted) p.1 h k g

-- ---- behind a note

in_any : (w : ℕ) (vs : List ℕ) → IsIn w vs → list_any (nat_eq w) vs ≡ true
in_any w [] h = absurd h
in_any w (v ∷ vs) (inl e) = ap (λ b. b || list_any (nat_eq w) vs) ((Decides-eqb w v).1 e)
in_any w (v ∷ vs) (inr h) = ap (λ b. nat_eq w v || b) (in_any w vs h) ∙ or_true (nat_eq w v)
  where
    or_true : (b : Bool) → (b || true) ≡ true
    or_true true = refl
    or_true false = refl

or_right : (b c : Bool) → c ≡ true → (b || c) ≡ true
or_right true c h = refl
or_right false c h = h

or_left : (b c : Bool) → b ≡ true → (b || c) ≡ true
or_left true c h = refl
or_left false c h = no h

module _ (types : Types) (past : Positive) (f : Integers) (own : List Closed) (facts : List Fact) (i : Indices) (js : List Indices) (v : Value) (noted : Noted)
    (agree : list_all (agrees_there facts i) js ≡ true) (held : has types (standing past f) own i v ≡ true) where
  -- what was noted still is
  pub still_noted : (w : ℕ) → is_given facts w ≡ true → noted w ≡ Some (f w) → noted_by_each js v noted w ≡ Some (f w)
  still_noted w g r =
      each_keeps types past f own w (is_needed facts i) (or_left (is_given facts w) (list_any (nat_eq w) (variables_given i)) g) i js v noted agree held r

  -- and what the value gives is noted
  pub now_noted : (w : ℕ) → IsIn i js → IsIn w (variables_given i) → noted_by_each js v noted w ≡ Some (f w)
  now_noted w k g =
      each_gives types past f own w (is_needed facts i)
      (or_right (is_given facts w) (list_any (nat_eq w) (variables_given i)) (in_any w (variables_given i) g)) i js v noted agree held k g
