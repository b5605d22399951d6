-- What a value gives is noted.
use Rattle.std.proofs.Common.{◌≡◌, ◌∙◌, ap, sym, refl, subst, ℕ, nat_eq, Bool, true, false, ◌&&◌, ◌⊎◌, inl, inr, List, [], ◌∷◌, ◌++◌, map}
use Rattle.std.specs.Prelude.{ℤ, pos, length, Option, Some, None, if◌then◌else◌}
use Rattle.std.specs.List.{list_all}
use Rattle.std.specs.Ordering.{int_eq}
use Rattle.std.proofs.lemmas.Bool.{and_parts}
use Rattle.std.proofs.lemmas.Bool.Decides.{Decides-eqb, Decides-int_eq}
use Rattle.sail_types.specs.Belongs.{Reading as Closed, belongs}
use Rattle.sail_types.specs.Limits.{is_length, is_small, is_width}
use Rattle.sail_types.specs.Numbers.{Assignment, Positive, number}
use Rattle.sail_types.specs.declared.numbers.Num.{Num}
use Rattle.sail_types.specs.declared.table.Types.{Types}
use Rattle.sail_types.specs.declared.values.Value.{Value, Value-F, out-Value}
use Rattle.sail_types.specs.declared.values.Value.TheOpen as V
use Rattle.value_indices.specs.declared.indices.Indices.{Indices, roll-Indices}
use Rattle.value_indices.specs.declared.indices.Indices.TheFolds.{fold-roll-Indices, ind-Indices, map-Indices}
use Rattle.value_indices.specs.declared.indices.Indices.TheOpen as W
use Rattle.value_indices.specs.declared.indices.Indices.TheOpen.{Indices-F}
use Rattle.value_indices.specs.declared.indices.Reading.{Reading, fold-Reading}
use Rattle.size_values.specs.Sizes.{joined}
use Rattle.call_arguments.specs.Placing.{variable_in}
use Rattle.value_laws.specs.Belonging.{Integers, closed, each_holds, form_holds, has, indices_hold, meant, standing}
use Rattle.value_laws.proofs.Basics.{no}
use Rattle.value_laws.proofs.Values.{has_form, meanings}
use Rattle.call_fits.proofs.Variables.{number_is, variable_found}
use Rattle.split_laws.specs.Counted.{IsIn}
use Rattle.split_laws.proofs.Basics.{either, in_back, in_front}
use Rattle.soundness_steps.specs.Noted.{form_gives, one_or_none, type_gives, variables_given}
use Rattle.checked_meaning.specs.Checked.{Noted}
use Rattle.sized_meanings.specs.Noting.{Noting, each_noted, form_noted, noted_by, noted_by_each, noted_for, reading_noted, value_noted}
use Rattle.noting_laws.specs.Noting.{IsNamed, NumbersAreNoted}

in_either : {A : Type 0} (x : A) (xs ys : List A) → IsIn x (xs ++ ys) → IsIn x xs ⊎ IsIn x ys
in_either x [] ys h = inr h
in_either x (y ∷ xs) ys (inl e) = inl (inl e)
in_either x (y ∷ xs) ys (inr h) = either (in_either x xs ys h) (λ a. inl (inr a)) (λ b. inr b)

module _ (types : Types) (past : Positive) (f : Integers) (own : List Closed) (w : ℕ) where
  abbrev mu : Assignment
  mu = standing past f

  abbrev IsRight : Noted → Type 0
  IsRight noted = noted w ≡ Some (f w)

  -- where one that gives it is had by the value
  abbrev Right : Indices → Type 0
  Right i = (v : Value) (noted : Noted) → (IsIn w (variables_given i) → has types mu own i v ≡ true)
      → IsRight noted ⊎ IsIn w (variables_given i) → IsRight (noted_by i v noted)

  abbrev SuchI : Type 0
  SuchI = (i : Indices) × Right i

  abbrev SuchR : Type 0
  SuchR = (r : Reading) × Unit {0}

  abbrev bare : List SuchI → List Indices
  bare ys = map (λ p. p.0) ys

  abbrev indices_of : Indices-F SuchI SuchR → Indices-F Indices Reading
  indices_of y = map-Indices SuchI SuchR Indices Reading (λ p. p.0) (λ p. p.0) y

  -- ---- where the value isn't of the form

  unlike : (named : Type 0) (noted : Noted) → (named → false ≡ true) → IsRight noted ⊎ named → IsRight noted
  unlike named noted h k = either k (λ r. r) (λ n. no (h n))

  -- ---- a number

  written : (u : ℕ) (z : ℤ) (b : Bool) (noted : Noted) → nat_eq u w ≡ b → (IsIn w (u ∷ []) → z ≡ f u) → IsRight noted ⊎ IsIn w (u ∷ [])
      → (if b then Some z else noted w) ≡ Some (f w)
  written u z true noted e h k =
      let same : u ≡ w = (Decides-eqb u w).0 e in
      ap (λ (x : ℤ). Some x) (h (inl (sym same)) ∙ ap f same)
  written u z false noted e h k =
      either k (λ r. r)
      (λ i. either i (λ s. no (sym e ∙ (Decides-eqb u w).1 (sym s))) (λ n. absurd n))

  variable_noted : (o : Option ℕ) (z : ℤ) (noted : Noted) → ((u : ℕ) → o ≡ Some u → IsIn w (u ∷ []) → z ≡ f u)
      → IsRight noted ⊎ IsIn w (one_or_none o) → IsRight (noted_for o z noted)
  variable_noted None z noted h k = either k (λ r. r) (λ n. absurd n)
  variable_noted (Some u) z noted h k = written u z (nat_eq u w) noted refl (h u refl) k

  -- what is had is the variable's integer
  had : (t : Num) (z : ℤ) (within : Bool) (u : ℕ) → variable_in t ≡ Some u → (int_eq z (number mu t) && within) ≡ true → z ≡ f u
  had t z within u e h =
      (Decides-int_eq z (number mu t)).0 (and_parts (int_eq z (number mu t)) within h).0 ∙ number_is mu t u (variable_found t u e)

  number_noted : (t : Num) (z : ℤ) (within : Bool) (noted : Noted)
      → (IsIn w (one_or_none (variable_in t)) → (int_eq z (number mu t) && within) ≡ true) → IsRight noted ⊎ IsIn w (one_or_none (variable_in t))
      → IsRight (noted_for (variable_in t) z noted)
  number_noted t z within noted h k =
      variable_noted (variable_in t) z noted
      (λ u e i. had t z within u e (h (subst (λ (o : Option ℕ). IsIn w (one_or_none o)) (sym e) i))) k

  -- ---- an integer, a width, and a length

  integer_noted : (t : Num) (x : Value-F Value) (noted : Noted)
      → (IsIn w (one_or_none (variable_in t)) → form_holds types mu own (W.Integer t) x ≡ true) → IsRight noted ⊎ IsIn w (one_or_none (variable_in t))
      → IsRight (value_noted (W.Integer t) x noted)
  integer_noted t (V.Integer z) noted h k = number_noted t z (is_small z) noted h k
  integer_noted t x noted h k = unlike (IsIn w (one_or_none (variable_in t))) noted h k

  bits_noted : (t : Num) (x : Value-F Value) (noted : Noted)
      → (IsIn w (one_or_none (variable_in t)) → form_holds types mu own (W.Bits t) x ≡ true) → IsRight noted ⊎ IsIn w (one_or_none (variable_in t))
      → IsRight (value_noted (W.Bits t) x noted)
  bits_noted t (V.Bits bits) noted h k = number_noted t (pos (length bits)) (is_width (length bits)) noted h k
  bits_noted t x noted h k = unlike (IsIn w (one_or_none (variable_in t))) noted h k

  vector_noted : (t : Num) (c : Closed) (item : Noting) (x : Value-F Value) (noted : Noted)
      → (IsIn w (one_or_none (variable_in t)) → form_holds types mu own (W.Vector t c) x ≡ true) → IsRight noted ⊎ IsIn w (one_or_none (variable_in t))
      → IsRight (value_noted (W.Vector t item) x noted)
  vector_noted t c item (V.Vector vs) noted h k =
      number_noted t (pos (length vs)) (is_length (length vs)) noted
      (λ i. (and_parts (int_eq (pos (length vs)) (number mu t) && is_length (length vs)) (list_all (λ v. belongs types v c) vs) (h i)).0) k
  vector_noted t c item x noted h k = unlike (IsIn w (one_or_none (variable_in t))) noted h k

  -- ---- a tuple

  abbrev named_in : List SuchI → List ℕ
  named_in ys = joined (map variables_given (bare ys))

  abbrev all_hold : List SuchI → List Value → Bool
  all_hold ys vs = each_holds (map (meant types mu own) (bare ys)) vs

  parts_noted : (ys : List SuchI) (vs : List Value) (noted : Noted) → (IsIn w (named_in ys) → all_hold ys vs ≡ true)
      → IsRight noted ⊎ IsIn w (named_in ys) → IsRight (each_noted (map noted_by (bare ys)) vs noted)
  parts_noted [] vs noted h k = either k (λ r. r) (λ n. absurd n)
  parts_noted (y ∷ ys) [] noted h k = unlike (IsIn w (named_in (y ∷ ys))) noted h k
  parts_noted (y ∷ ys) (v ∷ vs) noted h k =
      let first = variables_given y.0 in
      let others = named_in ys in
      let both : IsIn w (first ++ others) → (has types mu own y.0 v ≡ true) × (all_hold ys vs ≡ true)
      = λ i. and_parts (has types mu own y.0 v) (all_hold ys vs) (h i) in
      let here : IsIn w first → has types mu own y.0 v ≡ true = λ i. (both (in_front w first others i)).0 in
      parts_noted ys vs (noted_by y.0 v noted) (λ i. (both (in_back w first others i)).1)
      (either k (λ r. inl (y.1 v noted here (inl r)))
      (λ i. either (in_either w first others i) (λ a. inl (y.1 v noted here (inr a))) (λ b. inr b)))

  tuple_noted : (ys : List SuchI) (x : Value-F Value) (noted : Noted)
      → (IsIn w (named_in ys) → form_holds types mu own (W.Tuple (map (meant types mu own) (bare ys))) x ≡ true)
      → IsRight noted ⊎ IsIn w (named_in ys) → IsRight (value_noted (W.Tuple (map noted_by (bare ys))) x noted)
  tuple_noted ys (V.Tuple vs) noted h k = parts_noted ys vs noted h k
  tuple_noted ys x noted h k = unlike (IsIn w (named_in ys)) noted h k

  -- ---- all indices

  abbrev types_give : Reading → List ℕ
  types_give = fold-Reading (List ℕ) (List ℕ) form_gives type_gives

  abbrev types_noted : Reading → Noting
  types_noted = fold-Reading Noting Noting form_noted reading_noted

  abbrev given_of : Indices-F Indices Reading → List ℕ
  given_of x = form_gives (map-Indices Indices Reading (List ℕ) (List ℕ) variables_given types_give x)

  abbrev noting_of : Indices-F Indices Reading → Noting
  noting_of x = form_noted (map-Indices Indices Reading Noting Noting noted_by types_noted x)

  formed : (y : Indices-F SuchI SuchR) (v : Value) (noted : Noted)
      → (IsIn w (given_of (indices_of y)) → indices_hold types mu own (meanings types mu own (indices_of y)) v ≡ true)
      → IsRight noted ⊎ IsIn w (given_of (indices_of y)) → IsRight (noting_of (indices_of y) v noted)
  formed (W.Integer t) v noted h k = integer_noted t (out-Value v) noted h k
  formed (W.Bits t) v noted h k = bits_noted t (out-Value v) noted h k
  formed (W.Vector t r) v noted h k = vector_noted t (closed types mu own r.0) (types_noted r.0) (out-Value v) noted h k
  formed (W.Tuple ys) v noted h k = tuple_noted ys (out-Value v) noted h k
  formed y v noted h k = either k (λ r. r) (λ n. absurd n)

  rolled : (y : Indices-F SuchI SuchR) → Right (roll-Indices (indices_of y))
  rolled y v noted h k =
      let x = indices_of y in
      let gives : variables_given (roll-Indices x) ≡ given_of x = fold-roll-Indices (List ℕ) (List ℕ) form_gives type_gives x in
      let notes : noted_by (roll-Indices x) ≡ noting_of x = fold-roll-Indices Noting Noting form_noted reading_noted x in
      ap (λ (g : Noting). g v noted w) notes
      ∙ formed y v noted
      (λ i. sym (has_form types mu own (roll-Indices x) x v refl) ∙ h (subst (λ (l : List ℕ). IsIn w l) (sym gives) i))
      (either k (λ r. inl r) (λ i. inr (subst (λ (l : List ℕ). IsIn w l) gives i)))

  right : (i : Indices) → Right i
  right = ind-Indices Right (λ r. Unit {0}) (λ e y is. subst (λ d. Right (roll-Indices d)) is (rolled y)) (λ e y is. tt)

  -- ---- several

  each_right : (is : List Indices) (v : Value) (noted : Noted)
      → ((i : Indices) → IsIn i is → IsIn w (variables_given i) → has types mu own i v ≡ true) → IsRight noted ⊎ IsNamed w is
      → IsRight (noted_by_each is v noted)
  each_right [] v noted h k = either k (λ r. r) (λ n. absurd n)
  each_right (i ∷ is) v noted h k =
      each_right is v (noted_by i v noted) (λ j a n. h j (inr a) n)
      (either k (λ r. inl (right i v noted (h i (inl refl)) (inl r)))
      (λ n. either n (λ a. inl (right i v noted (h i (inl refl)) (inr a))) (λ b. inr b)))

pub all_noted : NumbersAreNoted
all_noted types past f own is v noted w h k = each_right types past f own w is v noted h k
