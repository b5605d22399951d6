-- A number or a constraint that a text stands for is what the text is.
use Rattle.std.proofs.Common.{◌≡◌, ℕ, Bool, true, false, not, ◌&&◌, ◌||◌, cond, nat_eq, length, List, [], ◌∷◌, map, refl, sym, ap, ◌∙◌, subst}
use Rattle.std.proofs.Common.{Option, Some, None, is_none}
use Rattle.std.specs.Prelude.{ℤ, pos, ◌+ℤ◌, ◌-ℤ◌, ◌*ℤ◌}
use Rattle.std.specs.List.{list_all, list_any}
use Rattle.std.specs.Ordering.{int_eq}
use Rattle.sail_base.specs.declared.kind.Kind.{Kind}
use Rattle.sail_base.specs.declared.kind.Kind.TheVariants as K
use Rattle.sail_base.specs.declared.place.Place.{Place}
use Rattle.sail_syntax.specs.declared.name.Name.{Name}
use Rattle.sail_syntax.specs.declared.words.TypePrefix.{TypePrefix}
use Rattle.sail_syntax.specs.declared.words.TypePrefix.TheVariants as P
use Rattle.sail_syntax.specs.declared.words.TypeOperator.{TypeOperator}
use Rattle.sail_syntax.specs.declared.words.TypeOperator.TheVariants as O
use Rattle.sail_syntax.specs.declared.types.TyExp.{TyExp, TyExp-F, roll-TyExp, fold-roll-TyExp, para-roll-TyExp, map-TyExp, ind-TyExp}
use Rattle.sail_syntax.specs.declared.types.TyExp.TheOpen as X
use Rattle.sail_types.specs.Belongs.{assigned}
use Rattle.sail_types.specs.Limits.{small_power}
use Rattle.sail_types.specs.Numbers.{Assignment, number, compares, true_in}
use Rattle.sail_types.specs.Readings.{read_con}
use Rattle.sail_types.specs.Sums.{constant, is_constant, constant_of, sum, difference, product, power_num, zero_num, variable, read}
use Rattle.sail_types.specs.declared.numbers.Atom.TheVariants as A
use Rattle.sail_types.specs.declared.numbers.Comparison.{Comparison}
use Rattle.sail_types.specs.declared.numbers.Comparison.TheVariants as Is
use Rattle.sail_types.specs.declared.numbers.Con.{Con}
use Rattle.sail_types.specs.declared.numbers.Con.TheOpen as B
use Rattle.sail_types.specs.declared.numbers.Con.TheVariants as C
use Rattle.sail_types.specs.declared.numbers.Index.{Index}
use Rattle.sail_types.specs.declared.numbers.Num.{Num}
use Rattle.sail_types.specs.declared.types.Typ.{Typ}
use Rattle.sail_types.specs.declared.types.Typ.TheVariants as T
use Rattle.sail_types.proofs.SumNumbers.{some_same, then_parts, sum_number_is, difference_number}
use Rattle.sail_types.proofs.Substituted.{number_atom, number_constant, atom_variable, number_power, product_number}
use Rattle.type_arguments.specs.Applied.{applied, applied_typ}
use Rattle.type_arguments.specs.Ranges.{is_void_normal}
use Rattle.type_arguments.specs.Taken.{number_of, constraint_of}
use Rattle.type_arguments.specs.declared.normal.Normal.{Normal}
use Rattle.type_arguments.specs.declared.normal.Normal.TheVariants as N
use Rattle.type_arguments.proofs.Makings.{map_parts}
use Rattle.type_arguments.proofs.Truths.{true_form, true_truth, true_holds, read_number, read_true}
use Rattle.sail_kinds.specs.declared.error.TableError.{TableError}
use Rattle.sail_kinds.specs.declared.error.TableError.TheVariants as error
use Rattle.sail_kinds.specs.declared.error.Mismatch.TheVariants as Found
use Rattle.sail_kinds.specs.declared.scope.FoundVariable.{FoundVariable}
use Rattle.sail_kinds.specs.declared.scope.Meaning.{Meaning}
use Rattle.sail_kinds.specs.declared.scope.Meaning.TheVariants as M
use Rattle.sail_kinds.specs.declared.scope.NamedType.{NamedType}
use Rattle.sail_kinds.specs.Normal.{Reading, Part, stands_for, fails, nothing, then_read, made_of, made_of_both, both, all_read, kind_of, is_of, as_kind}
use Rattle.sail_kinds.specs.Normal.{part_of_kind, number_part, constraint_part, typ_part, made, power_at, not_of, negated, prefixed, computed, connected}
use Rattle.sail_kinds.specs.Normal.{is_connective, operated, one_of, existential, bound, opened, meant, arguments_read, argument_scope}
use Rattle.sail_kinds.specs.Normal.{named_type, applied_name, bare, name_read, variable_normal, variable_read, form_part, part}
use Rattle.sail_kinds.specs.Repeated.{clashes, is_none_of}
use Rattle.sail_kinds.specs.Scopes.{Within, inside_binder, variable_of}
use Rattle.normal_forms.specs.laws.Amounts.{integer, truth, Amounts, of_integer, of_truth, operation, power_of, of_kind, variable_amount, normal_amount}
use Rattle.normal_forms.specs.laws.Amounts.{meaning_amount, applied_amount, named_amount, name_amount, prefix_amount, form_amount, amount}

-- ---- what was made of what

made_parts : {A C : Type 0} (f : A → Reading C) (o : Option A) (y : C) → (made_of f o).normal ≡ Some y → (x : A) × (o ≡ Some x) × ((f x).normal ≡ Some y)
made_parts f None y h = absurd (cc)
made_parts f (Some x) y h = (x, refl, h)

both_parts : {A D E : Type 0} (f : A → D → Reading E) (o : Option A) (p : Option D) (z : E) → (made_of_both f o p).normal ≡ Some z
    → (x : A) × (y : D) × (o ≡ Some x) × (p ≡ Some y) × ((f x y).normal ≡ Some z)
both_parts f None p z h = absurd (cc)
both_parts f (Some x) None z h = absurd (cc)
both_parts f (Some x) (Some y) z h = (x, y, refl, refl, h)

-- what stands behind a test
where_true : {A : Type 0} (b : Bool) (r : Reading A) (e : TableError) (n : A) → (cond b r (fails e)).normal ≡ Some n → r.normal ≡ Some n
where_true true r e n h = h
where_true false r e n h = absurd (cc)

where_false : {A : Type 0} (b : Bool) (e : TableError) (r : Reading A) (n : A) → (cond b (fails e) r).normal ≡ Some n → r.normal ≡ Some n
where_false true e r n h = absurd (cc)
where_false false e r n h = h

where_clear : {A : Type 0} (b : Bool) (r : Reading A) (n : A) → (cond b r nothing).normal ≡ Some n → r.normal ≡ Some n
where_clear true r n h = h
where_clear false r n h = absurd (cc)

kind_parts : (kind : Kind) (place : Place) (o : Option Normal) (n : Normal) → (made_of (as_kind kind place) o).normal ≡ Some n → o ≡ Some n
kind_parts kind place None n h = absurd (cc)
kind_parts kind place (Some m) n h =
    where_true (is_of kind m) (stands_for m) (error.IllKinded place (Some (Found.Kinds kind (kind_of m)))) n h

number_is : (n : Normal) (m : Num) → number_of n ≡ Some m → n ≡ N.Number m
number_is (N.Number k) m h = ap N.Number (some_same k m h)
number_is (N.Constraint c) m h = absurd (cc)
number_is (N.Typ t) m h = absurd (cc)

constraint_is : (n : Normal) (d : Con) → constraint_of n ≡ Some d → n ≡ N.Constraint d
constraint_is (N.Number k) d h = absurd (cc)
constraint_is (N.Constraint c) d h = ap N.Constraint (some_same c d h)
constraint_is (N.Typ t) d h = absurd (cc)

number_read : (p : Part) (w : Within) (m : Num) → (number_part w p).normal ≡ Some m → (p.read w).normal ≡ Some (N.Number m)
number_read p w m h =
    let k = then_parts (part_of_kind w K.Int p).normal number_of m h in
    kind_parts K.Int p.place (p.read w).normal (N.Number m) (k.1 ∙ ap Some (number_is k.0 m k.2))

constraint_read : (p : Part) (w : Within) (d : Con) → (constraint_part w p).normal ≡ Some d → (p.read w).normal ≡ Some (N.Constraint d)
constraint_read p w d h =
    let k = then_parts (part_of_kind w K.Bool p).normal constraint_of d h in
    kind_parts K.Bool p.place (p.read w).normal (N.Constraint d) (k.1 ∙ ap Some (constraint_is k.0 d k.2))

opened_parts : (place : Place) (o : Option Normal) (n : Normal) → (opened place o).normal ≡ Some n → o ≡ Some n
opened_parts place None n h = absurd (cc)
opened_parts place (Some m) n h = where_false (is_void_normal m) (error.IllKinded place None) (stands_for m) n h

all_two : (a b : Bool) → list_all (λ x. x) (a ∷ b ∷ []) ≡ (a && b)
all_two true true = refl
all_two true false = refl
all_two false b = refl

any_two : (a b : Bool) → list_any (λ x. x) (a ∷ b ∷ []) ≡ (a || b)
any_two true b = refl
any_two false true = refl
any_two false false = refl

-- ---- under an assignment

module _ (nu : Assignment) where
  stood : (m n : Normal) → Some m ≡ Some n → normal_amount nu m ≡ normal_amount nu n
  stood m n h = ap (normal_amount nu) (some_same m n h)

  of_number : (m : Num) (n : Normal) (z : ℤ) → number nu m ≡ z → Some (N.Number m) ≡ Some n → Some (integer z) ≡ normal_amount nu n
  of_number m n z is h = ap (λ x. Some (integer x)) (sym is) ∙ stood (N.Number m) n h

  of_constraint : (c : Con) (n : Normal) (b : Bool) → true_in nu c ≡ b → Some (N.Constraint c) ≡ Some n → Some (truth b) ≡ normal_amount nu n
  of_constraint c n b is h = ap (λ x. Some (truth x)) (sym is) ∙ stood (N.Constraint c) n h

  of_made : (place : Place) (o : Option Num) (n : Normal) (z : ℤ) → ((m : Num) → o ≡ Some m → number nu m ≡ z) → (made place o).normal ≡ Some n
      → Some (integer z) ≡ normal_amount nu n
  of_made place None n z is h = absurd (cc)
  of_made place (Some m) n z is h = of_number m n z (is m refl) h

  compared : (how : Comparison) (x y : Num) (n : Normal) → Some (N.Constraint (C.Compare how x y)) ≡ Some n
      → Some (truth (compares how (number nu x) (number nu y))) ≡ normal_amount nu n
  compared how x y n h =
      of_constraint (C.Compare how x y) n (compares how (number nu x) (number nu y))
      (ap (true_in nu) (sym (C.rolls-Compare how x y)) ∙ true_form nu (B.Compare how x y)) h

  computed_amount : (operator : TypeOperator) (place : Place) → is_connective operator ≡ false → (x y : Num) (n : Normal)
      → (computed operator place x y).normal ≡ Some n
      → operation operator (Some (integer (number nu x))) (Some (integer (number nu y))) ≡ normal_amount nu n
  computed_amount O.Star place is x y n h = of_made place (product x y) n (number nu x *ℤ number nu y) (λ m e. product_number nu x y m e) h
  computed_amount O.Plus place is x y n h = of_made place (sum x y) n (number nu x +ℤ number nu y) (λ m e. sum_number_is nu x y m e) h
  computed_amount O.Minus place is x y n h = of_made place (difference x y) n (number nu x -ℤ number nu y) (λ m e. difference_number nu x y m e) h
  computed_amount O.Equal place is x y n h = compared Is.Equal x y n h
  computed_amount O.NotEqual place is x y n h = compared Is.NotEqual x y n h
  computed_amount O.Less place is x y n h = compared Is.Less x y n h
  computed_amount O.LessEqual place is x y n h = compared Is.LessEqual x y n h
  computed_amount O.Greater place is x y n h = compared Is.Greater x y n h
  computed_amount O.GreaterEqual place is x y n h = compared Is.GreaterEqual x y n h
  computed_amount O.And place is x y n h = absurd (cc)
  computed_amount O.Or place is x y n h = absurd (cc)

  connected_amount : (operator : TypeOperator) → is_connective operator ≡ true → (c d : Con) (n : Normal) → (connected operator c d).normal ≡ Some n
      → operation operator (Some (truth (true_in nu c))) (Some (truth (true_in nu d))) ≡ normal_amount nu n
  connected_amount O.And is c d n h =
      of_constraint (C.All (c ∷ d ∷ [])) n (true_in nu c && true_in nu d)
      (ap (true_in nu) (sym (C.rolls-All (c ∷ d ∷ []))) ∙ true_form nu (B.All (c ∷ d ∷ [])) ∙ all_two (true_in nu c) (true_in nu d)) h
  connected_amount O.Or is c d n h =
      of_constraint (C.Any (c ∷ d ∷ [])) n (true_in nu c || true_in nu d)
      (ap (true_in nu) (sym (C.rolls-Any (c ∷ d ∷ []))) ∙ true_form nu (B.Any (c ∷ d ∷ [])) ∙ any_two (true_in nu c) (true_in nu d)) h
  connected_amount operator is c d n h = absurd (cc)

  variable_kept : (kind : Kind) (i : ℕ) (n : Normal) → Some (variable_normal kind i) ≡ Some n → of_kind kind i nu ≡ normal_amount nu n
  variable_kept K.Int i n h = of_number (variable i) n (nu.int i) (number_atom nu (A.Variable i) ∙ atom_variable nu i) h
  variable_kept K.Bool i n h = of_constraint (C.Holds i) n (nu.bool i) (true_holds nu i) h
  variable_kept K.Type i n h = stood (N.Typ (T.Variable i)) n h

  variable_read_kept : (name : Name) (o : Option FoundVariable) (n : Normal) → (variable_read name o).normal ≡ Some n
      → variable_amount o nu ≡ normal_amount nu n
  variable_read_kept name None n h = absurd (cc)
  variable_read_kept name (Some found) n h = variable_kept found.kind found.number n h

  -- ---- named types

  applied_kept : (is : List Index) (ts : List Typ) (x n : Normal) → applied is ts x ≡ Some n → normal_amount (assigned nu is) x ≡ normal_amount nu n
  applied_kept is ts (N.Number y) n h =
      let k = map_parts N.Number (read is y) n h in
      ap (λ z. Some (integer z)) (sym (read_number is nu y k.0 k.1)) ∙ ap (normal_amount nu) k.2
  applied_kept is ts (N.Constraint c) n h =
      let k = map_parts N.Constraint (read_con is c) n h in
      ap (λ b. Some (truth b)) (sym (read_true is nu c k.0 k.1)) ∙ ap (normal_amount nu) k.2
  applied_kept is ts (N.Typ t) n h = let k = map_parts N.Typ (applied_typ is ts t) n h in ap (normal_amount nu) k.2

  meant_kept : (place : Place) (meaning : Meaning) (is : List Index) (ts : List Typ) (n : Normal) → (meant place meaning is ts).normal ≡ Some n
      → meaning_amount nu is meaning ≡ normal_amount nu n
  meant_kept place (M.Alias x) is ts n h = applied_kept is ts x n (opened_parts place (applied is ts x) n h)
  meant_kept place (M.Defined i) is ts n h = stood (N.Typ (T.Named i is ts)) n h
  meant_kept place M.Unknown is ts n h = absurd (cc)

  named_kept : (name : Name) (xs : List TyExp) (o : Option NamedType) (w : Within) (n : Normal)
      → (applied_name name (map part xs) o w).normal ≡ Some n → named_amount name xs o w nu ≡ normal_amount nu n
  named_kept name xs None w n h = absurd (cc)
  named_kept name xs (Some t) w n h =
      let r = arguments_read (argument_scope name w) t.parameters (map part xs) in
      let f : List Index × List Typ → Reading Normal = λ a. meant name.place t.meaning a.0 a.1 in
      let passed = where_true (nat_eq (length (map part xs)) (length t.parameters)) (then_read r f)
      (error.IllKinded name.place (Some (Found.Counts (length t.parameters) (length (map part xs))))) n h in
      let k = made_parts f r.normal n passed in
      ap (applied_amount nu t.meaning) k.1 ∙ meant_kept name.place t.meaning k.0.0 k.0.1 n k.2

  name_kept : (name : Name) (xs : List TyExp) (o : Option Typ) (w : Within) (n : Normal) → (name_read name (map part xs) o w).normal ≡ Some n
      → name_amount name xs o w nu ≡ normal_amount nu n
  name_kept name xs None w n h = named_kept name xs (named_type name.text w) w n h
  name_kept name xs (Some t) w n h = stood (N.Typ t) n h

  -- ---- all forms

  abbrev IsKept : TyExp → Type 0
  IsKept t = (w : Within) (n : Normal) → ((part t).read w).normal ≡ Some n → amount t w nu ≡ normal_amount nu n

  abbrev Such : Type 0
  Such = (t : TyExp) × IsKept t

  number_amount : (p : Such) (w : Within) (m : Num) → (number_part w (part p.0)).normal ≡ Some m → amount p.0 w nu ≡ Some (integer (number nu m))
  number_amount p w m h = p.1 w (N.Number m) (number_read (part p.0) w m h)

  constraint_amount : (p : Such) (w : Within) (c : Con) → (constraint_part w (part p.0)).normal ≡ Some c → amount p.0 w nu ≡ Some (truth (true_in nu c))
  constraint_amount p w c h = p.1 w (N.Constraint c) (constraint_read (part p.0) w c h)

  prefix_kept : (prefix : TypePrefix) (place : Place) (p : Such) (w : Within) (n : Normal) → (prefixed prefix place w (part p.0)).normal ≡ Some n
      → prefix_amount prefix p.0 (amount p.0) w nu ≡ normal_amount nu n
  prefix_kept P.Negate place p w n h =
      let k = made_parts (negated place) (number_part w (part p.0)).normal n h in
      ap (of_integer (λ z. integer (pos 0 -ℤ z))) (number_amount p w k.0 k.1)
      ∙ of_made place (difference zero_num k.0) n (pos 0 -ℤ number nu k.0)
      (λ m e. difference_number nu zero_num k.0 m e ∙ ap (λ z. z -ℤ number nu k.0) (number_constant nu (pos 0))) k.2
  prefix_kept P.Power place p w n h =
      let o = (number_part w (part p.0)).normal in
      let k = made_parts (power_at place) o n h in
      ap (of_integer (power_of nu o)) (number_amount p w k.0 k.1) ∙ ap (λ q. Some (power_of nu q (number nu k.0))) k.1
      ∙ ap (λ z. Some (integer z)) (sym (number_power nu k.0))
      ∙ stood (N.Number (power_num k.0)) n
      (where_false (is_constant k.0 && is_none (small_power (constant_of k.0))) (error.IllKinded place None) (stands_for (N.Number (power_num k.0))) n k.2)
  prefix_kept P.Not place p w n h =
      let k = made_parts not_of (constraint_part w (part p.0)).normal n h in
      ap (of_truth (λ b. truth (not b))) (constraint_amount p w k.0 k.1)
      ∙ of_constraint (C.Not k.0) n (not (true_in nu k.0)) (ap (true_in nu) (sym (C.rolls-Not k.0)) ∙ true_form nu (B.Not k.0)) k.2

  infix_kept : (b : Bool) (operator : TypeOperator) (place : Place) → is_connective operator ≡ b → (p q : Such) (w : Within) (n : Normal)
      → (operated operator place w (part p.0) (part q.0)).normal ≡ Some n → operation operator (amount p.0 w nu) (amount q.0 w nu) ≡ normal_amount nu n
  infix_kept true operator place is p q w n h =
      let r = constraint_part w (part p.0) in
      let s = constraint_part w (part q.0) in
      let chosen : operated operator place w (part p.0) (part q.0) ≡ both r s (connected operator) =
      ap (λ b. cond b (both r s (connected operator)) (both (number_part w (part p.0)) (number_part w (part q.0)) (computed operator place))) is in
      let k = both_parts (connected operator) r.normal s.normal n (sym (ap (λ (x : Reading Normal). x.normal) chosen) ∙ h) in
      (λ i. operation operator (constraint_amount p w k.0 k.2 i) (constraint_amount q w k.1 k.3 i)) ∙ connected_amount operator is k.0 k.1 n k.4
  infix_kept false operator place is p q w n h =
      let r = number_part w (part p.0) in
      let s = number_part w (part q.0) in
      let chosen : operated operator place w (part p.0) (part q.0) ≡ both r s (computed operator place) =
      ap (λ b. cond b (both (constraint_part w (part p.0)) (constraint_part w (part q.0)) (connected operator)) (both r s (computed operator place))) is in
      let k = both_parts (computed operator place) r.normal s.normal n (sym (ap (λ (x : Reading Normal). x.normal) chosen) ∙ h) in
      (λ i. operation operator (number_amount p w k.0 k.2 i) (number_amount q w k.1 k.3 i)) ∙ computed_amount operator place is k.0 k.1 n k.4

  exists_kept : (names : List Name) (r : Reading Con) (s : Reading Typ) (n : Normal) → (both r s (bound names)).normal ≡ Some n
      → None ≡ normal_amount nu n
  exists_kept names r s n h =
      let k = both_parts (bound names) r.normal s.normal n h in
      let x = N.Typ (existential names k.0 k.1) in
      stood x n (where_clear (is_none_of (clashes names)) (stands_for x) n k.4)

  abbrev texts : List Such → List TyExp
  texts ps = map (λ p. p.0) ps

  abbrev beside : TyExp → TyExp × Amounts
  beside t = (t, amount t)

  same_texts : (xs : List TyExp) → map (λ (p : TyExp × Amounts). p.0) (map beside xs) ≡ xs
  same_texts [] = refl
  same_texts (x ∷ xs) = ap (λ rest. x ∷ rest) (same_texts xs)

  step : (y : TyExp-F Such) (w : Within) (n : Normal)
      → ((form_part (map-TyExp TyExp Part part (map-TyExp Such TyExp (λ p. p.0) y))).read w).normal ≡ Some n
      → form_amount (map-TyExp TyExp (TyExp × Amounts) beside (map-TyExp Such TyExp (λ p. p.0) y)) w nu ≡ normal_amount nu n
  step (X.Named name ps) w n h =
      ap (λ (xs : List TyExp). name_amount name xs (bare name.text (map part xs)) w nu) (same_texts (texts ps))
      ∙ name_kept name (texts ps) (bare name.text (map part (texts ps))) w n h
  step (X.Variable name) w n h = variable_read_kept name (variable_of name.text w.variables) n h
  step (X.Number place z) w n h = of_number (constant z) n z (number_constant nu z) h
  step (X.Truth place b) w n h = of_constraint (C.Truth b) n b (true_truth nu b) h
  step (X.Prefix place prefix p) w n h = prefix_kept prefix place p w n h
  step (X.Infix place operator p q) w n h = infix_kept (is_connective operator) operator place refl p q w n h
  step (X.OneOf place p choices) w n h =
      let k = made_parts (one_of choices) (number_part w (part p.0)).normal n h in
      ap (of_integer (λ z. truth (list_any (int_eq z) choices))) (number_amount p w k.0 k.1)
      ∙ of_constraint (C.OneOf k.0 choices) n (list_any (int_eq (number nu k.0)) choices)
      (ap (true_in nu) (sym (C.rolls-OneOf k.0 choices)) ∙ true_form nu (B.OneOf k.0 choices)) k.2
  step (X.Tuple place ps) w n h =
      let k = map_parts (λ ts. N.Typ (T.Tuple ts)) (all_read (map (typ_part w) (map part (texts ps)))).normal n h in
      ap (normal_amount nu) k.2
  step (X.Exists place names None p) w n h =
      let v = inside_binder names w in
      exists_kept names (stands_for (C.Truth true)) (typ_part v (part p.0)) n h
  step (X.Exists place names (Some c) p) w n h =
      let v = inside_binder names w in
      exists_kept names (constraint_part v (part c.0)) (typ_part v (part p.0)) n h

  rolled : (y : TyExp-F Such) → IsKept (roll-TyExp (map-TyExp Such TyExp (λ p. p.0) y))
  rolled y w n h =
      let x = map-TyExp Such TyExp (λ p. p.0) y in
      ap (λ (f : Amounts). f w nu) (para-roll-TyExp Amounts form_amount x)
      ∙ step y w n (sym (ap (λ (p : Part). (p.read w).normal) (fold-roll-TyExp Part form_part x)) ∙ h)

  pub kept : (t : TyExp) (w : Within) (n : Normal) → ((part t).read w).normal ≡ Some n → amount t w nu ≡ normal_amount nu n
  kept = ind-TyExp IsKept (λ e y is. subst (λ d. IsKept (roll-TyExp d)) is (rolled y))
