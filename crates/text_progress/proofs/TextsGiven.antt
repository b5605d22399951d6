-- What is written of numbers where types are read is over the variables that stand for numbers there, and what is written of truths over those that
-- stand for one: so are arguments of named types, whatever these stand for, and so is a type under each of its binders.
use Rattle.std.proofs.Common.{◌≡◌, ℕ, ◌+◌, List, [], ◌∷◌, ◌++◌, map, append_assoc, ap, sym, ◌∙◌, refl, subst}
use Rattle.std.proofs.Common.{Bool, true, false, ◌&&◌, cond, if◌then◌else◌, bytes_eq, nat_eq, codes, filter_map, length}
use Rattle.std.specs.Prelude.{pos, negsuc, neg_ℤ, Option, Some, None, is_none, option_map, slice_get}
use Rattle.std.specs.List.{zip}
use Rattle.std.proofs.Math.Numerals.{add-one}
use Rattle.std.proofs.lemmas.List.{reverse-append}
use Rattle.sail_base.specs.declared.kind.Kind.{Kind}
use Rattle.sail_base.specs.declared.kind.Kind.TheVariants as K
use Rattle.sail_base.specs.declared.place.Place.{Place}
use Rattle.sail_syntax.specs.declared.name.Name.{Name}
use Rattle.sail_syntax.specs.declared.words.TypePrefix.{TypePrefix}
use Rattle.sail_syntax.specs.declared.words.TypePrefix.TheVariants as P
use Rattle.sail_syntax.specs.declared.words.TypeOperator.{TypeOperator}
use Rattle.sail_syntax.specs.declared.words.TypeOperator.TheVariants as O
use Rattle.sail_syntax.specs.declared.types.TyExp.{TyExp, TyExp-F, roll-TyExp, fold-roll-TyExp, map-TyExp, ind-TyExp}
use Rattle.sail_syntax.specs.declared.types.TyExp.TheOpen as X
use Rattle.sail_types.specs.Limits.{largest, small_power}
use Rattle.sail_types.specs.Places.{Given, a_bool, an_int}
use Rattle.sail_types.specs.Readings.{read_con, together}
use Rattle.sail_types.specs.Sums.{constant, constant_of, difference, is_constant, plus, power_num, product, read, sum, zero_num}
use Rattle.sail_types.specs.declared.numbers.Comparison.{Comparison}
use Rattle.sail_types.specs.declared.numbers.Comparison.TheVariants as Is
use Rattle.sail_types.specs.declared.numbers.Con.{Con}
use Rattle.sail_types.specs.declared.numbers.Con.TheOpen as C
use Rattle.sail_types.specs.declared.numbers.Con.TheVariants as V
use Rattle.sail_types.specs.declared.numbers.Index.{Index}
use Rattle.sail_types.specs.declared.numbers.Num.{Num}
use Rattle.sail_types.specs.declared.types.Typ.{Typ, Typ-F, fold-Typ, roll-Typ}
use Rattle.sail_types.specs.declared.types.Typ.TheFolds.{map-Typ}
use Rattle.sail_types.specs.declared.types.Typ.TheOpen as T
use Rattle.sail_types.specs.declared.types.Typ.TheVariants as W
use Rattle.type_arguments.specs.Applied.{applied, applied_typ}
use Rattle.type_arguments.specs.Ranges.{is_void_normal}
use Rattle.type_arguments.specs.Taken.{constraint_of, number_of, typ_of}
use Rattle.type_arguments.specs.declared.normal.Normal.{Normal}
use Rattle.type_arguments.specs.declared.normal.Normal.TheVariants as N
use Rattle.type_arguments.proofs.Makings.{map_parts, more_parts, nothing_made, then_parts}
use Rattle.sail_kinds.specs.declared.error.TableError.{TableError}
use Rattle.sail_kinds.specs.declared.error.TableError.TheVariants as error
use Rattle.sail_kinds.specs.declared.error.Mismatch.TheVariants as Found
use Rattle.sail_kinds.specs.declared.scope.FoundVariable.{FoundVariable}
use Rattle.sail_kinds.specs.declared.scope.Meaning.{Meaning}
use Rattle.sail_kinds.specs.declared.scope.Meaning.TheVariants as M
use Rattle.sail_kinds.specs.declared.scope.NamedType.{NamedType}
use Rattle.sail_kinds.specs.declared.scope.Variable.{Variable}
use Rattle.sail_kinds.specs.Builtin.{int, look_up}
use Rattle.sail_kinds.specs.Normal.{Part, Reading, applied_name, applied_type, argument_scope, arguments_read, as_kind, bare, both, bound, computed}
use Rattle.sail_kinds.specs.Normal.{connected, constraint_part, existential, fails, form_part, index_of, is_connective, is_of, kind_of}
use Rattle.sail_kinds.specs.Normal.{made, made_of, made_of_both, meant, name_read, named_type, negated, not_of, nothing, number_part, one_of, opened}
use Rattle.sail_kinds.specs.Normal.{operated, part, part_of_kind, power_at, prefixed, reading_as, stands_for, then_read, typ_part}
use Rattle.sail_kinds.specs.Normal.{variable_normal, variable_read}
use Rattle.sail_kinds.specs.Repeated.{clashes, is_none_of}
use Rattle.sail_kinds.specs.Scopes.{Within, binder, inside_binder, inside_list, int_variable, seen_past, variable_of}
use Rattle.sail_core.specs.Numbers.{Givens, given_bool, given_int}
use Rattle.shape_joins.proofs.JoinsLeast.{none, some_same}
use Rattle.shape_joins.proofs.Order.{two}
use Rattle.shape_meanings.specs.Whole.{all_of}
use Rattle.shape_progress.specs.Conditions.{given_in, is_there, truth_given}
use Rattle.text_progress.specs.GivenTypes.{all_typs_given, form_given, indices_given, typ_given}
use Rattle.text_progress.proofs.GivenNumbers.{constant_given, power_given, read_given, sum_given}
use Rattle.text_progress.proofs.TypesGiven.{applied_given}
use Rattle.text_progress.proofs.TypesGiven as Typs
use Rattle.text_progress.proofs.KindedTypes.{all_kinded, applied_kinded, con_at, holds_is, indices_kinded, inside, numbers_alone, read_truth, truth_is, typ_kinded}
use Rattle.text_progress.proofs.KindedTypes.{variable_given}
use Rattle.text_progress.proofs.KindedTypes as Kinded

-- ---- what a text stands for

abbrev pub BothWays : Givens → Typ → Type 0
BothWays nu t = (typ_given nu t ≡ true) × (typ_kinded nu t ≡ true)

abbrev pub AllBothWays : Givens → List Typ → Type 0
AllBothWays nu ts = (all_typs_given nu ts ≡ true) × (all_kinded nu ts ≡ true)

abbrev pub NormalGiven : Givens → Normal → Type 0
NormalGiven nu (N.Number n) = given_in nu n ≡ true
NormalGiven nu (N.Constraint c) = truth_given nu c ≡ true
NormalGiven nu (N.Typ t) = BothWays nu t

abbrev pub IsGiven : Givens → Option Normal → Type 0
IsGiven nu o = (n : Normal) → o ≡ Some n → NormalGiven nu n

-- ---- scopes: what the variables there stand for

abbrev pub StandsFor : Givens → Kind → ℕ → Type 0
StandsFor nu K.Int i = is_there (given_int (slice_get nu i)) ≡ true
StandsFor nu K.Bool i = is_there (given_bool (slice_get nu i)) ≡ true
StandsFor nu K.Type i = Unit {0}

abbrev pub FoundGiven : Givens → Option FoundVariable → Type 0
FoundGiven nu o = (found : FoundVariable) → o ≡ Some found → StandsFor nu found.kind found.number

abbrev pub ScopeGiven : Givens → List Variable → Type 0
ScopeGiven nu variables = (name : List ℕ) → FoundGiven nu (variable_of name variables)

-- behind a variable of this kind
abbrev pub behind_kind : Kind → Givens → Givens
behind_kind K.Int nu = inside nu
behind_kind K.Bool nu = a_bool true ∷ nu
behind_kind K.Type nu = nu

at_next : (g : Given) (nu : Givens) (i : ℕ) → slice_get (g ∷ nu) (i + 1) ≡ slice_get nu i
at_next g nu i = ap (slice_get (g ∷ nu)) (add-one i)

past : (kind own : Kind) (i : ℕ) (nu : Givens) → StandsFor nu own i
    → StandsFor (behind_kind kind nu) (seen_past kind (record { kind = own; number = i })).kind (seen_past kind (record { kind = own; number = i })).number
past K.Type K.Type i nu h = tt
past K.Type K.Int i nu h = h
past K.Type K.Bool i nu h = h
past K.Int K.Type i nu h = tt
past K.Int K.Int i nu h = ap (λ g. is_there (given_int g)) (at_next (an_int (pos 0)) nu i) ∙ h
past K.Int K.Bool i nu h = ap (λ g. is_there (given_bool g)) (at_next (an_int (pos 0)) nu i) ∙ h
past K.Bool K.Type i nu h = tt
past K.Bool K.Int i nu h = ap (λ g. is_there (given_int g)) (at_next (a_bool true) nu i) ∙ h
past K.Bool K.Bool i nu h = ap (λ g. is_there (given_bool g)) (at_next (a_bool true) nu i) ∙ h

first_stands : (kind : Kind) (nu : Givens) → StandsFor (behind_kind kind nu) kind 0
first_stands K.Int nu = refl
first_stands K.Bool nu = refl
first_stands K.Type nu = tt

-- one variable more
pub one_behind : (kind : Kind) (b : Bool) (o : Option FoundVariable) (nu : Givens) → FoundGiven nu o
    → FoundGiven (behind_kind kind nu) (if b then Some (record { kind = kind; number = 0 }) else option_map (seen_past kind) o)
one_behind kind true o nu h found e =
    subst (λ (f : FoundVariable). StandsFor (behind_kind kind nu) f.kind f.number) (some_same (record { kind = kind; number = 0 }) found e)
    (first_stands kind nu)
one_behind kind false None nu h found e = none e
one_behind kind false (Some old) nu h found e =
    subst (λ (f : FoundVariable). StandsFor (behind_kind kind nu) f.kind f.number) (some_same (seen_past kind old) found e)
    (past kind old.kind old.number nu (h old refl))

-- behind the variables of an existential type, the last of which is the innermost
abbrev pub behind : List Name → Givens → Givens
behind [] nu = nu
behind (name ∷ names) nu = behind names (inside nu)

inner_scope : (names : List Name) (nu : Givens) (variables : List Variable) → ScopeGiven nu variables
    → ScopeGiven (behind names nu) (binder names ++ variables)
inner_scope [] nu variables h = h
inner_scope (n ∷ names) nu variables h =
    let first : Variable = int_variable n.text in
    subst (ScopeGiven (behind names (inside nu)))
    (sym (ap (λ (us : List Variable). us ++ variables) (reverse-append (first ∷ []) (map (λ (name : Name). int_variable name.text) names))
    ∙ append_assoc (binder names) (first ∷ []) variables))
    (inner_scope names (inside nu) (first ∷ variables) (λ name. one_behind K.Int (bytes_eq n.text name) (variable_of name variables) nu (h name)))

-- a part that stands for such, wherever it is read
abbrev IsGivenPart : Part → Type 0
IsGivenPart p = (nu : Givens) (w : Within) → ScopeGiven nu w.variables → IsGiven nu (p.read w).normal

module _ (nu : Givens) where
  -- ---- what is made of parts

  given : (x : Normal) → NormalGiven nu x → IsGiven nu (Some x)
  given x h n e = subst (NormalGiven nu) (some_same x n e) h

  none_given : IsGiven nu None
  none_given n e = none e

  either : (b : Bool) (r s : Reading Normal) → IsGiven nu r.normal → IsGiven nu s.normal → IsGiven nu (cond b r s).normal
  either true r s left right = left
  either false r s left right = right

  then_given : {A : Type 0} (o : Option A) (f : A → Reading Normal) → ((x : A) → o ≡ Some x → IsGiven nu (f x).normal) → IsGiven nu (made_of f o).normal
  then_given None f next n e = none e
  then_given (Some x) f next n e = next x refl n e

  both_given : {A B : Type 0} (o : Option A) (p : Option B) (f : A → B → Reading Normal)
      → ((x : A) (y : B) → o ≡ Some x → p ≡ Some y → IsGiven nu (f x y).normal) → IsGiven nu (made_of_both f o p).normal
  both_given None p f next n e = none e
  both_given (Some x) None f next n e = none e
  both_given (Some x) (Some y) f next n e = next x y refl refl n e

  -- ---- parts of a kind

  picked : (b : Bool) (m : Normal) (e : TableError) → NormalGiven nu m → IsGiven nu (cond b (stands_for m) (fails e)).normal
  picked true m e h = given m h
  picked false m e h = none_given

  kind_made : (kind : Kind) (place : Place) (o : Option Normal) → IsGiven nu o → IsGiven nu (made_of (as_kind kind place) o).normal
  kind_made kind place None h = none_given
  kind_made kind place (Some m) h = picked (is_of kind m) m (error.IllKinded place (Some (Found.Kinds kind (kind_of m)))) (h m refl)

  kind_part : (p : Part) → IsGivenPart p → (kind : Kind) (w : Within) → ScopeGiven nu w.variables → IsGiven nu (part_of_kind w kind p).normal
  kind_part p h kind w scope = kind_made kind p.place (p.read w).normal (h nu w scope)

  pub number_taken : (n : Normal) (m : Num) → NormalGiven nu n → number_of n ≡ Some m → given_in nu m ≡ true
  number_taken (N.Number i) m h e = subst (λ x. given_in nu x ≡ true) (some_same i m e) h
  number_taken (N.Constraint c) m h e = none e
  number_taken (N.Typ t) m h e = none e

  pub truth_taken : (n : Normal) (c : Con) → NormalGiven nu n → constraint_of n ≡ Some c → truth_given nu c ≡ true
  truth_taken (N.Number i) c h e = none e
  truth_taken (N.Constraint d) c h e = subst (λ x. truth_given nu x ≡ true) (some_same d c e) h
  truth_taken (N.Typ t) c h e = none e

  pub typ_taken : (n : Normal) (t : Typ) → NormalGiven nu n → typ_of n ≡ Some t → BothWays nu t
  typ_taken (N.Number i) t h e = none e
  typ_taken (N.Constraint c) t h e = none e
  typ_taken (N.Typ u) t h e = subst (BothWays nu) (some_same u t e) h

  number_made : (p : Part) → IsGivenPart p → (w : Within) → ScopeGiven nu w.variables → (m : Num) → (number_part w p).normal ≡ Some m
      → given_in nu m ≡ true
  number_made p h w scope m e =
      let n = then_parts (part_of_kind w K.Int p).normal number_of m e in number_taken n.0 m (kind_part p h K.Int w scope n.0 n.1) n.2

  truth_made : (p : Part) → IsGivenPart p → (w : Within) → ScopeGiven nu w.variables → (c : Con) → (constraint_part w p).normal ≡ Some c
      → truth_given nu c ≡ true
  truth_made p h w scope c e =
      let n = then_parts (part_of_kind w K.Bool p).normal constraint_of c e in truth_taken n.0 c (kind_part p h K.Bool w scope n.0 n.1) n.2

  typ_made : (p : Part) → IsGivenPart p → (w : Within) → ScopeGiven nu w.variables → (t : Typ) → (typ_part w p).normal ≡ Some t → BothWays nu t
  typ_made p h w scope t e =
      let n = then_parts (part_of_kind w K.Type p).normal typ_of t e in typ_taken n.0 t (kind_part p h K.Type w scope n.0 n.1) n.2

  -- ---- numbers and constraints

  zero_given : given_in nu zero_num ≡ true
  zero_given = constant_given nu (pos 0)

  by_factor : (a b m : Num) → given_in nu a ≡ true → given_in nu b ≡ true → (p q : Bool)
      → cond p (plus (constant_of a) b zero_num) (cond q (plus (constant_of b) a zero_num) None) ≡ Some m → given_in nu m ≡ true
  by_factor a b m g h true q e = sum_given nu (constant_of a) b zero_num m h zero_given e
  by_factor a b m g h false true e = sum_given nu (constant_of b) a zero_num m g zero_given e
  by_factor a b m g h false false e = none e

  one_number : (place : Place) (o : Option Num) → ((x : Num) → o ≡ Some x → given_in nu x ≡ true) → IsGiven nu (made place o).normal
  one_number place None h = none_given
  one_number place (Some m) h = given (N.Number m) (h m refl)

  compared : (how : Comparison) (n m : Num) → given_in nu n ≡ true → given_in nu m ≡ true → IsGiven nu (Some (N.Constraint (V.Compare how n m)))
  compared how n m g h =
      given (N.Constraint (V.Compare how n m))
      (con_at nu (C.Compare how n m) (V.Compare how n m) (V.rolls-Compare how n m) (two (given_in nu n) (given_in nu m) g h))

  computed_given : (operator : TypeOperator) (place : Place) (n m : Num) → given_in nu n ≡ true → given_in nu m ≡ true
      → IsGiven nu (computed operator place n m).normal
  computed_given O.Star place n m g h = one_number place (product n m) (λ x e. by_factor n m x g h (is_constant n) (is_constant m) e)
  computed_given O.Plus place n m g h = one_number place (sum n m) (λ x e. sum_given nu (pos 1) m n x h g e)
  computed_given O.Minus place n m g h = one_number place (difference n m) (λ x e. sum_given nu (negsuc 0) m n x h g e)
  computed_given O.Equal place n m g h = compared Is.Equal n m g h
  computed_given O.NotEqual place n m g h = compared Is.NotEqual n m g h
  computed_given O.Less place n m g h = compared Is.Less n m g h
  computed_given O.LessEqual place n m g h = compared Is.LessEqual n m g h
  computed_given O.Greater place n m g h = compared Is.Greater n m g h
  computed_given O.GreaterEqual place n m g h = compared Is.GreaterEqual n m g h
  computed_given O.And place n m g h = none_given
  computed_given O.Or place n m g h = none_given

  two_truths : (c d : Con) → truth_given nu c ≡ true → truth_given nu d ≡ true → (truth_given nu c && (truth_given nu d && true)) ≡ true
  two_truths c d g h = two (truth_given nu c) (truth_given nu d && true) g (two (truth_given nu d) true h refl)

  connected_given : (operator : TypeOperator) (c d : Con) → truth_given nu c ≡ true → truth_given nu d ≡ true → IsGiven nu (connected operator c d).normal
  connected_given O.And c d g h =
      given (N.Constraint (V.All (c ∷ d ∷ [])))
      (con_at nu (C.All (c ∷ d ∷ [])) (V.All (c ∷ d ∷ [])) (V.rolls-All (c ∷ d ∷ [])) (two_truths c d g h))
  connected_given operator c d g h =
      given (N.Constraint (V.Any (c ∷ d ∷ [])))
      (con_at nu (C.Any (c ∷ d ∷ [])) (V.Any (c ∷ d ∷ [])) (V.rolls-Any (c ∷ d ∷ [])) (two_truths c d g h))

  prefixed_given : (prefix : TypePrefix) (place : Place) (w : Within) → ScopeGiven nu w.variables → (p : Part) → IsGivenPart p
      → IsGiven nu (prefixed prefix place w p).normal
  prefixed_given P.Negate place w scope p h =
      then_given (number_part w p).normal (negated place)
      (λ n e. one_number place (difference zero_num n) (λ x f. sum_given nu (negsuc 0) n zero_num x (number_made p h w scope n e) zero_given f))
  prefixed_given P.Power place w scope p h =
      then_given (number_part w p).normal (power_at place)
      (λ n e. either (is_constant n && is_none (small_power (constant_of n))) (fails (error.IllKinded place None))
      (stands_for (N.Number (power_num n))) none_given (given (N.Number (power_num n)) (power_given nu n (number_made p h w scope n e))))
  prefixed_given P.Not place w scope p h =
      then_given (constraint_part w p).normal not_of
      (λ c e. given (N.Constraint (V.Not c)) (con_at nu (C.Not c) (V.Not c) (V.rolls-Not c) (truth_made p h w scope c e)))

  operated_given : (operator : TypeOperator) (place : Place) (w : Within) → ScopeGiven nu w.variables → (p q : Part) → IsGivenPart p → IsGivenPart q
      → IsGiven nu (operated operator place w p q).normal
  operated_given operator place w scope p q g h =
      either (is_connective operator) (both (constraint_part w p) (constraint_part w q) (connected operator))
      (both (number_part w p) (number_part w q) (computed operator place))
      (both_given (constraint_part w p).normal (constraint_part w q).normal (connected operator)
      (λ c d e f. connected_given operator c d (truth_made p g w scope c e) (truth_made q h w scope d f)))
      (both_given (number_part w p).normal (number_part w q).normal (computed operator place)
      (λ n m e f. computed_given operator place n m (number_made p g w scope n e) (number_made q h w scope m f)))

  -- ---- variables

  typ_both : (x : Typ-F Typ) (t : Typ) → roll-Typ x ≡ t → form_given nu (map-Typ Typ Bool (typ_given nu) x) ≡ true → Kinded.opened nu x ≡ true
      → BothWays nu t
  typ_both x t is g h = (Typs.made nu x t is g, Kinded.made nu x t is h)

  variable_made : (kind : Kind) (i : ℕ) → StandsFor nu kind i → NormalGiven nu (variable_normal kind i)
  variable_made K.Int i h = variable_given nu i h
  variable_made K.Bool i h = holds_is nu i h
  variable_made K.Type i h = typ_both (T.Variable i) (W.Variable i) (W.rolls-Variable i) refl refl

  found_given : (name : Name) (o : Option FoundVariable) → FoundGiven nu o → IsGiven nu (variable_read name o).normal
  found_given name None h = none_given
  found_given name (Some found) h = given (variable_normal found.kind found.number) (variable_made found.kind found.number (h found refl))

  -- ---- named types, whatever they stand for

  normal_put : (n m : Normal) (is : List Index) (ts : List Typ) → indices_kinded nu is ≡ true → AllBothWays nu ts → applied is ts n ≡ Some m
      → NormalGiven nu m
  normal_put (N.Number n) m is ts g h e =
      let p = map_parts N.Number (read is n) m e in subst (NormalGiven nu) p.2 (read_given nu is n p.0 (numbers_alone nu is g) p.1)
  normal_put (N.Constraint c) m is ts g h e =
      let p = map_parts N.Constraint (read_con is c) m e in subst (NormalGiven nu) p.2 (read_truth nu is c p.0 g p.1)
  normal_put (N.Typ t) m is ts g h e =
      let p = map_parts N.Typ (applied_typ is ts t) m e in
      subst (NormalGiven nu) p.2 (applied_given nu t is ts p.0 (numbers_alone nu is g) h.0 p.1, applied_kinded t nu is ts p.0 g h.1 p.1)

  opened_given : (place : Place) (o : Option Normal) → IsGiven nu o → IsGiven nu (opened place o).normal
  opened_given place None h = none_given
  opened_given place (Some n) h = either (is_void_normal n) (fails (error.IllKinded place None)) (stands_for n) none_given (given n (h n refl))

  meant_given : (place : Place) (meaning : Meaning) (is : List Index) (ts : List Typ) → indices_kinded nu is ≡ true → AllBothWays nu ts
      → IsGiven nu (meant place meaning is ts).normal
  meant_given place (M.Alias n) is ts g h = opened_given place (applied is ts n) (λ m e. normal_put n m is ts g h e)
  meant_given place (M.Defined i) is ts g h =
      given (N.Typ (W.Named i is ts)) (typ_both (T.Named i is ts) (W.Named i is ts) (W.rolls-Named i is ts)
      (two (indices_given nu is) (all_typs_given nu ts) (numbers_alone nu is g) h.0)
      (two (indices_kinded nu is) (all_of (map (λ f. f nu) (map (λ t. fold-Typ Kinded.Kinded Kinded.form_kinded t) ts))) g
      (Kinded.tuple_parts nu ts h.1)))
  meant_given place M.Unknown is ts g h = none_given

  -- ---- several parts

  abbrev Such : Type 0
  Such = (t : TyExp) × IsGivenPart (part t)

  abbrev texts : List Such → List TyExp
  texts ps = map (λ (p : Such). p.0) ps

  abbrev parts_of : List Such → List Part
  parts_of ps = map part (texts ps)

  types_made : (w : Within) → ScopeGiven nu w.variables → (ps : List Such) (ts : List Typ)
      → together (map (λ (r : Reading Typ). r.normal) (map (typ_part w) (parts_of ps))) ≡ Some ts → AllBothWays nu ts
  types_made w scope [] ts e = subst (AllBothWays nu) (nothing_made ts e) (refl, refl)
  types_made w scope (p ∷ ps) ts e =
      let m = more_parts (typ_part w (part p.0)).normal (together (map (λ (r : Reading Typ). r.normal) (map (typ_part w) (parts_of ps)))) ts e in
      let own = typ_made (part p.0) p.1 w scope m.0 m.2 in
      let rest = types_made w scope ps m.1 m.3 in
      subst (AllBothWays nu) m.4
      (two (typ_given nu m.0) (all_typs_given nu m.1) own.0 rest.0, two (typ_kinded nu m.0) (all_kinded nu m.1) own.1 rest.1)

  abbrev ArgumentsGiven : List Normal → Type 0
  ArgumentsGiven ns = (indices_kinded nu (filter_map index_of ns) ≡ true) × AllBothWays nu (filter_map typ_of ns)

  one_argument : (n : Normal) (ns : List Normal) → NormalGiven nu n → ArgumentsGiven ns → ArgumentsGiven (n ∷ ns)
  one_argument (N.Number i) ns own rest = (two (given_in nu i) (indices_kinded nu (filter_map index_of ns)) own rest.0, rest.1)
  one_argument (N.Constraint c) ns own rest = (two (truth_given nu c) (indices_kinded nu (filter_map index_of ns)) own rest.0, rest.1)
  one_argument (N.Typ t) ns own rest = (
    rest.0,
    (
      two (typ_given nu t) (all_typs_given nu (filter_map typ_of ns)) own.0 rest.1.0,
      two (typ_kinded nu t) (all_kinded nu (filter_map typ_of ns)) own.1 rest.1.1,
    ),
  )

  abbrev all_arguments : Within → List Kind → List Part → Option (List Normal)
  all_arguments w kinds parts = together (map (λ (r : Reading Normal). r.normal) (map (λ pair. part_of_kind w pair.0 pair.1) (zip kinds parts)))

  arguments_made : (w : Within) → ScopeGiven nu w.variables → (kinds : List Kind) (ps : List Such) (ns : List Normal)
      → all_arguments w kinds (parts_of ps) ≡ Some ns → ArgumentsGiven ns
  arguments_made w scope [] ps ns e = subst ArgumentsGiven (nothing_made ns e) (refl, (refl, refl))
  arguments_made w scope (kind ∷ kinds) [] ns e = subst ArgumentsGiven (nothing_made ns e) (refl, (refl, refl))
  arguments_made w scope (kind ∷ kinds) (p ∷ ps) ns e =
      let m = more_parts (part_of_kind w kind (part p.0)).normal (all_arguments w kinds (parts_of ps)) ns e in
      subst ArgumentsGiven m.4
      (one_argument m.0 m.1 (kind_part (part p.0) p.1 kind w scope m.0 m.2) (arguments_made w scope kinds ps m.1 m.3))

  -- its arguments as the type takes them
  abbrev chosen : List Normal → List Index × List Typ
  chosen ns = (filter_map index_of ns, filter_map typ_of ns)

  by_arguments : (name : Name) (ps : List Such) (t : NamedType) (w : Within) → ScopeGiven nu w.variables → (a : List Index × List Typ)
      → option_map chosen (all_arguments w t.parameters (parts_of ps)) ≡ Some a → IsGiven nu (meant name.place t.meaning a.0 a.1).normal
  by_arguments name ps t w scope a e =
      let x = map_parts chosen (all_arguments w t.parameters (parts_of ps)) a e in
      let args = arguments_made w scope t.parameters ps x.0 x.1 in
      subst (λ (b : List Index × List Typ). IsGiven nu (meant name.place t.meaning b.0 b.1).normal) x.2
      (meant_given name.place t.meaning (filter_map index_of x.0) (filter_map typ_of x.0) args.0 args.1)

  by_count : (name : Name) (ps : List Such) (t : NamedType) (w : Within) → ScopeGiven nu w.variables → (b : Bool)
      → IsGiven nu (cond b (then_read (arguments_read w t.parameters (parts_of ps)) (λ a. meant name.place t.meaning a.0 a.1))
      (fails (error.IllKinded name.place (Some (Found.Counts (length t.parameters) (length (parts_of ps))))))).normal
  by_count name ps t w scope true =
      then_given (arguments_read w t.parameters (parts_of ps)).normal (λ a. meant name.place t.meaning a.0 a.1) (by_arguments name ps t w scope)
  by_count name ps t w scope false = none_given

  in_argument : (b : Bool) (w : Within) → ScopeGiven nu w.variables → ScopeGiven nu (cond b (inside_list w) w).variables
  in_argument true w scope = scope
  in_argument false w scope = scope

  applied_read : (name : Name) (ps : List Such) (t : NamedType) (w : Within) → ScopeGiven nu w.variables
      → IsGiven nu (applied_type name (parts_of ps) t w).normal
  applied_read name ps t w scope =
      by_count name ps t (argument_scope name w) (in_argument (bytes_eq name.text (codes "list")) w scope)
      (nat_eq (length (parts_of ps)) (length t.parameters))

  named_read : (name : Name) (ps : List Such) (o : Option NamedType) (w : Within) → ScopeGiven nu w.variables
      → IsGiven nu (applied_name name (parts_of ps) o w).normal
  named_read name ps None w scope = none_given
  named_read name ps (Some t) w scope = applied_read name ps t w scope

  name_given : (name : Name) (ps : List Such) (o : Option Typ) → ((t : Typ) → o ≡ Some t → BothWays nu t) → (w : Within)
      → ScopeGiven nu w.variables → IsGiven nu (name_read name (parts_of ps) o w).normal
  name_given name ps None h w scope = named_read name ps (named_type name.text w) w scope
  name_given name ps (Some t) h w scope = given (N.Typ t) (h t refl)

  typ_picked : (b : Bool) (own : Typ) (rest : Option Typ) (t : Typ) → BothWays nu own → (rest ≡ Some t → BothWays nu t)
      → cond b (Some own) rest ≡ Some t → BothWays nu t
  typ_picked true own rest t h next e = subst (BothWays nu) (some_same own t e) h
  typ_picked false own rest t h next e = next e

  -- `bool` and `int` without an argument
  bare_given : (name : List ℕ) (ps : List Part) (t : Typ) → bare name ps ≡ Some t → BothWays nu t
  bare_given name [] t e =
      typ_picked (bytes_eq name (codes "bool")) W.Bool (look_up name ((codes "int", int) ∷ [])) t (typ_both T.Bool W.Bool W.rolls-Bool refl refl)
      (typ_picked (bytes_eq name (codes "int")) int None t
      (typ_both (T.Range (constant (neg_ℤ (pos largest))) (constant (pos largest))) int
      (W.rolls-Range (constant (neg_ℤ (pos largest))) (constant (pos largest))) refl
      (two (given_in nu (constant (neg_ℤ (pos largest)))) (given_in nu (constant (pos largest))) (constant_given nu (neg_ℤ (pos largest)))
      (constant_given nu (pos largest)))) none) e
  bare_given name (p ∷ ps) t e = none e

-- ---- binders

existential_given : (names : List Name) (nu : Givens) (c : Con) (t : Typ) → truth_given (behind names nu) c ≡ true → BothWays (behind names nu) t
    → BothWays nu (existential names c t)
existential_given [] nu c t k h = h
existential_given (name ∷ []) nu c t k h =
    typ_both nu (T.Exists name.text c t) (W.Exists name.text c t) (W.rolls-Exists name.text c t) refl
    (two (truth_given (inside nu) c) (typ_kinded (inside nu) t) k h.1)
existential_given (name ∷ other ∷ names) nu c t k h =
    let inner : Typ = existential (other ∷ names) c t in
    typ_both nu (T.Exists name.text (V.Truth true) inner) (W.Exists name.text (V.Truth true) inner) (W.rolls-Exists name.text (V.Truth true) inner) refl
    (two (truth_given (inside nu) (V.Truth true)) (typ_kinded (inside nu) inner) (truth_is (inside nu) true)
    (existential_given (other ∷ names) (inside nu) c t k h).1)

bound_given : (names : List Name) (nu : Givens) (c : Con) (t : Typ) → truth_given (behind names nu) c ≡ true → BothWays (behind names nu) t
    → IsGiven nu (bound names c t).normal
bound_given names nu c t k h =
    either nu (is_none_of (clashes names)) (stands_for (N.Typ (existential names c t))) nothing
    (given nu (N.Typ (existential names c t)) (existential_given names nu c t k h)) (none_given nu)

exists_given : (names : List Name) (nu : Givens) (r : Reading Con) → ((c : Con) → r.normal ≡ Some c → truth_given (behind names nu) c ≡ true)
    → (p : Such nu) (w : Within) → ScopeGiven (behind names nu) (inside_binder names w).variables
    → IsGiven nu (both r (typ_part (inside_binder names w) (part p.0)) (bound names)).normal
exists_given names nu r k p w scope =
    both_given nu r.normal (typ_part (inside_binder names w) (part p.0)).normal (bound names)
    (λ c t e f. bound_given names nu c t (k c e) (typ_made (behind names nu) (part p.0) p.1 (inside_binder names w) scope t f))

-- ---- all forms

abbrev SuchText : Type 0
SuchText = (t : TyExp) × IsGivenPart (part t)

step : (y : TyExp-F SuchText) → IsGivenPart (form_part (map-TyExp TyExp Part part (map-TyExp SuchText TyExp (λ p. p.0) y)))
step (X.Named name ps) nu w scope =
    name_given nu name ps (bare name.text (parts_of nu ps)) (bare_given nu name.text (parts_of nu ps)) w scope
step (X.Variable name) nu w scope = found_given nu name (variable_of name.text w.variables) (scope name.text)
step (X.Number place n) nu w scope = given nu (N.Number (constant n)) (constant_given nu n)
step (X.Truth place b) nu w scope = given nu (N.Constraint (V.Truth b)) (truth_is nu b)
step (X.Prefix place prefix p) nu w scope = prefixed_given nu prefix place w scope (part p.0) p.1
step (X.Infix place operator p q) nu w scope = operated_given nu operator place w scope (part p.0) (part q.0) p.1 q.1
step (X.OneOf place p choices) nu w scope =
    then_given nu (number_part w (part p.0)).normal (one_of choices)
    (λ n e. given nu (N.Constraint (V.OneOf n choices))
    (con_at nu (C.OneOf n choices) (V.OneOf n choices) (V.rolls-OneOf n choices) (number_made nu (part p.0) p.1 w scope n e)))
step (X.Tuple place ps) nu w scope = λ n e.
    let p = map_parts (λ ts. N.Typ (W.Tuple ts)) (together (map (λ (r : Reading Typ). r.normal) (map (typ_part w) (parts_of nu ps)))) n e in
    let all = types_made nu w scope ps p.0 p.1 in
    subst (NormalGiven nu) p.2 (typ_both nu (T.Tuple p.0) (W.Tuple p.0) (W.rolls-Tuple p.0) all.0 (Kinded.tuple_parts nu p.0 all.1))
step (X.Exists place names None p) nu w scope =
    exists_given names nu (stands_for (V.Truth true))
    (λ c e. subst (λ d. truth_given (behind names nu) d ≡ true) (some_same (V.Truth true) c e) (truth_is (behind names nu) true)) p w
    (inner_scope names nu w.variables scope)
step (X.Exists place names (Some c) p) nu w scope =
    let scoped = inner_scope names nu w.variables scope in
    exists_given names nu (constraint_part (inside_binder names w) (part c.0))
    (λ d e. truth_made (behind names nu) (part c.0) c.1 (inside_binder names w) scoped d e) p w scoped

rolled : (y : TyExp-F SuchText) → IsGivenPart (part (roll-TyExp (map-TyExp SuchText TyExp (λ p. p.0) y)))
rolled y = subst IsGivenPart (sym (fold-roll-TyExp Part form_part (map-TyExp SuchText TyExp (λ p. p.0) y))) (step y)

part_given : (t : TyExp) → IsGivenPart (part t)
part_given = ind-TyExp (λ t. IsGivenPart (part t)) (λ e y is. subst (λ d. IsGivenPart (part (roll-TyExp d))) is (rolled y))

-- a text of a kind
pub text_given : (kind : Kind) (t : TyExp) (nu : Givens) (w : Within) → ScopeGiven nu w.variables → IsGiven nu (reading_as kind t w).normal
text_given kind t nu w scope = kind_part nu (part t) (part_given t) kind w scope
