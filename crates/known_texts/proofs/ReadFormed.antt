-- What the text of a type stands for is well formed under the Type variables of the place where it is read, where all that names stand for is.
use Rattle.std.proofs.Common.{◌≡◌, ℕ, zero, suc, ◌+◌, List, [], ◌∷◌, ◌++◌, map, length, append_assoc, ap, sym, ◌∙◌, refl, subst, arith}
use Rattle.std.proofs.Common.{Bool, true, false, not, ◌&&◌, cond, if◌then◌else◌, bytes_eq, nat_eq, nat_lt, codes, filter_map}
use Rattle.std.specs.Prelude.{pos, neg_ℤ, Option, Some, None, is_none, option_map}
use Rattle.std.specs.List.{zip}
use Rattle.std.specs.Option.{option_map_or, option_or}
use Rattle.std.proofs.lemmas.Bool.Decides.{nat_tests}
use Rattle.std.proofs.lemmas.List.{reverse-append}
use Rattle.sail_base.specs.declared.kind.Kind.{Kind}
use Rattle.sail_base.specs.declared.kind.Kind.TheVariants as K
use Rattle.sail_base.specs.declared.place.Place.{Place}
use Rattle.sail_syntax.specs.declared.name.Name.{Name}
use Rattle.sail_syntax.specs.declared.words.TypePrefix.{TypePrefix}
use Rattle.sail_syntax.specs.declared.words.TypePrefix.TheVariants as P
use Rattle.sail_syntax.specs.declared.words.TypeOperator.{TypeOperator}
use Rattle.sail_syntax.specs.declared.words.TypeOperator.TheVariants as O
use Rattle.sail_syntax.specs.declared.types.TyExp.{TyExp, TyExp-F, roll-TyExp, fold-roll-TyExp, map-TyExp, ind-TyExp}
use Rattle.sail_syntax.specs.declared.types.TyExp.TheOpen as X
use Rattle.sail_types.specs.Limits.{largest, small_power}
use Rattle.sail_types.specs.Readings.{together}
use Rattle.sail_types.specs.Sums.{and_then, constant, constant_of, difference, is_constant, power_num, product, sum, variable, zero_num}
use Rattle.sail_types.specs.declared.numbers.Comparison.TheVariants as Is
use Rattle.sail_types.specs.declared.numbers.Con.{Con}
use Rattle.sail_types.specs.declared.numbers.Con.TheVariants as C
use Rattle.sail_types.specs.declared.numbers.Index.{Index}
use Rattle.sail_types.specs.declared.numbers.Num.{Num}
use Rattle.sail_types.specs.declared.table.Types.{Types}
use Rattle.sail_types.specs.declared.types.Typ.{Typ}
use Rattle.sail_types.specs.declared.types.Typ.TheOpen as T
use Rattle.sail_types.specs.declared.types.Typ.TheVariants as W
use Rattle.type_arguments.specs.Applied.{applied}
use Rattle.type_arguments.specs.Ranges.{is_void_normal}
use Rattle.type_arguments.specs.Taken.{typ_of}
use Rattle.type_arguments.specs.declared.normal.Normal.{Normal}
use Rattle.type_arguments.specs.declared.normal.Normal.TheVariants as N
use Rattle.type_arguments.proofs.Makings.{map_parts, more_parts, nothing_made, then_parts}
use Rattle.sail_kinds.specs.declared.error.TableError.{TableError}
use Rattle.sail_kinds.specs.declared.error.TableError.TheVariants as error
use Rattle.sail_kinds.specs.declared.error.Mismatch.TheVariants as Found
use Rattle.sail_kinds.specs.declared.scope.FoundVariable.{FoundVariable}
use Rattle.sail_kinds.specs.declared.scope.Meaning.{Meaning}
use Rattle.sail_kinds.specs.declared.scope.Meaning.TheVariants as M
use Rattle.sail_kinds.specs.declared.scope.NamedType.{NamedType}
use Rattle.sail_kinds.specs.declared.scope.Variable.{Variable}
use Rattle.sail_kinds.specs.Builtin.{Row, builtin, int, look_up, nat, rows}
use Rattle.sail_kinds.specs.Normal.{Part, Reading, applied_name, applied_type, argument_scope, arguments_read, as_kind, bare, both, bound, computed}
use Rattle.sail_kinds.specs.Normal.{connected, constraint_part, existential, fails, form_part, index_of, is_connective, is_of, kind_of}
use Rattle.sail_kinds.specs.Normal.{made, made_of, made_of_both, meant, name_read, named_type, negated, not_of, nothing, number_part, one_of, opened}
use Rattle.sail_kinds.specs.Normal.{operated, part, part_of_kind, power_at, prefixed, reading, reading_as, stands_for, then_read, typ_part}
use Rattle.sail_kinds.specs.Normal.{variable_normal, variable_read}
use Rattle.sail_kinds.specs.Repeated.{clashes, is_none_of}
use Rattle.sail_kinds.specs.Scopes.{Within, are_counted_together, binder, inside_binder, inside_list, int_variable, named, seen_past, variable_of}
use Rattle.shape_joins.proofs.JoinsLeast.{none, some_same}
use Rattle.shape_joins.proofs.Order.{no, two}
use Rattle.shape_rules.specs.Values.{is_type_kind}
use Rattle.shape_meanings.specs.Counted.{type_count}
use Rattle.known_texts.proofs.WellFormed.{FormedNormal, all_formed, formed, named_formed, normal_put}
use Rattle.known_texts.proofs.WellFormed as Typs

-- ---- scopes

-- how many of these kinds are `Type`
abbrev pub type_kinds : List Kind → ℕ
type_kinds [] = 0
type_kinds (kind ∷ kinds) = if is_type_kind kind then suc (type_kinds kinds) else type_kinds kinds

-- a variable that is found is one of so many, if it is a Type variable
abbrev pub OneBelow : ℕ → Option FoundVariable → Type 0
OneBelow count o = (found : FoundVariable) → o ≡ Some found → found.kind ≡ K.Type → nat_lt found.number count ≡ true

abbrev pub VariablesBelow : ℕ → List Variable → Type 0
VariablesBelow count variables = (name : List ℕ) → OneBelow count (variable_of name variables)

-- what a named type of these parameters means
abbrev pub MeaningFormed : Types → List Kind → Meaning → Type 0
MeaningFormed types kinds (M.Alias n) = FormedNormal types (type_kinds kinds) n
MeaningFormed types kinds (M.Defined i) = type_count types i ≡ type_kinds kinds
MeaningFormed types kinds M.Unknown = Unit {0}

abbrev pub NamesFormed : Types → (List ℕ → Option NamedType) → Type 0
NamesFormed types names = (name : List ℕ) (t : NamedType) → names name ≡ Some t → MeaningFormed types t.parameters t.meaning

-- where types are read under so many Type variables
pub record ScopeFormed (types : Types) (count : ℕ) (within : Within) : Type 0 where
  pub names : NamesFormed types within.types
  pub variables : VariablesBelow count within.variables

-- ---- variables

-- what isn't a Type variable shifts none
apart : (kind own : Kind) → is_type_kind kind ≡ false → are_counted_together kind own ≡ true → own ≡ K.Type → ⊥
apart K.Type own h e k = no (sym h)
apart K.Int K.Type h e k = no e
apart K.Int K.Int h e k = absurd (cc)
apart K.Int K.Bool h e k = absurd (cc)
apart K.Bool K.Type h e k = no e
apart K.Bool K.Int h e k = absurd (cc)
apart K.Bool K.Bool h e k = absurd (cc)

one_behind : (i n : ℕ) → nat_lt i n ≡ true → nat_lt (i + 1) (suc n) ≡ true
one_behind i n h = grind (arith, nat_tests, h)

one_above : (i n : ℕ) → nat_lt i n ≡ true → nat_lt i (suc n) ≡ true
one_above i n h = grind (arith, nat_tests, h)

first_of : (n : ℕ) → nat_lt 0 (suc n) ≡ true
first_of n = grind (arith, nat_tests)

-- a variable that is found behind one of Type, and behind another one
behind_type : (b : Bool) (old : FoundVariable) (n : ℕ) → nat_lt old.number n ≡ true
    → nat_lt (if b then record old { number = old.number + 1 } else old).number (suc n) ≡ true
behind_type true old n h = one_behind old.number n h
behind_type false old n h = one_above old.number n h

behind_other : (b : Bool) (old : FoundVariable) (n : ℕ) → (b ≡ true → old.kind ≡ K.Type → ⊥) → old.kind ≡ K.Type → nat_lt old.number n ≡ true
    → nat_lt (if b then record old { number = old.number + 1 } else old).number n ≡ true
behind_other true old n other is h = absurd (other refl is)
behind_other false old n other is h = h

same_kind : (b : Bool) (old : FoundVariable) → (if b then record old { number = old.number + 1 } else old).kind ≡ old.kind
same_kind true old = refl
same_kind false old = refl

past : (kind : Kind) (old : FoundVariable) (n : ℕ) → old.kind ≡ K.Type → nat_lt old.number n ≡ true
    → nat_lt (seen_past kind old).number (if is_type_kind kind then suc n else n) ≡ true
past K.Type old n is h = behind_type (are_counted_together K.Type old.kind) old n h
past K.Int old n is h = behind_other (are_counted_together K.Int old.kind) old n (apart K.Int old.kind refl) is h
past K.Bool old n is h = behind_other (are_counted_together K.Bool old.kind) old n (apart K.Bool old.kind refl) is h

first_found : (kind : Kind) (n : ℕ) → kind ≡ K.Type → nat_lt 0 (if is_type_kind kind then suc n else n) ≡ true
first_found K.Type n is = first_of n
first_found K.Int n is = absurd (cc)
first_found K.Bool n is = absurd (cc)

-- one variable more
one_more : (kind : Kind) (b : Bool) (o : Option FoundVariable) (n : ℕ) → OneBelow n o
    → OneBelow (if is_type_kind kind then suc n else n) (if b then Some (record { kind = kind; number = 0 }) else option_map (seen_past kind) o)
one_more kind true o n h found e is =
    let first : FoundVariable = record { kind = kind; number = 0 } in
    let same : first ≡ found = some_same first found e in
    subst (λ (f : FoundVariable). nat_lt f.number (if is_type_kind kind then suc n else n) ≡ true) same
    (first_found kind n (ap (λ (f : FoundVariable). f.kind) same ∙ is))
one_more kind false None n h found e is = none e
one_more kind false (Some old) n h found e is =
    let same : seen_past kind old ≡ found = some_same (seen_past kind old) found e in
    let own : old.kind ≡ K.Type = sym (same_kind (are_counted_together kind old.kind) old) ∙ ap (λ (f : FoundVariable). f.kind) same ∙ is in
    subst (λ (f : FoundVariable). nat_lt f.number (if is_type_kind kind then suc n else n) ≡ true) same (past kind old n own (h old refl own))

abbrev pub kinds_of : List Variable → List Kind
kinds_of variables = map (λ (v : Variable). v.kind) variables

pub variables_below : (variables : List Variable) → VariablesBelow (type_kinds (kinds_of variables)) variables
variables_below [] name = λ found e is. none e
variables_below (v ∷ variables) name =
    one_more v.kind (bytes_eq v.name name) (variable_of name variables) (type_kinds (kinds_of variables)) (variables_below variables name)

-- the variables of an existential type are none of Type
behind_ints : (count : ℕ) (names : List Name) (variables : List Variable) → VariablesBelow count variables
    → VariablesBelow count (binder names ++ variables)
behind_ints count [] variables h = h
behind_ints count (n ∷ names) variables h =
    let first : Variable = int_variable n.text in
    subst (VariablesBelow count)
    (sym (ap (λ (us : List Variable). us ++ variables) (reverse-append (first ∷ []) (map (λ (name : Name). int_variable name.text) names))
    ∙ append_assoc (binder names) (first ∷ []) variables))
    (behind_ints count names (first ∷ variables) (λ name. one_more K.Int (bytes_eq n.text name) (variable_of name variables) count (h name)))

-- ---- readings

module _ (types : Types) (count : ℕ) where
  abbrev pub Formed : Option Normal → Type 0
  Formed o = (n : Normal) → o ≡ Some n → FormedNormal types count n

  abbrev IsFormedPart : Part → Type 0
  IsFormedPart p = (w : Within) → ScopeFormed types count w → Formed (p.read w).normal

  -- ---- what is made of parts

  given : (x : Normal) → FormedNormal types count x → Formed (Some x)
  given x h n e = subst (FormedNormal types count) (some_same x n e) h

  none_given : Formed None
  none_given n e = none e

  either : (b : Bool) (r s : Reading Normal) → Formed r.normal → Formed s.normal → Formed (cond b r s).normal
  either true r s left right = left
  either false r s left right = right

  then_formed : {A : Type 0} (o : Option A) (f : A → Reading Normal) → ((x : A) → o ≡ Some x → Formed (f x).normal) → Formed (made_of f o).normal
  then_formed None f next n e = none e
  then_formed (Some x) f next n e = next x refl n e

  both_formed : {A B : Type 0} (o : Option A) (p : Option B) (f : A → B → Reading Normal)
      → ((x : A) (y : B) → o ≡ Some x → p ≡ Some y → Formed (f x y).normal) → Formed (made_of_both f o p).normal
  both_formed None p f next n e = none e
  both_formed (Some x) None f next n e = none e
  both_formed (Some x) (Some y) f next n e = next x y refl refl n e

  -- ---- parts of a kind

  abbrev KindFormed : Kind → Option Normal → Type 0
  KindFormed kind o = (n : Normal) → o ≡ Some n → FormedNormal types count n × (is_of kind n ≡ true)

  picked : (kind : Kind) (b : Bool) (m : Normal) (e : TableError) → FormedNormal types count m → (b ≡ true → is_of kind m ≡ true)
      → KindFormed kind (cond b (stands_for m) (fails e)).normal
  picked kind true m e h is n same = subst (λ (x : Normal). FormedNormal types count x × (is_of kind x ≡ true)) (some_same m n same) (h, is refl)
  picked kind false m e h is n same = none same

  kind_made : (kind : Kind) (place : Place) (o : Option Normal) → Formed o → KindFormed kind (made_of (as_kind kind place) o).normal
  kind_made kind place None h n e = none e
  kind_made kind place (Some m) h n e =
      picked kind (is_of kind m) m (error.IllKinded place (Some (Found.Kinds kind (kind_of m)))) (h m refl) (λ is. is) n e

  kind_part : (p : Part) → IsFormedPart p → (kind : Kind) (w : Within) → ScopeFormed types count w → KindFormed kind (part_of_kind w kind p).normal
  kind_part p h kind w scope = kind_made kind p.place (p.read w).normal (h w scope)

  pub typ_taken : (n : Normal) (t : Typ) → FormedNormal types count n → typ_of n ≡ Some t → formed types count t ≡ true
  typ_taken (N.Typ u) t h e = subst (λ (v : Typ). formed types count v ≡ true) (some_same u t e) h
  typ_taken (N.Number m) t h e = none e
  typ_taken (N.Constraint c) t h e = none e

  typ_made : (p : Part) → IsFormedPart p → (w : Within) → ScopeFormed types count w → (t : Typ) → (typ_part w p).normal ≡ Some t
      → formed types count t ≡ true
  typ_made p h w scope t e =
      let n = then_parts (part_of_kind w K.Type p).normal typ_of t e in
      typ_taken n.0 t (kind_part p h K.Type w scope n.0 n.1).0 n.2

  -- ---- numbers and constraints

  number_made : (place : Place) (o : Option Num) → Formed (made place o).normal
  number_made place None = none_given
  number_made place (Some m) = given (N.Number m) tt

  computed_made : (operator : TypeOperator) (place : Place) (n m : Num) → Formed (computed operator place n m).normal
  computed_made O.Star place n m = number_made place (product n m)
  computed_made O.Plus place n m = number_made place (sum n m)
  computed_made O.Minus place n m = number_made place (difference n m)
  computed_made O.Equal place n m = given (N.Constraint (C.Compare Is.Equal n m)) tt
  computed_made O.NotEqual place n m = given (N.Constraint (C.Compare Is.NotEqual n m)) tt
  computed_made O.Less place n m = given (N.Constraint (C.Compare Is.Less n m)) tt
  computed_made O.LessEqual place n m = given (N.Constraint (C.Compare Is.LessEqual n m)) tt
  computed_made O.Greater place n m = given (N.Constraint (C.Compare Is.Greater n m)) tt
  computed_made O.GreaterEqual place n m = given (N.Constraint (C.Compare Is.GreaterEqual n m)) tt
  computed_made O.And place n m = none_given
  computed_made O.Or place n m = none_given

  connected_made : (operator : TypeOperator) (c d : Con) → Formed (connected operator c d).normal
  connected_made O.And c d = given (N.Constraint (C.All (c ∷ d ∷ []))) tt
  connected_made operator c d = given (N.Constraint (C.Any (c ∷ d ∷ []))) tt

  prefixed_made : (prefix : TypePrefix) (place : Place) (w : Within) (p : Part) → Formed (prefixed prefix place w p).normal
  prefixed_made P.Negate place w p =
      then_formed (number_part w p).normal (negated place) (λ n e. number_made place (difference zero_num n))
  prefixed_made P.Power place w p =
      then_formed (number_part w p).normal (power_at place)
      (λ n e. either (is_constant n && is_none (small_power (constant_of n))) (fails (error.IllKinded place None))
      (stands_for (N.Number (power_num n))) none_given (given (N.Number (power_num n)) tt))
  prefixed_made P.Not place w p = then_formed (constraint_part w p).normal not_of (λ c e. given (N.Constraint (C.Not c)) tt)

  operated_made : (operator : TypeOperator) (place : Place) (w : Within) (p q : Part) → Formed (operated operator place w p q).normal
  operated_made operator place w p q =
      either (is_connective operator) (both (constraint_part w p) (constraint_part w q) (connected operator))
      (both (number_part w p) (number_part w q) (computed operator place))
      (both_formed (constraint_part w p).normal (constraint_part w q).normal (connected operator) (λ c d e f. connected_made operator c d))
      (both_formed (number_part w p).normal (number_part w q).normal (computed operator place) (λ n m e f. computed_made operator place n m))

  -- ---- variables

  variable_made : (kind : Kind) (i : ℕ) → (kind ≡ K.Type → nat_lt i count ≡ true) → FormedNormal types count (variable_normal kind i)
  variable_made K.Int i h = tt
  variable_made K.Bool i h = tt
  variable_made K.Type i h = Typs.made types count (T.Variable i) (W.Variable i) (W.rolls-Variable i) (h refl)

  variable_formed : (name : Name) (o : Option FoundVariable) → OneBelow count o → Formed (variable_read name o).normal
  variable_formed name None h = none_given
  variable_formed name (Some found) h =
      given (variable_normal found.kind found.number) (variable_made found.kind found.number (λ e. h found refl e))

  -- ---- named types

  row_picked : (b : Bool) (row : Row NamedType) (rest : Option NamedType) (t : NamedType) → MeaningFormed types row.1.parameters row.1.meaning
      → (rest ≡ Some t → MeaningFormed types t.parameters t.meaning) → cond b (Some row.1) rest ≡ Some t → MeaningFormed types t.parameters t.meaning
  row_picked true row rest t own next h =
      subst (λ (s : NamedType). MeaningFormed types s.parameters s.meaning) (some_same row.1 t h) own
  row_picked false row rest t own next h = next h

  abbrev AllRows : List (Row NamedType) → Type 0
  AllRows [] = Unit {0}
  AllRows (row ∷ more) = MeaningFormed types row.1.parameters row.1.meaning × AllRows more

  row_formed : (name : List ℕ) (table : List (Row NamedType)) → AllRows table → (t : NamedType) → look_up name table ≡ Some t
      → MeaningFormed types t.parameters t.meaning
  row_formed name [] all t h = none h
  row_formed name (row ∷ more) all t h = row_picked (bytes_eq name row.0) row (look_up name more) t all.0 (row_formed name more all.1 t) h

  first_variable : formed types 1 (W.Variable 0) ≡ true
  first_variable = Typs.made types 1 (T.Variable 0) (W.Variable 0) (W.rolls-Variable 0) refl

  -- the types of the language
  all_rows : AllRows rows
  all_rows = (
    Typs.made types 0 T.Unit W.Unit W.rolls-Unit refl,
    (
      Typs.made types 0 (T.Truth (C.Holds 0)) (W.Truth (C.Holds 0)) (W.rolls-Truth (C.Holds 0)) refl,
      (
        Typs.made types 0 T.Bit W.Bit W.rolls-Bit refl,
        (
          Typs.made types 0 (T.Bits (variable 0)) (W.Bits (variable 0)) (W.rolls-Bits (variable 0)) refl,
          (
            Typs.made types 0 (T.Bits (variable 0)) (W.Bits (variable 0)) (W.rolls-Bits (variable 0)) refl,
            (
              Typs.made types 0 (T.Int (variable 0)) (W.Int (variable 0)) (W.rolls-Int (variable 0)) refl,
              (
                Typs.made types 0 (T.Range zero_num (constant (pos largest))) nat (W.rolls-Range zero_num (constant (pos largest))) refl,
                (
                  Typs.made types 0 (T.Range (variable 0) (variable 1)) (W.Range (variable 0) (variable 1)) (W.rolls-Range (variable 0) (variable 1)) refl,
                  (
                    Typs.made types 0 T.String W.String W.rolls-String refl,
                    (
                      Typs.made types 1 (T.List (W.Variable 0)) (W.List (W.Variable 0)) (W.rolls-List (W.Variable 0)) first_variable,
                      (
                        Typs.made types 1 (T.Vector (variable 0) (W.Variable 0)) (W.Vector (variable 0) (W.Variable 0)) (W.rolls-Vector (variable 0) (W.Variable 0))
                            first_variable,
                        tt,
                      ),
                    ),
                  ),
                ),
              ),
            ),
          ),
        ),
      ),
    ),
  )

  shown : (b : Bool) (o : Option NamedType) (t : NamedType) → (o ≡ Some t → MeaningFormed types t.parameters t.meaning) → cond b None o ≡ Some t
      → MeaningFormed types t.parameters t.meaning
  shown true o t known h = none h
  shown false o t known h = known h

  either_name : (o p : Option NamedType) (t : NamedType) → (o ≡ Some t → MeaningFormed types t.parameters t.meaning)
      → (p ≡ Some t → MeaningFormed types t.parameters t.meaning) → option_or o p ≡ Some t → MeaningFormed types t.parameters t.meaning
  either_name None p t first second h = second h
  either_name (Some s) p t first second h = first h

  type_formed : (name : List ℕ) (w : Within) → ScopeFormed types count w → (t : NamedType) → named_type name w ≡ Some t
      → MeaningFormed types t.parameters t.meaning
  type_formed name w scope t =
      either_name (builtin name) (named name w) t (row_formed name rows all_rows t)
      (shown (option_map_or (bytes_eq name) w.own false && not w.is_in_list) (w.types name) t (scope.names name t))

  opened_formed : (place : Place) (o : Option Normal) → Formed o → Formed (opened place o).normal
  opened_formed place None h = none_given
  opened_formed place (Some n) h = either (is_void_normal n) (fails (error.IllKinded place None)) (stands_for n) none_given (given n (h n refl))

  meant_formed : (place : Place) (kinds : List Kind) (meaning : Meaning) → MeaningFormed types kinds meaning → (is : List Index) (ts : List Typ)
      → all_formed types count ts ≡ true → length ts ≡ type_kinds kinds → Formed (meant place meaning is ts).normal
  meant_formed place kinds (M.Alias n) h is ts all many =
      opened_formed place (applied is ts n) (λ m e. normal_put types (type_kinds kinds) count n m is ts h all e)
  meant_formed place kinds (M.Defined i) h is ts all many = given (N.Typ (W.Named i is ts)) (named_formed types count i is ts (many ∙ sym h) all)
  meant_formed place kinds M.Unknown h is ts all many = none_given

  in_argument : (b : Bool) (w : Within) → ScopeFormed types count w → ScopeFormed types count (cond b (inside_list w) w)
  in_argument true w scope = record { names = scope.names; variables = scope.variables }
  in_argument false w scope = scope

  -- ---- all forms

  abbrev Such : Type 0
  Such = (t : TyExp) × IsFormedPart (part t)

  abbrev texts : List Such → List TyExp
  texts ps = map (λ (p : Such). p.0) ps

  abbrev parts_of : List Such → List Part
  parts_of ps = map part (texts ps)

  types_made : (w : Within) → ScopeFormed types count w → (ps : List Such) (ts : List Typ)
      → together (map (λ (r : Reading Typ). r.normal) (map (typ_part w) (parts_of ps))) ≡ Some ts → all_formed types count ts ≡ true
  types_made w scope [] ts e = subst (λ (xs : List Typ). all_formed types count xs ≡ true) (nothing_made ts e) refl
  types_made w scope (p ∷ ps) ts e =
      let m = more_parts (typ_part w (part p.0)).normal (together (map (λ (r : Reading Typ). r.normal) (map (typ_part w) (parts_of ps)))) ts e in
      subst (λ (xs : List Typ). all_formed types count xs ≡ true) m.4
      (two (formed types count m.0) (all_formed types count m.1) (typ_made (part p.0) p.1 w scope m.0 m.2) (types_made w scope ps m.1 m.3))

  -- the arguments that are types
  abbrev ArgumentsFormed : ℕ → List Normal → Type 0
  ArgumentsFormed many ns = (all_formed types count (filter_map typ_of ns) ≡ true) × (length (filter_map typ_of ns) ≡ many)

  one_argument : (kind : Kind) (n : Normal) (ns : List Normal) (many : ℕ) → FormedNormal types count n → is_of kind n ≡ true → ArgumentsFormed many ns
      → ArgumentsFormed (if is_type_kind kind then suc many else many) (n ∷ ns)
  one_argument K.Int (N.Number i) ns many own is rest = rest
  one_argument K.Int (N.Constraint c) ns many own is rest = no is
  one_argument K.Int (N.Typ t) ns many own is rest = no is
  one_argument K.Bool (N.Number i) ns many own is rest = no is
  one_argument K.Bool (N.Constraint c) ns many own is rest = rest
  one_argument K.Bool (N.Typ t) ns many own is rest = no is
  one_argument K.Type (N.Number i) ns many own is rest = no is
  one_argument K.Type (N.Constraint c) ns many own is rest = no is
  one_argument K.Type (N.Typ t) ns many own is rest =
      (two (formed types count t) (all_formed types count (filter_map typ_of ns)) own rest.0, ap suc rest.1)

  none_wanted : (n : ℕ) → nat_eq zero (suc n) ≡ true → ⊥
  none_wanted n h = grind (arith, h)

  one_less : (n m : ℕ) → nat_eq (suc n) (suc m) ≡ true → nat_eq n m ≡ true
  one_less n m h = grind (arith, h)

  arguments_made : (w : Within) → ScopeFormed types count w → (kinds : List Kind) (ps : List Such) (ns : List Normal)
      → nat_eq (length (parts_of ps)) (length kinds) ≡ true
      → together (map (λ (r : Reading Normal). r.normal) (map (λ pair. part_of_kind w pair.0 pair.1) (zip kinds (parts_of ps)))) ≡ Some ns
      → ArgumentsFormed (type_kinds kinds) ns
  arguments_made w scope [] ps ns same e = subst (λ (xs : List Normal). ArgumentsFormed 0 xs) (nothing_made ns e) (refl, refl)
  arguments_made w scope (kind ∷ kinds) [] ns same e = absurd (none_wanted (length kinds) same)
  arguments_made w scope (kind ∷ kinds) (p ∷ ps) ns same e =
      let rest : Option (List Normal) =
      together (map (λ (r : Reading Normal). r.normal) (map (λ pair. part_of_kind w pair.0 pair.1) (zip kinds (parts_of ps)))) in
      let m = more_parts (part_of_kind w kind (part p.0)).normal rest ns e in
      let own = kind_part (part p.0) p.1 kind w scope m.0 m.2 in
      subst (λ (xs : List Normal). ArgumentsFormed (type_kinds (kind ∷ kinds)) xs) m.4
      (one_argument kind m.0 m.1 (type_kinds kinds) own.0 own.1
      (arguments_made w scope kinds ps m.1 (one_less (length (parts_of ps)) (length kinds) same) m.3))

  -- its arguments as the type takes them
  abbrev chosen : List Normal → List Index × List Typ
  chosen ns = (filter_map index_of ns, filter_map typ_of ns)

  abbrev all_arguments : Within → List Kind → List Part → Option (List Normal)
  all_arguments w kinds parts = together (map (λ (r : Reading Normal). r.normal) (map (λ pair. part_of_kind w pair.0 pair.1) (zip kinds parts)))

  by_arguments : (name : Name) (ps : List Such) (t : NamedType) → MeaningFormed types t.parameters t.meaning → (w : Within) → ScopeFormed types count w
      → nat_eq (length (parts_of ps)) (length t.parameters) ≡ true → (a : List Index × List Typ)
      → option_map chosen (all_arguments w t.parameters (parts_of ps)) ≡ Some a → Formed (meant name.place t.meaning a.0 a.1).normal
  by_arguments name ps t h w scope same a e =
      let x = map_parts chosen (all_arguments w t.parameters (parts_of ps)) a e in
      let args = arguments_made w scope t.parameters ps x.0 same x.1 in
      subst (λ (b : List Index × List Typ). Formed (meant name.place t.meaning b.0 b.1).normal) x.2
      (meant_formed name.place t.parameters t.meaning h (filter_map index_of x.0) (filter_map typ_of x.0) args.0 args.1)

  by_count : (name : Name) (ps : List Such) (t : NamedType) → MeaningFormed types t.parameters t.meaning → (w : Within) → ScopeFormed types count w
      → (b : Bool) → nat_eq (length (parts_of ps)) (length t.parameters) ≡ b
      → Formed (cond b (then_read (arguments_read w t.parameters (parts_of ps)) (λ a. meant name.place t.meaning a.0 a.1))
      (fails (error.IllKinded name.place (Some (Found.Counts (length t.parameters) (length (parts_of ps))))))).normal
  by_count name ps t h w scope true same =
      then_formed (arguments_read w t.parameters (parts_of ps)).normal (λ a. meant name.place t.meaning a.0 a.1)
      (by_arguments name ps t h w scope same)
  by_count name ps t h w scope false same = none_given

  applied_formed : (name : Name) (ps : List Such) (t : NamedType) → MeaningFormed types t.parameters t.meaning → (w : Within)
      → ScopeFormed types count w → Formed (applied_type name (parts_of ps) t w).normal
  applied_formed name ps t h w scope =
      by_count name ps t h (argument_scope name w) (in_argument (bytes_eq name.text (codes "list")) w scope)
      (nat_eq (length (parts_of ps)) (length t.parameters)) refl

  named_formed_at : (name : Name) (ps : List Such) (o : Option NamedType)
      → ((t : NamedType) → o ≡ Some t → MeaningFormed types t.parameters t.meaning) → (w : Within) → ScopeFormed types count w
      → Formed (applied_name name (parts_of ps) o w).normal
  named_formed_at name ps None h w scope = none_given
  named_formed_at name ps (Some t) h w scope = applied_formed name ps t (h t refl) w scope

  name_formed : (name : Name) (ps : List Such) (o : Option Typ) → ((t : Typ) → o ≡ Some t → formed types count t ≡ true) → (w : Within)
      → ScopeFormed types count w → Formed (name_read name (parts_of ps) o w).normal
  name_formed name ps None h w scope = named_formed_at name ps (named_type name.text w) (type_formed name.text w scope) w scope
  name_formed name ps (Some t) h w scope = given (N.Typ t) (h t refl)

  typ_picked : (b : Bool) (own : Typ) (rest : Option Typ) (t : Typ) → formed types count own ≡ true
      → (rest ≡ Some t → formed types count t ≡ true) → cond b (Some own) rest ≡ Some t → formed types count t ≡ true
  typ_picked true own rest t h next e = subst (λ (s : Typ). formed types count s ≡ true) (some_same own t e) h
  typ_picked false own rest t h next e = next e

  -- `bool` and `int` without an argument
  bare_formed : (name : List ℕ) (ps : List Part) (t : Typ) → bare name ps ≡ Some t → formed types count t ≡ true
  bare_formed name [] t e =
      typ_picked (bytes_eq name (codes "bool")) W.Bool (look_up name ((codes "int", int) ∷ [])) t
      (Typs.made types count T.Bool W.Bool W.rolls-Bool refl)
      (typ_picked (bytes_eq name (codes "int")) int None t
      (Typs.made types count (T.Range (constant (neg_ℤ (pos largest))) (constant (pos largest))) int
      (W.rolls-Range (constant (neg_ℤ (pos largest))) (constant (pos largest))) refl) none) e
  bare_formed name (p ∷ ps) t e = none e

  existential_formed : (names : List Name) (c : Con) (t : Typ) → formed types count t ≡ true → formed types count (existential names c t) ≡ true
  existential_formed [] c t h = h
  existential_formed (name ∷ []) c t h = Typs.made types count (T.Exists name.text c t) (W.Exists name.text c t) (W.rolls-Exists name.text c t) h
  existential_formed (name ∷ other ∷ names) c t h =
      let inner : Typ = existential (other ∷ names) c t in
      Typs.made types count (T.Exists name.text (C.Truth true) inner) (W.Exists name.text (C.Truth true) inner)
      (W.rolls-Exists name.text (C.Truth true) inner) (existential_formed (other ∷ names) c t h)

  bound_formed : (names : List Name) (c : Con) (t : Typ) → formed types count t ≡ true → Formed (bound names c t).normal
  bound_formed names c t h =
      either (is_none_of (clashes names)) (stands_for (N.Typ (existential names c t))) nothing
      (given (N.Typ (existential names c t)) (existential_formed names c t h)) none_given

  inside : (names : List Name) (w : Within) → ScopeFormed types count w → ScopeFormed types count (inside_binder names w)
  inside names w scope = record { names = scope.names; variables = behind_ints count names w.variables scope.variables }

  exists_formed : (names : List Name) (r : Reading Con) (p : Such) (w : Within) → ScopeFormed types count (inside_binder names w)
      → Formed (both r (typ_part (inside_binder names w) (part p.0)) (bound names)).normal
  exists_formed names r p w scope =
      both_formed r.normal (typ_part (inside_binder names w) (part p.0)).normal (bound names)
      (λ c t e f. bound_formed names c t (typ_made (part p.0) p.1 (inside_binder names w) scope t f))

  step : (y : TyExp-F Such) → IsFormedPart (form_part (map-TyExp TyExp Part part (map-TyExp Such TyExp (λ p. p.0) y)))
  step (X.Named name ps) w scope = name_formed name ps (bare name.text (parts_of ps)) (bare_formed name.text (parts_of ps)) w scope
  step (X.Variable name) w scope = variable_formed name (variable_of name.text w.variables) (scope.variables name.text)
  step (X.Number place n) w scope = given (N.Number (constant n)) tt
  step (X.Truth place b) w scope = given (N.Constraint (C.Truth b)) tt
  step (X.Prefix place prefix p) w scope = prefixed_made prefix place w (part p.0)
  step (X.Infix place operator p q) w scope = operated_made operator place w (part p.0) (part q.0)
  step (X.OneOf place p choices) w scope =
      then_formed (number_part w (part p.0)).normal (one_of choices) (λ n e. given (N.Constraint (C.OneOf n choices)) tt)
  step (X.Tuple place ps) w scope = λ n e.
      let p = map_parts (λ ts. N.Typ (W.Tuple ts)) (together (map (λ (r : Reading Typ). r.normal) (map (typ_part w) (parts_of ps)))) n e in
      subst (FormedNormal types count) p.2
      (Typs.made types count (T.Tuple p.0) (W.Tuple p.0) (W.rolls-Tuple p.0) (types_made w scope ps p.0 p.1))
  step (X.Exists place names None p) w scope = exists_formed names (stands_for (C.Truth true)) p w (inside names w scope)
  step (X.Exists place names (Some c) p) w scope =
      exists_formed names (constraint_part (inside_binder names w) (part c.0)) p w (inside names w scope)

  rolled : (y : TyExp-F Such) → IsFormedPart (part (roll-TyExp (map-TyExp Such TyExp (λ p. p.0) y)))
  rolled y = subst IsFormedPart (sym (fold-roll-TyExp Part form_part (map-TyExp Such TyExp (λ p. p.0) y))) (step y)

  pub part_formed : (t : TyExp) (w : Within) → ScopeFormed types count w → Formed (reading t w).normal
  part_formed = ind-TyExp (λ t. IsFormedPart (part t)) (λ e y is. subst (λ d. IsFormedPart (part (roll-TyExp d))) is (rolled y))

  -- a text of a kind
  pub kind_formed : (kind : Kind) (t : TyExp) (w : Within) → ScopeFormed types count w → Formed (reading_as kind t w).normal
  kind_formed kind t w scope n e = (kind_part (part t) (part_formed t) kind w scope n e).0

  -- a type
  pub typ_formed : (t : TyExp) (w : Within) → ScopeFormed types count w → (u : Typ) → and_then (reading_as K.Type t w).normal typ_of ≡ Some u
      → formed types count u ≡ true
  typ_formed t w scope u e = typ_made (part t) (part_formed t) w scope u e
