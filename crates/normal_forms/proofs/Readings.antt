-- A text without failures stands for something, where no name is that of a type whose definition has failed.
use Rattle.std.proofs.Common.{◌≡◌, ℕ, Bool, true, false, not, ◌&&◌, cond, bytes_eq, nat_eq, length, List, [], ◌∷◌, ◌++◌, map, refl, sym, ap, ◌∙◌, subst}
use Rattle.std.proofs.Common.{Option, Some, None, is_none, option_map, filter_map, codes}
use Rattle.std.specs.List.{zip, list_all}
use Rattle.std.specs.Option.{option_or, option_map_or, IsSome}
use Rattle.std.proofs.lemmas.Bool.{and_parts}
use Rattle.sail_base.specs.declared.kind.Kind.{Kind}
use Rattle.sail_base.specs.declared.kind.Kind.TheVariants as K
use Rattle.sail_base.specs.declared.place.Place.{Place}
use Rattle.sail_syntax.specs.declared.name.Name.{Name}
use Rattle.sail_syntax.specs.declared.words.TypePrefix.{TypePrefix}
use Rattle.sail_syntax.specs.declared.words.TypePrefix.TheVariants as P
use Rattle.sail_syntax.specs.declared.words.TypeOperator.{TypeOperator}
use Rattle.sail_syntax.specs.declared.words.TypeOperator.TheVariants as O
use Rattle.sail_syntax.specs.declared.types.TyExp.{TyExp, TyExp-F, roll-TyExp, fold-roll-TyExp, map-TyExp, ind-TyExp}
use Rattle.sail_syntax.specs.declared.types.TyExp.TheOpen as X
use Rattle.sail_types.specs.Limits.{small_power}
use Rattle.sail_types.specs.Readings.{more}
use Rattle.sail_types.specs.Sums.{and_then, constant, is_constant, constant_of, sum, difference, product, power_num, zero_num}
use Rattle.sail_types.specs.declared.numbers.Comparison.TheVariants as Is
use Rattle.sail_types.specs.declared.numbers.Con.{Con}
use Rattle.sail_types.specs.declared.numbers.Con.TheVariants as C
use Rattle.sail_types.specs.declared.numbers.Index.{Index}
use Rattle.sail_types.specs.declared.numbers.Num.{Num}
use Rattle.sail_types.specs.declared.types.Typ.{Typ}
use Rattle.sail_types.specs.declared.types.Typ.TheVariants as T
use Rattle.type_arguments.specs.Applied.{applied}
use Rattle.type_arguments.specs.Ranges.{is_void_normal}
use Rattle.type_arguments.specs.Taken.{number_of, constraint_of, typ_of}
use Rattle.type_arguments.specs.declared.normal.Normal.{Normal}
use Rattle.type_arguments.specs.declared.normal.Normal.TheVariants as N
use Rattle.sail_kinds.specs.declared.error.TableError.{TableError}
use Rattle.sail_kinds.specs.declared.error.TableError.TheVariants as error
use Rattle.sail_kinds.specs.declared.error.Mismatch.TheVariants as Found
use Rattle.sail_kinds.specs.declared.scope.FoundVariable.{FoundVariable}
use Rattle.sail_kinds.specs.declared.scope.Meaning.{Meaning}
use Rattle.sail_kinds.specs.declared.scope.Meaning.TheVariants as M
use Rattle.sail_kinds.specs.declared.scope.NamedType.{NamedType}
use Rattle.sail_kinds.specs.Builtin.{Row, look_up, rows, builtin}
use Rattle.sail_kinds.specs.Normal.{Reading, Part, stands_for, fails, nothing, behind, both, then_read, made_of, made_of_both, map_read, all_read}
use Rattle.sail_kinds.specs.Normal.{failures_of_all, kind_of, is_of, as_kind, part_of_kind, narrowed, number_part, constraint_part, typ_part, made}
use Rattle.sail_kinds.specs.Normal.{power_at, not_of, negated, prefixed, computed, connected, is_connective, one_of, bound, opened, meant}
use Rattle.sail_kinds.specs.Normal.{arguments_read, index_of, variable_normal, argument_scope, applied_type, named_type, applied_name, bare}
use Rattle.sail_kinds.specs.Normal.{name_read, variable_read, form_part, part, reading, existential}
use Rattle.sail_kinds.specs.Repeated.{clashes, is_none_of}
use Rattle.sail_kinds.specs.Scopes.{Within, inside_list, inside_binder, variable_of, named}
use Rattle.normal_forms.specs.Refusals.{is_unknown, AreKnown}

-- ---- what stands for something

abbrev pub Stands : {A : Type 0} → Option A → Type 0
Stands {A} o = (x : A) × (o ≡ Some x)

-- a reading without failures stands for something
abbrev pub IsWhole : {A : Type 0} → Reading A → Type 0
IsWhole r = r.failures ≡ [] → Stands r.normal

no_parts : {A : Type 0} (xs ys : List A) → xs ++ ys ≡ [] → (xs ≡ []) × (ys ≡ [])
no_parts [] ys h = (refl, h)
no_parts (x ∷ xs) ys h = absurd (cc)

stood : {A : Type 0} (x : A) → IsWhole (stands_for x)
stood x h = (x, refl)

either : {A : Type 0} (b : Bool) (r : Reading A) (e : TableError) → IsWhole r → IsWhole (cond b r (fails e))
either true r e whole = whole
either false r e whole = λ h. absurd (cc)

refused : {A : Type 0} (b : Bool) (e : TableError) (x : A) → IsWhole (cond b (fails e) (stands_for x))
refused true e x h = absurd (cc)
refused false e x h = (x, refl)

mapped : {A B : Type 0} (f : A → B) (r : Reading A) → IsWhole r → IsWhole (map_read f r)
mapped f r whole h = let x = whole h in (f x.0, ap (option_map f) x.1)

then_whole : {A B : Type 0} (r : Reading A) (f : A → Reading B) → IsWhole r → ((x : A) → IsWhole (f x)) → IsWhole (then_read r f)
then_whole {A} {B} r f whole next h =
    let k = no_parts r.failures (made_of f r.normal).failures h in
    let x = whole k.0 in
    let is : made_of f r.normal ≡ f x.0 = ap (made_of f) x.1 in
    let y = next x.0 (sym (ap (λ (q : Reading B). q.failures) is) ∙ k.1) in
    (y.0, ap (λ (q : Reading B). q.normal) is ∙ y.1)

both_whole : {A B C : Type 0} (r : Reading A) (s : Reading B) (f : A → B → Reading C) → IsWhole r → IsWhole s
    → ((x : A) (y : B) → IsWhole (f x y)) → IsWhole (both r s f)
both_whole {A} {B} {C} r s f left right next h =
    let k = no_parts (r.failures ++ s.failures) (made_of_both f r.normal s.normal).failures h in
    let l = no_parts r.failures s.failures k.0 in
    let x = left l.0 in
    let y = right l.1 in
    let is : made_of_both f r.normal s.normal ≡ f x.0 y.0 = λ i. made_of_both f (x.1 i) (y.1 i) in
    let z = next x.0 y.0 (sym (ap (λ (q : Reading C). q.failures) is) ∙ k.1) in
    (z.0, ap (λ (q : Reading C). q.normal) is ∙ z.1)

-- ---- parts and their kinds

abbrev pub IsWholePart : Part → Type 0
IsWholePart p = (w : Within) → AreKnown w.types → IsWhole (p.read w)

-- what stands for something of a kind
abbrev OfKind : Kind → Option Normal → Type 0
OfKind kind o = (n : Normal) × (o ≡ Some n) × (is_of kind n ≡ true)

picked : (b : Bool) (n : Normal) (e : TableError) → (cond b (stands_for n) (fails e)).failures ≡ []
    → ((cond b (stands_for n) (fails e)).normal ≡ Some n) × (b ≡ true)
picked true n e h = (refl, refl)
picked false n e h = absurd (cc)

kind_made : (kind : Kind) (place : Place) (o : Option Normal) → Stands o → (made_of (as_kind kind place) o).failures ≡ []
    → OfKind kind (made_of (as_kind kind place) o).normal
kind_made kind place None n h = absurd (cc)
kind_made kind place (Some n) m h = let k = picked (is_of kind n) n (error.IllKinded place (Some (Found.Kinds kind (kind_of n)))) h in (n, k.0, k.1)

kind_whole : (p : Part) → IsWholePart p → (kind : Kind) (w : Within) → AreKnown w.types → (part_of_kind w kind p).failures ≡ []
    → OfKind kind (part_of_kind w kind p).normal
kind_whole p whole kind w known h =
    let r = p.read w in
    let k = no_parts r.failures (made_of (as_kind kind p.place) r.normal).failures h in
    kind_made kind p.place r.normal (whole w known k.0) k.1

as_number : (n : Normal) → is_of K.Int n ≡ true → Stands (number_of n)
as_number (N.Number n) h = (n, refl)
as_number (N.Constraint c) h = absurd (cc)
as_number (N.Typ t) h = absurd (cc)

as_constraint : (n : Normal) → is_of K.Bool n ≡ true → Stands (constraint_of n)
as_constraint (N.Number n) h = absurd (cc)
as_constraint (N.Constraint c) h = (c, refl)
as_constraint (N.Typ t) h = absurd (cc)

as_typ : (n : Normal) → is_of K.Type n ≡ true → Stands (typ_of n)
as_typ (N.Number n) h = absurd (cc)
as_typ (N.Constraint c) h = absurd (cc)
as_typ (N.Typ t) h = (t, refl)

narrowed_whole : {A : Type 0} (f : Normal → Option A) (kind : Kind) → ((n : Normal) → is_of kind n ≡ true → Stands (f n))
    → (p : Part) → IsWholePart p → (w : Within) → AreKnown w.types → IsWhole (narrowed f (part_of_kind w kind p))
narrowed_whole f kind taken p whole w known h =
    let n = kind_whole p whole kind w known h in
    let x = taken n.0 n.2 in
    (x.0, ap (λ o. and_then o f) n.1 ∙ x.1)

number_whole : (p : Part) → IsWholePart p → (w : Within) → AreKnown w.types → IsWhole (number_part w p)
number_whole = narrowed_whole number_of K.Int as_number

constraint_whole : (p : Part) → IsWholePart p → (w : Within) → AreKnown w.types → IsWhole (constraint_part w p)
constraint_whole = narrowed_whole constraint_of K.Bool as_constraint

typ_whole : (p : Part) → IsWholePart p → (w : Within) → AreKnown w.types → IsWhole (typ_part w p)
typ_whole = narrowed_whole typ_of K.Type as_typ

-- ---- numbers and constraints

made_whole : (place : Place) (n : Option Num) → IsWhole (made place n)
made_whole place None h = absurd (cc)
made_whole place (Some n) h = (N.Number n, refl)

computed_whole : (operator : TypeOperator) (place : Place) → is_connective operator ≡ false → (n m : Num) → IsWhole (computed operator place n m)
computed_whole O.Star place is n m = made_whole place (product n m)
computed_whole O.Plus place is n m = made_whole place (sum n m)
computed_whole O.Minus place is n m = made_whole place (difference n m)
computed_whole O.Equal place is n m = stood (N.Constraint (C.Compare Is.Equal n m))
computed_whole O.NotEqual place is n m = stood (N.Constraint (C.Compare Is.NotEqual n m))
computed_whole O.Less place is n m = stood (N.Constraint (C.Compare Is.Less n m))
computed_whole O.LessEqual place is n m = stood (N.Constraint (C.Compare Is.LessEqual n m))
computed_whole O.Greater place is n m = stood (N.Constraint (C.Compare Is.Greater n m))
computed_whole O.GreaterEqual place is n m = stood (N.Constraint (C.Compare Is.GreaterEqual n m))
computed_whole O.And place is n m = absurd (cc)
computed_whole O.Or place is n m = absurd (cc)

connected_whole : (operator : TypeOperator) (c d : Con) → IsWhole (connected operator c d)
connected_whole O.And c d = stood (N.Constraint (C.All (c ∷ d ∷ [])))
connected_whole operator c d = stood (N.Constraint (C.Any (c ∷ d ∷ [])))

prefixed_whole : (prefix : TypePrefix) (place : Place) (p : Part) → IsWholePart p → (w : Within) → AreKnown w.types
    → IsWhole (prefixed prefix place w p)
prefixed_whole P.Negate place p whole w known =
    then_whole (number_part w p) (negated place) (number_whole p whole w known) (λ n. made_whole place (difference zero_num n))
prefixed_whole P.Power place p whole w known =
    then_whole (number_part w p) (power_at place) (number_whole p whole w known)
    (λ n. refused (is_constant n && is_none (small_power (constant_of n))) (error.IllKinded place None) (N.Number (power_num n)))
prefixed_whole P.Not place p whole w known =
    then_whole (constraint_part w p) not_of (constraint_whole p whole w known) (λ c. stood (N.Constraint (C.Not c)))

operated_at : (b : Bool) (operator : TypeOperator) (place : Place) → is_connective operator ≡ b → (p q : Part) → IsWholePart p → IsWholePart q
    → (w : Within) → AreKnown w.types
    → IsWhole (cond b (both (constraint_part w p) (constraint_part w q) (connected operator))
    (both (number_part w p) (number_part w q) (computed operator place)))
operated_at true operator place is p q left right w known =
    both_whole (constraint_part w p) (constraint_part w q) (connected operator) (constraint_whole p left w known) (constraint_whole q right w known)
    (connected_whole operator)
operated_at false operator place is p q left right w known =
    both_whole (number_part w p) (number_part w q) (computed operator place) (number_whole p left w known) (number_whole q right w known)
    (computed_whole operator place is)

-- ---- named types

abbrev IsKnown : NamedType → Type 0
IsKnown t = is_unknown t.meaning ≡ false

not_true : (b : Bool) → not b ≡ true → b ≡ false
not_true true h = absurd (cc)
not_true false h = refl

row_picked : (b : Bool) (row : Row NamedType) (rest : Option NamedType) (t : NamedType) → IsKnown row.1 → (rest ≡ Some t → IsKnown t)
    → cond b (Some row.1) rest ≡ Some t → IsKnown t
row_picked true row rest t own next h = let same : row.1 ≡ t = cc in subst IsKnown same own
row_picked false row rest t own next h = next h

row_known : (name : List ℕ) (table : List (Row NamedType)) → list_all (λ row. not (is_unknown row.1.meaning)) table ≡ true → (t : NamedType)
    → look_up name table ≡ Some t → IsKnown t
row_known name [] all t h = absurd (cc)
row_known name (row ∷ table) all t h =
    let k = and_parts (not (is_unknown row.1.meaning)) (list_all (λ other. not (is_unknown other.1.meaning)) table) all in
    row_picked (bytes_eq name row.0) row (look_up name table) t (not_true (is_unknown row.1.meaning) k.0) (row_known name table k.1 t) h

shown : (b : Bool) (o : Option NamedType) (t : NamedType) → (o ≡ Some t → IsKnown t) → cond b None o ≡ Some t → IsKnown t
shown true o t known h = absurd (cc)
shown false o t known h = known h

one_known : (o p : Option NamedType) (t : NamedType) → (o ≡ Some t → IsKnown t) → (p ≡ Some t → IsKnown t) → option_or o p ≡ Some t → IsKnown t
one_known None p t first second h = second h
one_known (Some s) p t first second h = first h

type_known : (name : List ℕ) (w : Within) → AreKnown w.types → (t : NamedType) → named_type name w ≡ Some t → IsKnown t
type_known name w known t =
    one_known (builtin name) (named name w) t (row_known name rows refl t)
    (shown (option_map_or (bytes_eq name) w.own false && not w.is_in_list) (w.types name) t (known name t))

opened_whole : (place : Place) (o : Option Normal) → IsWhole (opened place o)
opened_whole place None = λ h. absurd (cc)
opened_whole place (Some n) = refused (is_void_normal n) (error.IllKinded place None) n

meant_whole : (place : Place) (meaning : Meaning) → is_unknown meaning ≡ false → (is : List Index) (ts : List Typ) → IsWhole (meant place meaning is ts)
meant_whole place (M.Alias n) known is ts = opened_whole place (applied is ts n)
meant_whole place (M.Defined i) known is ts = stood (N.Typ (T.Named i is ts))
meant_whole place M.Unknown known is ts = absurd (cc)

in_argument : (b : Bool) (w : Within) → AreKnown w.types → AreKnown (cond b (inside_list w) w).types
in_argument true w known = known
in_argument false w known = known

-- ---- all forms

abbrev Such : Type 0
Such = (t : TyExp) × IsWholePart (part t)

abbrev texts : List Such → List TyExp
texts ps = map (λ p. p.0) ps

types_whole : (w : Within) → AreKnown w.types → (ps : List Such) → IsWhole (all_read (map (typ_part w) (map part (texts ps))))
types_whole w known [] h = ([], refl)
types_whole w known (p ∷ ps) h =
    let r = typ_part w (part p.0) in
    let k = no_parts r.failures (failures_of_all (map (typ_part w) (map part (texts ps)))) h in
    let x = typ_whole (part p.0) p.1 w known k.0 in
    let xs = types_whole w known ps k.1 in
    (x.0 ∷ xs.0, λ i. more (x.1 i) (xs.1 i))

arguments_whole : (w : Within) → AreKnown w.types → (kinds : List Kind) (ps : List Such)
    → IsWhole (all_read (map (λ pair. part_of_kind w pair.0 pair.1) (zip kinds (map part (texts ps)))))
arguments_whole w known [] [] h = ([], refl)
arguments_whole w known [] (p ∷ ps) h = ([], refl)
arguments_whole w known (kind ∷ kinds) [] h = ([], refl)
arguments_whole w known (kind ∷ kinds) (p ∷ ps) h =
    let r = part_of_kind w kind (part p.0) in
    let k = no_parts r.failures (failures_of_all (map (λ pair. part_of_kind w pair.0 pair.1) (zip kinds (map part (texts ps))))) h in
    let x = kind_whole (part p.0) p.1 kind w known k.0 in
    let xs = arguments_whole w known kinds ps k.1 in
    (x.0 ∷ xs.0, λ i. more (x.1 i) (xs.1 i))

applied_whole : (name : Name) (ps : List Such) (t : NamedType) → IsKnown t → (w : Within) → AreKnown w.types
    → IsWhole (applied_type name (map part (texts ps)) t w)
applied_whole name ps t is w known =
    let v = argument_scope name w in
    let inside : AreKnown v.types = in_argument (bytes_eq name.text (codes "list")) w known in
    let read : IsWhole (arguments_read v t.parameters (map part (texts ps))) =
    mapped (λ ns. (filter_map index_of ns, filter_map typ_of ns))
    (all_read (map (λ pair. part_of_kind v pair.0 pair.1) (zip t.parameters (map part (texts ps)))))
    (arguments_whole v inside t.parameters ps) in
    either (nat_eq (length (map part (texts ps))) (length t.parameters))
    (then_read (arguments_read v t.parameters (map part (texts ps))) (λ a. meant name.place t.meaning a.0 a.1))
    (error.IllKinded name.place (Some (Found.Counts (length t.parameters) (length (map part (texts ps))))))
    (then_whole (arguments_read v t.parameters (map part (texts ps))) (λ a. meant name.place t.meaning a.0 a.1) read
    (λ a. meant_whole name.place t.meaning is a.0 a.1))

named_whole : (name : Name) (ps : List Such) (o : Option NamedType) → ((t : NamedType) → o ≡ Some t → IsKnown t) → (w : Within) → AreKnown w.types
    → IsWhole (applied_name name (map part (texts ps)) o w)
named_whole name ps None is w known = λ h. absurd (cc)
named_whole name ps (Some t) is w known = applied_whole name ps t (is t refl) w known

name_whole : (name : Name) (ps : List Such) (o : Option Typ) (w : Within) → AreKnown w.types → IsWhole (name_read name (map part (texts ps)) o w)
name_whole name ps None w known = named_whole name ps (named_type name.text w) (type_known name.text w known) w known
name_whole name ps (Some t) w known = stood (N.Typ t)

variable_whole : (name : Name) (o : Option FoundVariable) → IsWhole (variable_read name o)
variable_whole name None = λ h. absurd (cc)
variable_whole name (Some found) = stood (variable_normal found.kind found.number)

bound_whole : (names : List Name) → clashes names ≡ [] → (c : Con) (t : Typ) → IsWhole (bound names c t)
bound_whole names clear c t h =
    let x = N.Typ (existential names c t) in
    (x, ap (λ (es : List TableError). (cond (is_none_of es) (stands_for x) nothing).normal) clear)

exists_whole : (names : List Name) (r : Reading Con) (s : Reading Typ) → IsWhole r → IsWhole s → IsWhole (behind (clashes names) (both r s (bound names)))
exists_whole names r s left right h =
    let k = no_parts (clashes names) (both r s (bound names)).failures h in
    both_whole r s (bound names) left right (bound_whole names k.0) k.1

step : (y : TyExp-F Such) → IsWholePart (form_part (map-TyExp TyExp Part part (map-TyExp Such TyExp (λ p. p.0) y)))
step (X.Named name ps) w known = name_whole name ps (bare name.text (map part (texts ps))) w known
step (X.Variable name) w known = variable_whole name (variable_of name.text w.variables)
step (X.Number place n) w known = stood (N.Number (constant n))
step (X.Truth place b) w known = stood (N.Constraint (C.Truth b))
step (X.Prefix place prefix p) w known = prefixed_whole prefix place (part p.0) p.1 w known
step (X.Infix place operator p q) w known = operated_at (is_connective operator) operator place refl (part p.0) (part q.0) p.1 q.1 w known
step (X.OneOf place p choices) w known =
    then_whole (number_part w (part p.0)) (one_of choices) (number_whole (part p.0) p.1 w known) (λ n. stood (N.Constraint (C.OneOf n choices)))
step (X.Tuple place ps) w known = mapped (λ ts. N.Typ (T.Tuple ts)) (all_read (map (typ_part w) (map part (texts ps)))) (types_whole w known ps)
step (X.Exists place names None p) w known =
    let v = inside_binder names w in
    exists_whole names (stands_for (C.Truth true)) (typ_part v (part p.0)) (stood (C.Truth true)) (typ_whole (part p.0) p.1 v known)
step (X.Exists place names (Some c) p) w known =
    let v = inside_binder names w in
    exists_whole names (constraint_part v (part c.0)) (typ_part v (part p.0)) (constraint_whole (part c.0) c.1 v known)
    (typ_whole (part p.0) p.1 v known)

rolled : (y : TyExp-F Such) → IsWholePart (part (roll-TyExp (map-TyExp Such TyExp (λ p. p.0) y)))
rolled y = subst IsWholePart (sym (fold-roll-TyExp Part form_part (map-TyExp Such TyExp (λ p. p.0) y))) (step y)

pub part_whole : (t : TyExp) → IsWholePart (part t)
part_whole = ind-TyExp (λ t. IsWholePart (part t)) (λ e y is. subst (λ d. IsWholePart (part (roll-TyExp d))) is (rolled y))

there : {A : Type 0} (o : Option A) → Stands o → IsSome o
there o h = subst IsSome (sym h.1) refl

-- a text in which nothing has failed
pub whole_read : (t : TyExp) (w : Within) → AreKnown w.types → (reading t w).failures ≡ [] → IsSome (reading t w).normal
whole_read t w known clear = there (reading t w).normal (part_whole t w known clear)

pub read_whole : (r : Reading Normal) (n : Normal) → r.failures ≡ [] → r.normal ≡ Some n → r ≡ stands_for n
read_whole r n clear is = λ i. record { failures = clear i; normal = is i }
