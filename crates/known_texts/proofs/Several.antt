-- Tuples of several parts stay so one binder further in and under arguments in the place of variables; and where the tuples that are written have several
-- parts, so have those of all types that texts stand for.
use Rattle.std.proofs.Common.{◌≡◌, ℕ, zero, suc, List, [], ◌∷◌, map, length, ap, sym, ◌∙◌, refl, subst, Bool, true, false, not, ◌&&◌, cond, codes}
use Rattle.std.proofs.Common.{bytes_eq, nat_eq, filter_map}
use Rattle.std.specs.Prelude.{pos, neg_ℤ, Option, Some, None, is_none, option_map}
use Rattle.std.specs.List.{zip}
use Rattle.std.specs.Option.{option_map_or, option_or}
use Rattle.std.proofs.lemmas.Bool.{and_parts}
use Rattle.sail_base.specs.declared.kind.Kind.{Kind}
use Rattle.sail_base.specs.declared.kind.Kind.TheVariants as K
use Rattle.sail_base.specs.declared.place.Place.{Place}
use Rattle.sail_syntax.specs.declared.name.Name.{Name}
use Rattle.sail_syntax.specs.declared.words.TypePrefix.{TypePrefix}
use Rattle.sail_syntax.specs.declared.words.TypePrefix.TheVariants as P
use Rattle.sail_syntax.specs.declared.words.TypeOperator.{TypeOperator}
use Rattle.sail_syntax.specs.declared.words.TypeOperator.TheVariants as O
use Rattle.sail_syntax.specs.declared.types.TyExp.{TyExp, TyExp-F, roll-TyExp, fold-roll-TyExp, map-TyExp, ind-TyExp}
use Rattle.sail_syntax.specs.declared.types.TyExp.TheOpen as X
use Rattle.sail_types.specs.Limits.{largest, small_power}
use Rattle.sail_types.specs.Readings.{together, read_con, read_indices}
use Rattle.sail_types.specs.Sums.{and_then, constant, constant_of, difference, is_constant, power_num, product, read, sum, variable, zero_num}
use Rattle.sail_types.specs.declared.numbers.Comparison.TheVariants as Is
use Rattle.sail_types.specs.declared.numbers.Con.{Con}
use Rattle.sail_types.specs.declared.numbers.Con.TheVariants as C
use Rattle.sail_types.specs.declared.numbers.Index.{Index}
use Rattle.sail_types.specs.declared.numbers.Num.{Num}
use Rattle.sail_types.specs.declared.types.Typ.{Typ, Typ-F, fold-Typ, roll-Typ}
use Rattle.sail_types.specs.declared.types.Typ.TheFolds.{fold-roll-Typ, map-Typ, ind-Typ}
use Rattle.sail_types.specs.declared.types.Typ.TheOpen as T
use Rattle.sail_types.specs.declared.types.Typ.TheVariants as W
use Rattle.type_arguments.specs.Applied.{AtArguments, applied, applied_typ, form_applied, inside_indices, inside_types, typ_at}
use Rattle.type_arguments.specs.Moved.{AtDepth, moved_con, moved_indices, moved_num, moved_typ, moved_types, next, typ_form_moved}
use Rattle.type_arguments.specs.Ranges.{is_void_normal}
use Rattle.type_arguments.specs.Taken.{typ_of}
use Rattle.type_arguments.specs.declared.normal.Normal.{Normal}
use Rattle.type_arguments.specs.declared.normal.Normal.TheVariants as N
use Rattle.type_arguments.proofs.Makings.{map_parts, more_parts, nothing_made, then_parts}
use Rattle.sail_kinds.specs.declared.error.TableError.{TableError}
use Rattle.sail_kinds.specs.declared.error.TableError.TheVariants as error
use Rattle.sail_kinds.specs.declared.error.Mismatch.TheVariants as Found
use Rattle.sail_kinds.specs.declared.scope.FoundVariable.{FoundVariable}
use Rattle.sail_kinds.specs.declared.scope.Meaning.{Meaning}
use Rattle.sail_kinds.specs.declared.scope.Meaning.TheVariants as M
use Rattle.sail_kinds.specs.declared.scope.NamedType.{NamedType}
use Rattle.sail_kinds.specs.Builtin.{Row, builtin, int, look_up, nat, rows}
use Rattle.sail_kinds.specs.Normal.{Part, Reading, applied_name, applied_type, argument_scope, arguments_read, as_kind, bare, both, bound, computed}
use Rattle.sail_kinds.specs.Normal.{connected, constraint_part, existential, fails, form_part, index_of, is_connective, is_of, kind_of}
use Rattle.sail_kinds.specs.Normal.{made, made_of, made_of_both, meant, name_read, named_type, negated, not_of, nothing, number_part, one_of, opened}
use Rattle.sail_kinds.specs.Normal.{operated, part, part_of_kind, power_at, prefixed, reading, reading_as, stands_for, then_read, typ_part}
use Rattle.sail_kinds.specs.Normal.{variable_normal, variable_read}
use Rattle.sail_kinds.specs.Repeated.{clashes, is_none_of}
use Rattle.sail_kinds.specs.Scopes.{Within, inside_binder, inside_list, named, variable_of}
use Rattle.shape_joins.proofs.JoinsLeast.{none, some_same}
use Rattle.shape_joins.proofs.Order.{no, two}
use Rattle.shape_meanings.specs.Whole.{all_of}
use Rattle.known_texts.specs.Written.{tuple_written, type_form, type_written}

abbrev several_form : Typ-F Bool → Bool
several_form (T.List b) = b
several_form (T.Vector n b) = b
several_form (T.Tuple bs) = tuple_written bs
several_form (T.Named i is bs) = all_of bs
several_form (T.Exists name c b) = b
several_form form = true

abbrev pub several : Typ → Bool
several = fold-Typ Bool several_form

abbrev pub all_several : List Typ → Bool
all_several ts = all_of (map several ts)

abbrev pub NormalSeveral : Normal → Type 0
NormalSeveral (N.Typ t) = several t ≡ true
NormalSeveral normal = Unit {0}

abbrev pub opened_typ : Typ-F Typ → Bool
opened_typ x = several_form (map-Typ Typ Bool several x)

pub several_at : (x : Typ-F Typ) → several (roll-Typ x) ≡ opened_typ x
several_at x = fold-roll-Typ Bool several_form x

-- a type of this form
pub made_typ : (x : Typ-F Typ) (t : Typ) → roll-Typ x ≡ t → opened_typ x ≡ true → several t ≡ true
made_typ x t same h = subst (λ u. several u ≡ true) same (several_at x ∙ h)

exists_typ : (name : List ℕ) (c : Con) (t u : Typ) → W.Exists name c t ≡ u → several t ≡ true → several u ≡ true
exists_typ name c t u same h = made_typ (T.Exists name c t) u (W.rolls-Exists name c t ∙ same) h

pub unit_several : several W.Unit ≡ true
unit_several = made_typ T.Unit W.Unit W.rolls-Unit refl

-- ---- tuples

no_more : {A : Type 0} (x : A) (xs : List A) → zero ≡ length (x ∷ xs) → ⊥
no_more x xs h = not_suc (length xs) h
  where
    not_suc : (n : ℕ) → zero ≡ suc n → ⊥
    not_suc n e = absurd (cc)

-- as many parts as a tuple had
tuple_again : (us ts : List Typ) → length us ≡ length ts → tuple_written (map several ts) ≡ true → all_several us ≡ true
    → tuple_written (map several us) ≡ true
tuple_again [] [] many h all = no h
tuple_again [] (t ∷ ts) many h all = absurd (no_more t ts many)
tuple_again (u ∷ []) [] many h all = no h
tuple_again (u ∷ []) (t ∷ []) many h all = no h
tuple_again (u ∷ []) (t ∷ v ∷ ts) many h all = absurd (no_more v ts (one_less (length ts) many))
  where
    one_less : (n : ℕ) → suc zero ≡ suc (suc n) → zero ≡ suc n
    one_less n e = absurd (cc)
tuple_again (u ∷ v ∷ us) ts many h all = all

tuple_all : (bs : List Bool) → tuple_written bs ≡ true → all_of bs ≡ true
tuple_all [] h = no h
tuple_all (b ∷ []) h = no h
tuple_all (b ∷ c ∷ bs) h = h

-- ---- one binder further in

abbrev Kept : Typ → Type 0
Kept t = (depth : ℕ) (u : Typ) → several t ≡ true → moved_typ depth t ≡ Some u → several u ≡ true

abbrev SuchK : Type 0
SuchK = (t : Typ) × Kept t

abbrev kept_types : List SuchK → List Typ
kept_types ys = map (λ (p : SuchK). p.0) ys

abbrev kept_form : Typ-F SuchK → Typ-F Typ
kept_form y = map-Typ SuchK Typ (λ p. p.0) y

abbrev AllAs : List Typ → List Typ → Type 0
AllAs us ts = (all_several us ≡ true) × (length us ≡ length ts)

abbrev parts_moved : List SuchK → ℕ → Option (List Typ)
parts_moved ys depth = together (map (λ t. t depth) (map (fold-Typ AtDepth typ_form_moved) (kept_types ys)))

each_kept : (ys : List SuchK) (depth : ℕ) (us : List Typ) → all_several (kept_types ys) ≡ true → parts_moved ys depth ≡ Some us → AllAs us (kept_types ys)
each_kept [] depth us h e = subst (λ (xs : List Typ). AllAs xs []) (nothing_made us e) (refl, refl)
each_kept (y ∷ ys) depth us h e =
    let own = and_parts (several y.0) (all_several (kept_types ys)) h in
    let m = more_parts (moved_typ depth y.0) (parts_moved ys depth) us e in
    let rest = each_kept ys depth m.1 own.1 m.3 in
    subst (λ (xs : List Typ). AllAs xs (kept_types (y ∷ ys))) m.4
    (two (several m.0) (all_several m.1) (y.1 depth m.0 own.0 m.2) rest.0, ap suc rest.1)

moved_form : (y : Typ-F SuchK) (depth : ℕ) (u : Typ) → opened_typ (kept_form y) ≡ true
    → typ_form_moved (map-Typ Typ AtDepth (fold-Typ AtDepth typ_form_moved) (kept_form y)) depth ≡ Some u → several u ≡ true
moved_form T.Unit depth u h e = made_typ T.Unit u (W.rolls-Unit ∙ some_same W.Unit u e) refl
moved_form T.Bool depth u h e = made_typ T.Bool u (W.rolls-Bool ∙ some_same W.Bool u e) refl
moved_form (T.Truth c) depth u h e = let p = map_parts W.Truth (moved_con depth c) u e in made_typ (T.Truth p.0) u (W.rolls-Truth p.0 ∙ p.2) refl
moved_form T.Bit depth u h e = made_typ T.Bit u (W.rolls-Bit ∙ some_same W.Bit u e) refl
moved_form (T.Bits n) depth u h e = let p = map_parts W.Bits (moved_num depth n) u e in made_typ (T.Bits p.0) u (W.rolls-Bits p.0 ∙ p.2) refl
moved_form (T.Int n) depth u h e = let p = map_parts W.Int (moved_num depth n) u e in made_typ (T.Int p.0) u (W.rolls-Int p.0 ∙ p.2) refl
moved_form (T.Range low high) depth u h e =
    let p = then_parts (moved_num depth low) (λ m. option_map (W.Range m) (moved_num depth high)) u e in
    let q = map_parts (W.Range p.0) (moved_num depth high) u p.2 in
    made_typ (T.Range p.0 q.0) u (W.rolls-Range p.0 q.0 ∙ q.2) refl
moved_form T.String depth u h e = made_typ T.String u (W.rolls-String ∙ some_same W.String u e) refl
moved_form (T.List y) depth u h e =
    let p = map_parts W.List (moved_typ depth y.0) u e in made_typ (T.List p.0) u (W.rolls-List p.0 ∙ p.2) (y.1 depth p.0 h p.1)
moved_form (T.Vector n y) depth u h e =
    let p = then_parts (moved_num depth n) (λ m. option_map (W.Vector m) (moved_typ depth y.0)) u e in
    let q = map_parts (W.Vector p.0) (moved_typ depth y.0) u p.2 in
    made_typ (T.Vector p.0 q.0) u (W.rolls-Vector p.0 q.0 ∙ q.2) (y.1 depth q.0 h q.1)
moved_form (T.Tuple ys) depth u h e =
    let p = map_parts W.Tuple (parts_moved ys depth) u e in
    let all = each_kept ys depth p.0 (tuple_all (map several (kept_types ys)) h) p.1 in
    made_typ (T.Tuple p.0) u (W.rolls-Tuple p.0 ∙ p.2) (tuple_again p.0 (kept_types ys) all.1 h all.0)
moved_form (T.Named i indices ys) depth u h e =
    let p = then_parts (moved_indices depth indices) (λ js. option_map (W.Named i js) (parts_moved ys depth)) u e in
    let q = map_parts (W.Named i p.0) (parts_moved ys depth) u p.2 in
    made_typ (T.Named i p.0 q.0) u (W.rolls-Named i p.0 q.0 ∙ q.2) (each_kept ys depth q.0 h q.1).0
moved_form (T.Variable i) depth u h e = made_typ (T.Variable i) u (W.rolls-Variable i ∙ some_same (W.Variable i) u e) refl
moved_form (T.Exists name c y) depth u h e =
    let p = then_parts (next depth) (λ d. and_then (moved_con d c) (λ k. option_map (W.Exists name k) (moved_typ d y.0))) u e in
    let q = then_parts (moved_con p.0 c) (λ k. option_map (W.Exists name k) (moved_typ p.0 y.0)) u p.2 in
    let r = map_parts (W.Exists name q.0) (moved_typ p.0 y.0) u q.2 in
    exists_typ name q.0 r.0 u r.2 (y.1 p.0 r.0 h r.1)

moved_rolled : (y : Typ-F SuchK) → Kept (roll-Typ (kept_form y))
moved_rolled y depth u h e =
    moved_form y depth u (sym (several_at (kept_form y)) ∙ h) (sym (ap (λ f. f depth) (fold-roll-Typ AtDepth typ_form_moved (kept_form y))) ∙ e)

moved_kept : (t : Typ) → Kept t
moved_kept = ind-Typ Kept (λ e y same. subst (λ d. Kept (roll-Typ d)) same (moved_rolled y))

moved_all : (depth : ℕ) (ts us : List Typ) → all_several ts ≡ true → moved_types depth ts ≡ Some us → all_several us ≡ true
moved_all depth [] us h e = subst (λ (xs : List Typ). all_several xs ≡ true) (nothing_made us e) refl
moved_all depth (t ∷ ts) us h e =
    let own = and_parts (several t) (all_several ts) h in
    let m = more_parts (moved_typ depth t) (moved_types depth ts) us e in
    subst (λ (xs : List Typ). all_several xs ≡ true) m.4
    (two (several m.0) (all_several m.1) (moved_kept t depth m.0 own.0 m.2) (moved_all depth ts m.1 own.1 m.3))

-- ---- under arguments

place_several : (ts : List Typ) (i : ℕ) → all_several ts ≡ true → several (typ_at ts i) ≡ true
place_several [] i h = unit_several
place_several (t ∷ ts) zero h = (and_parts (several t) (all_several ts) h).0
place_several (t ∷ ts) (suc i) h = place_several ts i (and_parts (several t) (all_several ts) h).1

abbrev Put : Typ → Type 0
Put t = (is : List Index) (ts : List Typ) (u : Typ) → several t ≡ true → all_several ts ≡ true → applied_typ is ts t ≡ Some u → several u ≡ true

abbrev SuchP : Type 0
SuchP = (t : Typ) × Put t

abbrev put_types : List SuchP → List Typ
put_types ys = map (λ (p : SuchP). p.0) ys

abbrev put_form : Typ-F SuchP → Typ-F Typ
put_form y = map-Typ SuchP Typ (λ p. p.0) y

abbrev parts_at : List SuchP → List Index → List Typ → Option (List Typ)
parts_at ys is ts = together (map (λ part. part is ts) (map (fold-Typ AtArguments form_applied) (put_types ys)))

each_put : (ys : List SuchP) (is : List Index) (ts us : List Typ) → all_several (put_types ys) ≡ true → all_several ts ≡ true → parts_at ys is ts ≡ Some us
    → AllAs us (put_types ys)
each_put [] is ts us h all e = subst (λ (xs : List Typ). AllAs xs []) (nothing_made us e) (refl, refl)
each_put (y ∷ ys) is ts us h all e =
    let own = and_parts (several y.0) (all_several (put_types ys)) h in
    let m = more_parts (applied_typ is ts y.0) (parts_at ys is ts) us e in
    let rest = each_put ys is ts m.1 own.1 all m.3 in
    subst (λ (xs : List Typ). AllAs xs (put_types (y ∷ ys))) m.4
    (two (several m.0) (all_several m.1) (y.1 is ts m.0 own.0 all m.2) rest.0, ap suc rest.1)

put_opened : (y : Typ-F SuchP) (is : List Index) (ts : List Typ) (u : Typ) → opened_typ (put_form y) ≡ true → all_several ts ≡ true
    → form_applied (map-Typ Typ AtArguments (fold-Typ AtArguments form_applied) (put_form y)) is ts ≡ Some u → several u ≡ true
put_opened T.Unit is ts u h all e = made_typ T.Unit u (W.rolls-Unit ∙ some_same W.Unit u e) refl
put_opened T.Bool is ts u h all e = made_typ T.Bool u (W.rolls-Bool ∙ some_same W.Bool u e) refl
put_opened (T.Truth c) is ts u h all e =
    let p = map_parts W.Truth (read_con is c) u e in made_typ (T.Truth p.0) u (W.rolls-Truth p.0 ∙ p.2) refl
put_opened T.Bit is ts u h all e = made_typ T.Bit u (W.rolls-Bit ∙ some_same W.Bit u e) refl
put_opened (T.Bits n) is ts u h all e = let p = map_parts W.Bits (read is n) u e in made_typ (T.Bits p.0) u (W.rolls-Bits p.0 ∙ p.2) refl
put_opened (T.Int n) is ts u h all e = let p = map_parts W.Int (read is n) u e in made_typ (T.Int p.0) u (W.rolls-Int p.0 ∙ p.2) refl
put_opened (T.Range low high) is ts u h all e =
    let p = then_parts (read is low) (λ m. option_map (W.Range m) (read is high)) u e in
    let q = map_parts (W.Range p.0) (read is high) u p.2 in
    made_typ (T.Range p.0 q.0) u (W.rolls-Range p.0 q.0 ∙ q.2) refl
put_opened T.String is ts u h all e = made_typ T.String u (W.rolls-String ∙ some_same W.String u e) refl
put_opened (T.List y) is ts u h all e =
    let p = map_parts W.List (applied_typ is ts y.0) u e in made_typ (T.List p.0) u (W.rolls-List p.0 ∙ p.2) (y.1 is ts p.0 h all p.1)
put_opened (T.Vector n y) is ts u h all e =
    let p = then_parts (read is n) (λ m. option_map (W.Vector m) (applied_typ is ts y.0)) u e in
    let q = map_parts (W.Vector p.0) (applied_typ is ts y.0) u p.2 in
    made_typ (T.Vector p.0 q.0) u (W.rolls-Vector p.0 q.0 ∙ q.2) (y.1 is ts q.0 h all q.1)
put_opened (T.Tuple ys) is ts u h all e =
    let p = map_parts W.Tuple (parts_at ys is ts) u e in
    let each = each_put ys is ts p.0 (tuple_all (map several (put_types ys)) h) all p.1 in
    made_typ (T.Tuple p.0) u (W.rolls-Tuple p.0 ∙ p.2) (tuple_again p.0 (put_types ys) each.1 h each.0)
put_opened (T.Named i indices ys) is ts u h all e =
    let p = then_parts (read_indices is indices) (λ js. option_map (W.Named i js) (parts_at ys is ts)) u e in
    let q = map_parts (W.Named i p.0) (parts_at ys is ts) u p.2 in
    made_typ (T.Named i p.0 q.0) u (W.rolls-Named i p.0 q.0 ∙ q.2) (each_put ys is ts q.0 h all q.1).0
put_opened (T.Variable i) is ts u h all e = subst (λ t. several t ≡ true) (some_same (typ_at ts i) u e) (place_several ts i all)
put_opened (T.Exists name c y) is ts u h all e =
    let inside : List Index → List Typ → Option Typ = λ js us. and_then (read_con js c) (λ d. option_map (W.Exists name d) (applied_typ js us y.0)) in
    let p = then_parts (inside_indices is) (λ js. and_then (inside_types ts) (inside js)) u e in
    let q = then_parts (inside_types ts) (inside p.0) u p.2 in
    let r = then_parts (read_con p.0 c) (λ d. option_map (W.Exists name d) (applied_typ p.0 q.0 y.0)) u q.2 in
    let s = map_parts (W.Exists name r.0) (applied_typ p.0 q.0 y.0) u r.2 in
    exists_typ name r.0 s.0 u s.2 (y.1 p.0 q.0 s.0 h (moved_all 0 ts q.0 all q.1) s.1)

put_rolled : (y : Typ-F SuchP) → Put (roll-Typ (put_form y))
put_rolled y is ts u h all e =
    put_opened y is ts u (sym (several_at (put_form y)) ∙ h) all
    (sym (ap (λ f. f is ts) (fold-roll-Typ AtArguments form_applied (put_form y))) ∙ e)

typ_put : (t : Typ) → Put t
typ_put = ind-Typ Put (λ e y same. subst (λ d. Put (roll-Typ d)) same (put_rolled y))

normal_put : (n m : Normal) (is : List Index) (ts : List Typ) → NormalSeveral n → all_several ts ≡ true → applied is ts n ≡ Some m → NormalSeveral m
normal_put (N.Number n) m is ts h all e = let p = map_parts N.Number (read is n) m e in subst NormalSeveral p.2 tt
normal_put (N.Constraint c) m is ts h all e = let p = map_parts N.Constraint (read_con is c) m e in subst NormalSeveral p.2 tt
normal_put (N.Typ t) m is ts h all e = let p = map_parts N.Typ (applied_typ is ts t) m e in subst NormalSeveral p.2 (typ_put t is ts p.0 h all p.1)

-- ---- readings

abbrev pub MeaningSeveral : Meaning → Type 0
MeaningSeveral (M.Alias n) = NormalSeveral n
MeaningSeveral meaning = Unit {0}

abbrev pub NamesSeveral : (List ℕ → Option NamedType) → Type 0
NamesSeveral names = (name : List ℕ) (t : NamedType) → names name ≡ Some t → MeaningSeveral t.meaning

abbrev pub Stands : Option Normal → Type 0
Stands o = (n : Normal) → o ≡ Some n → NormalSeveral n

abbrev IsSeveralPart : Part → Type 0
IsSeveralPart p = (w : Within) → NamesSeveral w.types → Stands (p.read w).normal

given : (x : Normal) → NormalSeveral x → Stands (Some x)
given x h n e = subst NormalSeveral (some_same x n e) h

none_given : Stands None
none_given n e = none e

either_read : (b : Bool) (r s : Reading Normal) → Stands r.normal → Stands s.normal → Stands (cond b r s).normal
either_read true r s left right = left
either_read false r s left right = right

then_made : {A : Type 0} (o : Option A) (f : A → Reading Normal) → ((x : A) → o ≡ Some x → Stands (f x).normal) → Stands (made_of f o).normal
then_made None f next n e = none e
then_made (Some x) f next n e = next x refl n e

both_made : {A B : Type 0} (o : Option A) (p : Option B) (f : A → B → Reading Normal)
    → ((x : A) (y : B) → o ≡ Some x → p ≡ Some y → Stands (f x y).normal) → Stands (made_of_both f o p).normal
both_made None p f next n e = none e
both_made (Some x) None f next n e = none e
both_made (Some x) (Some y) f next n e = next x y refl refl n e

abbrev KindSeveral : Kind → Option Normal → Type 0
KindSeveral kind o = (n : Normal) → o ≡ Some n → NormalSeveral n × (is_of kind n ≡ true)

picked : (kind : Kind) (b : Bool) (m : Normal) (e : TableError) → NormalSeveral m → (b ≡ true → is_of kind m ≡ true)
    → KindSeveral kind (cond b (stands_for m) (fails e)).normal
picked kind true m e h of n same = subst (λ (x : Normal). NormalSeveral x × (is_of kind x ≡ true)) (some_same m n same) (h, of refl)
picked kind false m e h of n same = none same

kind_made : (kind : Kind) (place : Place) (o : Option Normal) → Stands o → KindSeveral kind (made_of (as_kind kind place) o).normal
kind_made kind place None h n e = none e
kind_made kind place (Some m) h n e =
    picked kind (is_of kind m) m (error.IllKinded place (Some (Found.Kinds kind (kind_of m)))) (h m refl) (λ same. same) n e

kind_part : (p : Part) → IsSeveralPart p → (kind : Kind) (w : Within) → NamesSeveral w.types → KindSeveral kind (part_of_kind w kind p).normal
kind_part p h kind w names = kind_made kind p.place (p.read w).normal (h w names)

pub typ_taken : (n : Normal) (t : Typ) → NormalSeveral n → typ_of n ≡ Some t → several t ≡ true
typ_taken (N.Typ u) t h e = subst (λ (v : Typ). several v ≡ true) (some_same u t e) h
typ_taken (N.Number m) t h e = none e
typ_taken (N.Constraint c) t h e = none e

typ_made : (p : Part) → IsSeveralPart p → (w : Within) → NamesSeveral w.types → (t : Typ) → (typ_part w p).normal ≡ Some t → several t ≡ true
typ_made p h w names t e =
    let n = then_parts (part_of_kind w K.Type p).normal typ_of t e in typ_taken n.0 t (kind_part p h K.Type w names n.0 n.1).0 n.2

-- numbers and constraints
number_made : (place : Place) (o : Option Num) → Stands (made place o).normal
number_made place None = none_given
number_made place (Some m) = given (N.Number m) tt

computed_made : (operator : TypeOperator) (place : Place) (n m : Num) → Stands (computed operator place n m).normal
computed_made O.Star place n m = number_made place (product n m)
computed_made O.Plus place n m = number_made place (sum n m)
computed_made O.Minus place n m = number_made place (difference n m)
computed_made O.Equal place n m = given (N.Constraint (C.Compare Is.Equal n m)) tt
computed_made O.NotEqual place n m = given (N.Constraint (C.Compare Is.NotEqual n m)) tt
computed_made O.Less place n m = given (N.Constraint (C.Compare Is.Less n m)) tt
computed_made O.LessEqual place n m = given (N.Constraint (C.Compare Is.LessEqual n m)) tt
computed_made O.Greater place n m = given (N.Constraint (C.Compare Is.Greater n m)) tt
computed_made O.GreaterEqual place n m = given (N.Constraint (C.Compare Is.GreaterEqual n m)) tt
computed_made O.And place n m = none_given
computed_made O.Or place n m = none_given

connected_made : (operator : TypeOperator) (c d : Con) → Stands (connected operator c d).normal
connected_made O.And c d = given (N.Constraint (C.All (c ∷ d ∷ []))) tt
connected_made operator c d = given (N.Constraint (C.Any (c ∷ d ∷ []))) tt

prefixed_made : (prefix : TypePrefix) (place : Place) (w : Within) (p : Part) → Stands (prefixed prefix place w p).normal
prefixed_made P.Negate place w p = then_made (number_part w p).normal (negated place) (λ n e. number_made place (difference zero_num n))
prefixed_made P.Power place w p =
    then_made (number_part w p).normal (power_at place)
    (λ n e. either_read (is_constant n && is_none (small_power (constant_of n))) (fails (error.IllKinded place None)) (stands_for (N.Number (power_num n)))
    none_given (given (N.Number (power_num n)) tt))
prefixed_made P.Not place w p = then_made (constraint_part w p).normal not_of (λ c e. given (N.Constraint (C.Not c)) tt)

operated_made : (operator : TypeOperator) (place : Place) (w : Within) (p q : Part) → Stands (operated operator place w p q).normal
operated_made operator place w p q =
    either_read (is_connective operator) (both (constraint_part w p) (constraint_part w q) (connected operator))
    (both (number_part w p) (number_part w q) (computed operator place))
    (both_made (constraint_part w p).normal (constraint_part w q).normal (connected operator) (λ c d e f. connected_made operator c d))
    (both_made (number_part w p).normal (number_part w q).normal (computed operator place) (λ n m e f. computed_made operator place n m))

variable_made : (kind : Kind) (i : ℕ) → NormalSeveral (variable_normal kind i)
variable_made K.Int i = tt
variable_made K.Bool i = tt
variable_made K.Type i = made_typ (T.Variable i) (W.Variable i) (W.rolls-Variable i) refl

variable_several : (name : Name) (o : Option FoundVariable) → Stands (variable_read name o).normal
variable_several name None = none_given
variable_several name (Some found) = given (variable_normal found.kind found.number) (variable_made found.kind found.number)

-- named types
row_picked : (b : Bool) (row : Row NamedType) (rest : Option NamedType) (t : NamedType) → MeaningSeveral row.1.meaning
    → (rest ≡ Some t → MeaningSeveral t.meaning) → cond b (Some row.1) rest ≡ Some t → MeaningSeveral t.meaning
row_picked true row rest t own next h = subst (λ (s : NamedType). MeaningSeveral s.meaning) (some_same row.1 t h) own
row_picked false row rest t own next h = next h

abbrev AllRows : List (Row NamedType) → Type 0
AllRows [] = Unit {0}
AllRows (row ∷ more) = MeaningSeveral row.1.meaning × AllRows more

row_several : (name : List ℕ) (table : List (Row NamedType)) → AllRows table → (t : NamedType) → look_up name table ≡ Some t → MeaningSeveral t.meaning
row_several name [] all t h = none h
row_several name (row ∷ more) all t h = row_picked (bytes_eq name row.0) row (look_up name more) t all.0 (row_several name more all.1 t) h

a_variable : several (W.Variable 0) ≡ true
a_variable = made_typ (T.Variable 0) (W.Variable 0) (W.rolls-Variable 0) refl

all_rows : AllRows rows
all_rows = (
  made_typ T.Unit W.Unit W.rolls-Unit refl,
  (
    made_typ (T.Truth (C.Holds 0)) (W.Truth (C.Holds 0)) (W.rolls-Truth (C.Holds 0)) refl,
    (
      made_typ T.Bit W.Bit W.rolls-Bit refl,
      (
        made_typ (T.Bits (variable 0)) (W.Bits (variable 0)) (W.rolls-Bits (variable 0)) refl,
        (
          made_typ (T.Bits (variable 0)) (W.Bits (variable 0)) (W.rolls-Bits (variable 0)) refl,
          (
            made_typ (T.Int (variable 0)) (W.Int (variable 0)) (W.rolls-Int (variable 0)) refl,
            (
              made_typ (T.Range zero_num (constant (pos largest))) nat (W.rolls-Range zero_num (constant (pos largest))) refl,
              (
                made_typ (T.Range (variable 0) (variable 1)) (W.Range (variable 0) (variable 1)) (W.rolls-Range (variable 0) (variable 1)) refl,
                (
                  made_typ T.String W.String W.rolls-String refl,
                  (
                    made_typ (T.List (W.Variable 0)) (W.List (W.Variable 0)) (W.rolls-List (W.Variable 0)) a_variable,
                    (
                      made_typ (T.Vector (variable 0) (W.Variable 0)) (W.Vector (variable 0) (W.Variable 0)) (W.rolls-Vector (variable 0) (W.Variable 0)) a_variable,
                      tt,
                    ),
                  ),
                ),
              ),
            ),
          ),
        ),
      ),
    ),
  ),
)

shown : (b : Bool) (o : Option NamedType) (t : NamedType) → (o ≡ Some t → MeaningSeveral t.meaning) → cond b None o ≡ Some t → MeaningSeveral t.meaning
shown true o t known h = none h
shown false o t known h = known h

either_name : (o p : Option NamedType) (t : NamedType) → (o ≡ Some t → MeaningSeveral t.meaning) → (p ≡ Some t → MeaningSeveral t.meaning)
    → option_or o p ≡ Some t → MeaningSeveral t.meaning
either_name None p t first second h = second h
either_name (Some s) p t first second h = first h

type_several : (name : List ℕ) (w : Within) → NamesSeveral w.types → (t : NamedType) → named_type name w ≡ Some t → MeaningSeveral t.meaning
type_several name w names t =
    either_name (builtin name) (named name w) t (row_several name rows all_rows t)
    (shown (option_map_or (bytes_eq name) w.own false && not w.is_in_list) (w.types name) t (names name t))

opened_several : (place : Place) (o : Option Normal) → Stands o → Stands (opened place o).normal
opened_several place None h = none_given
opened_several place (Some n) h = either_read (is_void_normal n) (fails (error.IllKinded place None)) (stands_for n) none_given (given n (h n refl))

meant_several : (place : Place) (meaning : Meaning) → MeaningSeveral meaning → (is : List Index) (ts : List Typ) → all_several ts ≡ true
    → Stands (meant place meaning is ts).normal
meant_several place (M.Alias n) h is ts all = opened_several place (applied is ts n) (λ m e. normal_put n m is ts h all e)
meant_several place (M.Defined i) h is ts all = given (N.Typ (W.Named i is ts)) (made_typ (T.Named i is ts) (W.Named i is ts) (W.rolls-Named i is ts) all)
meant_several place M.Unknown h is ts all = none_given

in_argument : (b : Bool) (w : Within) → NamesSeveral w.types → NamesSeveral (cond b (inside_list w) w).types
in_argument true w names = names
in_argument false w names = names

-- all forms
abbrev OfText : TyExp → Type 0
OfText t = type_written t ≡ true → IsSeveralPart (part t)

abbrev Such : Type 0
Such = (t : TyExp) × OfText t

abbrev texts : List Such → List TyExp
texts ps = map (λ (p : Such). p.0) ps

abbrev parts_of : List Such → List Part
parts_of ps = map part (texts ps)

abbrev all_written : List Such → Bool
all_written ps = all_of (map type_written (texts ps))

types_made : (w : Within) → NamesSeveral w.types → (ps : List Such) (ts : List Typ) → all_written ps ≡ true
    → together (map (λ (r : Reading Typ). r.normal) (map (typ_part w) (parts_of ps))) ≡ Some ts → (all_several ts ≡ true) × (length ts ≡ length (texts ps))
types_made w names [] ts written e =
    subst (λ (xs : List Typ). (all_several xs ≡ true) × (length xs ≡ zero)) (nothing_made ts e) (refl, refl)
types_made w names (p ∷ ps) ts written e =
    let own = and_parts (type_written p.0) (all_written ps) written in
    let m = more_parts (typ_part w (part p.0)).normal (together (map (λ (r : Reading Typ). r.normal) (map (typ_part w) (parts_of ps)))) ts e in
    let rest = types_made w names ps m.1 own.1 m.3 in
    subst (λ (xs : List Typ). (all_several xs ≡ true) × (length xs ≡ suc (length (texts ps)))) m.4
    (two (several m.0) (all_several m.1) (typ_made (part p.0) (p.1 own.0) w names m.0 m.2) rest.0, ap suc rest.1)

-- as many parts as are written
tuple_made : (ts : List Typ) (xs : List TyExp) → length ts ≡ length xs → tuple_written (map type_written xs) ≡ true → all_several ts ≡ true
    → tuple_written (map several ts) ≡ true
tuple_made [] [] many h all = no h
tuple_made [] (x ∷ xs) many h all = absurd (no_more x xs many)
tuple_made (t ∷ []) [] many h all = no h
tuple_made (t ∷ []) (x ∷ []) many h all = no h
tuple_made (t ∷ []) (x ∷ y ∷ xs) many h all = absurd (no_more y xs (one_less (length xs) many))
  where
    one_less : (n : ℕ) → suc zero ≡ suc (suc n) → zero ≡ suc n
    one_less n e = absurd (cc)
tuple_made (t ∷ u ∷ ts) xs many h all = all

one_argument : (kind : Kind) (n : Normal) (ns : List Normal) → NormalSeveral n → is_of kind n ≡ true → all_several (filter_map typ_of ns) ≡ true
    → all_several (filter_map typ_of (n ∷ ns)) ≡ true
one_argument kind (N.Number i) ns own same rest = rest
one_argument kind (N.Constraint c) ns own same rest = rest
one_argument kind (N.Typ t) ns own same rest = two (several t) (all_several (filter_map typ_of ns)) own rest

abbrev all_arguments : Within → List Kind → List Part → Option (List Normal)
all_arguments w kinds ps = together (map (λ (r : Reading Normal). r.normal) (map (λ pair. part_of_kind w pair.0 pair.1) (zip kinds ps)))

arguments_made : (w : Within) → NamesSeveral w.types → (kinds : List Kind) (ps : List Such) (ns : List Normal) → all_written ps ≡ true
    → all_arguments w kinds (parts_of ps) ≡ Some ns → all_several (filter_map typ_of ns) ≡ true
arguments_made w names [] ps ns written e = subst (λ (xs : List Normal). all_several (filter_map typ_of xs) ≡ true) (nothing_made ns e) refl
arguments_made w names (kind ∷ kinds) [] ns written e =
    subst (λ (xs : List Normal). all_several (filter_map typ_of xs) ≡ true) (nothing_made ns e) refl
arguments_made w names (kind ∷ kinds) (p ∷ ps) ns written e =
    let both_written = and_parts (type_written p.0) (all_written ps) written in
    let m = more_parts (part_of_kind w kind (part p.0)).normal (all_arguments w kinds (parts_of ps)) ns e in
    let own = kind_part (part p.0) (p.1 both_written.0) kind w names m.0 m.2 in
    subst (λ (xs : List Normal). all_several (filter_map typ_of xs) ≡ true) m.4
    (one_argument kind m.0 m.1 own.0 own.1 (arguments_made w names kinds ps m.1 both_written.1 m.3))

abbrev chosen : List Normal → List Index × List Typ
chosen ns = (filter_map index_of ns, filter_map typ_of ns)

by_arguments : (name : Name) (ps : List Such) (t : NamedType) → MeaningSeveral t.meaning → (w : Within) → NamesSeveral w.types → all_written ps ≡ true
    → (a : List Index × List Typ) → option_map chosen (all_arguments w t.parameters (parts_of ps)) ≡ Some a
    → Stands (meant name.place t.meaning a.0 a.1).normal
by_arguments name ps t h w names written a e =
    let x = map_parts chosen (all_arguments w t.parameters (parts_of ps)) a e in
    subst (λ (b : List Index × List Typ). Stands (meant name.place t.meaning b.0 b.1).normal) x.2
    (meant_several name.place t.meaning h (filter_map index_of x.0) (filter_map typ_of x.0)
    (arguments_made w names t.parameters ps x.0 written x.1))

applied_several : (name : Name) (ps : List Such) (t : NamedType) → MeaningSeveral t.meaning → (w : Within) → NamesSeveral w.types
    → all_written ps ≡ true → Stands (applied_type name (parts_of ps) t w).normal
applied_several name ps t h w names written =
    let inner : Within = argument_scope name w in
    either_read (nat_eq (length (parts_of ps)) (length t.parameters))
    (then_read (arguments_read inner t.parameters (parts_of ps)) (λ a. meant name.place t.meaning a.0 a.1))
    (fails (error.IllKinded name.place (Some (Found.Counts (length t.parameters) (length (parts_of ps))))))
    (then_made (arguments_read inner t.parameters (parts_of ps)).normal (λ a. meant name.place t.meaning a.0 a.1)
    (by_arguments name ps t h inner (in_argument (bytes_eq name.text (codes "list")) w names) written))
    none_given

named_several : (name : Name) (ps : List Such) (o : Option NamedType) → ((t : NamedType) → o ≡ Some t → MeaningSeveral t.meaning) → (w : Within)
    → NamesSeveral w.types → all_written ps ≡ true → Stands (applied_name name (parts_of ps) o w).normal
named_several name ps None h w names written = none_given
named_several name ps (Some t) h w names written = applied_several name ps t (h t refl) w names written

name_several : (name : Name) (ps : List Such) (o : Option Typ) → ((t : Typ) → o ≡ Some t → several t ≡ true) → (w : Within) → NamesSeveral w.types
    → all_written ps ≡ true → Stands (name_read name (parts_of ps) o w).normal
name_several name ps None h w names written = named_several name ps (named_type name.text w) (type_several name.text w names) w names written
name_several name ps (Some t) h w names written = given (N.Typ t) (h t refl)

typ_picked : (b : Bool) (own : Typ) (rest : Option Typ) (t : Typ) → several own ≡ true → (rest ≡ Some t → several t ≡ true)
    → cond b (Some own) rest ≡ Some t → several t ≡ true
typ_picked true own rest t h next e = subst (λ (s : Typ). several s ≡ true) (some_same own t e) h
typ_picked false own rest t h next e = next e

bare_several : (name : List ℕ) (ps : List Part) (t : Typ) → bare name ps ≡ Some t → several t ≡ true
bare_several name [] t e =
    typ_picked (bytes_eq name (codes "bool")) W.Bool (look_up name ((codes "int", int) ∷ [])) t (made_typ T.Bool W.Bool W.rolls-Bool refl)
    (typ_picked (bytes_eq name (codes "int")) int None t
    (made_typ (T.Range (constant (neg_ℤ (pos largest))) (constant (pos largest))) int
    (W.rolls-Range (constant (neg_ℤ (pos largest))) (constant (pos largest))) refl) none) e
bare_several name (p ∷ ps) t e = none e

existential_several : (names : List Name) (c : Con) (t : Typ) → several t ≡ true → several (existential names c t) ≡ true
existential_several [] c t h = h
existential_several (name ∷ []) c t h = made_typ (T.Exists name.text c t) (W.Exists name.text c t) (W.rolls-Exists name.text c t) h
existential_several (name ∷ other ∷ names) c t h =
    let inner : Typ = existential (other ∷ names) c t in
    made_typ (T.Exists name.text (C.Truth true) inner) (W.Exists name.text (C.Truth true) inner) (W.rolls-Exists name.text (C.Truth true) inner)
    (existential_several (other ∷ names) c t h)

bound_several : (names : List Name) (c : Con) (t : Typ) → several t ≡ true → Stands (bound names c t).normal
bound_several names c t h =
    either_read (is_none_of (clashes names)) (stands_for (N.Typ (existential names c t))) nothing
    (given (N.Typ (existential names c t)) (existential_several names c t h)) none_given

exists_several : (names : List Name) (r : Reading Con) (p : Such) (w : Within) → NamesSeveral w.types → type_written p.0 ≡ true
    → Stands (both r (typ_part (inside_binder names w) (part p.0)) (bound names)).normal
exists_several names r p w known written =
    both_made r.normal (typ_part (inside_binder names w) (part p.0)).normal (bound names)
    (λ c t e f. bound_several names c t (typ_made (part p.0) (p.1 written) (inside_binder names w) known t f))

abbrev form_text : TyExp-F Such → TyExp-F TyExp
form_text y = map-TyExp Such TyExp (λ p. p.0) y

step : (y : TyExp-F Such) → type_form (map-TyExp TyExp Bool type_written (form_text y)) ≡ true
    → IsSeveralPart (form_part (map-TyExp TyExp Part part (form_text y)))
step (X.Named name ps) h w names = name_several name ps (bare name.text (parts_of ps)) (bare_several name.text (parts_of ps)) w names h
step (X.Variable name) h w names = variable_several name (variable_of name.text w.variables)
step (X.Number place n) h w names = given (N.Number (constant n)) tt
step (X.Truth place b) h w names = given (N.Constraint (C.Truth b)) tt
step (X.Prefix place prefix p) h w names = prefixed_made prefix place w (part p.0)
step (X.Infix place operator p q) h w names = operated_made operator place w (part p.0) (part q.0)
step (X.OneOf place p choices) h w names =
    then_made (number_part w (part p.0)).normal (one_of choices) (λ n e. given (N.Constraint (C.OneOf n choices)) tt)
step (X.Tuple place ps) h w names = λ n e.
    let all : Option (List Typ) = together (map (λ (r : Reading Typ). r.normal) (map (typ_part w) (parts_of ps))) in
    let p = map_parts (λ ts. N.Typ (W.Tuple ts)) all n e in
    let parts = types_made w names ps p.0 (tuple_all (map type_written (texts ps)) h) p.1 in
    subst NormalSeveral p.2
    (made_typ (T.Tuple p.0) (W.Tuple p.0) (W.rolls-Tuple p.0) (tuple_made p.0 (texts ps) parts.1 h parts.0))
step (X.Exists place names None p) h w known = exists_several names (stands_for (C.Truth true)) p w known h
step (X.Exists place names (Some c) p) h w known =
    exists_several names (constraint_part (inside_binder names w) (part c.0)) p w known (and_parts (type_written c.0) (type_written p.0) h).1

rolled : (y : TyExp-F Such) → OfText (roll-TyExp (form_text y))
rolled y h =
    subst IsSeveralPart (sym (fold-roll-TyExp Part form_part (form_text y))) (step y (sym (fold-roll-TyExp Bool type_form (form_text y)) ∙ h))

pub part_several : (t : TyExp) → type_written t ≡ true → (w : Within) → NamesSeveral w.types → Stands (reading t w).normal
part_several = ind-TyExp OfText (λ e y same. subst (λ d. OfText (roll-TyExp d)) same (rolled y))

pub kind_several : (kind : Kind) (t : TyExp) → type_written t ≡ true → (w : Within) → NamesSeveral w.types → Stands (reading_as kind t w).normal
kind_several kind t written w names n e = (kind_part (part t) (part_several t written) kind w names n e).0

pub typ_several : (t : TyExp) → type_written t ≡ true → (w : Within) → NamesSeveral w.types → (u : Typ)
    → and_then (reading_as K.Type t w).normal typ_of ≡ Some u → several u ≡ true
typ_several t written w names u e = typ_made (part t) (part_several t written) w names u e
