-- Which struct a literal is of: the one of its name, or the one that has just its fields.
use Rattle.std.proofs.Common.{◌≡◌, ℕ, zero, suc, ◌+◌, List, [], ◌∷◌, length, ap, sym, ◌∙◌, refl, subst, Bool, true, false, ◌&&◌, ◌||◌, Option, Some}
use Rattle.std.proofs.Common.{None}
use Rattle.std.proofs.Common.{is_some, nat_eq, slice_get, if◌then◌else◌, arith}
use Rattle.std.proofs.lemmas.Bool.{and_parts}
use Rattle.std.proofs.lemmas.Slice.Eq.{bytes_eq-Decides}
use Rattle.std.specs.List.{list_all}
use Rattle.std.specs.Option.{option_map_or}
use Rattle.std.specs.Str.{bytes_eq}
use Rattle.sail_types.specs.Named.{fields, form_fields, in_form}
use Rattle.sail_types.specs.declared.table.Definition.{Definition}
use Rattle.sail_types.specs.declared.table.Field.{Field as TypeField}
use Rattle.sail_types.specs.declared.table.Types.{Types}
use Rattle.sail_syntax.specs.declared.name.Name.{Name}
use Rattle.shape_joins.proofs.Order.{two, same_nat, equal}
use Rattle.shape_joins.proofs.JoinsLeast.{some_same, none}
use Rattle.sail_meaning.specs.Named.{is_one_of, are_all, is_struct_with, places_where, struct_with}
use Rattle.sail_meaning.specs.Named as Written
use Rattle.sail_meaning.specs.Expressions.{Field, names_of, name_of}
use Rattle.shape_rules.specs.Scopes.{Setting, Locals}
use Rattle.shape_rules.specs.Targets.{InStruct, one_further, field_named}
use Rattle.shape_rules.specs.Values.{FieldPart, Named, also_named, fields_named, has_just, structs_from, struct_place}
use Rattle.shape_rules.specs.Values as Rules
use Rattle.shape_meanings.specs.Worlds.{IsStruct}
use Rattle.shape_meanings.specs.Parts.{FieldsAre}
use Rattle.shape_meanings.proofs.Settling.{same_name}
use Rattle.shape_meanings.proofs.Opening.{turned}

-- ---- places of definitions that pass a test

not_true : (b : Bool) → (b ≡ true → ⊥) → b ≡ false
not_true true f = absurd (f refl)
not_true false f = refl

no_places : (test : Definition → Bool) (n : ℕ) (ds : List Definition) → ((j : ℕ) (d : Definition) → slice_get ds j ≡ Some d → test d ≡ false)
    → places_where test n ds ≡ []
no_places test n [] f = refl
no_places test n (d ∷ ds) f =
    ap (λ b. if b then n ∷ places_where test (suc n) ds else places_where test (suc n) ds) (f zero d refl)
    ∙ no_places test (suc n) ds (λ j e is. f (suc j) e is)

zero_not : (j : ℕ) → suc j ≡ zero → ⊥
zero_not j h = grind (arith, h)

not_suc : (j : ℕ) → zero ≡ suc j → ⊥
not_suc j h = grind (arith, h)

one_less : (n k : ℕ) → suc n ≡ suc k → n ≡ k
one_less n k h = grind (arith, h)

plus_none : (n : ℕ) → n ≡ (n + zero)
plus_none n = omega arith

plus_more : (n i : ℕ) → (suc n + i) ≡ (n + suc i)
plus_more n i = omega arith

one_place : (test : Definition → Bool) (n i : ℕ) (ds : List Definition) (d : Definition) → slice_get ds i ≡ Some d → test d ≡ true
    → ((j : ℕ) (e : Definition) → slice_get ds j ≡ Some e → test e ≡ true → j ≡ i) → places_where test n ds ≡ ((n + i) ∷ [])
one_place test n i [] d is t only = none is
one_place test n zero (x ∷ ds) d is t only =
    ap (λ b. if b then n ∷ places_where test (suc n) ds else places_where test (suc n) ds) (ap test (some_same x d is) ∙ t)
    ∙ ap (λ ps. n ∷ ps) (no_places test (suc n) ds (λ j e there. not_true (test e) (λ h. zero_not j (only (suc j) e there h))))
    ∙ ap (λ m. m ∷ []) (plus_none n)
one_place test n (suc i) (x ∷ ds) d is t only =
    ap (λ b. if b then n ∷ places_where test (suc n) ds else places_where test (suc n) ds) (not_true (test x) (λ h. not_suc i (only zero x refl h)))
    ∙ one_place test (suc n) i ds d is t (λ j e there h. one_less j i (only (suc j) e there h))
    ∙ ap (λ m. m ∷ []) (plus_more n i)

-- ---- names of fields

pub bytes_same : (xs : List ℕ) → bytes_eq xs xs ≡ true
bytes_same xs = grind (arith, bytes_eq-Decides xs xs)

flipped : (xs ys : List ℕ) → bytes_eq xs ys ≡ true → bytes_eq ys xs ≡ true
flipped xs ys h = ap (λ zs. bytes_eq zs xs) (sym (same_name xs ys h)) ∙ bytes_same xs

some_if : (b : Bool) (f : InStruct) (o : Option InStruct) → is_some (if b then Some f else one_further o) ≡ (b || is_some o)
some_if true f o = refl
some_if false f None = refl
some_if false f (Some g) = refl

one_of : (fs : List TypeField) (name : List ℕ) → is_some (field_named name fs) ≡ is_one_of fs name
one_of [] name = refl
one_of (f ∷ fs) name =
    some_if (bytes_eq f.name name) (record { place = 0; typ = f.typ }) (field_named name fs) ∙ ap (λ b. bytes_eq f.name name || b) (one_of fs name)

some_both : (o : Option InStruct) (p : Option Named) → is_some (also_named o p) ≡ (is_some o && is_some p)
some_both None p = refl
some_both (Some f) None = refl
some_both (Some f) (Some more) = refl

named_all : (setting : Setting) (locals : Locals) (fl : List TypeField) (fs : List FieldPart) (ms : List Field) → FieldsAre setting locals fs ms
    → is_some (fields_named fs (Some fl)) ≡ list_all (is_one_of fl) (names_of ms)
named_all setting locals fl [] [] are = refl
named_all setting locals fl (f ∷ fs) (m ∷ ms) are =
    some_both (field_named f.name.text fl) (fields_named fs (Some fl))
    ∙ (λ i. (one_of fl f.name.text ∙ ap (is_one_of fl) (sym are.0)) i && named_all setting locals fl fs ms are.2 i)
named_all setting locals fl [] (m ∷ ms) are = absurd are
named_all setting locals fl (f ∷ fs) [] are = absurd are

names_count : (setting : Setting) (locals : Locals) (fs : List FieldPart) (ms : List Field) → FieldsAre setting locals fs ms
    → length (names_of ms) ≡ length fs
names_count setting locals [] [] are = refl
names_count setting locals (f ∷ fs) (m ∷ ms) are = ap suc (names_count setting locals fs ms are.2)
names_count setting locals [] (m ∷ ms) are = absurd are
names_count setting locals (f ∷ fs) [] are = absurd are

-- a struct has just these fields, in both
both_ways : (a b : Bool) → (true && (a && b)) ≡ ((b && a) && true)
both_ways true true = refl
both_ways true false = refl
both_ways false true = refl
both_ways false false = refl

just_same : (setting : Setting) (locals : Locals) (fs : List FieldPart) (ms : List Field) (known : Option (List TypeField)) → FieldsAre setting locals fs ms
    → has_just fs known ≡ (option_map_or (are_all (names_of ms)) known false && true)
just_same setting locals fs ms None are = refl
just_same setting locals fs ms (Some fl) are =
    both_ways (is_some (fields_named fs (Some fl))) (nat_eq (length fl) (length fs))
    ∙ (λ i. ((ap (nat_eq (length fl)) (sym (names_count setting locals fs ms are)) ∙ turned (length fl) (length (names_of ms))) i
    && named_all setting locals fl fs ms are i) && true)

-- ---- without a name

structs_same : (setting : Setting) (fs : List FieldPart) (test : Definition → Bool) (n : ℕ) (ds : List Definition)
    → ((j : ℕ) (d : Definition) → slice_get ds j ≡ Some d → has_just fs (fields setting.types (n + j)) ≡ test d)
    → structs_from setting fs n ds ≡ places_where test n ds
structs_same setting fs test n [] f = refl
structs_same setting fs test n (d ∷ ds) f =
    (λ i. if (ap (λ m. has_just fs (fields setting.types m)) (plus_none n) ∙ f zero d refl) i then n ∷ structs_from setting fs (suc n) ds
    else structs_from setting fs (suc n) ds)
    ∙ ap (λ ps. if test d then n ∷ ps else ps)
    (structs_same setting fs test (suc n) ds (λ j e is. ap (λ m. has_just fs (fields setting.types m)) (plus_more n j) ∙ f (suc j) e is))

only_same : (ps : List ℕ) → Written.only_one ps ≡ Rules.only_one ps
only_same [] = refl
only_same (p ∷ []) = refl
only_same (p ∷ q ∷ ps) = refl

no_plus : (j : ℕ) → (zero + j) ≡ j
no_plus j = omega arith

unnamed_struct : (setting : Setting) (locals : Locals) (fs : List FieldPart) (ms : List Field) (i : ℕ) → FieldsAre setting locals fs ms
    → struct_place setting None fs ≡ Some i → struct_with setting.types None (names_of ms) ≡ Some i
unnamed_struct setting locals fs ms i are is =
    only_same (places_where (is_struct_with None (names_of ms)) 0 setting.types.definitions)
    ∙ ap Rules.only_one (sym (structs_same setting fs (is_struct_with None (names_of ms)) 0 setting.types.definitions
    (λ j d there.
    ap (λ m. has_just fs (fields setting.types m)) (no_plus j) ∙ ap (λ o. has_just fs (in_form None form_fields o)) there
    ∙ just_same setting locals fs ms (form_fields d.form) are)))
    ∙ is

-- ---- with a name

definition_of : (types : Types) (i : ℕ) (fl : List TypeField) → fields types i ≡ Some fl
    → (d : Definition) × (slice_get types.definitions i ≡ Some d) × (form_fields d.form ≡ Some fl)
definition_of types i fl is = by_definition (slice_get types.definitions i) refl is
  where
    by_definition : (o : Option Definition) → slice_get types.definitions i ≡ o → in_form None form_fields o ≡ Some fl
        → (d : Definition) × (slice_get types.definitions i ≡ Some d) × (form_fields d.form ≡ Some fl)
    by_definition None there is = none is
    by_definition (Some d) there is = (d, there, is)

named_struct : (setting : Setting) (locals : Locals) (name : List ℕ) (fs : List FieldPart) (ms : List Field) (i : ℕ) (fl : List TypeField) (named : Named)
    → FieldsAre setting locals fs ms → IsStruct setting.types name (Some i) → fields setting.types i ≡ Some fl → fields_named fs (Some fl) ≡ Some named
    → nat_eq (length fl) (length fs) ≡ true → struct_with setting.types (Some name) (names_of ms) ≡ Some i
named_struct setting locals name fs ms i fl named are struct known there many =
    let d = definition_of setting.types i fl known in
    let test : Definition → Bool = is_struct_with (Some name) (names_of ms) in
    let has : option_map_or (are_all (names_of ms)) (form_fields d.0.form) false ≡ true =
    ap (λ o. option_map_or (are_all (names_of ms)) o false) d.2
    ∙ two (nat_eq (length (names_of ms)) (length fl)) (list_all (is_one_of fl) (names_of ms))
    (turned (length (names_of ms)) (length fl) ∙ ap (nat_eq (length fl)) (names_count setting locals fs ms are) ∙ many)
    (sym (named_all setting locals fl fs ms are) ∙ ap is_some there) in
    let own : bytes_eq name d.0.name ≡ true = flipped d.0.name name (struct i d.0 d.1 ∙ same_nat i) in
    ap Written.only_one (one_place test 0 i setting.types.definitions d.0 d.1 (two (option_map_or (are_all (names_of ms)) (form_fields d.0.form) false)
    (bytes_eq name d.0.name) has own)
    (λ j e at t.
    let k = and_parts (option_map_or (are_all (names_of ms)) (form_fields e.form) false) (bytes_eq name e.name) t in
    equal j i (sym (struct j e at) ∙ flipped name e.name k.1)))
    ∙ ap Some (no_plus i)

-- the struct that is found is the one that is meant
pub same_struct : (setting : Setting) (locals : Locals) (name : Option Name) (fs : List FieldPart) (ms : List Field) (i : ℕ) (fl : List TypeField)
    (named : Named)
    → ((word : List ℕ) → IsStruct setting.types word (setting.struct_named word)) → FieldsAre setting locals fs ms → struct_place setting name fs ≡ Some i
    → fields setting.types i ≡ Some fl → fields_named fs (Some fl) ≡ Some named → nat_eq (length fl) (length fs) ≡ true
    → struct_with setting.types (name_of name) (names_of ms) ≡ Some i
same_struct setting locals None fs ms i fl named structs are is known there many = unnamed_struct setting locals fs ms i are is
same_struct setting locals (Some word) fs ms i fl named structs are is known there many =
    named_struct setting locals word.text fs ms i fl named are (subst (IsStruct setting.types word.text) is (structs word.text)) known there many
