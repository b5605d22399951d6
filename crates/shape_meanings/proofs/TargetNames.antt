-- Names as targets of assignments, and the structs and fields of struct literals, where the tables find no failure.
use Rattle.std.proofs.Common.{◌≡◌, ℕ, suc, Bool, true, false, List, [], ◌∷◌, map, ap, sym, ◌∙◌, refl, subst, Option, Some, None, if◌then◌else◌}
use Rattle.std.specs.Str.{bytes_eq}
use Rattle.sail_types.specs.declared.table.Definition.{Definition}
use Rattle.sail_syntax.specs.declared.name.Name.{Name}
use Rattle.sail_core.specs.Run.{gives}
use Rattle.sail_meaning.specs.Targets.{name_spot}
use Rattle.shape_joins.proofs.Order.{no}
use Rattle.shape_joins.proofs.JoinsLeast.{some_same, none}
use Rattle.sail_names.specs.declared.locals.Binding.{Binding}
use Rattle.sail_names.specs.declared.locals.Binding.TheVariants.{Constant, Variable}
use Rattle.sail_names.specs.declared.names.Global.{Global}
use Rattle.sail_names.specs.declared.names.Global.TheVariants as G
use Rattle.sail_names.specs.Known as Tables
use Rattle.sail_names.specs.Known.{is_assigned, is_assigned_as}
use Rattle.sail_names.specs.Locals as Bound
use Rattle.sail_names.specs.Locals.{binding_of}
use Rattle.sail_names.specs.Patterns.{clashes}
use Rattle.sail_names.specs.Uses.{struct_failures}
use Rattle.shape_rules.specs.declared.callees.Meant.{Meant}
use Rattle.shape_rules.specs.declared.locals.Local.{Local}
use Rattle.shape_rules.specs.Scopes.{Setting, Locals, local_of}
use Rattle.shape_rules.specs.Targets.{name_aimed}
use Rattle.shape_rules.specs.Values.{FieldPart, has_just, only_one, structs_from, struct_place}
use Rattle.shape_meanings.specs.Aims.{AimIs}
use Rattle.shape_meanings.specs.Naming.{AreKnown, AreBound, BoundAs, MeantAs}
use Rattle.shape_meanings.specs.Parts.{NamesApart, NotNamed}
use Rattle.shape_meanings.specs.Sound.{VarsSettled}
use Rattle.shape_meanings.proofs.Aims.{register_aim, variable_aim}
use Rattle.shape_meanings.proofs.Apart.{NoneIs, TextsApart, all_apart, no_if}
use Rattle.shape_meanings.proofs.Naming.{unless_true}
use Rattle.shape_meanings.proofs.Settling.{same_name}
use Rattle.shape_meanings.proofs.StructNames.{bytes_same}
use Rattle.sail_types.specs.Named.{fields}
use Rattle.sail_types.specs.declared.table.Field.{Field as TypeField}

-- ---- a name

named_aim : (setting : Setting) (names : Tables.Setting) (locals : Locals) → VarsSettled setting locals → (name : Name) (ol : Option Local)
    (ob : Option Binding)
    (g : Option Global) (meant : Option Meant)
    → local_of name.text locals ≡ ol → BoundAs ob ol → is_assigned_as ob g ≡ true → MeantAs names g meant → setting.value name.text ≡ meant
    → AimIs setting locals (name_aimed name ol meant) (λ w. gives (name_spot w name.text))
named_aim setting names locals settled name (Some l) (Some Variable) g meant there bound h m is =
    variable_aim setting locals name l meant there (settled name.text l there bound)
named_aim setting names locals settled name (Some l) (Some Constant) g meant there bound h m is = no h
named_aim setting names locals settled name (Some l) None g meant there bound h m is = absurd bound
named_aim setting names locals settled name None (Some Variable) g meant there bound h m is = absurd bound
named_aim setting names locals settled name None (Some Constant) g meant there bound h m is = absurd bound
named_aim setting names locals settled name None None (Some G.Register) meant there bound h m is =
    subst (λ x. AimIs setting locals (name_aimed name None x) (λ w. gives (name_spot w name.text))) (sym m.2)
    (register_aim setting locals name m.0 m.1 there (is ∙ m.2))
named_aim setting names locals settled name None None g meant there bound h m is = no h

-- a name that the tables know as one that can be assigned
pub name_aim : (setting : Setting) (names : Tables.Setting) (locals : Locals) (bound : Bound.Locals) → AreKnown setting names → AreBound bound locals
    → VarsSettled setting locals → (name : Name) → is_assigned names bound name.text ≡ true
    → AimIs setting locals (name_aimed name (local_of name.text locals) (setting.value name.text)) (λ w. gives (name_spot w name.text))
name_aim setting names locals bound known are settled name h =
    named_aim setting names locals settled name (local_of name.text locals) (binding_of name.text bound) (names.known.value name.text)
    (setting.value name.text) refl (are name.text) h (known.values name.text) refl

-- ---- fields, no two of one name

not_named : (name : Name) (fs : List FieldPart) → NoneIs name.text (map (λ (n : Name). n.text) (map (λ (f : FieldPart). f.name) fs)) → NotNamed name.text fs
not_named name [] apart = tt
not_named name (f ∷ fs) apart = (
  no_if (bytes_eq f.name.text name.text) (λ k. false_is (sym apart.0 ∙ ap (bytes_eq name.text) (same_name f.name.text name.text k) ∙ bytes_same name.text)),
  not_named name fs apart.1,
)
  where
    false_is : false ≡ true → ⊥
    false_is h = cc

names_differ : (fs : List FieldPart) → TextsApart (map (λ (n : Name). n.text) (map (λ (f : FieldPart). f.name) fs)) → NamesApart fs
names_differ [] apart = tt
names_differ (f ∷ fs) apart = (not_named f.name fs apart.0, names_differ fs apart.1)

pub names_apart : (fs : List FieldPart) (ns : List Name) → map (λ (f : FieldPart). f.name) fs ≡ ns → clashes ns ≡ [] → NamesApart fs
names_apart fs ns same e =
    names_differ fs (subst (λ ms. TextsApart (map (λ (n : Name). n.text) ms)) (sym same) (all_apart [] ns e))

-- ---- the struct of a literal has fields that are known

has_known : (fs : List FieldPart) (o : Option (List TypeField)) → has_just fs o ≡ true → (fl : List TypeField) × (o ≡ Some fl)
has_known fs None h = no h
has_known fs (Some fl) h = (fl, refl)

abbrev AllHave : Setting → List FieldPart → List ℕ → Type 0
AllHave setting fs [] = Unit {0}
AllHave setting fs (i ∷ is) = (has_just fs (fields setting.types i) ≡ true) × AllHave setting fs is

all_have : (setting : Setting) (fs : List FieldPart) (i : ℕ) (ds : List Definition) → AllHave setting fs (structs_from setting fs i ds)
all_have setting fs i [] = tt
all_have setting fs i (d ∷ ds) = by_test (has_just fs (fields setting.types i)) refl (all_have setting fs (suc i) ds)
  where
    by_test : (b : Bool) → has_just fs (fields setting.types i) ≡ b → AllHave setting fs (structs_from setting fs (suc i) ds)
        → AllHave setting fs (if b then i ∷ structs_from setting fs (suc i) ds else structs_from setting fs (suc i) ds)
    by_test true h others = (h, others)
    by_test false h others = others

only_has : (setting : Setting) (fs : List FieldPart) (is : List ℕ) (i : ℕ) → AllHave setting fs is → only_one is ≡ Some i
    → has_just fs (fields setting.types i) ≡ true
only_has setting fs [] i all h = none h
only_has setting fs (j ∷ []) i all h = subst (λ k. has_just fs (fields setting.types k) ≡ true) (some_same j i h) all.0
only_has setting fs (j ∷ k ∷ ks) i all h = none h

pub struct_known : (setting : Setting) (names : Tables.Setting) → AreKnown setting names → (name : Option Name) (fs : List FieldPart) (i : ℕ)
    → struct_failures names name ≡ [] → struct_place setting name fs ≡ Some i → (fl : List TypeField) × (fields setting.types i ≡ Some fl)
struct_known setting names known None fs i u h =
    has_known fs (fields setting.types i)
    (only_has setting fs (structs_from setting fs 0 setting.types.definitions) i (all_have setting fs 0 setting.types.definitions) h)
struct_known setting names known (Some name) fs i u h =
    known.structs name.text i (unless_true (names.known.is_struct name.text) name u) h
