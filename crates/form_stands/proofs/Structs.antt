-- Struct literals and `{ e with f = v, .. }`.
use Rattle.std.proofs.Common.{◌≡◌, inl, inr, ℕ, suc, Bool, true, false, List, [], ◌∷◌, ◌++◌, map, length, ap, sym, ◌∙◌, refl, subst}
use Rattle.std.proofs.Common.{nat_eq, slice_get, if◌then◌else◌, arith, Option, Some, None}
use Rattle.sail_base.specs.declared.place.Place.{Place}
use Rattle.sail_syntax.specs.declared.name.Name.{Name}
use Rattle.sail_types.specs.Named.{field_types, fields}
use Rattle.sail_types.specs.Shapes.{at, put}
use Rattle.sail_types.specs.declared.shapes.Shape.{Shape, Shape-F, out-Shape}
use Rattle.sail_types.specs.declared.shapes.Shape.TheOpen as S
use Rattle.sail_types.specs.declared.shapes.Shape.TheVariants as V
use Rattle.sail_types.specs.declared.shapes.Shape.TheViews.{out-roll-Shape}
use Rattle.sail_types.specs.declared.table.Field.{Field as TypeField}
use Rattle.sail_core.specs.declared.tree.Core.{Core}
use Rattle.sail_core.specs.declared.tree.Kind.TheVariants as K
use Rattle.shape_joins.specs.Filling.{fill_all}
use Rattle.shape_joins.specs.Learning.{holes}
use Rattle.shape_joins.proofs.JoinsLeast.{none}
use Rattle.shape_rules.specs.declared.error.ShapeError.TheVariants as error
use Rattle.shape_rules.specs.Calls.{Solved, counted, solved}
use Rattle.shape_rules.specs.Findings.{Found, refused}
use Rattle.shape_rules.specs.Scopes.{Locals}
use Rattle.shape_rules.specs.Targets.{InStruct, Part, base_faults, field_named}
use Rattle.shape_rules.specs.Values.{FieldPart, Named, Parts, field_count, fields_named, named_place, parts_found, struct_at, struct_found, struct_named}
use Rattle.shape_rules.specs.Values.{struct_place, struct_solved, values_of, variables_of_type, with_failed, with_found, with_named, with_of}
use Rattle.shape_meanings.specs.Parts.{NamesApart, NotNamed}
use Rattle.shape_meanings.proofs.Fields.{field_stands}
use Rattle.shape_meanings.proofs.Withs.{Placed, placed_are, placed_count, named_fills}
use Rattle.shape_meanings.proofs.StructLiterals.{one_name, places_count}
use Rattle.shape_meanings.proofs.Bases.{not_none}
use Rattle.shape_progress.specs.Rules.{FieldsAre, NotAmong, Once}
use Rattle.shape_stands.specs.Inside.{Position}
use Rattle.shape_stands.specs.Stands.{AllStandAt, FieldsStand, FoundShaped, IsShapedAt, StandsAt}
use Rattle.shape_stands.proofs.Standing.{AllShaped, Ruled, both_empty, filled, settled_node}
use Rattle.form_stands.proofs.Arguments.{all_firsts, solved_shaped}
use Rattle.form_stands.proofs.Updates.{never_gives}

-- ---- fields at their places

true_false : true ≡ false → ⊥
true_false h = cc

not_among : (fl : List TypeField) (name : List ℕ) (f : InStruct) (fs : List FieldPart) (is : List ℕ) (ss : List Shape) → field_named name fl ≡ Some f
    → NotNamed name fs → Placed (Some fl) fs is ss → NotAmong f.place is
not_among fl name f [] [] [] h apart placed = tt
not_among fl name f (p ∷ ps) (i ∷ is) (s ∷ ss) h apart placed = (
  λ same. true_false (sym (one_name fl p.name.text name placed.0.0 f placed.0.1 h (placed.0.2 ∙ same)) ∙ apart.0),
  not_among fl name f ps is ss h apart.1 placed.1,
)
not_among fl name f [] [] (s ∷ ss) h apart placed = absurd placed
not_among fl name f [] (i ∷ is) ss h apart placed = absurd placed
not_among fl name f (p ∷ ps) [] ss h apart placed = absurd placed
not_among fl name f (p ∷ ps) (i ∷ is) [] h apart placed = absurd placed

-- fields of different names stand at different places
places_once : (fl : List TypeField) (fs : List FieldPart) (is : List ℕ) (ss : List Shape) → NamesApart fs → Placed (Some fl) fs is ss → Once is
places_once fl [] [] [] apart placed = tt
places_once fl (f ∷ fs) (i ∷ is) (s ∷ ss) apart placed =
    (subst (λ k. NotAmong k is) placed.0.2 (not_among fl f.name.text placed.0.0 fs is ss placed.0.1 apart.0 placed.1), places_once fl fs is ss apart.1 placed.1)
places_once fl [] [] (s ∷ ss) apart placed = absurd placed
places_once fl [] (i ∷ is) ss apart placed = absurd placed
places_once fl (f ∷ fs) [] ss apart placed = absurd placed
places_once fl (f ∷ fs) (i ∷ is) [] apart placed = absurd placed

-- and have the shapes of their types
fields_are : (fl : List TypeField) (us : List Shape) (fs : List FieldPart) (is : List ℕ) (ss : List Shape) → Placed (Some fl) fs is ss
    → FieldsAre us fl is (map (put (at us)) ss)
fields_are fl us [] [] [] placed = tt
fields_are fl us (f ∷ fs) (i ∷ is) (s ∷ ss) placed =
    let g : InStruct = placed.0.0 in
    let stands = field_stands fl f.name.text g placed.0.1 in (
      (g.typ, subst (λ k. slice_get (field_types fl) k ≡ Some g.typ) placed.0.2 stands.1, ap (put (at us)) (sym placed.0.3)),
      fields_are fl us fs is ss placed.1,
    )
fields_are fl us [] [] (s ∷ ss) placed = absurd placed
fields_are fl us [] (i ∷ is) ss placed = absurd placed
fields_are fl us (f ∷ fs) [] ss placed = absurd placed
fields_are fl us (f ∷ fs) (i ∷ is) [] placed = absurd placed

types_count : (fl : List TypeField) → length (field_types fl) ≡ length fl
types_count [] = refl
types_count (f ∷ fl) = ap suc (types_count fl)

same_count : (n k : ℕ) → nat_eq n k ≡ true → n ≡ k
same_count n k h = grind (arith, h)

-- ---- values of fields

values_stand : (here : Position) (locals : Locals) (fs : List FieldPart) → FieldsStand here locals fs → AllStandAt here locals (values_of fs)
values_stand here locals [] stand = tt
values_stand here locals (f ∷ fs) stand = (stand.0, values_stand here locals fs stand.1)

-- values of fields that are wanted so have the fields' shapes
fields_have : (here : Position) (locals : Locals) (known : Option (List TypeField)) (fs : List FieldPart) (named : Named) (us : List Shape)
    → Placed known fs named.places named.shapes → FieldsStand here locals fs → (solved (values_of fs) here.setting locals named.shapes us).faults ≡ []
    → (fill_all us (solved (values_of fs) here.setting locals named.shapes us).known ≡ true)
    × AllShaped here locals (map (put (at (solved (values_of fs) here.setting locals named.shapes us).known)) named.shapes)
    (solved (values_of fs) here.setting locals named.shapes us).cores
fields_have here locals known fs named us placed stand e =
    let args : Solved = solved (values_of fs) here.setting locals named.shapes us in
    let r = solved_shaped (values_of fs) here locals named.shapes us (values_stand here locals fs stand) e in (
      r.0,
      subst (λ ps. AllShaped here locals (map (put (at args.known)) ps) args.cores)
          (all_firsts (values_of fs) named.shapes (placed_count known fs named.places named.shapes placed)) r.1,
    )

out_named : (i : ℕ) (us : List Shape) → out-Shape (V.Named i us) ≡ S.Named i us
out_named i us = ap out-Shape (sym (V.rolls-Named i us)) ∙ out-roll-Shape (S.Named i us)

-- ---- struct literals

literal_ruled : (here : Position) (locals : Locals) (i : ℕ) (us : List Shape) (fl : List TypeField) (fs : List FieldPart) (named : Named) (cores : List Core)
    → fields here.setting.types i ≡ Some fl → nat_eq (length fl) (length fs) ≡ true → NamesApart fs → Placed (Some fl) fs named.places named.shapes
    → AllShaped here locals (map (put (at us)) named.shapes) cores → Ruled here locals (V.Named i us) (K.Struct i named.places) cores
literal_ruled here locals i us fl fs named cores known many apart placed have registers c w inside slots seen = (
  us,
  fl,
  map (put (at us)) named.shapes,
  out_named i us,
  known,
  places_count (Some fl) fs named.places named.shapes placed ∙ sym (same_count (length fl) (length fs) many) ∙ sym (types_count fl),
  places_once fl fs named.places named.shapes apart placed,
  fields_are fl us fs named.places named.shapes placed,
  have registers c w inside slots seen,
)

-- the struct's fields, of which there are as many as are written
literal_counted : (here : Position) (locals : Locals) (want : Shape) (place : Place) (fs : List FieldPart) (i : ℕ) (fl : List TypeField) (named : Named)
    (b : Bool)
    → fields here.setting.types i ≡ Some fl → nat_eq (length fl) (length fs) ≡ b → NamesApart fs → Placed (Some fl) fs named.places named.shapes
    → FieldsStand here locals fs
    → FoundShaped here locals
    (if b then struct_solved place want i named.places (solved (values_of fs) here.setting locals named.shapes (holes (variables_of_type here.setting i)))
    else refused (error.Arity place (length fl) (length fs)))
literal_counted here locals want place fs i fl named false known many apart placed stand e = not_none e
literal_counted here locals want place fs i fl named true known many apart placed stand e =
    let open_shapes : List Shape = holes (variables_of_type here.setting i) in
    let args : Solved = solved (values_of fs) here.setting locals named.shapes open_shapes in
    let h = both_empty args.faults _ e in
    let have = fields_have here locals (Some fl) fs named open_shapes placed stand h.0 in
    settled_node here locals place place want (V.Named i args.known) (λ s. K.Struct i named.places) args.cores h.1
    (λ t. literal_ruled here locals i args.known fl fs named args.cores known many apart placed have.1)

pub struct_shaped : (here : Position) (locals : Locals) (place : Place) (name : Option Name) (fs : List FieldPart) (i : ℕ) (fl : List TypeField)
    → struct_place here.setting name fs ≡ Some i → fields here.setting.types i ≡ Some fl → NamesApart fs → FieldsStand here locals fs
    → IsShapedAt here locals (struct_found place name fs)
struct_shaped here locals place name fs i fl is known apart stand want =
    subst (λ o. FoundShaped here locals (struct_at place fs o here.setting locals want)) (sym is)
    (by_named (fields_named fs (fields here.setting.types i)) refl)
  where
    with_fields : Named → Found
    with_fields named =
        struct_solved place want i named.places (solved (values_of fs) here.setting locals named.shapes (holes (variables_of_type here.setting i)))

    by_named : (o : Option Named) → fields_named fs (fields here.setting.types i) ≡ o
        → FoundShaped here locals (struct_named place i fs o here.setting locals want)
    by_named None there e = not_none e
    by_named (Some named) there e =
        subst (λ (n : ℕ). FoundShaped here locals (counted place n (length fs) (with_fields named))) (sym (ap field_count known))
        (literal_counted here locals want place fs i fl named (nat_eq (length fl) (length fs)) known refl apart
        (placed_are fs (Some fl) named (sym (ap (fields_named fs) known) ∙ there)) stand) e

-- ---- a struct with other values in some fields

-- a first field is one of a struct
struct_there : (known : Option (List TypeField)) (f : FieldPart) (more : List FieldPart) (is : List ℕ) (ss : List Shape) → Placed known (f ∷ more) is ss
    → (fl : List TypeField) × (known ≡ Some fl)
struct_there (Some fl) f more is ss placed = (fl, refl)
struct_there None f more [] ss placed = absurd placed
struct_there None f more (i ∷ is) [] placed = absurd placed
struct_there None f more (i ∷ is) (s ∷ ss) placed = none placed.0.1

pub with_shaped : (here : Position) (locals : Locals) (place : Place) (base : Part) (f : FieldPart) (more : List FieldPart)
    → StandsAt here locals base.elaborate → FieldsStand here locals (f ∷ more) → IsShapedAt here locals (with_found place base (f ∷ more))
with_shaped here locals place base f more one stand want e = by_shape (named_place (out-Shape a.shape)) (shape_is (out-Shape a.shape) refl) e
  where
    fs : List FieldPart
    fs = f ∷ more

    a : Found
    a = base.elaborate here.setting locals V.Never

    IsNamed : Option (ℕ × List Shape) → Type 0
    IsNamed None = Unit {0}
    IsNamed (Some n) = out-Shape a.shape ≡ S.Named n.0 n.1

    shape_is : (y : Shape-F Shape) → out-Shape a.shape ≡ y → IsNamed (named_place y)
    shape_is (S.Named i ss) is = is
    shape_is y is = tt

    failed : FoundShaped here locals (with_failed place base.place fs a here.setting locals want)
    failed e =
        let parts : Parts = parts_found (values_of fs) here.setting locals [] in
        let h = both_empty ((a.faults ++ base_faults base.place a.shape None) ++ parts.faults) _ e in
        let h2 = both_empty (a.faults ++ base_faults base.place a.shape None) parts.faults h.0 in
        let h3 = both_empty a.faults (base_faults base.place a.shape None) h2.0 in
        let never = never_gives here locals base.place a h3.1 (one V.Never h3.0).1 in
        settled_node here locals place place want V.Never (λ s. K.With 0 []) (a.core ∷ parts.cores) h.1
        (λ t registers c w inside slots seen. inl (never registers c w inside slots seen))

    by_fields : (i : ℕ) (ss : List Shape) → out-Shape a.shape ≡ S.Named i ss → (o : Option Named) → fields_named fs (fields here.setting.types i) ≡ o
        → FoundShaped here locals (with_named place base.place fs a i ss o here.setting locals want)
    by_fields i ss is None there e = failed e
    by_fields i ss is (Some named) there e =
        let args : Solved = solved (values_of fs) here.setting locals named.shapes ss in
        let placed = placed_are fs (fields here.setting.types i) named there in
        let known = struct_there (fields here.setting.types i) f more named.places named.shapes placed in
        let placed_there = subst (λ o. Placed o fs named.places named.shapes) known.1 placed in
        let h = both_empty (a.faults ++ args.faults) _ e in
        let h2 = both_empty a.faults args.faults h.0 in
        let have = fields_have here locals (fields here.setting.types i) fs named ss placed stand h2.1 in
        let own = filled here locals a.shape (V.Named i args.known) a.core (named_fills a.shape i ss args.known is have.0) (one V.Never h2.0).1 in
        settled_node here locals place place want (V.Named i args.known) (λ s. K.With i named.places) (a.core ∷ args.cores) h.1
        (λ t registers c w inside slots seen. inr (
          args.known,
          known.0,
          map (put (at args.known)) named.shapes,
          out_named i args.known,
          known.1,
          own registers c w inside slots seen,
          fields_are known.0 args.known fs named.places named.shapes placed_there,
          have.1 registers c w inside slots seen,
        ))

    by_shape : (o : Option (ℕ × List Shape)) → IsNamed o → FoundShaped here locals (with_of place base.place fs a o here.setting locals want)
    by_shape None is e = failed e
    by_shape (Some n) is e = by_fields n.0 n.1 is (fields_named fs (fields here.setting.types n.0)) refl e
