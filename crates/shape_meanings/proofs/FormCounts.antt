-- What is found of each form has a shape whose named types have the arguments that they should have, where its parts have such shapes.
use Rattle.std.proofs.Common.{◌≡◌, ℕ, List, [], ◌∷◌, length, ap, ◌∙◌, refl, subst, Bool, true, Option, Some, None, nat_eq}
use Rattle.sail_base.specs.declared.place.Place.{Place}
use Rattle.sail_types.specs.Named.{fields}
use Rattle.sail_types.specs.Shapes.{shape}
use Rattle.sail_types.specs.declared.shapes.Shape.{Shape, Shape-F, out-Shape}
use Rattle.sail_types.specs.declared.shapes.Shape.TheOpen as S
use Rattle.sail_types.specs.declared.shapes.Shape.TheVariants as V
use Rattle.sail_types.specs.declared.table.Field.{Field as TypeField}
use Rattle.sail_types.specs.declared.table.Types.{Types}
use Rattle.sail_types.specs.declared.numbers.Num.{Num}
use Rattle.sail_types.specs.declared.numbers.Con.{Con}
use Rattle.sail_syntax.specs.declared.name.Name.{Name}
use Rattle.sail_syntax.specs.declared.types.TyExp.{TyExp}
use Rattle.sail_syntax.specs.declared.words.Choosing.{Choosing}
use Rattle.sail_syntax.specs.declared.words.Choosing.TheVariants.{Match, Try}
use Rattle.sail_syntax.specs.declared.words.Leaving.{Leaving}
use Rattle.sail_syntax.specs.declared.words.Leaving.TheVariants as Leave
use Rattle.sail_syntax.specs.declared.words.Looping.{Looping}
use Rattle.sail_syntax.specs.declared.words.Looping.TheVariants.{While, Repeat}
use Rattle.sail_syntax.specs.declared.words.Asking.{Asking}
use Rattle.sail_syntax.specs.declared.words.Asking.TheVariants.{Sizeof, Constraint}
use Rattle.shape_joins.specs.Learning.{holes}
use Rattle.shape_joins.proofs.Order.{two, same_nat}
use Rattle.shape_joins.proofs.JoinsLeast.{some_same, none}
use Rattle.shape_rules.specs.declared.error.ShapeError.TheVariants as error
use Rattle.shape_rules.specs.Findings.{Found, given_on}
use Rattle.shape_rules.specs.Scopes.{Setting, Locals, under, thrown_as, thrown_shape}
use Rattle.shape_rules.specs.Written.{shape_in, number_in, constraint_in}
use Rattle.shape_rules.specs.Calls.{Solved, solved}
use Rattle.shape_rules.specs.Patterns.{look, no_widths}
use Rattle.shape_rules.specs.Targets.{Part, IndexPart, SuffixPart, Aimed, InStruct, field_in, led_index, led_shape, walked}
use Rattle.shape_rules.specs.Values.{leave_found, return_found, part_found, typed_found, update_found, updated_shape, FieldPart, values_of, Named}
use Rattle.shape_rules.specs.Values.{also_named, fields_named, field_count, variables_of_type, struct_solved, struct_named, struct_at, struct_place}
use Rattle.shape_rules.specs.Values.{struct_found}
use Rattle.shape_rules.specs.Values.{named_place, with_named, with_found, with_failed}
use Rattle.shape_rules.specs.Values as Values
use Rattle.shape_rules.specs.Statements.{FurtherPart, assign_to, StatementPart, blocked, block_found, if_found, CasePart, cases_found, choose_found}
use Rattle.shape_rules.specs.Statements.{RangePart, foreach_found, loop_found, of_type_found, size_found, truth_found, assert_found}
use Rattle.shape_meanings.specs.Counted.{type_count, counted, all_counted, FieldsCounted, LocalsCounted, Counts}
use Rattle.shape_meanings.proofs.Counting.{never_counted, unit_counted, bool_counted, int_counted, bit_counted, bits_counted, vector_counted}
use Rattle.shape_meanings.proofs.Counting.{named_counted, named_parts, counted_out, given_counted, settled_counted, holes_counted, holes_many}
use Rattle.shape_meanings.proofs.CallCounts.{ElCounts, ElsCount, solved_counts, if_counted}
use Rattle.shape_meanings.proofs.TargetCounts.{AimCounted, field_in_counted, walked_counts}

-- ---- what leaves its place, and what doesn't hang on its parts

pub leave_counts : (setting : Setting) (locals : Locals) (place : Place) (leaving : Leaving) (a : Part) → ElCounts setting locals
    (leave_found place leaving a)
leave_counts setting locals place Leave.Return a want h = by_answer setting.answer
  where
    by_answer : (o : Option Shape) → counted setting.types (return_found place a o setting locals want).shape ≡ true
    by_answer None = never_counted setting.types
    by_answer (Some s) = settled_counted setting.types place want V.Never _ h (never_counted setting.types)
leave_counts setting locals place Leave.Throw a want h = settled_counted setting.types place want V.Never _ h (never_counted setting.types)
leave_counts setting locals place Leave.Exit a want h = settled_counted setting.types place want V.Never _ h (never_counted setting.types)

pub foreach_counts : (setting : Setting) (locals : Locals) (place : Place) (name : Name) (range : RangePart) (body : Part)
    → ElCounts setting locals (foreach_found place name range body)
foreach_counts setting locals place name range body want h = settled_counted setting.types place want V.Unit _ h (unit_counted setting.types)

pub loop_counts : (setting : Setting) (locals : Locals) (place : Place) (looping : Looping) (measure : Option Part) (a b : Part)
    → ElCounts setting locals (loop_found place looping measure a b)
loop_counts setting locals place While measure a b want h = settled_counted setting.types place want V.Unit _ h (unit_counted setting.types)
loop_counts setting locals place Repeat measure a b want h = settled_counted setting.types place want V.Unit _ h (unit_counted setting.types)

pub asked_counts : (setting : Setting) (locals : Locals) (place : Place) (asking : Asking) (typ : TyExp) → ElCounts setting locals
    (of_type_found place asking typ)
asked_counts setting locals place Sizeof typ want h = by_option (number_in setting.within typ)
  where
    by_option : (o : Option Num) → counted setting.types (size_found place typ setting want o).shape ≡ true
    by_option None = never_counted setting.types
    by_option (Some n) = settled_counted setting.types place want V.Int _ h (int_counted setting.types)
asked_counts setting locals place Constraint typ want h = by_option (constraint_in setting.within typ)
  where
    by_option : (o : Option Con) → counted setting.types (truth_found place typ setting want o).shape ≡ true
    by_option None = never_counted setting.types
    by_option (Some c) = settled_counted setting.types place want V.Bool _ h (bool_counted setting.types)

pub assert_counts : (setting : Setting) (locals : Locals) (place : Place) (a : Part) (text : Option (List ℕ)) → ElCounts setting locals
    (assert_found place a text)
assert_counts setting locals place a text want h = settled_counted setting.types place want V.Unit _ h (unit_counted setting.types)

-- ---- parts of values

pub part_counts : (setting : Setting) (locals : Locals) (first : Place) (base : Part) (xs : List SuffixPart) → Counts setting
    → ElCounts setting locals base.elaborate → ElCounts setting locals (part_found first base xs)
part_counts setting locals first base xs c a want h =
    settled_counted setting.types _ want (walked xs setting locals first base.place (base.elaborate setting locals V.Never).shape).shape _ h
    (walked_counts setting c xs locals first base.place (base.elaborate setting locals V.Never).shape (a V.Never (never_counted setting.types)))

pub typed_counts : (setting : Setting) (locals : Locals) (place : Place) (a : Part) (typ : TyExp) → counted setting.types (shape_in setting.within typ) ≡ true
    → ElCounts setting locals (typed_found place a typ)
typed_counts setting locals place a typ t want h = settled_counted setting.types place want (shape_in setting.within typ) _ h t

led_wanted : (types : Types) (last : Option Part) (s : Shape) (y : Shape-F Shape) → out-Shape s ≡ y → counted types s ≡ true
    → counted types (led_shape (led_index last y)) ≡ true
led_wanted types None s S.Bits is h = bit_counted types
led_wanted types None s (S.Vector t) is h = counted_out types s (S.Vector t) is h
led_wanted types (Some low) s S.Bits is h = bits_counted types
led_wanted types last s y is h = never_counted types

updated_counted : (types : Types) (last : Option Part) (s t : Shape) (y : Shape-F Shape) → out-Shape s ≡ y → counted types s ≡ true
    → counted types t ≡ true → counted types (updated_shape last y s t) ≡ true
updated_counted types None s t (S.Vector u) is h k =
    vector_counted types (given_on u t) (given_counted types u t (counted_out types s (S.Vector u) is h) k)
updated_counted types last s t y is h k = h

pub update_counts : (setting : Setting) (locals : Locals) (place : Place) (base : Part) (index : IndexPart) (value : Part)
    → ElCounts setting locals base.elaborate → ElCounts setting locals value.elaborate → ElCounts setting locals (update_found place base index value)
update_counts setting locals place base index value a v want h =
    let s : Shape = (base.elaborate setting locals V.Never).shape in
    let fine = a V.Never (never_counted setting.types) in
    let item : Shape = led_shape (led_index index.last (out-Shape s)) in
    let new = v item (led_wanted setting.types index.last s (out-Shape s) refl fine) in
    settled_counted setting.types place want (updated_shape index.last (out-Shape s) s (value.elaborate setting locals item).shape) _ h
    (updated_counted setting.types index.last s (value.elaborate setting locals item).shape (out-Shape s) refl fine new)

-- ---- structs

named_counts : (types : Types) (fs : List FieldPart) (known : Option (List TypeField)) (named : Named) → FieldsCounted types known
    → fields_named fs known ≡ Some named → all_counted types named.shapes ≡ true
named_counts types [] known named h e = subst (λ (n : Named). all_counted types n.shapes ≡ true) (some_same _ named e) refl
named_counts types (f ∷ fs) known named h e =
    by_options (field_in f.name.text known) (fields_named fs known) (λ g is. field_in_counted types f.name.text known g h is)
    (λ more is. named_counts types fs known more h is) e
  where
    by_options : (o : Option InStruct) (p : Option Named) → ((g : InStruct) → o ≡ Some g → counted types (shape g.typ) ≡ true)
        → ((more : Named) → p ≡ Some more → all_counted types more.shapes ≡ true) → also_named o p ≡ Some named → all_counted types named.shapes ≡ true
    by_options None p one others e = none e
    by_options (Some g) None one others e = none e
    by_options (Some g) (Some more) one others e =
        subst (λ (n : Named). all_counted types n.shapes ≡ true) (some_same _ named e)
        (two (counted types (shape g.typ)) (all_counted types more.shapes) (one g refl) (others more refl))

pub struct_counts : (setting : Setting) (locals : Locals) (place : Place) (name : Option Name) (fs : List FieldPart) → Counts setting
    → ElsCount setting locals (values_of fs) → ElCounts setting locals (struct_found place name fs)
struct_counts setting locals place name fs c are want h = by_place (struct_place setting name fs)
  where
    by_named : (i : ℕ) (o : Option Named) → fields_named fs (fields setting.types i) ≡ o
        → counted setting.types (struct_named place i fs o setting locals want).shape ≡ true
    by_named i None is = never_counted setting.types
    by_named i (Some named) is =
        let args : Solved = solved (values_of fs) setting locals named.shapes (holes (variables_of_type setting i)) in
        let kept = solved_counts setting locals (values_of fs) named.shapes (holes (variables_of_type setting i)) are
        (named_counts setting.types fs (fields setting.types i) named (c.fields i) is) (holes_counted setting.types (variables_of_type setting i)) in
        if_counted setting.types (nat_eq (field_count (fields setting.types i)) (length fs)) (struct_solved place want i named.places args)
        (error.Arity place (field_count (fields setting.types i)) (length fs))
        (settled_counted setting.types place want (V.Named i args.known) _ h
        (named_counted setting.types i args.known
        (ap (λ n. nat_eq n (type_count setting.types i)) (kept.1 ∙ holes_many setting.types (variables_of_type setting i))
        ∙ same_nat (type_count setting.types i)) kept.0))

    by_place : (o : Option ℕ) → counted setting.types (struct_at place fs o setting locals want).shape ≡ true
    by_place None = never_counted setting.types
    by_place (Some i) = by_named i (fields_named fs (fields setting.types i)) refl

pub with_counts : (setting : Setting) (locals : Locals) (place : Place) (base : Part) (fs : List FieldPart) → Counts setting
    → ElCounts setting locals base.elaborate → ElsCount setting locals (values_of fs) → ElCounts setting locals (with_found place base fs)
with_counts setting locals place base fs c ca are want h = by_shape (out-Shape a.shape) refl
  where
    a : Found
    a = base.elaborate setting locals V.Never

    fine : counted setting.types a.shape ≡ true
    fine = ca V.Never (never_counted setting.types)

    failed : counted setting.types (with_failed place base.place fs a setting locals want).shape ≡ true
    failed = settled_counted setting.types place want V.Never _ h (never_counted setting.types)

    by_named : (i : ℕ) (ss : List Shape) → out-Shape a.shape ≡ S.Named i ss → (o : Option Named) → fields_named fs (fields setting.types i) ≡ o
        → counted setting.types (with_named place base.place fs a i ss o setting locals want).shape ≡ true
    by_named i ss is None there = failed
    by_named i ss is (Some named) there =
        let args : Solved = solved (values_of fs) setting locals named.shapes ss in
        let parts = named_parts setting.types a.shape i ss is fine in
        let kept = solved_counts setting locals (values_of fs) named.shapes ss are
        (named_counts setting.types fs (fields setting.types i) named (c.fields i) there) parts.1 in
        settled_counted setting.types place want (V.Named i args.known) _ h
        (named_counted setting.types i args.known (ap (λ n. nat_eq n (type_count setting.types i)) kept.1 ∙ parts.0) kept.0)

    by_shape : (y : Shape-F Shape) → out-Shape a.shape ≡ y
        → counted setting.types (Values.with_of place base.place fs a (named_place y) setting locals want).shape ≡ true
    by_shape (S.Named i ss) is = by_named i ss is (fields_named fs (fields setting.types i)) refl
    by_shape y is = failed

-- ---- assignments

pub assign_counts : (setting : Setting) (locals : Locals) (place : Place) (a : Aimed) (more : List FurtherPart) (value : Part)
    → AimCounted setting.types a → ElCounts setting locals (assign_to place a more value)
assign_counts setting locals place a more value m want h = settled_counted setting.types place want a.answer _ h m.1

-- ---- statements and branches

abbrev pub StatementsCount : Setting → Locals → List StatementPart → Type 0
StatementsCount setting locals [] = Unit {0}
StatementsCount setting locals (s ∷ ss) = LocalsCounted setting.types (s setting locals).locals × StatementsCount setting (s setting locals).locals ss

pub blocked_counts : (setting : Setting) (locals : Locals) (ss : List StatementPart) → LocalsCounted setting.types locals
    → StatementsCount setting locals ss → LocalsCounted setting.types (blocked ss setting locals).locals
blocked_counts setting locals [] l are = l
blocked_counts setting locals (s ∷ ss) l are = blocked_counts setting (s setting locals).locals ss are.0 are.1

pub unit_block_counts : (setting : Setting) (locals : Locals) (place : Place) (ss : List StatementPart) → ElCounts setting locals (block_found place ss None)
unit_block_counts setting locals place ss want h = settled_counted setting.types place want V.Unit _ h (unit_counted setting.types)

pub block_counts : (setting : Setting) (locals : Locals) (place : Place) (ss : List StatementPart) (a : Part)
    → ElCounts setting (blocked ss setting locals).locals a.elaborate → ElCounts setting locals (block_found place ss (Some a))
block_counts setting locals place ss a ca want h = ca want h

pub short_if_counts : (setting : Setting) (locals : Locals) (place : Place) (c a : Part) → ElCounts setting locals (if_found place c a None)
short_if_counts setting locals place c a want h = settled_counted setting.types place want V.Unit _ h (unit_counted setting.types)

pub if_counts : (setting : Setting) (locals : Locals) (place : Place) (c a b : Part) → ElCounts setting locals a.elaborate
    → ElCounts setting locals b.elaborate → ElCounts setting locals (if_found place c a (Some b))
if_counts setting locals place c a b ca cb want h =
    let s : Shape = (a.elaborate setting locals want).shape in
    let one = given_counted setting.types want s h (ca want h) in
    given_counted setting.types (given_on want s) (b.elaborate setting locals (given_on want s)).shape one (cb (given_on want s) one)

-- a case's body, whatever counted shape is matched
abbrev pub CaseCounts : Setting → Locals → CasePart → Type 0
CaseCounts setting locals c =
    (subject : Shape) → counted setting.types subject ≡ true
    → ElCounts setting (under (look c.pattern setting no_widths subject).binds locals) c.body.elaborate

abbrev pub CasesCount : Setting → Locals → List CasePart → Type 0
CasesCount setting locals [] = Unit {0}
CasesCount setting locals (c ∷ cs) = CaseCounts setting locals c × CasesCount setting locals cs

cases_count : (setting : Setting) (locals : Locals) (cs : List CasePart) (subject want : Shape) → CasesCount setting locals cs
    → counted setting.types subject ≡ true → counted setting.types want ≡ true → counted setting.types (cases_found cs setting locals subject want).shape ≡ true
cases_count setting locals [] subject want are s h = h
cases_count setting locals (c ∷ cs) subject want are s h =
    let inner : Locals = under (look c.pattern setting no_widths subject).binds locals in
    let t : Shape = (c.body.elaborate setting inner want).shape in
    cases_count setting locals cs subject (given_on want t) are.1 s (given_counted setting.types want t h (are.0 subject s want h))

pub thrown_counted : (types : Types) (o : Option ℕ) → ((i : ℕ) → o ≡ Some i → type_count types i ≡ 0) → counted types (thrown_as o) ≡ true
thrown_counted types None f = never_counted types
thrown_counted types (Some i) f = named_counted types i [] (ap (nat_eq 0) (f i refl)) refl

pub choose_counts : (setting : Setting) (locals : Locals) (place : Place) (choosing : Choosing) (a : Part) (cs : List CasePart) → Counts setting
    → ElCounts setting locals a.elaborate → CasesCount setting locals cs → ElCounts setting locals (choose_found place choosing a cs)
choose_counts setting locals place Match a cs c ca are want h =
    cases_count setting locals cs (a.elaborate setting locals V.Never).shape want are (ca V.Never (never_counted setting.types)) h
choose_counts setting locals place Try a cs c ca are want h =
    cases_count setting locals cs (thrown_shape setting) (given_on want (a.elaborate setting locals want).shape) are
    (thrown_counted setting.types setting.exception c.exception) (given_counted setting.types want (a.elaborate setting locals want).shape h (ca want h))
