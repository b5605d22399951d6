-- What is found of each plain form decides where what is found of its parts does.
use Rattle.std.proofs.Common.{◌≡◌, ℕ, Bool, true, false, ◌||◌, List, [], ◌∷◌, ◌++◌, map, ap, sym, ◌∙◌, refl, subst, Option, Some, None, length}
use Rattle.std.proofs.Common.{nat_eq, if◌then◌else◌}
use Rattle.sail_base.specs.declared.operators.Operator.{Operator}
use Rattle.sail_base.specs.declared.operators.Operator.TheVariants as O
use Rattle.sail_base.specs.declared.operators.Prefix.{Prefix}
use Rattle.sail_base.specs.declared.place.Place.{Place}
use Rattle.sail_types.specs.Named.{fields}
use Rattle.sail_types.specs.Rows.{row_members}
use Rattle.sail_types.specs.Shapes.{at, put}
use Rattle.sail_types.specs.declared.numbers.Con.{Con}
use Rattle.sail_types.specs.declared.numbers.Num.{Num}
use Rattle.sail_types.specs.declared.shapes.Shape.{Shape, out-Shape}
use Rattle.sail_types.specs.declared.shapes.Shape.TheVariants as V
use Rattle.sail_syntax.specs.declared.name.Literal.{Literal}
use Rattle.sail_syntax.specs.declared.name.Name.{Name}
use Rattle.sail_syntax.specs.declared.patterns.Pat.{Pat}
use Rattle.sail_syntax.specs.declared.types.TyExp.{TyExp}
use Rattle.sail_syntax.specs.declared.words.Asking.{Asking}
use Rattle.sail_syntax.specs.declared.words.Asking.TheVariants.{Constraint, Sizeof}
use Rattle.sail_syntax.specs.declared.words.Brackets.{Brackets}
use Rattle.sail_syntax.specs.declared.words.Brackets.TheVariants as B
use Rattle.sail_syntax.specs.declared.words.Choosing.TheVariants.{Match}
use Rattle.sail_core.specs.declared.tree.Core.{Core, fold-roll-Core}
use Rattle.sail_core.specs.declared.tree.Kind.{Kind}
use Rattle.sail_core.specs.declared.tree.Kind.TheVariants as K
use Rattle.shape_joins.specs.Joins.{join}
use Rattle.shape_joins.specs.Learning.{holes}
use Rattle.shape_joins.proofs.Order.{two}
use Rattle.shape_rules.specs.declared.callees.Candidate.{Candidate}
use Rattle.shape_rules.specs.declared.callees.Doing.{Doing}
use Rattle.shape_rules.specs.declared.callees.Doing.TheVariants as D
use Rattle.shape_rules.specs.declared.callees.Mapping.{Mapping}
use Rattle.shape_rules.specs.declared.callees.Meant.{Meant}
use Rattle.shape_rules.specs.declared.callees.Meant.TheVariants as M
use Rattle.shape_rules.specs.declared.error.ShapeError.TheVariants as error
use Rattle.shape_rules.specs.declared.locals.Local.{Local}
use Rattle.shape_rules.specs.Calls.{Args, Chosen, Elaborate, args_found, arguments_for, call_found, chosen, counted, doing_kind, member_candidate}
use Rattle.shape_rules.specs.Calls.{member_found, one_called, operator_members, operator_text, or_unit, prefix_members, prefix_text, row_called}
use Rattle.shape_rules.specs.Calls.{several_called, solved, takes_unit, is_unsure_of}
use Rattle.shape_rules.specs.Findings.{Found, behind, cast, given_on, missing, over, refused, settled, settled_as, unknown}
use Rattle.shape_rules.specs.Patterns.{Which, backwards, either, forwards, look, neither, no_widths, which_side}
use Rattle.shape_rules.specs.Scopes.{Locals, Setting, under}
use Rattle.shape_rules.specs.Statements.{CasePart, Cases, cases_found, choose_found, guarded_core, if_found, let_found, of_type_found}
use Rattle.shape_rules.specs.Statements.{size_found, truth_found, var_found}
use Rattle.shape_rules.specs.Targets.{IndexPart, Part, SuffixPart, at_part, cores_of, elaborations, index_found, led_form, led_shape, suffix_found}
use Rattle.shape_rules.specs.Targets.{suffix_place, walked}
use Rattle.shape_rules.specs.Values.{FieldPart, Named, as_one, call_named, callee_called, chained, constant_found, direction_found, does_convert, ends_found}
use Rattle.shape_rules.specs.Values.{fields_named, global_found, group_found, infix_as, infix_found, is_truth_form, is_variable_form, logical_found}
use Rattle.shape_rules.specs.Values.{logical_kind, one_way, undecided, with_failed}
use Rattle.shape_rules.specs.Values.{mapping_found, name_called, name_found, named_place, part_found, parts_found, prefix_found, struct_at, struct_found}
use Rattle.shape_rules.specs.Written.{constraint_in, number_in}
use Rattle.shape_rules.specs.Values.{struct_named, struct_place, typed_found, unit_found, update_found, update_kind, values_of, with_found, with_named, with_of}
use Rattle.plain_cores.specs.Ends.{Ends, IsFine, all_alone, all_arms, alone_kind, decides, ends, ends_kind}

-- ---- cores

abbrev pub Fine : Core → Type 0
Fine c = decides c ≡ true

abbrev pub AllFine : List Core → Type 0
AllFine [] = Unit {0}
AllFine (c ∷ cs) = Fine c × AllFine cs

all_fine : (cs : List Core) → AllFine cs → all_alone (map ends cs) ≡ true
all_fine [] h = refl
all_fine (c ∷ cs) h = two (decides c) (all_alone (map ends cs)) h.0 (all_fine cs h.1)

also_fine : (cs ds : List Core) → AllFine cs → AllFine ds → AllFine (cs ++ ds)
also_fine [] ds h k = k
also_fine (c ∷ cs) ds h k = (h.0, also_fine cs ds h.1 k)

over_ends : (place : Place) (kind : Kind) (cs : List Core) → ends (over place kind cs) ≡ ends_kind kind (map ends cs)
over_ends place kind cs =
    fold-roll-Core Ends (λ c. ends_kind c.kind c.parts) (record { place = place; number = 0; kind = kind; parts = cs })

node_fine : (place : Place) (kind : Kind) (cs : List Core) → alone_kind kind (map ends cs) ≡ true → Fine (over place kind cs)
node_fine place kind cs h = ap (λ (e : Ends). e.alone) (over_ends place kind cs) ∙ h

-- a node that asks it of each part
over_fine : (place : Place) (kind : Kind) (cs : List Core) → alone_kind kind (map ends cs) ≡ all_alone (map ends cs) → AllFine cs
    → Fine (over place kind cs)
over_fine place kind cs same h = node_fine place kind cs (same ∙ all_fine cs h)

missing_fine : (place : Place) → Fine (missing place)
missing_fine place = over_fine place _ [] refl tt

cast_fine : (c : Core) (place : Place) → Fine c → Fine (cast c place)
cast_fine c place h = over_fine place (K.Cast None) (c ∷ []) refl (h, tt)

settled_fine : (place : Place) (want shape : Shape) (core : Shape → Core) → ((s : Shape) → Fine (core s)) → Fine (settled place want shape core).core
settled_fine place want shape core h = by_join (join shape want)
  where
    by_join : (o : Option Shape) → Fine (settled_as place want shape core o).core
    by_join None = missing_fine _
    by_join (Some s) = h s

-- ---- expressions as parts

abbrev pub ElsFine : List Elaborate → Type 0
ElsFine [] = Unit {0}
ElsFine (e ∷ es) = IsFine e × ElsFine es

abbrev pub MaybeFine : Option Part → Type 0
MaybeFine None = Unit {0}
MaybeFine (Some a) = IsFine a.elaborate

abbrev pub PartsFine : List Part → Type 0
PartsFine [] = Unit {0}
PartsFine (a ∷ parts) = IsFine a.elaborate × PartsFine parts

abbrev pub SuffixFine : SuffixPart → Type 0
SuffixFine x = (setting : Setting) (locals : Locals) → AllFine (cores_of (suffix_found x setting locals))

abbrev pub SuffixesFine : List SuffixPart → Type 0
SuffixesFine [] = Unit {0}
SuffixesFine (x ∷ xs) = SuffixFine x × SuffixesFine xs

abbrev pub IndexFine : IndexPart → Type 0
IndexFine index = IsFine index.first.elaborate × MaybeFine index.last

abbrev pub FieldsFine : List FieldPart → Type 0
FieldsFine [] = Unit {0}
FieldsFine (f ∷ fs) = IsFine f.value.elaborate × FieldsFine fs

abbrev pub CaseFine : CasePart → Type 0
CaseFine c = MaybeFine c.guard × IsFine c.body.elaborate

abbrev pub CasesFine : List CasePart → Type 0
CasesFine [] = Unit {0}
CasesFine (c ∷ cs) = CaseFine c × CasesFine cs

pub els_fine : (parts : List Part) → PartsFine parts → ElsFine (elaborations parts)
els_fine [] h = tt
els_fine (a ∷ parts) h = (h.0, els_fine parts h.1)

values_fine : (fs : List FieldPart) → FieldsFine fs → ElsFine (values_of fs)
values_fine [] h = tt
values_fine (f ∷ fs) h = (h.0, values_fine fs h.1)

parts_fine : (es : List Elaborate) → ElsFine es → (setting : Setting) (locals : Locals) (wants : List Shape)
    → AllFine (parts_found es setting locals wants).cores
parts_fine [] h setting locals wants = tt
parts_fine (e ∷ es) h setting locals [] = (h.0 setting locals V.Never, parts_fine es h.1 setting locals [])
parts_fine (e ∷ es) h setting locals (want ∷ wants) = (h.0 setting locals want, parts_fine es h.1 setting locals wants)

chained_fine : (es : List Elaborate) → ElsFine es → (setting : Setting) (locals : Locals) (want : Shape) → AllFine (chained es setting locals want).cores
chained_fine [] h setting locals want = tt
chained_fine (e ∷ es) h setting locals want =
    (h.0 setting locals want, chained_fine es h.1 setting locals (given_on want (e setting locals want).shape))

solved_fine : (es : List Elaborate) → ElsFine es → (setting : Setting) (locals : Locals) (params known : List Shape)
    → AllFine (solved es setting locals params known).cores
solved_fine [] h setting locals params known = tt
solved_fine (e ∷ es) h setting locals [] known = tt
solved_fine (e ∷ es) h setting locals (p ∷ ps) known = (h.0 setting locals (put (at known) p), solved_fine es h.1 setting locals ps _)

args_fine : (es : List Elaborate) → ElsFine es → (setting : Setting) (locals : Locals) → AllFine (args_found es setting locals).cores
args_fine [] h setting locals = tt
args_fine (e ∷ es) h setting locals = (h.0 setting locals V.Never, args_fine es h.1 setting locals)

-- ---- leaves and groups

pub constant_fine : (place : Place) (literal : Literal) (want : Shape) → Fine (constant_found place literal want).core
constant_fine place literal want = settled_fine place want _ _ (λ s. over_fine place (K.Constant _) [] refl tt)

local_fine : (place : Place) (local : Local) (is : Bool) → Fine (over place (if is then K.Variable local.name else K.Local local.name) [])
local_fine place local true = over_fine place (K.Variable local.name) [] refl tt
local_fine place local false = over_fine place (K.Local local.name) [] refl tt

global_fine : (place : Place) (meant : Option Meant) (want : Shape) → Fine (global_found place meant want).core
global_fine place (Some (M.Register r s)) want = settled_fine place want s _ (λ t. over_fine place (K.Register r) [] refl tt)
global_fine place (Some (M.Let i s)) want = settled_fine place want s _ (λ t. over_fine place (K.TopLevel i) [] refl tt)
global_fine place (Some (M.Member i k)) want = settled_fine place want (V.Named i []) _ (λ t. over_fine place (K.Constant _) [] refl tt)
global_fine place meant want = missing_fine place

pub name_fine : (name : Name) (local : Option Local) (meant : Option Meant) (want : Shape) → Fine (name_found name local meant want).core
name_fine name (Some local) meant want = settled_fine name.place want local.shape _ (λ s. local_fine name.place local local.is_variable)
name_fine name None meant want = global_fine name.place meant want

unit_fine : (place : Place) → IsFine (unit_found place)
unit_fine place setting locals want = settled_fine place want V.Unit _ (λ s. over_fine place (K.Constant _) [] refl tt)

pub group_fine : (place : Place) (brackets : Brackets) (es : List Elaborate) → ElsFine es → IsFine (group_found place brackets es)
group_fine place B.Tuple [] h setting locals want = unit_fine place setting locals want
group_fine place B.Tuple (e ∷ es) h setting locals want =
    settled_fine place want _ _ (λ s. over_fine place K.Tuple _ refl (parts_fine (e ∷ es) h setting locals _))
group_fine place B.Vector es h setting locals want =
    settled_fine place want _ _ (λ s. over_fine place (K.Vector _) _ refl (chained_fine es h setting locals _))
group_fine place B.List es h setting locals want =
    settled_fine place want _ _ (λ s. over_fine place (K.List _) _ refl (chained_fine es h setting locals _))

-- ---- calls

doing_alone : (doing : Doing) (known : List Shape) (es : List Ends) → alone_kind (doing_kind doing known) es ≡ all_alone es
doing_alone (D.Calls callee) known es = refl
doing_alone D.Conses known es = refl

call_fine : (place : Place) (want : Shape) (f : Candidate) (known : List Shape) (cores : List Core) → AllFine cores
    → Fine (call_found place want f known cores).core
call_fine place want f known cores h =
    settled_fine place want _ _ (λ s. over_fine place (doing_kind f.doing known) cores (doing_alone f.doing known (map ends cores)) h)

counted_fine : (place : Place) (wanted count : ℕ) (found : Found) → Fine found.core → Fine (counted place wanted count found).core
counted_fine place wanted count found h = by_count (nat_eq wanted count)
  where
    by_count : (b : Bool) → Fine (if b then found else refused (error.Arity place wanted count)).core
    by_count true = h
    by_count false = missing_fine _

one_fine : (place : Place) (f : Candidate) (es : List Elaborate) → ElsFine es → IsFine (one_called place f es)
one_fine place f es h setting locals want =
    counted_fine place (length f.params) (length es) _ (call_fine place want f _ _ (solved_fine es h setting locals f.params (holes f.variables)))

member_fine : (place : Place) (name : List ℕ) (want : Shape) (args : Args) (o : Option Chosen) → AllFine args.cores
    → Fine (member_found place name want args o).core
member_fine place name want args None h = missing_fine _
member_fine place name want args (Some x) h = by_unsure args.is_unsure
  where
    by_unsure : (b : Bool) → Fine (if b then unknown place else call_found place want x.candidate x.known args.cores).core
    by_unsure true = missing_fine place
    by_unsure false = call_fine place want x.candidate x.known args.cores h

several_fine : (place : Place) (name : List ℕ) (fs : List Candidate) (es : List Elaborate) → ElsFine es → IsFine (several_called place name fs es)
several_fine place name fs es h setting locals want =
    member_fine place name want (args_found es setting locals) (chosen fs (args_found es setting locals).shapes) (args_fine es h setting locals)

for_fine : (unit : Elaborate) (params : List Shape) (es : List Elaborate) → IsFine unit → ElsFine es → ElsFine (arguments_for unit params es)
for_fine unit params [] one h = by_unit (takes_unit params)
  where
    by_unit : (b : Bool) → ElsFine (if b then unit ∷ [] else [])
    by_unit true = (one, tt)
    by_unit false = tt
for_fine unit params (e ∷ es) one h = h

or_fine : (unit : Elaborate) (es : List Elaborate) → IsFine unit → ElsFine es → ElsFine (or_unit unit es)
or_fine unit [] one h = (one, tt)
or_fine unit (e ∷ es) one h = h

row_fine : (place : Place) (name : List ℕ) (fs : List Candidate) (unit : Elaborate) (es : List Elaborate) → IsFine unit → ElsFine es
    → IsFine (row_called place name fs unit es)
row_fine place name [] unit es one h = several_fine place name [] (or_unit unit es) (or_fine unit es one h)
row_fine place name (f ∷ []) unit es one h = one_fine place f (arguments_for unit f.params es) (for_fine unit f.params es one h)
row_fine place name (f ∷ g ∷ fs) unit es one h = several_fine place name (f ∷ g ∷ fs) (or_unit unit es) (or_fine unit es one h)

as_one_fine : (place : Place) (parts : List Part) → PartsFine parts → IsFine (as_one place parts).elaborate
as_one_fine place [] h = unit_fine place
as_one_fine place (a ∷ []) h = h.0
as_one_fine place (a ∷ b ∷ parts) h = group_fine place B.Tuple (elaborations (a ∷ b ∷ parts)) (els_fine (a ∷ b ∷ parts) h)

way_fine : (place : Place) (want : Shape) (direction : ℕ) (answer : Shape) (a : Found) → Fine a.core → Fine (one_way place want direction answer a).core
way_fine place want direction answer a h = by_unsure (is_unsure_of a)
  where
    by_unsure : (b : Bool) → Fine (if b then behind a.faults (unknown place) else direction_found place want direction answer a).core
    by_unsure true = missing_fine place
    by_unsure false = settled_fine place want answer _ (λ s. over_fine place (K.Call _) (a.core ∷ []) refl (h, tt))

mapping_fine : (place at_arg : Place) (want : Shape) (m : Mapping) (a : Found) (which : Which) → Fine a.core
    → Fine (mapping_found place at_arg want m a which).core
mapping_fine place at_arg want m a forwards h = way_fine place want _ _ a h
mapping_fine place at_arg want m a backwards h = way_fine place want _ _ a h
mapping_fine place at_arg want m a neither h = missing_fine _
mapping_fine place at_arg want m a either h = missing_fine _

callee_fine : (place : Place) (f : Candidate) (parts : List Part) → PartsFine parts → IsFine (callee_called place f parts)
callee_fine place f parts h setting locals want = by_doing (does_convert f.doing)
  where
    by_doing : (b : Bool) → Fine ((if b then one_called place f ((as_one place parts).elaborate ∷ [])
        else one_called place f (arguments_for (unit_found place) f.params (elaborations parts))) setting locals want).core
    by_doing true = one_fine place f ((as_one place parts).elaborate ∷ []) (as_one_fine place parts h, tt) setting locals want
    by_doing false = one_fine place f _ (for_fine (unit_found place) f.params (elaborations parts) (unit_fine place) (els_fine parts h)) setting locals want

called_fine : (name : Name) (meant : Option Meant) (parts : List Part) → PartsFine parts → IsFine (name_called name meant parts)
called_fine name (Some (M.Callee f)) parts h setting locals want = callee_fine name.place f parts h setting locals want
called_fine name (Some (M.Row row)) parts h setting locals want =
    row_fine name.place name.text (map member_candidate (row_members setting.types row)) (unit_found name.place) (elaborations parts)
    (unit_fine name.place) (els_fine parts h) setting locals want
called_fine name (Some (M.Mapping m)) parts h setting locals want =
    let one : Part = as_one name.place parts in
    mapping_fine name.place one.place want m (one.elaborate setting locals V.Never) (which_side m (one.elaborate setting locals V.Never).shape)
    (as_one_fine name.place parts h setting locals V.Never)
called_fine name (Some (M.Overload fs)) parts h setting locals want =
    several_fine name.place name.text fs (or_unit (unit_found name.place) (elaborations parts))
    (or_fine (unit_found name.place) (elaborations parts) (unit_fine name.place) (els_fine parts h)) setting locals want
called_fine name meant parts h setting locals want = missing_fine name.place

pub named_fine : (name : Name) (parts : List Part) → PartsFine parts → IsFine (call_named name parts)
named_fine name parts h setting locals want = called_fine name (setting.value name.text) parts h setting locals want

-- ---- operators

logical_fine : (place : Place) (operator : Operator) (kind : Kind) (a b : Part) → ((es : List Ends) → alone_kind kind es ≡ all_alone es)
    → IsFine a.elaborate → IsFine b.elaborate → IsFine (infix_as place operator a b (Some kind))
logical_fine place operator kind a b same one next setting locals want =
    by_left (is_truth_form (out-Shape (a.elaborate setting locals V.Never).shape)) (is_variable_form (out-Shape (a.elaborate setting locals V.Never).shape))
  where
    by_left : (t v : Bool) → Fine (
        if t then logical_found place kind want (a.elaborate setting locals V.Never) (b.elaborate setting locals V.Bool)
        else if v then undecided place operator (a.elaborate setting locals V.Never) (b.elaborate setting locals V.Never)
        else several_called place (operator_text operator) (operator_members setting operator) (a.elaborate ∷ b.elaborate ∷ []) setting locals want).core
    by_left true v =
        settled_fine place want V.Bool _ (λ s. over_fine place kind _ (same _) (one setting locals V.Never, (next setting locals V.Bool, tt)))
    by_left false true = missing_fine _
    by_left false false = several_fine place (operator_text operator) (operator_members setting operator) (a.elaborate ∷ b.elaborate ∷ []) (
      one,
      (next, tt),
    ) setting locals want

plain_infix : (place : Place) (operator : Operator) (a b : Part) → logical_kind operator ≡ None → IsFine a.elaborate → IsFine b.elaborate
    → IsFine (infix_found place operator a b)
plain_infix place operator a b plain one next =
    subst (λ o. IsFine (infix_as place operator a b o)) (sym plain)
    (λ setting locals want.
    several_fine place (operator_text operator) (operator_members setting operator) (a.elaborate ∷ b.elaborate ∷ []) (one, (next, tt)) setting locals want)

pub infix_fine : (operator : Operator) (place : Place) (a b : Part) → IsFine a.elaborate → IsFine b.elaborate → IsFine (infix_found place operator a b)
infix_fine O.And place a b one next = logical_fine place O.And K.And a b (λ es. refl) one next
infix_fine O.Or place a b one next = logical_fine place O.Or K.Or a b (λ es. refl) one next
infix_fine operator place a b one next = plain_infix place operator a b refl one next

pub prefix_fine : (place : Place) (prefix : Prefix) (a : Part) → IsFine a.elaborate → IsFine (prefix_found place prefix a)
prefix_fine place prefix a one setting locals want =
    several_fine place (prefix_text prefix) (prefix_members setting prefix) (a.elaborate ∷ []) (one, tt) setting locals want

-- ---- parts of values

walked_fine : (xs : List SuffixPart) → SuffixesFine xs → (setting : Setting) (locals : Locals) (first base : Place) (s : Shape)
    → AllFine (walked xs setting locals first base s).parts
walked_fine [] h setting locals first base s = tt
walked_fine (x ∷ xs) h setting locals first base s =
    also_fine (cores_of (suffix_found x setting locals)) _ (h.0 setting locals)
    (walked_fine xs h.1 setting locals first (suffix_place first x) (led_shape (led_form setting x (out-Shape s))))

pub part_fine : (first : Place) (base : Part) (xs : List SuffixPart) → IsFine base.elaborate → SuffixesFine xs → IsFine (part_found first base xs)
part_fine first base xs one h setting locals want =
    settled_fine _ want _ _ (λ s. over_fine _ (K.Part _) _ refl (
      one setting locals V.Never,
      walked_fine xs h setting locals first base.place (base.elaborate setting locals V.Never).shape,
    ))

pub typed_fine : (place : Place) (a : Part) (typ : TyExp) → IsFine a.elaborate → IsFine (typed_found place a typ)
typed_fine place a typ one setting locals want = settled_fine place want _ _ (λ s. over_fine place (K.Cast _) _ refl (one setting locals _, tt))

pub last_fine : (last : Option Part) → MaybeFine last → (setting : Setting) (locals : Locals) → AllFine (cores_of (index_found last setting locals))
last_fine None h setting locals = tt
last_fine (Some a) h setting locals = (h setting locals V.Int, tt)

pub index_fine : (place : Place) (index : IndexPart) → IndexFine index → SuffixFine (at_part place index)
index_fine place index h setting locals = (h.0 setting locals V.Int, last_fine index.last h.1 setting locals)

update_alone : (last : Option Part) (es : List Ends) → alone_kind (update_kind last) es ≡ all_alone es
update_alone None es = refl
update_alone (Some low) es = refl

pub update_fine : (place : Place) (base : Part) (index : IndexPart) (value : Part) → IsFine base.elaborate → IndexFine index → IsFine value.elaborate
    → IsFine (update_found place base index value)
update_fine place base index value one h next setting locals want =
    settled_fine place want _ _ (λ s. over_fine place (update_kind index.last) _ (update_alone index.last _) (
      one setting locals V.Never,
      also_fine (cores_of (ends_found index setting locals)) _ (index_fine place index h setting locals) (next setting locals _, tt),
    ))

-- ---- structs

struct_fine : (place : Place) (fs : List FieldPart) (o : Option ℕ) → FieldsFine fs → IsFine (struct_at place fs o)
struct_fine place fs None h setting locals want = missing_fine _
struct_fine place fs (Some i) h setting locals want = by_fields (fields_named fs (fields setting.types i))
  where
    by_fields : (o : Option Named) → Fine (struct_named place i fs o setting locals want).core
    by_fields None = missing_fine _
    by_fields (Some named) =
        counted_fine place _ _ _ (settled_fine place want _ _ (λ s. over_fine place (K.Struct i named.places) _ refl
        (solved_fine (values_of fs) (values_fine fs h) setting locals named.shapes _)))

pub structs_fine : (place : Place) (name : Option Name) (fs : List FieldPart) → FieldsFine fs → IsFine (struct_found place name fs)
structs_fine place name fs h setting locals want = struct_fine place fs (struct_place setting name fs) h setting locals want

failed_fine : (place at_base : Place) (fs : List FieldPart) (a : Found) → Fine a.core → FieldsFine fs → (setting : Setting) (locals : Locals) (want : Shape)
    → Fine (with_failed place at_base fs a setting locals want).core
failed_fine place at_base fs a one h setting locals want =
    settled_fine place want _ _ (λ s. over_fine place (K.With 0 []) _ refl (one, parts_fine (values_of fs) (values_fine fs h) setting locals []))

pub with_fine : (place : Place) (base : Part) (fs : List FieldPart) → IsFine base.elaborate → FieldsFine fs → IsFine (with_found place base fs)
with_fine place base fs one h setting locals want = by_place (named_place (out-Shape (base.elaborate setting locals V.Never).shape))
  where
    a : Found
    a = base.elaborate setting locals V.Never

    by_fields : (i : ℕ) (ss : List Shape) (o : Option Named) → Fine (with_named place base.place fs a i ss o setting locals want).core
    by_fields i ss None = failed_fine place base.place fs a (one setting locals V.Never) h setting locals want
    by_fields i ss (Some named) =
        settled_fine place want _ _ (λ s. over_fine place (K.With i named.places) _ refl (
          one setting locals V.Never,
          solved_fine (values_of fs) (values_fine fs h) setting locals named.shapes ss,
        ))

    by_place : (o : Option (ℕ × List Shape)) → Fine (with_of place base.place fs a o setting locals want).core
    by_place None = failed_fine place base.place fs a (one setting locals V.Never) h setting locals want
    by_place (Some named) = by_fields named.0 named.1 (fields_named fs (fields setting.types named.0))

-- ---- names, branches and cases

pub let_fine : (place : Place) (p : Pat) (value body : Part) → IsFine value.elaborate → IsFine body.elaborate → IsFine (let_found place p value body)
let_fine place p value body one next setting locals want =
    over_fine place (K.Let _) _ refl (cast_fine _ value.place (one setting locals _), (next setting _ want, tt))

pub var_fine : (place : Place) (name : Name) (typ : Option TyExp) (value body : Part) → IsFine value.elaborate → IsFine body.elaborate
    → IsFine (var_found place name typ value body)
var_fine place name typ value body one next setting locals want =
    over_fine place (K.Var _ _) _ refl (cast_fine _ value.place (one setting locals _), (next setting _ want, tt))

pub if_fine : (place : Place) (c a : Part) (b : Option Part) → IsFine c.elaborate → IsFine a.elaborate → MaybeFine b → IsFine (if_found place c a b)
if_fine place c a (Some b) test one next setting locals want =
    over_fine place (K.If _) _ refl
    (test setting locals V.Bool, (cast_fine _ a.place (one setting locals want), (cast_fine _ b.place (next setting locals _), tt)))
if_fine place c a None test one next setting locals want =
    settled_fine place want V.Unit _ (λ s. over_fine place (K.If V.Unit) _ refl
    (test setting locals V.Bool, (cast_fine _ a.place (one setting locals V.Unit), tt)))

abbrev ArmsFine : List Core → Type 0
ArmsFine [] = Unit {0}
ArmsFine (c ∷ cs) = ((ends c).as_arm ≡ true) × ArmsFine cs

arms_fine : (cs : List Core) → ArmsFine cs → all_arms (map ends cs) ≡ true
arms_fine [] h = refl
arms_fine (c ∷ cs) h = two (ends c).as_arm (all_arms (map ends cs)) h.0 (arms_fine cs h.1)

-- what decides decides as an arm too
fine_arm : (place : Place) (c : Core) → Fine c → (ends (cast c place)).as_arm ≡ true
fine_arm place c h =
    ap (λ (e : Ends). e.as_arm) (over_ends place (K.Cast None) (c ∷ [])) ∙ ap (λ b. b || false) (all_fine (c ∷ []) (h, tt))

guarded_fine : (guard : Option Part) (body : Core) (place : Place) → MaybeFine guard → Fine body → (setting : Setting) (locals : Locals)
    → (ends (guarded_core guard setting locals (cast body place))).as_arm ≡ true
guarded_fine None body place h one setting locals = fine_arm place body one
guarded_fine (Some guard) body place h one setting locals =
    let c : Core = (guard.elaborate setting locals V.Bool).core in
    ap (λ (e : Ends). e.as_arm) (over_ends guard.place K.When (c ∷ cast body place ∷ []))
    ∙ all_fine (c ∷ cast body place ∷ []) (h setting locals V.Bool, (cast_fine body place one, tt))

cases_fine : (cs : List CasePart) → CasesFine cs → (setting : Setting) (locals : Locals) (subject want : Shape)
    → ArmsFine (cases_found cs setting locals subject want).bodies
cases_fine [] h setting locals subject want = tt
cases_fine (c ∷ cs) h setting locals subject want =
    let inner : Locals = under (look c.pattern setting no_widths subject).binds locals in (
      guarded_fine c.guard (c.body.elaborate setting inner want).core c.body.place h.0.0 (h.0.1 setting inner want) setting inner,
      cases_fine cs h.1 setting locals subject _,
    )

pub match_fine : (place : Place) (value : Part) (cs : List CasePart) → IsFine value.elaborate → CasesFine cs → IsFine (choose_found place Match value cs)
match_fine place value cs one h setting locals want =
    let a : Found = value.elaborate setting locals V.Never in
    let cases : Cases = cases_found cs setting locals a.shape want in
    node_fine place (K.Match cases.arms cases.shape) (cast a.core value.place ∷ cases.bodies)
    (two (decides (cast a.core value.place)) (all_arms (map ends cases.bodies)) (cast_fine a.core value.place (one setting locals V.Never))
    (arms_fine cases.bodies (cases_fine cs h setting locals a.shape want)))

-- ---- `sizeof` and `constraint`

pub of_type_fine : (place : Place) (asking : Asking) (typ : TyExp) → IsFine (of_type_found place asking typ)
of_type_fine place Sizeof typ setting locals want = by_number (number_in setting.within typ)
  where
    by_number : (o : Option Num) → Fine (size_found place typ setting want o).core
    by_number None = missing_fine place
    by_number (Some n) = settled_fine place want V.Int _ (λ s. over_fine place (K.SizeOf n _) [] refl tt)
of_type_fine place Constraint typ setting locals want = by_truth (constraint_in setting.within typ)
  where
    by_truth : (o : Option Con) → Fine (truth_found place typ setting want o).core
    by_truth None = missing_fine place
    by_truth (Some x) = settled_fine place want V.Bool _ (λ s. over_fine place (K.Constraint x _) [] refl tt)
