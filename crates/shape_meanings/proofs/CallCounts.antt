-- What is found of calls and of what they are made of has a shape whose named types have the arguments that they should have.
use Rattle.std.proofs.Common.{◌≡◌, ℕ, List, [], ◌∷◌, map, length, ap, ◌∙◌, refl, subst, Bool, true, false, Option, Some, None, nat_eq}
use Rattle.std.proofs.Common.{if◌then◌else◌}
use Rattle.std.specs.Str.{bytes_eq}
use Rattle.std.proofs.lemmas.Bool.{and_parts}
use Rattle.sail_base.specs.declared.operators.Operator.{Operator}
use Rattle.sail_base.specs.declared.operators.Prefix.{Prefix}
use Rattle.sail_base.specs.declared.place.Place.{Place}
use Rattle.sail_types.specs.Rows.{row_members}
use Rattle.sail_types.specs.Shapes.{at, put, shape}
use Rattle.sail_types.specs.declared.shapes.Shape.{Shape, Shape-F, out-Shape}
use Rattle.sail_types.specs.declared.shapes.Shape.TheOpen as S
use Rattle.sail_types.specs.declared.shapes.Shape.TheVariants as V
use Rattle.sail_types.specs.declared.table.Types.{Types}
use Rattle.sail_syntax.specs.declared.name.Literal.{Literal}
use Rattle.sail_syntax.specs.declared.name.Literal.TheVariants as N
use Rattle.sail_syntax.specs.declared.name.Name.{Name}
use Rattle.sail_syntax.specs.declared.words.Brackets.{Brackets}
use Rattle.sail_syntax.specs.declared.words.Brackets.TheVariants as B
use Rattle.sail_core.specs.declared.tree.Kind.{Kind}
use Rattle.sail_core.specs.declared.tree.Core.{Core}
use Rattle.shape_joins.specs.Learning.{learn, learn_all, holes}
use Rattle.shape_joins.proofs.Order.{two}
use Rattle.shape_rules.specs.declared.callees.Candidate.{Candidate}
use Rattle.shape_rules.specs.declared.callees.Mapping.{Mapping}
use Rattle.shape_rules.specs.declared.callees.Meant.{Meant}
use Rattle.shape_rules.specs.declared.callees.Meant.TheVariants as M
use Rattle.shape_rules.specs.declared.locals.Local.{Local}
use Rattle.shape_rules.specs.Findings.{Found, given_on, unknown, behind, refused}
use Rattle.shape_rules.specs.Scopes.{Setting, Locals, local_of}
use Rattle.shape_rules.specs.Calls.{Elaborate, Solved, solved, solved_found, known_or, call_found, arguments_for, one_called}
use Rattle.shape_rules.specs.Calls.{Args, args_found, Chosen, chosen, chosen_or, member_found, several_called, or_unit, row_called, takes_unit}
use Rattle.shape_rules.specs.Calls.{is_unsure_of}
use Rattle.shape_rules.specs.Calls.{member_candidate, operator_members, operator_text, prefix_members}
use Rattle.shape_rules.specs.Patterns.{literal_shape, Which, forwards, backwards, neither, either, which_side}
use Rattle.shape_rules.specs.Targets.{Part, elaborations}
use Rattle.shape_rules.specs.Values.{name_found, global_found, unit_found, parts_found, tuple_wants, chained}
use Rattle.shape_rules.specs.Values.{vector_want, list_want, item_shape, group_found, as_one, one_way, direction_found, mapping_found, callee_called}
use Rattle.shape_rules.specs.Values.{name_called}
use Rattle.shape_rules.specs.Values.{infix_found, infix_as, logical_kind, is_truth_form, is_variable_form, logical_found, undecided, prefix_found}
use Rattle.shape_rules.specs.Values.{does_convert}
use Rattle.shape_rules.specs.declared.error.ShapeError.{ShapeError}
use Rattle.shape_rules.specs.declared.error.ShapeError.TheVariants as error
use Rattle.shape_meanings.specs.Counted.{counted, all_counted, AreCounted, LocalsCounted, MeantCounted, Counts}
use Rattle.shape_meanings.proofs.Counting.{Kept, never_counted, hole_counted, unit_counted, bool_counted, int_counted, bits_counted, string_counted}
use Rattle.shape_meanings.proofs.Counting.{bit_counted, list_counted, vector_counted, tuple_counted, named_counted, counted_out, given_counted}
use Rattle.shape_meanings.proofs.Counting.{settled_counted, put_at_counted, learn_counted, learns_counted, holes_counted}
use Rattle.shape_meanings.proofs.Choosing.{is_taken}

-- ---- names

local_if : (types : Types) (b : Bool) (x l : Local) (o : Option Local) → counted types x.shape ≡ true → (o ≡ Some l → counted types l.shape ≡ true)
    → (if b then Some x else o) ≡ Some l → counted types l.shape ≡ true
local_if types true x l o h f e = subst (λ (y : Local). counted types y.shape ≡ true) (same x l e) h
  where
    same : (x l : Local) → Some x ≡ Some l → x ≡ l
    same x l e = cc
local_if types false x l o h f e = f e

pub local_counted : (types : Types) (locals : Locals) (name : List ℕ) (l : Local) → LocalsCounted types locals → local_of name locals ≡ Some l
    → counted types l.shape ≡ true
local_counted types [] name l h e = absurd (none_some e)
  where
    none_some : {A : Type 0} {x : A} → None ≡ Some x → ⊥
    none_some e = cc
local_counted types (x ∷ locals) name l h e =
    local_if types (bytes_eq x.name name) x l (local_of name locals) h.0 (local_counted types locals name l h.1) e

pub literal_counted : (types : Types) (literal : Literal) → counted types (literal_shape literal) ≡ true
literal_counted types (N.Number n) = int_counted types
literal_counted types (N.Bits bits) = bits_counted types
literal_counted types (N.String text) = string_counted types
literal_counted types (N.Bool b) = bool_counted types
literal_counted types (N.Bit b) = bit_counted types

global_counts : (types : Types) (place : Place) (meant : Option Meant) (want : Shape) → MeantCounted types meant → counted types want ≡ true
    → counted types (global_found place meant want).shape ≡ true
global_counts types place (Some (M.Register r s)) want m h = settled_counted types place want s _ h m
global_counts types place (Some (M.Let i s)) want m h = settled_counted types place want s _ h m
global_counts types place (Some (M.Member i k)) want m h =
    settled_counted types place want (V.Named i []) _ h (named_counted types i [] (ap (nat_eq 0) m) refl)
global_counts types place meant want m h = never_counted types

pub name_counts : (types : Types) (name : Name) (locals : Locals) (meant : Option Meant) (want : Shape) → LocalsCounted types locals → MeantCounted types meant
    → counted types want ≡ true → counted types (name_found name (local_of name.text locals) meant want).shape ≡ true
name_counts types name locals meant want l m h = by_option (local_of name.text locals) refl
  where
    by_option : (o : Option Local) → local_of name.text locals ≡ o → counted types (name_found name o meant want).shape ≡ true
    by_option None is = global_counts types name.place meant want m h
    by_option (Some x) is = settled_counted types name.place want x.shape _ h (local_counted types locals name.text x l is)

-- ---- parts

-- what is found of an expression, whatever counted shape is wanted
abbrev pub ElCounts : Setting → Locals → Elaborate → Type 0
ElCounts setting locals el = (want : Shape) → counted setting.types want ≡ true → counted setting.types (el setting locals want).shape ≡ true

abbrev pub ElsCount : Setting → Locals → List Elaborate → Type 0
ElsCount setting locals [] = Unit {0}
ElsCount setting locals (e ∷ es) = ElCounts setting locals e × ElsCount setting locals es

pub unit_counts : (setting : Setting) (locals : Locals) (place : Place) → ElCounts setting locals (unit_found place)
unit_counts setting locals place want h = settled_counted setting.types place want V.Unit _ h (unit_counted setting.types)

parts_count : (setting : Setting) (locals : Locals) (es : List Elaborate) (wants : List Shape) → ElsCount setting locals es
    → all_counted setting.types wants ≡ true → all_counted setting.types (parts_found es setting locals wants).shapes ≡ true
parts_count setting locals [] wants are h = refl
parts_count setting locals (e ∷ es) [] are h =
    two (counted setting.types (e setting locals V.Never).shape) (all_counted setting.types (parts_found es setting locals []).shapes)
    (are.0 V.Never (never_counted setting.types)) (parts_count setting locals es [] are.1 refl)
parts_count setting locals (e ∷ es) (want ∷ wants) are h =
    let k = and_parts (counted setting.types want) (all_counted setting.types wants) h in
    two (counted setting.types (e setting locals want).shape) (all_counted setting.types (parts_found es setting locals wants).shapes)
    (are.0 want k.0) (parts_count setting locals es wants are.1 k.1)

tuple_wants_counted : (types : Types) (count : ℕ) (s : Shape) (y : Shape-F Shape) → out-Shape s ≡ y → counted types s ≡ true
    → all_counted types (tuple_wants count y) ≡ true
tuple_wants_counted types count s (S.Tuple ss) is h = by_count (nat_eq count (length ss))
  where
    by_count : (b : Bool) → all_counted types (if b then ss else []) ≡ true
    by_count true = counted_out types s (S.Tuple ss) is h
    by_count false = refl
tuple_wants_counted types count s y is h = refl

chained_counts : (setting : Setting) (locals : Locals) (es : List Elaborate) (want : Shape) → ElsCount setting locals es
    → counted setting.types want ≡ true → counted setting.types (chained es setting locals want).shape ≡ true
chained_counts setting locals [] want are h = h
chained_counts setting locals (e ∷ es) want are h =
    chained_counts setting locals es (given_on want (e setting locals want).shape) are.1
    (given_counted setting.types want (e setting locals want).shape h (are.0 want h))

vector_want_counted : (types : Types) (s : Shape) (y : Shape-F Shape) → out-Shape s ≡ y → counted types s ≡ true → counted types (vector_want y) ≡ true
vector_want_counted types s (S.Vector t) is h = counted_out types s (S.Vector t) is h
vector_want_counted types s y is h = never_counted types

list_want_counted : (types : Types) (s : Shape) (y : Shape-F Shape) → out-Shape s ≡ y → counted types s ≡ true → counted types (list_want y) ≡ true
list_want_counted types s (S.List t) is h = counted_out types s (S.List t) is h
list_want_counted types s y is h = never_counted types

item_counted : (types : Types) (es : List Elaborate) (s : Shape) → counted types s ≡ true → counted types (item_shape es s) ≡ true
item_counted types [] s h = hole_counted types
item_counted types (e ∷ es) s h = h

tuple_counts : (setting : Setting) (locals : Locals) (place : Place) (e : Elaborate) (es : List Elaborate) → ElsCount setting locals (e ∷ es)
    → ElCounts setting locals (group_found place B.Tuple (e ∷ es))
tuple_counts setting locals place e es are want h =
    settled_counted setting.types place want (V.Tuple (parts_found (e ∷ es) setting locals (tuple_wants (length (e ∷ es)) (out-Shape want))).shapes) _ h
    (tuple_counted setting.types _ (parts_count setting locals (e ∷ es) (tuple_wants (length (e ∷ es)) (out-Shape want)) are
    (tuple_wants_counted setting.types (length (e ∷ es)) want (out-Shape want) refl h)))

pub group_counts : (setting : Setting) (locals : Locals) (place : Place) (brackets : Brackets) (es : List Elaborate) → ElsCount setting locals es
    → ElCounts setting locals (group_found place brackets es)
group_counts setting locals place B.Tuple [] are want h = unit_counts setting locals place want h
group_counts setting locals place B.Tuple (e ∷ es) are want h = tuple_counts setting locals place e es are want h
group_counts setting locals place B.Vector es are want h =
    let item = chained_counts setting locals es (vector_want (out-Shape want)) are (vector_want_counted setting.types want (out-Shape want) refl h) in
    settled_counted setting.types place want (V.Vector (chained es setting locals (vector_want (out-Shape want))).shape) _ h
    (vector_counted setting.types _ item)
group_counts setting locals place B.List es are want h =
    let item = chained_counts setting locals es (list_want (out-Shape want)) are (list_want_counted setting.types want (out-Shape want) refl h) in
    settled_counted setting.types place want (V.List (item_shape es (chained es setting locals (list_want (out-Shape want))).shape)) _ h
    (list_counted setting.types _ (item_counted setting.types es (chained es setting locals (list_want (out-Shape want))).shape item))

-- ---- one callee

known_kept : (types : Types) (known : List Shape) (o : Option (List Shape)) → all_counted types known ≡ true
    → ((later : List Shape) → o ≡ Some later → Kept types known later) → Kept types known (known_or known o)
known_kept types known None h f = (h, refl)
known_kept types known (Some later) h f = f later refl

pub solved_counts : (setting : Setting) (locals : Locals) (es : List Elaborate) (ps known : List Shape) → ElsCount setting locals es
    → all_counted setting.types ps ≡ true → all_counted setting.types known ≡ true
    → Kept setting.types known (solved es setting locals ps known).known
solved_counts setting locals [] ps known are p h = (h, refl)
solved_counts setting locals (e ∷ es) [] known are p h = (h, refl)
solved_counts setting locals (e ∷ es) (q ∷ ps) known are p h =
    let k = and_parts (counted setting.types q) (all_counted setting.types ps) p in
    let want : Shape = put (at known) q in
    let s : Shape = (e setting locals want).shape in
    let one = known_kept setting.types known (learn q s known) h
    (λ later is. learn_counted setting.types q s known later (are.0 want (put_at_counted setting.types known q h k.0)) h is) in
    let others = solved_counts setting locals es ps (known_or known (learn q s known)) are.1 k.1 one.0 in
    (others.0, others.1 ∙ one.1)

call_counts : (setting : Setting) (place : Place) (want : Shape) (f : Candidate) (known : List Shape) (cores : List Core)
    → counted setting.types f.answer ≡ true → all_counted setting.types known ≡ true → counted setting.types want ≡ true
    → counted setting.types (call_found place want f known cores).shape ≡ true
call_counts setting place want f known cores a k h =
    settled_counted setting.types place want (put (at known) f.answer) _ h (put_at_counted setting.types known f.answer k a)

pub if_counted : (types : Types) (b : Bool) (found : Found) (e : ShapeError) → counted types found.shape ≡ true
    → counted types (if b then found else refused e).shape ≡ true
if_counted types true found e h = h
if_counted types false found e h = never_counted types

pub one_counts : (setting : Setting) (locals : Locals) (place : Place) (f : Candidate) (es : List Elaborate) → all_counted setting.types f.params ≡ true
    → counted setting.types f.answer ≡ true → ElsCount setting locals es → ElCounts setting locals (one_called place f es)
one_counts setting locals place f es p a are want h =
    let args : Solved = solved es setting locals f.params (holes f.variables) in
    if_counted setting.types (nat_eq (length f.params) (length es)) (solved_found place want f args)
    (error.Arity place (length f.params) (length es))
    (call_counts setting place want f args.known args.cores a
    (solved_counts setting locals es f.params (holes f.variables) are p (holes_counted setting.types f.variables)).0 h)

arguments_count : (setting : Setting) (locals : Locals) (place : Place) (params : List Shape) (es : List Elaborate) → ElsCount setting locals es
    → ElsCount setting locals (arguments_for (unit_found place) params es)
arguments_count setting locals place params [] are = by_unit (takes_unit params)
  where
    by_unit : (b : Bool) → ElsCount setting locals (if b then unit_found place ∷ [] else [])
    by_unit true = (unit_counts setting locals place, tt)
    by_unit false = tt
arguments_count setting locals place params (e ∷ es) are = are

-- ---- several

pub args_count : (setting : Setting) (locals : Locals) (es : List Elaborate) → ElsCount setting locals es
    → all_counted setting.types (args_found es setting locals).shapes ≡ true
args_count setting locals [] are = refl
args_count setting locals (e ∷ es) are =
    two (counted setting.types (e setting locals V.Never).shape) (all_counted setting.types (args_found es setting locals).shapes)
    (are.0 V.Never (never_counted setting.types)) (args_count setting locals es are.1)

abbrev pub ChosenCounted : Types → Chosen → Type 0
ChosenCounted types x = (all_counted types x.candidate.params ≡ true) × (counted types x.candidate.answer ≡ true) × (all_counted types x.known ≡ true)

chosen_step : (types : Types) (f : Candidate) (o : Option (List Shape)) (next : Option Chosen) (x : Chosen)
    → (all_counted types f.params ≡ true) × (counted types f.answer ≡ true)
    → (next ≡ Some x → (all_counted types x.candidate.params ≡ true) × (counted types x.candidate.answer ≡ true)) → chosen_or f o next ≡ Some x
    → (all_counted types x.candidate.params ≡ true) × (counted types x.candidate.answer ≡ true)
chosen_step types f None next x here later e = later e
chosen_step types f (Some known) next x here later e =
    subst (λ (y : Chosen). (all_counted types y.candidate.params ≡ true) × (counted types y.candidate.answer ≡ true))
    (same (record { candidate = f; known = known }) x e) here
  where
    same : (x y : Chosen) → Some x ≡ Some y → x ≡ y
    same x y e = cc

chosen_one : (types : Types) (fs : List Candidate) (ss : List Shape) (x : Chosen) → AreCounted types fs → chosen fs ss ≡ Some x
    → (all_counted types x.candidate.params ≡ true) × (counted types x.candidate.answer ≡ true)
chosen_one types [] ss x are e = absurd (none_some e)
  where
    none_some : {A : Type 0} {x : A} → None ≡ Some x → ⊥
    none_some e = cc
chosen_one types (f ∷ fs) ss x are e =
    chosen_step types f (learn_all (map learn f.params) ss (holes f.variables)) (chosen fs ss) x (are.0, are.1) (chosen_one types fs ss x are.2) e

pub chosen_counted : (types : Types) (fs : List Candidate) (ss : List Shape) (x : Chosen) → AreCounted types fs → all_counted types ss ≡ true
    → chosen fs ss ≡ Some x → ChosenCounted types x
chosen_counted types fs ss x are h e =
    let one = chosen_one types fs ss x are e in (
      one.0,
      one.1,
      (learns_counted types x.candidate.params ss (holes x.candidate.variables) x.known h (holes_counted types x.candidate.variables) (is_taken fs ss x e)).0,
    )

member_counts : (setting : Setting) (place : Place) (name : List ℕ) (want : Shape) (args : Args) (o : Option Chosen)
    → ((x : Chosen) → o ≡ Some x → ChosenCounted setting.types x) → counted setting.types want ≡ true
    → counted setting.types (member_found place name want args o).shape ≡ true
member_counts setting place name want args None f h = never_counted setting.types
member_counts setting place name want args (Some x) f h = by_sure args.is_unsure
  where
    by_sure : (b : Bool) → counted setting.types (if b then unknown place else call_found place want x.candidate x.known args.cores).shape ≡ true
    by_sure true = never_counted setting.types
    by_sure false = let k = f x refl in call_counts setting place want x.candidate x.known args.cores k.1 k.2 h

pub several_counts : (setting : Setting) (locals : Locals) (place : Place) (name : List ℕ) (fs : List Candidate) (es : List Elaborate)
    → AreCounted setting.types fs → ElsCount setting locals es → ElCounts setting locals (several_called place name fs es)
several_counts setting locals place name fs es fine are want h =
    let args : Args = args_found es setting locals in
    member_counts setting place name want args (chosen fs args.shapes)
    (λ x is. chosen_counted setting.types fs args.shapes x fine (args_count setting locals es are) is) h

or_unit_count : (setting : Setting) (locals : Locals) (place : Place) (es : List Elaborate) → ElsCount setting locals es
    → ElsCount setting locals (or_unit (unit_found place) es)
or_unit_count setting locals place [] are = (unit_counts setting locals place, tt)
or_unit_count setting locals place (e ∷ es) are = are

row_counts : (setting : Setting) (locals : Locals) (place : Place) (name : List ℕ) (fs : List Candidate) (es : List Elaborate)
    → AreCounted setting.types fs → ElsCount setting locals es → ElCounts setting locals (row_called place name fs (unit_found place) es)
row_counts setting locals place name [] es fine are want h =
    several_counts setting locals place name [] (or_unit (unit_found place) es) fine (or_unit_count setting locals place es are) want h
row_counts setting locals place name (f ∷ []) es fine are want h =
    one_counts setting locals place f (arguments_for (unit_found place) f.params es) fine.0 fine.1 (arguments_count setting locals place f.params es are) want h
row_counts setting locals place name (f ∷ g ∷ fs) es fine are want h =
    several_counts setting locals place name (f ∷ g ∷ fs) (or_unit (unit_found place) es) fine (or_unit_count setting locals place es are) want h

-- ---- calls by name

one_part_counts : (setting : Setting) (locals : Locals) (place : Place) (args : List Part) → ElsCount setting locals (elaborations args)
    → ElCounts setting locals (as_one place args).elaborate
one_part_counts setting locals place [] are = unit_counts setting locals place
one_part_counts setting locals place (a ∷ []) are = are.0
one_part_counts setting locals place (a ∷ b ∷ args) are = group_counts setting locals place B.Tuple (elaborations (a ∷ b ∷ args)) are

callee_counts : (setting : Setting) (locals : Locals) (place : Place) (f : Candidate) (args : List Part) → all_counted setting.types f.params ≡ true
    → counted setting.types f.answer ≡ true → ElsCount setting locals (elaborations args) → ElCounts setting locals (callee_called place f args)
callee_counts setting locals place f args p a are want h = by_kind (does_convert f.doing)
  where
    by_kind : (b : Bool) → counted setting.types ((if b then one_called place f ((as_one place args).elaborate ∷ [])
        else one_called place f (arguments_for (unit_found place) f.params (elaborations args))) setting locals want).shape ≡ true
    by_kind true = one_counts setting locals place f ((as_one place args).elaborate ∷ []) p a (one_part_counts setting locals place args are, tt) want h
    by_kind false =
        one_counts setting locals place f (arguments_for (unit_found place) f.params (elaborations args)) p a
        (arguments_count setting locals place f.params (elaborations args) are) want h

way_counts : (types : Types) (place : Place) (want : Shape) (direction : ℕ) (answer : Shape) (a : Found) → counted types want ≡ true
    → counted types answer ≡ true → counted types (one_way place want direction answer a).shape ≡ true
way_counts types place want direction answer a h k = by_sure (is_unsure_of a)
  where
    by_sure : (b : Bool) → counted types (if b then behind a.faults (unknown place)
        else direction_found place want direction answer a).shape ≡ true
    by_sure true = never_counted types
    by_sure false = settled_counted types place want answer _ h k

mapping_counts : (types : Types) (place at_arg : Place) (want : Shape) (m : Mapping) (a : Found) (w : Which) → counted types (shape m.left) ≡ true
    → counted types (shape m.right) ≡ true → counted types want ≡ true → counted types (mapping_found place at_arg want m a w).shape ≡ true
mapping_counts types place at_arg want m a forwards left right h = way_counts types place want _ (shape m.right) a h right
mapping_counts types place at_arg want m a backwards left right h = way_counts types place want _ (shape m.left) a h left
mapping_counts types place at_arg want m a neither left right h = never_counted types
mapping_counts types place at_arg want m a either left right h = never_counted types

pub called_counts : (setting : Setting) (locals : Locals) (name : Name) (meant : Option Meant) (args : List Part) → MeantCounted setting.types meant
    → ElsCount setting locals (elaborations args) → ElCounts setting locals (name_called name meant args)
called_counts setting locals name (Some (M.Callee f)) args m are want h = callee_counts setting locals name.place f args m.0 m.1 are want h
called_counts setting locals name (Some (M.Row row)) args m are want h =
    row_counts setting locals name.place name.text (map member_candidate (row_members setting.types row)) (elaborations args) m are want h
called_counts setting locals name (Some (M.Mapping m)) args fine are want h =
    let a : Part = as_one name.place args in
    mapping_counts setting.types name.place a.place want m (a.elaborate setting locals V.Never)
    (which_side m (a.elaborate setting locals V.Never).shape) fine.0 fine.1 h
called_counts setting locals name (Some (M.Overload fs)) args m are want h =
    several_counts setting locals name.place name.text fs (or_unit (unit_found name.place) (elaborations args)) m
    (or_unit_count setting locals name.place (elaborations args) are) want h
called_counts setting locals name meant args m are want h = never_counted setting.types

-- ---- operators

pub infix_counts : (setting : Setting) (locals : Locals) (place : Place) (operator : Operator) (a b : Part) → Counts setting
    → ElCounts setting locals a.elaborate → ElCounts setting locals b.elaborate → ElCounts setting locals (infix_found place operator a b)
infix_counts setting locals place operator a b c ca cb want h = by_kind (logical_kind operator)
  where
    members : counted setting.types (several_called place (operator_text operator) (operator_members setting operator)
        (a.elaborate ∷ b.elaborate ∷ []) setting locals want).shape ≡ true
    members = several_counts setting locals place (operator_text operator) (operator_members setting operator) (a.elaborate ∷ b.elaborate ∷ [])
        (c.operators operator) (ca, (cb, tt)) want h

    by_kind : (o : Option Kind) → counted setting.types (infix_as place operator a b o setting locals want).shape ≡ true
    by_kind None = members
    by_kind (Some kind) =
        by_truth kind (is_truth_form (out-Shape (a.elaborate setting locals V.Never).shape))
        (is_variable_form (out-Shape (a.elaborate setting locals V.Never).shape))
      where
        by_truth : (kind : Kind) (t v : Bool) → counted setting.types (if t then logical_found place kind want (a.elaborate setting locals V.Never)
            (b.elaborate setting locals V.Bool)
            else if v then undecided place operator (a.elaborate setting locals V.Never) (b.elaborate setting locals V.Never)
            else several_called place (operator_text operator) (operator_members setting operator) (a.elaborate ∷ b.elaborate ∷ []) setting locals
            want).shape ≡ true
        by_truth kind true v = settled_counted setting.types place want V.Bool _ h (bool_counted setting.types)
        by_truth kind false true = never_counted setting.types
        by_truth kind false false = members

pub prefix_counts : (setting : Setting) (locals : Locals) (place : Place) (prefix : Prefix) (a : Part) → Counts setting
    → ElCounts setting locals a.elaborate → ElCounts setting locals (prefix_found place prefix a)
prefix_counts setting locals place prefix a c ca want h =
    several_counts setting locals place _ (prefix_members setting prefix) (a.elaborate ∷ []) (c.prefixes prefix) (ca, tt) want h
