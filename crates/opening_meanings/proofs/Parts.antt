-- What is found of parts in a plain expression is found of them too where nothing of the model can be called: lists of parts, calls and targets.
use Rattle.std.proofs.Common.{◌≡◌, ℕ, suc, List, [], ◌∷◌, ◌++◌, length, map, ap, sym, ◌∙◌, refl, Bool, true, false, nat_eq, if◌then◌else◌, Option}
use Rattle.std.proofs.Common.{Some, None}
use Rattle.sail_base.specs.declared.place.Place.{Place}
use Rattle.sail_syntax.specs.declared.name.Name.{Name}
use Rattle.sail_syntax.specs.declared.words.Brackets.{Brackets}
use Rattle.sail_syntax.specs.declared.words.Brackets.TheVariants as B
use Rattle.sail_types.specs.Rows.{row_members}
use Rattle.sail_types.specs.Shapes.{at, put}
use Rattle.sail_types.specs.declared.shapes.Shape.{Shape, Shape-F, out-Shape}
use Rattle.sail_types.specs.declared.shapes.Shape.TheOpen as S
use Rattle.sail_types.specs.declared.shapes.Shape.TheVariants as V
use Rattle.shape_joins.specs.Learning.{holes, learn}
use Rattle.shape_rules.specs.declared.callees.Candidate.{Candidate}
use Rattle.shape_rules.specs.declared.callees.Mapping.{Mapping}
use Rattle.shape_rules.specs.declared.callees.Meant.{Meant}
use Rattle.shape_rules.specs.declared.callees.Meant.TheVariants as M
use Rattle.shape_rules.specs.declared.error.ShapeError.TheVariants as error
use Rattle.shape_rules.specs.Scopes.{Locals, Setting}
use Rattle.shape_rules.specs.Findings.{Found}
use Rattle.shape_rules.specs.Calls.{Elaborate, also_arg, args_found, arguments_for, counted, member_candidate, one_called, or_unit, row_called}
use Rattle.shape_rules.specs.Calls.{several_called, several_found, solved, solved_behind, solved_found, takes_unit}
use Rattle.shape_rules.specs.Targets.{Aimed, IndexPart, Led, Part, SuffixPart, TargetPart, aimed_nowhere, also_aimed, also_walked, call_aim, call_looked}
use Rattle.shape_rules.specs.Targets.{call_of, callee_aimed, callees_of, each_aimed, elaborations, field_part, at_part, index_found, into_field, led_form}
use Rattle.shape_rules.specs.Targets.{led_shape, meant_aim, one_of, read_aimed, read_by, suffix_found, suffix_place, walked}
use Rattle.shape_rules.specs.Values.{also_part, as_one, call_named, chained, chained_behind, does_convert, group_found, item_shape, list_found}
use Rattle.shape_rules.specs.Values.{list_want, mapping_called, mapping_found, name_called, parts_found, tuple_found, tuple_wants, unit_found, vector_found}
use Rattle.shape_rules.specs.Values.{vector_want}
use Rattle.shape_rules.specs.Patterns.{which_side}
use Rattle.opening_meanings.specs.Plain.{uncalled, uncalled_meant}

-- ---- one part

abbrev pub Same : Setting → Elaborate → Type 0
Same s e = (locals : Locals) (want : Shape) → e s locals want ≡ e (uncalled s) locals want

abbrev pub AllSame : Setting → List Elaborate → Type 0
AllSame s [] = Unit {0}
AllSame s (e ∷ es) = Same s e × AllSame s es

abbrev pub MaybeSame : Setting → Option Part → Type 0
MaybeSame s None = Unit {0}
MaybeSame s (Some a) = Same s a.elaborate

-- a part of which this is found, in whichever setting
abbrev pub midway : Part → (Locals → Shape → Found) → Part
midway a found = record { place = a.place; elaborate = λ setting. found }

-- ---- lists of parts

pub solved_same : (s : Setting) (es : List Elaborate) → AllSame s es → (locals : Locals) (params known : List Shape)
    → solved es s locals params known ≡ solved es (uncalled s) locals params known
solved_same s [] same locals params known = refl
solved_same s (e ∷ es) same locals [] known = refl
solved_same s (e ∷ es) same locals (p ∷ ps) known = λ j.
    solved_behind (put (at known) p) (same.0 locals (put (at known) p) j) (λ ks. solved_same s es same.1 locals ps ks j) known
    (learn p (same.0 locals (put (at known) p) j).shape known)

pub args_same : (s : Setting) (es : List Elaborate) → AllSame s es → (locals : Locals) → args_found es s locals ≡ args_found es (uncalled s) locals
args_same s [] same locals = refl
args_same s (e ∷ es) same locals = λ j. also_arg (same.0 locals V.Never j) (args_same s es same.1 locals j)

pub parts_same : (s : Setting) (es : List Elaborate) → AllSame s es → (locals : Locals) (wants : List Shape)
    → parts_found es s locals wants ≡ parts_found es (uncalled s) locals wants
parts_same s [] same locals wants = refl
parts_same s (e ∷ es) same locals [] = λ j. also_part (same.0 locals V.Never j) (parts_same s es same.1 locals [] j)
parts_same s (e ∷ es) same locals (want ∷ wants) = λ j. also_part (same.0 locals want j) (parts_same s es same.1 locals wants j)

chained_same : (s : Setting) (es : List Elaborate) → AllSame s es → (locals : Locals) (want : Shape)
    → chained es s locals want ≡ chained es (uncalled s) locals want
chained_same s [] same locals want = refl
chained_same s (e ∷ es) same locals want = λ j. chained_behind (same.0 locals want j) want (λ w. chained_same s es same.1 locals w j)

pub group_same : (s : Setting) (place : Place) (brackets : Brackets) (es : List Elaborate) → AllSame s es → Same s (group_found place brackets es)
group_same s place B.Tuple [] same locals want = refl
group_same s place B.Tuple (e ∷ es) same locals want = λ j.
    tuple_found place want (parts_same s (e ∷ es) same locals (tuple_wants (length (e ∷ es)) (out-Shape want)) j)
group_same s place B.Vector es same locals want = λ j. vector_found place want (chained_same s es same locals (vector_want (out-Shape want)) j)
group_same s place B.List es same locals want = λ j.
    list_found place want (item_shape es (chained_same s es same locals (list_want (out-Shape want)) j).shape)
    (chained_same s es same locals (list_want (out-Shape want)) j)

-- ---- calls

one_called_same : (s : Setting) (place : Place) (f : Candidate) (es : List Elaborate) → AllSame s es → Same s (one_called place f es)
one_called_same s place f es same locals want = λ j.
    counted place (length f.params) (length es) (solved_found place want f (solved_same s es same locals f.params (holes f.variables) j))

-- of an operator or an overload
pub several_same : (s : Setting) (place : Place) (name : List ℕ) (fs : List Candidate) (es : List Elaborate) → AllSame s es
    → Same s (several_called place name fs es)
several_same s place name fs es same locals want = λ j. several_found place name fs (args_same s es same locals j) want

unit_same : (s : Setting) (place : Place) → Same s (unit_found place)
unit_same s place locals want = refl

arguments_same : (s : Setting) (place : Place) (params : List Shape) (es : List Elaborate) → AllSame s es
    → AllSame s (arguments_for (unit_found place) params es)
arguments_same s place params [] same = by_unit (takes_unit params)
  where
    by_unit : (b : Bool) → AllSame s (if b then unit_found place ∷ [] else [])
    by_unit true = (unit_same s place, tt)
    by_unit false = tt
arguments_same s place params (e ∷ es) same = same

units_same : (s : Setting) (place : Place) (es : List Elaborate) → AllSame s es → AllSame s (or_unit (unit_found place) es)
units_same s place [] same = (unit_same s place, tt)
units_same s place (e ∷ es) same = same

as_one_same : (s : Setting) (place : Place) (args : List Part) → AllSame s (elaborations args) → Same s (as_one place args).elaborate
as_one_same s place [] same = unit_same s place
as_one_same s place (a ∷ []) same = same.0
as_one_same s place (a ∷ b ∷ args) same = group_same s place B.Tuple (elaborations (a ∷ b ∷ args)) same

callee_by : (s : Setting) (place : Place) (f : Candidate) (args : List Part) → AllSame s (elaborations args) → (b : Bool)
    → Same s (if b then one_called place f ((as_one place args).elaborate ∷ [])
    else one_called place f (arguments_for (unit_found place) f.params (elaborations args)))
callee_by s place f args same true = one_called_same s place f ((as_one place args).elaborate ∷ []) (as_one_same s place args same, tt)
callee_by s place f args same false =
    one_called_same s place f (arguments_for (unit_found place) f.params (elaborations args)) (arguments_same s place f.params (elaborations args) same)

row_same : (s : Setting) (place : Place) (name : List ℕ) (fs : List Candidate) (es : List Elaborate) → AllSame s es
    → Same s (row_called place name fs (unit_found place) es)
row_same s place name [] es same = several_same s place name [] (or_unit (unit_found place) es) (units_same s place es same)
row_same s place name (f ∷ []) es same =
    one_called_same s place f (arguments_for (unit_found place) f.params es) (arguments_same s place f.params es same)
row_same s place name (f ∷ g ∷ fs) es same =
    several_same s place name (f ∷ g ∷ fs) (or_unit (unit_found place) es) (units_same s place es same)

mapping_same : (s : Setting) (place : Place) (m : Mapping) (a : Part) → Same s a.elaborate → Same s (mapping_called place m a)
mapping_same s place m a same locals want = λ j.
    mapping_found place a.place want m (same locals V.Never j) (which_side m (same locals V.Never j).shape)

-- whatever the name means
meant_same : (s : Setting) (name : Name) (meant : Option Meant) (args : List Part) → AllSame s (elaborations args) → (locals : Locals) (want : Shape)
    → name_called name meant args s locals want ≡ name_called name meant args (uncalled s) locals want
meant_same s name (Some (M.Callee f)) args same locals want = callee_by s name.place f args same (does_convert f.doing) locals want
meant_same s name (Some (M.Row row)) args same locals want =
    row_same s name.place name.text (map member_candidate (row_members s.types row)) (elaborations args) same locals want
meant_same s name (Some (M.Mapping m)) args same locals want =
    mapping_same s name.place m (as_one name.place args) (as_one_same s name.place args same) locals want
meant_same s name (Some (M.Overload fs)) args same locals want =
    several_same s name.place name.text fs (or_unit (unit_found name.place) (elaborations args)) (units_same s name.place (elaborations args) same) locals want
meant_same s name meant args same locals want = refl

-- a name that is left
abbrev pub Left : Setting → Name → Type 0
Left s name = uncalled_meant (s.value name.text) ≡ s.value name.text

pub call_same : (s : Setting) (name : Name) (args : List Part) → Left s name → AllSame s (elaborations args) → Same s (call_named name args)
call_same s name args left same locals want =
    meant_same s name (s.value name.text) args same locals want ∙ ap (λ meant. name_called name meant args (uncalled s) locals want) (sym left)

-- ---- suffixes

pub record SameIndex (s : Setting) (i : IndexPart) : Type 0 where
  pub first : Same s i.first.elaborate
  pub last : MaybeSame s i.last

abbrev pub SameSuffix : Setting → SuffixPart → Type 0
SameSuffix s (field_part name) = Unit {0}
SameSuffix s (at_part place i) = SameIndex s i

abbrev pub SameSuffixes : Setting → List SuffixPart → Type 0
SameSuffixes s [] = Unit {0}
SameSuffixes s (x ∷ xs) = SameSuffix s x × SameSuffixes s xs

pub maybe_index_same : (s : Setting) (o : Option Part) → MaybeSame s o → (locals : Locals) → index_found o s locals ≡ index_found o (uncalled s) locals
maybe_index_same s None same locals = refl
maybe_index_same s (Some a) same locals = λ j. same locals V.Int j ∷ []

suffix_same : (s : Setting) (x : SuffixPart) → SameSuffix s x → (locals : Locals) → suffix_found x s locals ≡ suffix_found x (uncalled s) locals
suffix_same s (field_part name) same locals = refl
suffix_same s (at_part place i) same locals = λ j. (same.first locals V.Int j ∷ []) ++ maybe_index_same s i.last same.last locals j

field_led_same : (s : Setting) (name : List ℕ) (form : Shape-F Shape) → into_field s name form ≡ into_field (uncalled s) name form
field_led_same s name (S.Named i ss) = refl
field_led_same s name form = refl

led_same : (s : Setting) (x : SuffixPart) (form : Shape-F Shape) → led_form s x form ≡ led_form (uncalled s) x form
led_same s (field_part name) form = field_led_same s name.text form
led_same s (at_part place i) form = refl

pub walked_same : (s : Setting) (xs : List SuffixPart) → SameSuffixes s xs → (locals : Locals) (first base : Place) (sh : Shape)
    → walked xs s locals first base sh ≡ walked xs (uncalled s) locals first base sh
walked_same s [] same locals first base sh = refl
walked_same s (x ∷ xs) same locals first base sh = λ j.
    let led : Option Led = led_same s x (out-Shape sh) j in
    also_walked base (suffix_place first x) sh led (suffix_same s x same.0 locals j)
    (walked_same s xs same.1 locals first (suffix_place first x) (led_shape led) j)

-- ---- targets

-- a call that is assigned to
abbrev pub SameCall : Setting → Option (Name × List Part) → Type 0
SameCall s None = Unit {0}
SameCall s (Some call) = Left s call.0 × AllSame s (elaborations call.1)

pub record SameTarget (s : Setting) (x : TargetPart) : Type 0 where
  pub aim : (locals : Locals) → x.aim s locals ≡ x.aim (uncalled s) locals
  pub call : SameCall s x.call

abbrev pub SameTargets : Setting → List TargetPart → Type 0
SameTargets s [] = Unit {0}
SameTargets s (x ∷ xs) = SameTarget s x × SameTargets s xs

pub each_aimed_same : (s : Setting) (xs : List TargetPart) → SameTargets s xs → (locals : Locals)
    → each_aimed xs s locals ≡ each_aimed xs (uncalled s) locals
each_aimed_same s [] same locals = refl
each_aimed_same s (x ∷ xs) same locals = λ j. also_aimed (same.0.aim locals j) (each_aimed_same s xs same.1 locals j)

counted_aim_same : (s : Setting) (name : Name) (f : Candidate) (args : List Part) → AllSame s (elaborations args) → (locals : Locals) (b : Bool)
    → (if b then callee_aimed name f (length args) (solved (elaborations args) s locals f.params (holes f.variables))
    else aimed_nowhere name.place (error.Arity name.place (length f.params) (suc (length args)) ∷ []))
    ≡ (if b then callee_aimed name f (length args) (solved (elaborations args) (uncalled s) locals f.params (holes f.variables))
    else aimed_nowhere name.place (error.Arity name.place (length f.params) (suc (length args)) ∷ []))
counted_aim_same s name f args same locals true = λ j.
    callee_aimed name f (length args) (solved_same s (elaborations args) same locals f.params (holes f.variables) j)
counted_aim_same s name f args same locals false = refl

meant_aim_same : (s : Setting) (name : Name) (args : List Part) (fs : List Candidate) (o : Option Candidate) → AllSame s (elaborations args)
    → (locals : Locals) → meant_aim name args fs o s locals ≡ meant_aim name args fs o (uncalled s) locals
meant_aim_same s name args fs (Some f) same locals = counted_aim_same s name f args same locals (nat_eq (length f.params) (suc (length args)))
meant_aim_same s name args fs None same locals = λ j. call_looked name fs (args_same s (elaborations args) same locals j)

pub call_aim_same : (s : Setting) (name : Name) (args : List Part) → Left s name → AllSame s (elaborations args) → (locals : Locals)
    → call_aim name args s locals ≡ call_aim name args (uncalled s) locals
call_aim_same s name args left same locals =
    let meant : Option Meant = s.value name.text in
    meant_aim_same s name args (callees_of s.types meant) (one_of meant (callees_of s.types meant)) same locals
    ∙ ap (λ (m : Option Meant). call_of name args m (callees_of s.types m) (uncalled s) locals) (sym left)

pub read_aimed_same : (s : Setting) (o : Option (Name × List Part)) → SameCall s o → (locals : Locals) (base : Aimed)
    → read_aimed o s locals base ≡ read_aimed o (uncalled s) locals base
read_aimed_same s None same locals base = refl
read_aimed_same s (Some call) same locals base =
    (λ j.
    read_by call.0 (length call.1) (s.value call.0.text) (callees_of s.types (s.value call.0.text)) (args_same s (elaborations call.1) same.1 locals j) base)
    ∙ ap (λ (m : Option Meant). read_by call.0 (length call.1) m (callees_of s.types m) (args_found (elaborations call.1) (uncalled s) locals) base)
    (sym same.0)
