-- Parts of values, and what is assigned to (Sail language manual, "Variables and assignment", "Bitvectors", "Structs").
use Rattle.std.specs.Prelude.{ℕ, suc, nat_eq, Bool, true, false, ◌||◌, bytes_eq, List, [], ◌∷◌, ◌++◌, length, map}
use Rattle.std.specs.Prelude.{Option, Some, None, option_map, if◌then◌else◌}
use Rattle.sail_base.specs.declared.place.Place.{Place}
use Rattle.sail_syntax.specs.declared.name.Name.{Name}
use Rattle.sail_types.specs.Named.{fields}
use Rattle.sail_types.specs.Rows.{row_members}
use Rattle.sail_types.specs.Shapes.{shape, put, at}
use Rattle.sail_types.specs.declared.table.Field.{Field}
use Rattle.sail_types.specs.declared.table.Types.{Types}
use Rattle.sail_types.specs.declared.types.Typ.{Typ}
use Rattle.sail_types.specs.declared.shapes.Shape.{Shape, Shape-F, fold-Shape, out-Shape}
use Rattle.sail_types.specs.declared.shapes.Shape.TheOpen as S
use Rattle.sail_types.specs.declared.shapes.Shape.TheVariants as V
use Rattle.sail_core.specs.declared.targets.Suffix.{Suffix}
use Rattle.sail_core.specs.declared.targets.Way.{Way}
use Rattle.sail_core.specs.declared.targets.Way.TheVariants as Y
use Rattle.sail_core.specs.declared.targets.Caller.{Caller}
use Rattle.sail_core.specs.declared.targets.TargetKind.{TargetKind}
use Rattle.sail_core.specs.declared.targets.TargetKind.TheVariants as T
use Rattle.sail_core.specs.declared.targets.Target.{Target, roll-Target}
use Rattle.sail_core.specs.declared.tree.Callee.{Callee}
use Rattle.sail_core.specs.declared.tree.Core.{Core}
use Rattle.shape_rules.specs.declared.callees.Candidate.{Candidate}
use Rattle.shape_rules.specs.declared.callees.Doing.{Doing}
use Rattle.shape_rules.specs.declared.callees.Doing.TheVariants as D
use Rattle.shape_rules.specs.declared.locals.Local.{Local}
use Rattle.shape_rules.specs.declared.error.ShapeError.{ShapeError}
use Rattle.shape_rules.specs.declared.error.ShapeError.TheVariants as error
use Rattle.shape_joins.specs.Learning.{holes}
use Rattle.shape_rules.specs.Findings.{Found, ill_shaped}
use Rattle.shape_rules.specs.declared.callees.Meant.{Meant}
use Rattle.shape_rules.specs.declared.callees.Meant.TheVariants as M
use Rattle.shape_rules.specs.Scopes.{Setting, Locals}
use Rattle.shape_rules.specs.Calls.{Elaborate, Solved, solved, Args, args_found, Chosen, chosen, member_candidate}

-- an expression, with its place
pub record Part : Type 0 where
  pub place : Place
  pub elaborate : Elaborate

abbrev pub elaborations : List Part → List Elaborate
elaborations parts = map (λ part. part.elaborate) parts

-- `i` or `h .. l`
pub record IndexPart : Type 0 where
  pub first : Part
  pub last : Option Part

-- what follows a base
pub data SuffixPart : Type 0 where
  field_part : Name → SuffixPart
  at_part : Place → IndexPart → SuffixPart

-- ---- fields

-- a field of a struct, by its place, with its type over the struct's parameters
pub record InStruct : Type 0 where
  pub place : ℕ
  pub typ : Typ

abbrev pub one_further : Option InStruct → Option InStruct
one_further None = None
one_further (Some f) = Some (record { place = suc f.place; typ = f.typ })

abbrev pub field_named : List ℕ → List Field → Option InStruct
field_named name [] = None
field_named name (f ∷ fs) = if bytes_eq f.name name then Some (record { place = 0; typ = f.typ }) else one_further (field_named name fs)

abbrev pub field_in : List ℕ → Option (List Field) → Option InStruct
field_in name None = None
field_in name (Some fs) = field_named name fs

-- ---- ways into a value: the way, and the shape of what is there; none where such a value has no such part

pub record Led : Type 0 where
  pub way : Way
  pub shape : Shape

abbrev pub field_led : ℕ → List Shape → Option InStruct → Option Led
field_led i ss None = None
field_led i ss (Some f) = Some (record { way = Y.Field i f.place; shape = put (at ss) (shape f.typ) })

abbrev pub into_field : Setting → List ℕ → Shape-F Shape → Option Led
into_field setting name (S.Named i ss) = field_led i ss (field_in name (fields setting.types i))
into_field setting name form = None

abbrev pub into_item : Shape-F Shape → Option Led
into_item S.Bits = Some (record { way = Y.Item; shape = V.Bit })
into_item (S.Vector s) = Some (record { way = Y.Item; shape = s })
into_item form = None

abbrev pub into_slice : Shape-F Shape → Option Led
into_slice S.Bits = Some (record { way = Y.Slice; shape = V.Bits })
into_slice form = None

abbrev pub led_index : Option Part → Shape-F Shape → Option Led
led_index None form = into_item form
led_index (Some low) form = into_slice form

-- what follows a base of this shape
abbrev pub led_form : Setting → SuffixPart → Shape-F Shape → Option Led
led_form setting (field_part name) form = into_field setting name.text form
led_form setting (at_part place index) form = led_index index.last form

-- what isn't known has every part
abbrev pub is_open_form : Shape-F Shape → Bool
is_open_form S.Hole = true
is_open_form S.Never = true
is_open_form form = false

abbrev pub is_open : Shape → Bool
is_open s = is_open_form (out-Shape s)

-- ---- suffixes, one after the other

pub record Walked : Type 0 where
  pub shape : Shape
  pub suffixes : List Suffix
  -- the indexes in them
  pub parts : List Core
  pub faults : List ShapeError

abbrev pub suffix_at : Place → Way → Suffix
suffix_at place way = record { place = place; number = 0; way = way }

abbrev pub suffix_place : Place → SuffixPart → Place
suffix_place first (field_part name) = first
suffix_place first (at_part place index) = place

-- indexes are integers
abbrev pub index_found : Option Part → Setting → Locals → List Found
index_found None setting locals = []
index_found (Some part) setting locals = part.elaborate setting locals V.Int ∷ []

abbrev pub suffix_found : SuffixPart → Setting → Locals → List Found
suffix_found (field_part name) setting locals = []
suffix_found (at_part place index) setting locals = index_found (Some index.first) setting locals ++ index_found index.last setting locals

abbrev pub cores_of : List Found → List Core
cores_of [] = []
cores_of (f ∷ fs) = f.core ∷ cores_of fs

abbrev pub faults_of : List Found → List ShapeError
faults_of [] = []
faults_of (f ∷ fs) = f.faults ++ faults_of fs

abbrev pub suffixes_if : Place → Option Led → List Suffix
suffixes_if place None = []
suffixes_if place (Some led) = suffix_at place led.way ∷ []

abbrev pub led_shape : Option Led → Shape
led_shape None = V.Never
led_shape (Some led) = led.shape

-- a base that has no such part, at the base (M14)
abbrev pub base_faults : Place → Shape → Option Led → List ShapeError
base_faults base s (Some led) = []
base_faults base s None = if is_open s then [] else ill_shaped base ∷ []

abbrev pub also_walked : Place → Place → Shape → Option Led → List Found → Walked → Walked
also_walked base place s led indexes more = record {
  shape = more.shape;
  suffixes = suffixes_if place led ++ more.suffixes;
  parts = cores_of indexes ++ more.parts;
  faults = (base_faults base s led ++ faults_of indexes) ++ more.faults;
}

-- suffixes behind a base that stands here and has this shape; the whole begins at `first`
abbrev pub walked : List SuffixPart → Setting → Locals → Place → Place → Shape → Walked
walked [] setting locals first base s = record { shape = s; suffixes = []; parts = []; faults = [] }
walked (suffix ∷ suffixes) setting locals first base s =
    also_walked base (suffix_place first suffix) s (led_form setting suffix (out-Shape s)) (suffix_found suffix setting locals)
    (walked suffixes setting locals first (suffix_place first suffix) (led_shape (led_form setting suffix (out-Shape s))))

-- ---- shapes that a later value could fill: a hole, or what never ends as an item or an argument

pub record Openness : Type 0 where
  pub never : Bool
  pub open_inside : Bool

abbrev pub openness : Bool → Bool → Openness
openness never open_inside = record { never = never; open_inside = open_inside }

abbrev pub any_never : List Openness → Bool
any_never [] = false
any_never (o ∷ os) = o.never || any_never os

abbrev pub any_open : List Openness → Bool
any_open [] = false
any_open (o ∷ os) = o.open_inside || any_open os

abbrev pub openness_form : Shape-F Openness → Openness
openness_form S.Never = openness true false
openness_form S.Hole = openness false true
openness_form (S.List o) = openness false (o.never || o.open_inside)
openness_form (S.Vector o) = openness false (o.never || o.open_inside)
openness_form (S.Tuple os) = openness (any_never os) (any_open os)
openness_form (S.Named i os) = openness false (any_never os || any_open os)
openness_form form = openness false false

abbrev pub leaves_open : Shape → Bool
leaves_open s = (fold-Shape Openness openness_form s).open_inside

-- ---- targets: the shape of what is assigned, the target, the arguments and indexes in it, and all failures in it

pub record Aimed : Type 0 where
  pub shape : Shape
  pub target : Target
  pub parts : List Core
  pub faults : List ShapeError
  -- the shape of the assignment: of what a writer gives, and else unit
  pub answer : Shape

pub record TargetPart : Type 0 where
  pub place : Place
  pub aim : Setting → Locals → Aimed
  -- where it is `f(a)` itself: its name and arguments
  pub call : Option (Name × List Part)

abbrev pub target : Place → TargetKind → List Target → Target
target place kind parts = roll-Target (record { place = place; number = 0; kind = kind; parts = parts })

abbrev pub aimed : Shape → Place → TargetKind → Aimed
aimed s place kind = record { shape = s; target = target place kind []; parts = []; faults = []; answer = V.Unit }

-- in the place of a target that failed
abbrev pub aimed_nowhere : Place → List ShapeError → Aimed
aimed_nowhere place faults = record { shape = V.Never; target = target place (T.Register 0) []; parts = []; faults = faults; answer = V.Never }

-- a `var`, else a register
abbrev pub register_aimed : Name → Option Meant → Aimed
register_aimed name (Some (M.Register r s)) = aimed s name.place (T.Register r)
register_aimed name meant = aimed_nowhere name.place []

abbrev pub name_aimed : Name → Option Local → Option Meant → Aimed
name_aimed name (Some local) meant = aimed local.shape name.place (T.Variable name.text)
name_aimed name None meant = register_aimed name meant

-- `f(a)` in a tuple, a chain or as the base of a part: f(a) reads it, and f(a, e) writes it
abbrev pub callees_of : Types → Option Meant → List Candidate
callees_of types (Some (M.Callee f)) = f ∷ []
callees_of types (Some (M.Row row)) = map member_candidate (row_members types row)
callees_of types (Some (M.Overload fs)) = fs
callees_of types meant = []

-- a function, a constructor or a direction, and a builtin with one member, is one callee; an overload never is
abbrev pub one_of : Option Meant → List Candidate → Option Candidate
one_of (Some (M.Overload fs)) callees = None
one_of meant (f ∷ []) = Some f
one_of meant callees = None

abbrev pub doing_callee : Doing → Option Callee
doing_callee (D.Calls callee) = Some callee
doing_callee D.Conses = None

abbrev pub caller_of : Callee → Caller
caller_of callee = record { callee = callee; number = 0 }

-- the last parameter, which the new value comes to
abbrev pub last_param : List Shape → Shape
last_param [] = V.Never
last_param (s ∷ []) = s
last_param (s ∷ t ∷ ss) = last_param (t ∷ ss)

-- the callee that reads: the first that takes these arguments
abbrev pub reader_of : Option Chosen → Option Caller
reader_of None = None
reader_of (Some x) = option_map caller_of (doing_callee x.candidate.doing)

abbrev pub read_shape : Option Chosen → Shape
read_shape None = V.Never
read_shape (Some x) = put (at x.known) x.candidate.answer

abbrev pub call_target : Place → ℕ → Option Caller → Option Callee → Target
call_target place count reader None = target place (T.Register 0) []
call_target place count reader (Some writer) = target place (T.Call count reader (caller_of writer)) []

abbrev pub call_aimed : Name → List ShapeError → Args → Option Chosen → Option Chosen → Aimed
call_aimed name faults args reader None = aimed_nowhere name.place (faults ++ error.NoMember name.place name.text ∷ [])
call_aimed name faults args reader (Some writer) = record {
  shape = put (at writer.known) (last_param writer.candidate.params);
  target = call_target name.place (length args.cores) (reader_of reader) (doing_callee writer.candidate.doing);
  parts = args.cores;
  faults = faults;
  answer = put (at writer.known) writer.candidate.answer;
}

-- the writer takes one argument more, of which nothing is known before it is found
abbrev pub call_looked : Name → List Candidate → Args → Aimed
call_looked name fs args =
    call_aimed name args.faults args (chosen fs args.shapes) (chosen fs (args.shapes ++ V.Never ∷ []))

-- of one callee, as its call with one argument more: another count (M15), else each argument is wanted as its parameter
abbrev pub callee_aimed : Name → Candidate → ℕ → Solved → Aimed
callee_aimed name f count args = record {
  shape = put (at args.known) (last_param f.params);
  target = call_target name.place count None (doing_callee f.doing);
  parts = args.cores;
  faults = args.faults;
  answer = put (at args.known) f.answer;
}

abbrev pub callee_counted : Name → Candidate → List Part → Setting → Locals → Aimed
callee_counted name f args setting locals =
    if nat_eq (length f.params) (suc (length args))
    then callee_aimed name f (length args) (solved (elaborations args) setting locals f.params (holes f.variables))
    else aimed_nowhere name.place (error.Arity name.place (length f.params) (suc (length args)) ∷ [])

abbrev pub meant_aim : Name → List Part → List Candidate → Option Candidate → Setting → Locals → Aimed
meant_aim name args fs (Some f) setting locals = callee_counted name f args setting locals
meant_aim name args fs None setting locals = call_looked name fs (args_found (elaborations args) setting locals)

abbrev pub call_of : Name → List Part → Option Meant → List Candidate → Setting → Locals → Aimed
call_of name args meant fs = meant_aim name args fs (one_of meant fs)

abbrev pub call_aim : Name → List Part → Setting → Locals → Aimed
call_aim name args setting = call_of name args (setting.value name.text) (callees_of setting.types (setting.value name.text)) setting

pub record AimedAll : Type 0 where
  pub shapes : List Shape
  pub targets : List Target
  pub parts : List Core
  pub faults : List ShapeError

abbrev pub also_aimed : Aimed → AimedAll → AimedAll
also_aimed a more = record {
  shapes = a.shape ∷ more.shapes;
  targets = a.target ∷ more.targets;
  parts = a.parts ++ more.parts;
  faults = a.faults ++ more.faults;
}

abbrev pub each_aimed : List TargetPart → Setting → Locals → AimedAll
each_aimed [] setting locals = record { shapes = []; targets = []; parts = []; faults = [] }
each_aimed (t ∷ ts) setting locals = also_aimed (t.aim setting locals) (each_aimed ts setting locals)

abbrev pub tuple_aimed : Place → AimedAll → Aimed
tuple_aimed place all = record { shape = V.Tuple all.shapes; target = target place T.Tuple all.targets; parts = all.parts; faults = all.faults; answer = V.Unit }

abbrev pub part_aimed : Place → Aimed → Walked → Aimed
part_aimed place base ways = record {
  shape = ways.shape;
  target = target place (T.Part ways.suffixes) (base.target ∷ []);
  parts = base.parts ++ ways.parts;
  faults = base.faults ++ ways.faults;
  answer = base.answer;
}

-- where no member takes f(a); one callee has another count, or else its call with one argument more has failed
abbrev pub unread : Name → ℕ → Option Candidate → Option Chosen → List ShapeError
unread name count one (Some x) = []
unread name count (Some f) None = if nat_eq (length f.params) count then [] else error.Arity name.place (length f.params) count ∷ []
unread name count None None = error.NoMember name.place name.text ∷ []

-- a part is replaced in what is read, which leaves nothing open (M14)
abbrev pub open_faults : Place → Shape → List ShapeError
open_faults place s = if leaves_open s then ill_shaped place ∷ [] else []

abbrev pub read_with : Name → ℕ → Option Candidate → Option Chosen → Aimed → Aimed
read_with name count one reader base =
    record base { shape = read_shape reader; faults = base.faults ++ unread name count one reader ++ open_faults name.place (read_shape reader) }

-- the writer takes what is read
abbrev pub written_by : Name → List Candidate → Args → Option Chosen → Option Candidate → Aimed → Aimed
written_by name fs args reader (Some f) base = base
written_by name fs args reader None base = call_aimed name args.faults args reader (chosen fs (args.shapes ++ read_shape reader ∷ []))

abbrev pub read_by : Name → ℕ → Option Meant → List Candidate → Args → Aimed → Aimed
read_by name count meant fs args base =
    read_with name count (one_of meant fs) (chosen fs args.shapes) (written_by name fs args (chosen fs args.shapes) (one_of meant fs) base)

-- `f(a)[i] = e` reads f(a) by the call itself
abbrev pub read_aimed : Option (Name × List Part) → Setting → Locals → Aimed → Aimed
read_aimed None setting locals base = base
read_aimed (Some call) setting locals base =
    read_by call.0 (length call.1) (setting.value call.0.text) (callees_of setting.types (setting.value call.0.text))
    (args_found (elaborations call.1) setting locals) base
