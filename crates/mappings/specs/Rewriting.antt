-- A model without mappings: each direction is a function that gives an option, and calls and patterns ask it.
use Rattle.std.specs.Prelude.{ℕ, List, [], ◌∷◌, map, option_map}
use Rattle.sail_base.specs.declared.place.Place.{Place}
use Rattle.sail_core.specs.declared.patterns.Head.TheVariants as H
use Rattle.sail_core.specs.declared.patterns.Form.{Form}
use Rattle.sail_core.specs.declared.patterns.Form.TheVariants as F
use Rattle.sail_core.specs.declared.patterns.Pattern.{Pattern, fold-Pattern, roll-Pattern}
use Rattle.sail_core.specs.declared.patterns.Arm.{Arm}
use Rattle.sail_core.specs.declared.patterns.Arm.TheVariants as A
use Rattle.sail_core.specs.declared.targets.Caller.{Caller}
use Rattle.sail_core.specs.declared.targets.TargetKind.{TargetKind}
use Rattle.sail_core.specs.declared.targets.TargetKind.TheVariants as T
use Rattle.sail_core.specs.declared.targets.Target.{Target, fold-Target, roll-Target}
use Rattle.sail_core.specs.declared.tree.Callee.{Callee}
use Rattle.sail_core.specs.declared.tree.Callee.TheVariants as C
use Rattle.sail_core.specs.declared.tree.Statement.{Statement}
use Rattle.sail_core.specs.declared.tree.Statement.TheVariants as S
use Rattle.sail_core.specs.declared.tree.Kind.{Kind}
use Rattle.sail_core.specs.declared.tree.Kind.TheVariants as K
use Rattle.sail_core.specs.declared.tree.Core.{Core, fold-Core}
use Rattle.sail_core.specs.declared.model.Function.{Function}
use Rattle.sail_core.specs.declared.model.Direction.{Direction}
use Rattle.sail_core.specs.declared.model.OpeningKind.{OpeningKind}
use Rattle.sail_core.specs.declared.model.OpeningKind.TheVariants as O
use Rattle.sail_core.specs.declared.model.Opening.{Opening}
use Rattle.sail_core.specs.declared.model.CoreModel.{CoreModel}
use Rattle.sail_core.specs.Nodes.{node}
use Rattle.sail_core.specs.Meaning.{option_typ}

-- ---- patterns

abbrev pub pattern : Place → Form → List Pattern → Pattern
pattern place form parts = roll-Pattern (record { place = place; form = form; parts = parts })

-- `Some(p)`, of which `option` is the first named type and `Some` its first constructor
abbrev pub some : Place → Pattern → Pattern
some place p = pattern place (F.Opens (H.Constructor 0 0)) (p ∷ [])

-- `m(p)` is `Some(p)` of what the direction gives
abbrev pub free_form : Place → Form → List Pattern → Pattern
free_form place (F.Maps d) (p ∷ []) = pattern place (F.Sees d) (some place p ∷ [])
free_form place (F.Maps d) ps = pattern place (F.Sees d) ps
free_form place form ps = pattern place form ps

abbrev pub free_pattern : Pattern → Pattern
free_pattern = fold-Pattern Pattern (λ p. free_form p.place p.form p.parts)

abbrev pub free_arm : Arm → Arm
free_arm (A.Nested ps) = A.Nested (map free_pattern ps)
free_arm (A.Flat k ss) = A.Flat k ss

-- ---- calls

abbrev pub free_callee : Callee → Callee
free_callee (C.Converts d) = C.Applies d
free_callee callee = callee

abbrev pub free_caller : Caller → Caller
free_caller caller = record { callee = free_callee caller.callee; number = caller.number }

abbrev pub free_target_kind : TargetKind → TargetKind
free_target_kind (T.Call n reader writer) = T.Call n (option_map free_caller reader) (free_caller writer)
free_target_kind kind = kind

abbrev pub target : Place → ℕ → TargetKind → List Target → Target
target place number kind parts = roll-Target (record { place = place; number = number; kind = kind; parts = parts })

abbrev pub free_target : Target → Target
free_target = fold-Target Target (λ t. target t.place t.number (free_target_kind t.kind) t.parts)

-- ---- nodes: their places, numbers and parts stay

abbrev pub free_statement : Statement → Statement
free_statement (S.Define place arm) = S.Define place (free_arm arm)
free_statement statement = statement

abbrev pub free_kind : Kind → Kind
free_kind (K.Call callee) = K.Call (free_callee callee)
free_kind (K.Assign targets) = K.Assign (map free_target targets)
free_kind (K.Block statements) = K.Block (map free_statement statements)
free_kind (K.Let arm) = K.Let (free_arm arm)
free_kind (K.Match arms shape) = K.Match (map free_arm arms) shape
free_kind (K.Try arms shape) = K.Try (map free_arm arms) shape
free_kind (K.Clauses arms) = K.Clauses (map free_arm arms)
free_kind kind = kind

abbrev pub free_core : Core → Core
free_core = fold-Core Core (λ c. node c.place c.number (free_kind c.kind) c.parts)

-- ---- definitions

abbrev pub free_function : Function → Function
free_function f = record f { measure = option_map free_core f.measure; body = free_core f.body }

-- the greatest number, which no node of a text gets
abbrev pub last_number : ℕ
last_number = 4294967295

-- a direction's clauses, as an option: `None` where no clause fits
abbrev pub free_direction : Direction → Direction
free_direction m = record m { result = option_typ m.result; body = node m.place last_number (K.Optional m.result) (free_core m.body ∷ []) }

abbrev pub free_opening_kind : OpeningKind → OpeningKind
free_opening_kind (O.Let arm) = O.Let (free_arm arm)
free_opening_kind (O.Register r) = O.Register r

abbrev pub free_opening : Opening → Opening
free_opening o = record o { kind = free_opening_kind o.kind; value = free_core o.value }

abbrev pub without_mappings : CoreModel → CoreModel
without_mappings m = record m {
  functions = map free_function m.functions;
  directions = map free_direction m.directions;
  openings = map free_opening m.openings;
}
