-- The fragments of the core: as it is resolved; without mappings, whose directions are functions then; and with flat arms.
use Rattle.std.specs.Prelude.{Bool, true, false, ◌&&◌, List, [], ◌∷◌, map, Option, Some, None}
use Rattle.std.specs.List.{list_all}
use Rattle.sail_core.specs.declared.fragments.Fragment.{Fragment}
use Rattle.sail_core.specs.declared.fragments.Fragment.TheVariants as G
use Rattle.sail_core.specs.declared.patterns.Form.{Form}
use Rattle.sail_core.specs.declared.patterns.Form.TheVariants as F
use Rattle.sail_core.specs.declared.patterns.Pattern.{Pattern, fold-Pattern}
use Rattle.sail_core.specs.declared.patterns.Arm.{Arm}
use Rattle.sail_core.specs.declared.patterns.Arm.TheVariants as A
use Rattle.sail_core.specs.declared.targets.Caller.{Caller}
use Rattle.sail_core.specs.declared.targets.TargetKind.{TargetKind}
use Rattle.sail_core.specs.declared.targets.TargetKind.TheVariants as T
use Rattle.sail_core.specs.declared.targets.Target.{Target, fold-Target}
use Rattle.sail_core.specs.declared.tree.Callee.{Callee}
use Rattle.sail_core.specs.declared.tree.Callee.TheVariants as C
use Rattle.sail_core.specs.declared.tree.Statement.{Statement}
use Rattle.sail_core.specs.declared.tree.Statement.TheVariants as S
use Rattle.sail_core.specs.declared.tree.Kind.{Kind}
use Rattle.sail_core.specs.declared.tree.Kind.TheVariants as K
use Rattle.sail_core.specs.declared.tree.Core.{Core, fold-Core}
use Rattle.sail_core.specs.declared.model.Function.{Function}
use Rattle.sail_core.specs.declared.model.Direction.{Direction}
use Rattle.sail_core.specs.declared.model.OpeningKind.{OpeningKind}
use Rattle.sail_core.specs.declared.model.OpeningKind.TheVariants as O
use Rattle.sail_core.specs.declared.model.Opening.{Opening}
use Rattle.sail_core.specs.declared.model.CoreModel.{CoreModel}

abbrev pub all_true : List Bool → Bool
all_true [] = true
all_true (b ∷ bs) = b && all_true bs

-- a direction is asked for an option only once it is a function
abbrev pub form_in : Fragment → Form → Bool
form_in G.Resolved (F.Sees d) = false
form_in G.MapFree (F.Maps d) = false
form_in fragment form = true

abbrev pub pattern_in : Fragment → Pattern → Bool
pattern_in fragment = fold-Pattern Bool (λ p. form_in fragment p.form && all_true p.parts)

abbrev pub arm_in : Fragment → Arm → Bool
arm_in G.Resolved (A.Flat k ss) = false
arm_in G.Flat (A.Nested ps) = false
arm_in fragment (A.Nested ps) = all_true (map (pattern_in fragment) ps)
arm_in fragment (A.Flat k ss) = true

abbrev pub callee_in : Fragment → Callee → Bool
callee_in G.Resolved (C.Applies d) = false
callee_in G.MapFree (C.Converts d) = false
callee_in G.Flat (C.Converts d) = false
callee_in fragment callee = true

abbrev pub caller_in : Fragment → Option Caller → Bool
caller_in fragment None = true
caller_in fragment (Some caller) = callee_in fragment caller.callee

abbrev pub target_kind_in : Fragment → TargetKind → Bool
target_kind_in fragment (T.Call n reader writer) = caller_in fragment reader && callee_in fragment writer.callee
target_kind_in fragment kind = true

abbrev pub target_in : Fragment → Target → Bool
target_in fragment = fold-Target Bool (λ t. target_kind_in fragment t.kind && all_true t.parts)

abbrev pub statement_in : Fragment → Statement → Bool
statement_in fragment (S.Define place arm) = arm_in fragment arm
statement_in fragment statement = true

abbrev pub not_resolved : Fragment → Bool
not_resolved G.Resolved = false
not_resolved fragment = true

abbrev pub kind_in : Fragment → Kind → Bool
kind_in fragment (K.Call callee) = callee_in fragment callee
kind_in fragment (K.Assign targets) = all_true (map (target_in fragment) targets)
kind_in fragment (K.Block statements) = list_all (statement_in fragment) statements
kind_in fragment (K.Let arm) = arm_in fragment arm
kind_in fragment (K.Match arms shape) = list_all (arm_in fragment) arms
kind_in fragment (K.Try arms shape) = list_all (arm_in fragment) arms
kind_in fragment (K.Clauses arms) = list_all (arm_in fragment) arms
kind_in fragment (K.Optional t) = not_resolved fragment
kind_in fragment kind = true

-- whether each node of a core is of the fragment
abbrev pub core_in : Fragment → Core → Bool
core_in fragment = fold-Core Bool (λ c. kind_in fragment c.kind && all_true c.parts)

-- ---- models

abbrev pub measure_in : Fragment → Option Core → Bool
measure_in fragment None = true
measure_in fragment (Some measure) = core_in fragment measure

abbrev pub function_in : Fragment → Function → Bool
function_in fragment f = measure_in fragment f.measure && core_in fragment f.body

abbrev pub direction_in : Fragment → Direction → Bool
direction_in fragment m = core_in fragment m.body

abbrev pub opening_kind_in : Fragment → OpeningKind → Bool
opening_kind_in fragment (O.Let arm) = arm_in fragment arm
opening_kind_in fragment (O.Register r) = true

abbrev pub opening_in : Fragment → Opening → Bool
opening_in fragment o = opening_kind_in fragment o.kind && core_in fragment o.value

-- whether a model is of the fragment, in all its definitions
abbrev pub model_in : Fragment → CoreModel → Bool
model_in fragment m =
    list_all (function_in fragment) m.functions && (list_all (direction_in fragment) m.directions && list_all (opening_in fragment) m.openings)
