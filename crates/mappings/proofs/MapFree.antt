-- No mapping is left.
use Rattle.std.proofs.Common.{◌≡◌, Bool, true, ◌&&◌, List, [], ◌∷◌, map, Option, Some, None, option_map, refl, ap, subst, ◌∙◌}
use Rattle.std.specs.List.{list_all}
use Rattle.sail_base.specs.declared.place.Place.{Place}
use Rattle.sail_core.specs.declared.fragments.Fragment.TheVariants as G
use Rattle.sail_core.specs.declared.patterns.Head.TheVariants as H
use Rattle.sail_core.specs.declared.patterns.Form.{Form}
use Rattle.sail_core.specs.declared.patterns.Form.TheVariants as F
use Rattle.sail_core.specs.declared.patterns.Pattern.{Pattern, roll-Pattern, fold-roll-Pattern, map-Pattern, ind-Pattern}
use Rattle.sail_core.specs.declared.patterns.Arm.{Arm}
use Rattle.sail_core.specs.declared.patterns.Arm.TheVariants as A
use Rattle.sail_core.specs.declared.targets.Caller.{Caller}
use Rattle.sail_core.specs.declared.targets.TargetKind.{TargetKind}
use Rattle.sail_core.specs.declared.targets.TargetKind.TheVariants as T
use Rattle.sail_core.specs.declared.targets.Target.{Target, roll-Target, fold-roll-Target, map-Target, ind-Target}
use Rattle.sail_core.specs.declared.tree.Callee.{Callee}
use Rattle.sail_core.specs.declared.tree.Callee.TheVariants as C
use Rattle.sail_core.specs.declared.tree.Statement.{Statement}
use Rattle.sail_core.specs.declared.tree.Statement.TheVariants as S
use Rattle.sail_core.specs.declared.tree.Kind.{Kind}
use Rattle.sail_core.specs.declared.tree.Kind.TheVariants as K
use Rattle.sail_core.specs.declared.tree.Core.{Core, roll-Core, fold-roll-Core, map-Core, ind-Core}
use Rattle.sail_core.specs.declared.model.Function.{Function}
use Rattle.sail_core.specs.declared.model.Direction.{Direction}
use Rattle.sail_core.specs.declared.model.OpeningKind.{OpeningKind}
use Rattle.sail_core.specs.declared.model.OpeningKind.TheVariants as O
use Rattle.sail_core.specs.declared.model.Opening.{Opening}
use Rattle.sail_core.specs.declared.model.CoreModel.{CoreModel}
use Rattle.sail_core.specs.Nodes.{node}
use Rattle.sail_core.specs.Fragments.{all_true, form_in, pattern_in, arm_in, callee_in, caller_in, target_kind_in, target_in, statement_in, kind_in}
use Rattle.sail_core.specs.Fragments.{core_in, measure_in, function_in, direction_in, opening_kind_in, opening_in, model_in}
use Rattle.mappings.specs.Rewriting.{pattern, some, free_form, free_pattern, free_arm, free_callee, free_caller, free_target_kind, target}
use Rattle.mappings.specs.Rewriting.{free_target, free_statement, free_kind, free_core, last_number, free_function, free_direction, free_opening_kind}
use Rattle.mappings.specs.Rewriting.{free_opening, without_mappings}
use Rattle.mappings.proofs.Options.{and_true}

-- ---- patterns

roll_in : (place : Place) (form : Form) (ps : List Pattern)
    → pattern_in G.MapFree (pattern place form ps) ≡ (form_in G.MapFree form && all_true (map (pattern_in G.MapFree) ps))
roll_in place form ps = fold-roll-Pattern Bool (λ p. form_in G.MapFree p.form && all_true p.parts) (record { place = place; form = form; parts = ps })

form_is_free : (place : Place) (form : Form) (ps : List Pattern) → all_true (map (pattern_in G.MapFree) ps) ≡ true
    → pattern_in G.MapFree (free_form place form ps) ≡ true
form_is_free place (F.Maps d) (p ∷ []) h =
    roll_in place (F.Sees d) (some place p ∷ [])
    ∙ ap (λ b. b && true) (roll_in place (F.Opens (H.Constructor 0 0)) (p ∷ []) ∙ h)
form_is_free place (F.Maps d) [] h = roll_in place (F.Sees d) []
form_is_free place (F.Maps d) (p ∷ q ∷ ps) h = roll_in place (F.Sees d) (p ∷ q ∷ ps) ∙ h
form_is_free place F.Any ps h = roll_in place F.Any ps ∙ h
form_is_free place (F.Binds name) ps h = roll_in place (F.Binds name) ps ∙ h
form_is_free place (F.As name) ps h = roll_in place (F.As name) ps ∙ h
form_is_free place (F.Typed written) ps h = roll_in place (F.Typed written) ps ∙ h
form_is_free place (F.Opens head) ps h = roll_in place (F.Opens head) ps ∙ h
form_is_free place (F.Sees d) ps h = roll_in place (F.Sees d) ps ∙ h

FreePattern : Pattern → Type 0
FreePattern p = pattern_in G.MapFree (free_pattern p) ≡ true

inner_are_free : (ys : List ((p : Pattern) × FreePattern p)) → all_true (map (pattern_in G.MapFree) (map free_pattern (map (λ y. y.0) ys))) ≡ true
unfolding FreePattern
inner_are_free [] = refl
inner_are_free (y ∷ ys) = and_true (pattern_in G.MapFree (free_pattern y.0)) (all_true (map (pattern_in G.MapFree) (map free_pattern (map (λ u. u.0) ys)))) y.1
    (inner_are_free ys)

pattern_is_free : (p : Pattern) → pattern_in G.MapFree (free_pattern p) ≡ true
unfolding FreePattern
pattern_is_free = ind-Pattern FreePattern (λ p y is. subst (λ d. FreePattern (roll-Pattern d)) is (
    ap (pattern_in G.MapFree) (fold-roll-Pattern Pattern (λ q. free_form q.place q.form q.parts)
    (map-Pattern ((q : Pattern) × FreePattern q) Pattern (λ q. q.0) y))
    ∙ form_is_free y.place y.form (map free_pattern (map (λ u. u.0) y.parts)) (inner_are_free y.parts)))

patterns_are_free : (ps : List Pattern) → all_true (map (pattern_in G.MapFree) (map free_pattern ps)) ≡ true
patterns_are_free [] = refl
patterns_are_free (p ∷ ps) = and_true (pattern_in G.MapFree (free_pattern p)) (all_true (map (pattern_in G.MapFree) (map free_pattern ps))) (pattern_is_free p)
    (patterns_are_free ps)

arm_is_free : (arm : Arm) → arm_in G.MapFree (free_arm arm) ≡ true
arm_is_free (A.Nested ps) = patterns_are_free ps
arm_is_free (A.Flat k ss) = refl

-- ---- lists

all_are : {A B : Type 0} (good : B → Bool) (f : A → B) → ((x : A) → good (f x) ≡ true) → (xs : List A) → list_all good (map f xs) ≡ true
all_are good f h [] = refl
all_are good f h (x ∷ xs) = and_true (good (f x)) (list_all good (map f xs)) (h x) (all_are good f h xs)

-- ---- calls and targets

callee_is_free : (callee : Callee) → callee_in G.MapFree (free_callee callee) ≡ true
callee_is_free (C.Converts d) = refl
callee_is_free (C.Applies d) = refl
callee_is_free (C.Function f) = refl
callee_is_free (C.Row row) = refl
callee_is_free (C.Constructor u c) = refl

caller_is_free : (caller : Option Caller) → caller_in G.MapFree (option_map free_caller caller) ≡ true
caller_is_free None = refl
caller_is_free (Some caller) = callee_is_free caller.callee

target_kind_is_free : (kind : TargetKind) → target_kind_in G.MapFree (free_target_kind kind) ≡ true
target_kind_is_free (T.Call n reader writer) =
    and_true (caller_in G.MapFree (option_map free_caller reader)) (callee_in G.MapFree (free_callee writer.callee)) (caller_is_free reader)
    (callee_is_free writer.callee)
target_kind_is_free kind = refl

FreeTarget : Target → Type 0
FreeTarget t = target_in G.MapFree (free_target t) ≡ true

bases_are_free : (ys : List ((t : Target) × FreeTarget t)) → all_true (map (target_in G.MapFree) (map free_target (map (λ y. y.0) ys))) ≡ true
unfolding FreeTarget
bases_are_free [] = refl
bases_are_free (y ∷ ys) = and_true (target_in G.MapFree (free_target y.0)) (all_true (map (target_in G.MapFree) (map free_target (map (λ u. u.0) ys)))) y.1
    (bases_are_free ys)

target_is_free : (t : Target) → target_in G.MapFree (free_target t) ≡ true
unfolding FreeTarget
target_is_free = ind-Target FreeTarget (λ t y is. subst (λ d. FreeTarget (roll-Target d)) is (
    ap (target_in G.MapFree) (fold-roll-Target Target (λ q. target q.place q.number (free_target_kind q.kind) q.parts)
    (map-Target ((q : Target) × FreeTarget q) Target
    (λ q. q.0) y))
    ∙ fold-roll-Target Bool (λ q. target_kind_in G.MapFree q.kind && all_true q.parts)
    (record { place = y.place; number = y.number; kind = free_target_kind y.kind; parts = map free_target (map (λ u. u.0) y.parts) })
    ∙ and_true (target_kind_in G.MapFree (free_target_kind y.kind)) (all_true (map (target_in G.MapFree) (map free_target (map (λ u. u.0) y.parts))))
    (target_kind_is_free y.kind) (bases_are_free y.parts)))

targets_are_free : (ts : List Target) → all_true (map (target_in G.MapFree) (map free_target ts)) ≡ true
targets_are_free [] = refl
targets_are_free (t ∷ ts) = and_true (target_in G.MapFree (free_target t)) (all_true (map (target_in G.MapFree) (map free_target ts))) (target_is_free t)
    (targets_are_free ts)

-- ---- nodes

statement_is_free : (s : Statement) → statement_in G.MapFree (free_statement s) ≡ true
statement_is_free (S.Define place arm) = arm_is_free arm
statement_is_free S.Evaluate = refl
statement_is_free (S.Declare name written) = refl

kind_is_free : (kind : Kind) → kind_in G.MapFree (free_kind kind) ≡ true
kind_is_free (K.Call callee) = callee_is_free callee
kind_is_free (K.Assign targets) = targets_are_free targets
kind_is_free (K.Block statements) = all_are (statement_in G.MapFree) free_statement statement_is_free statements
kind_is_free (K.Let arm) = arm_is_free arm
kind_is_free (K.Match arms shape) = all_are (arm_in G.MapFree) free_arm arm_is_free arms
kind_is_free (K.Try arms shape) = all_are (arm_in G.MapFree) free_arm arm_is_free arms
kind_is_free (K.Clauses arms) = all_are (arm_in G.MapFree) free_arm arm_is_free arms
kind_is_free kind = refl

FreeCore : Core → Type 0
FreeCore c = core_in G.MapFree (free_core c) ≡ true

parts_are_free : (ys : List ((c : Core) × FreeCore c)) → all_true (map (core_in G.MapFree) (map free_core (map (λ y. y.0) ys))) ≡ true
unfolding FreeCore
parts_are_free [] = refl
parts_are_free (y ∷ ys) = and_true (core_in G.MapFree (free_core y.0)) (all_true (map (core_in G.MapFree) (map free_core (map (λ u. u.0) ys)))) y.1
    (parts_are_free ys)

pub core_is_free : (c : Core) → core_in G.MapFree (free_core c) ≡ true
unfolding FreeCore
core_is_free = ind-Core FreeCore (λ c y is. subst (λ d. FreeCore (roll-Core d)) is (
    ap (core_in G.MapFree) (fold-roll-Core Core (λ q. node q.place q.number (free_kind q.kind) q.parts) (map-Core ((q : Core) × FreeCore q) Core (λ q. q.0) y))
    ∙ fold-roll-Core Bool (λ q. kind_in G.MapFree q.kind && all_true q.parts)
    (record { place = y.place; number = y.number; kind = free_kind y.kind; parts = map free_core (map (λ u. u.0) y.parts) })
    ∙ and_true (kind_in G.MapFree (free_kind y.kind)) (all_true (map (core_in G.MapFree) (map free_core (map (λ u. u.0) y.parts))))
    (kind_is_free y.kind) (parts_are_free y.parts)))

-- ---- models

measure_is_free : (measure : Option Core) → measure_in G.MapFree (option_map free_core measure) ≡ true
measure_is_free None = refl
measure_is_free (Some measure) = core_is_free measure

function_is_free : (f : Function) → function_in G.MapFree (free_function f) ≡ true
function_is_free f = and_true (measure_in G.MapFree (option_map free_core f.measure)) (core_in G.MapFree (free_core f.body)) (measure_is_free f.measure)
    (core_is_free f.body)

direction_is_free : (m : Direction) → direction_in G.MapFree (free_direction m) ≡ true
direction_is_free m =
    fold-roll-Core Bool (λ q. kind_in G.MapFree q.kind && all_true q.parts)
    (record { place = m.place; number = last_number; kind = K.Optional m.result; parts = free_core m.body ∷ [] })
    ∙ ap (λ b. b && true) (core_is_free m.body)

opening_kind_is_free : (kind : OpeningKind) → opening_kind_in G.MapFree (free_opening_kind kind) ≡ true
opening_kind_is_free (O.Let arm) = arm_is_free arm
opening_kind_is_free (O.Register r) = refl

opening_is_free : (o : Opening) → opening_in G.MapFree (free_opening o) ≡ true
opening_is_free o = and_true (opening_kind_in G.MapFree (free_opening_kind o.kind)) (core_in G.MapFree (free_core o.value)) (opening_kind_is_free o.kind)
    (core_is_free o.value)

pub model_is_free : (m : CoreModel) → model_in G.MapFree (without_mappings m) ≡ true
model_is_free m =
    and_true (list_all (function_in G.MapFree) (map free_function m.functions))
    (list_all (direction_in G.MapFree) (map free_direction m.directions) && list_all (opening_in G.MapFree) (map free_opening m.openings))
    (all_are (function_in G.MapFree) free_function function_is_free m.functions)
    (and_true (list_all (direction_in G.MapFree) (map free_direction m.directions)) (list_all (opening_in G.MapFree) (map free_opening m.openings))
    (all_are (direction_in G.MapFree) free_direction direction_is_free m.directions)
    (all_are (opening_in G.MapFree) free_opening opening_is_free m.openings))
