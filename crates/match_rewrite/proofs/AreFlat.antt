-- A model without mappings becomes flat.
use Rattle.std.proofs.Common.{◌≡◌, Bool, true, ◌&&◌, List, [], ◌∷◌, map, Option, Some, None, option_map, refl, sym, ap, subst, ◌∙◌}
use Rattle.std.specs.List.{list_all}
use Rattle.sail_core.specs.declared.fragments.Fragment.TheVariants as G
use Rattle.sail_core.specs.declared.patterns.Arm.{Arm}
use Rattle.sail_core.specs.declared.patterns.Arm.TheVariants as A
use Rattle.sail_core.specs.declared.targets.Caller.{Caller}
use Rattle.sail_core.specs.declared.targets.TargetKind.{TargetKind}
use Rattle.sail_core.specs.declared.targets.TargetKind.TheVariants as T
use Rattle.sail_core.specs.declared.targets.Target.{Target, roll-Target, fold-roll-Target, map-Target, ind-Target}
use Rattle.sail_core.specs.declared.tree.Callee.{Callee}
use Rattle.sail_core.specs.declared.tree.Callee.TheVariants as C
use Rattle.sail_core.specs.declared.tree.Statement.{Statement}
use Rattle.sail_core.specs.declared.tree.Statement.TheVariants as B
use Rattle.sail_core.specs.declared.tree.Kind.{Kind}
use Rattle.sail_core.specs.declared.tree.Kind.TheVariants as K
use Rattle.sail_core.specs.declared.tree.Core.{Core, roll-Core, fold-roll-Core, map-Core, ind-Core}
use Rattle.sail_core.specs.declared.model.Function.{Function}
use Rattle.sail_core.specs.declared.model.Direction.{Direction}
use Rattle.sail_core.specs.declared.model.OpeningKind.{OpeningKind}
use Rattle.sail_core.specs.declared.model.OpeningKind.TheVariants as O
use Rattle.sail_core.specs.declared.model.Opening.{Opening}
use Rattle.sail_core.specs.declared.model.CoreModel.{CoreModel}
use Rattle.sail_core.specs.Nodes.{node}
use Rattle.sail_core.specs.Fragments.{all_true, arm_in, callee_in, caller_in, target_kind_in, target_in, statement_in, kind_in, core_in, measure_in}
use Rattle.sail_core.specs.Fragments.{function_in, direction_in, opening_kind_in, opening_in, model_in}
use Rattle.match_rewrite.specs.Rewriting.{flat_arm, flat_statement, flat_kind, flat_core, flat_function, flat_direction, flat_opening_kind}
use Rattle.match_rewrite.specs.Rewriting.{flat_opening, with_flat_arms}
use Rattle.match_rewrite.proofs.Sequences.{both_true, and_true}

-- ---- lists

all_are : {A B : Type 0} (ok : A → Bool) (good : B → Bool) (f : A → B) → ((x : A) → ok x ≡ true → good (f x) ≡ true) → (xs : List A)
    → list_all ok xs ≡ true → list_all good (map f xs) ≡ true
all_are ok good f h [] e = refl
all_are ok good f h (x ∷ xs) e =
    let b : (ok x ≡ true) × (list_all ok xs ≡ true) = both_true (ok x) (list_all ok xs) e in
    and_true (good (f x)) (list_all good (map f xs)) (h x b.0) (all_are ok good f h xs b.1)

-- ---- arms are flat, whatever they were

arm_is_flat : (arm : Arm) → arm_in G.Flat (flat_arm arm) ≡ true
arm_is_flat (A.Nested ps) = refl
arm_is_flat (A.Flat k ss) = refl

arms_are_flat : (arms : List Arm) → list_all (arm_in G.Flat) (map flat_arm arms) ≡ true
arms_are_flat [] = refl
arms_are_flat (arm ∷ arms) = and_true (arm_in G.Flat (flat_arm arm)) (list_all (arm_in G.Flat) (map flat_arm arms)) (arm_is_flat arm) (arms_are_flat arms)

statement_is_flat : (s : Statement) → statement_in G.MapFree s ≡ true → statement_in G.Flat (flat_statement s) ≡ true
statement_is_flat (B.Define place arm) h = arm_is_flat arm
statement_is_flat B.Evaluate h = refl
statement_is_flat (B.Declare name written) h = refl

-- ---- calls and targets are those of before

callee_is_flat : (callee : Callee) → callee_in G.MapFree callee ≡ true → callee_in G.Flat callee ≡ true
callee_is_flat (C.Converts d) h = h
callee_is_flat (C.Applies d) h = refl
callee_is_flat (C.Function f) h = refl
callee_is_flat (C.Row row) h = refl
callee_is_flat (C.Constructor u c) h = refl

caller_is_flat : (caller : Option Caller) → caller_in G.MapFree caller ≡ true → caller_in G.Flat caller ≡ true
caller_is_flat None h = refl
caller_is_flat (Some caller) h = callee_is_flat caller.callee h

target_kind_is_flat : (kind : TargetKind) → target_kind_in G.MapFree kind ≡ true → target_kind_in G.Flat kind ≡ true
target_kind_is_flat (T.Call n reader writer) h =
    let b : (caller_in G.MapFree reader ≡ true) × (callee_in G.MapFree writer.callee ≡ true) = both_true (caller_in G.MapFree reader)
    (callee_in G.MapFree writer.callee) h in
    and_true (caller_in G.Flat reader) (callee_in G.Flat writer.callee) (caller_is_flat reader b.0) (callee_is_flat writer.callee b.1)
target_kind_is_flat (T.Variable name) h = refl
target_kind_is_flat (T.Register r) h = refl
target_kind_is_flat T.Tuple h = refl
target_kind_is_flat (T.Part suffixes) h = refl

FlatTarget : Target → Type 0
FlatTarget t = target_in G.MapFree t ≡ true → target_in G.Flat t ≡ true

bases_are_flat : (ys : List ((t : Target) × FlatTarget t)) → all_true (map (target_in G.MapFree) (map (λ y. y.0) ys)) ≡ true
    → all_true (map (target_in G.Flat) (map (λ y. y.0) ys)) ≡ true
unfolding FlatTarget
bases_are_flat [] h = refl
bases_are_flat (y ∷ ys) h =
    let b : (target_in G.MapFree y.0 ≡ true) × (all_true (map (target_in G.MapFree) (map (λ u. u.0) ys)) ≡ true)
    = both_true (target_in G.MapFree y.0) (all_true (map (target_in G.MapFree) (map (λ u. u.0) ys))) h in
    and_true (target_in G.Flat y.0) (all_true (map (target_in G.Flat) (map (λ u. u.0) ys))) (y.1 b.0) (bases_are_flat ys b.1)

target_is_flat : (t : Target) → target_in G.MapFree t ≡ true → target_in G.Flat t ≡ true
unfolding FlatTarget
target_is_flat = ind-Target FlatTarget (λ t y is. subst (λ d. FlatTarget (roll-Target d)) is (λ e.
    let b : (target_kind_in G.MapFree y.kind ≡ true) × (all_true (map (target_in G.MapFree) (map (λ u. u.0) y.parts)) ≡ true)
    = both_true (target_kind_in G.MapFree y.kind) (all_true (map (target_in G.MapFree) (map (λ u. u.0) y.parts)))
    (sym (fold-roll-Target Bool (λ q. target_kind_in G.MapFree q.kind && all_true q.parts)
    (map-Target ((q : Target) × FlatTarget q) Target (λ q. q.0) y)) ∙ e) in
    fold-roll-Target Bool (λ q. target_kind_in G.Flat q.kind && all_true q.parts) (map-Target ((q : Target) × FlatTarget q) Target (λ q. q.0) y)
    ∙ and_true (target_kind_in G.Flat y.kind) (all_true (map (target_in G.Flat) (map (λ u. u.0) y.parts))) (target_kind_is_flat y.kind b.0)
    (bases_are_flat y.parts b.1)))

targets_are_flat : (ts : List Target) → all_true (map (target_in G.MapFree) ts) ≡ true → all_true (map (target_in G.Flat) ts) ≡ true
targets_are_flat [] h = refl
targets_are_flat (t ∷ ts) h =
    let b : (target_in G.MapFree t ≡ true) × (all_true (map (target_in G.MapFree) ts) ≡ true) = both_true (target_in G.MapFree t)
    (all_true (map (target_in G.MapFree) ts)) h in
    and_true (target_in G.Flat t) (all_true (map (target_in G.Flat) ts)) (target_is_flat t b.0) (targets_are_flat ts b.1)

-- ---- nodes

kind_is_flat : (kind : Kind) → kind_in G.MapFree kind ≡ true → kind_in G.Flat (flat_kind kind) ≡ true
kind_is_flat (K.Call callee) h = callee_is_flat callee h
kind_is_flat (K.Assign targets) h = targets_are_flat targets h
kind_is_flat (K.Block statements) h = all_are (statement_in G.MapFree) (statement_in G.Flat) flat_statement statement_is_flat statements h
kind_is_flat (K.Let arm) h = arm_is_flat arm
kind_is_flat (K.Match arms shape) h = arms_are_flat arms
kind_is_flat (K.Try arms shape) h = arms_are_flat arms
kind_is_flat (K.Clauses arms) h = arms_are_flat arms
kind_is_flat kind h = refl

FlatCore : Core → Type 0
FlatCore c = core_in G.MapFree c ≡ true → core_in G.Flat (flat_core c) ≡ true

parts_are_flat : (ys : List ((c : Core) × FlatCore c)) → all_true (map (core_in G.MapFree) (map (λ y. y.0) ys)) ≡ true
    → all_true (map (core_in G.Flat) (map flat_core (map (λ y. y.0) ys))) ≡ true
unfolding FlatCore
parts_are_flat [] h = refl
parts_are_flat (y ∷ ys) h =
    let b : (core_in G.MapFree y.0 ≡ true) × (all_true (map (core_in G.MapFree) (map (λ u. u.0) ys)) ≡ true)
    = both_true (core_in G.MapFree y.0) (all_true (map (core_in G.MapFree) (map (λ u. u.0) ys))) h in
    and_true (core_in G.Flat (flat_core y.0)) (all_true (map (core_in G.Flat) (map flat_core (map (λ u. u.0) ys)))) (y.1 b.0) (parts_are_flat ys b.1)

pub core_is_flat : (c : Core) → core_in G.MapFree c ≡ true → core_in G.Flat (flat_core c) ≡ true
unfolding FlatCore
core_is_flat = ind-Core FlatCore (λ c y is. subst (λ d. FlatCore (roll-Core d)) is (λ e.
    let b : (kind_in G.MapFree y.kind ≡ true) × (all_true (map (core_in G.MapFree) (map (λ u. u.0) y.parts)) ≡ true)
    = both_true (kind_in G.MapFree y.kind) (all_true (map (core_in G.MapFree) (map (λ u. u.0) y.parts)))
    (sym (fold-roll-Core Bool (λ q. kind_in G.MapFree q.kind && all_true q.parts) (map-Core ((q : Core) × FlatCore q) Core (λ q. q.0) y)) ∙ e) in
    ap (core_in G.Flat) (fold-roll-Core Core (λ q. node q.place q.number (flat_kind q.kind) q.parts) (map-Core ((q : Core) × FlatCore q) Core (λ q. q.0) y))
    ∙ fold-roll-Core Bool (λ q. kind_in G.Flat q.kind && all_true q.parts)
    (record { place = y.place; number = y.number; kind = flat_kind y.kind; parts = map flat_core (map (λ u. u.0) y.parts) })
    ∙ and_true (kind_in G.Flat (flat_kind y.kind)) (all_true (map (core_in G.Flat) (map flat_core (map (λ u. u.0) y.parts)))) (kind_is_flat y.kind b.0)
    (parts_are_flat y.parts b.1)))

-- ---- models

measure_is_flat : (measure : Option Core) → measure_in G.MapFree measure ≡ true → measure_in G.Flat (option_map flat_core measure) ≡ true
measure_is_flat None h = refl
measure_is_flat (Some measure) h = core_is_flat measure h

function_is_flat : (f : Function) → function_in G.MapFree f ≡ true → function_in G.Flat (flat_function f) ≡ true
function_is_flat f h =
    let b : (measure_in G.MapFree f.measure ≡ true) × (core_in G.MapFree f.body ≡ true) = both_true (measure_in G.MapFree f.measure)
    (core_in G.MapFree f.body) h in
    and_true (measure_in G.Flat (option_map flat_core f.measure)) (core_in G.Flat (flat_core f.body)) (measure_is_flat f.measure b.0) (core_is_flat f.body b.1)

direction_is_flat : (m : Direction) → direction_in G.MapFree m ≡ true → direction_in G.Flat (flat_direction m) ≡ true
direction_is_flat m h = core_is_flat m.body h

opening_kind_is_flat : (kind : OpeningKind) → opening_kind_in G.Flat (flat_opening_kind kind) ≡ true
opening_kind_is_flat (O.Let arm) = arm_is_flat arm
opening_kind_is_flat (O.Register r) = refl

opening_is_flat : (o : Opening) → opening_in G.MapFree o ≡ true → opening_in G.Flat (flat_opening o) ≡ true
opening_is_flat o h =
    let b : (opening_kind_in G.MapFree o.kind ≡ true) × (core_in G.MapFree o.value ≡ true) = both_true (opening_kind_in G.MapFree o.kind)
    (core_in G.MapFree o.value) h in
    and_true (opening_kind_in G.Flat (flat_opening_kind o.kind)) (core_in G.Flat (flat_core o.value)) (opening_kind_is_flat o.kind) (core_is_flat o.value b.1)

pub model_is_flat : (m : CoreModel) → model_in G.MapFree m ≡ true → model_in G.Flat (with_flat_arms m) ≡ true
model_is_flat m h =
    let b : (list_all (function_in G.MapFree) m.functions ≡ true)
    × ((list_all (direction_in G.MapFree) m.directions && list_all (opening_in G.MapFree) m.openings) ≡ true)
    = both_true (list_all (function_in G.MapFree) m.functions)
    (list_all (direction_in G.MapFree) m.directions && list_all (opening_in G.MapFree) m.openings) h in
    let d : (list_all (direction_in G.MapFree) m.directions ≡ true) × (list_all (opening_in G.MapFree) m.openings ≡ true)
    = both_true (list_all (direction_in G.MapFree) m.directions) (list_all (opening_in G.MapFree) m.openings) b.1 in
    and_true (list_all (function_in G.Flat) (map flat_function m.functions))
    (list_all (direction_in G.Flat) (map flat_direction m.directions) && list_all (opening_in G.Flat) (map flat_opening m.openings))
    (all_are (function_in G.MapFree) (function_in G.Flat) flat_function function_is_flat m.functions b.0)
    (and_true (list_all (direction_in G.Flat) (map flat_direction m.directions)) (list_all (opening_in G.Flat) (map flat_opening m.openings))
    (all_are (direction_in G.MapFree) (direction_in G.Flat) flat_direction direction_is_flat m.directions d.0)
    (all_are (opening_in G.MapFree) (opening_in G.Flat) flat_opening opening_is_flat m.openings d.1))
