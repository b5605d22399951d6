-- Calls of functions and of directions of mappings keep shapes and do the same in the worlds over calls one deeper.
use Rattle.std.proofs.Common.{◌≡◌, ℕ, suc, true, false, List, [], ◌∷◌, ap, sym, ◌∙◌, refl, subst, Option, Some, None}
use Rattle.std.specs.Prelude.{slice_get}
use Rattle.std.proofs.lemmas.Bool.{and_parts}
use Rattle.sail_types.specs.Shapes.{fits, put, shape}
use Rattle.sail_types.specs.declared.shapes.Shape.{Shape}
use Rattle.sail_types.specs.declared.shapes.Shape.TheVariants as V
use Rattle.sail_types.specs.declared.table.Types.{Types}
use Rattle.sail_types.specs.declared.values.Value.{Value}
use Rattle.model_state.specs.declared.cause.Cause.{Cause}
use Rattle.model_state.specs.declared.cause.Cause.TheVariants.{MatchFailure}
use Rattle.sail_core.specs.declared.model.Direction.{Direction as CoreDirection}
use Rattle.sail_core.specs.declared.model.Function.{Function as CoreFunction}
use Rattle.sail_core.specs.Numbers.{Givens}
use Rattle.sail_core.specs.Run as R
use Rattle.sail_core.specs.Run.{Now, Ended, goes_on, needs, or_so, stops, tick_at, ◌then◌, ◌or_else◌}
use Rattle.sail_core.specs.Making as Making
use Rattle.sail_core.specs.Making.{made, plainly}
use Rattle.sail_core.specs.Program as Core
use Rattle.shape_joins.proofs.Order.{no}
use Rattle.sail_meaning.specs.Calls as Source
use Rattle.sail_meaning.specs.Text.{Direction, Function, direction, function}
use Rattle.sail_meaning.specs.World as World
use Rattle.shape_rules.specs.Scopes.{Setting, answering, thrown_shape}
use Rattle.shape_meanings.specs.Whole.{Choice, closed}
use Rattle.shape_meanings.specs.Keeping.{Fits, RegistersFit, KeepsApart, AgreeApart}
use Rattle.shape_meanings.specs.Worlds.{Describes, KeepsCall, direction_candidate}
use Rattle.shape_meanings.specs.Models.{DirectionIs}
use Rattle.shape_meanings.proofs.Naming.{closed_is}
use Rattle.body_meanings.specs.Calls.{IsFunction, WorldsAre, core_setting}
use Rattle.body_meanings.specs.Callees.{function_candidate}
use Rattle.body_meanings.proofs.Entering.{crossed_agrees, entered_agrees, then_given, tick_agrees}

-- what a node makes of a value that stands for itself
pub then_made : (vs : List Value) (e : Ended Value Value) → goes_on e (λ v. made plainly 0 vs v) ≡ e
then_made vs (R.Gives v now) = refl
then_made vs (R.No now) = refl
then_made vs (R.Returns v now) = refl
then_made vs (R.Throws v now) = refl
then_made vs (R.Stops cause now) = refl
then_made vs R.Stuck = refl

pub functions_keep_calls : (setting : Setting) (registers params : List Shape) (answer : Shape) (functions : List CoreFunction)
    (directions : List CoreDirection) (hart : ℕ) (lets : List Value) (core_calls : Core.Calls Value) (ss : Source.Setting) (calls : Source.Calls)
    (g : CoreFunction) (f : Function)
    → setting.answer ≡ None → IsFunction setting params answer g f
    → WorldsAre (answering (Some answer) setting) registers (core_setting functions directions hart lets) core_calls ss calls f
    → (name : List ℕ) (i variables : ℕ) → slice_get functions i ≡ Some g → (active : List (ℕ × ℕ)) (numbers : Givens) (vs : List Value)
    → KeepsCall setting.types registers (thrown_shape setting)
    (Core.world_of (core_setting functions directions hart lets) (Core.deeper (core_setting functions directions hart lets) core_calls) active numbers vs)
    (Source.applied ss (Source.deeper ss calls) active) (function_candidate name i variables params answer) (function f)
functions_keep_calls setting registers params answer functions directions hart lets core_calls ss calls g f none is worlds name i variables there active
    numbers arguments c place vs now fit state =
    let cs : Core.Setting Value = core_setting functions directions hart lets in
    let a = entered_agrees setting registers params answer functions directions hart lets core_calls ss calls g f none is worlds c active place i vs now fit
    state in (
      ap (λ (o : Option CoreFunction). goes_on (Core.entered cs core_calls active place i None vs o now) (λ v. made plainly 0 vs v)) there
          ∙ then_made vs (Core.entered cs core_calls active place i None vs (Some g) now) ∙ a.0,
      a.1,
    )

-- ---- directions

or_keeps : (types : Types) (registers : List Shape) (thrown : Shape) (P : Value → Type 0) (before : Now Value) (cause : Cause) (e : Ended Value Value)
    → KeepsApart types registers thrown P before e → KeepsApart types registers thrown P before (or_so e (stops cause))
or_keeps types registers thrown P before cause (R.Gives v now) k = k
or_keeps types registers thrown P before cause (R.No now) k = k
or_keeps types registers thrown P before cause (R.Returns v now) k = k
or_keeps types registers thrown P before cause (R.Throws v now) k = k
or_keeps types registers thrown P before cause (R.Stops other now) k = k
or_keeps types registers thrown P before cause R.Stuck k = tt

or_apart : (types : Types) (registers : List Shape) (thrown : Shape) (P : Value → Type 0) (before : Now Value) (cause : Cause) (core source : Ended Value Value)
    → AgreeApart types registers thrown P before core source
    → AgreeApart types registers thrown P before (or_so core (stops cause)) (or_so source (stops cause))
or_apart types registers thrown P before cause core source a =
    (ap (λ (e : Ended Value Value). or_so e (stops cause)) a.0, or_keeps types registers thrown P before cause source a.1)

pub directions_keep_calls : (setting : Setting) (registers : List Shape) (functions : List CoreFunction) (directions : List CoreDirection) (hart : ℕ)
    (lets : List Value) (core_calls : Core.Calls Value) (ss : Source.Setting) (calls : Source.Calls) (g : CoreDirection) (d : Direction)
    → DirectionIs setting g.body d
    → ((active : List (ℕ × ℕ)) (vs : List Value) → Describes (answering None setting) registers
    (Core.world_of (core_setting functions directions hart lets) core_calls active [] vs) (Source.world_of ss calls active ss.text.within []))
    → (name : List ℕ) (i : ℕ) → slice_get directions i ≡ Some g → (active : List (ℕ × ℕ)) (numbers : Givens) (vs : List Value)
    → KeepsCall setting.types registers (thrown_shape setting)
    (Core.world_of (core_setting functions directions hart lets) (Core.deeper (core_setting functions directions hart lets) core_calls) active numbers vs)
    (Source.applied ss (Source.deeper ss calls) active) (direction_candidate name i d.takes d.gives) (direction d)
directions_keep_calls setting registers functions directions hart lets core_calls ss calls g d is described name i there active numbers arguments c place []
    now fit state = no fit
directions_keep_calls setting registers functions directions hart lets core_calls ss calls g d is described name i there active numbers arguments c place
    (v ∷ u ∷ vs) now fit state = no (and_parts (fits setting.types v (put c (shape d.takes))) false fit).1
directions_keep_calls setting registers functions directions hart lets core_calls ss calls g d is described name i there active numbers arguments c place
    (v ∷ []) now fit state =
    let a = tick_agrees setting.types registers (thrown_shape setting) (Fits setting.types c (shape d.gives)) now.ticks now
    (Core.gone cs world i v (Some g) or_else stops (MatchFailure place)) (Source.crossed ws d v or_else stops (MatchFailure place)) state
    (λ later same state2.
    or_apart setting.types registers (thrown_shape setting) (Fits setting.types c (shape d.gives)) later (MatchFailure place)
    (Core.gone cs world i v (Some g) later) (Source.crossed ws d v later)
    (crossed_agrees setting registers functions directions hart lets g d world ws is (λ vs. refl) (described active) c i v later
    (and_parts (fits setting.types v (put c (shape d.takes))) true fit).0 state2)) in (
      ap (λ (o : Option CoreDirection).
          goes_on (goes_on (tick_at now.ticks now) (λ t. Core.gone cs world i v o or_else stops (MatchFailure place))) (λ u. made plainly 0 (v ∷ []) u)) there
          ∙ then_made (v ∷ []) (goes_on (tick_at now.ticks now) (λ t. Core.gone cs world i v (Some g) or_else stops (MatchFailure place))) ∙ a.0,
      a.1,
    )
  where
    cs : Core.Setting Value
    cs = core_setting functions directions hart lets

    world : List Value → Making.World Value
    world = Core.world_of cs core_calls active []

    ws : World.World
    ws = Source.world_of ss calls active ss.text.within []

-- ---- directions in patterns

pub directions_keep_ways : (setting : Setting) (registers : List Shape) (functions : List CoreFunction) (directions : List CoreDirection) (hart : ℕ)
    (lets : List Value) (core_calls : Core.Calls Value) (ss : Source.Setting) (calls : Source.Calls) (g : CoreDirection) (d : Direction)
    (active : List (ℕ × ℕ)) (rank : ℕ)
    → DirectionIs setting g.body d → closed (shape d.takes) ≡ true → closed (shape d.gives) ≡ true
    → ((vs : List Value) → Describes (answering None setting) registers
    (Core.asking (core_setting functions directions hart lets) core_calls active
    (Core.ways (core_setting functions directions hart lets) core_calls active rank) [] vs)
    (Source.world_with ss calls active (Source.converting ss calls active rank) ss.text.within []))
    → (name : List ℕ) (i : ℕ) → slice_get directions i ≡ Some g
    → ((v : Value) → fits setting.types v (shape d.takes) ≡ true → Source.direction_chosen ss.text.types (ss.text.called name) v ≡ Some d)
    → (v : Value) (now : Now Value) → fits setting.types v (shape d.takes) ≡ true → RegistersFit setting.types registers now.state
    → AgreeApart setting.types registers (thrown_shape setting) (λ u. fits setting.types u (shape d.gives) ≡ true) now
    (Core.ways (core_setting functions directions hart lets) core_calls active (suc rank) i v now)
    (Source.converting ss calls active (suc rank) name v now)
directions_keep_ways setting registers functions directions hart lets core_calls ss calls g d active rank is takes given described name i there chosen v now
    fit state = (
      ap (λ (o : Option CoreDirection). goes_on (Core.gone cs world i v o now) (Core.as_given plainly o)) there
          ∙ then_given (Core.gone cs world i v (Some g) now) ∙ a.0 ∙ sym source,
      subst (KeepsApart setting.types registers (thrown_shape setting) (λ u. fits setting.types u (shape d.gives) ≡ true) now) (sym source) a.1,
    )
  where
    cs : Core.Setting Value
    cs = core_setting functions directions hart lets

    world : List Value → Making.World Value
    world = Core.asking cs core_calls active (Core.ways cs core_calls active rank) []

    ws : World.World
    ws = Source.world_with ss calls active (Source.converting ss calls active rank) ss.text.within []

    c : Choice
    c = λ j. V.Unit

    source : Source.converting ss calls active (suc rank) name v now ≡ Source.crossed ws d v now
    source = ap (λ (o : Option Direction). (needs o then λ one. Source.crossed ws one v) now) (chosen v fit)

    a : AgreeApart setting.types registers (thrown_shape setting) (λ u. fits setting.types u (shape d.gives) ≡ true) now
        (Core.gone cs world i v (Some g) now) (Source.crossed ws d v now)
    a =
        subst (λ s. AgreeApart setting.types registers (thrown_shape setting) (λ u. fits setting.types u s ≡ true) now (Core.gone cs world i v (Some g) now)
        (Source.crossed ws d v now)) (closed_is (shape d.gives) c given)
        (crossed_agrees setting registers functions directions hart lets g d world ws is (λ vs. refl) described c i v now
        (subst (λ s. fits setting.types v s ≡ true) (sym (closed_is (shape d.takes) c takes)) fit) state)
