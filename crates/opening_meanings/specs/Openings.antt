-- One opening, a top-level let or a register's initial value: its core does what it does in the text, and values have the shapes that are found (Sail
-- language manual, "Let bindings", "Registers").
use Rattle.std.specs.Prelude.{◌≡◌, ℕ, true, false, ◌&&◌, List, [], ◌∷◌, slice_get, Some}
use Rattle.sail_base.specs.declared.place.Place.{Place}
use Rattle.sail_syntax.specs.declared.expressions.Exp.{Exp}
use Rattle.sail_syntax.specs.declared.patterns.Pat.{Pat}
use Rattle.sail_types.specs.Shapes.{fits}
use Rattle.sail_types.specs.declared.shapes.Shape.{Shape}
use Rattle.sail_types.specs.declared.table.Types.{Types}
use Rattle.sail_types.specs.declared.values.Value.{Value}
use Rattle.model_state.specs.RunState.{RunState}
use Rattle.sail_core.specs.declared.model.OpeningKind.TheVariants as O
use Rattle.sail_core.specs.Making.{plainly as plain_making}
use Rattle.sail_core.specs.Run as R
use Rattle.sail_core.specs.Run.{Ended}
use Rattle.sail_core.specs.Start as CoreStart
use Rattle.sail_core.specs.Start.{begun, set_all}
use Rattle.sail_meaning.specs.Start as SourceStart
use Rattle.sail_meaning.specs.Text.{Text, let_of, register_of}
use Rattle.sail_meaning.specs.World.{Bindings}
use Rattle.sail_names.specs.Known as Tables
use Rattle.sail_names.specs.Known.{is_any}
use Rattle.sail_names.specs.Patterns.{pattern_failures}
use Rattle.sail_names.specs.Uses.{expression_failures}
use Rattle.shape_rules.specs.declared.locals.Local.{Local}
use Rattle.shape_rules.specs.Scopes.{Setting, plainly}
use Rattle.shape_meanings.specs.Keeping.{Fits, RegistersFit}
use Rattle.shape_meanings.specs.Naming.{AreKnown}
use Rattle.shape_meanings.specs.Trees.{pattern_written, written}
use Rattle.shape_meanings.specs.Whole.{Choice, closed}
use Rattle.shapes.specs.Failures.{initial_found, let_bound}
use Rattle.shapes.specs.Resolved.{binding_opening, opening}
use Rattle.opening_meanings.specs.Worlds.{Opens}

-- both give something, both stop for one cause, or openings come to no end on either side
abbrev pub EndsAlike : {A B : Type 0} → (A → B → Type 0) → Ended Value A → Ended Value B → Type 0
EndsAlike Q (R.Gives a here) (R.Gives b there) = Q a b
EndsAlike Q (R.Gives a here) e = ⊥
EndsAlike Q (R.Stops cause here) (R.Stops other there) = cause ≡ other
EndsAlike Q (R.Stops cause here) e = ⊥
EndsAlike Q d (R.Gives b there) = ⊥
EndsAlike Q d (R.Stops other there) = ⊥
EndsAlike Q d e = Unit {0}

-- ---- top-level lets

-- names in order, each with the same value on both sides, which has its shape whatever variables stand for
abbrev pub AreBound : Types → List Local → List Value → Bindings → Type 0
AreBound types [] [] [] = Unit {0}
AreBound types (l ∷ ls) (v ∷ vs) (b ∷ bs) =
    (b.name ≡ l.name) × (b.held ≡ v) × ((c : Choice) → Fits types c l.shape v) × AreBound types ls vs bs
AreBound types ls vs bs = ⊥

-- a let adds these names, and changes no state
pub record LetAdds (types : Types) (binds : List Local) (core : CoreStart.Added) (source : SourceStart.Added) : Type 0 where
  pub names : AreBound types binds core.values source.names
  pub core_state : (state : RunState) → core.change state ≡ state
  pub source_state : (state : RunState) → source.change state ≡ state

abbrev pub LetsOpenAlike : Type 0
LetsOpenAlike =
    (setting : Setting) (registers : List Shape) (text : Text) (values : List Value) (bindings : Bindings) → Opens setting registers text values bindings
    → (names : Tables.Setting) → AreKnown (plainly setting) names → is_any names.allowed ≡ false
    → (place : Place) (p : Pat) (value : Exp) → (pattern_written p && written value) ≡ true → pattern_failures names p ≡ []
    → expression_failures value names [] ≡ [] → (let_bound setting place p value).faults ≡ []
    → (state : RunState) → RegistersFit setting.types registers state
    → EndsAlike (LetAdds setting.types (let_bound setting place p value).binds)
    (CoreStart.opening_run plain_making values (binding_opening place (let_bound setting place p value)) (begun 0 state))
    (SourceStart.opening_run (SourceStart.opening_world text bindings) (let_of place p value) (begun 0 state))

-- ---- initial values

-- an initial value adds no name, and gives the register of this place a value of this shape, in all harts
pub record RegisterAdds (types : Types) (r : ℕ) (s : Shape) (core : CoreStart.Added) (source : SourceStart.Added) : Type 0 where
  pub no_values : core.values ≡ []
  pub no_names : source.names ≡ []
  pub value : Value
  pub fit : fits types value s ≡ true
  pub core_state : (state : RunState) → core.change state ≡ set_all r value state
  pub source_state : (state : RunState) → source.change state ≡ set_all r value state

abbrev pub InitialsOpenAlike : Type 0
InitialsOpenAlike =
    (setting : Setting) (registers : List Shape) (text : Text) (values : List Value) (bindings : Bindings) → Opens setting registers text values bindings
    → (names : Tables.Setting) → AreKnown (plainly setting) names → is_any names.allowed ≡ false
    → (place : Place) (r : ℕ) (s : Shape) (value : Exp) → closed s ≡ true → written value ≡ true → expression_failures value names [] ≡ []
    → (initial_found setting s value).faults ≡ []
    → (state : RunState) → RegistersFit setting.types registers state
    → EndsAlike (RegisterAdds setting.types r s)
    (CoreStart.opening_run plain_making values (opening place (O.Register r) (initial_found setting s value).core) (begun 0 state))
    (SourceStart.opening_run (SourceStart.opening_world text bindings) (register_of r value) (begun 0 state))

-- a register of all harts gets a value of its shape
abbrev pub RegistersStillFit : Type 0
RegistersStillFit =
    (types : Types) (registers : List Shape) (state : RunState) (r : ℕ) (v : Value) (s : Shape) → RegistersFit types registers state
    → slice_get registers r ≡ Some s → fits types v s ≡ true → RegistersFit types registers (set_all r v state)
