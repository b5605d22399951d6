-- What follows of a text that the tables and shapes accept.
use Rattle.std.specs.Prelude.{◌≡◌, ℕ, List, [], map, Option, None}
use Rattle.sail_base.specs.declared.place.Place.{Place}
use Rattle.sail_syntax.specs.declared.definitions.Def.{Def}
use Rattle.sail_types.specs.declared.shapes.Shape.{Shape}
use Rattle.sail_types.specs.declared.values.Value.{Value}
use Rattle.model_state.specs.RunState.{RunState}
use Rattle.sail_core.specs.declared.model.CoreModel.{CoreModel}
use Rattle.sail_core.specs.declared.tree.Core.{Core}
use Rattle.sail_core.specs.Making.{World}
use Rattle.sail_core.specs.Program.{plain}
use Rattle.sail_core.specs.Start.{lets_of}
use Rattle.core_numbers.specs.Numbers.{numbered}
use Rattle.sail_tables.specs.Refused.{IsAccepted}
use Rattle.shape_rules.specs.declared.locals.Local.{Local}
use Rattle.shapes.specs.Failures.{all_lets, refusal}
use Rattle.shapes.specs.Resolved.{resolved}
use Rattle.shapes.specs.Tabled.{tabled_of}
use Rattle.shape_meanings.specs.Keeping.{FitAll, Reach}
use Rattle.shape_meanings.specs.Whole.{Choice}
use Rattle.known_texts.specs.Written.{IsWritten}
use Rattle.shape_progress.specs.Checks.{Table}
use Rattle.shape_progress.specs.Rules.{IsShaped}
use Rattle.model_progress.specs.Checked.{checked_openings}
use Rattle.model_progress.specs.Shaped.{Common, ModelHas, common_of}
use Rattle.model_progress.specs.Progress.{EventsCome, IsFit, OpeningsGo, ResetsCome}
use Rattle.text_progress.specs.Manners.{HasManners}

-- the numbers of a definition's nodes are for other readings
abbrev pub NumbersShapeNothing : Type 0
NumbersShapeNothing =
    (n : ℕ) (w : World Value) (reach : Reach) (s : Shape) (c : Core) (k : ℕ) → IsShaped n w reach s c → IsShaped n w reach s (numbered c k).it

-- the shapes of the names that the top-level lets of a text bind
abbrev pub let_shapes : List Def → List Shape
let_shapes text = map (λ (l : Local). l.shape) (all_lets (tabled_of text) text)

-- the core of a text, by the cycle of calls that each function is in
abbrev pub core_of : List Def → (List ℕ → Option ℕ) → CoreModel
core_of text cycle = resolved (tabled_of text) cycle text

abbrev pub around_core : List Def → (List ℕ → Option ℕ) → Common
around_core text cycle = common_of (core_of text cycle) (let_shapes text)

-- each function, direction and opening of the core of a text that is as the grammar has it, that the tables accept and that nothing is refused for in
-- shapes, stands by the rules of shapes
abbrev pub AcceptedTextsStand : Type 0
AcceptedTextsStand =
    (text : List Def) (end : Place) (cycle : List ℕ → Option ℕ) → IsAccepted text end → refusal (tabled_of text) text ≡ None → IsWritten text
    → HasManners text → (rank : ℕ → ℕ) × ModelHas (around_core text cycle) (core_of text cycle) rank

-- nothing of the core of a text is stuck, but where a condition on sizes or numbers fails: its openings come to values of their shapes, and where they
-- have, its harts, once reset, take step after step
abbrev pub CoreGoesOn : List Def → (List ℕ → Option ℕ) → Type 0
CoreGoesOn text cycle =
    (t : Table) → t.types ≡ (tabled_of text).types → (state : RunState) → IsFit (around_core text cycle) state
    → OpeningsGo (around_core text cycle) (checked_openings t (core_of text cycle).openings [] state)
    × (((c : Choice) → FitAll (tabled_of text).types c (let_shapes text) (lets_of plain (core_of text cycle)))
    → ((entry : ℕ) (harts : List ℕ) → ResetsCome t (core_of text cycle) entry harts state)
    × ((schedule : List ℕ) → EventsCome t (core_of text cycle) schedule state))

-- so it goes on
abbrev pub AcceptedTextsGoOn : Type 0
AcceptedTextsGoOn =
    (text : List Def) (end : Place) (cycle : List ℕ → Option ℕ) → IsAccepted text end → refusal (tabled_of text) text ≡ None → IsWritten text
    → HasManners text → CoreGoesOn text cycle
