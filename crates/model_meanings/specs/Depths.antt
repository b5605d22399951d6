-- In a whole model names mean the same on both sides, however many calls may be inside one another: so each call does.
use Rattle.std.specs.Prelude.{ℕ, List, Option}
use Rattle.sail_types.specs.declared.shapes.Shape.{Shape}
use Rattle.sail_types.specs.declared.values.Value.{Value}
use Rattle.sail_kinds.specs.Scopes.{Within}
use Rattle.sail_core.specs.Numbers.{Givens}
use Rattle.sail_meaning.specs.Calls as Source
use Rattle.sail_meaning.specs.Text.{Callee}
use Rattle.shape_rules.specs.declared.callees.Candidate.{Candidate}
use Rattle.shape_rules.specs.Scopes.{Setting, answering, thrown_shape}
use Rattle.shape_meanings.specs.Worlds.{AnswerBelow, Describes, KeepsCall}
use Rattle.model_meanings.specs.Callees.{CandidateStands, Model, core_world, source_world, standing_in}
use Rattle.model_meanings.specs.Models.{ModelIs}

-- at each depth of calls both worlds are described, in whichever types a piece can name, and whatever is around it
abbrev pub WorldsAreDescribed : Type 0
WorldsAreDescribed =
    (setting : Setting) (registers : List Shape) (m : Model) → ModelIs setting registers m
    → (depth : ℕ) (within : Within) (answer : Option Shape) → AnswerBelow answer → (active : List (ℕ × ℕ)) (numbers : Givens) (vs : List Value)
    → Describes (answering answer (standing_in within setting)) registers (core_world m depth active numbers vs) (source_world m depth active within numbers)

-- a call of a candidate keeps shapes, and does in the core what a call of its callee does in the text: state, ticks, accesses and end
abbrev pub CallsAreAlike : Type 0
CallsAreAlike =
    (setting : Setting) (registers : List Shape) (m : Model) → ModelIs setting registers m
    → (f : Candidate) (callee : Callee) → CandidateStands setting m f callee
    → (depth : ℕ) (active : List (ℕ × ℕ)) (numbers : Givens) (vs : List Value)
    → KeepsCall setting.types registers (thrown_shape setting) (core_world m depth active numbers vs)
    (Source.applied m.source (Source.calls_within m.source depth) active) f callee
