-- What a text means of itself, as an engine: the answers of the program are told against it (Sail language manual, "Functions", "Registers").
use Rattle.std.specs.Prelude.{◌≡◌, ◌<◌, ◌≤◌, ℕ, List}
use Rattle.sail_types.specs.Numbers.{Positive}
use Rattle.sail_syntax.specs.declared.definitions.Def.{Def}
use Rattle.model_state.specs.Folds.{Meaning}
use Rattle.sail_meaning.specs.Start.{text_meaning}
use Rattle.sail_compile.specs.Engines.{Leaves, Meant}
use Rattle.sail_compile.specs.Meanings.{NumbersCycles}
use Rattle.safe_models.specs.Safe.{Cycles, RunsSafely, meant_of}

-- what takes the steps is the text's own meaning: top-level lets and initial values, `reset` and `step` as the definitions say them
pub record TextMeans (text : List Def) (m : Meaning) : Type 0 where
  -- the numbers of its cycles of calls, by which measures are looked at
  pub cycle : Cycles
  pub numbered : NumbersCycles text cycle
  pub is : m ≡ text_meaning (meant_of text cycle)
  -- and no whole run of 1 to 8 harts is stuck, from any state in which their registers belong to their types
  pub safe : (past : Positive) (count : ℕ) → 0 < count → count ≤ 8 → RunsSafely text cycle past count

-- the engine that means this by each text, and may leave these
abbrev pub source : Leaves → Meant
source left = record { means = TextMeans; leaves = left }
