-- New parts of registers, as the code that makes their code holds them.
use Rattle.std.specs.Prelude.{ℕ, List, [], ◌∷◌}
use Rattle.sail_core.specs.declared.targets.Way.{Way}
use Rattle.jib.specs.declared.code.Source.{Source}
use Rattle.jib.specs.declared.code.Source.TheVariants as R
use Rattle.jib.specs.declared.code.Instruction.{Instruction}
use Rattle.lowered_pieces.specs.Places.{Naming, Temp}
use Rattle.lowered_pieces.specs.Writes.{index_sources}
use Rattle.lowered_steps.specs.declared.setting.Setting.{Setting}
use Rattle.lowered_steps.specs.Setting.{kit_for}

abbrev pub one : Instruction → List Instruction
one i = i ∷ []

-- the value in hand at a place, by the number of its type
abbrev pub temp_at : Naming → ℕ → ℕ → Source
temp_at name n t = R.Slot (name (Temp n) t)

-- a value in hand, and the indexes that a way takes
abbrev pub whole_sources : Setting → Naming → Way → ℕ → ℕ → ℕ → List Source
whole_sources setting name way n q t = temp_at name q t ∷ index_sources setting.types.now (kit_for setting name) way n
