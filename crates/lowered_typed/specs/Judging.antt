-- What is around the code of a function, as the code that decides of it holds it.
use Rattle.std.specs.Prelude.{ℕ, nat_le, nat_lt, Bool, false, ◌&&◌, List, Option, Some, None, slice_get, if◌then◌else◌}
use Rattle.sail_core.specs.declared.tree.Core.{Core}
use Rattle.sail_core.specs.declared.patterns.Arm.{Arm}
use Rattle.size_values.specs.declared.sized.Sized.{Sized}
use Rattle.sized_nodes.specs.declared.trees.Case.{Case}
use Rattle.lowered_pieces.specs.Forms.{Callees}
use Rattle.lowered_pieces.specs.Tables.{Tables}
use Rattle.lowered_steps.specs.declared.setting.Setting.{Setting}
use Rattle.lowered_steps.specs.Setting.{number_for, tables_for, ways_for}
use Rattle.lowered_ends.specs.Around.{callees_of}
use Rattle.lowered_validity.specs.Right.{Signs}
use Rattle.lowered_validity.specs.Typing.{Typing, arm_right, cases_right, typing}
use Rattle.lowered_typed.specs.declared.signs.Signs.{Signs as SignsHeld}
use Rattle.lowered_typed.specs.declared.signs.Called.{Called}
use Rattle.lowered_typed.specs.declared.signs.Judge.{Judge}

-- of what is called, where it is of the same cycle or a lower one
abbrev pub parameters_in : ℕ → Option Called → Option (List ℕ)
parameters_in cycle None = None
parameters_in cycle (Some c) = if nat_le c.cycle cycle then Some c.parameters else None

-- of a direction of a mapping, which may be asked where it is made, and is of the same cycle or a lower one
abbrev pub turned_in : ℕ → Option (Option ℕ) → Bool
turned_in cycle None = false
turned_in cycle (Some None) = false
turned_in cycle (Some (Some n)) = nat_le n cycle

-- and where its function has a lower number than this one
abbrev pub is_asked : Setting → SignsHeld → ℕ → Bool
is_asked setting s d = turned_in s.cycle (slice_get s.turned.now d) && nat_lt (ways_for setting d).function s.below

abbrev pub signs_of : Setting → SignsHeld → Signs
signs_of setting s = record {
  table = s.shell.now.types;
  exception = s.shell.now.exception;
  registers = s.shell.now.registers;
  lets = s.lets.now;
  result = s.result;
  is_pure = s.is_pure;
  parameters = λ p. parameters_in s.cycle (slice_get s.called.now p);
  directions = is_asked setting s;
}

module _ (j : Judge) where
  abbrev pub number_here : Sized → ℕ
  number_here = number_for j.setting.now

  abbrev pub callees_here : Callees
  callees_here = callees_of j.setting.now j.around.now

  abbrev pub tables_here : Tables
  tables_here = tables_for j.setting.now j.around.now.instances.now

  abbrev pub signs_here : Signs
  signs_here = signs_of j.setting.now j.signs.now

  abbrev pub typed : Core → Typing
  typed = typing j.setting.now.types.now number_here callees_here tables_here signs_here

  abbrev pub cases_typed : (Case → Bool) → List Case → Bool
  cases_typed = cases_right j.setting.now.types.now number_here callees_here tables_here signs_here

  abbrev pub arm_typed : Arm → List Sized → Bool
  arm_typed = arm_right j.setting.now.types.now number_here callees_here tables_here signs_here
