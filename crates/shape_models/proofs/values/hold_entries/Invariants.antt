use Rattle.std.proofs.Common.{◌≡◌, ℕ, List}
use Rattle.std.specs.HashMap.{get_by_text}
use Rattle.shape_models.specs.Models.{meant_in}
use Rattle.shape_models.proofs.values.hold_entries.Given as goal

abbrev pub invariant-loop-entry : goal.invariant-loop-entry
invariant-loop-entry l = (name : List ℕ) → get_by_text l.values name ≡ meant_in l.yielded name
