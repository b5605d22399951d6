use Rattle.std.proofs.Common.{◌≡◌, drop}
use Rattle.call_notes.specs.Ends.{any_never}
use Rattle.call_notes.proofs.ends.any_never.Given as goal

-- the rest decides
abbrev pub invariant-loop-value : goal.invariant-loop-value
invariant-loop-value l = any_never (drop l.value-index l.values) ≡ any_never l.values
