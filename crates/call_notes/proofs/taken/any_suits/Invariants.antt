use Rattle.std.proofs.Common.{◌≡◌, drop}
use Rattle.call_notes.specs.Taken.{any_suits}
use Rattle.call_notes.proofs.taken.any_suits.Given as goal

-- the rest decides
abbrev pub invariant-loop-member : goal.invariant-loop-member
invariant-loop-member l = any_suits l.types l.values (drop l.member-index l.members) ≡ any_suits l.types l.values l.members
