use Rattle.std.proofs.Common.{◌≡◌, drop}
use Rattle.std.specs.List.{list_any}
use Rattle.monomorph.specs.Found.{found_eq}
use Rattle.monomorph.specs.declared.found.Found.TheVariants as F
use Rattle.monomorph.proofs.found.has_instance.Given as goal

-- the rest decides
abbrev pub invariant-loop-other : goal.invariant-loop-other
invariant-loop-other l = list_any (found_eq (F.Function l.instance)) (drop l.other-index l.found) ≡ list_any (found_eq (F.Function l.instance)) l.found
