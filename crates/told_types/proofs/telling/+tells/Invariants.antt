use Rattle.std.proofs.Common.{◌≡◌, ◌+◌, ◌*◌, drop}
use Rattle.size_values.specs.Numbers.{meant}
use Rattle.told_sizes.specs.Exact.{all_settle, typ_tells}
use Rattle.told_types.proofs.telling.+tells.Given as goal

-- the rest decides
abbrev pub invariant-all_tell-loop-part : goal.invariant-all_tell-loop-part
invariant-all_tell-loop-part l =
    all_settle (typ_tells l.types (meant l.variables) l.depth) (drop l.part-index l.parts) l.count l.indices l.constants
    ≡ all_settle (typ_tells l.types (meant l.variables) l.depth) l.parts l.count l.indices l.constants

-- a depth counts three times, so that the calls between two depths count down too
abbrev pub decreases-typ_tells : goal.decreases-typ_tells
decreases-typ_tells l = 3 * l.depth

abbrev pub decreases-form_tells : goal.decreases-form_tells
decreases-form_tells l = 3 * l.depth + 2

abbrev pub decreases-all_tell : goal.decreases-all_tell
decreases-all_tell l = 3 * l.depth + 1
