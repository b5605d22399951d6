use Rattle.std.proofs.Common.{◌≡◌, ◌+◌, ◌*◌, drop}
use Rattle.size_values.specs.Numbers.{meant}
use Rattle.told_sizes.specs.Exact.{all_settle, typ_settles}
use Rattle.told_types.proofs.settling.+settles.Given as goal

-- the rest decides
abbrev pub invariant-all_settle-loop-part : goal.invariant-all_settle-loop-part
invariant-all_settle-loop-part l =
    all_settle (typ_settles l.types (meant l.variables) l.depth) (drop l.part-index l.parts) l.count l.indices l.constants
    ≡ all_settle (typ_settles l.types (meant l.variables) l.depth) l.parts l.count l.indices l.constants

-- a depth counts three times, so that the calls between two depths count down too
abbrev pub decreases-typ_settles : goal.decreases-typ_settles
decreases-typ_settles l = 3 * l.depth

abbrev pub decreases-form_settles : goal.decreases-form_settles
decreases-form_settles l = 3 * l.depth + 2

abbrev pub decreases-all_settle : goal.decreases-all_settle
decreases-all_settle l = 3 * l.depth + 1
