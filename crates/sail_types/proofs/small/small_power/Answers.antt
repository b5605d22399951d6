use Rattle.std.proofs.Common.{◌≤ℤ◌, ◌<ℤ◌, pos, rules}
use Rattle.sail_types.proofs.Limits.{shifted}
use Rattle.sail_types.proofs.small.small_power.Goals as goal

pub returns-then-exponent-lt127 : goal.returns-then-exponent-lt127
returns-then-exponent-lt127 c =
    let low : pos 0 ≤ℤ c.args.exponent = search rules in
    let high : c.args.exponent <ℤ pos 127 = search rules in
    shifted c.args.exponent low high
