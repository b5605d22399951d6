use Rattle.std.proofs.Common.{rules, sym, FitsSigned}
use Rattle.std.specs.Int.{w128, IsNonZero}
use Rattle.std.proofs.Math.Facts.{to_z-of_z}
use Rattle.builtins.proofs.Past.{divided_past}
use Rattle.builtins.proofs.integers.divided.Goals as goal

pub returns-in-None : goal.returns-in-None
returns-in-None c =
    let some : IsNonZero w128 c.args.j = search rules in
    let i_fits : FitsSigned w128 c.args.i = search rules in
    let j_fits : FitsSigned w128 c.args.j = search rules in
    let none = rw (to_z-of_z {w = w128} {z = c.args.i} i_fits, to_z-of_z {w = w128} {z = c.args.j} j_fits) at c.in-None.ensures in
    sym (divided_past _ c.args.i c.args.j none some)
