use Rattle.std.proofs.Common.{sym, ap}
use Rattle.sail_core.specs.declared.targets.Target.{out-Target}
use Rattle.sail_core.specs.declared.tree.Callee.{Callee}
use Rattle.lowered_pieces.specs.Writes.{called_spot}
use Rattle.lowered_ends.proofs.targets.called_of.Goals as goal

pub returns-in-Function : goal.returns-in-Function
returns-in-Function c =
    ap (λ (f : Callee). called_spot (out-Target c.args.target.now).place (out-Target c.args.target.now).number c.args.arguments c.args.writer.number f)
    (sym c.in-Function.is)

pub returns-in-Row : goal.returns-in-Row
returns-in-Row c =
    ap (λ (f : Callee). called_spot (out-Target c.args.target.now).place (out-Target c.args.target.now).number c.args.arguments c.args.writer.number f)
    (sym c.in-Row.is)

pub returns-in-Constructor : goal.returns-in-Constructor
returns-in-Constructor c =
    ap (λ (f : Callee). called_spot (out-Target c.args.target.now).place (out-Target c.args.target.now).number c.args.arguments c.args.writer.number f)
    (sym c.in-Constructor.is)

pub returns-in-Converts : goal.returns-in-Converts
returns-in-Converts c =
    ap (λ (f : Callee). called_spot (out-Target c.args.target.now).place (out-Target c.args.target.now).number c.args.arguments c.args.writer.number f)
    (sym c.in-Converts.is)

pub returns-in-Applies : goal.returns-in-Applies
returns-in-Applies c =
    ap (λ (f : Callee). called_spot (out-Target c.args.target.now).place (out-Target c.args.target.now).number c.args.arguments c.args.writer.number f)
    (sym c.in-Applies.is)
