use Rattle.lowered_ends.proofs.Known.{else_known, never_known}
use Rattle.lowered_ends.proofs.cells.is_numbered.Goals as goal

pub returns-in-Never : goal.returns-in-Never
returns-in-Never c =
    never_known c.args.setting.now.numbered.now c.args.typ.now c.in-Never.is

pub returns-in_ok-number-in_default : goal.returns-in_ok-number-in_default
returns-in_ok-number-in_default c =
    else_known c.args.setting.now.numbered.now c.args.typ.now c.in_default.not-Never c.in_ok-number-in_default.number c.in_ok-number-in_default.ensures
