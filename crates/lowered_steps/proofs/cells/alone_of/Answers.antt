use Rattle.std.proofs.Common.{sym, ap}
use Rattle.sail_core.specs.declared.targets.TargetKind.{TargetKind}
use Rattle.lowered_steps.specs.Cells.{alone}
use Rattle.lowered_steps.proofs.cells.alone_of.Goals as goal

pub returns-in-Register : goal.returns-in-Register
returns-in-Register c = ap (λ (k : TargetKind). alone c.args.number k) (sym c.in-Register.is)

pub returns-in-Variable : goal.returns-in-Variable
returns-in-Variable c = ap (λ (k : TargetKind). alone c.args.number k) (sym c.in-Variable.is)

pub returns-in-Part : goal.returns-in-Part
returns-in-Part c = ap (λ (k : TargetKind). alone c.args.number k) (sym c.in-Part.is)

pub returns-in-Tuple : goal.returns-in-Tuple
returns-in-Tuple c = ap (λ (k : TargetKind). alone c.args.number k) (sym c.in-Tuple.is)

pub returns-in-Call : goal.returns-in-Call
returns-in-Call c = ap (λ (k : TargetKind). alone c.args.number k) (sym c.in-Call.is)
