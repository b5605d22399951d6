use Rattle.std.proofs.Common.{sym, ap}
use Rattle.lowered_ends.proofs.Notes.{noted_as, noted_none}
use Rattle.lowered_ends.specs.Noted.{named_notes}
use Rattle.sail_core.specs.declared.tree.Statement.{Statement}
use Rattle.lowered_ends.proofs.noted.list_named.Goals as goal

pub returns-in-Define : goal.returns-in-Define
returns-in-Define c =
    noted_as c.list_given.result _ _ _ _ (ap (λ (x : Statement). named_notes c.args.setting.now c.args.giver x) (sym c.in-Define.is)) c.list_given.ensures

pub returns-in-Evaluate : goal.returns-in-Evaluate
returns-in-Evaluate c =
    noted_none _ _ (ap (λ (x : Statement). named_notes c.args.setting.now c.args.giver x) (sym c.in-Evaluate.is))

pub returns-in-Declare : goal.returns-in-Declare
returns-in-Declare c =
    noted_none _ _ (ap (λ (x : Statement). named_notes c.args.setting.now c.args.giver x) (sym c.in-Declare.is))
