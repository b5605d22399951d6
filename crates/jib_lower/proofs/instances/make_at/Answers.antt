use Rattle.std.proofs.lemmas.Result.{IfOk-weaker}
use Rattle.std.proofs.Common.{length}
use Rattle.lowered_steps.proofs.Lists.{got_item, lt_false}
use Rattle.jib_lower.specs.Left.{not_entered, pair_left}
use Rattle.jib_lower.proofs.Falling.{past_none}
use Rattle.jib_lower.proofs.Unmade.{last_more}
use Rattle.jib_lower.proofs.instances.make_at.Goals as goal

pub returns-in-Some-clause-made : goal.returns-in-Some-clause-made
returns-in-Some-clause-made c = IfOk-weaker c.make_instance.result _ _ (λ both h. record {
  entered = c.in-Some.entered.now;
  there = got_item c.args.model.now.called.now c.args.at c.in-Some.entered.now c.in-Some.ensures.lookup.0 c.in-Some.ensures.lookup.1;
  made = h;
}) c.make_instance.ensures.made

pub returns-in-Some-clause-left : goal.returns-in-Some-clause-left
returns-in-Some-clause-left c =
    last_more c.make_instance.result
    (pair_left (got_item c.args.model.now.called.now c.args.at c.in-Some.entered.now c.in-Some.ensures.lookup.0 c.in-Some.ensures.lookup.1))
    c.make_instance.ensures.left

pub returns-in-None-clause-left : goal.returns-in-None-clause-left
returns-in-None-clause-left c =
    not_entered (past_none c.args.model.now.called.now c.args.at
    (lt_false c.args.at (length c.args.model.now.called.now) c.in-None.ensures.lookup.0))
