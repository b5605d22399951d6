use Rattle.lowered_ends.specs.Around.{node_for}
use Rattle.jib_lower.specs.Functions.{measure_able}
use Rattle.jib_lower.proofs.Basics.{and_left, and_right}
use Rattle.jib_lower.specs.Left.{not_called, not_event}
use Rattle.jib_lower.proofs.Unmade.{exit_more}
use Rattle.jib_lower.proofs.functions.put_both.Goals as goal

pub put_called-requires : goal.put_called-requires
put_called-requires c =
    record {
      lowered = λ name. and_right (measure_able c.args.walk.now name c.args.function.now) (node_for c.args.walk.now.setting.now c.args.walk.now.around.now
          name c.args.function.now.body).ok (c.requires.able name);
      measure = λ name. and_left (measure_able c.args.walk.now name c.args.function.now) (node_for c.args.walk.now.setting.now c.args.walk.now.around.now
          name c.args.function.now.body).ok (c.requires.able name);
    }

pub put_event-requires : goal.put_event-requires
put_event-requires c =
    record {
      lowered = λ name. and_right (measure_able c.args.walk.now name c.args.function.now) (node_for c.args.walk.now.setting.now c.args.walk.now.around.now
          name c.args.function.now.body).ok (c.requires.able name);
    }

pub returns-clause-made : goal.returns-clause-made
returns-clause-made c =
    record {
      able = c.requires.able;
      typed = c.requires.typed;
      called_coding = c.in_ok-called.called;
      called_made = c.in_ok-called.ensures;
      called_is = c.in_ok-entered.ensures.made;
      event_coding = c.in_ok-event.event;
      event_made = c.in_ok-event.ensures;
      event_is = c.in_ok-begun.ensures.made;
    }

pub returns-in_err-entered-clause-left : goal.returns-in_err-entered-clause-left
returns-in_err-entered-clause-left c = exit_more _ _ c.from_residual-in_err-entered.ensures.1
    (λ none. not_called (record { coding = c.in_ok-called.called; made = c.in_ok-called.ensures; none = none })) c.in_err-entered.ensures.left

pub returns-in_err-begun-clause-left : goal.returns-in_err-begun-clause-left
returns-in_err-begun-clause-left c = exit_more _ _ c.from_residual-in_err-begun.ensures.1
    (λ none. not_event (record { coding = c.in_ok-event.event; made = c.in_ok-event.ensures; none = none })) c.in_err-begun.ensures.left
