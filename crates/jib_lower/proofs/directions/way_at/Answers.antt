use Rattle.std.proofs.lemmas.Result.{IfOk-weaker}
use Rattle.jib_lower.specs.Left.{no_cycle, no_direction, way_left}
use Rattle.jib_lower.proofs.Unmade.{exit_more, last_more}
use Rattle.jib_lower.proofs.directions.way_at.Goals as goal

pub make_way-requires : goal.make_way-requires
make_way-requires c = record { is = c.requires.is; no = c.requires.no }

pub returns-clause-made : goal.returns-clause-made
returns-clause-made c =
    IfOk-weaker c.make_way.result _ _ (λ made h. record {
      direction = c.in_ok-direction.direction.now;
      cycle = c.in_ok-cycle.cycle;
      found = c.in_ok-direction.ensures.found;
      turned = c.in_ok-cycle.ensures.found;
      is = h;
    }) c.make_way.ensures.made

pub returns-clause-left : goal.returns-clause-left
returns-clause-left c = last_more c.make_way.result (way_left c.in_ok-direction.ensures.found c.in_ok-cycle.ensures.found) c.make_way.ensures.left

pub returns-in_err-direction-clause-left : goal.returns-in_err-direction-clause-left
returns-in_err-direction-clause-left c = exit_more _ _ c.from_residual.ensures.1 no_direction c.in_err-direction.ensures.left

pub returns-in_err-cycle-clause-left : goal.returns-in_err-cycle-clause-left
returns-in_err-cycle-clause-left c = exit_more _ _ c.from_residual-in_err-cycle.ensures.1 no_cycle c.in_err-cycle.ensures.left
