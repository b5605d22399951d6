use Rattle.std.proofs.Common.{ap, sym}
use Rattle.std.proofs.lemmas.Result.{IfOk-weaker}
use Rattle.lowered_steps.proofs.Lists.{head_of, none_of, others}
use Rattle.jib_lower.specs.Entering.{place_in}
use Rattle.jib_lower.proofs.Entered.{place_here, place_past}
use Rattle.jib_lower.proofs.entering.+place_in.Goals as goal

pub returns-in-empty : goal.returns-in-empty
returns-in-empty t c = ap (λ ds. place_in ds c.args.direction) (sym (none_of c.args.order.now c.in-empty.len_below))

pub returns-then-direction-first : goal.returns-then-direction-first
returns-then-direction-first t c =
    place_here c.args.direction _ (others c.args.order.now) c.args.order.now (head_of c.args.order.now _ c.in-len1-up.len_at_least) c.if-direction-first.true

pub returns-in_ok-behind-in-len1-up : goal.returns-in_ok-behind-in-len1-up
returns-in_ok-behind-in-len1-up t c =
    IfOk-weaker c.further.result _ _
    (λ place e. place_past c.args.direction _ (others c.args.order.now) c.args.order.now c.in_ok-behind-in-len1-up.behind place
    (head_of c.args.order.now _ c.in-len1-up.len_at_least) c.if-direction-first.false c.in_ok-behind-in-len1-up.ensures e) c.further.ensures
