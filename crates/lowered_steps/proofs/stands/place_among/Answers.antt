use Rattle.std.proofs.Common.{◌∙◌, sym}
use Rattle.lowered_steps.proofs.Standing.{place_here, place_later}
use Rattle.lowered_steps.proofs.stands.place_among.Goals as goal

pub returns-then-same_name : goal.returns-then-same_name
returns-then-same_name c =
    place_here c.args.names.now c.loop-named.named-index c.named-item.result c.args.name.now c.loop-named-test.true c.named-item.is
    (sym c.same_name.ensures ∙ c.if-same_name.true) ∙ c.loop-named.invariant

pub loop-named-preserved : goal.loop-named-preserved
loop-named-preserved c =
    place_later c.args.names.now c.loop-named.named-index c.named-item.result c.args.name.now c.loop-named-test.true c.named-item.is
    (sym c.same_name.ensures ∙ c.if-same_name.false) ∙ c.loop-named.invariant
