use Rattle.std.proofs.Common.{sym}
use Rattle.sail_types.proofs.Counts.{not_as_long}
use Rattle.sail_types.proofs.shaping.+may_share.Goals as goal

pub parts_may_share-returns-then-a-b : goal.parts_may_share-returns-then-a-b
parts_may_share-returns-then-a-b t c = sym (not_as_long c.args.a.now c.args.b.now (λ e. c.if-a-b.true (sym e)))
