use Rattle.std.proofs.Common.{take, ap, ◌∙◌}
use Rattle.bidir_check.proofs.standing.stand.Goals as goal

pub push_from-requires-clause-standing : goal.push_from-requires-clause-standing
push_from-requires-clause-standing g c = c.pop_to.ensures ∙ (ap (take c.common-alike.result) c.requires ∙ c.common-alike.ensures.alike)
