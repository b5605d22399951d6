use Rattle.jib_laws.proofs.BelongLaws as BelongLaws
use Rattle.jib_laws.proofs.OtherLaws as OtherLaws
use Rattle.jib_laws.proofs.values_belong.Goals as goal

pub returns-clause-places : goal.returns-clause-places
returns-clause-places c = BelongLaws.places_hold c.constants_belong.ensures

pub returns-clause-ends : goal.returns-clause-ends
returns-clause-ends c = BelongLaws.ends_hold c.constants_belong.ensures

pub returns-clause-others : goal.returns-clause-others
returns-clause-others c = OtherLaws.others_stay
