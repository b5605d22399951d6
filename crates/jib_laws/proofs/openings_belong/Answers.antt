use Rattle.jib_laws.proofs.BelongLaws as BelongLaws
use Rattle.jib_laws.proofs.OpeningLaws as OpeningLaws
use Rattle.jib_laws.proofs.openings_belong.Goals as goal

pub returns-clause-places : goal.returns-clause-places
returns-clause-places c = BelongLaws.pure_places_hold c.constants_belong.ensures

pub returns-clause-ends : goal.returns-clause-ends
returns-clause-ends c = BelongLaws.pure_ends_hold c.constants_belong.ensures

pub returns-clause-openings : goal.returns-clause-openings
returns-clause-openings c = OpeningLaws.openings_hold c.constants_belong.ensures

pub returns-clause-initial : goal.returns-clause-initial
returns-clause-initial c = OpeningLaws.initial_holds c.constants_belong.ensures
