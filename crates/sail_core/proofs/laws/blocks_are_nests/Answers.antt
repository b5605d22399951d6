use Rattle.sail_core.proofs.Nests.{blocks_are_nests, blocks_declare}
use Rattle.sail_core.proofs.laws.blocks_are_nests.Goals as goal

pub returns-clause-lets : goal.returns-clause-lets
returns-clause-lets c = blocks_are_nests

pub returns-clause-vars : goal.returns-clause-vars
returns-clause-vars c = blocks_declare
