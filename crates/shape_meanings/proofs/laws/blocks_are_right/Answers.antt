use Rattle.shape_meanings.proofs.Groups.{tuple_right, list_right}
use Rattle.shape_meanings.proofs.Cases.{match_right}
use Rattle.shape_meanings.proofs.Blocks.{block_right, unit_block_right, evaluate_is, define_is}
use Rattle.shape_meanings.proofs.laws.blocks_are_right.Goals as goal

pub returns-clause-tuples : goal.returns-clause-tuples
returns-clause-tuples c = tuple_right

pub returns-clause-lists : goal.returns-clause-lists
returns-clause-lists c = list_right

pub returns-clause-matches : goal.returns-clause-matches
returns-clause-matches c = match_right

pub returns-clause-blocks : goal.returns-clause-blocks
returns-clause-blocks c = block_right

pub returns-clause-units : goal.returns-clause-units
returns-clause-units c = unit_block_right

pub returns-clause-steps : goal.returns-clause-steps
returns-clause-steps c = evaluate_is

pub returns-clause-lets : goal.returns-clause-lets
returns-clause-lets c = define_is
