use Rattle.shape_meanings.proofs.Tests.{short_if_right, assert_right}
use Rattle.shape_meanings.proofs.Leaving.{typed_right, return_right, throw_right, exit_right}
use Rattle.shape_meanings.proofs.laws.tests_are_right.Goals as goal

pub returns-clause-short : goal.returns-clause-short
returns-clause-short c = short_if_right

pub returns-clause-asserts : goal.returns-clause-asserts
returns-clause-asserts c = assert_right

pub returns-clause-types : goal.returns-clause-types
returns-clause-types c = typed_right

pub returns-clause-returns : goal.returns-clause-returns
returns-clause-returns c = return_right

pub returns-clause-throws : goal.returns-clause-throws
returns-clause-throws c = throw_right

pub returns-clause-exits : goal.returns-clause-exits
returns-clause-exits c = exit_right
