use Rattle.node_counts.proofs.Apart.{numbers_are_given_once}
use Rattle.node_counts.proofs.laws.numbers_are_given_once.Goals as goal

pub returns : goal.returns
returns c = numbers_are_given_once
