use Rattle.mapping_ranks.proofs.Counting.{ranks}
use Rattle.mapping_ranks.proofs.laws.graphs_have_ranks.Goals as goal

pub returns : goal.returns
returns c = λ graph counts leads acyclic kept. ranks graph leads acyclic counts kept
