use Rattle.split_laws.proofs.Combinations.{present_counted}
use Rattle.split_laws.proofs.present_numbers_are_counted.Goals as goal

pub returns : goal.returns
returns c = present_counted
