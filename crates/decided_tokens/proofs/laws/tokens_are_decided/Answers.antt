use Rattle.decided_tokens.proofs.Decided.{tokens_decided}
use Rattle.decided_tokens.proofs.laws.tokens_are_decided.Goals as goal

pub returns : goal.returns
returns c = λ signs end. tokens_decided signs end
