use Rattle.form_stands.proofs.Expressions.{expressions_stand}
use Rattle.form_stands.proofs.laws.expressions_stand.Goals as goal

pub returns : goal.returns
returns c = expressions_stand
