use Rattle.std.proofs.Common.{◌∙◌, le-ltb}
use Rattle.sail_base.proofs.Words.{top_of, top_of_none}
use Rattle.sail_base.proofs.word.Word.top.Goals as goal

pub returns-then-self-gt0 : goal.returns-then-self-gt0
returns-then-self-gt0 c = top_of _ _ _ c.self.view_is c.if-self-gt0.true

pub returns-else-self-gt0 : goal.returns-else-self-gt0
returns-else-self-gt0 c = le-ltb _ _ c.if-self-gt0.false ∙ top_of_none _ _ _ c.self.view_is c.if-self-gt0.false
