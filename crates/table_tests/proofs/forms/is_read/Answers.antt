use Rattle.std.proofs.Common.{◌≡◌, sym, ◌∙◌, Some, None}
use Rattle.table_tests.proofs.forms.is_read.Goals as goal

pub answer-answer-requires : goal.answer-answer-requires
answer-answer-requires c = λ name t h. let none : None ≡ Some t = sym (c.new-types.ensures.types name) ∙ h in absurd (cc)
