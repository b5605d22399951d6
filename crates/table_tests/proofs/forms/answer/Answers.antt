use Rattle.std.proofs.Common.{sym, ap, ◌∙◌}
use Rattle.sail_kinds.specs.Scopes.{Within}
use Rattle.table_tests.proofs.forms.answer.Goals as goal

pub normal-requires : goal.normal-requires
normal-requires c = λ name t h. c.requires name t (sym (ap (λ (w : Within). w.types name) c.new-scope.ensures) ∙ h)
