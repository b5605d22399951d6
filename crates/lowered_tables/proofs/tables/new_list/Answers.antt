use Rattle.std.proofs.Common.{◌∙◌, List, [], ◌∷◌, ◌++◌, ap}
use Rattle.size_values.specs.declared.sized.Sized.{Sized}
use Rattle.size_values.specs.declared.sized.Sized.TheVariants as S
use Rattle.lowered_tables.proofs.tables.new_list.Goals as goal

pub returns : goal.returns
returns c = c.in_ok-push.ensures.pushed ∙ ap (λ (us : List Sized). us ++ S.Never ∷ []) c.new-numbered.ensures
