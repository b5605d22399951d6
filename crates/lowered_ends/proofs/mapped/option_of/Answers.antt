use Rattle.std.proofs.Common.{◌∙◌, [], ◌∷◌, ◌++◌, sym, ap}
use Rattle.lowered_ends.proofs.Sizes.{option_is}
use Rattle.size_values.specs.declared.sized.Sized.{Sized}
use Rattle.size_values.specs.declared.sized.Sized.TheVariants as Z
use Rattle.lowered_ends.proofs.mapped.option_of.Goals as goal

pub returns : goal.returns
returns c =
    λ types t is. (λ i. Z.Named 0 (c.new-numbers.ensures i) ((c.in_ok-push.ensures.pushed ∙ (λ j. c.new-arguments.ensures j ++ c.in_ok-copy_sized.ensures j
    ∷ [])) i)) ∙ ap (λ (u : Sized). Z.Named 0 [] (u ∷ [])) is ∙ sym (option_is types t)
