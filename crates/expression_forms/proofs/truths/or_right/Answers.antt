use Rattle.std.proofs.Common.{◌∙◌, ap, ◌∷◌, [], true}
use Rattle.sail_types.specs.declared.numbers.Con.TheVariants as C
use Rattle.value_indices.specs.Walking.{seen}
use Rattle.expression_forms.specs.Truths.{either}
use Rattle.expression_forms.proofs.Forms.{right_truth}
use Rattle.expression_forms.proofs.truths.or_right.Goals as goal

pub returns-in_ok-either-in-Truth-clause-value : goal.returns-in_ok-either-in-Truth-clause-value
returns-in_ok-either-in-Truth-clause-value c =
    right_truth c.args.place either (C.Truth true) c.args.left c.in-Truth.condition (C.Any c.in_ok-either-in-Truth.either) c.args.right.now
    (seen c.args.walking.now) c.in-Truth.is
    (ap C.Any (c.in_ok-either-in-Truth.ensures ∙ (λ j. c.args.left ∷ c.in_ok-copy_con-in-Truth.ensures j ∷ [])))
