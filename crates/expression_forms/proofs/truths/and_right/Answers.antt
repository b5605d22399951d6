use Rattle.std.proofs.Common.{◌∙◌, ap, ◌∷◌, [], false}
use Rattle.sail_types.specs.declared.numbers.Con.TheVariants as C
use Rattle.value_indices.specs.Walking.{seen}
use Rattle.expression_forms.specs.Truths.{both}
use Rattle.expression_forms.proofs.Forms.{right_truth}
use Rattle.expression_forms.proofs.truths.and_right.Goals as goal

pub returns-in_ok-both-in-Truth-clause-value : goal.returns-in_ok-both-in-Truth-clause-value
returns-in_ok-both-in-Truth-clause-value c =
    right_truth c.args.place both (C.Truth false) c.args.left c.in-Truth.condition (C.All c.in_ok-both-in-Truth.both) c.args.right.now
    (seen c.args.walking.now) c.in-Truth.is
    (ap C.All (c.in_ok-both-in-Truth.ensures ∙ (λ j. c.args.left ∷ c.in_ok-copy_con-in-Truth.ensures j ∷ [])))
