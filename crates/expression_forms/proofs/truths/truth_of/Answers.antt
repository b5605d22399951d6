use Rattle.value_indices.specs.Walking.{seen}
use Rattle.expression_forms.proofs.Forms.{own_truth}
use Rattle.expression_forms.proofs.truths.truth_of.Goals as goal

pub returns-in_ok-condition-in-Truth-clause-value : goal.returns-in_ok-condition-in-Truth-clause-value
returns-in_ok-condition-in-Truth-clause-value c =
    own_truth c.args.place c.args.value.now c.in-Truth.condition c.in_ok-condition-in-Truth.condition (seen c.args.walking.now) c.in-Truth.is
    c.in_ok-condition-in-Truth.ensures
