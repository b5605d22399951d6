use Rattle.std.proofs.Common.{◌∙◌, [], ap, sym}
use Rattle.value_indices.specs.Walking.{got, run, seen}
use Rattle.value_indices.proofs.Walks.{got_bind, got_give}
use Rattle.value_fits.specs.Fitting.{says}
use Rattle.call_notes.specs.Ends.{wrong_value}
use Rattle.expression_forms.specs.Spots.{gives, wrote}
use Rattle.expression_forms.proofs.spots.wrong_write.Goals as goal

pub returns-clause-value : goal.returns-clause-value
returns-clause-value c around =
    let place = c.args.place in
    let w = seen c.args.walking.now in
    c.gives.ensures around ∙ ap (λ i. wrote (says []) i) c.in_ok-answer.ensures.value
    ∙ sym (got_bind (wrong_value place) gives w ∙ got_give (wrote (says []) (got (wrong_value place) w)) (run (wrong_value place) w))
