use Rattle.std.proofs.Common.{◌∙◌, Bool, [], ap, refl, sym}
use Rattle.value_indices.specs.Steps.{bind}
use Rattle.value_indices.specs.Walking.{got, seen}
use Rattle.value_indices.specs.declared.indices.Indices.{Indices}
use Rattle.value_fits.specs.Fitting.{says}
use Rattle.wide_types.proofs.Turns.{once_got}
use Rattle.pattern_leaves.specs.Settings.{around_of}
use Rattle.pattern_leaves.proofs.Walked.{then_got}
use Rattle.expression_forms.specs.Spots.{gives, owes_itself, part_write, rewritten, spot_of, wrote}
use Rattle.expression_forms.specs.Ways.{owe_part, part_fits}
use Rattle.expression_forms.proofs.SpotForms.{wrote_in}
use Rattle.expression_forms.proofs.spots.write_part.Goals as goal

-- a part that owes at its own place
pub returns-in_ok-answer-clause-value : goal.returns-in_ok-answer-clause-value
returns-in_ok-answer-clause-value c =
    let around = around_of c.args.around.now in
    let x = c.args.reached.now in
    let n = c.args.is_nested in
    let i = c.args.value.now in
    let again = rewritten (spot_of around c.args.base.now) c.args.held.now in
    let owes = owe_part around c.args.place x n i in
    let w = seen c.args.walking.now in
    let v = seen c.owe_part.new.walking in
    c.gives.ensures around
    ∙ once_got again (λ (answer : Indices). wrote (says []) answer) (bind again gives) v c.in_ok-answer.answer refl c.in_ok-answer.ensures.value
    ∙ then_got owes (λ (t : Unit {0}). bind again gives) w v (got owes w) refl c.in_ok-owe_part.ensures
    ∙ ap (λ (b : Bool). got (part_write around c.args.place b x again n i) w) (sym (sym c.owes_itself.ensures ∙ c.if-owes_itself.true))

-- a field
pub returns-in_ok-answer-2-clause-value : goal.returns-in_ok-answer-2-clause-value
returns-in_ok-answer-2-clause-value c =
    let around = around_of c.args.around.now in
    let x = c.args.reached.now in
    let n = c.args.is_nested in
    let i = c.args.value.now in
    let again = rewritten (spot_of around c.args.base.now) c.args.held.now in
    let w = seen c.args.walking.now in
    let answer = c.in_ok-answer-2.answer in
    let is = ap (λ (b : Bool). part_write around c.args.place b x again n i) (sym c.owes_itself.ensures ∙ c.if-owes_itself.false) in
    wrote_in c.of_part.result around (λ a. wrote (part_fits a x n i) answer) _ c.of_part.ensures
    (once_got again (λ (gave : Indices). wrote (part_fits around x n i) gave) (part_write around c.args.place (owes_itself c.args.way) x again n i) w
    answer is c.in_ok-answer-2.ensures.value)
