use Rattle.std.proofs.Common.{◌≡◌, sym, ◌∙◌, subst}
use Rattle.std.specs.Prelude.{IfOk}
use Rattle.sail_words.specs.Line.{IsWithinLimits}
use Rattle.sail_top.specs.Answer.{answer_by}
use Rattle.sail_top.specs.Seeded.{seeded_image, seeded_setup}
use Rattle.sail_top.proofs.SeededLemmas.{seeded_within}
use Rattle.sail_top.proofs.seeded.run_seeded.Goals as goal

pub run_accepted-requires-clause-limits : goal.run_accepted-requires-clause-limits
run_accepted-requires-clause-limits g c = subst IsWithinLimits (sym c.in_ok-setup.ensures) (seeded_within c.args.numbers.now.size)

pub returns : goal.returns
returns g c =
    let meaning = g.P.Stepper.meaning in
    let made = c.args.made in
    let numbers = c.args.numbers.now in
    subst (λ f. IfOk c.run_accepted.result (λ answer. answer ≡ answer_by meaning f (seeded_setup numbers.size) (seeded_image numbers) made.accepted made.run))
    (c.as_slice.ensures.value ∙ c.in_ok-front.ensures)
    (subst (λ s. IfOk c.run_accepted.result (λ answer. answer ≡ answer_by meaning c.as_slice.result.now s (seeded_image numbers) made.accepted made.run))
    c.in_ok-setup.ensures
    (subst (λ i. IfOk c.run_accepted.result (λ answer. answer ≡ answer_by meaning c.as_slice.result.now c.in_ok-setup.setup i made.accepted made.run))
    c.requires.file c.run_accepted.ensures))
