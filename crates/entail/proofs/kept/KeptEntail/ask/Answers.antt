use Rattle.std.proofs.Common.{ap, ◌∙◌, subst}
use Rattle.farkas.specs.Problems.{discharged}
use Rattle.farkas.specs.Verdicts.{IsAnswer}
use Rattle.entail.specs.Standing.{Standing, problem_of}
use Rattle.entail.specs.Levels.{facts_of, level_of}
use Rattle.entail.proofs.Asking.{level_few, answer_shown}
use Rattle.entail.proofs.kept.KeptEntail.ask.Goals as goal

pub answer_at-requires : goal.answer_at-requires
answer_at-requires c = level_few c.last_level.result.now _ c.last_level.ensures

pub returns-clause-answer : goal.returns-clause-answer
returns-clause-answer c =
    subst (λ (s : Standing). IsAnswer c.answer_at.result (discharged (problem_of s.facts c.args.goal.now))) c.self.view_is
    (c.answer_at.ensures _ (c.last_level.ensures ∙ ap (λ ps. level_of (facts_of ps)) c.as_slice.ensures))

pub returns-clause-shown : goal.returns-clause-shown
returns-clause-shown c = answer_shown (problem_of c.args.self.now.facts c.args.goal.now) c.answer_at.result (returns-clause-answer c)
