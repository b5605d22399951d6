use Rattle.std.proofs.Common.{subst}
use Rattle.farkas.specs.Problems.{discharged}
use Rattle.farkas.specs.Verdicts.{IsAnswer}
use Rattle.entail.specs.Standing.{problem_of}
use Rattle.entail.proofs.scratch.ScratchEntail.ask.Goals as goal

pub returns-clause-answer : goal.returns-clause-answer
returns-clause-answer c =
    subst (λ g. IsAnswer c.discharge-answer.result (discharged (problem_of c.args.self.now.problem.facts g))) c.in_ok-self.ensures
    c.discharge-answer.ensures.answer
