-- A problem with a valid certificate: its facts imply its goal.
use Rattle.std.proofs.Common.{inl, inr}
use Rattle.std.proofs.lemmas.Bool.{cases_Bool}
use Rattle.sail_types.specs.Numbers.{true_in}
use Rattle.linear.specs.declared.problem.Problem.{Problem}
use Rattle.linear.specs.Cases.{variables_of}
use Rattle.linear.specs.laws.Truths.{value_at}
use Rattle.linear.specs.laws.Entailment.{IsImplied, some_case}
use Rattle.farkas.specs.declared.certificate.Cert.{Cert}
use Rattle.farkas.specs.Problems.{IsValid}
use Rattle.farkas.specs.laws.Soundness.{cases_refuted}

pub valid_implies : (problem : Problem) (certificate : Cert) → IsValid problem certificate → IsImplied problem
valid_implies problem certificate valid nu reads facts =
    elim (cases_Bool (true_in nu problem.goal)) [
      | inl t ↦ t
      | inr f ↦ absurd (cases_refuted (value_at nu (variables_of problem)) valid.0 certificate.cases valid.2 (some_case problem valid.0 nu valid.1
          reads facts f))
    ]
