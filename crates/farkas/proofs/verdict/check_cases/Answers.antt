use Rattle.std.proofs.Common.{sym, ap, ◌∙◌, subst, arith, ◌<◌, length}
use Rattle.std.proofs.lemmas.Bool.{false≢true}
use Rattle.farkas.specs.Validity.{IsValidCase, AreValid}
use Rattle.farkas.proofs.Certified.{valid_length, valid_next, invalid_at}
use Rattle.farkas.proofs.verdict.check_cases.Goals as goal

pub returns-then-cases-len : goal.returns-then-cases-len
returns-then-cases-len c = (
  (λ t. absurd (false≢true t)),
  λ v. let e = valid_length c.args.cases.now c.args.certificate.now.cases v in
      absurd (omega (arith, e, c.len.ensures, c.if-cases-len.true)),
)

pub returns-then-not-branch : goal.returns-then-not-branch
returns-then-not-branch c = (
  (λ t. absurd (false≢true t)),
  λ v. absurd
      (invalid_at c.args.cases.now c.as_slice-certificates.result.now c.loop-place.place c.index-cases-place.result c.index-certificates-place.result
      c.loop-place-test.true c.index-cases-place.is c.index-certificates-place.is
      (λ h. false≢true (sym c.if-not-branch.true ∙ c.in_ok-is_valid_case.ensures.1
      (subst (λ rows. IsValidCase rows c.index-certificates-place.result) (sym c.as_slice.ensures) h)))
      (subst (AreValid c.args.cases.now) (sym c.as_slice-certificates.ensures) v)),
)

pub loop-place-preserved : goal.loop-place-preserved
loop-place-preserved c =
    let few : c.loop-place.place < length c.as_slice-certificates.result.now = omega (arith, ap length c.as_slice-certificates.ensures, c.len.ensures) in
    valid_next c.args.cases.now c.as_slice-certificates.result.now c.loop-place.place c.index-cases-place.result c.index-certificates-place.result
    c.loop-place-test.true few c.index-cases-place.is c.index-certificates-place.is c.loop-place.invariant
    (subst (λ rows. IsValidCase rows c.index-certificates-place.result) c.as_slice.ensures (c.in_ok-is_valid_case.ensures.0 c.if-not-branch.false))
