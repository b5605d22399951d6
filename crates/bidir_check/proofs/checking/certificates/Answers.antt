use Rattle.std.proofs.Common.{inl, sym, ap, ◌∙◌, subst, arith, []}
use Rattle.bidir_check.specs.Certification.{AreCertified}
use Rattle.bidir_check.specs.Checking.{checked}
use Rattle.bidir_check.proofs.Steps.{put_before, began, went_on, stopped_at, exit_met, ended, certified_next, certified_all, facts_next}
use Rattle.bidir_check.proofs.checking.certificates.Goals as goal

pub loop-place-init : goal.loop-place-init
loop-place-init g c =
    let os = c.args.obligations.now in
    record {
      answer = began os ∙ ap (λ m. put_before m (checked os)) (sym c.new-made.ensures);
      certified = subst (AreCertified []) (sym c.new-made.ensures) tt;
      facts = c.requires;
    }

pub certificate_of-requires : goal.certificate_of-requires
certificate_of-requires g c = c.loop-place.invariant.facts ∙ sym c.facts_before-standing.ensures

pub loop-place-preserved : goal.loop-place-preserved
loop-place-preserved g c =
    let l = c.loop-place in
    let os = c.args.obligations.now in
    let o = c.index-obligations-place.result in
    let found = c.in_ok-certificate.ensures in
    record {
      answer = went_on os l.place o l.made (omega arith) c.index-obligations-place.is l.invariant.answer c.in_ok-certificate.certificate
          c.push.new.self found.answer c.in_ok-push.ensures.pushed;
      certified = certified_next os l.place o l.made c.push.new.self c.in_ok-certificate.certificate (omega arith) c.index-obligations-place.is
          l.invariant.certified found.valid c.in_ok-push.ensures.pushed;
      facts = found.facts ∙ facts_next os l.place o (omega arith) c.index-obligations-place.is;
    }

pub returns-clause-answer : goal.returns-clause-answer
returns-clause-answer g c =
    let l = c.loop-place in inl (ended c.args.obligations.now l.place l.made (omega arith) l.invariant.answer)

pub returns-clause-certified : goal.returns-clause-certified
returns-clause-certified g c =
    let l = c.loop-place in certified_all c.args.obligations.now l.place l.made (omega arith) l.invariant.certified

pub returns-in_err-certificate-clause-answer : goal.returns-in_err-certificate-clause-answer
returns-in_err-certificate-clause-answer g c =
    let l = c.loop-place in
    let os = c.args.obligations.now in
    exit_met c.from_residual.result _ (checked os) c.from_residual.ensures.1
    (stopped_at os l.place c.index-obligations-place.result l.made (omega arith) c.index-obligations-place.is l.invariant.answer _
    c.in_err-certificate.ensures.answer)
