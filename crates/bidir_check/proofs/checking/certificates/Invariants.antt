use Rattle.std.proofs.Common.{◌≡◌, take, drop}
use Rattle.bidir_check.specs.Certification.{AreCertified}
use Rattle.bidir_check.specs.Checking.{checked, facts_before}
use Rattle.bidir_check.proofs.Steps.{put_before}
use Rattle.bidir_check.proofs.checking.certificates.Given as goal

abbrev pub invariant-loop-place : goal.invariant-loop-place
invariant-loop-place g l = record {
  answer : checked l.obligations ≡ put_before l.made (checked (drop l.place l.obligations));
  certified : AreCertified (take l.place l.obligations) l.made;
  facts : g.E.Entail.facts l.entail ≡ facts_before l.obligations l.place;
}
