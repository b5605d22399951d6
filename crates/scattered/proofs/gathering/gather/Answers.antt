use Rattle.std.proofs.Common.{◌≡◌, [], length, sym, ap, ◌∙◌, subst}
use Rattle.scattered.specs.Openings.{openings_of}
use Rattle.scattered.specs.Latest.{AreWithin}
use Rattle.scattered.proofs.Reading.{openings_within, openings_aligned}
use Rattle.scattered.proofs.gathering.gather.Goals as goal

pub check-requires-clause-aligned : goal.check-requires-clause-aligned
check-requires-clause-aligned c =
    let text = c.args.definitions.items in
    let found : c.as_slice-3.result.now ≡ openings_of [] 0 text =
    c.as_slice-3.ensures.value ∙ c.in_ok-openings.ensures ∙ ap (openings_of [] 0) c.as_slice.ensures.value in
    ap length found ∙ openings_aligned [] 0 text ∙ sym (ap length c.as_slice-2.ensures.value)

pub check-requires-clause-within : goal.check-requires-clause-within
check-requires-clause-within c =
    let text = c.args.definitions.items in
    let found : c.as_slice-3.result.now ≡ openings_of [] 0 text =
    c.as_slice-3.ensures.value ∙ c.in_ok-openings.ensures ∙ ap (openings_of [] 0) c.as_slice.ensures.value in
    subst (AreWithin (length c.as_slice-2.result.now)) (sym found)
    (subst (λ t. AreWithin (length t) (openings_of [] 0 text)) (sym c.as_slice-2.ensures.value) (openings_within text))
