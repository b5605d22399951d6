use Rattle.std.proofs.Common.{◌≡◌, sym, ap, ◌∙◌, subst, OnOk}
use Rattle.value_fits.specs.declared.fitted.Fitted.{Fitted}
use Rattle.value_fits.specs.Fitting.{fits, owe_fit_under, owe_made_under}
use Rattle.value_fits.specs.Lent.{reading_of}
use Rattle.value_fits.proofs.Owed.{run_owe_fit_under}
use Rattle.value_indices.specs.Walking.{Written, run, seen, remembered_last}
use Rattle.pattern_notes.proofs.typed.owe_type.Goals as goal

pub returns : goal.returns
returns c =
    let place = c.args.place in
    let v = seen c.args.walking.now in
    let last = remembered_last v in
    let f = fits c.args.types.now c.args.indices.now (reading_of c.args.wanted.now) in
    let made : c.in_ok-made.made ≡ f v.next = c.in_ok-made.ensures ∙ ap f c.next.ensures in
    let same : run (owe_made_under last place c.in_ok-made.made) v ≡ run (owe_fit_under last place f) v =
    ap (λ (m : Fitted). run (owe_made_under last place m) v) made ∙ sym (run_owe_fit_under last place f v) in
    subst (λ (z : Written). OnOk c.owe_fit_earlier.result (seen c.owe_fit_earlier.new.walking ≡ z)) same c.owe_fit_earlier.ensures
