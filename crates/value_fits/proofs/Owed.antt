-- What has to be true, as a step of a walk.
use Rattle.std.proofs.Common.{◌≡◌, ◌∙◌, sym, ap, refl, arith, ℕ, ◌-◌, List, ◌++◌, length, length-append}
use Rattle.std.proofs.lemmas.List.{drop_at}
use Rattle.sail_base.specs.declared.place.Place.{Place}
use Rattle.value_indices.specs.declared.notes.Fact.{Fact}
use Rattle.value_indices.specs.Steps.{Walk, owe, owe_under}
use Rattle.value_indices.specs.Walking.{Written, run, with_facts, counted_from, recalled, remembered_last, earlier, remembering, forgotten}
use Rattle.value_fits.specs.declared.fitted.Fitted.{Fitted}
use Rattle.value_fits.specs.Fitting.{owe_made, owe_made_under, owe_fit, owe_fit_under}

pub owed_made : (place : Place) (a : Fitted) (w : Written)
    → run (owe_made place a) w ≡ run (owe place a.conditions) (with_facts a.facts (counted_from a.next w))
unfolding run owe with_facts counted_from owe_made
owed_made place a w = refl

recalled_newest : (facts : List Fact) (w : Written) → recalled (length facts) (with_facts facts w) ≡ remembered_last w ++ facts
unfolding recalled with_facts remembered_last
recalled_newest facts w =
    ap (λ fs. earlier w.remembered ++ fs)
    (drop_at w.facts facts (length (w.facts ++ facts) - length facts) (omega (arith, length-append w.facts facts)))

under_recalled : (place : Place) (a : Fitted) (w : Written)
    → run (owe_made_under (remembered_last w) place a) w
    ≡ run (owe_under (remembered_last (counted_from a.next w) ++ a.facts) place a.conditions) (with_facts a.facts (counted_from a.next w))
unfolding run owe_under with_facts counted_from remembered_last owe_made_under
under_recalled place a w = refl

pub owed_recalled : (place : Place) (a : Fitted) (w : Written)
    → run (owe_made_under (remembered_last w) place a) w
    ≡ run (owe_under (recalled (length a.facts) (with_facts a.facts (counted_from a.next w))) place a.conditions) (with_facts a.facts (counted_from a.next w))
owed_recalled place a w =
    under_recalled place a w
    ∙ ap (λ fs. run (owe_under fs place a.conditions) (with_facts a.facts (counted_from a.next w))) (sym (recalled_newest a.facts (counted_from a.next w)))

-- ---- for those who owe what has to be true

pub run_owe_fit : (place : Place) (f : ℕ → Fitted) (w : Written) → run (owe_fit place f) w ≡ run (owe_made place (f w.next)) w
unfolding run owe_fit
run_owe_fit place f w = refl

pub run_owe_fit_under : (facts : List Fact) (place : Place) (f : ℕ → Fitted) (w : Written)
    → run (owe_fit_under facts place f) w ≡ run (owe_made_under facts place (f w.next)) w
unfolding run owe_fit_under
run_owe_fit_under facts place f w = refl

-- behind an inner walk, under what was in force before it
pub fit_owed_behind : {A : Type 0} (inner : Walk A) (place : Place) (f : ℕ → Fitted) (w : Written)
    → run (owe_fit_under w.facts place f) (run inner w)
    ≡ forgotten (run (owe_made_under (remembered_last (run inner (remembering w))) place (f (run inner w).next)) (run inner (remembering w)))
unfolding run remembering forgotten remembered_last owe_fit_under owe_made_under
fit_owed_behind inner place f w = refl

pub ruleset owed = (run_owe_fit, run_owe_fit_under)
