-- What is written down behind walks that have an end of their own, or go on with a condition.
use Rattle.std.proofs.Common.{◌≡◌, ◌∙◌, ap, sym, subst, Result, IfOk, OnOk}
use Rattle.value_indices.specs.Steps.{Walk, scoped}
use Rattle.value_indices.specs.Walking.{Written, got, remembering, restored, run}
use Rattle.value_indices.proofs.Walks.{got_scoped, run_scoped}

-- ---- the same value, and the same that is written down

pub value_same : {A E : Type 0} (r : Result A E) (x y : A) → x ≡ y → IfOk r (λ made. made ≡ x) → IfOk r (λ made. made ≡ y)
value_same {A} r x y same h = subst (λ (z : A). IfOk r (λ made. made ≡ z)) same h

pub walked_same : {A E : Type 0} (r : Result A E) (w x y : Written) → x ≡ y → OnOk r (w ≡ x) → OnOk r (w ≡ y)
walked_same r w x y same h = subst (λ (z : Written). OnOk r (w ≡ z)) same h

-- ---- a walk with an end of its own

pub scoped_got : {A : Type 0} (inner : Walk A) (v w : Written) (x : A) → w ≡ remembering v → x ≡ got inner w → x ≡ got (scoped inner) v
scoped_got inner v w x was is = is ∙ ap (λ (u : Written). got inner u) was ∙ sym (got_scoped inner v)

pub scoped_run : {A : Type 0} (inner : Walk A) (v w1 w2 w3 : Written) → w1 ≡ remembering v → w2 ≡ run inner w1 → w3 ≡ restored w2
    → w3 ≡ run (scoped inner) v
scoped_run inner v w1 w2 w3 one two three =
    three ∙ ap restored (two ∙ ap (λ (u : Written). run inner u) one) ∙ sym (run_scoped inner v)
