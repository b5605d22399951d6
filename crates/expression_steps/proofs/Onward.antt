-- One walk, then another, as a function has them that calls others.
use Rattle.std.proofs.Common.{◌≡◌, ◌∙◌, sym, Result, Ok, Err, IfOk, OnOk}
use Rattle.value_indices.specs.Steps.{Walk, bind, give}
use Rattle.value_indices.specs.Walking.{Written, got, run}
use Rattle.value_indices.proofs.Walks.{got_give, run_give}
use Rattle.pattern_leaves.proofs.Walked.{then_got, then_run}

-- ---- a walk that is another

pub same_got : {A C E : Type 0} (r : Result A E) (show : A → C) (a b : Walk C) (w : Written) → b ≡ a
    → IfOk r (λ made. show made ≡ got a w) → IfOk r (λ made. show made ≡ got b w)
same_got (Ok made) show a b w same h = h ∙ (λ j. got (sym same j) w)
same_got (Err e) show a b w same h = tt

pub same_run : {A C E : Type 0} (r : Result A E) (a b : Walk C) (w v : Written) → b ≡ a → OnOk r (v ≡ run a w) → OnOk r (v ≡ run b w)
same_run (Ok made) a b w v same h = h ∙ (λ j. run (sym same j) w)
same_run (Err e) a b w v same h = tt

-- what holds whatever is returned
pub on_ok : {A E P : Type 0} (r : Result A E) → P → OnOk r P
on_ok (Ok made) p = p
on_ok (Err e) p = tt

pub ok_then : {A E P Q : Type 0} (r : Result A E) → (P → Q) → OnOk r P → OnOk r Q
ok_then (Ok made) f p = f p
ok_then (Err e) f p = tt

-- ---- what the first gave, then a walk of what is returned

pub then_got_in : {A B C E : Type 0} (r : Result A E) (show : A → C) (first : Walk B) (next : B → Walk C) (whole : Walk C) (w v : Written) (x : B)
    → whole ≡ bind first next → x ≡ got first w → v ≡ run first w
    → IfOk r (λ made. show made ≡ got (next x) v) → IfOk r (λ made. show made ≡ got whole w)
then_got_in (Ok made) show first next whole w v x opens is was h = h ∙ then_got first next w v x is was ∙ (λ j. got (sym opens j) w)
then_got_in (Err e) show first next whole w v x opens is was h = tt

pub then_run_in : {A B C E : Type 0} (r : Result A E) (first : Walk B) (next : B → Walk C) (whole : Walk C) (w v u : Written) (x : B)
    → whole ≡ bind first next → x ≡ got first w → v ≡ run first w → OnOk r (u ≡ run (next x) v) → OnOk r (u ≡ run whole w)
then_run_in (Ok made) first next whole w v u x opens is was h = h ∙ then_run first next w v x is was ∙ (λ j. run (sym opens j) w)
then_run_in (Err e) first next whole w v u x opens is was h = tt

-- ---- a value of what the first gave

pub given_got : {B C : Type 0} (first : Walk B) (next : B → Walk C) (whole : Walk C) (w v : Written) (x : B) (y : C)
    → whole ≡ bind first next → x ≡ got first w → v ≡ run first w → next x ≡ give y → y ≡ got whole w
given_got first next whole w v x y opens is was gives =
    sym (got_give y v) ∙ (λ j. got (sym gives j) v) ∙ then_got first next w v x is was ∙ (λ j. got (sym opens j) w)

pub given_run : {B C : Type 0} (first : Walk B) (next : B → Walk C) (whole : Walk C) (w v : Written) (x : B) (y : C)
    → whole ≡ bind first next → x ≡ got first w → v ≡ run first w → next x ≡ give y → v ≡ run whole w
given_run first next whole w v x y opens is was gives =
    sym (run_give y v) ∙ (λ j. run (sym gives j) v) ∙ then_run first next w v x is was ∙ (λ j. run (sym opens j) w)
