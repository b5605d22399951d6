-- Facts that are known come into force: what is written down behind that.
use Rattle.std.proofs.Common.{◌≡◌, ◌∙◌, refl, sym, List, ◌++◌, append-nil}
use Rattle.value_indices.specs.Steps.{Walk, bind}
use Rattle.value_indices.specs.Walking.{Written, got, run, with_facts}
use Rattle.value_indices.specs.declared.notes.Fact.{Fact}
use Rattle.pattern_leaves.proofs.Walked.{then_got, then_run}
use Rattle.expression_forms.specs.Spots.{in_force}

pub run_in_force : (fs : List Fact) (w : Written) → run (in_force fs) w ≡ with_facts fs w
unfolding run in_force with_facts
run_in_force fs w = λ i. record w { facts = w.facts ++ fs; notes = append-nil w.notes i }

-- a walk behind them
pub forced_got : {A : Type 0} (fs : List Fact) (a : Walk A) (w v : Written) → v ≡ with_facts fs w → got a v ≡ got (bind (in_force fs) (λ t. a)) w
forced_got fs a w v is = then_got (in_force fs) (λ (t : Unit {0}). a) w v (got (in_force fs) w) refl (is ∙ sym (run_in_force fs w))

pub forced_run : {A : Type 0} (fs : List Fact) (a : Walk A) (w v : Written) → v ≡ with_facts fs w → run a v ≡ run (bind (in_force fs) (λ t. a)) w
forced_run fs a w v is = then_run (in_force fs) (λ (t : Unit {0}). a) w v (got (in_force fs) w) refl (is ∙ sym (run_in_force fs w))
