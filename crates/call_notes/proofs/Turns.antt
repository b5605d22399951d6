-- One walk behind another.
use Rattle.std.proofs.Common.{◌≡◌, ◌∙◌, ap, sym}
use Rattle.value_indices.specs.Steps.{Walk, bind}
use Rattle.value_indices.specs.Walking.{Written, got, run}
use Rattle.value_indices.proofs.Walks.{got_bind, run_bind}

pub then_got : {A B : Type 0} (first : Walk A) (next : A → Walk B) (v w : Written) (x : A) → x ≡ got first v → w ≡ run first v
    → got (next x) w ≡ got (bind first next) v
then_got first next v w x is was = (λ i. got (next (is i)) (was i)) ∙ sym (got_bind first next v)

pub then_run : {A B : Type 0} (first : Walk A) (next : A → Walk B) (v w : Written) (x : A) → x ≡ got first v → w ≡ run first v
    → run (next x) w ≡ run (bind first next) v
then_run first next v w x is was = (λ i. run (next (is i)) (was i)) ∙ sym (run_bind first next v)

-- of the first only what is written down counts
pub behind_got : {B : Type 0} (first : Walk (Unit {0})) (next : Walk B) (v w : Written) → w ≡ run first v
    → got next w ≡ got (bind first (λ t. next)) v
behind_got first next v w was = ap (got next) was ∙ sym (got_bind first (λ t. next) v)

pub behind_run : {B : Type 0} (first : Walk (Unit {0})) (next : Walk B) (v w : Written) → w ≡ run first v
    → run next w ≡ run (bind first (λ t. next)) v
behind_run first next v w was = ap (run next) was ∙ sym (run_bind first (λ t. next) v)

-- two before the last
pub twice_got : {B : Type 0} (first second : Walk (Unit {0})) (last : Walk B) (u v w : Written) → v ≡ run first u → w ≡ run second v
    → got last w ≡ got (bind first (λ t. bind second (λ s. last))) u
twice_got first second last u v w was behind =
    behind_got second last v w behind ∙ behind_got first (bind second (λ s. last)) u v was

pub twice_run : {B : Type 0} (first second : Walk (Unit {0})) (last : Walk B) (u v w : Written) → v ≡ run first u → w ≡ run second v
    → run last w ≡ run (bind first (λ t. bind second (λ s. last))) u
twice_run first second last u v w was behind =
    behind_run second last v w behind ∙ behind_run first (bind second (λ s. last)) u v was
