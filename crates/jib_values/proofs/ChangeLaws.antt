-- A target that is written twice.
use Rattle.std.proofs.Common.{◌≡◌, ℕ, zero, suc, List, [], ◌∷◌, refl, ap, ◌∙◌, arith}
use Rattle.std.specs.Prelude.{slice_set}
use Rattle.std.proofs.lemmas.Bool.Decides.{nat_tests}
use Rattle.sail_types.specs.declared.values.Value.{Value}
use Rattle.model_state.specs.declared.state.Hart.{Hart}
use Rattle.model_state.specs.RunState.{RunState, changed, hart_with_register, with_register}
use Rattle.jib.specs.declared.code.Target.{Target}
use Rattle.jib.specs.declared.code.Target.TheVariants as T
use Rattle.jib.specs.Jib.{Slots, put}
use Rattle.jib_values.specs.Sources.{filled}
use Rattle.jib_values.specs.Results.{Wrote}

put_at : (slots : Slots) (i k : ℕ) (u v : Value) → put (put slots i u) i v k ≡ put slots i v k
put_at slots i k u v = grind (arith, nat_tests)

put_over : (slots : Slots) (i : ℕ) (u v : Value) → put (put slots i u) i v ≡ put slots i v
put_over slots i u v = λ j. λ k. put_at slots i k u v j

set_over : (xs : List Value) (i : ℕ) (u v : Value) → slice_set (slice_set xs i u) i v ≡ slice_set xs i v
set_over [] i u v = refl
set_over (x ∷ xs) zero u v = refl
set_over (x ∷ xs) (suc i) u v = ap (λ q. x ∷ q) (set_over xs i u v)

changed_over : (hs : List Hart) (hart i : ℕ) (u v : Value)
    → changed (hart_with_register i v) hart (changed (hart_with_register i u) hart hs) ≡ changed (hart_with_register i v) hart hs
changed_over [] hart i u v = refl
changed_over (h ∷ hs) zero i u v =
    λ j. record { registers = set_over h.registers i u v j; reservation = h.reservation; rests = h.rests } ∷ hs
changed_over (h ∷ hs) (suc hart) i u v = ap (λ q. h ∷ q) (changed_over hs hart i u v)

with_over : (hart i : ℕ) (u v : Value) (s : RunState) → with_register hart i v (with_register hart i u s) ≡ with_register hart i v s
with_over hart i u v s = λ j. record s { harts = changed_over s.harts hart i u v j }

-- the later of two writes to a target stands
pub wrote_over : (hart : ℕ) (t : Target) (u v : Value) (old mid new : List Value) (s s1 s2 : RunState) → Wrote hart t u old mid s s1
    → Wrote hart t v mid new s1 s2 → Wrote hart t v old new s s2
wrote_over hart (T.Slot i) u v old mid new s s1 s2 p q =
    (q.0 ∙ ap (λ f. put f i v) p.0 ∙ put_over (filled old) i u v, q.1 ∙ p.1)
wrote_over hart (T.Register i) u v old mid new s s1 s2 p q =
    (q.0 ∙ p.0, q.1 ∙ ap (with_register hart i v) p.1 ∙ with_over hart i u v s)
