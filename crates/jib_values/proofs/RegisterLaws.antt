-- A write of a register that isn't there changes nothing.
use Rattle.std.proofs.Common.{◌≡◌, ℕ, zero, suc, List, [], ◌∷◌, Option, Some, None, Bor, false, refl, sym, ap, ◌∙◌}
use Rattle.std.specs.Prelude.{slice_get, slice_set}
use Rattle.std.specs.Option.{is_some, option_copied}
use Rattle.sail_types.specs.declared.values.Value.{Value}
use Rattle.model_state.specs.declared.state.Hart.{Hart}
use Rattle.model_state.specs.RunState.{RunState, register_value, values_of, changed, hart_with_register, with_register}

set_nothing : (values : List Value) (i : ℕ) (v : Value) → slice_get values i ≡ None → slice_set values i v ≡ values
set_nothing [] i v none = refl
set_nothing (first ∷ values) zero v none = cc none
set_nothing (first ∷ values) (suc i) v none = ap (λ vs. first ∷ vs) (set_nothing values i v none)

changed_nothing : (harts : List Hart) (hart index : ℕ) (v : Value) → slice_get (values_of (slice_get harts hart)) index ≡ None
    → changed (hart_with_register index v) hart harts ≡ harts
changed_nothing [] hart index v none = refl
changed_nothing (first ∷ harts) zero index v none =
    λ i. record { registers = set_nothing first.registers index v none i; reservation = first.reservation; rests = first.rests } ∷ harts
changed_nothing (first ∷ harts) (suc hart) index v none = ap (λ hs. first ∷ hs) (changed_nothing harts hart index v none)

with_nothing : (state : RunState) (hart index : ℕ) (v : Value) → register_value state hart index ≡ None → with_register hart index v state ≡ state
with_nothing state hart index v none = λ i. record state { harts = changed_nothing state.harts hart index v none i }

absent : (found : Option (Bor Value)) → is_some found ≡ false → option_copied found ≡ None
absent None none = refl
absent (Some value) none = cc none

pub not_written : (state : RunState) (hart index : ℕ) (v : Value) (found : Option (Bor Value)) → option_copied found ≡ register_value state hart index
    → is_some found ≡ false → state ≡ with_register hart index v state
not_written state hart index v found e h = sym (with_nothing state hart index v (sym e ∙ absent found h))
