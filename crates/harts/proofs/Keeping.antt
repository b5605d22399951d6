-- What every part of a run leaves as it is, over parts one after another.
use Rattle.std.proofs.Common.{◌≡◌, ℕ, zero, suc, false, List, [], ◌∷◌, ◌++◌, length, ap, sym, refl, ◌∙◌, arith, append_assoc, append-nil}
use Rattle.sail_types.specs.declared.values.Value.TheVariants as value
use Rattle.model_state.specs.declared.cause.Ended.{Ended}
use Rattle.model_state.specs.declared.cause.Ended.TheVariants as ended
use Rattle.model_state.specs.declared.state.Hart.{Hart}
use Rattle.model_state.specs.RunState.{RunState, changed}
use Rattle.model_state.specs.Folds.{Keeps, resting, set_rests, after_step}

pub keeps_all : (state : RunState) → Keeps state state
keeps_all state = record {
  types = refl;
  registers = refl;
  harts = refl;
  base = refl;
  size = refl;
  more = [];
  console = sym (append-nil state.console);
}

pub keeps_both : {a b c : RunState} → Keeps a b → Keeps b c → Keeps a c
keeps_both {a} first second = record {
  types = second.types ∙ first.types;
  registers = second.registers ∙ first.registers;
  harts = second.harts ∙ first.harts;
  base = second.base ∙ first.base;
  size = second.size ∙ first.size;
  more = first.more ++ second.more;
  console = second.console ∙ ap (λ bytes. bytes ++ second.more) first.console ∙ append_assoc a.console first.more second.more;
}

length-changed : (f : Hart → Hart) (index : ℕ) (harts : List Hart) → length (changed f index harts) ≡ length harts
length-changed f index [] = refl
length-changed f zero (hart ∷ harts) = refl
length-changed f (suc index) (hart ∷ harts) = grind (arith, length-changed f index harts)

-- a hart rests
pub keeps_rests : (hart : ℕ) (state : RunState) → Keeps state (set_rests hart state)
keeps_rests hart state = record {
  types = refl;
  registers = refl;
  harts = length-changed resting hart state.harts;
  base = refl;
  size = refl;
  more = [];
  console = sym (append-nil state.console);
}

-- a hart rests where its step gave `false`
pub keeps_after : (hart : ℕ) (e : Ended) (state : RunState) → Keeps state (after_step hart e state)
keeps_after hart (ended.Value (value.Truth false)) state = keeps_rests hart state
keeps_after hart _ state = keeps_all state
