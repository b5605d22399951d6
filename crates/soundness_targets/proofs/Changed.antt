-- A `var` and a register that get another value.
use Rattle.std.proofs.Common.{◌≡◌, ℕ, zero, suc, Bool, true, false, List, [], ◌∷◌, Option, Some, None, if◌then◌else◌, slice_get, slice_set, refl}
use Rattle.std.proofs.Common.{sym, ap, ◌∙◌, subst}
use Rattle.std.specs.Str.{bytes_eq}
use Rattle.sail_types.specs.Belongs.{Reading as Closed, belongs, no_readings, reading}
use Rattle.sail_types.specs.declared.values.Value.{Value}
use Rattle.sail_types.proofs.SumNumbers.{some_same}
use Rattle.model_state.specs.RunState.{RunState, changed, hart_with_register, with_register}
use Rattle.model_state.specs.declared.state.Hart.{Hart}
use Rattle.model_state.specs.declared.state.Register.{Register}
use Rattle.sail_core.specs.Run.{Local, changed_in, kept, local}
use Rattle.value_indices.specs.declared.indices.Reading.{Reading}
use Rattle.pattern_leaves.specs.Settings.{held_in}
use Rattle.pattern_leaves.specs.declared.names.Bound.{Bound}
use Rattle.pattern_leaves.specs.declared.names.Held.{Held}
use Rattle.pattern_leaves.specs.declared.names.Held.TheVariants as H
use Rattle.checked_meaning.specs.Items.{Item}
use Rattle.value_laws.specs.Known.{Point}
use Rattle.soundness_steps.specs.Works.{Kept, Setting, Work, is_value, is_var}
use Rattle.soundness_steps.specs.States.{AllHarts, AllKept, AreRegisters, StateBelongs, nothing_stands, registers_of}
use Rattle.soundness_steps.specs.Values.{HeldValue, HeldVar, InScope}

-- ---- a `var`

module _ (set : Setting) (work : Work) {n : ℕ} (f : Point n) (r : Reading) (y : Item)
    (fits : (t : Closed) → HeldVar set work f (H.Var r) t → belongs set.around.types y.val t ≡ true) where
  abbrev pub Changed : List Kept → Option (List (Local Item)) → Type 0
  Changed ks o = (ls : List (Local Item)) × (o ≡ Some ls) × AllKept set.around.types ks ls

  no_value : {A : Type 0} (held : Held) (x : Item) → HeldValue set work f held x → Some held ≡ Some (H.Var r) → A
  no_value held x h e = absurd (subst (λ b. HeldValue set work f b x) (some_same held (H.Var r) e) h)

  value_by : (a b : Bool) → a ≡ b → (held : Held) (x : Item) → HeldValue set work f held x → (other : Option Held) → (m : List ℕ) (ks : List Kept)
      (l : Local Item) (ls : List (Local Item)) → (l.name ≡ m) × (l.held ≡ x) → (o : Option (List (Local Item)))
      → (other ≡ Some (H.Var r) → Changed ks o) → (if a then Some held else other) ≡ Some (H.Var r)
      → Changed (is_value m x ∷ ks) (if b then Some (local l.name y ∷ ls) else kept l o)
  value_by true b e held x h other m ks l ls k o next is = no_value held x h is
  value_by false true e held x h other m ks l ls k o next is = absurd (cc)
  value_by false false e held x h other m ks l ls k o next is =
      let c = next is in
      (l ∷ c.0, ap (kept l) c.1, (k, c.2))

  var_by : (a b : Bool) → a ≡ b → (held : Held) (t : Closed) → HeldVar set work f held t → (other : Option Held) → (m : List ℕ) (ks : List Kept)
      (l : Local Item) (ls : List (Local Item)) → AllKept set.around.types ks ls → (l.name ≡ m) × (belongs set.around.types l.held.val t ≡ true)
      → (o : Option (List (Local Item))) → (other ≡ Some (H.Var r) → Changed ks o) → (if a then Some held else other) ≡ Some (H.Var r)
      → Changed (is_var m t ∷ ks) (if b then Some (local l.name y ∷ ls) else kept l o)
  var_by true true e held t h other m ks l ls all k o next is =
      (local l.name y ∷ ls, refl, ((k.0, fits t (subst (λ b. HeldVar set work f b t) (some_same held (H.Var r) is) h)), all))
  var_by true false e held t h other m ks l ls all k o next is = absurd (cc)
  var_by false true e held t h other m ks l ls all k o next is = absurd (cc)
  var_by false false e held t h other m ks l ls all k o next is =
      let c = next is in
      (l ∷ c.0, ap (kept l) c.1, (k, c.2))

  pub changes : (name : List ℕ) (bs : List Bound) (ks : List Kept) (ls : List (Local Item)) → InScope set work f bs ks → AllKept set.around.types ks ls
      → held_in name bs ≡ Some (H.Var r) → Changed ks (changed_in name y ls)
  changes name [] [] [] h k is = absurd (cc)
  changes name (b ∷ bs) (is_value m x ∷ ks) (l ∷ ls) h k is =
      value_by (bytes_eq b.name name) (bytes_eq l.name name) (ap (λ c. bytes_eq c name) (sym (k.0.0 ∙ h.0.0))) b.held x h.0.1 (held_in name bs) m ks l ls
      k.0 (changed_in name y ls) (changes name bs ks ls h.1 k.1) is
  changes name (b ∷ bs) (is_var m t ∷ ks) (l ∷ ls) h k is =
      var_by (bytes_eq b.name name) (bytes_eq l.name name) (ap (λ c. bytes_eq c name) (sym (k.0.0 ∙ h.0.0))) b.held t h.0.1 (held_in name bs) m ks l ls
      k.1 k.0 (changed_in name y ls) (changes name bs ks ls h.1 k.1) is
  changes name [] (x ∷ ks) ls h k is = absurd h
  changes name (b ∷ bs) [] ls h k is = absurd h
  changes name [] [] (l ∷ ls) h k is = absurd k
  changes name (b ∷ bs) (is_value m x ∷ ks) [] h k is = absurd k
  changes name (b ∷ bs) (is_var m t ∷ ks) [] h k is = absurd k

-- ---- a register

module _ (set : Setting) (v : Value) where
  abbrev pub Fits : Option Register → Type 0
  Fits None = ⊥
  Fits (Some r) = belongs set.around.types v (reading r.typ (nothing_stands set.past) no_readings) ≡ true

  registers_with : (rs : List Register) (vs : List Value) (i : ℕ) → AreRegisters set rs vs → Fits (slice_get rs i) → AreRegisters set rs (slice_set vs i v)
  registers_with [] [] i h k = absurd k
  registers_with (r ∷ rs) (w ∷ vs) zero h k = (k, h.1)
  registers_with (r ∷ rs) (w ∷ vs) (suc i) h k = (h.0, registers_with rs vs i h.1 k)
  registers_with [] (w ∷ vs) i h k = absurd h
  registers_with (r ∷ rs) [] i h k = absurd h

  module _ (i : ℕ) (k : Fits (slice_get set.around.registers i)) where
    harts_with : (hs : List Hart) (hart : ℕ) → AllHarts set hs → AllHarts set (changed (hart_with_register i v) hart hs)
    harts_with [] hart h = tt
    harts_with (x ∷ hs) zero h = (registers_with set.around.registers x.registers i h.0 k, h.1)
    harts_with (x ∷ hs) (suc hart) h = (h.0, harts_with hs hart h.1)

    -- of the hart at work, be it there or not
    at_work_with : (hs : List Hart) (hart : ℕ) → AreRegisters set set.around.registers (registers_of (slice_get hs hart))
        → AreRegisters set set.around.registers (registers_of (slice_get (changed (hart_with_register i v) hart hs) hart))
    at_work_with [] hart h = h
    at_work_with (x ∷ hs) zero h = registers_with set.around.registers x.registers i h k
    at_work_with (x ∷ hs) (suc hart) h = at_work_with hs hart h

    pub state_with : (state : RunState) → StateBelongs set state → StateBelongs set (with_register set.hart i v state)
    state_with state h = record { harts = harts_with state.harts set.hart h.harts; at_work = at_work_with state.harts set.hart h.at_work }
