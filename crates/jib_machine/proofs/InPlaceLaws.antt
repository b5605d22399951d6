-- Instructions that work in place.
use Rattle.std.proofs.Common.{◌≡◌, ℕ, ◌+◌, List, [], ◌++◌, map, Option, Some, None, option_map, refl, sym, ap, ◌∙◌, subst, true, false, Bool, Bor, arith}
use Rattle.std.specs.Option.{option_copied}
use Rattle.std.specs.Prelude.{slice_get, slice_index_or, not, cond}
use Rattle.sail_types.specs.declared.rows.Row.TheVariants as B
use Rattle.sail_types.specs.declared.values.Value.{Value, out-Value}
use Rattle.sail_types.specs.declared.values.Value.TheVariants as V
use Rattle.builtins.specs.RowValues.{same}
use Rattle.model_state.specs.RunState.{RunState, Access}
use Rattle.jib.specs.declared.types.ValueType.{ValueType}
use Rattle.jib.specs.declared.code.Source.{Source}
use Rattle.jib.specs.declared.code.Target.{Target}
use Rattle.jib.specs.declared.code.Target.TheVariants as T
use Rattle.jib.specs.declared.code.Operation.{Operation}
use Rattle.jib.specs.declared.code.Operation.TheVariants as O
use Rattle.jib.specs.declared.code.Instruction.{Instruction}
use Rattle.jib.specs.declared.code.Instruction.TheVariants as I
use Rattle.jib.specs.declared.code.Module.{Module}
use Rattle.jib.specs.Values.{fit, zero_of}
use Rattle.jib.specs.Operations.{worked_out}
use Rattle.jib.specs.Jib as J
use Rattle.jib.specs.Jib.{Runs}
use Rattle.jib_values.specs.Sources.{filled, source_value, source_values}
use Rattle.jib_machine.specs.declared.act.Act.TheVariants as A
use Rattle.jib_machine.specs.declared.act.Current.{Current}
use Rattle.jib_machine.specs.declared.act.Here.{Here}
use Rattle.jib_machine.specs.declared.in_place.InPlace.{InPlace}
use Rattle.jib_machine.specs.declared.in_place.InPlace.TheVariants as P
use Rattle.jib_machine.specs.parts.Begun.{store}
use Rattle.jib_machine.specs.parts.Acts.{seen}
use Rattle.jib_machine.specs.parts.InPlace.{Stored, Written, Applied, DoneInPlace, next_of}
use Rattle.jib_machine.specs.parts.Runs.{Ready, Along, table_of, remains}
use Rattle.jib_machine.proofs.ActLaws.{write_is, did_copy, did_apply, did_not_jump, did_label}
use Rattle.jib_machine.proofs.TurnLaws.{Onward, moved, remains_same, did_go, did_jump as did_leap}

-- ---- operations

module _ (ls : List Value) (hart : ℕ) (s : RunState) (sl : List Value) (rs : List Source) (t : Option ValueType) where
  abbrev Values : List Value
  Values = source_values ls hart s sl rs

  pub equal_is : (b : Bool) → same (map out-Value Values) ≡ Some b → J.operate t (O.Builtin B.Eq) Values hart s ≡ Some (J.plain s (V.Truth b))
  equal_is b e = ap (λ o. J.or_plain s None (option_map V.Truth o)) e

  pub unequal_is : (b : Bool) → same (map out-Value Values) ≡ Some b → J.operate t (O.Builtin B.Neq) Values hart s ≡ Some (J.plain s (V.Truth (not b)))
  unequal_is b e = ap (λ o. J.or_plain s None (option_map (λ q. V.Truth (not q)) o)) e

  pub slice_is : (v : Value) → worked_out t O.Slice Values ≡ Some v → J.operate t O.Slice Values hart s ≡ Some (J.plain s v)
  slice_is v e = ap (option_map (J.plain s)) e

module _ (m : Module) (ls : List Value) (hart f i : ℕ) (op : Operation) (rs : List Source) (v : Value) (s : RunState) where
  -- what was worked out is written, if the slot is of its type
  applied : (b : Bool) (sl old new : List Value) → sl ≡ old
      → J.operate (slice_get m.types (J.type_of m f (T.Slot i))) op (source_values ls hart s sl rs) hart s ≡ Some (J.plain s v)
      → Stored m f i v b old new → Applied m ls hart f (T.Slot i) op rs b old new s
  applied true sl old new es e st = λ k xs.
      let typ = J.type_of m f (T.Slot i) in
      let vs = source_values ls hart s old rs in
      let e' : J.operate (slice_get m.types typ) op vs hart s ≡ Some (J.plain s v) =
      subst (λ q. J.operate (slice_get m.types typ) op (source_values ls hart s q rs) hart s ≡ Some (J.plain s v)) es e in
      let fits : fit m.types typ v ≡ v = ap (λ q. cond q v (zero_of m.types typ)) st.0 in (
        xs ++ [],
        ap (λ o. J.finish m ls hart (T.Slot i) typ o (filled old) (store s k xs)) e'
            ∙ ap (λ q. J.write m ls hart (T.Slot i) q (filled old) (store s k (xs ++ []))) fits
            ∙ write_is m ls hart (T.Slot i) v old new s s k (xs ++ []) (st.1, refl),
      )
  applied false sl old new es e st = st

  pub applied_to : (t : Target) (o : Operation) (b : Bool) (sl old new : List Value) → t ≡ T.Slot i → o ≡ op → sl ≡ old
      → J.operate (slice_get m.types (J.type_of m f (T.Slot i))) op (source_values ls hart s sl rs) hart s ≡ Some (J.plain s v)
      → Stored m f i v b old new → Applied m ls hart f t o rs b old new s
  applied_to t o b sl old new et eo es e st =
      subst (λ q. Applied m ls hart f q o rs b old new s) (sym et)
      (subst (λ q. Applied m ls hart f (T.Slot i) q rs b old new s) (sym eo) (applied b sl old new es e st))

-- ---- instructions

module _ (m : Module) (ls : List Value) (hart : ℕ) (h : J.Here) (i : Instruction) (old : List Value) (s : RunState) where
  abbrev Does : ℕ → List Access → J.Act
  Does k xs = J.act m ls hart h i (filled old) (store s k xs)

  pub label_next : (l : ℕ) → i ≡ I.Label l → DoneInPlace m Does P.Next old old s s
  label_next l e k = did_label m ls hart h i old s k l e

  truth_seen : (a : Source) (sl : List Value) (b : Bool) → sl ≡ old → source_value ls hart s sl a ≡ V.Truth b
      → b ≡ J.is_true (out-Value (source_value ls hart s old a))
  unfolding out-Value denote.Hole.Carrier.out
  truth_seen a sl b es e = sym (ap (λ q. J.is_true (out-Value q)) (sym (ap (λ q. source_value ls hart s q a) es) ∙ e))

  pub false_next : (a : Source) (l : ℕ) (sl : List Value) (b : Bool) → i ≡ I.JumpIf a l → sl ≡ old → source_value ls hart s sl a ≡ V.Truth b → b ≡ false
      → DoneInPlace m Does P.Next old old s s
  false_next a l sl b e es v t k = did_not_jump m ls hart h i old s k a l b e (truth_seen a sl b es v) t

  pub copied : (t : Target) (a : Source) (b : Bool) (r : InPlace) (new : List Value) (s' : RunState) → i ≡ I.Copy t a → r ≡ next_of b
      → Written hart t (source_value ls hart s old a) b old new s s' → DoneInPlace m Does r old new s s'
  copied t a true r new s' e er w =
      subst (λ q. DoneInPlace m Does q old new s s') (sym er) (λ k. did_copy m ls hart h i old s k t a new s' e w)
  copied t a false r new s' e er w = subst (λ q. DoneInPlace m Does q old new s s') (sym er) w

  pub worked : (t : Target) (op : Operation) (rs rs' : List Source) (b : Bool) (r : InPlace) (new : List Value) → i ≡ I.Apply t op rs → rs' ≡ rs
      → r ≡ next_of b → Applied m ls hart h.function t op rs' b old new s → DoneInPlace m Does r old new s s
  worked t op rs rs' true r new e es er d =
      subst (λ q. DoneInPlace m Does q old new s s) (sym er)
      (λ k. did_apply m ls hart h i old s k t op rs A.Go new s e
      (subst (λ q. Applied m ls hart h.function t op q true old new s) es d k))
  worked t op rs rs' false r new e es er d = subst (λ q. DoneInPlace m Does q old new s s) (sym er) (d, refl)

-- ---- where a call stands

module _ (m : Module) (ls : List Value) (hart : ℕ) (h : J.Here) (pc : ℕ) (code : List Instruction) (old new : List Value) (s t : RunState) where
  pub done_at : (found : Option (Bor Instruction)) (r : Bor Instruction) (d : InPlace) → code ≡ J.code_of m h.function
      → option_copied found ≡ slice_get code pc → found ≡ Some r
      → DoneInPlace m (λ k xs. J.act m ls hart h r.now (filled old) (store s k xs)) d old new s t
      → DoneInPlace m (λ k xs. J.acts m ls hart h pc (filled old) (store s k xs)) d old new s t
  done_at found r d ec e is x =
      let here : Some r.now ≡ slice_get (J.code_of m h.function) pc = sym (ap option_copied is) ∙ e ∙ ap (λ c. slice_get c pc) ec in
      subst (λ o. DoneInPlace m (λ k xs. J.act m ls hart h (J.or_stop o) (filled old) (store s k xs)) d old new s t) here x

-- one way and then another
pub along_both : (m : Module) (ls : List Value) (hart : ℕ) (cur0 cur cur' : Current) (s0 s t : RunState) (k0 k n : ℕ) → Along m ls hart cur0 s0 k0 cur s k
    → Along m ls hart cur s k cur' t n → Along m ls hart cur0 s0 k0 cur' t n
along_both m ls hart cur0 cur cur' s0 s t k0 k n a b = record {
  by = λ xs. (let first = a.by xs in let last = b.by first.0 in (last.0, λ r x. first.1 r (last.1 r x)));
  function = b.function ∙ a.function;
  no_more = omega (arith, a.no_more, b.no_more);
  ticks = omega (arith, a.ticks, b.ticks);
}

-- a call that stands where it stood
pub along_same : (m : Module) (ls : List Value) (hart : ℕ) (cur0 cur new : Current) (s0 s t : RunState) (k0 k : ℕ) → Along m ls hart cur0 s0 k0 cur s k
    → new.here ≡ cur.here → new.at ≡ cur.at → new.slots.items ≡ cur.slots.items → t ≡ s → Along m ls hart cur0 s0 k0 new t k
along_same m ls hart cur0 cur new s0 s t k0 k a eh ep es et = record {
  by = λ xs. (let first = a.by xs in (
    first.0,
    λ r y. first.1 r
        (subst (λ q. Runs m ls hart (seen cur.here) cur.at (filled q) (store s k first.0) r) es
        (subst (λ q. Runs m ls hart (seen cur.here) cur.at (filled new.slots.items) (store q k first.0) r) et
        (moved m ls hart cur.here new.here cur.at new.at (filled new.slots.items) (store t k first.0) r eh ep y))),
  ));
  function = ap (λ (q : Here). q.function) eh ∙ a.function;
  no_more =
      let q : remains m new.here.function new.at k ≡ remains m cur.here.function cur.at k = remains_same m cur.here new.here cur.at new.at k eh ep in
      omega (arith, a.no_more);
  ticks = a.ticks;
}

module _ (m : Module) (ls : List Value) (hart : ℕ) (cur new : Current) (s t : RunState) (d : InPlace) where
  abbrev Done : Type 0
  Done = DoneInPlace m (λ k xs. J.acts m ls hart (seen cur.here) cur.at (filled cur.slots.items) (store s k xs)) d cur.slots.items new.slots.items s t

  as_ : (q : InPlace) → d ≡ q → Done
      → DoneInPlace m (λ k xs. J.acts m ls hart (seen cur.here) cur.at (filled cur.slots.items) (store s k xs)) q cur.slots.items new.slots.items s t
  as_ q e x =
      subst (λ p. DoneInPlace m (λ k xs. J.acts m ls hart (seen cur.here) cur.at (filled cur.slots.items) (store s k xs)) p cur.slots.items
      new.slots.items s t) e x

  pub left_is : d ≡ P.Left → Done → (new.slots.items ≡ cur.slots.items) × (t ≡ s)
  left_is ed x = as_ P.Left ed x

  pub onward_next : d ≡ P.Next → Done → new.here ≡ cur.here → new.at ≡ cur.at → (cur' : Current) → cur'.here ≡ new.here → cur'.slots ≡ new.slots
      → cur'.at ≡ new.at + 1 → (k : ℕ) → Onward m ls hart cur s k cur' t k
  onward_next ed x eh ep cur' fh fl fp k = did_go m ls hart cur new s k t k A.Go refl (as_ P.Next ed x k) eh ep cur' fh fl fp

  pub onward_jump : (places : List (List ℕ)) → Ready m places → d ≡ P.Jump → Done → new.here ≡ cur.here → new.at ≡ cur.at → (cur' : Current)
      → cur'.here ≡ new.here → cur'.slots ≡ new.slots → cur'.at ≡ slice_index_or (table_of places cur.here.function) new.at 0
      → (k : ℕ) → Onward m ls hart cur s k cur' t k
  onward_jump places rd ed x eh ep cur' fh fl fp k =
      let y = as_ P.Jump ed x in
      did_leap m ls hart cur new s k t k (A.Jump y.0) places rd y.0 refl (y.1 k) eh ep cur' fh fl fp
