-- What instructions do, as the machine has it.
use Rattle.std.proofs.Common.{◌≡◌, ℕ, zero, suc, ◌-◌, ◌<◌, List, [], ◌∷◌, ◌++◌, Option, Some, None, refl, sym, ap, ◌∙◌, subst, true, false, Bool, arith, Bor}
use Rattle.std.specs.Option.{option_copied}
use Rattle.std.specs.Prelude.{ℤ, slice_get}
use Rattle.std.proofs.Common.{Global, Vec}
use Rattle.sail_types.specs.declared.values.Value.{Value, out-Value}
use Rattle.model_state.specs.declared.cause.Cause.{Cause}
use Rattle.model_state.specs.declared.cause.Cause.TheVariants as C
use Rattle.model_state.specs.declared.cause.Ended.TheVariants as E
use Rattle.model_state.specs.RunState.{RunState, Access, Ran}
use Rattle.jib.specs.declared.code.Call.{Call}
use Rattle.jib.specs.declared.code.Source.{Source}
use Rattle.jib.specs.declared.code.Source.TheVariants as R
use Rattle.jib.specs.declared.code.Target.{Target}
use Rattle.jib.specs.declared.code.Target.TheVariants as T
use Rattle.jib.specs.declared.code.Operation.{Operation}
use Rattle.jib.specs.declared.code.Instruction.{Instruction}
use Rattle.jib.specs.declared.code.Instruction.TheVariants as I
use Rattle.jib.specs.declared.code.Module.{Module}
use Rattle.jib.specs.Values.{fit, zero_of}
use Rattle.jib.specs.Jib as J
use Rattle.jib_machine.specs.declared.act.Act.{Act}
use Rattle.jib_machine.specs.declared.act.Act.TheVariants as A
use Rattle.jib_machine.specs.declared.act.Ending.{Ending}
use Rattle.jib_machine.specs.declared.act.Ending.TheVariants as N
use Rattle.jib_values.specs.declared.results.Made.{Made}
use Rattle.jib_values.specs.declared.results.Made.TheVariants as M
use Rattle.jib_values.specs.Sources.{filled, source_value, source_values}
use Rattle.jib_machine.specs.parts.Begun.{store}
use Rattle.jib_values.specs.Results.{Wrote, MadeIs}
use Rattle.jib_machine.specs.parts.Acts.{Acted, outcome_of}
use Rattle.jib_machine.specs.parts.Unread.{Begins}

read_is : (m : Module) (ls : List Value) (hart : ℕ) (a : Source) (sl : List Value) (s : RunState) (k : ℕ) (xs : List Access)
    → J.read m ls hart a (filled sl) (store s k xs) ≡ source_value ls hart s sl a
read_is m ls hart (R.Slot i) sl s k xs = refl
read_is m ls hart (R.Register i) sl s k xs = refl
read_is m ls hart (R.Let i) sl s k xs = refl
read_is m ls hart (R.Constant t l) sl s k xs = refl

reads_are : (m : Module) (ls : List Value) (hart : ℕ) (rs : List Source) (sl : List Value) (s : RunState) (k : ℕ) (xs : List Access)
    → J.reads m ls hart rs (filled sl) (store s k xs) ≡ source_values ls hart s sl rs
reads_are m ls hart [] sl s k xs = refl
reads_are m ls hart (a ∷ rs) sl s k xs = λ j. read_is m ls hart a sl s k xs j ∷ reads_are m ls hart rs sl s k xs j

pub write_is : (m : Module) (ls : List Value) (hart : ℕ) (t : Target) (v : Value) (old new : List Value) (s s' : RunState) (k : ℕ) (xs : List Access)
    → Wrote hart t v old new s s' → J.write m ls hart t v (filled old) (store s k xs) ≡ J.Go (filled new) (store s' k xs)
write_is m ls hart (T.Slot i) v old new s s' k xs w = λ j. J.Go (sym w.0 j) (store (sym w.1 j) k xs)
write_is m ls hart (T.Register i) v old new s s' k xs w = λ j. J.Go (filled (sym w.0 j)) (store (sym w.1 j) k xs)

module _ (m : Module) (ls : List Value) (hart : ℕ) (h : J.Here) (i : Instruction) (old : List Value) (s : RunState) (k : ℕ) where
  abbrev Does : List Access → J.Act
  Does xs = J.act m ls hart h i (filled old) (store s k xs)

  does : (i' : Instruction) → i ≡ i' → (xs : List Access) → Does xs ≡ J.act m ls hart h i' (filled old) (store s k xs)
  does i' e xs = λ j. J.act m ls hart h (e j) (filled old) (store s k xs)

  pub did_copy : (t : Target) (a : Source) (new : List Value) (s' : RunState) → i ≡ I.Copy t a → Wrote hart t (source_value ls hart s old a) old new s s'
      → Acted m Does A.Go old new s k s' k
  did_copy t a new s' e w xs = (
    xs,
    does (I.Copy t a) e xs ∙ ap (λ v. J.write m ls hart t v (filled old) (store s k xs)) (read_is m ls hart a old s k xs)
        ∙ write_is m ls hart t (source_value ls hart s old a) old new s s' k xs w,
  )

  pub did_apply : (t : Target) (op : Operation) (rs : List Source) (a : Act) (new : List Value) (s' : RunState) → i ≡ I.Apply t op rs
      → Acted m (λ xs. J.apply m ls hart t (J.type_of m h.function t) op (source_values ls hart s old rs) (filled old) (store s k xs)) a old new s k s' k
      → Acted m Does a old new s k s' k
  did_apply t op rs a new s' e d = subst (λ f. Acted m f a old new s k s' k) (λ j. λ xs. same xs j) d
    where
      same : (xs : List Access) → J.apply m ls hart t (J.type_of m h.function t) op (source_values ls hart s old rs) (filled old) (store s k xs) ≡ Does xs
      same xs = sym (does (I.Apply t op rs) e xs
          ∙ ap (λ vs. J.apply m ls hart t (J.type_of m h.function t) op vs (filled old) (store s k xs)) (reads_are m ls hart rs old s k xs))

  pub did_call : (c : Call) (slots : Vec Value Global) → i ≡ I.Call c
      → Begins m c.function (source_values ls hart s old c.arguments) slots.items
      → Acted m Does (A.Enter c.slot c.function slots c.on_throw c.place) old old s k s k
  did_call c slots e f = (
    source_values ls hart s old c.arguments,
    (λ xs. does (I.Call c) e xs ∙ ap (λ vs. J.Enter c.slot c.function vs c.on_throw c.place) (reads_are m ls hart c.arguments old s k xs)),
    f,
    refl,
    refl,
    refl,
  )

  pub did_jump : (a : Source) (l : ℕ) (b : Bool) → i ≡ I.JumpIf a l → b ≡ J.is_true (out-Value (source_value ls hart s old a)) → b ≡ true
      → Acted m Does (A.Jump l) old old s k s k
  did_jump a l b e is truly = (
    (λ xs. does (I.JumpIf a l) e xs ∙ ap (λ v. J.branch (J.is_true (out-Value v)) l (filled old) (store s k xs)) (read_is m ls hart a old s k xs)
        ∙ ap (λ q. J.branch q l (filled old) (store s k xs)) (sym is ∙ truly)),
    refl,
    refl,
    refl,
  )

  pub did_not_jump : (a : Source) (l : ℕ) (b : Bool) → i ≡ I.JumpIf a l → b ≡ J.is_true (out-Value (source_value ls hart s old a)) → b ≡ false
      → Acted m Does A.Go old old s k s k
  did_not_jump a l b e is falsely xs = (
    xs,
    does (I.JumpIf a l) e xs ∙ ap (λ v. J.branch (J.is_true (out-Value v)) l (filled old) (store s k xs)) (read_is m ls hart a old s k xs)
        ∙ ap (λ q. J.branch q l (filled old) (store s k xs)) (sym is ∙ falsely),
  )

  taken : (j : ℕ) (a : Source) (n l : ℕ) (o : Option Value) → i ≡ I.Payload j a n l → o ≡ J.payload n (out-Value (source_value ls hart s old a))
      → (xs : List Access) → Does xs ≡ J.take_out j l o (filled old) (store s k xs)
  taken j a n l o e is xs =
      does (I.Payload j a n l) e xs
      ∙ ap (λ v. J.take_out j l (J.payload n (out-Value v)) (filled old) (store s k xs)) (read_is m ls hart a old s k xs)
      ∙ ap (λ q. J.take_out j l q (filled old) (store s k xs)) (sym is)

  pub did_take : (j : ℕ) (a : Source) (n l : ℕ) (o : Option Value) (v : Value) (new : List Value) → i ≡ I.Payload j a n l
      → o ≡ J.payload n (out-Value (source_value ls hart s old a)) → o ≡ Some v → filled new ≡ J.put (filled old) j v → Acted m Does A.Go old new s k s k
  did_take j a n l o v new e is some p xs =
      (xs, taken j a n l o e is xs ∙ ap (λ q. J.take_out j l q (filled old) (store s k xs)) some ∙ (λ q. J.Go (sym p q) (store s k xs)))

  pub did_not_take : (j : ℕ) (a : Source) (n l : ℕ) (o : Option Value) → i ≡ I.Payload j a n l
      → o ≡ J.payload n (out-Value (source_value ls hart s old a)) → o ≡ None → Acted m Does (A.Jump l) old old s k s k
  did_not_take j a n l o e is none =
      ((λ xs. taken j a n l o e is xs ∙ ap (λ q. J.take_out j l q (filled old) (store s k xs)) none), refl, refl, refl)

  pub did_goto : (l : ℕ) → i ≡ I.Goto l → Acted m Does (A.Jump l) old old s k s k
  did_goto l e = ((λ xs. does (I.Goto l) e xs), refl, refl, refl)

  pub did_label : (l : ℕ) → i ≡ I.Label l → Acted m Does A.Go old old s k s k
  did_label l e xs = (xs, does (I.Label l) e xs)

  pub did_end : (a : Source) (v : Value) → i ≡ I.End a → v ≡ source_value ls hart s old a → Acted m Does (A.Over (N.Value v)) old old s k s k
  did_end a v e is xs = (xs, does (I.End a) e xs ∙ ap (λ q. J.Over (J.Gives q (store s k xs))) (read_is m ls hart a old s k xs ∙ sym is))

  pub did_throw : (a : Source) (v : Value) → i ≡ I.Throw a → v ≡ source_value ls hart s old a → Acted m Does (A.Over (N.Threw v)) old old s k s k
  did_throw a v e is xs = (xs, does (I.Throw a) e xs ∙ ap (λ q. J.Over (J.Throws q (store s k xs))) (read_is m ls hart a old s k xs ∙ sym is))

  pub did_stop : (c c' : Cause) → i ≡ I.Stop c → c' ≡ c → Acted m Does (A.Over (N.Stopped c')) old old s k s k
  did_stop c c' e is xs = (xs, does (I.Stop c) e xs ∙ ap (λ q. J.Over (J.Stops q (store s k xs))) (sym is))

  pub did_no_measure : i ≡ I.NoMeasure → Acted m Does (A.Over (N.Stopped (C.MatchFailure h.place))) old old s k s k
  did_no_measure e xs = (xs, does I.NoMeasure e xs)

  pub did_measure : (a : Source) (v : Value) (r : Act) → i ≡ I.Measure a → v ≡ source_value ls hart s old a
      → Acted m (λ xs. J.measured (J.measure_of (out-Value v)) h.measure h.place (store s k xs)) r old old s k s k → Acted m Does r old old s k s k
  did_measure a v r e is d = subst (λ f. Acted m f r old old s k s k) (λ j. λ xs. same xs j) d
    where
      same : (xs : List Access) → J.measured (J.measure_of (out-Value v)) h.measure h.place (store s k xs) ≡ Does xs
      same xs = sym (does (I.Measure a) e xs
          ∙ ap (λ q. J.measured (J.measure_of (out-Value q)) h.measure h.place (store s k xs)) (read_is m ls hart a old s k xs ∙ sym is))

  pub did_tick : (r : Act) (n : ℕ) → i ≡ I.Tick → Acted m (λ xs. J.tick k (filled old) (store s k xs)) r old old s k s n → Acted m Does r old old s k s n
  did_tick r n e d = subst (λ f. Acted m f r old old s k s n) (λ j. λ xs. sym (does I.Tick e xs) j) d

-- ---- operations

module _ (m : Module) (ls : List Value) (hart : ℕ) (t : Target) (typ : ℕ) (op : Operation) (vs : List Value) (old : List Value) (s : RunState) where
  abbrev Applies : ℕ → List Access → J.Act
  Applies k xs = J.apply m ls hart t typ op vs (filled old) (store s k xs)

  abbrev Ops : Option Ran
  Ops = J.operate (slice_get m.types typ) op vs hart s

  pub applied_none : (made : Made) (mid : RunState) (z : Value) (new : List Value) (s' : RunState) → MadeIs Ops made s mid → made ≡ M.Nothing
      → z ≡ zero_of m.types typ → Wrote hart t z old new mid s' → (k : ℕ) → Acted m (Applies k) A.Go old new s k s' k
  applied_none made mid z new s' d e ez w k xs =
      let d' : (Ops ≡ None) × (mid ≡ s) = subst (λ q. MadeIs Ops q s mid) e d in (
        xs,
        ap (λ o. J.finish m ls hart t typ o (filled old) (store s k xs)) d'.0
            ∙ (λ j. J.write m ls hart t (sym ez j) (filled old) (store (sym d'.1 j) k xs)) ∙ write_is m ls hart t z old new mid s' k xs w,
      )

  pub applied_some : (made : Made) (v : Value) (mid : RunState) (z : Value) (new : List Value) (s' : RunState) → MadeIs Ops made s mid → made ≡ M.Result v
      → z ≡ fit m.types typ v → Wrote hart t z old new mid s' → (k : ℕ) → Acted m (Applies k) A.Go old new s k s' k
  applied_some made v mid z new s' d e ez w k xs =
      let d' : MadeIs Ops (M.Result v) s mid = subst (λ q. MadeIs Ops q s mid) e d in (
        xs ++ d'.0,
        ap (λ o. J.finish m ls hart t typ o (filled old) (store s k xs)) d'.1
            ∙ (λ j. J.write m ls hart t (sym ez j) (filled old) (store mid k (xs ++ d'.0))) ∙ write_is m ls hart t z old new mid s' k (xs ++ d'.0) w,
      )

  pub applied_stop : (made : Made) (c : Cause) (s' : RunState) → MadeIs Ops made s s' → made ≡ M.Stop c
      → (k : ℕ) → Acted m (Applies k) (A.Over (N.Stopped c)) old old s k s' k
  applied_stop made c s' d e k xs =
      let d' : MadeIs Ops (M.Stop c) s s' = subst (λ q. MadeIs Ops q s s') e d in
      (xs ++ d'.0, ap (λ o. J.finish m ls hart t typ o (filled old) (store s k xs)) d'.1)

-- the type's number as the machine found it
pub at_type : (m : Module) (ls : List Value) (hart : ℕ) (t : Target) (typ typ' : ℕ) (op : Operation) (vs : List Value) (old new : List Value) (s s' : RunState)
    (a : Act) → typ ≡ typ'
    → ((k : ℕ) → Acted m (λ xs. J.apply m ls hart t typ op vs (filled old) (store s k xs)) a old new s k s' k)
    → (k : ℕ) → Acted m (λ xs. J.apply m ls hart t typ' op vs (filled old) (store s k xs)) a old new s k s' k
at_type m ls hart t typ typ' op vs old new s s' a e h k = subst (λ q. Acted m (λ xs. J.apply m ls hart t q op vs (filled old) (store s k xs)) a old new s k
    s' k) e (h k)

pub tick_on : (k : ℕ) (slots : List Value) (s : RunState) (xs : List Access) → 0 < k → J.tick k (filled slots) (store s k xs) ≡ J.Go (filled slots) (store s
    (k - 1) xs)
tick_on zero slots s xs h = absurd (omega (arith, h))
tick_on (suc n) slots s xs h = let e : n ≡ suc n - 1 = omega arith in ap (λ q. J.Go (filled slots) (store s q xs)) e

-- ---- where a call stands

module _ (m : Module) (ls : List Value) (hart : ℕ) (h : J.Here) (pc : ℕ) (code : List Instruction) (old : List Value) (s : RunState) (k : ℕ) where
  pub acted_at : (found : Option (Bor Instruction)) (r : Bor Instruction) (a : Act) (new : List Value) (t : RunState) (n : ℕ) → code ≡ J.code_of m h.function
      → option_copied found ≡ slice_get code pc → found ≡ Some r → Acted m (λ xs. J.act m ls hart h r.now (filled old) (store s k xs)) a old new s k t n
      → Acted m (λ xs. J.acts m ls hart h pc (filled old) (store s k xs)) a old new s k t n
  acted_at found r a new t n ec e is d =
      let here : Some r.now ≡ slice_get (J.code_of m h.function) pc = sym (ap option_copied is) ∙ e ∙ ap (λ c. slice_get c pc) ec in
      subst (λ o. Acted m (λ xs. J.act m ls hart h (J.or_stop o) (filled old) (store s k xs)) a old new s k t n) here d

  pub acted_past : (found : Option (Bor Instruction)) → code ≡ J.code_of m h.function → option_copied found ≡ slice_get code pc → found ≡ None
      → (xs : List Access) → (ys : List Access)
      × (J.acts m ls hart h pc (filled old) (store s k xs) ≡ J.Over (J.Stops C.WorkLimit (store s k ys)))
  acted_past found ec e is xs =
      let here : slice_get (J.code_of m h.function) pc ≡ None = sym (ap (λ c. slice_get c pc) ec) ∙ sym e ∙ ap option_copied is in
      (xs, ap (λ o. J.act m ls hart h (J.or_stop o) (filled old) (store s k xs)) here)
