-- A run doesn't depend on what stands at its beginning in slots that are written before they are read.
use Rattle.std.proofs.Common.{◌≡◌, ℕ, zero, suc, ◌+◌, ◌⊎◌, inl, inr, List, [], ◌∷◌, Option, Some, None, refl, sym, ap, ◌∙◌, subst, Bool, true, false, cond}
use Rattle.std.proofs.Common.{arith}
use Rattle.std.specs.Prelude.{slice_get, nat_eq, not, ◌&&◌, ◌||◌, ℤ, int_lt}
use Rattle.std.proofs.lemmas.Bool.Decides.{nat_tests}
use Rattle.sail_base.specs.declared.place.Place.{Place}
use Rattle.sail_types.specs.declared.values.Value.{Value, out-Value}
use Rattle.model_state.specs.declared.cause.Ended.{Ended}
use Rattle.model_state.specs.declared.cause.Ended.TheVariants as E
use Rattle.model_state.specs.RunState.{Ran}
use Rattle.jib.specs.declared.code.Source.{Source}
use Rattle.jib.specs.declared.code.Source.TheVariants as R
use Rattle.jib.specs.declared.code.Target.{Target}
use Rattle.jib.specs.declared.code.Target.TheVariants as T
use Rattle.jib.specs.declared.code.Instruction.{Instruction}
use Rattle.jib.specs.declared.code.Instruction.TheVariants as I
use Rattle.jib.specs.declared.code.Module.{Module}
use Rattle.jib.specs.Values.{fit, zero_of}
use Rattle.jib.specs.Jib.{Slots, Store, Outcome, Gives, Throws, Here, Act, Go, Sink, Over, Enter, act, acts, or_stop, at, code_of, put}
use Rattle.jib.specs.Jib.{type_of, tick, branch, take_out, sink, measured, measure_of, is_true, payload, write, end_of, finish, operate, with_ran, read, reads}
use Rattle.jib.specs.Jib.{Runs, runs_go, runs_jump, runs_sink, runs_over, runs_back, runs_caught, runs_stopped}
use Rattle.jib_machine.specs.parts.Unread.{reads_slot, read_among, sources_in, target_slot, slot_written, is_slot, written_behind, needed_from, is_needed}

-- ---- truths

or_left : (a b : Bool) → a ≡ true → (a || b) ≡ true
or_left a b e = ap (λ q. q || b) e

or_right : (a b : Bool) → b ≡ true → (a || b) ≡ true
or_right true b e = refl
or_right false b e = e

or_true : (a b : Bool) → (a || b) ≡ true → (a ≡ true) ⊎ (b ≡ true)
or_true true b e = inl refl
or_true false b e = inr e

neither : (a b : Bool) → (a || b) ≡ false → b ≡ false
neither true b e = absurd (cc)
neither false b e = e

-- ---- a slot along a function's code

-- whether it was written since the last label, at a place
abbrev fresh_from : ℕ → Bool → List Instruction → ℕ → Bool
fresh_from i b c zero = b
fresh_from i b [] (suc pc) = b
fresh_from i b (x ∷ c) (suc pc) = fresh_from i (written_behind i x b) c pc

fresh_next : (i : ℕ) (b : Bool) (c : List Instruction) (pc : ℕ) → fresh_from i b c (suc pc) ≡ written_behind i (at c pc) (fresh_from i b c pc)
fresh_next i b [] zero = refl
fresh_next i b [] (suc pc) = refl
fresh_next i b (x ∷ c) zero = refl
fresh_next i b (x ∷ c) (suc pc) = fresh_next i (written_behind i x b) c pc

read_fresh : (b r rest : Bool) → ((not b && r) || rest) ≡ false → r ≡ true → b ≡ true
read_fresh true r rest h e = refl
read_fresh false true rest h e = absurd (cc)
read_fresh false false rest h e = absurd (cc)

not_needed : (i : ℕ) (b : Bool) (c : List Instruction) (pc : ℕ) → needed_from i b c ≡ false → read_among i (sources_in (at c pc)) ≡ true
    → fresh_from i b c pc ≡ true
not_needed i b [] zero h e = absurd (cc)
not_needed i b [] (suc pc) h e = absurd (cc)
not_needed i b (x ∷ c) zero h e =
    read_fresh b (read_among i (sources_in x)) (needed_from i (written_behind i x b) c) h e
not_needed i b (x ∷ c) (suc pc) h e =
    not_needed i (written_behind i x b) c pc
    (neither (not b && read_among i (sources_in x)) (needed_from i (written_behind i x b) c) h) e

abbrev is_label : Instruction → Bool
is_label (I.Label l) = true
is_label x = false

reader_sets_none : (i : ℕ) (x : Instruction) → read_among i (sources_in x) ≡ true → is_label x ≡ false
reader_sets_none i (I.Label l) e = absurd (cc)
reader_sets_none i x e = refl

behind_true : (i : ℕ) (x : Instruction) (b : Bool) → written_behind i x b ≡ true
    → (is_slot i (slot_written x) ≡ true) ⊎ ((is_label x ≡ false) × (b ≡ true))
behind_true i (I.Label l) b e = absurd (cc)
behind_true i x b e = split (or_true (is_slot i (slot_written x)) b e)
  where
    split : (is_slot i (slot_written x) ≡ true) ⊎ (b ≡ true) → (is_slot i (slot_written x) ≡ true) ⊎ ((is_label x ≡ false) × (b ≡ true))
    split (inl w) = inl w
    split (inr t) = inr (refl, t)

-- what stands in it may matter at a place: it is one of these, or was written
abbrev Live : List Instruction → (ℕ → Bool) → ℕ → ℕ → Type 0
Live c N pc i = (N i ≡ true) ⊎ ((is_label (at c pc) ≡ false) × (fresh_from i false c pc ≡ true))

live_read : (c : List Instruction) (N : ℕ → Bool) → ((i : ℕ) → N i ≡ false → is_needed i c ≡ false) → (pc i : ℕ)
    → read_among i (sources_in (at c pc)) ≡ true → Live c N pc i
live_read c N cov pc i e = by (N i) refl
  where
    by : (b : Bool) → N i ≡ b → Live c N pc i
    by true n = inl n
    by false n = inr (reader_sets_none i (at c pc) e, not_needed i false c pc (cov i n) e)

live_next : (c : List Instruction) (N : ℕ → Bool) (pc i : ℕ) → Live c N (suc pc) i → (is_slot i (slot_written (at c pc)) ≡ true) ⊎ Live c N pc i
live_next c N pc i (inl n) = inr (inl n)
live_next c N pc i (inr f) = split (behind_true i (at c pc) (fresh_from i false c pc) (sym (fresh_next i false c pc) ∙ f.1))
  where
    split : (is_slot i (slot_written (at c pc)) ≡ true) ⊎ ((is_label (at c pc) ≡ false) × (fresh_from i false c pc ≡ true))
        → (is_slot i (slot_written (at c pc)) ≡ true) ⊎ Live c N pc i
    split (inl w) = inl w
    split (inr g) = inr (inr g)

-- ---- what an instruction does over other slots

put_alike : (i : ℕ) (v : Value) (sl sl' : Slots) (j : ℕ) → (nat_eq i j ≡ true) ⊎ (sl j ≡ sl' j) → put sl i v j ≡ put sl' i v j
put_alike i v sl sl' j (inl e) = ap (λ b. cond b v (sl j)) e ∙ sym (ap (λ b. cond b v (sl' j)) e)
put_alike i v sl sl' j (inr e) = ap (λ q. cond (nat_eq i j) v q) e

-- the same act, or slots that are the same where these are, or where it writes
abbrev Alike : Option ℕ → Slots → Slots → Act → Act → Type 0
Alike w sl sl' (Go to s) b = (to' : Slots) × (b ≡ Go to' s) × ((i : ℕ) → (is_slot i w ≡ true) ⊎ (sl i ≡ sl' i) → to i ≡ to' i)
Alike w sl sl' (Sink z) b = (b ≡ Sink z) × (w ≡ None)
Alike w sl sl' (Enter i f vs l p) b = (b ≡ Enter i f vs l p) × (w ≡ Some i)
Alike w sl sl' a b = b ≡ a

same_number : (n : ℕ) → nat_eq n n ≡ true
same_number n = grind (arith, nat_tests)

none_written : {A : Type 0} → (false ≡ true) ⊎ A → A
none_written (inl e) = absurd (cc)
none_written (inr a) = a

module _ (m : Module) (ls : List Value) (hart : ℕ) (sl sl' : Slots) where
  stay : (s : Store) → Alike None sl sl' (Go sl s) (Go sl' s)
  stay s = (sl', refl, λ i k. none_written k)

  read_alike : (a : Source) (s : Store) → ((i : ℕ) → reads_slot i a ≡ true → sl i ≡ sl' i) → read m ls hart a sl s ≡ read m ls hart a sl' s
  read_alike (R.Slot i) s g = g i (same_number i)
  read_alike (R.Register i) s g = refl
  read_alike (R.Let i) s g = refl
  read_alike (R.Constant t l) s g = refl

  reads_alike : (rs : List Source) (s : Store) → ((i : ℕ) → read_among i rs ≡ true → sl i ≡ sl' i) → reads m ls hart rs sl s ≡ reads m ls hart rs sl' s
  reads_alike [] s g = refl
  reads_alike (a ∷ rs) s g =
      λ j. read_alike a s (λ i e. g i (or_left (reads_slot i a) (read_among i rs) e)) j
      ∷ reads_alike rs s (λ i e. g i (or_right (reads_slot i a) (read_among i rs) e)) j

  one_alike : (a : Source) (s : Store) → ((i : ℕ) → read_among i (a ∷ []) ≡ true → sl i ≡ sl' i) → read m ls hart a sl s ≡ read m ls hart a sl' s
  one_alike a s g = read_alike a s (λ i e. g i (or_left (reads_slot i a) false e))

  write_alike : (t : Target) (v : Value) (s : Store) → Alike (target_slot t) sl sl' (write m ls hart t v sl s) (write m ls hart t v sl' s)
  write_alike (T.Slot i) v s = (put sl' i v, refl, put_alike i v sl sl')
  write_alike (T.Register i) v s = (sl', refl, λ j k. none_written k)

  end_alike : (t : Target) (typ : ℕ) (e : Ended) (s : Store) → Alike (target_slot t) sl sl' (end_of m ls hart t typ e sl s) (end_of m ls hart t typ e sl' s)
  end_alike t typ (E.Value v) s = write_alike t (fit m.types typ v) s
  end_alike t typ (E.Stop cause) s = refl

  finish_alike : (t : Target) (typ : ℕ) (o : Option Ran) (s : Store)
      → Alike (target_slot t) sl sl' (finish m ls hart t typ o sl s) (finish m ls hart t typ o sl' s)
  finish_alike t typ None s = write_alike t (zero_of m.types typ) s
  finish_alike t typ (Some ran) s = end_alike t typ ran.ended (with_ran ran s)

  branch_alike : (b : Bool) (l : ℕ) (s : Store) → Alike None sl sl' (branch b l sl s) (branch b l sl' s)
  branch_alike true l s = refl
  branch_alike false l s = stay s

  take_alike : (i l : ℕ) (o : Option Value) (s : Store) → Alike (Some i) sl sl' (take_out i l o sl s) (take_out i l o sl' s)
  take_alike i l (Some v) s = (put sl' i v, refl, put_alike i v sl sl')
  take_alike i l None s = refl

  sink_alike : (b : Bool) (z : ℤ) (place : Place) (s : Store) → Alike None sl sl' (sink b z place s) (sink b z place s)
  sink_alike true z place s = (refl, refl)
  sink_alike false z place s = refl

  measured_alike : (z : ℤ) (o : Option ℤ) (place : Place) (s : Store) → Alike None sl sl' (measured z o place s) (measured z o place s)
  measured_alike z None place s = (refl, refl)
  measured_alike z (Some before) place s = sink_alike (int_lt z before) z place s

  tick_alike : (k : ℕ) (s : Store) → Alike None sl sl' (tick k sl s) (tick k sl' s)
  tick_alike zero s = refl
  tick_alike (suc k) s = stay (record s { ticks = k })

  act_alike : (h : Here) (x : Instruction) (s : Store) → ((i : ℕ) → read_among i (sources_in x) ≡ true → sl i ≡ sl' i)
      → Alike (slot_written x) sl sl' (act m ls hart h x sl s) (act m ls hart h x sl' s)
  act_alike h (I.Copy t a) s g =
      subst (λ v. Alike (target_slot t) sl sl' (write m ls hart t (read m ls hart a sl s) sl s) (write m ls hart t v sl' s)) (one_alike a s g)
      (write_alike t (read m ls hart a sl s) s)
  act_alike h (I.Apply t op rs) s g =
      let typ = type_of m h.function t in
      subst (λ vs. Alike (target_slot t) sl sl' (finish m ls hart t typ (operate (slice_get m.types typ) op (reads m ls hart rs sl s) hart s.state) sl s)
      (finish m ls hart t typ (operate (slice_get m.types typ) op vs hart s.state) sl' s)) (reads_alike rs s g)
      (finish_alike t typ (operate (slice_get m.types typ) op (reads m ls hart rs sl s) hart s.state) s)
  act_alike h (I.Call c) s g = (ap (λ vs. Enter c.slot c.function vs c.on_throw c.place) (sym (reads_alike c.arguments s g)), refl)
  act_alike h (I.JumpIf a l) s g =
      subst (λ v. Alike None sl sl' (branch (is_true (out-Value (read m ls hart a sl s))) l sl s) (branch (is_true (out-Value v)) l sl' s)) (one_alike a s g)
      (branch_alike (is_true (out-Value (read m ls hart a sl s))) l s)
  act_alike h (I.Payload i a k l) s g =
      subst (λ v. Alike (Some i) sl sl' (take_out i l (payload k (out-Value (read m ls hart a sl s))) sl s) (take_out i l (payload k (out-Value v)) sl' s))
      (one_alike a s g) (take_alike i l (payload k (out-Value (read m ls hart a sl s))) s)
  act_alike h (I.Goto l) s g = refl
  act_alike h (I.Label l) s g = stay s
  act_alike h (I.End a) s g = ap (λ v. Over (Gives v s)) (sym (one_alike a s g))
  act_alike h (I.Throw a) s g = ap (λ v. Over (Throws v s)) (sym (one_alike a s g))
  act_alike h (I.Stop cause) s g = refl
  act_alike h I.NoMeasure s g = refl
  act_alike h (I.Measure a) s g =
      subst (λ v. Alike None sl sl' (measured (measure_of (out-Value (read m ls hart a sl s))) h.measure h.place s) (measured (measure_of (out-Value v))
      h.measure
      h.place s)) (one_alike a s g) (measured_alike (measure_of (out-Value (read m ls hart a sl s))) h.measure h.place s)
  act_alike h I.Tick s g = tick_alike s.ticks s

-- ---- runs

module _ (m : Module) (ls : List Value) (hart : ℕ) (N : ℕ → ℕ → Bool) (cov : (f i : ℕ) → N f i ≡ false → is_needed i (code_of m f) ≡ false) where
  -- slots are the same where that may matter
  abbrev Agree : ℕ → ℕ → Slots → Slots → Type 0
  Agree f pc sl sl' = (i : ℕ) → Live (code_of m f) (N f) pc i → sl i ≡ sl' i

  acts_alike : (h : Here) (pc : ℕ) (sl sl' : Slots) (s : Store) → Agree h.function pc sl sl'
      → Alike (slot_written (at (code_of m h.function) pc)) sl sl' (acts m ls hart h pc sl s) (acts m ls hart h pc sl' s)
  acts_alike h pc sl sl' s g =
      act_alike m ls hart sl sl' h (at (code_of m h.function) pc) s
      (λ i e. g i (live_read (code_of m h.function) (N h.function) (cov h.function) pc i e))

  agree_next : (f pc : ℕ) (sl sl' to to' : Slots) → Agree f pc sl sl'
      → ((i : ℕ) → (is_slot i (slot_written (at (code_of m f) pc)) ≡ true) ⊎ (sl i ≡ sl' i) → to i ≡ to' i) → Agree f (pc + 1) to to'
  agree_next f pc sl sl' to to' g k i live =
      let e : pc + 1 ≡ suc pc = omega arith in
      k i (split (live_next (code_of m f) (N f) pc i (subst (λ q. Live (code_of m f) (N f) q i) e live)))
    where
      split : (is_slot i (slot_written (at (code_of m f) pc)) ≡ true) ⊎ Live (code_of m f) (N f) pc i
          → (is_slot i (slot_written (at (code_of m f) pc)) ≡ true) ⊎ (sl i ≡ sl' i)
      split (inl w) = inl w
      split (inr l) = inr (g i l)

  -- at a label only these matter
  label_live : (f p l i : ℕ) → slice_get (code_of m f) p ≡ Some (I.Label l) → Live (code_of m f) (N f) p i → N f i ≡ true
  label_live f p l i is (inl n) = n
  label_live f p l i is (inr g) =
      let no_ : true ≡ false = sym (ap (λ o. is_label (or_stop o)) is) ∙ g.0 in
      absurd (cc)

  agree_label : (f pc p l : ℕ) (sl sl' : Slots) → slice_get (code_of m f) p ≡ Some (I.Label l) → Agree f pc sl sl' → Agree f p sl sl'
  agree_label f pc p l sl sl' is g i live = g i (inl (label_live f p l i is live))

  agree_caught : (f pc p l : ℕ) (v : Value) (sl sl' : Slots) → slice_get (code_of m f) p ≡ Some (I.Label l) → Agree f pc sl sl'
      → Agree f p (put sl 0 v) (put sl' 0 v)
  agree_caught f pc p l v sl sl' is g i live = put_alike 0 v sl sl' i (inr (g i (inl (label_live f p l i is live))))

  same_run : {h : Here} {pc : ℕ} {sl : Slots} {s : Store} {r : Outcome} → Runs m ls hart h pc sl s r → (sl' : Slots) → Agree h.function pc sl sl'
      → Runs m ls hart h pc sl' s r
  same_run (runs_go {h = h} {pc = pc} {slots = sl} {slots' = to} {s = s} {s' = t} e x) sl' g =
      let w = slot_written (at (code_of m h.function) pc) in
      let b = subst (λ q. Alike w sl sl' q (acts m ls hart h pc sl' s)) e (acts_alike h pc sl sl' s g) in
      runs_go b.1 (same_run x b.0 (agree_next h.function pc sl sl' to b.0 g b.2))
  same_run (runs_jump {h = h} {pc = pc} {p = p} {label = l} {slots = sl} {s = s} e k x) sl' g =
      let w = slot_written (at (code_of m h.function) pc) in
      let b = subst (λ q. Alike w sl sl' q (acts m ls hart h pc sl' s)) e (acts_alike h pc sl sl' s g) in
      runs_jump b k (same_run x sl' (agree_label h.function pc p l sl sl' k g))
  same_run (runs_sink {h = h} {pc = pc} {slots = sl} {s = s} e x) sl' g =
      let w = slot_written (at (code_of m h.function) pc) in
      let b = subst (λ q. Alike w sl sl' q (acts m ls hart h pc sl' s)) e (acts_alike h pc sl sl' s g) in
      runs_sink b.0 (same_run x sl' (agree_next h.function pc sl sl' sl sl' g
      (λ i k. none_written (subst (λ q. (is_slot i q ≡ true) ⊎ (sl i ≡ sl' i)) b.1 k))))
  same_run (runs_over {h = h} {pc = pc} {slots = sl} {s = s} e) sl' g =
      let w = slot_written (at (code_of m h.function) pc) in
      let b = subst (λ q. Alike w sl sl' q (acts m ls hart h pc sl' s)) e (acts_alike h pc sl sl' s g) in
      runs_over b
  same_run (runs_back {h = h} {pc = pc} {i = i} {v = v} {slots = sl} {s = s} e y x) sl' g =
      let w = slot_written (at (code_of m h.function) pc) in
      let b = subst (λ q. Alike w sl sl' q (acts m ls hart h pc sl' s)) e (acts_alike h pc sl sl' s g) in
      runs_back b.0 y (same_run x (put sl' i v) (agree_next h.function pc sl sl' (put sl i v) (put sl' i v) g
      (λ j k. put_alike i v sl sl' j (subst (λ q. (is_slot j q ≡ true) ⊎ (sl j ≡ sl' j)) b.1 k))))
  same_run (runs_caught {h = h} {pc = pc} {p = p} {label = l} {v = v} {slots = sl} {s = s} e y k x) sl' g =
      let w = slot_written (at (code_of m h.function) pc) in
      let b = subst (λ q. Alike w sl sl' q (acts m ls hart h pc sl' s)) e (acts_alike h pc sl sl' s g) in
      runs_caught b.0 y k (same_run x (put sl' 0 v) (agree_caught h.function pc p l v sl sl' k g))
  same_run (runs_stopped {h = h} {pc = pc} {slots = sl} {s = s} e y) sl' g =
      let w = slot_written (at (code_of m h.function) pc) in
      let b = subst (λ q. Alike w sl sl' q (acts m ls hart h pc sl' s)) e (acts_alike h pc sl sl' s g) in
      runs_stopped b.0 y

  -- a call that begins with the same in these slots ends alike
  pub same_from : (h : Here) (sl sl' : Slots) (s : Store) (r : Outcome) → ((i : ℕ) → N h.function i ≡ true → sl i ≡ sl' i)
      → Runs m ls hart h 0 sl s r → Runs m ls hart h 0 sl' s r
  same_from h sl sl' s r g x = same_run x sl' begin
    where
      begin : Agree h.function 0 sl sl'
      begin i (inl n) = g i n
      begin i (inr f) = absurd (cc)
