-- What is put together of functions that emit code.
use Rattle.std.proofs.Common.{◌≡◌, ◌∙◌, inl, inr, ℕ, zero, suc, ◌+◌, ◌<◌, ◌≤◌, List, [], ◌∷◌, ◌++◌, length, Some, None, Bool, true, false}
use Rattle.std.proofs.Common.{if◌then◌else◌, refl, sym, ap, subst, arith}
use Rattle.std.specs.Prelude.{nat_lt, IfOk, OnOk, Result, Ok, Err}
use Rattle.std.proofs.lemmas.Result.{on_ok_weaker}
use Rattle.std.proofs.Common.{append_assoc, append-nil, length-append}
use Rattle.jib.specs.declared.code.Source.{Source}
use Rattle.jib.specs.declared.code.Source.TheVariants as R
use Rattle.jib.specs.declared.code.Target.TheVariants as G
use Rattle.jib.specs.declared.code.Instruction.{Instruction}
use Rattle.jib.specs.declared.code.Instruction.TheVariants as I
use Rattle.jib.specs.laws.Ways.{In, uses}
use Rattle.lowered_slots.specs.declared.slots.Slot.{Slot}
use Rattle.lowered_slots.specs.Slots.{name_in, with_slot}
use Rattle.lowered_slots.proofs.Found.{slots_last}
use Rattle.lowered_pieces.specs.declared.coding.Coding.{Coding}
use Rattle.lowered_pieces.specs.Places.{HasSlots, Naming, Place, writes}
use Rattle.lowered_pieces.specs.Emitted.{Begins, Coded, Emits, Grows, HasNumber, Puts, Sourced, UsesBelow, no_labels}

-- ---- lists that begin with others

pub begins_here : {A : Type 0} (xs : List A) → Begins xs xs
begins_here xs = record { more = []; is = sym (append-nil xs) }

pub begins_then : {A : Type 0} (xs ys zs : List A) → Begins xs ys → Begins ys zs → Begins xs zs
begins_then xs ys zs a b = record { more = a.more ++ b.more; is = b.is ∙ ap (λ us. us ++ b.more) a.is ∙ append_assoc xs a.more b.more }

longer : {A : Type 0} (xs ys : List A) → Begins xs ys → length xs ≤ length ys
longer xs ys a = omega (arith, ap length a.is, length-append xs a.more)

pub number_lasts : (ss ts : List Slot) (p : Place) (t n : ℕ) → Begins ss ts → HasNumber ss p t n → HasNumber ts p t n
number_lasts ss ts p t n a has = λ ys b. has ys (begins_then ss ts ys a b)

-- a slot that was asked for has its number from then on
pub slot_numbered : (ss ts : List Slot) (p : Place) (t n : ℕ) → ts ≡ with_slot p t ss → n ≡ name_in ts p t → HasNumber ts p t n × (n < length ts)
slot_numbered ss ts p t n is e = (λ ys b. ap (λ us. name_in us p t) b.is ∙ stays b.more ∙ sym e, omega (arith, e, there))
  where
    there : name_in ts p t < length ts
    there = subst (λ us. name_in us p t < length us) (sym is) (slots_last ss p t).0

    stays : (more : List Slot) → name_in (ts ++ more) p t ≡ name_in ts p t
    stays more = (slots_last ts p t).1 more there

-- and the slots begin with those of before
pub slot_behind : (ss ts : List Slot) (p : Place) (t : ℕ) → ts ≡ with_slot p t ss → Begins ss ts
slot_behind ss ts p t is = by (nat_lt (name_in ss p t) (length ss)) is
  where
    by : (b : Bool) → ts ≡ (if b then ss else ss ++ record { place = p; typ = t } ∷ []) → Begins ss ts
    by true e = record { more = []; is = e ∙ sym (append-nil ss) }
    by false e = record { more = record { place = p; typ = t } ∷ []; is = e }

-- ---- slots that code uses

none_is : {A X : Type 0} (x : A) → None ≡ Some x → X
none_is x e = cc

below_more : (m n : ℕ) (code : List Instruction) → m ≤ n → UsesBelow m code → UsesBelow n code
below_more m n code le w i k x e f = omega (arith, le, w i k x e f)

below_both : (n : ℕ) (a b : List Instruction) → UsesBelow n a → UsesBelow n b → UsesBelow n (a ++ b)
below_both n [] b v w i k x e f = w i k x e f
below_both n (y ∷ a) b v w zero k x e f = v zero k x e f
below_both n (y ∷ a) b v w (suc i) k x e f = below_both n a b (λ j l z g h. v (suc j) l z g h) w i k x e f

below_none : (n : ℕ) → UsesBelow n []
below_none n i k x e f = none_is x e

below_one : (n : ℕ) (y : Instruction) → ((k : ℕ) → In k (uses y) → k < n) → UsesBelow n (y ∷ [])
below_one n y w zero k x e f = w k (subst (λ z. In k (uses z)) (sym (some_same y x e)) f)
  where
    some_same : (y x : Instruction) → Some y ≡ Some x → y ≡ x
    some_same y x e = cc
below_one n y w (suc i) k x e f = none_is x e

-- what is read
abbrev pub ReadsBelow : ℕ → List Source → Type 0
ReadsBelow n rs = (k : ℕ) → In k rs → k < n

pub no_reads : (n : ℕ) → ReadsBelow n []
no_reads n k i = absurd i

pub slot_read : (n j : ℕ) (rs : List Source) → j < n → ReadsBelow n rs → ReadsBelow n (R.Slot j ∷ rs)
slot_read n j rs lt rest k (inl e) = omega (arith, e, lt)
slot_read n j rs lt rest k (inr i) = rest k i

pub reads_more : (m n : ℕ) (rs : List Source) → m ≤ n → ReadsBelow m rs → ReadsBelow n rs
reads_more m n rs le w k i = omega (arith, le, w k i)

pub sourced_one : (ss : List Slot) (p : Place) (t n : ℕ) → HasNumber ss p t n → n < length ss
    → Sourced ss (R.Slot n ∷ []) (λ name. R.Slot (name p t) ∷ [])
sourced_one ss p t n has lt = record {
  same = λ ys b. ap (λ j. R.Slot j ∷ []) (sym (has ys b));
  there = slot_read (length ss) n [] lt (no_reads (length ss));
}

pub sourced_fixed : (ss : List Slot) (a : Source) → ReadsBelow (length ss) (a ∷ []) → Sourced ss (a ∷ []) (λ name. a ∷ [])
sourced_fixed ss a below = record { same = λ ys b. refl; there = below }

pub sourced_lasts : (ss ts : List Slot) (rs : List Source) (by : Naming → List Source) → Begins ss ts → Sourced ss rs by → Sourced ts rs by
sourced_lasts ss ts rs by a s = record {
  same = λ ys b. s.same ys (begins_then ss ts ys a b);
  there = reads_more (length ss) (length ts) rs (longer ss ts a) s.there;
}

reads_both : (n : ℕ) (rs bs : List Source) → ReadsBelow n rs → ReadsBelow n bs → ReadsBelow n (rs ++ bs)
reads_both n [] bs v w k i = w k i
reads_both n (R.Slot j ∷ rs) bs v w k (inl e) = v k (inl e)
reads_both n (R.Slot j ∷ rs) bs v w k (inr i) = reads_both n rs bs (λ m l. v m (inr l)) w k i
reads_both n (R.Register r ∷ rs) bs v w k i = reads_both n rs bs v w k i
reads_both n (R.Let o ∷ rs) bs v w k i = reads_both n rs bs v w k i
reads_both n (R.Constant t x ∷ rs) bs v w k i = reads_both n rs bs v w k i

-- those of one list behind those of another
pub sourced_both : (ss : List Slot) (rs bs : List Source) (f g : Naming → List Source) → Sourced ss rs f → Sourced ss bs g
    → Sourced ss (rs ++ bs) (λ name. f name ++ g name)
sourced_both ss rs bs f g x y = record {
  same = λ ys b. ap (λ us. us ++ bs) (x.same ys b) ∙ ap (λ us. f (name_in ys) ++ us) (y.same ys b);
  there = reads_both (length ss) rs bs x.there y.there;
}

-- ---- one instruction

-- it stands for the code under each numbering that begins with these slots
pub emits_put : (old new : Coding) (i : Instruction) (code : Coded) → Puts old new i
    → ((ys : List Slot) → Begins old.slots ys → (l : ℕ) → code (name_in ys) l ≡ i ∷ []) → ReadsBelow (length old.slots) (uses i)
    → Emits old new code no_labels
emits_put old new i code put is below = record {
  grown = record { more = []; is = put.slots ∙ sym (append-nil old.slots) };
  put = λ ys b. put.code ∙ ap (λ c. old.code ++ c) (sym (here ys b));
  room = λ ys b.
      subst (UsesBelow (length new.slots)) (sym (here ys b))
      (below_one (length new.slots) i (subst (λ us. ReadsBelow (length us) (uses i)) (sym put.slots) below));
  counted = λ ys b. put.labels ∙ more old.labels;
}
  where
    more : (l : ℕ) → l ≡ l + 0
    more l = omega arith

    here : (ys : List Slot) → Begins new.slots ys → code (name_in ys) old.labels ≡ i ∷ []
    here ys b = is ys (subst (λ us. Begins us ys) put.slots b) old.labels

-- ---- one behind the other

pub emits_then : (a b d : Coding) (c e : Coded) (n m : Naming → ℕ) → Emits a b c n → Emits b d e m
    → Emits a d (λ name l. c name l ++ e name (l + n name)) (λ name. n name + m name)
emits_then a b d c e n m x y = record {
  grown = begins_then a.slots b.slots d.slots x.grown y.grown;
  put = λ ys z.
      let w : Begins b.slots ys = begins_then b.slots d.slots ys y.grown z in
      y.put ys z ∙ ap (λ us. us ++ e (name_in ys) b.labels) (x.put ys w) ∙ append_assoc a.code (c (name_in ys) a.labels) (e (name_in ys) b.labels)
      ∙ ap (λ l. a.code ++ (c (name_in ys) a.labels ++ e (name_in ys) l)) (x.counted ys w);
  room = λ ys z.
      let w : Begins b.slots ys = begins_then b.slots d.slots ys y.grown z in
      below_both (length d.slots) (c (name_in ys) a.labels) (e (name_in ys) (a.labels + n (name_in ys)))
      (below_more (length b.slots) (length d.slots) (c (name_in ys) a.labels) (longer b.slots d.slots y.grown) (x.room ys w))
      (subst (λ l. UsesBelow (length d.slots) (e (name_in ys) l)) (x.counted ys w) (y.room ys z));
  counted = λ ys z.
      let w : Begins b.slots ys = begins_then b.slots d.slots ys y.grown z in
      y.counted ys z ∙ sums a.labels b.labels (n (name_in ys)) (m (name_in ys)) (x.counted ys w);
}
  where
    sums : (p q i j : ℕ) → q ≡ p + i → q + j ≡ p + (i + j)
    sums p q i j e = omega (arith, e)

-- the same code where its labels begin, with as many labels
pub emits_as : (old new : Coding) (c e : Coded) (n m : Naming → ℕ) → ((name : Naming) → c name old.labels ≡ e name old.labels)
    → ((name : Naming) → n name ≡ m name) → Emits old new c n → Emits old new e m
emits_as old new c e n m same many x = record {
  grown = x.grown;
  put = λ ys b. x.put ys b ∙ ap (λ us. old.code ++ us) (same (name_in ys));
  room = λ ys b. subst (UsesBelow (length new.slots)) (same (name_in ys)) (x.room ys b);
  counted = λ ys b. x.counted ys b ∙ ap (λ k. old.labels + k) (many (name_in ys));
}

-- two of which neither has labels
pub emits_next : (a b d : Coding) (c e : Naming → List Instruction) → Emits a b (λ name l. c name) no_labels → Emits b d (λ name l. e name) no_labels
    → Emits a d (λ name l. c name ++ e name) no_labels
emits_next a b d c e x y = emits_then a b d (λ name l. c name) (λ name l. e name) no_labels no_labels x y

-- behind code without labels
pub emits_before : (a b d : Coding) (c : Naming → List Instruction) (e : Coded) (m : Naming → ℕ) → Emits a b (λ name l. c name) no_labels → Emits b d e m
    → Emits a d (λ name l. c name ++ e name l) m
emits_before a b d c e m x y =
    emits_as a d (λ name l. c name ++ e name (l + 0)) (λ name l. c name ++ e name l) (λ name. 0 + m name) m
    (λ name. ap (λ l. c name ++ e name l) (none a.labels)) (λ name. omega arith) (emits_then a b d (λ name l. c name) e no_labels m x y)
  where
    none : (l : ℕ) → l + 0 ≡ l
    none l = omega arith

-- behind slots alone
pub emits_from : (old mid new : Coding) (code : Coded) (n : Naming → ℕ) → Grows old mid → Emits mid new code n → Emits old new code n
emits_from old mid new code n g e = record {
  grown = begins_then old.slots mid.slots new.slots g.slots e.grown;
  put = λ ys b.
      e.put ys b ∙ ap (λ c. c ++ code (name_in ys) mid.labels) g.code ∙ ap (λ l. old.code ++ code (name_in ys) l) g.labels;
  room = λ ys b. subst (λ l. UsesBelow (length new.slots) (code (name_in ys) l)) g.labels (e.room ys b);
  counted = λ ys b. e.counted ys b ∙ ap (λ l. l + n (name_in ys)) g.labels;
}

pub grows_here : (old : Coding) → Grows old old
grows_here old = record { slots = begins_here old.slots; code = refl; labels = refl }

pub grows_then : (a b d : Coding) → Grows a b → Grows b d → Grows a d
grows_then a b d x y = record {
  slots = begins_then a.slots b.slots d.slots x.slots y.slots;
  code = y.code ∙ x.code;
  labels = y.labels ∙ x.labels;
}

-- nothing
pub emits_none : (old : Coding) → Emits old old (λ name l. []) no_labels
emits_none old = record {
  grown = begins_here old.slots;
  put = λ ys b. sym (append-nil old.code);
  room = λ ys b. below_none (length old.slots);
  counted = λ ys b. more old.labels;
}
  where
    more : (l : ℕ) → l ≡ l + 0
    more l = omega arith

-- labels alone
pub emits_labels : (old new : Coding) (count : ℕ) → new.slots ≡ old.slots → new.code ≡ old.code → new.labels ≡ old.labels + count
    → Emits old new (λ name l. []) (λ name. count)
emits_labels old new count slots code labels = record {
  grown = record { more = []; is = slots ∙ sym (append-nil old.slots) };
  put = λ ys b. code ∙ sym (append-nil old.code);
  room = λ ys b. below_none (length new.slots);
  counted = λ ys b. labels;
}

pub both_hold : {T E : Type 0} (r : Result T E) (P : T → Type 0) (Q : Type 0) (R : T → Type 0) → IfOk r P → OnOk r Q → ((x : T) → P x → Q → R x) → IfOk r R
both_hold (Ok x) P Q R p q f = f x p q
both_hold (Err e) P Q R p q f = tt

-- ---- functions that put one instruction behind slots that they ask for

module _ {T E : Type 0} (r : Result T E) (old : Coding) where
  pub ok_from : (mid new : Coding) (code : Coded) (n : Naming → ℕ) → Grows old mid → OnOk r (Emits mid new code n) → OnOk r (Emits old new code n)
  ok_from mid new code n g h = on_ok_weaker r (λ (e : Emits mid new code n). emits_from old mid new code n g e) h

  pub ok_same : (new : Coding) (c e : Coded) (n : Naming → ℕ) → ((name : Naming) → c name old.labels ≡ e name old.labels)
      → OnOk r (Emits old new c n) → OnOk r (Emits old new e n)
  ok_same new c e n same h = on_ok_weaker r (λ (x : Emits old new c n). emits_as old new c e n n same (λ name. refl) x) h

  pub ok_next : (mid new : Coding) (c e : Naming → List Instruction) → Emits old mid (λ name l. c name) no_labels
      → OnOk r (Emits mid new (λ name l. e name) no_labels) → OnOk r (Emits old new (λ name l. c name ++ e name) no_labels)
  ok_next mid new c e x h = on_ok_weaker r (λ (y : Emits mid new (λ name l. e name) no_labels). emits_next old mid new c e x y) h

  pub ok_before : (mid new : Coding) (c : Naming → List Instruction) (e : Coded) (m : Naming → ℕ) → Emits old mid (λ name l. c name) no_labels
      → OnOk r (Emits mid new e m) → OnOk r (Emits old new (λ name l. c name ++ e name l) m)
  ok_before mid new c e m x h = on_ok_weaker r (λ (y : Emits mid new e m). emits_before old mid new c e m x y) h

  pub ok_then : (mid new : Coding) (c e : Coded) (n m : Naming → ℕ) → Emits old mid c n → OnOk r (Emits mid new e m)
      → OnOk r (Emits old new (λ name l. c name l ++ e name (l + n name)) (λ name. n name + m name))
  ok_then mid new c e n m x h = on_ok_weaker r (λ (y : Emits mid new e m). emits_then old mid new c e n m x y) h

  pub ok_put : (mid new : Coding) (i : Instruction) (code : Coded) → Grows old mid → OnOk r (Puts mid new i)
      → ((ys : List Slot) → Begins mid.slots ys → (l : ℕ) → code (name_in ys) l ≡ i ∷ []) → ReadsBelow (length mid.slots) (uses i)
      → OnOk r (Emits old new code no_labels)
  ok_put mid new i code g h is below =
      on_ok_weaker r (λ (p : Puts mid new i). emits_from old mid new code no_labels g (emits_put mid new i code p is below)) h

  -- with one slot
  pub ok_put_one : (mid new : Coding) (p : Place) (t n : ℕ) (i : ℕ → Instruction) → Grows old mid → HasNumber mid.slots p t n
      → n < length mid.slots → OnOk r (Puts mid new (i n)) → (n < length mid.slots → ReadsBelow (length mid.slots) (uses (i n)))
      → OnOk r (Emits old new (λ name l. i (name p t) ∷ []) no_labels)
  ok_put_one mid new p t n i g has lt h below =
      ok_put mid new (i n) (λ name l. i (name p t) ∷ []) g h (λ ys b l. ap (λ j. i j ∷ []) (has ys b)) (below lt)

  -- with two
  pub ok_put_two : (a mid new : Coding) (p : Place) (t n : ℕ) (q : Place) (u m : ℕ) (i : ℕ → ℕ → Instruction) → Grows old a
      → HasNumber a.slots p t n → n < length a.slots → Grows a mid → HasNumber mid.slots q u m → m < length mid.slots
      → OnOk r (Puts mid new (i n m)) → (n < length mid.slots → m < length mid.slots → ReadsBelow (length mid.slots) (uses (i n m)))
      → OnOk r (Emits old new (λ name l. i (name p t) (name q u) ∷ []) no_labels)
  ok_put_two a mid new p t n q u m i g has lt k other less h below =
      ok_put mid new (i n m) (λ name l. i (name p t) (name q u) ∷ []) (grows_then old a mid g k) h
      (λ ys b l.
      ap (λ j. i j (name_in ys q u) ∷ []) (has ys (begins_then a.slots mid.slots ys k.slots b)) ∙ ap (λ j. i n j ∷ []) (other ys b))
      (below (omega (arith, lt, longer a.slots mid.slots k.slots)) less)

-- ---- at the end there is a slot for everything that the code writes

some_number : (i k : ℕ) → Some i ≡ Some k → i ≡ k
some_number i k e = cc

in_more : (a : Source) (k i : ℕ) → i ≡ k → In k (a ∷ R.Slot i ∷ [])
in_more (R.Slot j) k i e = inr (inl (sym e))
in_more (R.Register r) k i e = inl (sym e)
in_more (R.Let o) k i e = inl (sym e)
in_more (R.Constant t v) k i e = inl (sym e)

writes_used : (x : Instruction) (k : ℕ) → writes x ≡ Some k → In k (uses x)
writes_used (I.Copy (G.Slot i) a) k e = in_more a k i (some_number i k e)
writes_used (I.Copy (G.Register r) a) k e = none_is k e
writes_used (I.Apply (G.Slot i) op rs) k e = inl (sym (some_number i k e))
writes_used (I.Apply (G.Register r) op rs) k e = none_is k e
writes_used (I.Call c) k e = inl (sym (some_number c.slot k e))
writes_used (I.Payload i a u l) k e = in_more a k i (some_number i k e)
writes_used (I.JumpIf a l) k e = none_is k e
writes_used (I.Goto l) k e = none_is k e
writes_used (I.Label l) k e = none_is k e
writes_used (I.End a) k e = none_is k e
writes_used (I.Throw a) k e = none_is k e
writes_used (I.Stop cause) k e = none_is k e
writes_used I.NoMeasure k e = none_is k e
writes_used (I.Measure a) k e = none_is k e
writes_used I.Tick k e = none_is k e

pub all_have_slots : (ss : List Slot) (slots : List ℕ) (code : List Instruction) → length slots ≡ length ss → UsesBelow (length ss) code
    → HasSlots slots code
all_have_slots ss slots code same below = λ pc i x e f. omega (arith, same, below pc i x e (writes_used x i f))
