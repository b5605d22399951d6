-- The slots that a call begins with, where only some have to begin with the zeros of their types.
use Rattle.std.proofs.Common.{◌≡◌, ℕ, zero, suc, ◌⊎◌, inl, inr, ◌≤◌, List, [], ◌∷◌, ◌++◌, length, refl, sym, ap, ◌∙◌, subst, Option, Bool, true, false}
use Rattle.std.specs.Prelude.{slice_get, slice_index_or, unwrap_or, if◌then◌else◌}
use Rattle.sail_types.specs.declared.values.Value.{Value}
use Rattle.jib.specs.declared.types.ValueType.{ValueType}
use Rattle.jib.specs.declared.code.Instruction.{Instruction}
use Rattle.jib.specs.declared.code.Function.{Function}
use Rattle.jib.specs.declared.code.Module.{Module}
use Rattle.jib.specs.Jib.{slot_zero, slots_of, entry, code_in, code_of}
use Rattle.jib_values.specs.Sources.{filled}
use Rattle.jib_machine.specs.parts.Begun.{begun_slots, BegunWhere}
use Rattle.jib_machine.specs.parts.Unread.{is_needed, needs_to, is_short, needs_in, all_needs, needed, Begins}
use Rattle.jib_machine.proofs.UnreadLaws.{same_from}
use Rattle.jib_machine.proofs.SlotLaws.{begun_all, entry_at}

-- ---- what is needed

longer : (xs : List Bool) (b : Bool) → length (xs ++ b ∷ []) ≡ suc (length xs)
longer [] b = refl
longer (x ∷ xs) b = ap suc (longer xs b)

length_to : (c : List Instruction) (n : ℕ) → length (needs_to c n) ≡ n
length_to c zero = refl
length_to c (suc n) = longer (needs_to c n) (is_needed n c) ∙ ap suc (length_to c n)

last_or : (xs : List Bool) (b : Bool) (i : ℕ) → slice_index_or (xs ++ b ∷ []) i true ≡ false
    → (slice_index_or xs i true ≡ false) ⊎ ((i ≡ length xs) × (b ≡ false))
last_or [] b zero h = inr (refl, h)
last_or [] b (suc i) h = absurd (cc)
last_or (x ∷ xs) b zero h = inl h
last_or (x ∷ xs) b (suc i) h = further (last_or xs b i h)
  where
    further : (slice_index_or xs i true ≡ false) ⊎ ((i ≡ length xs) × (b ≡ false))
        → (slice_index_or xs i true ≡ false) ⊎ ((suc i ≡ suc (length xs)) × (b ≡ false))
    further (inl e) = inl e
    further (inr p) = inr (ap suc p.0, p.1)

covers_to : (c : List Instruction) (n i : ℕ) → slice_index_or (needs_to c n) i true ≡ false → is_needed i c ≡ false
covers_to c zero i h = absurd (cc)
covers_to c (suc n) i h = by (last_or (needs_to c n) (is_needed n c) i h) (covers_to c n i)
  where
    by : (slice_index_or (needs_to c n) i true ≡ false) ⊎ ((i ≡ length (needs_to c n)) × (is_needed n c ≡ false))
        → (slice_index_or (needs_to c n) i true ≡ false → is_needed i c ≡ false) → is_needed i c ≡ false
    by (inl e) rec = rec e
    by (inr p) rec = subst (λ q. is_needed q c ≡ false) (sym (p.0 ∙ length_to c n)) p.1

covers_in : (c : List Instruction) (n i : ℕ) → slice_index_or (needs_in c n) i true ≡ false → is_needed i c ≡ false
covers_in c n i h = by (is_short c n) h
  where
    by : (b : Bool) → slice_index_or (if b then needs_to c n else []) i true ≡ false → is_needed i c ≡ false
    by true e = covers_to c n i e
    by false e = absurd (cc)

covers : (fs : List Function) (f i : ℕ) → needed (all_needs fs) f i ≡ false → is_needed i (code_in (slice_get fs f)) ≡ false
covers [] f i h = absurd (cc)
covers (g ∷ fs) zero i h = covers_in g.code (length g.slots) i h
covers (g ∷ fs) (suc f) i h = covers fs f i h

-- ---- what a call begins with

over_where : (d : ℕ → Value) (xs : List Value) (v : Value) (i : ℕ) → (i ≡ length xs → v ≡ d (length xs))
    → unwrap_or (slice_get (xs ++ v ∷ []) i) (d i) ≡ unwrap_or (slice_get xs i) (d i)
over_where d [] v zero h = h refl
over_where d [] v (suc i) h = refl
over_where d (x ∷ xs) v zero h = refl
over_where d (x ∷ xs) v (suc i) h = over_where (λ k. d (suc k)) xs v i (λ e. h (ap suc e))

-- one more of them is the zero of its type, if that is needed
pub begun_where : (ts : List ValueType) (typs : List ℕ) (needs : List Bool) (xs : List Value) (v : Value)
    → (slice_index_or needs (length xs) true ≡ true → v ≡ slot_zero ts (slice_get typs (length xs))) → (i : ℕ) → slice_index_or needs i true ≡ true
    → begun_slots ts typs (xs ++ v ∷ []) i ≡ begun_slots ts typs xs i
begun_where ts typs needs xs v h i n =
    over_where (λ k. slot_zero ts (slice_get typs k)) xs v i (λ e. h (subst (λ q. slice_index_or needs q true ≡ true) e n))

-- all of them stand in the list
pub begun_there : (ts : List ValueType) (typs : List ℕ) (needs : List Bool) (old xs : List Value) → length typs ≤ length xs
    → ((i : ℕ) → slice_index_or needs i true ≡ true → begun_slots ts typs xs i ≡ begun_slots ts typs old i) → BegunWhere ts typs needs old xs
begun_there ts typs needs old xs all h i n = ap (λ f. f i) (begun_all ts typs xs all) ∙ h i n

-- so the runs of a call begin
pub entered : (m : Module) (f : ℕ) (needs : List (List Bool)) (own : List Bool) (typs : List ℕ) (o : Option ℕ) (z : Value) (vs xs ys : List Value)
    → needs ≡ all_needs m.functions → own ≡ slice_index_or needs f [] → typs ≡ slots_of m f → o ≡ slice_get typs 0
    → z ≡ slot_zero m.types o → xs ≡ z ∷ vs → BegunWhere m.types typs own xs ys → Begins m f vs ys
entered m f needs own typs o z vs xs ys en eo et e0 ez ex w = λ ls hart h s r eh x.
    same_from m ls hart (needed needs) known h (filled ys) (entry m f vs) s r
    (λ i n. same i (subst (λ q. slice_index_or q i true ≡ true) (sym eo) (subst (λ q. needed needs q i ≡ true) eh n))) x
  where
    known : (g i : ℕ) → needed needs g i ≡ false → is_needed i (code_of m g) ≡ false
    known g i n = covers m.functions g i (subst (λ q. needed q g i ≡ false) en n)

    first : z ≡ slot_zero m.types (slice_get (slots_of m f) 0)
    first = ez ∙ ap (slot_zero m.types) (e0 ∙ ap (λ q. slice_get q 0) et)

    same : (i : ℕ) → slice_index_or own i true ≡ true → filled ys i ≡ entry m f vs i
    same i n =
        w i n ∙ (λ j. begun_slots m.types (et j) (ex j) i) ∙ (λ j. begun_slots m.types (slots_of m f) (first j ∷ vs) i) ∙ entry_at m f vs i
