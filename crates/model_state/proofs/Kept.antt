-- The reservation of a hart, access by access.
use Rattle.std.proofs.Common.{◌≡◌, ℕ, zero, suc, ◌+◌, ◌-◌, ◌<◌, ◌≤◌, nat_eq, Bool, true, false, not, ◌&&◌, ◌||◌, ◌⊎◌}
use Rattle.std.proofs.Common.{inl, inr, List, [], ◌∷◌, ◌++◌, length, map, slice_get, Option, Some, None, refl, sym}
use Rattle.std.proofs.Common.{ap, ◌∙◌, arith}
use Rattle.std.specs.Bool.{if◌then◌else◌}
use Rattle.std.specs.List.{fold, list_all}
use Rattle.std.proofs.lemmas.Bool.Decides.{nat_tests}
use Rattle.std.proofs.lemmas.List.Sums.{fold-append}
use Rattle.model_state.specs.declared.state.Hart.{Hart}
use Rattle.model_state.specs.declared.state.Reservation.{Reservation}
use Rattle.model_state.specs.RunState.{RunState, Access, read, reserve, write, write_cond, mapped, put, changed}
use Rattle.model_state.specs.StateRows.{touches, covers, kept_by, reservation, hart_with, with_reservation, after_write, written}
use Rattle.model_state.specs.laws.Accesses.{reservations, SameMemory, ends, Stands}

-- the reservation after an access
abbrev pub kept_after : ℕ → Option Reservation → Access → Option Reservation
kept_after hart kept (reserve h w a word) = if nat_eq h hart then Some (record { place = a; width = w }) else kept
kept_after hart kept (write h w a word) = if touches w a kept then None else kept
kept_after hart kept (write_cond h w a word done) = if nat_eq h hart then None else (if done && touches w a kept then None else kept)
kept_after hart kept x = kept

-- ---- states

zero_suc : (j : ℕ) → nat_eq zero (suc j) ≡ false
zero_suc j = grind (arith, nat_tests)

suc_zero : (i : ℕ) → nat_eq (suc i) zero ≡ false
suc_zero i = grind (arith, nat_tests)

suc_suc : (i j : ℕ) → nat_eq i j ≡ nat_eq (suc i) (suc j)
suc_suc i j = grind (arith, nat_tests)

-- one hart's reservation set
pub set_kept : (k : Option Reservation) (harts : List Hart) (i j : ℕ) → i < length harts → kept_by
    (slice_get (changed (hart_with k) i harts) j) ≡ (if nat_eq i j then k else kept_by (slice_get harts j))
set_kept k [] i j h = absurd (omega arith)
set_kept k (hart ∷ harts) zero zero h = refl
set_kept k (hart ∷ harts) zero (suc j) h = ap (λ b. if b then k else kept_by (slice_get harts j)) (sym (zero_suc j))
set_kept k (hart ∷ harts) (suc i) zero h = ap (λ b. if b then k else hart.reservation) (sym (suc_zero i))
set_kept k (hart ∷ harts) (suc i) (suc j) h = set_kept k harts i j (omega arith) ∙ ap (λ b. if b then k else kept_by (slice_get harts j)) (suc_suc i j)

-- each hart's reservation ended where a write touches it
pub written_kept : (w a : ℕ) (harts : List Hart) (j : ℕ) → kept_by (slice_get (map (after_write w a) harts) j) ≡
    (if touches w a (kept_by (slice_get harts j)) then None else kept_by (slice_get harts j))
written_kept w a [] j = refl
written_kept w a (hart ∷ harts) zero = refl
written_kept w a (hart ∷ harts) (suc j) = written_kept w a harts j

pub length-written : (w a : ℕ) (harts : List Hart) → length (map (after_write w a) harts) ≡ length harts
length-written w a [] = refl
length-written w a (hart ∷ harts) = ap suc (length-written w a harts)

joined : Option (Option Reservation) → Option Reservation
joined None = None
joined (Some kept) = kept

kept_get : (harts : List Hart) (j : ℕ) → kept_by (slice_get harts j) ≡ joined (slice_get (map (λ hart. hart.reservation) harts) j)
unfolding joined
kept_get [] j = refl
kept_get (hart ∷ harts) zero = refl
kept_get (hart ∷ harts) (suc j) = kept_get harts j

-- what leaves reservations as they are leaves each
pub same_kept : (s t : RunState) (hart : ℕ) → SameMemory s t → reservation t hart ≡ reservation s hart
same_kept s t hart same = kept_get t.harts hart ∙ ap (λ ks. joined (slice_get ks hart)) same.kept ∙ sym (kept_get s.harts hart)

-- ---- accesses

cond_kept : (same hit : Bool) (kept : Reservation) → (same || hit) ≡ false → (if same then None else (if hit then None else Some kept)) ≡ Some kept
cond_kept true hit kept n = absurd (cc)
cond_kept false true kept n = absurd (cc)
cond_kept false false kept n = refl

-- an access that ends no reservation of the hart leaves it
step_kept : (hart : ℕ) (kept : Reservation) (x : Access) → ends hart kept x ≡ false → kept_after hart (Some kept) x ≡ Some kept
step_kept hart kept (read h w a word) n = refl
step_kept hart kept (reserve h w a word) n = ap (λ b. if b then Some (record { place = a; width = w }) else Some kept) n
step_kept hart kept (write h w a word) n = ap (λ b. if b then None else Some kept) n
step_kept hart kept (write_cond h w a word done) n = cond_kept (nat_eq h hart) (done && touches w a (Some kept)) kept n
step_kept hart kept (mapped h w a there) n = refl
step_kept hart kept (put h bytes) n = refl

both_true : (a b : Bool) → (a && b) ≡ true → (a ≡ true) × (b ≡ true)
both_true true b h = (refl, h)
both_true false b h = absurd (cc)

not_true : (b : Bool) → not b ≡ true → b ≡ false
not_true true h = absurd (cc)
not_true false h = refl

-- no access ends it
since_kept : (hart : ℕ) (kept : Reservation) (xs : List Access) → list_all (λ x. not (ends hart kept x)) xs ≡ true →
    fold (kept_after hart) (Some kept) xs ≡ Some kept
since_kept hart kept [] h = refl
since_kept hart kept (x ∷ xs) h =
    let p = both_true (not (ends hart kept x)) (list_all (λ x. not (ends hart kept x)) xs) h in
    ap (λ k. fold (kept_after hart) k xs) (step_kept hart kept x (not_true (ends hart kept x) p.0)) ∙ since_kept hart kept xs p.1

itself : (n : ℕ) → nat_eq n n ≡ true
itself n = grind (arith, nat_tests)

-- a reservation that stands is the hart's, whatever it had before
pub stands_kept : (hart : ℕ) (kept : Reservation) (xs : List Access) (start : Option Reservation) → Stands hart kept
    xs → fold (kept_after hart) start xs ≡ Some kept
stands_kept hart kept xs start st =
    let made = reserve hart kept.width kept.place st.word in
    let old = fold (kept_after hart) start st.earlier in
    ap (fold (kept_after hart) start) st.made ∙ fold-append (kept_after hart) start st.earlier (made ∷ st.since)
    ∙ ap (λ b. fold (kept_after hart) (if b then Some kept else old) st.since) (itself hart) ∙ since_kept hart kept st.since st.unended

-- what one access does, read backwards
Back : ℕ → Reservation → Option Reservation → Access → Type 0
Back hart kept o x = ((o ≡ Some kept) × (ends hart kept x ≡ false)) ⊎ ((word : List Bool) × (x ≡ reserve hart kept.width kept.place word))

back_reserve : (hart h w a : ℕ) (word : List Bool) (kept : Reservation) (o : Option Reservation) (b : Bool) → nat_eq h
    hart ≡ b → (if b then Some (record { place = a; width = w }) else o) ≡ Some kept → Back hart kept o
    (reserve h w a word)
unfolding Back
back_reserve hart h w a word kept o true e n =
    let same : h ≡ hart = grind (arith, nat_tests) in
    let made : Reservation = record { place = a; width = w } in
    let r : made ≡ kept = cc in
    inr (word, λ i. reserve (same i) (r i).width (r i).place word)
back_reserve hart h w a word kept o false e n = inl (n, e)

back_write : (hart h w a : ℕ) (word : List Bool) (kept : Reservation) (o : Option Reservation) (b : Bool) → touches w
    a o ≡ b → (if b then None else o) ≡ Some kept → Back hart kept o (write h w a word)
unfolding Back
back_write hart h w a word kept o true e n = absurd (cc)
back_write hart h w a word kept o false e n = inl (n, ap (touches w a) (sym n) ∙ e)

back_cond : (hart h w a : ℕ) (word : List Bool) (done : Bool) (kept : Reservation) (o : Option Reservation)
    (b hit : Bool) → nat_eq h hart ≡ b → (done && touches w a o) ≡ hit →
    (if b then None else (if hit then None else o)) ≡ Some kept → Back hart kept o (write_cond h w a word done)
unfolding Back
back_cond hart h w a word done kept o true hit e f n = absurd (cc)
back_cond hart h w a word done kept o false true e f n = absurd (cc)
back_cond hart h w a word done kept o false false e f n =
    inl (n, ap (λ b. b || (done && touches w a (Some kept))) e ∙ ap (λ k. done && touches w a k) (sym n) ∙ f)

step_back : (hart : ℕ) (kept : Reservation) (o : Option Reservation) (x : Access) → kept_after hart o x ≡ Some kept → Back hart kept o x
unfolding Back
step_back hart kept o (read h w a word) n = inl (n, refl)
step_back hart kept o (reserve h w a word) n = back_reserve hart h w a word kept o (nat_eq h hart) refl n
step_back hart kept o (write h w a word) n = back_write hart h w a word kept o (touches w a o) refl n
step_back hart kept o (write_cond h w a word done) n = back_cond hart h w a word done kept o (nat_eq h hart) (done && touches w a o) refl refl n
step_back hart kept o (mapped h w a there) n = inl (n, refl)
step_back hart kept o (put h bytes) n = inl (n, refl)

-- what accesses do, read backwards
Backs : ℕ → Reservation → Option Reservation → List Access → Type 0
Backs hart kept o xs = ((o ≡ Some kept) × (list_all (λ x. not (ends hart kept x)) xs ≡ true)) ⊎ Stands hart kept xs

one_back : (hart : ℕ) (kept : Reservation) (o : Option Reservation) (x : Access) (xs : List Access) → list_all
    (λ x. not (ends hart kept x)) xs ≡ true → Back hart kept o x → Backs hart kept o (x ∷ xs)
unfolding Back Backs
one_back hart kept o x xs all (inl p) = inl (p.0, ap (λ b. not b && list_all (λ x. not (ends hart kept x)) xs) p.1 ∙ all)
one_back hart kept o x xs all (inr p) = inr (record { earlier = []; word = p.0; since = xs; made = ap (λ y. y ∷ xs) p.1; unended = all })

more_back : (hart : ℕ) (kept : Reservation) (o : Option Reservation) (x : Access) (xs : List Access) → Backs hart kept
    (kept_after hart o x) xs → Backs hart kept o (x ∷ xs)
unfolding Backs
more_back hart kept o x xs (inl p) = one_back hart kept o x xs p.1 (step_back hart kept o x p.0)
more_back hart kept o x xs (inr st) = inr (record {
  earlier = x ∷ st.earlier;
  word = st.word;
  since = st.since;
  made =
      ap (λ ys. x ∷ ys) st.made;
  unended = st.unended;
})

all_back : (hart : ℕ) (kept : Reservation) (o : Option Reservation) (xs : List Access) → fold (kept_after hart) o xs ≡ Some kept → Backs hart kept o xs
unfolding Backs
all_back hart kept o [] h = inl (h, refl)
all_back hart kept o (x ∷ xs) h = more_back hart kept o x xs (all_back hart kept (kept_after hart o x) xs h)

none_stands : (hart : ℕ) (kept : Reservation) (xs : List Access) → Backs hart kept None xs → Stands hart kept xs
unfolding Backs
none_stands hart kept xs (inl p) = let n = p.0 in absurd (cc)
none_stands hart kept xs (inr st) = st

-- a reservation that the hart has after accesses, and not before, stands
pub kept_stands : (hart : ℕ) (kept : Reservation) (xs : List Access) → fold (kept_after hart) None xs ≡ Some kept → Stands hart kept xs
kept_stands hart kept xs h = none_stands hart kept xs (all_back hart kept None xs h)
