-- Positions in lists by keys.
use Rattle.std.proofs.Common.{◌≡◌, ℕ, zero, suc, ◌+◌, ◌-◌, ◌≤◌, ◌<◌, ◌⊎◌, inl, inr, true, false, ◌||◌, List, [], ◌∷◌, ◌++◌, length, take, get_or, set}
use Rattle.std.proofs.Common.{sym, ap, ◌∙◌, subst, refl, arith, slice_get, length-append, get_or-set_same, Result, Ok, Err}
use Rattle.std.specs.Prelude.{OnOk, nat_eq, slice_index_or}
use Rattle.std.proofs.lemmas.Bool.{false≢true, eqb-true, eq-eqb, cases_lt, cases_eq}
use Rattle.std.proofs.lemmas.List.{take_all, take_more, get_or_default, get_or-set_other}
use Rattle.std.proofs.lemmas.List.Folds.{list_any-append}
use Rattle.std.proofs.lemmas.Option.{slice_get_past, slice_get_read}
use Rattle.value_indices.specs.declared.notes.Fact.{Fact}
use Rattle.fact_index.specs.Filed.{has, IsIn, AreIn, Keeps, KeepsBelow, IsFiled, IsFiledBelow}
use Rattle.fact_index.specs.Keys.{keys_at, keys_of_option, fact_keys}
use Rattle.fact_index.proofs.Bools.{or_left, or_right, or_split}

-- ---- one list

get_last : (xs : List ℕ) (x d : ℕ) → get_or (xs ++ x ∷ []) (length xs) d ≡ x
get_last [] x d = refl
get_last (y ∷ xs) x d = get_last xs x d

pub popped : (old new : List ℕ) (last mark p : ℕ) → old ≡ new ++ last ∷ [] → mark ≤ slice_index_or old (length old - 1) 0 → p < mark
    → has old p ≡ true → has new p ≡ true
popped old new last mark p e past below h =
    let n : length old - 1 ≡ length new = (let a = ap length e in let b = length-append new (last ∷ []) in omega (arith, a, b)) in
    let at : get_or old (length old - 1) 0 ≡ last = (λ j. get_or (e j) (n j) 0) ∙ get_last new last 0 in
    or_split (has new p) (has (last ∷ []) p) (sym (list_any-append (nat_eq p) new (last ∷ [])) ∙ (ap (λ l. has l p) (sym e) ∙ h)) (λ k. k)
    (λ k. or_split (nat_eq p last) false k (λ m. let same = eqb-true p last m in absurd (omega (arith, same, at, past, below))) (λ m. absurd (false≢true m)))

pushed_last : (old new : List ℕ) (p : ℕ) → new ≡ old ++ p ∷ [] → has new p ≡ true
pushed_last old new p e =
    ap (λ l. has l p) e ∙ (list_any-append (nat_eq p) old (p ∷ []) ∙ or_right (has old p) (has (p ∷ []) p) (or_left (nat_eq p p) false (eq-eqb p p refl)))

pushed_kept : (old new : List ℕ) (p q : ℕ) → new ≡ old ++ p ∷ [] → has old q ≡ true → has new q ≡ true
pushed_kept old new p q e h = ap (λ l. has l q) e ∙ (list_any-append (nat_eq q) old (p ∷ []) ∙ or_left (has old q) (has (p ∷ []) q) h)

-- a list in the place of the one of a key
set_by : (mid : List (List ℕ)) (key k p : ℕ) (l : List ℕ) → key < length mid → ((q : ℕ) → has (slice_index_or mid key []) q ≡ true → has l q ≡ true)
    → has (slice_index_or mid k []) p ≡ true → (k ≡ key) ⊎ (k ≡ key → ⊥) → has (slice_index_or (set mid key l) k []) p ≡ true
set_by mid key k p l within more h (inl same) =
    ap (λ n. has (slice_index_or (set mid key l) n []) p) same
    ∙ (ap (λ xs. has xs p) (get_or-set_same mid key l [] within) ∙ more p (ap (λ n. has (slice_index_or mid n []) p) (sym same) ∙ h))
set_by mid key k p l within more h (inr other) = ap (λ xs. has xs p) (get_or-set_other mid key k l [] other) ∙ h

set_keeps : (old mid : List (List ℕ)) (key p : ℕ) (l : List ℕ) → key < length mid → ((k : ℕ) → slice_index_or mid k [] ≡ slice_index_or old k [])
    → l ≡ slice_index_or mid key [] ++ p ∷ [] → Keeps old (set mid key l)
set_keeps old mid key p l within same e k q h =
    set_by mid key k q l within (λ n m. pushed_kept (slice_index_or mid key []) l p n e m) (ap (λ xs. has xs q) (same k) ∙ h) (cases_eq k key)

pub pushed_keeps : {A E : Type 0} (r : Result A E) (old mid : List (List ℕ)) (key p : ℕ) (now l : List ℕ) → key < length mid
    → ((k : ℕ) → slice_index_or mid k [] ≡ slice_index_or old k []) → now ≡ get_or mid key now → OnOk r (l ≡ now ++ p ∷ [])
    → OnOk r (Keeps old (set mid key l))
pushed_keeps (Ok x) old mid key p now l within same read e =
    set_keeps old mid key p l within same (e ∙ ap (λ n. n ++ p ∷ []) (read ∙ get_or_default mid key now [] within))
pushed_keeps (Err x) old mid key p now l within same read e = tt

pub pushed_there : {A E : Type 0} (r : Result A E) (mid : List (List ℕ)) (key p : ℕ) (now l : List ℕ) → key < length mid → OnOk r (l ≡ now ++ p ∷ [])
    → OnOk r (IsIn (set mid key l) key p)
pushed_there (Ok x) mid key p now l within e = ap (λ xs. has xs p) (get_or-set_same mid key l [] within) ∙ pushed_last now l p e
pushed_there (Err x) mid key p now l within e = tt

-- ---- an empty list more

pub one_empty : (lists : List (List ℕ)) (k : ℕ) → slice_index_or (lists ++ [] ∷ []) k [] ≡ slice_index_or lists k []
one_empty [] zero = refl
one_empty [] (suc k) = refl
one_empty (l ∷ lists) zero = refl
one_empty (l ∷ lists) (suc k) = one_empty lists k

-- ---- keys of a fact, one after the other

pub has_taken : (ks : List ℕ) (i q : ℕ) → i < length ks → has (take (i + 1) ks) q ≡ true → (has (take i ks) q || has (get_or ks i 0 ∷ []) q) ≡ true
has_taken ks i q within h =
    sym (list_any-append (nat_eq q) (take i ks) (get_or ks i 0 ∷ [])) ∙ (ap (λ l. has l q) (sym (take_more ks i 0 within)) ∙ h)

pub in_more : (old new : List (List ℕ)) (ks : List ℕ) (i k p : ℕ) → i < length ks → k ≡ get_or ks i 0 → Keeps old new → IsIn new k p → AreIn old (take i ks) p
    → AreIn new (take (i + 1) ks) p
in_more old new ks i k p within read kept put h q e =
    or_split (has (take i ks) q) (has (get_or ks i 0 ∷ []) q) (has_taken ks i q within e) (λ m. kept q p (h q m))
    (λ m. or_split (nat_eq q (get_or ks i 0)) false m
    (λ t. subst (λ n. IsIn new n p) (read ∙ sym (eqb-true q (get_or ks i 0) t)) put) (λ t. absurd (false≢true t)))

pub in_all : (lists : List (List ℕ)) (ks : List ℕ) (i p : ℕ) → length ks ≤ i → AreIn lists (take i ks) p → AreIn lists ks p
in_all lists ks i p past h q e = h q (ap (λ l. has l q) (take_all i ks past) ∙ e)

pub keeps_then : (a b c : List (List ℕ)) → Keeps a b → Keeps b c → Keeps a c
keeps_then a b c h g k p e = g k p (h k p e)

pub keeps_below_then : (m : ℕ) (a b c : List (List ℕ)) → KeepsBelow m a b → KeepsBelow m b c → KeepsBelow m a c
keeps_below_then m a b c h g k p lt e = g k p lt (h k p lt e)

-- ---- one fact after the other

filed_by : (facts : List Fact) (new : List (List ℕ)) (i p : ℕ) (x : Fact) → i < length facts → x ≡ get_or facts i x → AreIn new (fact_keys x) i
    → (p < i → AreIn new (keys_at facts p) p) → p < i + 1 → (p < i) ⊎ (i ≤ p) → AreIn new (keys_at facts p) p
filed_by facts new i p x within read put before lt (inl low) = before low
filed_by facts new i p x within read put before lt (inr high) =
    let same : i ≡ p = omega (arith, lt, high) in
    subst (λ n. AreIn new (keys_at facts n) n) same
    (λ k e. put k (ap (λ o. has (keys_of_option o) k) (sym (slice_get_read facts (length facts) i x refl within read)) ∙ e))

pub filed_more : (facts : List Fact) (old new : List (List ℕ)) (i : ℕ) (x : Fact) → i < length facts → x ≡ get_or facts i x → Keeps old new
    → AreIn new (fact_keys x) i → IsFiledBelow i facts old → IsFiledBelow (i + 1) facts new
filed_more facts old new i x within read kept put h p lt =
    filed_by facts new i p x within read put (λ low k e. kept k p (h p low k e)) lt (cases_lt p i)

past_by : (facts : List Fact) (lists : List (List ℕ)) (i p : ℕ) → length facts ≤ i → IsFiledBelow i facts lists → (p < i) ⊎ (i ≤ p)
    → AreIn lists (keys_at facts p) p
past_by facts lists i p past h (inl low) = h p low
past_by facts lists i p past h (inr high) =
    λ k e. absurd (false≢true (ap (λ o. has (keys_of_option o) k) (sym (slice_get_past facts p (omega (arith, past, high)))) ∙ e))

pub all_filed : (facts : List Fact) (lists : List (List ℕ)) (i : ℕ) → length facts ≤ i → IsFiledBelow i facts lists → IsFiled facts lists
all_filed facts lists i past h p = past_by facts lists i p past h (cases_lt p i)

-- ---- what stays filed

got_taken : {A : Type 0} (n p : ℕ) (xs : List A) → p < n → slice_get (take n xs) p ≡ slice_get xs p
got_taken zero p xs lt = absurd (omega (arith, lt))
got_taken (suc n) p [] lt = refl
got_taken (suc n) zero (x ∷ xs) lt = refl
got_taken (suc n) (suc p) (x ∷ xs) lt = got_taken n p xs (omega (arith, lt))

-- the first facts, where no position below their end is lost
pub kept_filed : (n : ℕ) (old new : List Fact) (lists left : List (List ℕ)) → take n new ≡ take n old → KeepsBelow n lists left → IsFiled old lists
    → IsFiledBelow n new left
kept_filed n old new lists left same kept filed p lt k e =
    let got : slice_get new p ≡ slice_get old p = sym (got_taken n p new lt) ∙ (ap (λ l. slice_get l p) same ∙ got_taken n p old lt) in
    kept k p lt (filed p k (ap (λ o. has (keys_of_option o) k) (sym got) ∙ e))

pub none_filed : (lists : List (List ℕ)) → IsFiled [] lists
none_filed lists p k e = absurd (false≢true e)
