-- The first definition of a kind: where it stands, and what it gives.
use Rattle.std.proofs.Common.{◌≡◌, ℕ, suc, Bool, true, false, cond, List, [], ◌∷◌, refl, sym, ap, ◌∙◌, Option, Some, None, is_some, add-one}
use Rattle.std.proofs.Common.{true≢false, find, option_map, slice_get}
use Rattle.std.specs.List.{position_from}
use Rattle.std.specs.Option.{option_or}
use Rattle.sail_types.specs.Sums.{and_then}

-- ---- where it stands

shifted : (t : Bool) (n : ℕ) (o : Option ℕ) → cond t (Some (suc n)) (option_map (λ m. suc m) o) ≡ option_map (λ m. suc m) (cond t (Some n) o)
shifted true n o = refl
shifted false n o = refl

-- positions that are counted from one more
further : {A : Type 0} (test : A → Bool) (at : ℕ) (xs : List A) → position_from test (suc at) xs ≡ option_map (λ n. suc n) (position_from test at xs)
further test at [] = refl
further test at (x ∷ xs) =
    ap (λ n. cond (test x) (Some (suc at)) (position_from test n xs)) (add-one (suc at))
    ∙ ap (λ o. cond (test x) (Some (suc at)) o) (further test (suc at) xs)
    ∙ shifted (test x) at (position_from test (suc at) xs)
    ∙ ap (λ n. option_map (λ m. suc m) (cond (test x) (Some at) (position_from test n xs))) (sym (add-one at))

-- the item at a position, behind one more
behind : {A : Type 0} (x : A) (xs : List A) (at : Option ℕ) → and_then (option_map (λ n. suc n) at) (slice_get (x ∷ xs)) ≡ and_then at (slice_get xs)
behind x xs None = refl
behind x xs (Some n) = refl

placed : {A : Type 0} (t : Bool) (x : A) (xs : List A) (first : Option A) (at : Option ℕ) → first ≡ and_then at (slice_get (x ∷ xs))
    → cond t (Some x) first ≡ and_then (cond t (Some 0) at) (slice_get (x ∷ xs))
placed true x xs first at h = refl
placed false x xs first at h = h

pub found_at : {A : Type 0} (test : A → Bool) (xs : List A) → find test xs ≡ and_then (position_from test 0 xs) (slice_get xs)
found_at test [] = refl
found_at test (x ∷ xs) =
    placed (test x) x xs (find test xs) (position_from test 1 xs)
    (found_at test xs ∙ sym (ap (λ o. and_then o (slice_get (x ∷ xs))) (further test 0 xs) ∙ behind x xs (position_from test 0 xs)))

-- ---- what it gives

at_once : {B : Type 0} (here rest : Option B) → is_some here ≡ true → option_or here rest ≡ here
at_once None rest h = absurd (true≢false (sym h))
at_once (Some b) rest h = refl

given : {A B : Type 0} (gives : A → Option B) (x : A) (first : Option A) (rest : Option B) (t : Bool) → (t ≡ true → is_some (gives x) ≡ true)
    → rest ≡ and_then first gives → option_or (cond t (gives x) None) rest ≡ and_then (cond t (Some x) first) gives
given gives x first rest true some h = at_once (gives x) rest (some refl)
given gives x first rest false some h = h

-- the first of what items give that pass a test is what the first of them gives
pub first_given : {A B : Type 0} (test : A → Bool) (gives reads : A → Option B) (all : List A → Option B)
    → all [] ≡ None → ((x : A) (xs : List A) → all (x ∷ xs) ≡ option_or (reads x) (all xs))
    → ((x : A) → reads x ≡ cond (test x) (gives x) None) → ((x : A) → test x ≡ true → is_some (gives x) ≡ true)
    → (xs : List A) → all xs ≡ and_then (find test xs) gives
first_given test gives reads all none more one some [] = none
first_given test gives reads all none more one some (x ∷ xs) =
    more x xs ∙ ap (λ o. option_or o (all xs)) (one x)
    ∙ given gives x (find test xs) (all xs) (test x) (some x) (first_given test gives reads all none more one some xs)
