-- Laws of runs and of lists.
use Rattle.std.proofs.Common.{◌≡◌, ℕ, zero, suc, nat_eq, Bool, true, false, ◌&&◌, List, [], ◌∷◌, ◌++◌, length, slice_get, Some, None, if◌then◌else◌}
use Rattle.std.proofs.Common.{refl, sym, subst, ◌∙◌, arith, append_assoc, length-append, true≢false}
use Rattle.sail_core.specs.Run as R
use Rattle.sail_core.specs.Run.{Ended, Run, gives, stuck, goes_on, ◌then◌}
use Rattle.sail_core.specs.Patterns.{Seen, Parts, Other, Wrong, so_many, as_run, counted}

pub both_true : (a b : Bool) → (a && b) ≡ true → (a ≡ true) × (b ≡ true)
both_true true b h = (refl, h)
both_true false b h = absurd (true≢false (sym h))

pub and_true : (a b : Bool) → a ≡ true → b ≡ true → (a && b) ≡ true
and_true a b e h = λ i. (e i) && (h i)

-- ---- runs

goes_assoc : {X A B C : Type 0} (e : Ended X A) (f : A → Run X B) (g : B → Run X C) → goes_on (goes_on e f) g ≡ goes_on e (λ x. f x then g)
goes_assoc (R.Gives x now) f g = refl
goes_assoc (R.No now) f g = refl
goes_assoc (R.Returns v now) f g = refl
goes_assoc (R.Throws v now) f g = refl
goes_assoc (R.Stops cause now) f g = refl
goes_assoc R.Stuck f g = refl

pub then_assoc : {X A B C : Type 0} (r : Run X A) (f : A → Run X B) (g : B → Run X C) → ((r then f) then g) ≡ (r then λ x. f x then g)
then_assoc r f g = λ i now. goes_assoc (r now) f g i

goes_gives : {X A : Type 0} (e : Ended X A) → goes_on e gives ≡ e
goes_gives (R.Gives x now) = refl
goes_gives (R.No now) = refl
goes_gives (R.Returns v now) = refl
goes_gives (R.Throws v now) = refl
goes_gives (R.Stops cause now) = refl
goes_gives R.Stuck = refl

pub then_gives : {X A : Type 0} (r : Run X A) → (r then gives) ≡ r
then_gives r = λ i now. goes_gives (r now) i

pub then_same : {X A B : Type 0} (r : Run X A) (f g : A → Run X B) → ((x : A) → f x ≡ g x) → (r then f) ≡ (r then g)
then_same r f g h = λ i. r then λ x. h x i

-- ---- counts

eq_is : (a b : ℕ) → nat_eq a b ≡ true → a ≡ b
eq_is a b h = grind arith

by_count : {A : Type 0} (b : Bool) (x y : A) (z : A) → (b ≡ true → x ≡ y) → (if b then x else z) ≡ (if b then y else z)
by_count true x y z h = h refl
by_count false x y z h = refl

by_parts : {X B : Type 0} (b : Bool) (xs : List X) (f g : List X → Run X B) → (b ≡ true → f xs ≡ g xs)
    → (as_run (if b then Parts xs else Wrong) then f) ≡ (as_run (if b then Parts xs else Wrong) then g)
by_parts true xs f g h = h refl
by_parts false xs f g h = refl

-- what follows parts has to be the same for so many parts alone
pub looked_same : {X B : Type 0} (k : ℕ) (seen : Seen X) (f g : List X → Run X B) → ((xs : List X) → length xs ≡ k → f xs ≡ g xs)
    → (as_run (so_many k seen) then f) ≡ (as_run (so_many k seen) then g)
looked_same k (Parts xs) f g h = by_parts (nat_eq (length xs) k) xs f g (λ e. h xs (eq_is (length xs) k e))
looked_same k Other f g h = refl
looked_same k Wrong f g h = refl

pub counted_same : {X A : Type 0} (k : ℕ) (xs : List X) (x y : Run X A) → (length xs ≡ k → x ≡ y) → counted k xs x ≡ counted k xs y
counted_same k xs x y h = by_count (nat_eq (length xs) k) x y stuck (λ e. h (eq_is (length xs) k e))

-- ---- lists

pub get_longer : {A : Type 0} (xs ys : List A) (i : ℕ) (x : A) → slice_get xs i ≡ Some x → slice_get (xs ++ ys) i ≡ Some x
get_longer [] ys i x h = absurd (none h)
  where
    none : None ≡ Some x → ⊥
    none e = cc
get_longer (y ∷ xs) ys zero x h = h
get_longer (y ∷ xs) ys (suc i) x h = get_longer xs ys i x h

pub get_end : {A : Type 0} (xs : List A) (x : A) (ys : List A) → slice_get (xs ++ x ∷ ys) (length xs) ≡ Some x
get_end [] x ys = refl
get_end (y ∷ xs) x ys = get_end xs x ys

-- these stand from this number on
abbrev pub Stand : {A : Type 0} → ℕ → List A → List A → Type 0
Stand at [] values = Unit {0}
Stand at (v ∷ vs) values = (slice_get values at ≡ Some v) × Stand (suc at) vs values

pub stand_longer : {A : Type 0} (at : ℕ) (vs values new : List A) → Stand at vs values → Stand at vs (values ++ new)
stand_longer at [] values new h = tt
stand_longer at (v ∷ vs) values new h = (get_longer values new at v h.0, stand_longer (suc at) vs values new h.1)

pub stand_end : {A : Type 0} (vs values : List A) → Stand (length values) vs (values ++ vs)
stand_end [] values = tt
stand_end (v ∷ vs) values = (
  get_end values v vs,
  subst (λ l. Stand l vs (values ++ v ∷ vs)) (length-append values (v ∷ []) ∙ omega arith)
      (subst (λ l. Stand (length (values ++ v ∷ [])) vs l) (append_assoc values (v ∷ []) vs) (stand_end vs (values ++ v ∷ []))),
)
