-- Each function beside each other one.
use Rattle.std.proofs.Common.{◌≡◌, ℕ, zero, suc, true, List, [], ◌∷◌, length, Option, Some, None, refl, subst, arith}
use Rattle.std.specs.Prelude.{slice_get, slice_index_or}
use Rattle.sail_core.specs.declared.model.Function.{Function}
use Rattle.jib_lower.specs.Cycles.{all_fit, fits_all, pair_fits}
use Rattle.jib_lower.proofs.Basics.{and_left, and_right, both, some_same}

none_is : {A X : Type 0} (x : A) → None ≡ Some x → X
none_is x e = cc

less_one : (m n : ℕ) → suc m ≡ suc n → m ≡ n
less_one m n e = omega (arith, e)

fits_each : (n : ℕ) (c : Option ℕ) (gs : List Function) (ms : List ℕ) → length ms ≡ length gs → fits_all n c gs ms ≡ true → (j : ℕ) (g : Function)
    → slice_get gs j ≡ Some g → pair_fits n (slice_index_or ms j 0) c g.cycle ≡ true
fits_each n c [] ms same h j g e = none_is g e
fits_each n c (x ∷ gs) [] same h j g e = absurd (omega (arith, same))
fits_each n c (x ∷ gs) (m ∷ ms) same h zero g e =
    subst (λ (f : Function). pair_fits n m c f.cycle ≡ true) (some_same x g e) (and_left (pair_fits n m c x.cycle) (fits_all n c gs ms) h)
fits_each n c (x ∷ gs) (m ∷ ms) same h (suc j) g e =
    fits_each n c gs ms (less_one (length ms) (length gs) same) (and_right (pair_fits n m c x.cycle) (fits_all n c gs ms) h) j g e

pub all_each : (fs : List Function) (ns : List ℕ) (gs : List Function) (ms : List ℕ) → length ns ≡ length fs → length ms ≡ length gs
    → all_fit fs ns gs ms ≡ true → (i j : ℕ) (f g : Function) → slice_get fs i ≡ Some f → slice_get gs j ≡ Some g
    → pair_fits (slice_index_or ns i 0) (slice_index_or ms j 0) f.cycle g.cycle ≡ true
all_each [] ns gs ms one other h i j f g e k = none_is f e
all_each (x ∷ fs) [] gs ms one other h i j f g e k = absurd (omega (arith, one))
all_each (x ∷ fs) (n ∷ ns) gs ms one other h zero j f g e k =
    fits_each n f.cycle gs ms other
    (subst (λ (y : Function). fits_all n y.cycle gs ms ≡ true) (some_same x f e) (and_left (fits_all n x.cycle gs ms) (all_fit fs ns gs ms) h)) j g k
all_each (x ∷ fs) (n ∷ ns) gs ms one other h (suc i) j f g e k =
    all_each fs ns gs ms (less_one (length ns) (length fs) one) other (and_right (fits_all n x.cycle gs ms) (all_fit fs ns gs ms) h) i j f g e k

-- and where each fits each, all do
fits_from : (n : ℕ) (c : Option ℕ) (gs : List Function) (ms : List ℕ) → length ms ≡ length gs
    → ((j : ℕ) (g : Function) → slice_get gs j ≡ Some g → pair_fits n (slice_index_or ms j 0) c g.cycle ≡ true) → fits_all n c gs ms ≡ true
fits_from n c [] ms same h = refl
fits_from n c (x ∷ gs) [] same h = absurd (omega (arith, same))
fits_from n c (x ∷ gs) (m ∷ ms) same h =
    both (pair_fits n m c x.cycle) (fits_all n c gs ms) (h zero x refl)
    (fits_from n c gs ms (less_one (length ms) (length gs) same) (λ j g e. h (suc j) g e))

pub all_from : (fs : List Function) (ns : List ℕ) (gs : List Function) (ms : List ℕ) → length ns ≡ length fs → length ms ≡ length gs
    → ((i j : ℕ) (f g : Function) → slice_get fs i ≡ Some f → slice_get gs j ≡ Some g
    → pair_fits (slice_index_or ns i 0) (slice_index_or ms j 0) f.cycle g.cycle ≡ true) → all_fit fs ns gs ms ≡ true
all_from [] ns gs ms one other h = refl
all_from (x ∷ fs) [] gs ms one other h = absurd (omega (arith, one))
all_from (x ∷ fs) (n ∷ ns) gs ms one other h =
    both (fits_all n x.cycle gs ms) (all_fit fs ns gs ms) (fits_from n x.cycle gs ms other (λ j g e. h zero j x g refl e))
    (all_from fs ns gs ms (less_one (length ns) (length fs) one) other (λ i j f g e k. h (suc i) j f g e k))
