-- Lists from one place on, and what is decided of all from there.
use Rattle.std.proofs.Common.{◌≡◌, ◌∙◌, ◌+◌, ◌<◌, ◌≤◌, ℕ, zero, suc, Bool, true, false, List, [], ◌∷◌, ap, arith, drop, get_or, length, refl, sym}
use Rattle.std.specs.Prelude.{◌&&◌, nat_lt, slice_index_or}
use Rattle.std.proofs.lemmas.Bool.Decides.{nat_tests}
use Rattle.sail_core.specs.declared.tree.Core.{Core}
use Rattle.lowered_ends.proofs.Masses.{mass, mass_at, masses}
use Rattle.lowered_steps.proofs.Lists.{lt_false}

pub from_here : {A : Type 0} (all : List A) (k : ℕ) (x : A) → k < length all → x ≡ get_or all k x → drop k all ≡ x ∷ drop (k + 1) all
from_here [] k x within is = absurd (omega (arith, within))
from_here (y ∷ all) zero x within is = ap (λ z. z ∷ all) (sym is)
from_here (y ∷ all) (suc k) x within is =
    let same : suc k + 1 ≡ suc (k + 1) = omega arith in
    from_here all k x (omega (arith, within)) is ∙ ap (λ n. x ∷ drop n (y ∷ all)) (sym same)

pub past_all : {A : Type 0} (all : List A) (k : ℕ) → length all ≤ k → drop k all ≡ []
past_all [] zero past = refl
past_all [] (suc k) past = refl
past_all (y ∷ all) zero past = absurd (omega (arith, past))
past_all (y ∷ all) (suc k) past = past_all all k (omega (arith, past))

-- so where an item is looked up
lt_true : (a b : ℕ) → true ≡ nat_lt a b → a < b
lt_true a b h = grind (arith, nat_tests)

found : {A : Type 0} (all : List A) (k : ℕ) (x : A) → k < length all → x ≡ slice_index_or all k x → x ≡ get_or all k x
found [] k x within is = absurd (omega (arith, within))
found (y ∷ all) zero x within is = is
found (y ∷ all) (suc k) x within is = found all k x (omega (arith, within)) is

pub from_got : {A : Type 0} (all : List A) (k : ℕ) (x : A) → true ≡ nat_lt k (length all) → x ≡ slice_index_or all k x → drop k all ≡ x ∷ drop (k + 1) all
from_got all k x within is = let lt = lt_true k (length all) within in from_here all k x lt (found all k x lt is)

pub past_got : {A : Type 0} (all : List A) (k : ℕ) → false ≡ nat_lt k (length all) → drop k all ≡ []
past_got all k past = past_all all k (lt_false k (length all) past)

pub mass_got : (cs : List Core) (k : ℕ) (c : Core) → true ≡ nat_lt k (length cs) → c ≡ slice_index_or cs k c → mass c ≤ masses cs
mass_got cs k c within is = let lt = lt_true k (length cs) within in mass_at cs k c lt (found cs k c lt is)

-- one of all holds, or doesn't
pub goes_on : (one here rest whole : Bool) → whole ≡ (here && rest) → one ≡ here → one ≡ true → whole ≡ rest
goes_on one here rest whole h is t = h ∙ ap (λ a. a && rest) (sym is ∙ t)

pub ends_here : (one here rest whole : Bool) → whole ≡ (here && rest) → one ≡ here → one ≡ false → false ≡ whole
ends_here one here rest whole h is f = sym (h ∙ ap (λ a. a && rest) (sym is ∙ f))

-- so where two are asked of each
pub two_first : (a b c : Bool) → (a && (b && c)) ≡ ((a && b) && c)
two_first true b c = refl
two_first false b c = refl
