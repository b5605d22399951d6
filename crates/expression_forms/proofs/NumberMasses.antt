-- How much of a number there is to keep in bounds.
use Rattle.std.proofs.Common.{◌≡◌, ◌∙◌, ap, sym, refl, ℕ, zero, suc, ◌+◌, ◌≤◌, ◌<◌, List, [], ◌∷◌, map, length, get_or, arith}
use Rattle.sail_types.specs.Sums.{atom_of, terms_of}
use Rattle.sail_types.specs.declared.numbers.Atom.{Atom}
use Rattle.sail_types.specs.declared.numbers.Atom.TheFolds.{fold-Atom, fold-Num, fold-Term, fold-roll-Atom, fold-roll-Num, fold-roll-Term}
use Rattle.sail_types.specs.declared.numbers.Atom.TheOpen as N
use Rattle.sail_types.specs.declared.numbers.Atom.TheOpen.{Atom-F, Num-F, Term-F}
use Rattle.sail_types.specs.declared.numbers.Atom.TheVariants as A
use Rattle.sail_types.specs.declared.numbers.Atom.TheViews.{roll-out-Num, roll-out-Term}
use Rattle.sail_types.specs.declared.numbers.Num.{Num, out-Num}
use Rattle.sail_types.specs.declared.numbers.Term.{Term, out-Term}
use Rattle.expression_forms.proofs.Rests.{first_of, others}

sum_of : List ℕ → ℕ
sum_of [] = 0
sum_of (x ∷ xs) = x + sum_of xs

atom_form : Atom-F ℕ ℕ ℕ → ℕ
atom_form (N.Variable i) = 1
atom_form (N.Power n) = 1 + n

num_form : Num-F ℕ ℕ ℕ → ℕ
num_form n = 4 + sum_of n.terms

term_form : Term-F ℕ ℕ ℕ → ℕ
term_form t = 1 + t.atom

pub num_mass : Num → ℕ
num_mass = fold-Num ℕ ℕ ℕ atom_form num_form term_form

pub atom_mass : Atom → ℕ
atom_mass = fold-Atom ℕ ℕ ℕ atom_form num_form term_form

pub term_mass : Term → ℕ
term_mass = fold-Term ℕ ℕ ℕ atom_form num_form term_form

pub term_masses : List Term → ℕ
term_masses ts = sum_of (map term_mass ts)

-- ---- a number, a term and a power, as they open

pub num_opens : (n : Num) (ts : List Term) → ts ≡ terms_of n → num_mass n ≡ 4 + term_masses ts
unfolding num_mass term_masses term_mass num_form
num_opens n ts same =
    ap num_mass (sym (roll-out-Num n)) ∙ fold-roll-Num ℕ ℕ ℕ atom_form num_form term_form (out-Num n)
    ∙ ap (λ (us : List Term). 4 + term_masses us) (sym same)

pub term_opens : (t : Term) → term_mass t ≡ 1 + atom_mass (atom_of t)
unfolding term_mass atom_mass term_form
term_opens t = ap term_mass (sym (roll-out-Term t)) ∙ fold-roll-Term ℕ ℕ ℕ atom_form num_form term_form (out-Term t)

pub power_opens : (a : Atom) (n m : Num) → a ≡ A.Power n → m ≡ n → atom_mass a ≡ 1 + num_mass m
unfolding atom_mass num_mass atom_form
power_opens a n m is same =
    ap atom_mass (is ∙ sym (A.rolls-Power n)) ∙ fold-roll-Atom ℕ ℕ ℕ atom_form num_form term_form (N.Power n) ∙ ap (λ (x : Num). 1 + num_mass x) (sym same)

-- ---- terms

pub first_term : (t : Term) (ts : List Term) → term_masses (t ∷ ts) ≡ term_mass t + term_masses ts
unfolding term_masses sum_of
first_term t ts = refl

pub rest_term : (ts : List Term) (t : Term) → 1 ≤ length ts → t ≡ get_or ts 0 t → term_masses ts ≡ term_mass t + term_masses (others ts)
rest_term ts t some is = ap term_masses (first_of ts t some is) ∙ first_term t (others ts)

pub term_at : (ts : List Term) (k : ℕ) (t : Term) → k < length ts → t ≡ get_or ts k t → term_mass t ≤ term_masses ts
term_at [] k t within is = absurd (omega arith)
term_at (u ∷ ts) zero t within is = let same : term_mass t ≡ term_mass u = ap term_mass is in let e = first_term u ts in omega (arith, same, e)
term_at (u ∷ ts) (suc k) t within is = let h = term_at ts k t (omega arith) is in let e = first_term u ts in omega (arith, h, e)
