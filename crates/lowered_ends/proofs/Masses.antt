-- How much of a tree there is to walk over.
use Rattle.std.proofs.Common.{◌≡◌, ◌∙◌, ap, sym, refl, ℕ, zero, suc, ◌+◌, ◌-◌, ◌≤◌, ◌<◌, List, [], ◌∷◌, ◌++◌, map, length, drop, take, get_or, arith}
use Rattle.sail_core.specs.declared.tree.Core.{Core, Core-F, fold-Core, out-Core, fold_out-Core}
use Rattle.sail_core.specs.declared.tree.Kind.{Kind}
use Rattle.sail_core.specs.declared.tree.Kind.TheVariants as K
use Rattle.lowered_ends.proofs.Lists.{behind_two, but_last, last_of, others_of, two_and}

sum_of : List ℕ → ℕ
sum_of [] = 0
sum_of (x ∷ xs) = x + sum_of xs

-- suffixes are walked over one by one
abbrev pub kind_mass : Kind → ℕ
kind_mass (K.Part suffixes) = length suffixes
kind_mass kind = 0

core_form : Core-F ℕ → ℕ
core_form c = 64 + kind_mass c.kind + sum_of c.parts

pub mass : Core → ℕ
mass = fold-Core ℕ core_form

pub masses : List Core → ℕ
masses cs = sum_of (map mass cs)

pub mass_opens : (c : Core) (ps : List Core) → ps ≡ (out-Core c).parts → mass c ≡ 64 + kind_mass (out-Core c).kind + masses ps
unfolding mass masses sum_of core_form
mass_opens c ps same = fold_out-Core ℕ core_form c ∙ ap (λ (qs : List Core). 64 + kind_mass (out-Core c).kind + sum_of (map mass qs)) (sym same)

-- ---- parts of several

pub first_mass : (c : Core) (cs : List Core) → masses (c ∷ cs) ≡ mass c + masses cs
unfolding masses sum_of
first_mass c cs = refl

pub no_mass : masses [] ≡ 0
unfolding masses sum_of
no_mass = refl

pub mass_some : (c : Core) → 64 ≤ mass c
mass_some c = let e = mass_opens c (out-Core c).parts refl in omega (arith, e)

pub mass_at : (cs : List Core) (k : ℕ) (c : Core) → k < length cs → c ≡ get_or cs k c → mass c ≤ masses cs
mass_at [] k c within is = absurd (omega arith)
mass_at (d ∷ cs) zero c within is = let same : mass c ≡ mass d = ap mass is in let e = first_mass d cs in omega (arith, same, e)
mass_at (d ∷ cs) (suc k) c within is = let h = mass_at cs k c (omega arith) is in let e = first_mass d cs in omega (arith, h, e)

pub masses_drop : (cs : List Core) (k : ℕ) → masses (drop k cs) ≤ masses cs
masses_drop cs zero = omega arith
masses_drop [] (suc k) = omega arith
masses_drop (c ∷ cs) (suc k) = let h = masses_drop cs k in let e = first_mass c cs in omega (arith, h, e)

pub masses_take : (cs : List Core) (k : ℕ) → masses (take k cs) ≤ masses cs
masses_take cs zero = let e = no_mass in omega (arith, e)
masses_take [] (suc k) = omega arith
masses_take (c ∷ cs) (suc k) = let h = masses_take cs k in let e = first_mass c cs in let d = first_mass c (take k cs) in omega (arith, h, e, d)

-- ---- the first parts

pub one_mass : (cs : List Core) (a : Core) → 1 ≤ length cs → a ≡ get_or cs 0 a → mass a ≤ masses cs
one_mass cs a some is = mass_at cs 0 a (omega (arith, some)) is

pub rest_mass : (cs : List Core) (a : Core) → 1 ≤ length cs → a ≡ get_or cs 0 a → mass a + masses (take (length cs - 1) (drop 1 cs)) ≤ masses cs
rest_mass [] a some is = absurd (omega arith)
rest_mass (c ∷ cs) a some is =
    let same : mass a ≡ mass c = ap mass is in
    let left : masses (take (length (c ∷ cs) - 1) cs) ≡ masses cs = ap masses (others_of c cs) in
    let e = first_mass c cs in omega (arith, same, e, left)

pub two_masses : (cs : List Core) (a b : Core) → 2 ≤ length cs → a ≡ get_or cs 0 a → b ≡ get_or cs 1 b → mass a + mass b ≤ masses cs
two_masses [] a b some is too = absurd (omega arith)
two_masses (c ∷ cs) a b some is too =
    let same : mass a ≡ mass c = ap mass is in
    let h = mass_at cs 0 b (omega arith) too in let e = first_mass c cs in omega (arith, same, e, h)

pub two_rest_mass : (cs : List Core) (a b : Core) → 2 ≤ length cs → a ≡ get_or cs 0 a → b ≡ get_or cs 1 b
    → mass a + mass b + masses (take (length cs - 2) (drop 2 cs)) ≤ masses cs
two_rest_mass cs a b some is too =
    let e : masses cs ≡ masses (a ∷ b ∷ behind_two cs) = ap masses (two_and cs a b some is too) in
    let f = first_mass a (b ∷ behind_two cs) in let g = first_mass b (behind_two cs) in omega (arith, e, f, g)

pub three_masses : (cs : List Core) (a b d : Core) → 3 ≤ length cs → a ≡ get_or cs 0 a → b ≡ get_or cs 1 b → d ≡ get_or cs 2 d
    → mass a + mass b + mass d ≤ masses cs
three_masses [] a b d some is too tre = absurd (omega arith)
three_masses (c ∷ cs) a b d some is too tre =
    let same : mass a ≡ mass c = ap mass is in
    let h = two_masses cs b d (omega arith) too tre in let e = first_mass c cs in omega (arith, same, e, h)

pub four_masses : (cs : List Core) (a b d f : Core) → 4 ≤ length cs → a ≡ get_or cs 0 a → b ≡ get_or cs 1 b → d ≡ get_or cs 2 d
    → f ≡ get_or cs 3 f → mass a + mass b + mass d + mass f ≤ masses cs
four_masses [] a b d f some is too tre last = absurd (omega arith)
four_masses (c ∷ cs) a b d f some is too tre last =
    let same : mass a ≡ mass c = ap mass is in
    let h = three_masses cs b d f (omega arith) too tre last in let e = first_mass c cs in omega (arith, same, e, h)

-- ---- the last part, and those before it

pub masses_last : (cs : List Core) (a : Core) → masses (cs ++ a ∷ []) ≡ masses cs + mass a
masses_last [] a = let e = first_mass a [] in let n = no_mass in omega (arith, e, n)
masses_last (c ∷ cs) a =
    let e = first_mass c (cs ++ a ∷ []) in let f = first_mass c cs in let h = masses_last cs a in omega (arith, e, f, h)

pub last_mass : (cs : List Core) (a : Core) → 1 ≤ length cs → a ≡ get_or cs (length cs - 1) a → mass a + masses (take (length cs - 1) cs) ≤ masses cs
last_mass cs a some is =
    let e : masses cs ≡ masses (but_last cs ++ a ∷ []) = ap masses (last_of cs a some is) in
    let f = masses_last (but_last cs) a in omega (arith, e, f)

-- ---- as rules

pub ruleset weights = (one_mass, rest_mass, last_mass, two_masses, two_rest_mass, three_masses, four_masses, mass_some)
