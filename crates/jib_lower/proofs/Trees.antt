-- How much of a tree there is to walk over.
use Rattle.std.proofs.Common.{◌≡◌, ◌∙◌, ap, sym, refl, ℕ, ◌+◌, ◌-◌, ◌≤◌, List, [], ◌∷◌, map, length, drop, take, get_or, arith}
use Rattle.sail_core.specs.declared.tree.Core.{Core, Core-F, fold-Core, out-Core, fold_out-Core}
use Rattle.lowered_steps.proofs.Lists.{others_of}

sum_of : List ℕ → ℕ
sum_of [] = 0
sum_of (x ∷ xs) = x + sum_of xs

core_form : Core-F ℕ → ℕ
core_form c = 2 + sum_of c.parts

pub mass : Core → ℕ
mass = fold-Core ℕ core_form

pub masses : List Core → ℕ
masses cs = sum_of (map mass cs)

pub mass_opens : (c : Core) (ps : List Core) → ps ≡ (out-Core c).parts → mass c ≡ 2 + masses ps
unfolding mass masses sum_of core_form
mass_opens c ps same = fold_out-Core ℕ core_form c ∙ ap (λ (qs : List Core). 2 + sum_of (map mass qs)) (sym same)

pub first_mass : (c : Core) (cs : List Core) → masses (c ∷ cs) ≡ mass c + masses cs
unfolding masses sum_of
first_mass c cs = refl

pub mass_some : (c : Core) → 2 ≤ mass c
mass_some c = let e = mass_opens c (out-Core c).parts refl in omega (arith, e)

pub rest_mass : (cs : List Core) (a : Core) → 1 ≤ length cs → a ≡ get_or cs 0 a → mass a + masses (take (length cs - 1) (drop 1 cs)) ≤ masses cs
rest_mass [] a some is = absurd (omega arith)
rest_mass (c ∷ cs) a some is =
    let same : mass a ≡ mass c = ap mass is in
    let left : masses (take (length (c ∷ cs) - 1) cs) ≡ masses cs = ap masses (others_of c cs) in
    let e = first_mass c cs in omega (arith, same, e, left)
