-- How much there is to walk over in the parts that are left, and in targets.
use Rattle.std.proofs.Common.{◌≡◌, ◌∙◌, ◌≤◌, ◌+◌, ◌-◌, ap, arith, ℕ, List, [], ◌∷◌, ◌++◌, length, drop, take, get_or}
use Rattle.sail_core.specs.declared.targets.Target.{Target}
use Rattle.sail_core.specs.declared.tree.Core.{Core}
use Rattle.expression_steps.specs.Coded.{way_cores}
use Rattle.expression_steps.specs.declared.ways.Way.{Way}
use Rattle.expression_steps.proofs.Masses.{first_mass, mass, masses, masses_drop, masses_take, no_mass, rest_mass}
use Rattle.expression_steps.proofs.Masses.{target_at, target_mass, target_masses, way_masses}
use Rattle.expression_steps.proofs.Left.{ends_of}
use Rattle.expression_steps.proofs.Rests.{others}

-- ---- parts that are left

pub taken_mass : (k n : ℕ) (ps ls args : List Core) → ls ≡ drop k ps → args ≡ take n ls → masses args ≤ masses ps
taken_mass k n ps ls args left taken =
    let d : masses args ≡ masses (take n ls) = ap masses taken in
    let h = masses_take ls n in
    let e : masses ls ≡ masses (drop k ps) = ap masses left in
    let g = masses_drop ps k in omega (arith, d, h, e, g)

masses_end : (cs : List Core) (c : Core) → masses (cs ++ c ∷ []) ≡ masses cs + mass c
masses_end [] c = let e = first_mass c [] in let d = no_mass in omega (arith, e, d)
masses_end (x ∷ cs) c =
    let e = first_mass x (cs ++ c ∷ []) in
    let d = first_mass x cs in
    let h = masses_end cs c in omega (arith, e, d, h)

-- the items between a first and a last one, as the code has them
abbrev pub between : {A : Type 0} → List A → List A
between xs = take (length xs - 1 - 1) (drop 1 xs)

pub ends_are : {A : Type 0} (xs : List A) (a c : A) → 2 ≤ length xs → a ≡ get_or xs 0 a → c ≡ get_or xs (length xs - 1) c → xs ≡ a ∷ between xs ++ c ∷ []
ends_are xs a c some is too =
    let e : length xs - 2 ≡ length xs - 1 - 1 = omega arith in
    ends_of xs a c some is too ∙ (λ j. a ∷ take (e j) (drop 1 xs) ++ c ∷ [])

pub ends_masses : (cs : List Core) (a c : Core) → 2 ≤ length cs → a ≡ get_or cs 0 a → c ≡ get_or cs (length cs - 1) c
    → mass a + masses (between cs) + mass c ≤ masses cs
ends_masses cs a c some is too =
    let e : masses cs ≡ masses (a ∷ between cs ++ c ∷ []) = ap masses (ends_are cs a c some is too) in
    let d = first_mass a (between cs ++ c ∷ []) in
    let h = masses_end (between cs) c in omega (arith, e, d, h)

-- ---- targets

pub only_target : (ts : List Target) (t : Target) → 1 ≤ length ts → t ≡ get_or ts 0 t → target_mass t ≤ target_masses ts
only_target ts t some is = target_at ts 0 t (omega (arith, some)) is

-- ---- ways over the parts behind the first

pub cased_masses : (ws ss : List Way) (cs : List Core) (a : Core) (n : ℕ) → ss ≡ ws → way_cores ws ≡ take n (others cs) → 1 ≤ length cs
    → a ≡ get_or cs 0 a → way_masses ss ≤ masses cs
unfolding way_masses
cased_masses ws ss cs a n same is some first =
    let e : masses (way_cores ss) ≡ masses (take n (others cs)) = ap masses (ap way_cores same ∙ is) in
    let h = masses_take (others cs) n in
    let g = rest_mass cs a some first in omega (arith, e, h, g)

pub tried_masses : (ws ss : List Way) (cs : List Core) (a : Core) (n : ℕ) → ss ≡ ws → way_cores ws ≡ a ∷ take n (others cs) → 1 ≤ length cs
    → a ≡ get_or cs 0 a → way_masses ss ≤ masses cs
unfolding way_masses
tried_masses ws ss cs a n same is some first =
    let e : masses (way_cores ss) ≡ masses (a ∷ take n (others cs)) = ap masses (ap way_cores same ∙ is) in
    let d = first_mass a (take n (others cs)) in
    let h = masses_take (others cs) n in
    let g = rest_mass cs a some first in omega (arith, e, d, h, g)
