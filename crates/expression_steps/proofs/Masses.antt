-- How much of an expression there is to walk over.
use Rattle.std.proofs.Common.{◌≡◌, ◌∙◌, ap, sym, refl, ℕ, zero, suc, ◌+◌, ◌-◌, ◌*◌, ◌≤◌, ◌<◌, List, [], ◌∷◌, ◌++◌, map, length, drop, take, get_or, arith}
use Rattle.sail_core.specs.declared.targets.Target.{Target, Target-F, fold-Target, out-Target, fold_out-Target}
use Rattle.sail_core.specs.declared.targets.TargetKind.{TargetKind}
use Rattle.sail_core.specs.declared.targets.TargetKind.TheVariants as T
use Rattle.sail_core.specs.declared.tree.Core.{Core, Core-F, fold-Core, out-Core, fold_out-Core}
use Rattle.sail_core.specs.declared.tree.Kind.{Kind}
use Rattle.sail_core.specs.declared.tree.Kind.TheVariants as K
use Rattle.expression_steps.specs.declared.ways.Way.{Way}
use Rattle.expression_steps.specs.Coded.{way_core, way_cores}
use Rattle.expression_steps.proofs.Rests.{others_of}

sum_of : List ℕ → ℕ
sum_of [] = 0
sum_of (x ∷ xs) = x + sum_of xs

-- ---- targets

abbrev pub target_kind_mass : TargetKind → ℕ
target_kind_mass (T.Part suffixes) = 4 * length suffixes
target_kind_mass kind = 0

target_form : Target-F ℕ → ℕ
target_form t = 64 + target_kind_mass t.kind + sum_of t.parts

pub target_mass : Target → ℕ
target_mass = fold-Target ℕ target_form

pub target_masses : List Target → ℕ
target_masses ts = sum_of (map target_mass ts)

-- ---- expressions

abbrev pub kind_mass : Kind → ℕ
kind_mass (K.Assign targets) = target_masses targets
kind_mass kind = 0

core_form : Core-F ℕ → ℕ
core_form c = 64 + kind_mass c.kind + sum_of c.parts

pub mass : Core → ℕ
mass = fold-Core ℕ core_form

pub masses : List Core → ℕ
masses cs = sum_of (map mass cs)

pub mass_opens : (c : Core) (ps : List Core) → ps ≡ (out-Core c).parts → mass c ≡ 64 + kind_mass (out-Core c).kind + masses ps
unfolding mass masses sum_of core_form
mass_opens c ps same = fold_out-Core ℕ core_form c ∙ ap (λ (qs : List Core). 64 + kind_mass (out-Core c).kind + sum_of (map mass qs)) (sym same)

pub target_opens : (t : Target) (ps : List Target) → ps ≡ (out-Target t).parts
    → target_mass t ≡ 64 + target_kind_mass (out-Target t).kind + target_masses ps
unfolding target_mass target_masses sum_of target_form
target_opens t ps same =
    fold_out-Target ℕ target_form t ∙ ap (λ (qs : List Target). 64 + target_kind_mass (out-Target t).kind + sum_of (map target_mass qs)) (sym same)

-- ---- parts of several

pub first_mass : (c : Core) (cs : List Core) → masses (c ∷ cs) ≡ mass c + masses cs
unfolding masses sum_of
first_mass c cs = refl

pub no_mass : masses [] ≡ 0
unfolding masses sum_of
no_mass = refl

pub mass_some : (c : Core) → 64 ≤ mass c
mass_some c = let e = mass_opens c (out-Core c).parts refl in omega (arith, e)

pub mass_at : (cs : List Core) (k : ℕ) (c : Core) → k < length cs → c ≡ get_or cs k c → mass c ≤ masses cs
mass_at [] k c within is = absurd (omega arith)
mass_at (d ∷ cs) zero c within is = let same : mass c ≡ mass d = ap mass is in let e = first_mass d cs in omega (arith, same, e)
mass_at (d ∷ cs) (suc k) c within is = let h = mass_at cs k c (omega arith) is in let e = first_mass d cs in omega (arith, h, e)

pub masses_drop : (cs : List Core) (k : ℕ) → masses (drop k cs) ≤ masses cs
masses_drop cs zero = omega arith
masses_drop [] (suc k) = omega arith
masses_drop (c ∷ cs) (suc k) = let h = masses_drop cs k in let e = first_mass c cs in omega (arith, h, e)

pub masses_take : (cs : List Core) (k : ℕ) → masses (take k cs) ≤ masses cs
masses_take cs zero = let e = no_mass in omega (arith, e)
masses_take [] (suc k) = omega arith
masses_take (c ∷ cs) (suc k) = let h = masses_take cs k in let e = first_mass c cs in let d = first_mass c (take k cs) in omega (arith, h, e, d)

-- ---- the first parts

pub one_mass : (cs : List Core) (a : Core) → 1 ≤ length cs → a ≡ get_or cs 0 a → mass a ≤ masses cs
one_mass cs a some is = mass_at cs 0 a (omega (arith, some)) is

pub rest_mass : (cs : List Core) (a : Core) → 1 ≤ length cs → a ≡ get_or cs 0 a → mass a + masses (take (length cs - 1) (drop 1 cs)) ≤ masses cs
rest_mass [] a some is = absurd (omega arith)
rest_mass (c ∷ cs) a some is =
    let same : mass a ≡ mass c = ap mass is in
    let left : masses (take (length (c ∷ cs) - 1) cs) ≡ masses cs = ap masses (others_of c cs) in
    let e = first_mass c cs in omega (arith, same, e, left)

pub two_masses : (cs : List Core) (a b : Core) → 2 ≤ length cs → a ≡ get_or cs 0 a → b ≡ get_or cs 1 b → mass a + mass b ≤ masses cs
two_masses [] a b some is too = absurd (omega arith)
two_masses (c ∷ cs) a b some is too =
    let same : mass a ≡ mass c = ap mass is in
    let h = mass_at cs 0 b (omega arith) too in let e = first_mass c cs in omega (arith, same, e, h)

pub three_masses : (cs : List Core) (a b d : Core) → 3 ≤ length cs → a ≡ get_or cs 0 a → b ≡ get_or cs 1 b → d ≡ get_or cs 2 d
    → mass a + mass b + mass d ≤ masses cs
three_masses [] a b d some is too tre = absurd (omega arith)
three_masses (c ∷ cs) a b d some is too tre =
    let same : mass a ≡ mass c = ap mass is in
    let h = two_masses cs b d (omega arith) too tre in let e = first_mass c cs in omega (arith, same, e, h)

pub four_masses : (cs : List Core) (a b d f : Core) → 4 ≤ length cs → a ≡ get_or cs 0 a → b ≡ get_or cs 1 b → d ≡ get_or cs 2 d
    → f ≡ get_or cs 3 f → mass a + mass b + mass d + mass f ≤ masses cs
four_masses [] a b d f some is too tre last = absurd (omega arith)
four_masses (c ∷ cs) a b d f some is too tre last =
    let same : mass a ≡ mass c = ap mass is in
    let h = three_masses cs b d f (omega arith) too tre last in let e = first_mass c cs in omega (arith, same, e, h)

-- ---- targets, likewise

pub target_some : (t : Target) → 64 ≤ target_mass t
target_some t = let e = target_opens t (out-Target t).parts refl in omega (arith, e)

pub first_target : (t : Target) (ts : List Target) → target_masses (t ∷ ts) ≡ target_mass t + target_masses ts
unfolding target_masses sum_of
first_target t ts = refl

pub rest_target : (ts : List Target) (t : Target) → 1 ≤ length ts → t ≡ get_or ts 0 t
    → target_mass t + target_masses (take (length ts - 1) (drop 1 ts)) ≤ target_masses ts
rest_target [] t some is = absurd (omega arith)
rest_target (u ∷ ts) t some is =
    let same : target_mass t ≡ target_mass u = ap target_mass is in
    let left : target_masses (take (length (u ∷ ts) - 1) ts) ≡ target_masses ts = ap target_masses (others_of u ts) in
    let e = first_target u ts in omega (arith, same, e, left)

pub target_at : (ts : List Target) (k : ℕ) (t : Target) → k < length ts → t ≡ get_or ts k t → target_mass t ≤ target_masses ts
target_at [] k t within is = absurd (omega arith)
target_at (u ∷ ts) zero t within is = let same : target_mass t ≡ target_mass u = ap target_mass is in let e = first_target u ts in omega (arith, same, e)
target_at (u ∷ ts) (suc k) t within is = let h = target_at ts k t (omega arith) is in let e = first_target u ts in omega (arith, h, e)

-- ---- ways

abbrev pub way_mass : Way → ℕ
way_mass w = mass (way_core w)

unfoldable pub way_masses : List Way → ℕ
way_masses ws = masses (way_cores ws)

pub first_way : (w : Way) (ws : List Way) → way_masses (w ∷ ws) ≡ way_mass w + way_masses ws
unfolding way_masses masses sum_of
first_way w ws = refl

pub no_ways : way_masses [] ≡ 0
unfolding way_masses masses sum_of
no_ways = refl

pub way_at : (ws : List Way) (k : ℕ) (w : Way) → k < length ws → w ≡ get_or ws k w → way_mass w ≤ way_masses ws
way_at [] k w within is = absurd (omega arith)
way_at (v ∷ ws) zero w within is = let same : way_mass w ≡ way_mass v = ap way_mass is in let e = first_way v ws in omega (arith, same, e)
way_at (v ∷ ws) (suc k) w within is = let h = way_at ws k w (omega arith) is in let e = first_way v ws in omega (arith, h, e)

pub two_way_masses : (v w : Way) → way_masses (v ∷ w ∷ []) ≡ way_mass v + way_mass w
two_way_masses v w = let e = first_way v (w ∷ []) in let d = first_way w [] in let n = no_ways in omega (arith, e, d, n)

masses_append : (cs ds : List Core) → masses (cs ++ ds) ≡ masses cs + masses ds
masses_append [] ds = let e = no_mass in omega (arith, e)
masses_append (c ∷ cs) ds = let h = masses_append cs ds in let e = first_mass c (cs ++ ds) in let d = first_mass c cs in omega (arith, h, e, d)

pub either_masses : (ws : List Way) (a b : Core) → way_cores ws ≡ a ∷ b ∷ [] → way_masses ws ≡ mass a + mass b
unfolding way_masses
either_masses ws a b is =
    let e : masses (way_cores ws) ≡ masses (a ∷ b ∷ []) = ap masses is in
    let d = first_mass a (b ∷ []) in let h = first_mass b [] in let n = no_mass in
    omega (arith, e, d, h, n)

-- ways, and behind them so many bodies
pub more_ways : (ws us : List Way) (bodies : List Core) (n : ℕ) → way_cores ws ≡ way_cores us ++ take n bodies
    → way_masses ws ≤ way_masses us + masses bodies
unfolding way_masses
more_ways ws us bodies n is =
    let e : masses (way_cores ws) ≡ masses (way_cores us ++ take n bodies) = ap masses is in
    let d = masses_append (way_cores us) (take n bodies) in
    let h = masses_take bodies n in
    omega (arith, e, d, h)

-- ---- as rules

pub ruleset weights = (one_mass, rest_mass, two_masses, three_masses, four_masses, mass_some, target_some)
