-- The numbers of a definition that is numbered come one after the other.
use Rattle.std.proofs.Common.{◌≡◌, ℕ, ◌<◌, List, [], ◌∷◌, ◌++◌, map, refl, sym, ap, subst, arith, suc, Some, None}
use Rattle.sail_core.specs.Nodes.{joined, suffix_numbers, target_kind_numbers, target_numbers, kind_numbers, numbers, is_new, AllDiffer}
use Rattle.sail_core.specs.declared.targets.Suffix.{Suffix}
use Rattle.sail_core.specs.declared.targets.TargetKind.{TargetKind}
use Rattle.sail_core.specs.declared.targets.TargetKind.TheVariants as T
use Rattle.sail_core.specs.declared.targets.Target.{Target, Target-F, roll-Target, map-Target, fold-roll-Target, ind-Target}
use Rattle.sail_core.specs.declared.tree.Kind.{Kind}
use Rattle.sail_core.specs.declared.tree.Kind.TheVariants as K
use Rattle.sail_core.specs.declared.tree.Core.{Core, Core-F, roll-Core, map-Core, fold-roll-Core, ind-Core}
use Rattle.core_numbers.specs.Numbers.{Numbered, Numbering, each_numbered, suffix_numbered, target_kind_numbered, target_with, target_numbered}
use Rattle.core_numbers.specs.Numbers.{kind_numbered, core_with, numbered}

-- these come one after the other from one on, and another comes next
abbrev pub Runs : List ℕ → ℕ → ℕ → Type 0
Runs [] n m = n ≡ m
Runs (x ∷ xs) n m = (x ≡ n) × Runs xs (suc n) m

pub runs_behind : (xs ys : List ℕ) (n m k : ℕ) → Runs xs n m → Runs ys m k → Runs (xs ++ ys) n k
runs_behind [] ys n m k h g = subst (λ i. Runs ys i k) (sym h) g
runs_behind (x ∷ xs) ys n m k h g = (h.0, runs_behind xs ys (suc n) m k h.1 g)

-- an earlier one is none of them
earlier_is_new : (i n m : ℕ) (xs : List ℕ) → i < n → Runs xs n m → is_new i xs
earlier_is_new i n m [] less h = tt
earlier_is_new i n m (x ∷ xs) less h =
    let is : x ≡ n = h.0 in ((λ same. absurd (omega arith)), earlier_is_new i (suc n) m xs (omega arith) h.1)

differ : (xs : List ℕ) (n m : ℕ) → Runs xs n m → AllDiffer xs
differ [] n m h = tt
differ (x ∷ xs) n m h = let is : x ≡ n = h.0 in (earlier_is_new x (suc n) m xs (omega arith) h.1, differ xs (suc n) m h.1)

suffixes_run : (ss : List Suffix) (n : ℕ)
    → Runs (suffix_numbers (each_numbered (map suffix_numbered ss) n).it) n (each_numbered (map suffix_numbered ss) n).next
suffixes_run [] n = refl
suffixes_run (s ∷ ss) n = (refl, suffixes_run ss (suc n))

target_kind_runs : (k : TargetKind) (n : ℕ) → Runs (target_kind_numbers (target_kind_numbered k n).it) n (target_kind_numbered k n).next
target_kind_runs (T.Call count None writer) n = (refl, refl)
target_kind_runs (T.Call count (Some reader) writer) n = (refl, (refl, refl))
target_kind_runs (T.Part ss) n = suffixes_run ss n
target_kind_runs kind n = refl

TargetRuns : Target → Type 0
TargetRuns t = (n : ℕ) → Runs (target_numbers (target_numbered t n).it) n (target_numbered t n).next

inner_run : (ys : List ((t : Target) × TargetRuns t)) (n : ℕ)
    → Runs (joined (map target_numbers (each_numbered (map target_numbered (map (λ y. y.0) ys)) n).it)) n
    (each_numbered (map target_numbered (map (λ y. y.0) ys)) n).next
unfolding TargetRuns
inner_run [] n = refl
inner_run (y ∷ ys) n =
    runs_behind (target_numbers (target_numbered y.0 n).it)
    (joined (map target_numbers (each_numbered (map target_numbered (map (λ y. y.0) ys)) (target_numbered y.0 n).next).it)) n
    (target_numbered y.0 n).next (each_numbered (map target_numbered (map (λ y. y.0) ys)) (target_numbered y.0 n).next).next
    (y.1 n) (inner_run ys (target_numbered y.0 n).next)

target_step : (y : Target-F ((t : Target) × TargetRuns t)) → TargetRuns (roll-Target (map-Target ((t : Target) × TargetRuns t) Target (λ q. q.0) y))
unfolding TargetRuns
target_step y = λ n.
    let t = map-Target ((t : Target) × TargetRuns t) Target (λ q. q.0) y in
    let kind = target_kind_numbered y.kind (suc n) in
    let parts = each_numbered (map target_numbered (map (λ u. u.0) y.parts)) kind.next in
    let made = ap (λ (f : Numbering Target). f n)
    (fold-roll-Target (Numbering Target) (λ t n. target_with t n (target_kind_numbered t.kind (suc n))) t) in
    subst (λ (r : Numbered Target). Runs (target_numbers r.it) n r.next) (sym made)
    (subst (λ (ns : List ℕ). Runs ns n parts.next)
    (sym (fold-roll-Target (List ℕ) (λ t. t.number ∷ target_kind_numbers t.kind ++ joined t.parts)
    (record { place = y.place; number = n; kind = kind.it; parts = parts.it }))) (
      refl,
      runs_behind (target_kind_numbers kind.it) (joined (map target_numbers parts.it)) (suc n) kind.next parts.next
          (target_kind_runs y.kind (suc n)) (inner_run y.parts kind.next),
    ))

target_runs : (t : Target) → TargetRuns t
target_runs = ind-Target TargetRuns (λ t y is. subst (λ d. TargetRuns (roll-Target d)) is (target_step y))

targets_run : (ts : List Target) (n : ℕ)
    → Runs (joined (map target_numbers (each_numbered (map target_numbered ts) n).it)) n (each_numbered (map target_numbered ts) n).next
unfolding TargetRuns
targets_run [] n = refl
targets_run (t ∷ ts) n =
    runs_behind (target_numbers (target_numbered t n).it)
    (joined (map target_numbers (each_numbered (map target_numbered ts) (target_numbered t n).next).it)) n
    (target_numbered t n).next (each_numbered (map target_numbered ts) (target_numbered t n).next).next
    (target_runs t n) (targets_run ts (target_numbered t n).next)

kind_runs : (k : Kind) (n : ℕ) → Runs (kind_numbers (kind_numbered k n).it) n (kind_numbered k n).next
kind_runs (K.Part ss) n = suffixes_run ss n
kind_runs (K.Assign ts) n = targets_run ts n
kind_runs kind n = refl

abbrev pub CoreRuns : Core → Type 0
CoreRuns c = (n : ℕ) → Runs (numbers (numbered c n).it) n (numbered c n).next

parts_run : (ys : List ((c : Core) × CoreRuns c)) (n : ℕ)
    → Runs (joined (map numbers (each_numbered (map numbered (map (λ y. y.0) ys)) n).it)) n (each_numbered (map numbered (map (λ y. y.0) ys)) n).next
parts_run [] n = refl
parts_run (y ∷ ys) n =
    runs_behind (numbers (numbered y.0 n).it)
    (joined (map numbers (each_numbered (map numbered (map (λ y. y.0) ys)) (numbered y.0 n).next).it)) n
    (numbered y.0 n).next (each_numbered (map numbered (map (λ y. y.0) ys)) (numbered y.0 n).next).next
    (y.1 n) (parts_run ys (numbered y.0 n).next)

core_step : (y : Core-F ((c : Core) × CoreRuns c)) → CoreRuns (roll-Core (map-Core ((c : Core) × CoreRuns c) Core (λ q. q.0) y))
core_step y = λ n.
    let c = map-Core ((c : Core) × CoreRuns c) Core (λ q. q.0) y in
    let kind = kind_numbered y.kind (suc n) in
    let parts = each_numbered (map numbered (map (λ u. u.0) y.parts)) kind.next in
    let made = ap (λ (f : Numbering Core). f n) (fold-roll-Core (Numbering Core) (λ c n. core_with c n (kind_numbered c.kind (suc n))) c) in
    subst (λ (r : Numbered Core). Runs (numbers r.it) n r.next) (sym made)
    (subst (λ (ns : List ℕ). Runs ns n parts.next)
    (sym (fold-roll-Core (List ℕ) (λ c. c.number ∷ kind_numbers c.kind ++ joined c.parts)
    (record { place = y.place; number = n; kind = kind.it; parts = parts.it }))) (
      refl,
      runs_behind (kind_numbers kind.it) (joined (map numbers parts.it)) (suc n) kind.next parts.next
          (kind_runs y.kind (suc n)) (parts_run y.parts kind.next),
    ))

pub core_runs : (c : Core) → CoreRuns c
core_runs = ind-Core CoreRuns (λ c y is. subst (λ d. CoreRuns (roll-Core d)) is (core_step y))

pub numbers_differ : (c : Core) (n : ℕ) → AllDiffer (numbers (numbered c n).it)
numbers_differ c n = differ (numbers (numbered c n).it) n (numbered c n).next (core_runs c n)

-- and so do those of two trees of which one is numbered behind the other
pub both_differ : (c d : Core) (n : ℕ) → AllDiffer (numbers (numbered c n).it ++ numbers (numbered d (numbered c n).next).it)
both_differ c d n =
    differ (numbers (numbered c n).it ++ numbers (numbered d (numbered c n).next).it) n (numbered d (numbered c n).next).next
    (runs_behind (numbers (numbered c n).it) (numbers (numbered d (numbered c n).next).it) n (numbered c n).next (numbered d (numbered c n).next).next
    (core_runs c n) (core_runs d (numbered c n).next))
