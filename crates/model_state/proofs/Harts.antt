-- A hart changed in its place, and a state whose harts are others.
use Rattle.std.proofs.Common.{◌≡◌, ℕ, zero, suc, ◌<◌, List, [], ◌∷◌, ◌++◌, map, take, drop, length, get_or, slice_get}
use Rattle.std.proofs.Common.{slice_set, IsSome, true, false, refl, ap, ◌∙◌, arith}
use Rattle.model_state.specs.declared.state.Hart.{Hart}
use Rattle.model_state.specs.RunState.{RunState, values_of, changed}

pub set-changed : (f : Hart → Hart) (harts : List Hart) (i : ℕ) (hart : Hart) → i < length harts → hart ≡ get_or harts
    i hart → slice_set harts i (f hart) ≡ changed f i harts
set-changed f [] i hart h e = absurd (omega arith)
set-changed f (first ∷ harts) zero hart h e = ap (λ x. f x ∷ harts) e
set-changed f (first ∷ harts) (suc i) hart h e = ap (λ xs. first ∷ xs) (set-changed f harts i hart (omega arith) e)

pub length-changed : (f : Hart → Hart) (i : ℕ) (harts : List Hart) → length (changed f i harts) ≡ length harts
length-changed f i [] = refl
length-changed f zero (hart ∷ harts) = refl
length-changed f (suc i) (hart ∷ harts) = ap suc (length-changed f i harts)

-- a state of these harts, seen from one that another is seen as
pub state-changed : (f : Hart → Hart) (state seen : RunState) (i : ℕ) (hart new : Hart) → seen ≡ state → i < length
    state.harts → hart ≡ get_or seen.harts i hart → new ≡ f hart → record seen { harts = slice_set seen.harts i new }
    ≡ record state { harts = changed f i state.harts }
state-changed f state seen i hart new e h k n =
    let within : i < length seen.harts = rw e h in
    let with_harts : RunState → List Hart → RunState = λ s harts. record s { harts = harts } in
    ap (with_harts seen) (ap (slice_set seen.harts i) n ∙ set-changed f seen.harts i hart within k) ∙ ap (λ s. with_harts s (changed f i s.harts)) e

-- where a register is there, its hart is
pub hart_there : (harts : List Hart) (i index : ℕ) → IsSome (slice_get (values_of (slice_get harts i)) index) → i < length harts
hart_there [] i index h = let k : false ≡ true = h in absurd (cc)
hart_there (hart ∷ harts) zero index h = omega arith
hart_there (hart ∷ harts) (suc i) index h = omega (arith, hart_there harts i index h)

-- the harts up to one more are changed
pub set-mapped : (f : Hart → Hart) (harts : List Hart) (i : ℕ) (hart new : Hart) → i < length harts → hart ≡ get_or
    (map f (take i harts) ++ drop i harts) i hart → new ≡ f hart → slice_set (map f (take i harts) ++ drop i harts) i
    new ≡ map f (take (suc i) harts) ++ drop (suc i) harts
set-mapped f [] i hart new h e n = absurd (omega arith)
set-mapped f (first ∷ harts) zero hart new h e n = ap (λ x. x ∷ harts) (n ∙ ap f e)
set-mapped f (first ∷ harts) (suc i) hart new h e n = ap (λ xs. f first ∷ xs) (set-mapped f harts i hart new (omega arith) e n)
