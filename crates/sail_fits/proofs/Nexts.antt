-- Values against types, one further on.
use Rattle.std.proofs.Common.{◌≡◌, ℕ, zero, suc, ◌+◌, ◌<◌, List, [], ◌∷◌, map, length, drop, get_or, ap, sym, ◌∙◌, subst, arith, Bool, true, false, ◌&&◌}
use Rattle.sail_types.specs.Shapes.{at, each_fits, fits, put, shape, shapes_under}
use Rattle.sail_types.specs.declared.shapes.Shape.{Shape}
use Rattle.sail_types.specs.declared.table.Types.{Types}
use Rattle.sail_types.specs.declared.types.Typ.{Typ}
use Rattle.sail_types.specs.declared.values.Value.{Value}

next : (types : Types) (ss : List Shape) (vs : List Value) (ts : List Typ) (i : ℕ) (v : Value) (t : Typ) → i < length vs → i < length ts
    → v ≡ get_or vs i v → t ≡ get_or ts i t
    → each_fits (map (fits types) (drop i vs)) (shapes_under ss (drop i ts))
    ≡ (fits types v (put (at ss) (shape t)) && each_fits (map (fits types) (drop (suc i) vs)) (shapes_under ss (drop (suc i) ts)))
next types ss [] ts i v t h k e f = absurd (omega arith)
next types ss (w ∷ vs) [] i v t h k e f = absurd (omega arith)
next types ss (w ∷ vs) (u ∷ ts) zero v t h k e f =
    λ n. fits types (sym e n) (put (at ss) (shape (sym f n))) && each_fits (map (fits types) vs) (shapes_under ss ts)
next types ss (w ∷ vs) (u ∷ ts) (suc i) v t h k e f = next types ss vs ts i v t (omega arith) (omega arith) e f

test_is : (types : Types) (v : Value) (b c : Bool) (s r : Shape) → b ≡ fits types v s → s ≡ r → b ≡ c → fits types v r ≡ c
test_is types v b c s r e f g = ap (fits types v) (sym f) ∙ sym e ∙ g

pub next_fits : (types : Types) (ss : List Shape) (vs : List Value) (ts : List Typ) (i : ℕ) (v : Value) (t : Typ) (b : Bool) (s : Shape) → i < length vs
    → i < length ts → v ≡ get_or vs i v → t ≡ get_or ts i t → b ≡ fits types v s → s ≡ put (at ss) (shape t) → b ≡ true
    → each_fits (map (fits types) (drop (i + 1) vs)) (shapes_under ss (drop (i + 1) ts))
    ≡ each_fits (map (fits types) (drop i vs)) (shapes_under ss (drop i ts))
next_fits types ss vs ts i v t b s h k e f d is g =
    let one : suc i ≡ i + 1 = omega arith in
    subst (λ n. each_fits (map (fits types) (drop n vs)) (shapes_under ss (drop n ts)) ≡ each_fits (map (fits types) (drop i vs)) (shapes_under ss (drop i ts)))
    one (sym (next types ss vs ts i v t h k e f ∙ ap (λ x. x && each_fits (map (fits types) (drop (suc i) vs)) (shapes_under ss (drop (suc i) ts)))
    (test_is types v b true s (put (at ss) (shape t)) d is g)))

pub next_fails : (types : Types) (ss : List Shape) (vs : List Value) (ts : List Typ) (i : ℕ) (v : Value) (t : Typ) (b : Bool) (s : Shape) → i < length vs
    → i < length ts → v ≡ get_or vs i v → t ≡ get_or ts i t → b ≡ fits types v s → s ≡ put (at ss) (shape t) → b ≡ false
    → each_fits (map (fits types) (drop i vs)) (shapes_under ss (drop i ts)) ≡ false
next_fails types ss vs ts i v t b s h k e f d is g =
    next types ss vs ts i v t h k e f ∙ ap (λ x. x && each_fits (map (fits types) (drop (suc i) vs)) (shapes_under ss (drop (suc i) ts)))
    (test_is types v b false s (put (at ss) (shape t)) d is g)
