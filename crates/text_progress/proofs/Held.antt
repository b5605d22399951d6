-- Numbers among others, and the edges of graphs of them, as tests.
use Rattle.std.proofs.Common.{◌≡◌, ◌⊎◌, inl, inr, ℕ, zero, suc, ◌+◌, ◌<◌, ◌≤◌, nat_eq, List, [], ◌∷◌, ◌++◌, length, map, filter, refl, sym, ap, ◌∙◌}
use Rattle.std.proofs.Common.{subst, Bool, true, false, ◌&&◌, ◌||◌, cond, if◌then◌else◌, arith, Some, None, get_or, add-zero}
use Rattle.std.proofs.lemmas.Bool.{and_parts}
use Rattle.std.specs.Prelude.{Contains, slice_get}
use Rattle.sail_cycles.specs.Cycles.{Edge, nodes_from}
use Rattle.sail_cycles.specs.Cycles.{targets}
use Rattle.mapping_ranks.specs.Ranks.{count}
use Rattle.mapping_ranks.proofs.Reaching.{held}
use Rattle.shape_joins.proofs.Order.{equal, no, same_nat, two}

-- ---- numbers among others

pub either : (a b : Bool) → (a || b) ≡ true → (a ≡ true) ⊎ (b ≡ true)
either true b h = inl refl
either false b h = inr h

pub left : (a b : Bool) → a ≡ true → (a || b) ≡ true
left true b h = refl
left false b h = no h

pub right : (a b : Bool) → b ≡ true → (a || b) ≡ true
right true b h = refl
right false b h = h

pub held_there : (xs : List ℕ) (x : ℕ) → held xs x ≡ true → Contains xs x
held_there [] x h = no h
held_there (y ∷ ys) x h = by (λ e. held_there ys x e) (either (nat_eq y x) (held ys x) h)
  where
    by : (held ys x ≡ true → Contains ys x) → (nat_eq y x ≡ true) ⊎ (held ys x ≡ true) → Contains (y ∷ ys) x
    by later (inl e) = (0, omega arith, equal y x e)
    by later (inr e) = let c = later e in let lt = c.1 in (suc c.0, omega (arith, lt), c.2)

there_at : (xs : List ℕ) (x k : ℕ) → k < length xs → get_or xs k x ≡ x → held xs x ≡ true
there_at [] x k lt e = absurd (omega (arith, lt))
there_at (y ∷ ys) x zero lt e = left (nat_eq y x) (held ys x) (subst (λ z. nat_eq z x ≡ true) (sym e) (same_nat x))
there_at (y ∷ ys) x (suc k) lt e = right (nat_eq y x) (held ys x) (there_at ys x k (omega (arith, lt)) e)

pub is_held : (xs : List ℕ) (x : ℕ) → Contains xs x → held xs x ≡ true
is_held xs x c = there_at xs x c.0 c.1 c.2

pub got_held : (xs : List ℕ) (k x : ℕ) → slice_get xs k ≡ Some x → held xs x ≡ true
got_held [] k x h = absurd (empty h)
  where
    empty : {A : Type 0} {x : A} → None ≡ Some x → ⊥
    empty e = cc
got_held (y ∷ ys) zero x h = left (nat_eq y x) (held ys x) (subst (λ z. nat_eq y z ≡ true) (the_same h) (same_nat y))
  where
    the_same : {A : Type 0} {x y : A} → Some x ≡ Some y → x ≡ y
    the_same e = cc
got_held (y ∷ ys) (suc k) x h = right (nat_eq y x) (held ys x) (got_held ys k x h)

pub kept_held : (test : ℕ → Bool) (xs : List ℕ) (x : ℕ) → held xs x ≡ true → test x ≡ true → held (filter test xs) x ≡ true
kept_held test [] x h t = h
kept_held test (y ∷ ys) x h t = by (λ e. kept_held test ys x e t) (test y) refl (either (nat_eq y x) (held ys x) h)
  where
    by : (held ys x ≡ true → held (filter test ys) x ≡ true) → (b : Bool) → test y ≡ b → (nat_eq y x ≡ true) ⊎ (held ys x ≡ true)
        → held (cond b (y ∷ filter test ys) (filter test ys)) x ≡ true
    by later true k (inl e) = left (nat_eq y x) (held (filter test ys) x) e
    by later true k (inr e) = right (nat_eq y x) (held (filter test ys) x) (later e)
    by later false k (inl e) = no (sym k ∙ subst (λ z. test z ≡ true) (sym (equal y x e)) t)
    by later false k (inr e) = later e

pub held_kept : (test : ℕ → Bool) (xs : List ℕ) (x : ℕ) → held (filter test xs) x ≡ true → (held xs x ≡ true) × (test x ≡ true)
held_kept test [] x h = no h
held_kept test (y ∷ ys) x h = by (λ e. held_kept test ys x e) (test y) refl h
  where
    first : (held (filter test ys) x ≡ true → (held ys x ≡ true) × (test x ≡ true)) → test y ≡ true → (nat_eq y x ≡ true) ⊎ (held (filter test ys) x ≡ true)
        → ((nat_eq y x || held ys x) ≡ true) × (test x ≡ true)
    first later k (inl e) = (left (nat_eq y x) (held ys x) e, subst (λ z. test z ≡ true) (equal y x e) k)
    first later k (inr e) = (right (nat_eq y x) (held ys x) (later e).0, (later e).1)

    by : (held (filter test ys) x ≡ true → (held ys x ≡ true) × (test x ≡ true)) → (b : Bool) → test y ≡ b
        → held (cond b (y ∷ filter test ys) (filter test ys)) x ≡ true
        → ((nat_eq y x || held ys x) ≡ true) × (test x ≡ true)
    by later true k e = first later k (either (nat_eq y x) (held (filter test ys) x) e)
    by later false k e = (right (nat_eq y x) (held ys x) (later e).0, (later e).1)

pub joined_left : (xs ys : List ℕ) (x : ℕ) → held xs x ≡ true → held (xs ++ ys) x ≡ true
joined_left [] ys x h = no h
joined_left (z ∷ xs) ys x h = by (λ e. joined_left xs ys x e) (either (nat_eq z x) (held xs x) h)
  where
    by : (held xs x ≡ true → held (xs ++ ys) x ≡ true) → (nat_eq z x ≡ true) ⊎ (held xs x ≡ true) → (nat_eq z x || held (xs ++ ys) x) ≡ true
    by later (inl e) = left (nat_eq z x) (held (xs ++ ys) x) e
    by later (inr e) = right (nat_eq z x) (held (xs ++ ys) x) (later e)

pub joined_right : (xs ys : List ℕ) (x : ℕ) → held ys x ≡ true → held (xs ++ ys) x ≡ true
joined_right [] ys x h = h
joined_right (z ∷ xs) ys x h = right (nat_eq z x) (held (xs ++ ys) x) (joined_right xs ys x h)

-- ---- no more numbers are held than there are

not_yet : (xs : List ℕ) (y n : ℕ) → n ≤ y → count (held (y ∷ xs)) n ≤ count (held xs) n
not_yet xs y zero le = omega arith
not_yet xs y (suc n) le = step (nat_eq y n) (held xs n) refl (not_yet xs y n (omega (arith, le)))
  where
    step : (a b : Bool) → nat_eq y n ≡ a → count (held (y ∷ xs)) n ≤ count (held xs) n
        → (if a || b then suc (count (held (y ∷ xs)) n) else count (held (y ∷ xs)) n) ≤ (if b then suc (count (held xs) n) else count (held xs) n)
    step true b h before = let same = equal y n h in absurd (omega (arith, same, le))
    step false true h before = omega (arith, before)
    step false false h before = before

one_count : (xs : List ℕ) (y n : ℕ) → count (held (y ∷ xs)) n ≤ suc (count (held xs) n)
one_count xs y zero = omega arith
one_count xs y (suc n) = step (nat_eq y n) (held xs n) refl (one_count xs y n)
  where
    last : nat_eq y n ≡ true → count (held (y ∷ xs)) n ≤ count (held xs) n
    last h = let same = equal y n h in not_yet xs y n (omega (arith, same))

    step : (a b : Bool) → nat_eq y n ≡ a → count (held (y ∷ xs)) n ≤ suc (count (held xs) n)
        → (if a || b then suc (count (held (y ∷ xs)) n) else count (held (y ∷ xs)) n) ≤ suc (if b then suc (count (held xs) n) else count (held xs) n)
    step true true h before = let le = last h in omega (arith, le)
    step true false h before = let le = last h in omega (arith, le)
    step false true h before = omega (arith, before)
    step false false h before = before

none_count : (n : ℕ) → count (held []) n ≤ 0
none_count zero = omega arith
none_count (suc n) = none_count n

pub held_count : (xs : List ℕ) (n : ℕ) → count (held xs) n ≤ length xs
held_count [] n = none_count n
held_count (y ∷ xs) n = let one = one_count xs y n in let more = held_count xs n in omega (arith, one, more)

-- ---- edges

abbrev pub edge_in : List Edge → ℕ → ℕ → Bool
edge_in [] p q = false
edge_in (e ∷ es) p q = (nat_eq e.0 p && nat_eq e.1 q) || edge_in es p q

pub edge_left : (xs ys : List Edge) (p q : ℕ) → edge_in xs p q ≡ true → edge_in (xs ++ ys) p q ≡ true
edge_left [] ys p q h = no h
edge_left (x ∷ xs) ys p q h = by (λ e. edge_left xs ys p q e) (either (nat_eq x.0 p && nat_eq x.1 q) (edge_in xs p q) h)
  where
    by : (edge_in xs p q ≡ true → edge_in (xs ++ ys) p q ≡ true) → ((nat_eq x.0 p && nat_eq x.1 q) ≡ true) ⊎ (edge_in xs p q ≡ true)
        → ((nat_eq x.0 p && nat_eq x.1 q) || edge_in (xs ++ ys) p q) ≡ true
    by later (inl e) = left (nat_eq x.0 p && nat_eq x.1 q) (edge_in (xs ++ ys) p q) e
    by later (inr e) = right (nat_eq x.0 p && nat_eq x.1 q) (edge_in (xs ++ ys) p q) (later e)

pub edge_right : (xs ys : List Edge) (p q : ℕ) → edge_in ys p q ≡ true → edge_in (xs ++ ys) p q ≡ true
edge_right [] ys p q h = h
edge_right (x ∷ xs) ys p q h = right (nat_eq x.0 p && nat_eq x.1 q) (edge_in (xs ++ ys) p q) (edge_right xs ys p q h)

pub edge_either : (xs ys : List Edge) (p q : ℕ) → edge_in (xs ++ ys) p q ≡ true → (edge_in xs p q ≡ true) ⊎ (edge_in ys p q ≡ true)
edge_either [] ys p q h = inr h
edge_either (x ∷ xs) ys p q h = by (λ e. edge_either xs ys p q e) (either (nat_eq x.0 p && nat_eq x.1 q) (edge_in (xs ++ ys) p q) h)
  where
    further : (edge_in (xs ++ ys) p q ≡ true → (edge_in xs p q ≡ true) ⊎ (edge_in ys p q ≡ true)) → (edge_in xs p q ≡ true) ⊎ (edge_in ys p q ≡ true)
        → (((nat_eq x.0 p && nat_eq x.1 q) || edge_in xs p q) ≡ true) ⊎ (edge_in ys p q ≡ true)
    further later (inl e) = inl (right (nat_eq x.0 p && nat_eq x.1 q) (edge_in xs p q) e)
    further later (inr e) = inr e

    by : (edge_in (xs ++ ys) p q ≡ true → (edge_in xs p q ≡ true) ⊎ (edge_in ys p q ≡ true))
        → ((nat_eq x.0 p && nat_eq x.1 q) ≡ true) ⊎ (edge_in (xs ++ ys) p q ≡ true)
        → (((nat_eq x.0 p && nat_eq x.1 q) || edge_in xs p q) ≡ true) ⊎ (edge_in ys p q ≡ true)
    by later (inl e) = inl (left (nat_eq x.0 p && nat_eq x.1 q) (edge_in xs p q) e)
    by later (inr e) = further later (later e)

pub lead_from : (a p q : ℕ) (qs : List ℕ) → edge_in (map (λ to. (a, to)) qs) p q ≡ true → a ≡ p
lead_from a p q [] h = no h
lead_from a p q (x ∷ qs) h = by (λ e. lead_from a p q qs e) (either (nat_eq a p && nat_eq x q) (edge_in (map (λ to. (a, to)) qs) p q) h)
  where
    by : (edge_in (map (λ to. (a, to)) qs) p q ≡ true → a ≡ p) → ((nat_eq a p && nat_eq x q) ≡ true) ⊎ (edge_in (map (λ to. (a, to)) qs) p q ≡ true) → a ≡ p
    by later (inl e) = equal a p (and_parts (nat_eq a p) (nat_eq x q) e).0
    by later (inr e) = later e

pub edges_held : (p q : ℕ) (qs : List ℕ) → held qs q ≡ true → edge_in (map (λ to. (p, to)) qs) p q ≡ true
edges_held p q [] h = no h
edges_held p q (x ∷ qs) h = by (λ e. edges_held p q qs e) (either (nat_eq x q) (held qs q) h)
  where
    by : (held qs q ≡ true → edge_in (map (λ to. (p, to)) qs) p q ≡ true) → (nat_eq x q ≡ true) ⊎ (held qs q ≡ true)
        → ((nat_eq p p && nat_eq x q) || edge_in (map (λ to. (p, to)) qs) p q) ≡ true
    by later (inl e) = left (nat_eq p p && nat_eq x q) (edge_in (map (λ to. (p, to)) qs) p q) (two (nat_eq p p) (nat_eq x q) (same_nat p) e)
    by later (inr e) = right (nat_eq p p && nat_eq x q) (edge_in (map (λ to. (p, to)) qs) p q) (later e)

abbrev pub from_node : List Edge → ℕ → List ℕ
from_node es p = map (λ (e : Edge). e.1) (filter (λ (e : Edge). nat_eq e.0 p) es)

pub mapped_in : (es : List Edge) (p q : ℕ) → held (from_node es p) q ≡ true → edge_in es p q ≡ true
mapped_in [] p q h = no h
mapped_in (e ∷ es) p q h = by (λ k. mapped_in es p q k) (nat_eq e.0 p) refl h
  where
    first : (held (from_node es p) q ≡ true → edge_in es p q ≡ true) → nat_eq e.0 p ≡ true → (nat_eq e.1 q ≡ true) ⊎ (held (from_node es p) q ≡ true)
        → ((nat_eq e.0 p && nat_eq e.1 q) || edge_in es p q) ≡ true
    first later k (inl l) = left (nat_eq e.0 p && nat_eq e.1 q) (edge_in es p q) (two (nat_eq e.0 p) (nat_eq e.1 q) k l)
    first later k (inr l) = right (nat_eq e.0 p && nat_eq e.1 q) (edge_in es p q) (later l)

    by : (held (from_node es p) q ≡ true → edge_in es p q ≡ true) → (b : Bool) → nat_eq e.0 p ≡ b
        → held (map (λ (e : Edge). e.1) (cond b (e ∷ filter (λ (e : Edge). nat_eq e.0 p) es)
        (filter (λ (e : Edge). nat_eq e.0 p) es))) q ≡ true → ((nat_eq e.0 p && nat_eq e.1 q) || edge_in es p q) ≡ true
    by later true k l = first later k (either (nat_eq e.1 q) (held (from_node es p) q) l)
    by later false k l = right (nat_eq e.0 p && nat_eq e.1 q) (edge_in es p q) (later l)

pub in_mapped : (es : List Edge) (p q : ℕ) → edge_in es p q ≡ true → held (from_node es p) q ≡ true
in_mapped [] p q h = no h
in_mapped (e ∷ es) p q h = by (λ k. in_mapped es p q k) (nat_eq e.0 p) refl (either (nat_eq e.0 p && nat_eq e.1 q) (edge_in es p q) h)
  where
    by : (edge_in es p q ≡ true → held (from_node es p) q ≡ true) → (b : Bool) → nat_eq e.0 p ≡ b
        → ((nat_eq e.0 p && nat_eq e.1 q) ≡ true) ⊎ (edge_in es p q ≡ true)
        → held (map (λ (e : Edge). e.1) (cond b (e ∷ filter (λ (e : Edge). nat_eq e.0 p) es) (filter (λ (e : Edge). nat_eq e.0 p) es))) q ≡ true
    by later true k (inl l) = left (nat_eq e.1 q) (held (from_node es p) q) (and_parts (nat_eq e.0 p) (nat_eq e.1 q) l).1
    by later true k (inr l) = right (nat_eq e.1 q) (held (from_node es p) q) (later l)
    by later false k (inl l) = no (sym k ∙ (and_parts (nat_eq e.0 p) (nat_eq e.1 q) l).0)
    by later false k (inr l) = later l

pub nodes_in : {A : Type 0} (size : ℕ) (all : List Edge) (at : ℕ) (xs : List A) (k q : ℕ) → held (get_or (nodes_from size all at xs) k []) q ≡ true
    → held (targets size all (at + k)) q ≡ true
nodes_in size all at [] k q h = no h
nodes_in size all at (x ∷ xs) zero q h = subst (λ n. held (targets size all n) q ≡ true) (sym (add-zero at)) h
nodes_in size all at (x ∷ xs) (suc k) q h = subst (λ n. held (targets size all n) q ≡ true) (one_on at k) (nodes_in size all (at + 1) xs k q h)
  where
    one_on : (at k : ℕ) → ((at + 1) + k) ≡ (at + suc k)
    one_on at k = omega arith

pub in_nodes : {A : Type 0} (size : ℕ) (all : List Edge) (at : ℕ) (xs : List A) (k q : ℕ) → k < length xs → held (targets size all (at + k)) q ≡ true
    → held (get_or (nodes_from size all at xs) k []) q ≡ true
in_nodes size all at [] k q lt h = absurd (omega (arith, lt))
in_nodes size all at (x ∷ xs) zero q lt h = subst (λ n. held (targets size all n) q ≡ true) (add-zero at) h
in_nodes size all at (x ∷ xs) (suc k) q lt h =
    in_nodes size all (at + 1) xs k q (omega (arith, lt)) (subst (λ n. held (targets size all n) q ≡ true) (one_on at k) h)
  where
    one_on : (at k : ℕ) → (at + suc k) ≡ ((at + 1) + k)
    one_on at k = omega arith

pub many_nodes : {A : Type 0} (size : ℕ) (all : List Edge) (at : ℕ) (xs : List A) → length (nodes_from size all at xs) ≡ length xs
many_nodes size all at [] = refl
many_nodes size all at (x ∷ xs) = ap suc (many_nodes size all (at + 1) xs)

pub mapped_get : (f : List ℕ → List ℕ) → f [] ≡ [] → (xs : List (List ℕ)) (k : ℕ) → get_or (map f xs) k [] ≡ f (get_or xs k [])
mapped_get f nothing [] k = sym nothing
mapped_get f nothing (x ∷ xs) zero = refl
mapped_get f nothing (x ∷ xs) (suc k) = mapped_get f nothing xs k

pub mapped_many : (f : List ℕ → List ℕ) (xs : List (List ℕ)) → length (map f xs) ≡ length xs
mapped_many f [] = refl
mapped_many f (x ∷ xs) = ap suc (mapped_many f xs)
