-- Lists of different lengths have no one shape, teach nothing, and aren't alike.
use Rattle.std.proofs.Common.{◌≡◌, suc, refl, ap, sym, ◌∙◌, ℕ, Bool, true, false, ◌&&◌, List, [], ◌∷◌, map, length, Option, Some, None}
use Rattle.sail_types.specs.declared.shapes.Shape.{Shape}
use Rattle.shape_joins.specs.Joins.{Joins, join, join_all, more_of}
use Rattle.shape_joins.specs.Learning.{Learns, learn, then_learn, learn_all}
use Rattle.shape_joins.specs.Numbering.{alike, each_alike}

mapped : {A B : Type 0} (f : A → B) (xs : List A) → length (map f xs) ≡ length xs
mapped f [] = refl
mapped f (x ∷ xs) = ap suc (mapped f xs)

none_more : (o : Option Shape) (p : Option (List Shape)) → p ≡ None → more_of o p ≡ None
none_more None p e = refl
none_more (Some s) p e = ap (more_of (Some s)) e

none_of_all : (fs : List Joins) (ts : List Shape) → (length fs ≡ length ts → ⊥) → join_all fs ts ≡ None
none_of_all [] [] h = absurd (h refl)
none_of_all [] (t ∷ ts) h = refl
none_of_all (f ∷ fs) [] h = refl
none_of_all (f ∷ fs) (t ∷ ts) h = none_more (f t) (join_all fs ts) (none_of_all fs ts (λ e. h (ap suc e)))

pub none_joined : (ss ts : List Shape) → (length ss ≡ length ts → ⊥) → join_all (map join ss) ts ≡ None
none_joined ss ts h = none_of_all (map join ss) ts (λ e. h (sym (mapped join ss) ∙ e))

none_then : (o : Option (List Shape)) (next : List Shape → Option (List Shape)) → ((known : List Shape) → next known ≡ None) → then_learn o next ≡ None
none_then None next h = refl
none_then (Some known) next h = h known

none_of_learns : (fs : List Learns) (ss known : List Shape) → (length fs ≡ length ss → ⊥) → learn_all fs ss known ≡ None
none_of_learns [] [] known h = absurd (h refl)
none_of_learns [] (s ∷ ss) known h = refl
none_of_learns (f ∷ fs) [] known h = refl
none_of_learns (f ∷ fs) (s ∷ ss) known h = none_then (f s known) (learn_all fs ss) (λ k. none_of_learns fs ss k (λ e. h (ap suc e)))

pub none_learnt : (ps ss known : List Shape) → (length ps ≡ length ss → ⊥) → learn_all (map learn ps) ss known ≡ None
none_learnt ps ss known h = none_of_learns (map learn ps) ss known (λ e. h (sym (mapped learn ps) ∙ e))

and_false : (a b : Bool) → b ≡ false → (a && b) ≡ false
and_false true b h = h
and_false false b h = refl

not_each : (fs : List (Shape → Bool)) (ts : List Shape) → (length fs ≡ length ts → ⊥) → each_alike fs ts ≡ false
not_each [] [] h = absurd (h refl)
not_each [] (t ∷ ts) h = refl
not_each (f ∷ fs) [] h = refl
not_each (f ∷ fs) (t ∷ ts) h = and_false (f t) (each_alike fs ts) (not_each fs ts (λ e. h (ap suc e)))

pub not_alike : (is js : List ℕ) (ss ts : List Shape) → (length ss ≡ length ts → ⊥) → each_alike (map (alike is js) ss) ts ≡ false
not_alike is js ss ts h = not_each (map (alike is js) ss) ts (λ e. h (sym (mapped (alike is js) ss) ∙ e))
