-- Patterns get at most twice as large.
use Rattle.std.proofs.Common.{◌≡◌, ℕ, suc, ◌+◌, ◌*◌, ◌≤◌, List, [], ◌∷◌, map, sym, ap, subst, subst₂, arith}
use Rattle.sail_base.specs.declared.place.Place.{Place}
use Rattle.sail_core.specs.declared.patterns.Head.TheVariants as H
use Rattle.sail_core.specs.declared.patterns.Form.{Form}
use Rattle.sail_core.specs.declared.patterns.Form.TheVariants as F
use Rattle.sail_core.specs.declared.patterns.Pattern.{Pattern, roll-Pattern, fold-roll-Pattern, map-Pattern, ind-Pattern}
use Rattle.mappings.specs.Rewriting.{pattern, some, free_form, free_pattern}
use Rattle.mappings.specs.Sizes.{total, pattern_nodes}

roll_nodes : (place : Place) (form : Form) (ps : List Pattern) → pattern_nodes (pattern place form ps) ≡ suc (total (map pattern_nodes ps))
roll_nodes place form ps = fold-roll-Pattern ℕ (λ p. suc (total p.parts)) (record { place = place; form = form; parts = ps })

as_before : (place : Place) (form : Form) (ps : List Pattern) (n : ℕ) → total (map pattern_nodes ps) ≤ 2 * n → pattern_nodes (pattern place form ps) ≤ 2 * suc n
as_before place form ps n h =
    let e : pattern_nodes (pattern place form ps) ≡ suc (total (map pattern_nodes ps)) = roll_nodes place form ps in
    omega (arith, e, h)

form_small : (place : Place) (form : Form) (ps : List Pattern) (n : ℕ) → total (map pattern_nodes ps) ≤ 2 * n
    → pattern_nodes (free_form place form ps) ≤ 2 * suc n
form_small place (F.Maps d) (p ∷ []) n h =
    let e : pattern_nodes (pattern place (F.Sees d) (some place p ∷ [])) ≡ suc (pattern_nodes (some place p) + 0) = roll_nodes place (F.Sees d)
    (some place p ∷ []) in
    let g : pattern_nodes (some place p) ≡ suc (pattern_nodes p + 0) = roll_nodes place (F.Opens (H.Constructor 0 0)) (p ∷ []) in
    omega (arith, e, g, h)
form_small place (F.Maps d) [] n h = as_before place (F.Sees d) [] n h
form_small place (F.Maps d) (p ∷ q ∷ ps) n h = as_before place (F.Sees d) (p ∷ q ∷ ps) n h
form_small place F.Any ps n h = as_before place F.Any ps n h
form_small place (F.Binds name) ps n h = as_before place (F.Binds name) ps n h
form_small place (F.As name) ps n h = as_before place (F.As name) ps n h
form_small place (F.Typed written) ps n h = as_before place (F.Typed written) ps n h
form_small place (F.Opens head) ps n h = as_before place (F.Opens head) ps n h
form_small place (F.Sees d) ps n h = as_before place (F.Sees d) ps n h

Small : Pattern → Type 0
Small p = pattern_nodes (free_pattern p) ≤ 2 * pattern_nodes p

parts_small : (ys : List ((p : Pattern) × Small p))
    → total (map pattern_nodes (map free_pattern (map (λ y. y.0) ys))) ≤ 2 * total (map pattern_nodes (map (λ y. y.0) ys))
unfolding Small
parts_small [] = omega arith
parts_small (y ∷ ys) =
    let a : pattern_nodes (free_pattern y.0) ≤ 2 * pattern_nodes y.0 = y.1 in
    let b : total (map pattern_nodes (map free_pattern (map (λ u. u.0) ys))) ≤ 2 * total (map pattern_nodes (map (λ u. u.0) ys)) = parts_small ys in
    omega (arith, a, b)

pub pattern_small : (p : Pattern) → pattern_nodes (free_pattern p) ≤ 2 * pattern_nodes p
unfolding Small
pattern_small = ind-Pattern Small (λ p y is. subst (λ d. Small (roll-Pattern d)) is (
    subst₂ (λ a b. a ≤ 2 * b)
    (sym (ap pattern_nodes (fold-roll-Pattern Pattern (λ q. free_form q.place q.form q.parts) (map-Pattern ((q : Pattern) × Small q) Pattern (λ q. q.0) y))))
    (sym (fold-roll-Pattern ℕ (λ q. suc (total q.parts)) (map-Pattern ((q : Pattern) × Small q) Pattern (λ q. q.0) y)))
    (form_small y.place y.form (map free_pattern (map (λ u. u.0) y.parts)) (total (map pattern_nodes (map (λ u. u.0) y.parts))) (parts_small y.parts))))
