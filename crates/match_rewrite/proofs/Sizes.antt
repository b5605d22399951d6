-- No more steps than a pattern has nodes.
use Rattle.std.proofs.Common.{◌≡◌, ℕ, suc, ◌+◌, ◌≤◌, List, [], ◌∷◌, ◌++◌, map, length, sym, subst, arith, length-append}
use Rattle.sail_core.specs.declared.patterns.Form.{Form}
use Rattle.sail_core.specs.declared.patterns.Form.TheVariants as F
use Rattle.sail_core.specs.declared.patterns.Pattern.{Pattern, roll-Pattern, fold-roll-Pattern, map-Pattern, ind-Pattern}
use Rattle.match_rewrite.specs.Rewriting.{Flatten, flat_parts, flat_form, flat_pattern}
use Rattle.match_rewrite.specs.Sizes.{total, pattern_nodes}

AtMost : ℕ → Flatten → Type 0
AtMost n fl = (at next : ℕ) → length (fl at next).steps ≤ n

abbrev AllAtMost : List ℕ → List Flatten → Type 0
AllAtMost [] [] = Unit {0}
AllAtMost (n ∷ ns) (fl ∷ fls) = AtMost n fl × AllAtMost ns fls
AllAtMost ns fls = ⊥

parts_at_most : (ns : List ℕ) (fls : List Flatten) → AllAtMost ns fls → AtMost (total ns) (flat_parts fls)
unfolding AtMost
parts_at_most [] [] h at next = omega arith
parts_at_most (n ∷ ns) (fl ∷ fls) h at next =
    let here : length (fl at next).steps ≤ n = h.0 at next in
    let more : length (flat_parts fls (suc at) (fl at next).next).steps ≤ total ns = parts_at_most ns fls h.1 (suc at) (fl at next).next in
    let both : length ((fl at next).steps ++ (flat_parts fls (suc at) (fl at next).next).steps) ≡ length (fl at next).steps + length (flat_parts fls (suc at)
    (fl at next).next).steps = length-append _ _ in
    omega (arith, here, more, both)
parts_at_most [] (fl ∷ fls) h at next = absurd h
parts_at_most (n ∷ ns) [] h at next = absurd h

form_at_most : (form : Form) (ns : List ℕ) (fls : List Flatten) → AllAtMost ns fls → AtMost (suc (total ns)) (flat_form form fls)
unfolding AtMost
form_at_most F.Any [] [] h at next = omega arith
form_at_most (F.Binds name) [] [] h at next = omega arith
form_at_most (F.As name) (n ∷ []) (fl ∷ []) h at next =
    let here : length (fl at next).steps ≤ n = h.0 at next in
    let both : length ((flat_form (F.As name) (fl ∷ []) at next).steps) ≡ length (fl at next).steps + 1 = length-append _ _ in
    omega (arith, here, both)
form_at_most (F.Typed written) (n ∷ []) (fl ∷ []) h at next = let here : length (fl at next).steps ≤ n = h.0 at next in omega (arith, here)
form_at_most (F.Opens head) ns fls h at next =
    let more : length (flat_parts fls next (next + length fls)).steps ≤ total ns = parts_at_most ns fls h next (next + length fls) in omega (arith, more)
form_at_most (F.Maps d) (n ∷ []) (fl ∷ []) h at next = let here : length (fl next (suc next)).steps ≤ n = h.0 next (suc next) in omega (arith, here)
form_at_most (F.Sees d) (n ∷ []) (fl ∷ []) h at next = let here : length (fl next (suc next)).steps ≤ n = h.0 next (suc next) in omega (arith, here)
form_at_most F.Any (n ∷ ns) (fl ∷ fls) h at next = omega arith
form_at_most (F.Binds name) (n ∷ ns) (fl ∷ fls) h at next = omega arith
form_at_most (F.As name) [] [] h at next = omega arith
form_at_most (F.As name) (n ∷ m ∷ ns) (fl ∷ gl ∷ fls) h at next = omega arith
form_at_most (F.Typed written) [] [] h at next = omega arith
form_at_most (F.Typed written) (n ∷ m ∷ ns) (fl ∷ gl ∷ fls) h at next = omega arith
form_at_most (F.Maps d) [] [] h at next = omega arith
form_at_most (F.Maps d) (n ∷ m ∷ ns) (fl ∷ gl ∷ fls) h at next = omega arith
form_at_most (F.Sees d) [] [] h at next = omega arith
form_at_most (F.Sees d) (n ∷ m ∷ ns) (fl ∷ gl ∷ fls) h at next = omega arith
form_at_most form [] (fl ∷ fls) h at next = absurd h
form_at_most form (n ∷ ns) [] h at next = absurd h
form_at_most form (n ∷ []) (fl ∷ gl ∷ fls) h at next = absurd h.1
form_at_most form (n ∷ m ∷ ns) (fl ∷ []) h at next = absurd h.1

Small : Pattern → Type 0
Small p = AtMost (pattern_nodes p) (flat_pattern p)

all_small : (ys : List ((p : Pattern) × Small p)) → AllAtMost (map pattern_nodes (map (λ y. y.0) ys)) (map flat_pattern (map (λ y. y.0) ys))
unfolding Small
all_small [] = tt
all_small (y ∷ ys) = (y.1, all_small ys)

pub pattern_small : (p : Pattern) (at next : ℕ) → length (flat_pattern p at next).steps ≤ pattern_nodes p
unfolding Small AtMost
pattern_small = ind-Pattern Small (λ p y is. subst (λ d. Small (roll-Pattern d)) is (λ at next.
    subst (λ n. length (flat_pattern (roll-Pattern (map-Pattern ((q : Pattern) × Small q) Pattern (λ q. q.0) y)) at next).steps ≤ n)
    (sym (fold-roll-Pattern ℕ (λ p. suc (total p.parts)) (map-Pattern ((q : Pattern) × Small q) Pattern (λ q. q.0) y)))
    (subst (λ (fl : Flatten). length (fl at next).steps ≤ suc (total (map pattern_nodes (map (λ u. u.0) y.parts))))
    (sym (fold-roll-Pattern Flatten (λ p. flat_form p.form p.parts) (map-Pattern ((q : Pattern) × Small q) Pattern (λ q. q.0) y)))
    (form_at_most y.form (map pattern_nodes (map (λ u. u.0) y.parts)) (map flat_pattern (map (λ u. u.0) y.parts)) (all_small y.parts) at next))))
