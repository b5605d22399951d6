-- The numbers of nodes stay.
use Rattle.std.proofs.Common.{◌≡◌, ℕ, List, [], ◌∷◌, ◌++◌, map, refl, sym, ap, subst, ◌∙◌}
use Rattle.sail_core.specs.declared.tree.Kind.{Kind}
use Rattle.sail_core.specs.declared.tree.Kind.TheVariants as K
use Rattle.sail_core.specs.declared.tree.Core.{Core, roll-Core, fold-roll-Core, map-Core, ind-Core}
use Rattle.sail_core.specs.Nodes.{node, joined, kind_numbers, numbers}
use Rattle.match_rewrite.specs.Rewriting.{flat_kind, flat_core}

kind_numbered : (kind : Kind) → kind_numbers (flat_kind kind) ≡ kind_numbers kind
kind_numbered (K.Block statements) = refl
kind_numbered kind = refl

Numbered : Core → Type 0
Numbered c = numbers (flat_core c) ≡ numbers c

parts_numbered : (ys : List ((c : Core) × Numbered c)) → map numbers (map flat_core (map (λ y. y.0) ys)) ≡ map numbers (map (λ y. y.0) ys)
unfolding Numbered
parts_numbered [] = refl
parts_numbered (y ∷ ys) = λ i. y.1 i ∷ parts_numbered ys i

pub core_numbered : (c : Core) → numbers (flat_core c) ≡ numbers c
unfolding Numbered
core_numbered = ind-Core Numbered (λ c y is. subst (λ d. Numbered (roll-Core d)) is (
    ap numbers (fold-roll-Core Core (λ q. node q.place q.number (flat_kind q.kind) q.parts) (map-Core ((q : Core) × Numbered q) Core (λ q. q.0) y))
    ∙ fold-roll-Core (List ℕ) (λ q. q.number ∷ kind_numbers q.kind ++ joined q.parts)
    (record { place = y.place; number = y.number; kind = flat_kind y.kind; parts = map flat_core (map (λ u. u.0) y.parts) })
    ∙ (λ i. y.number ∷ kind_numbered y.kind i ++ joined (parts_numbered y.parts i))
    ∙ sym (fold-roll-Core (List ℕ) (λ q. q.number ∷ kind_numbers q.kind ++ joined q.parts) (map-Core ((q : Core) × Numbered q) Core (λ q. q.0) y))))
