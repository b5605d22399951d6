-- The numbers of nodes stay.
use Rattle.std.proofs.Common.{◌≡◌, ℕ, List, [], ◌∷◌, ◌++◌, map, Option, Some, None, option_map, refl, sym, ap, subst, ◌∙◌, append-nil}
use Rattle.sail_core.specs.declared.targets.Caller.{Caller}
use Rattle.sail_core.specs.declared.targets.TargetKind.{TargetKind}
use Rattle.sail_core.specs.declared.targets.TargetKind.TheVariants as T
use Rattle.sail_core.specs.declared.targets.Target.{Target, roll-Target, fold-roll-Target, map-Target, ind-Target}
use Rattle.sail_core.specs.declared.tree.Kind.{Kind}
use Rattle.sail_core.specs.declared.tree.Kind.TheVariants as K
use Rattle.sail_core.specs.declared.tree.Core.{Core, roll-Core, fold-roll-Core, map-Core, ind-Core}
use Rattle.sail_core.specs.declared.model.Direction.{Direction}
use Rattle.sail_core.specs.Nodes.{node, joined, caller_numbers, target_kind_numbers, target_numbers, kind_numbers, numbers}
use Rattle.mappings.specs.Rewriting.{free_caller, free_target_kind, target, free_target, free_kind, free_core, last_number, free_direction}

caller_numbered : (caller : Option Caller) → caller_numbers (option_map free_caller caller) ≡ caller_numbers caller
caller_numbered None = refl
caller_numbered (Some caller) = refl

target_kind_numbered : (kind : TargetKind) → target_kind_numbers (free_target_kind kind) ≡ target_kind_numbers kind
target_kind_numbered (T.Call n reader writer) = ap (λ ns. ns ++ caller_numbers (Some writer)) (caller_numbered reader)
target_kind_numbered kind = refl

Numbered : Target → Type 0
Numbered t = target_numbers (free_target t) ≡ target_numbers t

inner_numbered : (ys : List ((t : Target) × Numbered t)) → map target_numbers (map free_target (map (λ y. y.0) ys)) ≡ map target_numbers (map (λ y. y.0) ys)
unfolding Numbered
inner_numbered [] = refl
inner_numbered (y ∷ ys) = λ i. y.1 i ∷ inner_numbered ys i

target_numbered : (t : Target) → target_numbers (free_target t) ≡ target_numbers t
unfolding Numbered
target_numbered = ind-Target Numbered (λ t y is. subst (λ d. Numbered (roll-Target d)) is (
    ap target_numbers (fold-roll-Target Target (λ q. target q.place q.number (free_target_kind q.kind) q.parts)
    (map-Target ((q : Target) × Numbered q) Target (λ q. q.0) y))
    ∙ fold-roll-Target (List ℕ) (λ q. q.number ∷ target_kind_numbers q.kind ++ joined q.parts)
    (record { place = y.place; number = y.number; kind = free_target_kind y.kind; parts = map free_target (map (λ u. u.0) y.parts) })
    ∙ (λ i. y.number ∷ target_kind_numbered y.kind i ++ joined (inner_numbered y.parts i))
    ∙ sym (fold-roll-Target (List ℕ) (λ q. q.number ∷ target_kind_numbers q.kind ++ joined q.parts)
    (map-Target ((q : Target) × Numbered q) Target (λ q. q.0) y))))

targets_numbered : (ts : List Target) → map target_numbers (map free_target ts) ≡ map target_numbers ts
targets_numbered [] = refl
targets_numbered (t ∷ ts) = λ i. target_numbered t i ∷ targets_numbered ts i

kind_numbered : (kind : Kind) → kind_numbers (free_kind kind) ≡ kind_numbers kind
kind_numbered (K.Assign targets) = ap joined (targets_numbered targets)
kind_numbered kind = refl

NumberedCore : Core → Type 0
NumberedCore c = numbers (free_core c) ≡ numbers c

parts_numbered : (ys : List ((c : Core) × NumberedCore c)) → map numbers (map free_core (map (λ y. y.0) ys)) ≡ map numbers (map (λ y. y.0) ys)
unfolding NumberedCore
parts_numbered [] = refl
parts_numbered (y ∷ ys) = λ i. y.1 i ∷ parts_numbered ys i

pub core_numbered : (c : Core) → numbers (free_core c) ≡ numbers c
unfolding NumberedCore
core_numbered = ind-Core NumberedCore (λ c y is. subst (λ d. NumberedCore (roll-Core d)) is (
    ap numbers (fold-roll-Core Core (λ q. node q.place q.number (free_kind q.kind) q.parts) (map-Core ((q : Core) × NumberedCore q) Core (λ q. q.0) y))
    ∙ fold-roll-Core (List ℕ) (λ q. q.number ∷ kind_numbers q.kind ++ joined q.parts)
    (record { place = y.place; number = y.number; kind = free_kind y.kind; parts = map free_core (map (λ u. u.0) y.parts) })
    ∙ (λ i. y.number ∷ kind_numbered y.kind i ++ joined (parts_numbered y.parts i))
    ∙ sym (fold-roll-Core (List ℕ) (λ q. q.number ∷ kind_numbers q.kind ++ joined q.parts) (map-Core ((q : Core) × NumberedCore q) Core (λ q. q.0) y))))

pub direction_numbered : (m : Direction) → numbers (free_direction m).body ≡ last_number ∷ numbers m.body
direction_numbered m =
    fold-roll-Core (List ℕ) (λ q. q.number ∷ kind_numbers q.kind ++ joined q.parts)
    (record { place = m.place; number = last_number; kind = K.Optional m.result; parts = free_core m.body ∷ [] })
    ∙ ap (λ ns. last_number ∷ ns) (append-nil (numbers (free_core m.body)) ∙ core_numbered m.body)
