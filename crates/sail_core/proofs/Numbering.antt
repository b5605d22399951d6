-- Numbers of nodes don't matter to the meaning.
use Rattle.std.proofs.Common.{◌≡◌, ℕ, List, [], ◌∷◌, map, refl, sym, ap, subst, ◌∙◌}
use Rattle.sail_base.specs.declared.place.Place.{Place}
use Rattle.sail_types.specs.declared.values.Value.{Value}
use Rattle.model_state.specs.declared.cause.Cause.TheVariants.{MatchFailure}
use Rattle.sail_core.specs.declared.patterns.Arm.{Arm}
use Rattle.sail_core.specs.declared.tree.Giver.TheVariants as Gives
use Rattle.sail_core.specs.declared.tree.Statement.{Statement}
use Rattle.sail_core.specs.declared.tree.Statement.TheVariants as S
use Rattle.sail_core.specs.declared.tree.Kind.{Kind}
use Rattle.sail_core.specs.declared.tree.Kind.TheVariants as K
use Rattle.sail_core.specs.declared.tree.Core.{Core, roll-Core, fold-roll-Core, map-Core, ind-Core}
use Rattle.sail_core.specs.Run.{Run, caught, falls, local, stops, throws, within, ◌then◌}
use Rattle.sail_core.specs.Making.{World, plainly}
use Rattle.sail_core.specs.Meaning.{arm_taken, block, core_meaning, first_of, kind_meaning, let_in, met_at, or_then, tried}
use Rattle.sail_core.specs.Nodes.{node, renumbered}

abbrev pub kind_means : World Value → Place → ℕ → Kind → List (Run Value Value) → Run Value Value
kind_means w = kind_meaning plainly w

-- nor do those by which arms are told, since nothing is noted
module _ (w : World Value) (k l : ℕ) where
  first_same : (arms : List Arm) (bodies : List (Run Value Value)) (none : Run Value Value) (xs : List Value)
      → first_of plainly w k arms bodies none xs ≡ first_of plainly w l arms bodies none xs
  first_same [] [] none xs = refl
  first_same [] (body ∷ bodies) none xs = refl
  first_same (arm ∷ arms) [] none xs = refl
  first_same (arm ∷ arms) (body ∷ bodies) none xs =
      λ i. or_then plainly (arm_taken plainly w (Gives.Node 0) arm body xs) (first_same arms bodies none xs i)

  tried_same : (arms : List Arm) (bodies : List (Run Value Value)) (piece : Run Value Value)
      → tried plainly w k arms bodies piece ≡ tried plainly w l arms bodies piece
  tried_same arms bodies piece = λ i now. caught (piece now) (λ v after. first_same arms bodies (throws v) (v ∷ []) i after)

  block_same : (ss : List Statement) (parts : List (Run Value Value)) → block plainly w k ss parts ≡ block plainly w l ss parts
  block_same [] [] = refl
  block_same [] (value ∷ []) = refl
  block_same [] (a ∷ b ∷ parts) = refl
  block_same (S.Evaluate ∷ ss) [] = refl
  block_same (S.Define place arm ∷ ss) [] = refl
  block_same (S.Declare name written ∷ ss) [] = refl
  block_same (S.Evaluate ∷ ss) (a ∷ parts) = λ i. a then λ x. block_same ss parts i
  block_same (S.Define place arm ∷ ss) (a ∷ parts) = λ i. a then λ x. let_in plainly w (Gives.Node 0) place arm x (block_same ss parts i)
  block_same (S.Declare name written ∷ ss) (a ∷ parts) = λ i. a then λ x. within (local name x ∷ []) (block_same ss parts i)

  pub same_number : (p : Place) (kind : Kind) (parts : List (Run Value Value)) → kind_means w p k kind parts ≡ kind_means w p l kind parts
  same_number p (K.Block statements) parts = block_same statements parts
  same_number p (K.Match arms shape) [] = refl
  same_number p (K.Match arms shape) (a ∷ bodies) =
      λ i. met_at plainly k (a then λ x. first_same arms bodies (stops (MatchFailure p)) (x ∷ []) i)
  same_number p (K.Try arms shape) [] = refl
  same_number p (K.Try arms shape) (a ∷ bodies) = λ i. met_at plainly k (tried_same arms bodies a i)
  same_number p (K.Clauses arms) bodies = first_same arms bodies falls w.arguments
  same_number p kind parts = refl

module _ (f : ℕ → ℕ) (w : World Value) where
  Means : Core → Type 0
  Means c = core_meaning w (renumbered f c) ≡ core_meaning w c

  parts_mean : (ys : List ((c : Core) × Means c)) → map (core_meaning w) (map (renumbered f) (map (λ y. y.0) ys)) ≡ map (core_meaning w) (map (λ y. y.0) ys)
  unfolding Means
  parts_mean [] = refl
  parts_mean (y ∷ ys) = λ i. y.1 i ∷ parts_mean ys i

  pub numbers_dont_matter : (c : Core) → core_meaning w (renumbered f c) ≡ core_meaning w c
  unfolding Means
  numbers_dont_matter = ind-Core Means (λ c y is. subst (λ d. Means (roll-Core d)) is (
      ap (core_meaning w) (fold-roll-Core Core (λ c. node c.place (f c.number) c.kind c.parts) (map-Core ((c : Core) × Means c) Core (λ q. q.0) y))
      ∙ fold-roll-Core (Run Value Value) (λ c. kind_means w c.place c.number c.kind c.parts)
      (record { place = y.place; number = f y.number; kind = y.kind; parts = map (renumbered f) (map (λ q. q.0) y.parts) })
      ∙ ap (kind_means w y.place (f y.number) y.kind) (parts_mean y.parts)
      ∙ same_number w (f y.number) y.number y.place y.kind (map (core_meaning w) (map (λ q. q.0) y.parts))
      ∙ sym (fold-roll-Core (Run Value Value) (λ c. kind_means w c.place c.number c.kind c.parts) (map-Core ((c : Core) × Means c) Core (λ q. q.0) y))))
