-- A flat core means what the nested one means.
use Rattle.std.proofs.Common.{◌≡◌, ℕ, List, [], ◌∷◌, length, map, refl, sym, ap, subst, ◌∙◌}
use Rattle.std.proofs.lemmas.List.{length-map}
use Rattle.sail_base.specs.declared.place.Place.{Place}
use Rattle.model_state.specs.declared.cause.Cause.TheVariants.{MatchFailure}
use Rattle.sail_core.specs.declared.patterns.Arm.{Arm}
use Rattle.sail_core.specs.declared.tree.Giver.{Giver}
use Rattle.sail_core.specs.declared.tree.Giver.TheVariants as Gives
use Rattle.sail_core.specs.declared.tree.Statement.{Statement}
use Rattle.sail_core.specs.declared.tree.Statement.TheVariants as B
use Rattle.sail_core.specs.declared.tree.Kind.{Kind}
use Rattle.sail_core.specs.declared.tree.Kind.TheVariants as K
use Rattle.sail_core.specs.declared.tree.Core.{Core, roll-Core, fold-roll-Core, map-Core, ind-Core}
use Rattle.sail_core.specs.Run.{Run, falls, stops, throws, caught, within, local, ◌then◌}
use Rattle.sail_core.specs.Making.{Making, World, made}
use Rattle.sail_core.specs.Meaning.{or_then, arm_taken, first_of, let_in, tried, met_at, block, kind_meaning, meaning, names_noted}
use Rattle.sail_core.specs.Nodes.{node}
use Rattle.match_rewrite.specs.Rewriting.{flat_arm, flat_statement, flat_kind, flat_core}
use Rattle.match_rewrite.proofs.Sequences.{then_same}
use Rattle.match_rewrite.proofs.FlatArms.{arm_flat}

module _ {X : Type 0} (z : Making X) (w : World X) where
  -- ---- arms

  -- as many arms and statements stand behind one as before
  as_many : {A B : Type 0} (k : ℕ) (f : A → B) (xs : List A) → Gives.Arm k (length (map f xs)) ≡ Gives.Arm k (length xs)
  as_many k f xs = λ i. Gives.Arm k (length-map xs f i)

  taken_flat : (g h : Giver) → g ≡ h → (arm : Arm) (body : Run X X) (xs : List X) → arm_taken z w g (flat_arm arm) body xs ≡ arm_taken z w h arm body xs
  taken_flat g h same arm body xs = λ i. arm_flat z w arm xs i then λ found. names_noted z (same i) xs found then λ t. within found body

  first_flat : (k : ℕ) (arms : List Arm) (bodies : List (Run X X)) (none : Run X X) (xs : List X)
      → first_of z w k (map flat_arm arms) bodies none xs ≡ first_of z w k arms bodies none xs
  first_flat k [] [] none xs = refl
  first_flat k [] (body ∷ bodies) none xs = refl
  first_flat k (arm ∷ arms) [] none xs = refl
  first_flat k (arm ∷ arms) (body ∷ bodies) none xs =
      λ i. or_then z (z.inside (taken_flat (Gives.Arm k (length (map flat_arm arms))) (Gives.Arm k (length arms)) (as_many k flat_arm arms) arm body xs i))
      (first_flat k arms bodies none xs i)

  let_flat : (g h : Giver) → g ≡ h → (place : Place) (arm : Arm) (x : X) (body : Run X X)
      → let_in z w g place (flat_arm arm) x body ≡ let_in z w h place arm x body
  let_flat g h same place arm x body = λ i. or_then z (taken_flat g h same arm body (x ∷ []) i) (stops (MatchFailure place))

  tried_flat : (k : ℕ) (arms : List Arm) (bodies : List (Run X X)) (piece : Run X X)
      → tried z w k (map flat_arm arms) bodies piece ≡ tried z w k arms bodies piece
  tried_flat k arms bodies piece = λ i now.
      caught (z.inside piece now) (λ v after. (made z k [] v then λ x. first_flat k arms bodies (throws v) (x ∷ []) i) (z.back now after))

  block_flat : (k : ℕ) (ss : List Statement) (parts : List (Run X X)) → block z w k (map flat_statement ss) parts ≡ block z w k ss parts
  block_flat k [] [] = refl
  block_flat k [] (value ∷ []) = refl
  block_flat k [] (a ∷ b ∷ parts) = refl
  block_flat k (B.Evaluate ∷ ss) [] = refl
  block_flat k (B.Define place arm ∷ ss) [] = refl
  block_flat k (B.Declare name written ∷ ss) [] = refl
  block_flat k (B.Evaluate ∷ ss) (a ∷ parts) = λ i. a then λ x. block_flat k ss parts i
  block_flat k (B.Define place arm ∷ ss) (a ∷ parts) =
      let before : Giver = Gives.Arm k (length (map flat_statement ss)) in
      let now : Giver = Gives.Arm k (length ss) in
      then_same a (λ x. let_in z w before place (flat_arm arm) x (block z w k (map flat_statement ss) parts))
      (λ x. let_in z w now place arm x (block z w k ss parts))
      (λ x. ap (let_in z w before place (flat_arm arm) x) (block_flat k ss parts)
      ∙ let_flat before now (as_many k flat_statement ss) place arm x (block z w k ss parts))
  block_flat k (B.Declare name written ∷ ss) (a ∷ parts) = λ i. a then λ x. within (local name x ∷ []) (block_flat k ss parts i)

  -- ---- kinds

  kind_flat : (place : Place) (k : ℕ) (kind : Kind) (parts : List (Run X X))
      → kind_meaning z w place k (flat_kind kind) parts ≡ kind_meaning z w place k kind parts
  kind_flat place k (K.Block statements) parts = block_flat k statements parts
  kind_flat place k (K.Let arm) (a ∷ b ∷ []) =
      then_same a (λ x. let_in z w (Gives.Arm k 0) place (flat_arm arm) x b) (λ x. let_in z w (Gives.Arm k 0) place arm x b)
      (λ x. let_flat (Gives.Arm k 0) (Gives.Arm k 0) refl place arm x b)
  kind_flat place k (K.Match arms shape) [] = refl
  kind_flat place k (K.Match arms shape) (a ∷ bodies) =
      λ i. met_at z k (a then λ x. first_flat k arms bodies (stops (MatchFailure place)) (x ∷ []) i)
  kind_flat place k (K.Try arms shape) [] = refl
  kind_flat place k (K.Try arms shape) (a ∷ bodies) = ap (met_at z k) (tried_flat k arms bodies a)
  kind_flat place k (K.Clauses arms) parts = first_flat k arms parts falls w.arguments
  kind_flat place k kind parts = refl

  -- ---- cores

  Flat : Core → Type 0
  Flat c = meaning z w (flat_core c) ≡ meaning z w c

  parts_flat : (ys : List ((c : Core) × Flat c)) → map (meaning z w) (map flat_core (map (λ y. y.0) ys)) ≡ map (meaning z w) (map (λ y. y.0) ys)
  unfolding Flat
  parts_flat [] = refl
  parts_flat (y ∷ ys) = λ i. y.1 i ∷ parts_flat ys i

  pub core_flat : (c : Core) → meaning z w (flat_core c) ≡ meaning z w c
  unfolding Flat
  core_flat = ind-Core Flat (λ c y is. subst (λ d. Flat (roll-Core d)) is (
      ap (meaning z w) (fold-roll-Core Core (λ q. node q.place q.number (flat_kind q.kind) q.parts) (map-Core ((q : Core) × Flat q) Core (λ q. q.0) y))
      ∙ fold-roll-Core (Run X X) (λ q. kind_meaning z w q.place q.number q.kind q.parts)
      (record { place = y.place; number = y.number; kind = flat_kind y.kind; parts = map flat_core (map (λ u. u.0) y.parts) })
      ∙ ap (kind_meaning z w y.place y.number (flat_kind y.kind)) (parts_flat y.parts)
      ∙ kind_flat y.place y.number y.kind (map (meaning z w) (map (λ u. u.0) y.parts))
      ∙ sym (fold-roll-Core (Run X X) (λ q. kind_meaning z w q.place q.number q.kind q.parts) (map-Core ((q : Core) × Flat q) Core (λ q. q.0) y))))
