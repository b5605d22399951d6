-- A core without mappings means what the older one means, once directions give options.
use Rattle.std.proofs.Common.{◌≡◌, ℕ, Bool, true, ◌&&◌, List, [], ◌∷◌, ◌++◌, length, map, take, drop, Option, Some, None, option_map, refl, sym, ap, subst}
use Rattle.std.proofs.Common.{◌∙◌, true≢false}
use Rattle.std.specs.List.{list_all}
use Rattle.std.proofs.lemmas.List.{length-map}
use Rattle.sail_base.specs.declared.place.Place.{Place}
use Rattle.model_state.specs.declared.cause.Cause.TheVariants.{MatchFailure}
use Rattle.sail_core.specs.declared.fragments.Fragment.TheVariants as G
use Rattle.sail_core.specs.declared.patterns.Arm.{Arm}
use Rattle.sail_core.specs.declared.targets.Caller.{Caller}
use Rattle.sail_core.specs.declared.targets.TargetKind.{TargetKind}
use Rattle.sail_core.specs.declared.targets.TargetKind.TheVariants as T
use Rattle.sail_core.specs.declared.targets.Target.{Target, roll-Target, fold-roll-Target, map-Target, ind-Target}
use Rattle.sail_core.specs.declared.tree.Callee.{Callee}
use Rattle.sail_core.specs.declared.tree.Callee.TheVariants as C
use Rattle.sail_core.specs.declared.tree.Giver.{Giver}
use Rattle.sail_core.specs.declared.tree.Giver.TheVariants as Gives
use Rattle.sail_core.specs.declared.tree.Statement.{Statement}
use Rattle.sail_core.specs.declared.tree.Statement.TheVariants as S
use Rattle.sail_core.specs.declared.tree.Kind.{Kind}
use Rattle.sail_core.specs.declared.tree.Kind.TheVariants as K
use Rattle.sail_core.specs.declared.tree.Core.{Core, roll-Core, fold-roll-Core, map-Core, ind-Core}
use Rattle.sail_core.specs.Run.{Run, falls, stops, throws, in_turn, tick, caught, within, local, ◌then◌}
use Rattle.sail_core.specs.Making.{Making, World, made}
use Rattle.sail_core.specs.Targets.{called, Spot, Spotting, asked, call_spot, target_meaning, spotting, spotted, assigned}
use Rattle.sail_core.specs.Meaning.{or_then, arm_taken, first_of, let_in, tried, met_at, block, kind_meaning, meaning, names_noted}
use Rattle.sail_core.specs.Program.{Ways}
use Rattle.sail_core.specs.Nodes.{node}
use Rattle.sail_core.specs.Fragments.{all_true, arm_in, callee_in, caller_in, target_kind_in, target_in, statement_in, kind_in, core_in}
use Rattle.mappings.specs.Rewriting.{free_arm, free_callee, free_caller, free_target_kind, target, free_target, free_statement, free_kind, free_core}
use Rattle.mappings.proofs.Options.{both_true, then_same, payload_same}
use Rattle.mappings.proofs.FreeArms.{with_options, GiveOptions, arm_free}

module _ {X : Type 0} (z : Making X) (w : World X) (ways : Ways X) (options : GiveOptions z w ways) where
  abbrev free : World X
  free = with_options w ways

  -- ---- arms

  -- as many arms and statements stand behind one as before
  as_many : {A B : Type 0} (k : ℕ) (f : A → B) (xs : List A) → Gives.Arm k (length (map f xs)) ≡ Gives.Arm k (length xs)
  as_many k f xs = λ i. Gives.Arm k (length-map xs f i)

  taken_free : (g o : Giver) → g ≡ o → (arm : Arm) (body : Run X X) (xs : List X) → arm_in G.Resolved arm ≡ true
      → arm_taken z free g (free_arm arm) body xs ≡ arm_taken z w o arm body xs
  taken_free g o same arm body xs h =
      λ i. arm_free z w ways options arm xs h i then λ found. names_noted z (same i) xs found then λ t. within found body

  first_free : (k : ℕ) (arms : List Arm) (bodies : List (Run X X)) (none : Run X X) (xs : List X) → list_all (arm_in G.Resolved) arms ≡ true
      → first_of z free k (map free_arm arms) bodies none xs ≡ first_of z w k arms bodies none xs
  first_free k [] [] none xs h = refl
  first_free k [] (body ∷ bodies) none xs h = refl
  first_free k (arm ∷ arms) [] none xs h = refl
  first_free k (arm ∷ arms) (body ∷ bodies) none xs h =
      let b : (arm_in G.Resolved arm ≡ true) × (list_all (arm_in G.Resolved) arms ≡ true) = both_true (arm_in G.Resolved arm)
      (list_all (arm_in G.Resolved) arms) h in
      λ i. or_then z (z.inside (taken_free (Gives.Arm k (length (map free_arm arms))) (Gives.Arm k (length arms)) (as_many k free_arm arms) arm body xs b.0 i))
      (first_free k arms bodies none xs b.1 i)

  let_free : (g o : Giver) → g ≡ o → (place : Place) (arm : Arm) (x : X) (body : Run X X) → arm_in G.Resolved arm ≡ true
      → let_in z free g place (free_arm arm) x body ≡ let_in z w o place arm x body
  let_free g o same place arm x body h = λ i. or_then z (taken_free g o same arm body (x ∷ []) h i) (stops (MatchFailure place))

  tried_free : (k : ℕ) (arms : List Arm) (bodies : List (Run X X)) (piece : Run X X) → list_all (arm_in G.Resolved) arms ≡ true
      → tried z free k (map free_arm arms) bodies piece ≡ tried z w k arms bodies piece
  tried_free k arms bodies piece h = λ i now.
      caught (z.inside piece now) (λ v after. (made z k [] v then λ x. first_free k arms bodies (throws v) (x ∷ []) h i) (z.back now after))

  block_free : (k : ℕ) (ss : List Statement) (parts : List (Run X X)) → list_all (statement_in G.Resolved) ss ≡ true
      → block z free k (map free_statement ss) parts ≡ block z w k ss parts
  block_free k [] [] h = refl
  block_free k [] (value ∷ []) h = refl
  block_free k [] (a ∷ b ∷ parts) h = refl
  block_free k (S.Evaluate ∷ ss) [] h = refl
  block_free k (S.Define place arm ∷ ss) [] h = refl
  block_free k (S.Declare name written ∷ ss) [] h = refl
  block_free k (S.Evaluate ∷ ss) (a ∷ parts) h = λ i. a then λ x. block_free k ss parts h i
  block_free k (S.Define place arm ∷ ss) (a ∷ parts) h =
      let b : (arm_in G.Resolved arm ≡ true) × (list_all (statement_in G.Resolved) ss ≡ true) = both_true (arm_in G.Resolved arm)
      (list_all (statement_in G.Resolved) ss) h in
      let before : Giver = Gives.Arm k (length (map free_statement ss)) in
      let now : Giver = Gives.Arm k (length ss) in
      then_same a (λ x. let_in z free before place (free_arm arm) x (block z free k (map free_statement ss) parts))
      (λ x. let_in z w now place arm x (block z w k ss parts))
      (λ x. ap (let_in z free before place (free_arm arm) x) (block_free k ss parts b.1)
      ∙ let_free before now (as_many k free_statement ss) place arm x (block z w k ss parts) b.0)
  block_free k (S.Declare name written ∷ ss) (a ∷ parts) h = λ i. a then λ x. within (local name x ∷ []) (block_free k ss parts h i)

  -- ---- calls

  called_free : (place : Place) (k : ℕ) (callee : Callee) (xs : List X) → callee_in G.Resolved callee ≡ true
      → called z free place k (free_callee callee) xs ≡ called z w place k callee xs
  called_free place k (C.Converts d) (x ∷ []) h = λ i. (tick then λ t. payload_same place (w.enter d (z.val x)) i) then λ v. made z k (x ∷ []) v
  called_free place k (C.Converts d) [] h = refl
  called_free place k (C.Converts d) (x ∷ y ∷ xs) h = refl
  called_free place k (C.Applies d) xs h = absurd (true≢false (sym h))
  called_free place k (C.Function f) xs h = refl
  called_free place k (C.Row row) xs h = refl
  called_free place k (C.Constructor u c) xs h = refl

  asked_free : (place : Place) (caller : Option Caller) (xs : List X) → caller_in G.Resolved caller ≡ true
      → asked z free place (option_map free_caller caller) xs ≡ asked z w place caller xs
  asked_free place None xs h = refl
  asked_free place (Some caller) xs h = called_free place caller.number caller.callee xs h

  call_spot_free : (place : Place) (k : ℕ) (reader : Option Caller) (writer : Caller) (xs : List X) → caller_in G.Resolved reader ≡ true
      → callee_in G.Resolved writer.callee ≡ true
      → call_spot z free place k (option_map free_caller reader) (free_caller writer) xs ≡ call_spot z w place k reader writer xs
  call_spot_free place k reader writer xs h g = λ i. record {
    read = asked_free place reader xs h i;
    write = λ x. made z k (x ∷ []) (z.val x) then λ y. asked_free place (Some writer) (xs ++ y ∷ []) g i;
    renew = λ v. made z k [] v then λ y. asked_free place (Some writer) (xs ++ y ∷ []) g i;
  }

  -- ---- targets

  target_kind_free : (place : Place) (k : ℕ) (kind : TargetKind) (targets : List (Spotting X (Spot X))) → target_kind_in G.Resolved kind ≡ true
      → target_meaning z free place k (free_target_kind kind) targets ≡ target_meaning z w place k kind targets
  target_kind_free place k (T.Call n reader writer) [] h =
      let b : (caller_in G.Resolved reader ≡ true) × (callee_in G.Resolved writer.callee ≡ true) = both_true (caller_in G.Resolved reader)
      (callee_in G.Resolved writer.callee) h in
      λ i parts. in_turn (take n parts) then λ xs. spotted (call_spot_free place k reader writer xs b.0 b.1 i) (drop n parts)
  target_kind_free place k (T.Call n reader writer) (t ∷ ts) h = refl
  target_kind_free place k (T.Variable name) targets h = refl
  target_kind_free place k (T.Register r) targets h = refl
  target_kind_free place k T.Tuple targets h = refl
  target_kind_free place k (T.Part suffixes) targets h = refl

  FreeTarget : Target → Type 0
  FreeTarget t = target_in G.Resolved t ≡ true → spotting z free (free_target t) ≡ spotting z w t

  inner_free : (ys : List ((t : Target) × FreeTarget t)) → all_true (map (target_in G.Resolved) (map (λ y. y.0) ys)) ≡ true
      → map (spotting z free) (map free_target (map (λ y. y.0) ys)) ≡ map (spotting z w) (map (λ y. y.0) ys)
  unfolding FreeTarget
  inner_free [] h = refl
  inner_free (y ∷ ys) h =
      let b : (target_in G.Resolved y.0 ≡ true) × (all_true (map (target_in G.Resolved) (map (λ u. u.0) ys)) ≡ true)
      = both_true (target_in G.Resolved y.0) (all_true (map (target_in G.Resolved) (map (λ u. u.0) ys))) h in
      λ i. y.1 b.0 i ∷ inner_free ys b.1 i

  target_free : (t : Target) → target_in G.Resolved t ≡ true → spotting z free (free_target t) ≡ spotting z w t
  unfolding FreeTarget
  target_free = ind-Target FreeTarget (λ t y is. subst (λ d. FreeTarget (roll-Target d)) is (λ e.
      let b : (target_kind_in G.Resolved y.kind ≡ true) × (all_true (map (target_in G.Resolved) (map (λ u. u.0) y.parts)) ≡ true)
      = both_true (target_kind_in G.Resolved y.kind) (all_true (map (target_in G.Resolved) (map (λ u. u.0) y.parts)))
      (sym (fold-roll-Target Bool (λ q. target_kind_in G.Resolved q.kind && all_true q.parts)
      (map-Target ((q : Target) × FreeTarget q) Target (λ q. q.0) y)) ∙ e) in
      ap (spotting z free) (fold-roll-Target Target (λ q. target q.place q.number (free_target_kind q.kind) q.parts)
      (map-Target ((q : Target) × FreeTarget q) Target (λ q. q.0) y))
      ∙ fold-roll-Target (Spotting X (Spot X)) (λ q. target_meaning z free q.place q.number q.kind q.parts)
      (record { place = y.place; number = y.number; kind = free_target_kind y.kind; parts = map free_target (map (λ u. u.0) y.parts) })
      ∙ ap (target_meaning z free y.place y.number (free_target_kind y.kind)) (inner_free y.parts b.1)
      ∙ target_kind_free y.place y.number y.kind (map (spotting z w) (map (λ u. u.0) y.parts)) b.0
      ∙ sym (fold-roll-Target (Spotting X (Spot X)) (λ q. target_meaning z w q.place q.number q.kind q.parts)
      (map-Target ((q : Target) × FreeTarget q) Target (λ q. q.0) y))))

  targets_free : (ts : List Target) → all_true (map (target_in G.Resolved) ts) ≡ true → map (spotting z free) (map free_target ts) ≡ map (spotting z w) ts
  targets_free [] h = refl
  targets_free (t ∷ ts) h =
      let b : (target_in G.Resolved t ≡ true) × (all_true (map (target_in G.Resolved) ts) ≡ true)
      = both_true (target_in G.Resolved t) (all_true (map (target_in G.Resolved) ts)) h in
      λ i. target_free t b.0 i ∷ targets_free ts b.1 i

  -- ---- kinds

  kind_free : (place : Place) (k : ℕ) (kind : Kind) (parts : List (Run X X)) → kind_in G.Resolved kind ≡ true
      → kind_meaning z free place k (free_kind kind) parts ≡ kind_meaning z w place k kind parts
  kind_free place k (K.Call callee) args h =
      then_same (in_turn args) (called z free place k (free_callee callee)) (called z w place k callee) (λ xs. called_free place k callee xs h)
  kind_free place k (K.Assign targets) parts h = ap (λ ts. assigned ts parts) (targets_free targets h)
  kind_free place k (K.Block statements) parts h = block_free k statements parts h
  kind_free place k (K.Let arm) (a ∷ b ∷ []) h =
      then_same a (λ x. let_in z free (Gives.Arm k 0) place (free_arm arm) x b) (λ x. let_in z w (Gives.Arm k 0) place arm x b)
      (λ x. let_free (Gives.Arm k 0) (Gives.Arm k 0) refl place arm x b h)
  kind_free place k (K.Match arms shape) [] h = refl
  kind_free place k (K.Match arms shape) (a ∷ bodies) h =
      λ i. met_at z k (a then λ x. first_free k arms bodies (stops (MatchFailure place)) (x ∷ []) h i)
  kind_free place k (K.Try arms shape) [] h = refl
  kind_free place k (K.Try arms shape) (a ∷ bodies) h = ap (met_at z k) (tried_free k arms bodies a h)
  kind_free place k (K.Clauses arms) parts h = first_free k arms parts falls w.arguments h
  kind_free place k (K.Optional t) parts h = absurd (true≢false (sym h))
  kind_free place k kind parts h = refl

  -- ---- cores

  Free : Core → Type 0
  Free c = core_in G.Resolved c ≡ true → meaning z free (free_core c) ≡ meaning z w c

  parts_free : (ys : List ((c : Core) × Free c)) → all_true (map (core_in G.Resolved) (map (λ y. y.0) ys)) ≡ true
      → map (meaning z free) (map free_core (map (λ y. y.0) ys)) ≡ map (meaning z w) (map (λ y. y.0) ys)
  unfolding Free
  parts_free [] h = refl
  parts_free (y ∷ ys) h =
      let b : (core_in G.Resolved y.0 ≡ true) × (all_true (map (core_in G.Resolved) (map (λ u. u.0) ys)) ≡ true)
      = both_true (core_in G.Resolved y.0) (all_true (map (core_in G.Resolved) (map (λ u. u.0) ys))) h in
      λ i. y.1 b.0 i ∷ parts_free ys b.1 i

  pub core_free : (c : Core) → core_in G.Resolved c ≡ true → meaning z (with_options w ways) (free_core c) ≡ meaning z w c
  unfolding Free
  core_free = ind-Core Free (λ c y is. subst (λ d. Free (roll-Core d)) is (λ e.
      let b : (kind_in G.Resolved y.kind ≡ true) × (all_true (map (core_in G.Resolved) (map (λ u. u.0) y.parts)) ≡ true)
      = both_true (kind_in G.Resolved y.kind) (all_true (map (core_in G.Resolved) (map (λ u. u.0) y.parts)))
      (sym (fold-roll-Core Bool (λ q. kind_in G.Resolved q.kind && all_true q.parts) (map-Core ((q : Core) × Free q) Core (λ q. q.0) y)) ∙ e) in
      ap (meaning z free) (fold-roll-Core Core (λ q. node q.place q.number (free_kind q.kind) q.parts) (map-Core ((q : Core) × Free q) Core (λ q. q.0) y))
      ∙ fold-roll-Core (Run X X) (λ q. kind_meaning z free q.place q.number q.kind q.parts)
      (record { place = y.place; number = y.number; kind = free_kind y.kind; parts = map free_core (map (λ u. u.0) y.parts) })
      ∙ ap (kind_meaning z free y.place y.number (free_kind y.kind)) (parts_free y.parts b.1)
      ∙ kind_free y.place y.number y.kind (map (meaning z w) (map (λ u. u.0) y.parts)) b.0
      ∙ sym (fold-roll-Core (Run X X) (λ q. kind_meaning z w q.place q.number q.kind q.parts) (map-Core ((q : Core) × Free q) Core (λ q. q.0) y))))
