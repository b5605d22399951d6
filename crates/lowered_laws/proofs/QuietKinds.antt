-- Each kind of node but `return` ends otherwise.
use Rattle.std.proofs.Common.{◌≡◌, ℕ, suc, Bool, true, List, [], ◌∷◌, map, slice_get, None}
use Rattle.std.proofs.Common.{sym, subst}
use Rattle.std.specs.Prelude.{◌&&◌}
use Rattle.std.proofs.lemmas.Bool.{and_parts}
use Rattle.sail_base.specs.declared.place.Place.{Place}
use Rattle.sail_types.specs.declared.table.Types.{Types}
use Rattle.sail_types.specs.declared.values.Value.TheOpen as W
use Rattle.sail_types.specs.declared.values.Value.TheVariants as V
use Rattle.model_state.specs.declared.cause.Cause.TheVariants.{MatchFailure, Assertion}
use Rattle.model_state.specs.declared.cause.Ended.TheVariants as E
use Rattle.sail_core.specs.declared.patterns.Form.TheVariants as F
use Rattle.sail_core.specs.declared.patterns.Step.TheVariants as T
use Rattle.sail_core.specs.declared.patterns.Arm.TheVariants as A
use Rattle.sail_core.specs.declared.targets.Way.TheVariants as Y
use Rattle.sail_core.specs.declared.targets.TargetKind.TheVariants as G
use Rattle.sail_core.specs.declared.tree.Callee.TheVariants as C
use Rattle.sail_core.specs.declared.tree.Giver.TheVariants as Gives
use Rattle.sail_core.specs.declared.tree.Statement.TheVariants as S
use Rattle.sail_core.specs.declared.tree.Kind.{Kind}
use Rattle.sail_core.specs.declared.tree.Kind.TheVariants as K
use Rattle.sail_core.specs.declared.tree.Core.{Core, roll-Core, fold-roll-Core, map-Core, ind-Core, Core-F}
use Rattle.sail_core.specs.Run as R
use Rattle.sail_core.specs.Run.{Run, falls, gives, held_in, if_so, in_turn, local}
use Rattle.sail_core.specs.Run.{needs, stops, ◌then◌}
use Rattle.sail_core.specs.Values.{cons_of, item_way, list_of, slice_way, struct_of, tuple_of}
use Rattle.sail_core.specs.Values.{vector_of, with_of}
use Rattle.sail_core.specs.Numbers.{known, known_truth}
use Rattle.sail_core.specs.Making.{Making, World, integer, nothing, truth}
use Rattle.sail_core.specs.Targets.{called}
use Rattle.sail_core.specs.Targets.{spotting}
use Rattle.sail_core.specs.Meaning.{first_of, foreach, kind_meaning}
use Rattle.sail_core.specs.Meaning.{meaning, put, suffixes_of, tried, truly, while, repeat, option_typ}
use Rattle.checked_meaning.specs.Checked.{Cases, checked}
use Rattle.checked_meaning.specs.Items.{Item}
use Rattle.lowered_laws.specs.Returning.{Quiet, QuietWorld, all_so, returns_nothing, stays_here}
use Rattle.lowered_laws.proofs.Follows.{no}
use Rattle.lowered_laws.proofs.Quiet.{AllQuiet, block_q, built_q, choice_q, first_q, foreach_q, inside_q, integer_q, let_q}
use Rattle.lowered_laws.proofs.Quiet.{made_q, met_q, needs_q, or_so_q, put_q, repeat_q, right_q, suffixes_q, then_q}
use Rattle.lowered_laws.proofs.Quiet.{tried_q, turn_q, while_q, within_q}
use Rattle.lowered_laws.proofs.QuietTargets.{assigned_q, called_q, register_read_q, targets_q, variable_read_q}

module _ (types : Types) (cases : Cases) (w : World Item) (s : QuietWorld w) where
  abbrev z : Making Item
  z = checked types cases

  kind_q : (p : Place) (k : ℕ) (kind : Kind) (parts : List (Run Item Item)) → stays_here kind ≡ true → AllQuiet parts → Quiet (kind_meaning z w p k kind parts)
  kind_q p k (K.Constant literal) [] e h now = tt
  kind_q p k (K.Local name) [] e h now = then_q (needs (held_in name now.locals)) _ (needs_q (held_in name now.locals))
      (λ x. made_q types cases k (x ∷ []) x.val) now
  kind_q p k (K.Variable name) [] e h now = variable_read_q types cases k name now
  kind_q p k (K.TopLevel i) [] e h now = then_q (needs (slice_get w.lets i)) _ (needs_q (slice_get w.lets i)) (made_q types cases k []) now
  kind_q p k (K.Register r) [] e h now = register_read_q types cases w k r now
  kind_q p k (K.Call callee) args e h now = then_q (in_turn args) (called z w p k callee) (turn_q args h) (called_q types cases w s p k callee) now
  kind_q p k K.And (a ∷ b ∷ []) e h now =
      then_q a _ h.0 (λ x. choice_q types cases x (z.inside (b then truly z)) (gives x) (inside_q types cases _ (right_q types cases b h.1.0)) (λ u. tt)) now
  kind_q p k K.Or (a ∷ b ∷ []) e h now =
      then_q a _ h.0 (λ x. choice_q types cases x (gives x) (z.inside (b then truly z)) (λ u. tt) (inside_q types cases _ (right_q types cases b h.1.0))) now
  kind_q p k (K.Cast written) (a ∷ []) e h now = then_q a _ h.0 (λ x. made_q types cases k (x ∷ []) x.val) now
  kind_q p k K.Tuple parts e h now = built_q types cases k parts h tuple_of now
  kind_q p k (K.Vector shape) parts e h now = built_q types cases k parts h vector_of now
  kind_q p k (K.List shape) parts e h now = built_q types cases k parts h list_of now
  kind_q p k (K.Cons shape) parts e h now = built_q types cases k parts h cons_of now
  kind_q p k (K.Struct struct fields) parts e h now = built_q types cases k parts h (struct_of struct fields) now
  kind_q p k (K.With struct fields) parts e h now = built_q types cases k parts h (with_of struct fields) now
  kind_q p k (K.Part suffixes) (a ∷ indexes) e h now = then_q a (suffixes_of z suffixes indexes) h.0 (suffixes_q types cases suffixes indexes h.1) now
  kind_q p k K.WithItem (a ∷ b ∷ c ∷ []) e h now =
      then_q a _ h.0 (λ x. then_q b _ h.1.0 (λ y. then_q (integer z y) _ (integer_q types cases y)
      (λ i. then_q c (put z k (item_way i) x (y ∷ [])) h.1.1.0 (put_q types cases k (item_way i) x (y ∷ []))))) now
  kind_q p k K.WithSlice (a ∷ b ∷ c ∷ d ∷ []) e h now =
      then_q a _ h.0 (λ x. then_q b _ h.1.0 (λ y. then_q c _ h.1.1.0 (λ u. then_q (integer z y) _ (integer_q types cases y)
      (λ hi. then_q (integer z u) _ (integer_q types cases u)
      (λ lo. then_q d (put z k (slice_way hi lo) x (y ∷ u ∷ [])) h.1.1.1.0 (put_q types cases k (slice_way hi lo) x (y ∷ u ∷ []))))))) now
  kind_q p k (K.SizeOf t numbers) [] e h now = then_q (needs (known w.numbers t)) _ (needs_q (known w.numbers t)) (λ i u. tt) now
  kind_q p k (K.Constraint c numbers) [] e h now = then_q (needs (known_truth w.numbers c)) _ (needs_q (known_truth w.numbers c)) (λ b u. tt) now
  kind_q p k (K.Assign targets) parts e h now = assigned_q types cases (map (spotting z w) targets) (targets_q types cases w s targets) parts h now
  kind_q p k (K.Block statements) parts e h now = block_q types cases w s k statements parts h now
  kind_q p k (K.Let arm) (a ∷ b ∷ []) e h now = then_q a _ h.0 (λ x. let_q types cases w s (Gives.Arm k 0) p arm x b h.1.0) now
  kind_q p k (K.Var name t) (a ∷ b ∷ []) e h now = then_q a _ h.0 (λ x. within_q (local name x ∷ []) b h.1.0) now
  kind_q p k (K.If shape) (a ∷ b ∷ []) e h now =
      then_q a _ h.0 (λ x. choice_q types cases x (z.inside b) (gives (nothing z)) (inside_q types cases b h.1.0) (λ u. tt)) now
  kind_q p k (K.If shape) (a ∷ b ∷ c ∷ []) e h now =
      met_q types cases k (a then λ x. truth z x then if_so (z.inside b) (z.inside c))
      (then_q a _ h.0 (λ x. choice_q types cases x (z.inside b) (z.inside c) (inside_q types cases b h.1.0) (inside_q types cases c h.1.1.0))) now
  kind_q p k (K.Match arms shape) (a ∷ bodies) e h now =
      met_q types cases k (a then λ x. first_of z w k arms bodies (stops (MatchFailure p)) (x ∷ []))
      (then_q a _ h.0 (λ x. first_q types cases w s k arms bodies h.1 (stops (MatchFailure p)) (λ u. tt) (x ∷ []))) now
  kind_q p k (K.Try arms shape) (a ∷ bodies) e h now =
      met_q types cases k (tried z w k arms bodies a) (tried_q types cases w s k arms bodies h.1 a h.0) now
  kind_q p k (K.Clauses arms) bodies e h now = first_q types cases w s k arms bodies h falls (λ u. tt) w.arguments now
  kind_q p k K.When (a ∷ b ∷ []) e h now = then_q a _ h.0 (λ x. choice_q types cases x b falls h.1.0 (λ u. tt)) now
  kind_q p k (K.Foreach name way) (a ∷ b ∷ c ∷ body ∷ []) e h now =
      then_q a _ h.0 (λ x. then_q (integer z x) _ (integer_q types cases x) (λ from.
      then_q b _ h.1.0 (λ y. then_q (integer z y) _ (integer_q types cases y) (λ to.
      then_q c _ h.1.1.0 (λ u. then_q (integer z u) _ (integer_q types cases u) (λ by.
      inside_q types cases (foreach z name way from to by body) (foreach_q types cases name way from to by body h.1.1.1.0))))))) now
  kind_q p k K.While (m ∷ c ∷ b ∷ []) e h now =
      inside_q types cases (while z p m c b) (λ u. while_q types cases u (suc u.ticks) p m c b h.0 h.1.0 h.1.1.0 None u) now
  kind_q p k K.Repeat (m ∷ b ∷ c ∷ []) e h now =
      inside_q types cases (repeat z p m b c) (λ u. repeat_q types cases u (suc u.ticks) p m b c h.0 h.1.0 h.1.1.0 None u) now
  kind_q p k K.Return (a ∷ []) e h now = no e
  kind_q p k K.Throw (a ∷ []) e h now = then_q a _ h.0 (λ x u. tt) now
  kind_q p k K.Exit (a ∷ []) e h now = then_q a _ h.0 (λ x u. tt) now
  kind_q p k (K.Assert text) (a ∷ []) e h now =
      then_q a _ h.0 (λ x. choice_q types cases x (gives (nothing z)) (stops (Assertion p text)) (λ u. tt) (λ u. tt)) now
  kind_q p k (K.Optional t) (a ∷ []) e h now =
      or_so_q ((a then λ x. gives (z.fixed (option_typ t) (V.Union 0 0 (z.val x)))) now) _ (then_q a _ h.0 (λ x u. tt) now) (λ after. tt)
  kind_q p k kind parts e h now = tt

  -- ---- cores

  abbrev Such : Core → Type 0
  Such c = returns_nothing c ≡ true → Quiet (meaning z w c)

  Sim : Core → Type 0
  Sim c = Such c

  such_parts : (ys : List ((c : Core) × Sim c)) → all_so (map returns_nothing (map (λ y. y.0) ys)) ≡ true → AllQuiet (map (meaning z w) (map (λ y. y.0) ys))
  unfolding Sim
  such_parts [] h = tt
  such_parts (y ∷ ys) h = let q = and_parts (returns_nothing y.0) (all_so (map returns_nothing (map (λ y. y.0) ys))) h in (y.1 q.0, such_parts ys q.1)

  abbrev Both : Run Item Item → Bool → Type 0
  Both m b = b ≡ true → Quiet m

  node_q : (y : Core-F ((c : Core) × Sim c)) → Sim (roll-Core (map-Core ((c : Core) × Sim c) Core (λ q. q.0) y))
  unfolding Sim
  node_q y =
      let d : Core-F Core = map-Core ((c : Core) × Sim c) Core (λ q. q.0) y in
      subst (λ r. Both r (returns_nothing (roll-Core d)))
      (sym (fold-roll-Core (Run Item Item) (λ c. kind_meaning z w c.place c.number c.kind c.parts) d))
      (subst (λ b. Both (kind_meaning z w y.place y.number y.kind (map (meaning z w) (map (λ q. q.0) y.parts))) b)
      (sym (fold-roll-Core Bool (λ c. stays_here c.kind && all_so c.parts) d))
      (λ h.
      let q = and_parts (stays_here y.kind) (all_so (map returns_nothing (map (λ q. q.0) y.parts))) h in
      kind_q y.place y.number y.kind (map (meaning z w) (map (λ q. q.0) y.parts)) q.0 (such_parts y.parts q.1)))

  all_q : (c : Core) → Sim c
  all_q = ind-Core Sim (λ c y same. subst (λ d. Sim (roll-Core d)) same (node_q y))

  pub core_q : (c : Core) → returns_nothing c ≡ true → Quiet (meaning z w c)
  unfolding Sim
  core_q c = all_q c
