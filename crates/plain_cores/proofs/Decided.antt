-- Cores that decide, by their kinds.
use Rattle.std.proofs.Common.{◌≡◌, ℕ, suc, List, [], ◌∷◌, map, length, ap, sym, refl, subst}
use Rattle.std.proofs.Common.{Bool, true, false, ◌&&◌, ◌||◌, Option, None, slice_get}
use Rattle.std.proofs.lemmas.Bool.{and_parts}
use Rattle.sail_base.specs.declared.place.Place.{Place}
use Rattle.sail_types.specs.Limits.{is_length}
use Rattle.sail_types.specs.declared.values.Value.{Value, out-Value}
use Rattle.sail_types.specs.declared.values.Value.TheVariants as Val
use Rattle.model_state.specs.declared.cause.Cause.TheVariants.{Assertion, Exit, MatchFailure}
use Rattle.sail_core.specs.declared.tree.Core.{Core, Core-F, roll-Core, fold-roll-Core, map-Core, ind-Core}
use Rattle.sail_core.specs.declared.tree.Kind.{Kind}
use Rattle.sail_core.specs.declared.tree.Kind.TheVariants as K
use Rattle.sail_core.specs.declared.tree.Statement.{Statement}
use Rattle.sail_core.specs.declared.tree.Statement.TheVariants as S
use Rattle.sail_core.specs.Run as R
use Rattle.sail_core.specs.Run.{Run, gives, held_in, if_so, in_turn, local, needs, returns}
use Rattle.sail_core.specs.Run.{stops, within, ◌then◌}
use Rattle.sail_core.specs.Making.{World, made, plainly, truth}
use Rattle.sail_core.specs.Meaning as Means
use Rattle.sail_core.specs.Meaning.{truly}
use Rattle.sail_core.specs.Numbers.{known, known_truth}
use Rattle.sail_core.specs.Targets.{called, read_register}
use Rattle.sail_core.specs.Values.{cons_of, item_way, list_of, slice_way, struct_of}
use Rattle.sail_core.specs.Values.{tuple_of, vector_of, with_of}
use Rattle.shape_joins.proofs.Order.{no}
use Rattle.shape_progress.specs.Conditions.{index_met, number_met, slice_met, step_met, truth_met, width_met, measure_met}
use Rattle.shape_progress.specs.Checks.{Table, call_met, checked, checked_kind}
use Rattle.shape_progress.specs.Checks.{checked_suffixes, first_arm, if_met, let_then, statements}
use Rattle.shape_progress.specs.Checks.{where_met}
use Rattle.plain_cores.specs.Ends.{Ends, all_alone, all_arms, alone_kind, decides, ends, ends_kind, is_guarded}
use Rattle.plain_cores.specs.Ending.{Calm, Inside, IsAtRest}
use Rattle.plain_cores.proofs.Pieces.{AllCalm, AllInside, arms_d, calm, inside_on, integer_d, let_d, met_d, needs_d, operands_d, or_d, part_d, so_d, then_d}
use Rattle.plain_cores.proofs.Pieces.{truth_d, turn_d, when_c, within_d}
use Rattle.plain_cores.proofs.Steps.{called_d, foreach_d, put_d, read_d, read_variable_d, repeat_d, suffixes_d, while_d}

-- kinds of which each part has to end so
abbrev IsAlone : Kind → Type 0
IsAlone K.When = ⊥
IsAlone (K.Clauses arms) = ⊥
IsAlone K.Throw = ⊥
IsAlone (K.Match arms of) = ⊥
IsAlone (K.Try arms of) = ⊥
IsAlone (K.Assign targets) = ⊥
IsAlone kind = Unit {0}

-- a part, and how it ends where the test says so
pub record Part : Type 0 where
  pub run : Run Value Value
  pub says : Ends
  pub alone : says.alone ≡ true → Inside run
  pub as_arm : says.as_arm ≡ true → Calm run

all_inside : (ps : List Part) → all_alone (map (λ p. p.says) ps) ≡ true → AllInside (map (λ p. p.run) ps)
all_inside [] h = tt
all_inside (p ∷ ps) h =
    let both = and_parts p.says.alone (all_alone (map (λ q. q.says) ps)) h in
    (p.alone both.0, all_inside ps both.1)

all_calm : (ps : List Part) → all_arms (map (λ p. p.says) ps) ≡ true → AllCalm (map (λ p. p.run) ps)
all_calm [] h = tt
all_calm (p ∷ ps) h =
    let both = and_parts p.says.as_arm (all_arms (map (λ q. q.says) ps)) h in
    (p.as_arm both.0, all_calm ps both.1)

or_nothing : (a : Bool) → (a || false) ≡ true → a ≡ true
or_nothing true h = refl
or_nothing false h = h

module _ (t : Table) (w : World Value) (d : IsAtRest w) where
  -- ---- statements

  block_d : (ss : List Statement) (parts : List (Run Value Value)) → AllInside parts → Inside (statements w ss parts)
  block_d [] [] h = λ now. tt
  block_d [] (a ∷ []) h = h.0
  block_d [] (a ∷ b ∷ parts) h = λ now. tt
  block_d (S.Evaluate ∷ ss) [] h = λ now. tt
  block_d (S.Define place arm ∷ ss) [] h = λ now. tt
  block_d (S.Declare name written ∷ ss) [] h = λ now. tt
  block_d (S.Evaluate ∷ ss) (a ∷ parts) h = then_d a (λ v. statements w ss parts) h.0 (λ v. block_d ss parts h.1)
  block_d (S.Define place arm ∷ ss) (a ∷ parts) h =
      then_d a (λ v. let_then w place arm v (statements w ss parts)) h.0 (λ v. let_d w d place arm v (statements w ss parts) (block_d ss parts h.1))
  block_d (S.Declare name written ∷ ss) (a ∷ parts) h =
      then_d a (λ v. within (local name v ∷ []) (statements w ss parts)) h.0
      (λ v. within_d (local name v ∷ []) (statements w ss parts) (block_d ss parts h.1))

  -- ---- all kinds but guards and clauses

  built_d : (k : ℕ) (make : List Value → Option Value) (parts : List (Run Value Value)) → AllInside parts → Inside (Means.built plainly k parts make)
  built_d k make parts h =
      then_d (in_turn parts) (λ xs. needs (make xs) then made plainly k xs) (turn_d parts h)
      (λ xs. then_d (needs (make xs)) (made plainly k xs) (needs_d (make xs)) (λ v now. tt))

  right_d : (b : Run Value Value) → Inside b → Inside (b then truly plainly)
  right_d b h = then_d b (truly plainly) h (λ x. truth_d x (λ y. gives x) (λ y now. tt))

  held_d : (name : List ℕ) (f : Value → Run Value Value) → ((v : Value) → Inside (f v)) → Inside (λ now. R.goes_on (needs (held_in name now.locals) now) f)
  held_d name f k now = inside_on (needs (held_in name now.locals) now) f (needs_d (held_in name now.locals) now) (λ v later. k v later)

  known_d : {A : Type 0} (b : Bool) (o : Option A) (f : A → Value) → Inside (where_met b (needs o then λ x. gives (f x)))
  known_d b o f = met_d b (needs o then λ x. gives (f x)) (then_d (needs o) (λ x. gives (f x)) (needs_d o) (λ x now. tt))

  kind_d : (place : Place) (k : ℕ) (kind : Kind) (parts : List (Run Value Value)) → AllInside parts → IsAlone kind
      → Inside (checked_kind t w place k kind parts)
  kind_d place k (K.Constant literal) [] h alone = λ now. tt
  kind_d place k (K.Local name) [] h alone = held_d name (λ x. made plainly k (x ∷ []) x) (λ v now. tt)
  kind_d place k (K.Variable name) [] h alone = read_variable_d k name
  kind_d place k (K.TopLevel i) [] h alone =
      then_d (needs (slice_get w.lets i)) (λ v. made plainly k [] v) (needs_d (slice_get w.lets i)) (λ v now. tt)
  kind_d place k (K.Register r) [] h alone = then_d (read_register w r) (λ v. made plainly k [] v) (read_d w r) (λ v now. tt)
  kind_d place k (K.Call callee) parts h alone =
      operands_d (call_met t callee) parts (called plainly w place k callee) h (called_d w d place k callee)
  kind_d place k K.And (a ∷ b ∷ []) h alone =
      then_d a _ h.0 (λ x. truth_d x (if_so (b then truly plainly) (gives x)) (so_d (b then truly plainly) (gives x) (right_d b h.1.0) (λ now. tt)))
  kind_d place k K.Or (a ∷ b ∷ []) h alone =
      then_d a _ h.0 (λ x. truth_d x (if_so (gives x) (b then truly plainly)) (so_d (gives x) (b then truly plainly) (λ now. tt) (right_d b h.1.0)))
  kind_d place k (K.Cast written) (a ∷ []) h alone = then_d a (λ x. made plainly k (x ∷ []) x) h.0 (λ x now. tt)
  kind_d place k K.Tuple parts h alone = built_d k tuple_of parts h
  kind_d place k (K.Vector of) parts h alone =
      operands_d (λ vs. is_length (length vs)) parts (λ xs. needs (vector_of xs) then made plainly k xs) h
      (λ xs. then_d (needs (vector_of xs)) (made plainly k xs) (needs_d (vector_of xs)) (λ v now. tt))
  kind_d place k (K.List of) parts h alone = built_d k list_of parts h
  kind_d place k (K.Cons of) parts h alone = built_d k cons_of parts h
  kind_d place k (K.Struct i places) parts h alone = built_d k (struct_of i places) parts h
  kind_d place k (K.With i places) parts h alone = built_d k (with_of i places) parts h
  kind_d place k (K.Part suffixes) (a ∷ parts) h alone =
      then_d a (checked_suffixes suffixes parts) h.0 (λ v. suffixes_d suffixes parts h.1 v)
  kind_d place k K.WithItem (a ∷ b ∷ c ∷ []) h alone =
      then_d a _ h.0
      (λ v. then_d b _ h.1.0
      (λ i. integer_d i _
      (λ z. then_d (if_met (λ new. index_met (out-Value i) (out-Value v)) c) (Means.put plainly k (item_way z) v (i ∷ []))
      (part_d (λ new. index_met (out-Value i) (out-Value v)) c h.1.1.0) (put_d k (item_way z) v (i ∷ [])))))
  kind_d place k K.WithSlice (a ∷ b ∷ c ∷ e ∷ []) h alone =
      then_d a _ h.0
      (λ v. then_d b _ h.1.0
      (λ x. then_d c _ h.1.1.0
      (λ y. integer_d x _
      (λ hi. integer_d y _
      (λ lo. then_d _ (Means.put plainly k (slice_way hi lo) v (x ∷ y ∷ []))
      (part_d (λ u. slice_met (out-Value x) (out-Value y) (out-Value v) && width_met (out-Value x) (out-Value y) (out-Value u)) e h.1.1.1.0)
      (put_d k (slice_way hi lo) v (x ∷ y ∷ [])))))))
  kind_d place k (K.SizeOf number numbers) [] h alone = known_d (number_met w.numbers number) (known w.numbers number) (λ z. Val.Integer z)
  kind_d place k (K.Constraint c numbers) [] h alone = known_d (truth_met w.numbers c) (known_truth w.numbers c) (λ b. Val.Truth b)
  kind_d place k (K.Assign targets) parts h alone = absurd alone
  kind_d place k (K.Block ss) parts h alone = block_d ss parts h
  kind_d place k (K.Let arm) (a ∷ b ∷ []) h alone = then_d a (λ v. let_then w place arm v b) h.0 (λ v. let_d w d place arm v b h.1.0)
  kind_d place k (K.Var name written) (a ∷ b ∷ []) h alone =
      then_d a (λ v. within (local name v ∷ []) b) h.0 (λ v. within_d (local name v ∷ []) b h.1.0)
  kind_d place k (K.If of) (a ∷ b ∷ []) h alone =
      then_d a _ h.0 (λ x. truth_d x (if_so b (gives Val.Unit)) (so_d b (gives Val.Unit) h.1.0 (λ now. tt)))
  kind_d place k (K.If of) (a ∷ b ∷ c ∷ []) h alone =
      then_d (a then λ x. truth plainly x then if_so b c) (λ x. made plainly k (Val.Unit ∷ []) x)
      (then_d a _ h.0 (λ x. truth_d x (if_so b c) (so_d b c h.1.0 h.1.1.0))) (λ x now. tt)
  kind_d place k (K.Foreach name way) (a ∷ b ∷ c ∷ body ∷ []) h alone =
      then_d a _ h.0
      (λ x. integer_d x _
      (λ from. then_d b _ h.1.0
      (λ y. integer_d y _
      (λ to. then_d (if_met (λ v. step_met (out-Value v)) c) _ (part_d (λ v. step_met (out-Value v)) c h.1.1.0)
      (λ u. integer_d u _ (λ by. foreach_d name way from to by body h.1.1.1.0))))))
  kind_d place k K.While (m ∷ c ∷ b ∷ []) h alone = λ now.
      while_d now (suc now.ticks) place (if_met (λ v. measure_met (out-Value v)) m) c b None (part_d (λ v. measure_met (out-Value v)) m h.0) h.1.0 h.1.1.0 now
  kind_d place k K.Repeat (m ∷ b ∷ c ∷ []) h alone = λ now.
      repeat_d now (suc now.ticks) place (if_met (λ v. measure_met (out-Value v)) m) b c None (part_d (λ v. measure_met (out-Value v)) m h.0) h.1.0 h.1.1.0 now
  kind_d place k K.Return (a ∷ []) h alone = then_d a (λ v. returns v) h.0 (λ v now. tt)
  kind_d place k K.Throw parts h alone = absurd alone
  kind_d place k K.Exit (a ∷ []) h alone = then_d a (λ v. stops (Exit place)) h.0 (λ v now. tt)
  kind_d place k (K.Assert text) (a ∷ []) h alone =
      then_d a _ h.0 (λ x. truth_d x (if_so (gives Val.Unit) (stops (Assertion place text)))
      (so_d (gives Val.Unit) (stops (Assertion place text)) (λ now. tt) (λ now. tt)))
  kind_d place k (K.Optional of) (a ∷ []) h alone =
      or_d (a then λ x. gives (Val.Union 0 0 x)) (gives (Val.Union 0 1 Val.Unit))
      (calm (a then λ x. gives (Val.Union 0 0 x)) (then_d a (λ x. gives (Val.Union 0 0 x)) h.0 (λ x now. tt))) (λ now. tt)
  kind_d place k K.When parts h alone = absurd alone
  kind_d place k (K.Clauses arms) parts h alone = absurd alone
  kind_d place k (K.Match arms of) parts h alone = absurd alone
  kind_d place k (K.Try arms of) parts h alone = absurd alone
  kind_d place k kind parts h alone = λ now. tt

  -- ---- all kinds, and cores

  kind_alone : (place : Place) (k : ℕ) (kind : Kind) (ps : List Part) → alone_kind kind (map (λ p. p.says) ps) ≡ true
      → Inside (checked_kind t w place k kind (map (λ p. p.run) ps))
  kind_alone place k K.When ps h = no h
  kind_alone place k (K.Clauses arms) ps h = no h
  kind_alone place k K.Throw ps h = no h
  kind_alone place k (K.Try arms of) ps h = no h
  kind_alone place k (K.Assign targets) ps h = no h
  kind_alone place k (K.Match arms of) [] h = λ now. tt
  kind_alone place k (K.Match arms of) (p ∷ ps) h =
      let both = and_parts p.says.alone (all_arms (map (λ q. q.says) ps)) h in
      then_d p.run (λ v. first_arm w arms (map (λ q. q.run) ps) (stops (MatchFailure place)) (v ∷ [])) (p.alone both.0)
      (λ v. arms_d w d arms (map (λ q. q.run) ps) (stops (MatchFailure place)) (v ∷ []) (all_calm ps both.1) (λ now. tt))
  kind_alone place k kind ps h = kind_d place k kind (map (λ p. p.run) ps) (all_inside ps h) tt

  kind_calm : (place : Place) (k : ℕ) (kind : Kind) (ps : List Part)
      → (alone_kind kind (map (λ p. p.says) ps) || (is_guarded kind && all_alone (map (λ p. p.says) ps))) ≡ true
      → Calm (checked_kind t w place k kind (map (λ p. p.run) ps))
  kind_calm place k K.When [] h = λ now. tt
  kind_calm place k K.When (a ∷ []) h = λ now. tt
  kind_calm place k K.When (a ∷ b ∷ []) h =
      let both = all_inside (a ∷ b ∷ []) h in
      when_c a.run b.run both.0 both.1.0
  kind_calm place k K.When (a ∷ b ∷ c ∷ ps) h = λ now. tt
  kind_calm place k kind ps h =
      calm (checked_kind t w place k kind (map (λ p. p.run) ps)) (kind_alone place k kind ps (or_nothing (alone_kind kind (map (λ p. p.says) ps)) h))

  Such : Core → Type 0
  Such c = ((ends c).alone ≡ true → Inside (checked t w c)) × ((ends c).as_arm ≡ true → Calm (checked t w c))

  part_of : (y : (c : Core) × Such c) → Part
  unfolding Such
  part_of y = record { run = checked t w y.0; says = ends y.0; alone = y.1.0; as_arm = y.1.1 }

  run_parts : (ys : List ((c : Core) × Such c)) → map (checked t w) (map (λ y. y.0) ys) ≡ map (λ p. p.run) (map part_of ys)
  unfolding part_of
  run_parts [] = refl
  run_parts (y ∷ ys) = ap (λ rs. checked t w y.0 ∷ rs) (run_parts ys)

  says_parts : (ys : List ((c : Core) × Such c)) → map ends (map (λ y. y.0) ys) ≡ map (λ p. p.says) (map part_of ys)
  unfolding part_of
  says_parts [] = refl
  says_parts (y ∷ ys) = ap (λ es. ends y.0 ∷ es) (says_parts ys)

  -- what a node says, over what its parts say
  abbrev Says : Place → ℕ → Kind → List Ends → List (Run Value Value) → Type 0
  Says place k kind es rs =
      ((ends_kind kind es).alone ≡ true → Inside (checked_kind t w place k kind rs))
      × ((ends_kind kind es).as_arm ≡ true → Calm (checked_kind t w place k kind rs))

  kind_says : (place : Place) (k : ℕ) (kind : Kind) (ys : List ((c : Core) × Such c))
      → Says place k kind (map ends (map (λ y. y.0) ys)) (map (checked t w) (map (λ y. y.0) ys))
  kind_says place k kind ys =
      subst (λ rs. Says place k kind (map ends (map (λ y. y.0) ys)) rs) (sym (run_parts ys))
      (subst (λ es. Says place k kind es (map (λ p. p.run) (map part_of ys))) (sym (says_parts ys))
      (kind_alone place k kind (map part_of ys), kind_calm place k kind (map part_of ys)))

  rolled : (y : Core-F ((c : Core) × Such c)) → Such (roll-Core (map-Core ((c : Core) × Such c) Core (λ q. q.0) y))
  unfolding Such
  rolled y =
      let x : Core-F Core = map-Core ((c : Core) × Such c) Core (λ q. q.0) y in
      subst (λ (e : Ends). (e.alone ≡ true → Inside (checked t w (roll-Core x))) × (e.as_arm ≡ true → Calm (checked t w (roll-Core x))))
      (sym (fold-roll-Core Ends (λ z. ends_kind z.kind z.parts) x))
      (subst (λ (r : Run Value Value). ((ends_kind y.kind (map ends (map (λ q. q.0) y.parts))).alone ≡ true → Inside r)
      × ((ends_kind y.kind (map ends (map (λ q. q.0) y.parts))).as_arm ≡ true → Calm r))
      (sym (fold-roll-Core (Run Value Value) (λ z. checked_kind t w z.place z.number z.kind z.parts) x))
      (kind_says y.place y.number y.kind y.parts))

  -- a core that decides ends so
  core_ends : (c : Core) → Such c
  core_ends = ind-Core Such (λ c y is. subst (λ z. Such (roll-Core z)) is (rolled y))

  pub core_inside : (c : Core) → decides c ≡ true → Inside (checked t w c)
  unfolding Such
  core_inside c h = (core_ends c).0 h
