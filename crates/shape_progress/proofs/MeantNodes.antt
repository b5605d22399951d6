-- The checked reading of each form, over parts that are as they are meant: and so of each core.
use Rattle.std.proofs.Common.{◌≡◌, ◌⊎◌, inl, inr, ℕ, suc, ℤ, List, [], ◌∷◌, map, length, ap, sym, ◌∙◌, refl, subst, ◌&&◌, Option, None}
use Rattle.sail_base.specs.declared.place.Place.{Place}
use Rattle.sail_types.specs.Limits.{is_length}
use Rattle.sail_types.specs.declared.values.Value.{Value, out-Value}
use Rattle.sail_types.specs.declared.values.Value.TheVariants as Val
use Rattle.model_state.specs.declared.cause.Cause.TheVariants as Stop
use Rattle.sail_core.specs.declared.patterns.Arm.{Arm}
use Rattle.sail_core.specs.declared.targets.Suffix.{Suffix}
use Rattle.sail_core.specs.declared.targets.Way.{Way}
use Rattle.sail_core.specs.declared.targets.Way.TheVariants as Y
use Rattle.sail_core.specs.declared.tree.Core.{Core, roll-Core, fold-roll-Core, map-Core, ind-Core}
use Rattle.sail_core.specs.declared.tree.Kind.{Kind}
use Rattle.sail_core.specs.declared.tree.Kind.TheVariants as K
use Rattle.sail_core.specs.declared.tree.Giver.{Giver}
use Rattle.sail_core.specs.declared.tree.Giver.TheVariants as Gives
use Rattle.sail_core.specs.declared.tree.Statement.{Statement}
use Rattle.sail_core.specs.declared.tree.Statement.TheVariants as T
use Rattle.sail_core.specs.Run as R
use Rattle.sail_core.specs.Run.{Ended, Run, gives, falls, stops, throws, returns, needs, if_so, in_turn, within, local, ◌then◌}
use Rattle.sail_core.specs.Making.{World, plainly, truth, integer, made}
use Rattle.sail_core.specs.Meaning as Means
use Rattle.sail_core.specs.Meaning.{core_meaning, kind_meaning, arm_taken, first_of, let_in, tried, block, suffixes_of, suffix_then, truly}
use Rattle.sail_core.proofs.Sentences.{met_plainly}
use Rattle.sail_core.specs.Targets.{called}
use Rattle.sail_core.specs.Values.{tuple_of, vector_of, list_of, cons_of, with_of, struct_of, field_way, item_way, slice_way}
use Rattle.shape_meanings.specs.Keeping.{Fits, Reach}
use Rattle.shape_progress.specs.Conditions.{index_met, slice_met, width_met, number_met, truth_met, step_met, measure_met}
use Rattle.shape_progress.specs.Checks.{Table, call_met, checked, checked_kind, arm_then, first_arm, let_then}
use Rattle.shape_progress.specs.Checks.{statements, checked_suffix, checked_suffixes, if_met}
use Rattle.shape_progress.specs.Going.{Goes}
use Rattle.shape_progress.specs.Meant.{IsUnmet, AsMeant, Callees, calling, CalledAsMeant, CheckedIsMeant, StuckAtConditions}
use Rattle.shape_progress.proofs.Meant.{itself, then_as, or_as, caught_as, within_as, so_as, met_as, part_as, turn_as, operands_as, foreach_as}
use Rattle.shape_progress.proofs.Meant.{while_as, repeat_as}
use Rattle.shape_progress.proofs.MeantCalls.{called_as}
use Rattle.shape_progress.proofs.MeantPatterns.{let_as, taken_as}
use Rattle.shape_progress.proofs.MeantTargets.{Both, plains, runs, all_as, assigned_as}
use Rattle.shape_progress.proofs.Nodes.{cores_go_on}

-- ---- parts of values

-- what goes on with the parts behind a suffix
abbrev Behind : List Suffix → Type 0
Behind ss = (ps : List Both) (v : Value) → AsMeant (suffixes_of plainly ss (plains ps) v) (checked_suffixes ss (runs ps) v)

way_as : (k : ℕ) (way : Way) (ss : List Suffix) (ps : List Both) (v : Value) → Behind ss
    → AsMeant (suffix_then plainly k way (plains ps) v (suffixes_of plainly ss)) (checked_suffix k way (runs ps) v (checked_suffixes ss))
way_as k (Y.Field i n) ss ps v more =
    then_as (Means.taken plainly k (field_way i n) v []) (Means.taken plainly k (field_way i n) v []) (suffixes_of plainly ss (plains ps))
    (checked_suffixes ss (runs ps)) (itself (Means.taken plainly k (field_way i n) v [])) (more ps)
way_as k Y.Item ss [] v more = λ now. inl refl
way_as k Y.Item ss (a ∷ ps) v more =
    then_as a.plain a.checked _ _ a.meant
    (λ j. met_as (index_met (out-Value j) (out-Value v)) _ _
    (then_as (integer plainly j) (integer plainly j) (λ z. Means.taken plainly k (item_way z) v (j ∷ []) then suffixes_of plainly ss (plains ps))
    (λ z. Means.taken plainly k (item_way z) v (j ∷ []) then checked_suffixes ss (runs ps)) (itself (integer plainly j))
    (λ z. then_as (Means.taken plainly k (item_way z) v (j ∷ [])) (Means.taken plainly k (item_way z) v (j ∷ [])) (suffixes_of plainly ss (plains ps))
    (checked_suffixes ss (runs ps)) (itself (Means.taken plainly k (item_way z) v (j ∷ []))) (more ps))))
way_as k Y.Slice ss [] v more = λ now. inl refl
way_as k Y.Slice ss (a ∷ []) v more = λ now. inl refl
way_as k Y.Slice ss (a ∷ b ∷ ps) v more =
    then_as a.plain a.checked _ _ a.meant
    (λ x. then_as b.plain b.checked _ _ b.meant
    (λ y. met_as (slice_met (out-Value x) (out-Value y) (out-Value v)) _ _
    (then_as (integer plainly x) (integer plainly x)
    (λ hi. integer plainly y then λ lo. Means.taken plainly k (slice_way hi lo) v (x ∷ y ∷ []) then suffixes_of plainly ss (plains ps))
    (λ hi. integer plainly y then λ lo. Means.taken plainly k (slice_way hi lo) v (x ∷ y ∷ []) then checked_suffixes ss (runs ps)) (itself (integer plainly x))
    (λ hi. then_as (integer plainly y) (integer plainly y)
    (λ lo. Means.taken plainly k (slice_way hi lo) v (x ∷ y ∷ []) then suffixes_of plainly ss (plains ps))
    (λ lo. Means.taken plainly k (slice_way hi lo) v (x ∷ y ∷ []) then checked_suffixes ss (runs ps)) (itself (integer plainly y))
    (λ lo. then_as (Means.taken plainly k (slice_way hi lo) v (x ∷ y ∷ [])) (Means.taken plainly k (slice_way hi lo) v (x ∷ y ∷ []))
    (suffixes_of plainly ss (plains ps)) (checked_suffixes ss (runs ps)) (itself (Means.taken plainly k (slice_way hi lo) v (x ∷ y ∷ []))) (more ps))))))

suffixes_as : (ss : List Suffix) → Behind ss
suffixes_as [] [] v = λ now. inl refl
suffixes_as [] (p ∷ ps) v = λ now. inl refl
suffixes_as (suffix ∷ ss) ps v = way_as suffix.number suffix.way ss ps v (suffixes_as ss)

-- ---- steps of several forms

built_as : (k : ℕ) (make : List Value → Option Value) (ps : List Both) → AsMeant (Means.built plainly k (plains ps) make) (Means.built plainly k (runs ps) make)
built_as k make ps =
    then_as (in_turn (plains ps)) (in_turn (runs ps)) (λ xs. needs (make xs) then made plainly k xs) (λ xs. needs (make xs) then made plainly k xs)
    (turn_as (plains ps) (runs ps) (all_as ps)) (λ xs. itself (needs (make xs) then made plainly k xs))

-- a truth leads to one of two pieces
choice_as : (v : Value) (a b c d : Run Value Value) → AsMeant a b → AsMeant c d → AsMeant (truth plainly v then if_so a c) (truth plainly v then if_so b d)
choice_as v a b c d h k = then_as (truth plainly v) (truth plainly v) (if_so a c) (if_so b d) (itself (truth plainly v)) (so_as a b c d h k)

right_as : (a b : Run Value Value) → AsMeant a b → AsMeant (a then truly plainly) (b then truly plainly)
right_as a b h = then_as a b (truly plainly) (truly plainly) h (λ x. itself (truly plainly x))

-- an integer, and what goes on with it
number_as : (v : Value) (f g : ℤ → Run Value Value) → ((z : ℤ) → AsMeant (f z) (g z)) → AsMeant (integer plainly v then f) (integer plainly v then g)
number_as v f g h = then_as (integer plainly v) (integer plainly v) f g (itself (integer plainly v)) h

module _ (t : Table) (w : World Value) (callees : Callees) (fine : CalledAsMeant w callees) where
  -- the world of the checked reading
  abbrev wc : World Value
  wc = calling w callees

  -- ---- arms and statements

  arms_as : (k : ℕ) (arms : List Arm) (ps : List Both) (none : Run Value Value) (vs : List Value)
      → AsMeant (first_of plainly w k arms (plains ps) none vs) (first_arm wc arms (runs ps) none vs)
  arms_as k [] [] none vs = itself none
  arms_as k [] (p ∷ ps) none vs = λ now. inl refl
  arms_as k (arm ∷ arms) [] none vs = λ now. inl refl
  arms_as k (arm ∷ arms) (p ∷ ps) none vs =
      let g : Giver = Gives.Arm k (length arms) in
      or_as (arm_taken plainly w g arm p.plain vs) (arm_then wc arm p.checked vs) (first_of plainly w k arms (plains ps) none vs)
      (first_arm wc arms (runs ps) none vs) (taken_as w callees fine g arm p.plain p.checked p.meant vs) (arms_as k arms ps none vs)

  block_as : (k : ℕ) (ss : List Statement) (ps : List Both) → AsMeant (block plainly w k ss (plains ps)) (statements wc ss (runs ps))
  block_as k [] [] = λ now. inl refl
  block_as k [] (p ∷ []) = p.meant
  block_as k [] (p ∷ q ∷ ps) = λ now. inl refl
  block_as k (T.Evaluate ∷ ss) [] = λ now. inl refl
  block_as k (T.Define place arm ∷ ss) [] = λ now. inl refl
  block_as k (T.Declare name written ∷ ss) [] = λ now. inl refl
  block_as k (T.Evaluate ∷ ss) (p ∷ ps) =
      then_as p.plain p.checked (λ v. block plainly w k ss (plains ps)) (λ v. statements wc ss (runs ps)) p.meant (λ v. block_as k ss ps)
  block_as k (T.Define place arm ∷ ss) (p ∷ ps) =
      let g : Giver = Gives.Arm k (length ss) in
      then_as p.plain p.checked (λ v. let_in plainly w g place arm v (block plainly w k ss (plains ps)))
      (λ v. let_then wc place arm v (statements wc ss (runs ps))) p.meant
      (λ v. let_as w callees fine g place arm (block plainly w k ss (plains ps)) (statements wc ss (runs ps)) (block_as k ss ps) v)
  block_as k (T.Declare name written ∷ ss) (p ∷ ps) =
      then_as p.plain p.checked (λ v. within (local name v ∷ []) (block plainly w k ss (plains ps)))
      (λ v. within (local name v ∷ []) (statements wc ss (runs ps))) p.meant
      (λ v. within_as (local name v ∷ []) (block plainly w k ss (plains ps)) (statements wc ss (runs ps)) (block_as k ss ps))

  -- ---- all kinds

  kind_as : (place : Place) (k : ℕ) (kind : Kind) (ps : List Both)
      → AsMeant (kind_meaning plainly w place k kind (plains ps)) (checked_kind t wc place k kind (runs ps))
  kind_as place k (K.Constant literal) [] = λ now. inl refl
  kind_as place k (K.Local name) [] = λ now. inl refl
  kind_as place k (K.Variable name) [] = λ now. inl refl
  kind_as place k (K.TopLevel i) [] = λ now. inl refl
  kind_as place k (K.Register r) [] = λ now. inl refl
  kind_as place k (K.Call callee) ps =
      operands_as (call_met t callee) (plains ps) (runs ps) (called plainly w place k callee) (called plainly wc place k callee) (all_as ps)
      (called_as w callees fine place k callee)
  kind_as place k K.And (a ∷ b ∷ []) =
      then_as a.plain a.checked _ _ a.meant
      (λ x. choice_as x (b.plain then truly plainly) (b.checked then truly plainly) (gives x) (gives x) (right_as b.plain b.checked b.meant) (itself (gives x)))
  kind_as place k K.Or (a ∷ b ∷ []) =
      then_as a.plain a.checked _ _ a.meant
      (λ x. choice_as x (gives x) (gives x) (b.plain then truly plainly) (b.checked then truly plainly) (itself (gives x)) (right_as b.plain b.checked b.meant))
  kind_as place k (K.Cast written) (a ∷ []) =
      then_as a.plain a.checked (λ x. made plainly k (x ∷ []) x) (λ x. made plainly k (x ∷ []) x) a.meant (λ x. itself (made plainly k (x ∷ []) x))
  kind_as place k K.Tuple ps = built_as k tuple_of ps
  kind_as place k (K.Vector of) ps =
      operands_as (λ vs. is_length (length vs)) (plains ps) (runs ps) (λ xs. needs (vector_of xs) then made plainly k xs)
      (λ xs. needs (vector_of xs) then made plainly k xs) (all_as ps) (λ xs. itself (needs (vector_of xs) then made plainly k xs))
  kind_as place k (K.List of) ps = built_as k list_of ps
  kind_as place k (K.Cons of) ps = built_as k cons_of ps
  kind_as place k (K.Struct i places) ps = built_as k (struct_of i places) ps
  kind_as place k (K.With i places) ps = built_as k (with_of i places) ps
  kind_as place k (K.Part suffixes) (a ∷ ps) =
      then_as a.plain a.checked (suffixes_of plainly suffixes (plains ps)) (checked_suffixes suffixes (runs ps)) a.meant (suffixes_as suffixes ps)
  kind_as place k K.WithItem (a ∷ b ∷ c ∷ []) =
      then_as a.plain a.checked _ _ a.meant
      (λ v. then_as b.plain b.checked _ _ b.meant
      (λ i. number_as i (λ z. c.plain then Means.put plainly k (item_way z) v (i ∷ []))
      (λ z. if_met (λ new. index_met (out-Value i) (out-Value v)) c.checked then Means.put plainly k (item_way z) v (i ∷ []))
      (λ z. then_as c.plain (if_met (λ new. index_met (out-Value i) (out-Value v)) c.checked) (Means.put plainly k (item_way z) v (i ∷ []))
      (Means.put plainly k (item_way z) v (i ∷ [])) (part_as (λ new. index_met (out-Value i) (out-Value v)) c.plain c.checked c.meant)
      (λ u. itself (Means.put plainly k (item_way z) v (i ∷ []) u)))))
  kind_as place k K.WithSlice (a ∷ b ∷ c ∷ d ∷ []) =
      then_as a.plain a.checked _ _ a.meant
      (λ v. then_as b.plain b.checked _ _ b.meant
      (λ x. then_as c.plain c.checked _ _ c.meant
      (λ y. number_as x _ _
      (λ hi. number_as y _ _
      (λ lo. then_as d.plain _ (Means.put plainly k (slice_way hi lo) v (x ∷ y ∷ [])) (Means.put plainly k (slice_way hi lo) v (x ∷ y ∷ []))
      (part_as (λ u. slice_met (out-Value x) (out-Value y) (out-Value v) && width_met (out-Value x) (out-Value y) (out-Value u)) d.plain d.checked d.meant)
      (λ u. itself (Means.put plainly k (slice_way hi lo) v (x ∷ y ∷ []) u)))))))
  kind_as place k (K.SizeOf number numbers) [] =
      met_as (number_met w.numbers number) (kind_meaning plainly w place k (K.SizeOf number numbers) [])
      (kind_meaning plainly w place k (K.SizeOf number numbers) []) (itself (kind_meaning plainly w place k (K.SizeOf number numbers) []))
  kind_as place k (K.Constraint c numbers) [] =
      met_as (truth_met w.numbers c) (kind_meaning plainly w place k (K.Constraint c numbers) [])
      (kind_meaning plainly w place k (K.Constraint c numbers) []) (itself (kind_meaning plainly w place k (K.Constraint c numbers) []))
  kind_as place k (K.Assign targets) ps = assigned_as t w callees fine targets ps
  kind_as place k (K.Block ss) ps = block_as k ss ps
  kind_as place k (K.Let arm) (a ∷ b ∷ []) =
      then_as a.plain a.checked (λ v. let_in plainly w (Gives.Arm k 0) place arm v b.plain) (λ v. let_then wc place arm v b.checked) a.meant
      (λ v. let_as w callees fine (Gives.Arm k 0) place arm b.plain b.checked b.meant v)
  kind_as place k (K.Var name written) (a ∷ b ∷ []) =
      then_as a.plain a.checked (λ v. within (local name v ∷ []) b.plain) (λ v. within (local name v ∷ []) b.checked) a.meant
      (λ v. within_as (local name v ∷ []) b.plain b.checked b.meant)
  kind_as place k (K.If of) (a ∷ b ∷ []) =
      then_as a.plain a.checked _ _ a.meant (λ x. choice_as x b.plain b.checked (gives Val.Unit) (gives Val.Unit) b.meant (itself (gives Val.Unit)))
  kind_as place k (K.If of) (a ∷ b ∷ c ∷ []) =
      then_as (a.plain then λ x. truth plainly x then if_so b.plain c.plain) (a.checked then λ x. truth plainly x then if_so b.checked c.checked)
      (λ x. made plainly k (Val.Unit ∷ []) x) (λ x. made plainly k (Val.Unit ∷ []) x)
      (then_as a.plain a.checked _ _ a.meant (λ x. choice_as x b.plain b.checked c.plain c.checked b.meant c.meant))
      (λ x. itself (made plainly k (Val.Unit ∷ []) x))
  kind_as place k (K.Match arms of) (a ∷ ps) =
      subst (λ (r : Run Value Value). AsMeant r (checked_kind t wc place k (K.Match arms of) (runs (a ∷ ps))))
      (sym (met_plainly k (a.plain then λ v. first_of plainly w k arms (plains ps) (stops (Stop.MatchFailure place)) (v ∷ []))))
      (then_as a.plain a.checked _ _ a.meant (λ v. arms_as k arms ps (stops (Stop.MatchFailure place)) (v ∷ [])))
  kind_as place k (K.Try arms of) (a ∷ ps) =
      subst (λ (r : Run Value Value). AsMeant r (checked_kind t wc place k (K.Try arms of) (runs (a ∷ ps))))
      (sym (met_plainly k (tried plainly w k arms (plains ps) a.plain)))
      (λ now. caught_as (a.plain now) (a.checked now) (λ v. first_of plainly w k arms (plains ps) (throws v) (v ∷ []))
      (λ v. first_arm wc arms (runs ps) (throws v) (v ∷ [])) (a.meant now) (λ v. arms_as k arms ps (throws v) (v ∷ [])))
  kind_as place k (K.Clauses arms) ps = arms_as k arms ps falls w.arguments
  kind_as place k K.When (a ∷ b ∷ []) =
      then_as a.plain a.checked _ _ a.meant (λ x. choice_as x b.plain b.checked falls falls b.meant (itself falls))
  kind_as place k (K.Foreach name way) (a ∷ b ∷ c ∷ body ∷ []) =
      then_as a.plain a.checked _ _ a.meant
      (λ x. number_as x _ _
      (λ from. then_as b.plain b.checked _ _ b.meant
      (λ y. number_as y _ _
      (λ to. then_as c.plain _ _ _ (part_as (λ v. step_met (out-Value v)) c.plain c.checked c.meant)
      (λ u. number_as u _ _ (λ by. foreach_as name way from to by body.plain body.checked body.meant))))))
  kind_as place k K.While (m ∷ c ∷ b ∷ []) = λ now.
      while_as now (suc now.ticks) place m.plain c.plain b.plain (if_met (λ v. measure_met (out-Value v)) m.checked) c.checked b.checked None
      (part_as (λ v. measure_met (out-Value v)) m.plain m.checked m.meant) c.meant b.meant now
  kind_as place k K.Repeat (m ∷ b ∷ c ∷ []) = λ now.
      repeat_as now (suc now.ticks) place m.plain b.plain c.plain (if_met (λ v. measure_met (out-Value v)) m.checked) b.checked c.checked None
      (part_as (λ v. measure_met (out-Value v)) m.plain m.checked m.meant) b.meant c.meant now
  kind_as place k K.Return (a ∷ []) = then_as a.plain a.checked (λ v. returns v) (λ v. returns v) a.meant (λ v now. inl refl)
  kind_as place k K.Throw (a ∷ []) = then_as a.plain a.checked (λ v. throws v) (λ v. throws v) a.meant (λ v now. inl refl)
  kind_as place k K.Exit (a ∷ []) = then_as a.plain a.checked (λ v. stops (Stop.Exit place)) (λ v. stops (Stop.Exit place)) a.meant (λ v now. inl refl)
  kind_as place k (K.Assert text) (a ∷ []) =
      then_as a.plain a.checked _ _ a.meant (λ x. itself (truth plainly x then if_so (gives Val.Unit) (stops (Stop.Assertion place text))))
  kind_as place k (K.Optional of) (a ∷ []) =
      or_as (a.plain then λ x. gives (Val.Union 0 0 x)) (a.checked then λ x. gives (Val.Union 0 0 x)) (gives (Val.Union 0 1 Val.Unit))
      (gives (Val.Union 0 1 Val.Unit))
      (then_as a.plain a.checked (λ x. gives (Val.Union 0 0 x)) (λ x. gives (Val.Union 0 0 x)) a.meant (λ x. itself (gives (Val.Union 0 0 x))))
      (itself (gives (Val.Union 0 1 Val.Unit)))
  kind_as place k kind ps = λ now. inl refl

  -- ---- cores

  Such : Core → Type 0
  Such c = AsMeant (core_meaning w c) (checked t wc c)

  both : (y : (c : Core) × Such c) → Both
  unfolding Such
  both y = record { plain = core_meaning w y.0; checked = checked t wc y.0; meant = y.1 }

  plain_parts : (ys : List ((c : Core) × Such c)) → map (core_meaning w) (map (λ y. y.0) ys) ≡ plains (map both ys)
  unfolding both
  plain_parts [] = refl
  plain_parts (y ∷ ys) = ap (λ rs. core_meaning w y.0 ∷ rs) (plain_parts ys)

  checked_parts : (ys : List ((c : Core) × Such c)) → map (checked t wc) (map (λ y. y.0) ys) ≡ runs (map both ys)
  unfolding both
  checked_parts [] = refl
  checked_parts (y ∷ ys) = ap (λ rs. checked t wc y.0 ∷ rs) (checked_parts ys)

  core_as : (c : Core) → AsMeant (core_meaning w c) (checked t wc c)
  unfolding Such
  core_as = ind-Core Such (λ c y is. subst (λ d. Such (roll-Core d)) is (
      subst (λ (r : Run Value Value). AsMeant r (checked t wc (roll-Core (map-Core ((c : Core) × Such c) Core (λ q. q.0) y))))
      (sym (fold-roll-Core (Run Value Value) (λ d. kind_meaning plainly w d.place d.number d.kind d.parts)
      (map-Core ((c : Core) × Such c) Core (λ q. q.0) y)))
      (subst (λ (r : Run Value Value). AsMeant
      (kind_meaning plainly w y.place y.number y.kind (map (core_meaning w) (map (λ q. q.0) y.parts))) r)
      (sym (fold-roll-Core (Run Value Value) (λ d. checked_kind t wc d.place d.number d.kind d.parts) (map-Core ((c : Core) × Such c) Core (λ q. q.0) y)))
      (subst (λ (rs : List (Run Value Value)). AsMeant (kind_meaning plainly w y.place y.number y.kind rs)
      (checked_kind t wc y.place y.number y.kind (map (checked t wc) (map (λ q. q.0) y.parts)))) (sym (plain_parts y.parts))
      (subst (λ (rs : List (Run Value Value)). AsMeant (kind_meaning plainly w y.place y.number y.kind (plains (map both y.parts)))
      (checked_kind t wc y.place y.number y.kind rs)) (sym (checked_parts y.parts)) (kind_as y.place y.number y.kind (map both y.parts)))))))

pub checked_is_meant : CheckedIsMeant
checked_is_meant t w callees fine c = core_as t w callees fine c

-- ---- both

stuck_goes : (reach : Reach) (w : World Value) (Q : Value → Type 0) (e d : Ended Value Value) → (d ≡ e) ⊎ IsUnmet d → Goes reach w Q d → e ≡ R.Stuck → IsUnmet d
stuck_goes reach w Q e d (inl same) g is = absurd (subst (Goes reach w Q) (same ∙ is) g)
stuck_goes reach w Q e d (inr u) g is = u

pub stuck_at_conditions : StuckAtConditions
stuck_at_conditions n t w callees fine reach s c now same h ready is =
    stuck_goes reach (calling w callees) (λ v. Fits reach.types reach.choice s v) (core_meaning w c now) (checked t (calling w callees) c now)
    (checked_is_meant t w callees fine c now) (cores_go_on n t (calling w callees) reach s c same h now ready) is
