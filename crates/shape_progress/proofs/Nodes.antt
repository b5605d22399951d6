-- Each form by its rule goes on, over parts that do; and so each core, by induction on the depth of its derivation.
use Rattle.std.proofs.Common.{◌≡◌, inl, inr, ℕ, zero, suc, List, [], ◌∷◌, map, length, reverse, ◌++◌, ap, sym, refl, subst}
use Rattle.std.proofs.Common.{Bool, true, false, not, ◌&&◌, ◌||◌, Option, Some, None, option_map, slice_get, if◌then◌else◌}
use Rattle.std.proofs.lemmas.Bool.{and_parts}
use Rattle.std.specs.List.{list_all}
use Rattle.sail_base.specs.declared.place.Place.{Place}
use Rattle.sail_types.specs.Limits.{is_length}
use Rattle.sail_types.specs.Shapes.{at, fits, each_fits, put, shape, Asked}
use Rattle.sail_types.specs.declared.shapes.Shape.{Shape}
use Rattle.sail_types.specs.declared.shapes.Shape.TheOpen as S
use Rattle.sail_types.specs.declared.shapes.Shape.TheVariants as V
use Rattle.sail_types.specs.declared.values.Value.{Value, out-Value}
use Rattle.sail_types.specs.declared.values.Value.TheOpen as W
use Rattle.sail_types.specs.declared.values.Value.TheVariants as Val
use Rattle.model_state.specs.declared.cause.Cause.TheVariants.{MatchFailure, Exit, Assertion}
use Rattle.sail_core.specs.declared.patterns.Arm.{Arm}
use Rattle.sail_core.specs.declared.targets.Suffix.{Suffix}
use Rattle.sail_core.specs.declared.targets.Way.{Way}
use Rattle.sail_core.specs.declared.targets.Way.TheVariants as Y
use Rattle.sail_core.specs.declared.tree.Callee.{Callee}
use Rattle.sail_core.specs.declared.tree.Core.{Core, out-Core, fold_out-Core}
use Rattle.sail_core.specs.declared.tree.Kind.{Kind}
use Rattle.sail_core.specs.declared.tree.Kind.TheVariants as K
use Rattle.sail_core.specs.declared.tree.Statement.{Statement}
use Rattle.sail_core.specs.declared.tree.Statement.TheVariants as T
use Rattle.sail_core.specs.Run.{Run, gives, falls, stops, throws, returns, needs, if_so, in_turn, within, local, held_in, ◌then◌}
use Rattle.sail_core.specs.Making.{World, plainly, truth, made}
use Rattle.sail_core.specs.Meaning as Means
use Rattle.sail_core.specs.Meaning.{taken, truly}
use Rattle.sail_core.specs.Numbers.{known, known_truth}
use Rattle.sail_core.specs.Targets.{called}
use Rattle.sail_core.specs.Values.{Into, literal_value, vector_of, cons_of, with_of, struct_of, form_items, field_way, item_way, slice_way}
use Rattle.shape_joins.proofs.Order.{no, two}
use Rattle.shape_rules.specs.declared.locals.Local.{Local}
use Rattle.shape_rules.specs.Scopes.{constant, variable}
use Rattle.shape_meanings.specs.Keeping.{FitAll, Suits, Reach, Answers}
use Rattle.shape_meanings.proofs.Groups.{AllFit}
use Rattle.shape_meanings.proofs.Runs.{in_scope}
use Rattle.shape_meanings.proofs.Settling.{form_has}
use Rattle.shape_meanings.proofs.Values.{widens}
use Rattle.shape_meanings.proofs.Vectors.{reversed_fit}
use Rattle.shape_progress.specs.Conditions.{is_there, given_in, truth_given, index_met, slice_met, width_met, step_met, measure_met}
use Rattle.shape_progress.specs.Checks.{Table, call_met, checked, checked_kind, checked_suffix, checked_suffixes, checked_arm, arm_then, first_arm, let_then}
use Rattle.shape_progress.specs.Checks.{statements, if_met, where_met}
use Rattle.shape_progress.specs.Going.{GoesOn, Has, under}
use Rattle.shape_progress.specs.PatternRules.{ArmBinds}
use Rattle.shape_progress.specs.Rules.{Rule, EachHas, IsUnreached, NeverGives, SuffixesHave, ArmsHave, BlockHas, KindHas, IsShaped, CoresGoOn}
use Rattle.shape_progress.specs.TargetRules.{AllHave, Takes, WayLeads}
use Rattle.shape_progress.proofs.Runs.{then_goes, or_goes, caught_goes, goes_as, gives_goes, needs_goes, met_goes, within_goes}
use Rattle.shape_progress.proofs.Forms.{is_list, unit_fits, integer_fits, truth_fits, met_of}
use Rattle.shape_progress.proofs.Structs.{with_of_leads, struct_leads}
use Rattle.shape_progress.proofs.Ways.{Leads, item_leads, item_takes, slice_leads, slice_takes, field_leads}
use Rattle.shape_progress.proofs.Parts.{F, truth_goes, choice_goes, integer_then, turn_both, turn_each, operands_go, part_met, foreach_goes}
use Rattle.shape_progress.proofs.Parts.{while_goes, repeat_goes}
use Rattle.shape_progress.proofs.Aims.{assigned_go}
use Rattle.shape_progress.proofs.Callees.{callee_goes}
use Rattle.shape_progress.proofs.Names.{after_made, local_goes, register_goes, variable_goes}
use Rattle.shape_progress.proofs.Patterns.{arms_go_on}

-- the right side of `&` and `|`, tested
tested : (reach : Reach) (w : World Value) (b : Run Value Value) → Has reach w V.Bool b → GoesOn reach w (F reach w V.Bool) (b then truly plainly)
tested reach w b h =
    then_goes reach w (F reach w V.Bool) (F reach w V.Bool) b (truly plainly) h
    (λ x fit. then_goes reach w (λ (t : Bool). Unit {0}) (F reach w V.Bool) (truth plainly x) (λ t. gives x) (truth_goes reach w x fit)
    (λ t u. gives_goes reach w (F reach w V.Bool) x fit))

known_there : {A : Type 0} (reach : Reach) (w : World Value) (s : Shape) (o : Option A) (f : A → Value) → ((x : A) → F reach w s (f x)) → is_there o ≡ true
    → GoesOn reach w (F reach w s) (needs o then λ x. gives (f x))
known_there reach w s None f h there = no there
known_there reach w s (Some x) f h there = λ now ready. (h x, ready)

-- a number over type variables that stand for some
known_goes : {A : Type 0} (reach : Reach) (w : World Value) (s : Shape) (given : Bool) (o : Option A) (f : A → Value) → given ≡ true
    → ((x : A) → F reach w s (f x)) → GoesOn reach w (F reach w s) (where_met (not given || is_there o) (needs o then λ x. gives (f x)))
known_goes reach w s given o f is h =
    met_goes reach w (F reach w s) (not given || is_there o) (needs o then λ x. gives (f x))
    (λ met. known_there reach w s o f h (met_of given (is_there o) is met))

is_shape : (reach : Reach) (w : World Value) (s q : Shape) (r : Run Value Value) → s ≡ q → Has reach w q r → Has reach w s r
is_shape reach w s q r e h = subst (λ x. Has reach w x r) (sym e) h

-- what a way takes out, and what goes on with it
taken_then : (reach : Reach) (w : World Value) (s q : Shape) (k : ℕ) (way : Into) (x : Value) (xs : List Value) (f : Value → Run Value Value)
    → Leads reach.types reach.choice q (way.take_out x) → ((u : Value) → F reach w q u → GoesOn reach w (F reach w s) (f u))
    → GoesOn reach w (F reach w s) (taken plainly k way x xs then f)
taken_then reach w s q k way x xs f leads h =
    then_goes reach w (F reach w q) (F reach w s) (taken plainly k way x xs) f
    (then_goes reach w (F reach w q) (F reach w q) (needs (way.take_out x)) (λ v. made plainly k (x ∷ xs) v)
    (needs_goes reach w (F reach w q) (way.take_out x) leads.0 leads.1 leads.2) (λ v fit. gives_goes reach w (F reach w q) v fit)) h

module _ (t : Table) (w : World Value) (P : Rule)
    (sound : (reach : Reach) → t.types ≡ reach.types → (s : Shape) (c : Core) → P reach s c → Has reach w s (checked t w c)) where
  abbrev runs : List Core → List (Run Value Value)
  runs cs = map (checked t w) cs

  all_go : (reach : Reach) → t.types ≡ reach.types → (ss : List Shape) (cs : List Core) → AllHave (P reach) ss cs
      → GoesOn reach w (FitAll reach.types reach.choice ss) (in_turn (runs cs))
  all_go reach same [] [] h = gives_goes reach w (FitAll reach.types reach.choice []) [] refl
  all_go reach same [] (c ∷ cs) h = absurd h
  all_go reach same (s ∷ ss) [] h = absurd h
  all_go reach same (s ∷ ss) (c ∷ cs) h = turn_both reach w s ss (checked t w c) (runs cs) (sound reach same s c h.0) (all_go reach same ss cs h.1)

  each_goes : (reach : Reach) → t.types ≡ reach.types → (s : Shape) (cs : List Core) → EachHas (P reach) s cs
      → GoesOn reach w (AllFit reach.types reach.choice s) (in_turn (runs cs))
  each_goes reach same s [] h = gives_goes reach w (AllFit reach.types reach.choice s) [] refl
  each_goes reach same s (c ∷ cs) h =
      turn_each reach w s (checked t w c) (runs cs) (sound reach same s c h.0) (each_goes reach same s cs h.1)

  -- ---- parts of values

  abbrev More : Reach → Shape → List Suffix → Type 0
  More reach s ss =
      (ds : List Core) (q : Shape) (u : Value) → SuffixesHave reach (P reach) ss ds q s → F reach w q u
      → GoesOn reach w (F reach w s) (checked_suffixes ss (runs ds) u)

  way_goes : (reach : Reach) → t.types ≡ reach.types → (k : ℕ) (way : Way) (ss : List Suffix) (cs : List Core) (s q : Shape) (v : Value) → More reach s ss
      → WayLeads reach.types (P reach) way cs q (λ ds u. SuffixesHave reach (P reach) ss ds u s) → F reach w q v
      → GoesOn reach w (F reach w s) (checked_suffix k way (runs cs) v (checked_suffixes ss))
  way_goes reach same k (Y.Field i n) ss cs s q v more h fit =
      taken_then reach w s (put (at h.0) (shape h.2)) k (field_way i n) v [] (checked_suffixes ss (runs cs))
      (field_leads reach.types reach.choice q i n h.0 h.1 h.2 v h.3 h.4 h.5 fit)
      (λ u fu. more cs (put (at h.0) (shape h.2)) u h.6 fu)
  way_goes reach same k Y.Item ss (i ∷ cs) s q v more h fit =
      then_goes reach w (F reach w V.Int) (F reach w s) (checked t w i) _ (sound reach same V.Int i h.0)
      (λ j fj. met_goes reach w (F reach w s) (index_met (out-Value j) (out-Value v)) _
      (λ met. integer_then reach w (F reach w s) j _ fj
      (λ z at_z. taken_then reach w s h.1.0 k (item_way z) v (j ∷ []) (checked_suffixes ss (runs cs))
      (item_leads reach.types reach.choice q h.1.0 j v z h.1.1 at_z fit met) (λ u fu. more cs h.1.0 u h.1.2 fu))))
  way_goes reach same k Y.Slice ss (a ∷ b ∷ cs) s q v more h fit =
      then_goes reach w (F reach w V.Int) (F reach w s) (checked t w a) _ (sound reach same V.Int a h.0)
      (λ x fx. then_goes reach w (F reach w V.Int) (F reach w s) (checked t w b) _ (sound reach same V.Int b h.1)
      (λ y fy. met_goes reach w (F reach w s) (slice_met (out-Value x) (out-Value y) (out-Value v)) _
      (λ met. integer_then reach w (F reach w s) x _ fx
      (λ hi at_hi. integer_then reach w (F reach w s) y _ fy
      (λ lo at_lo. taken_then reach w s V.Bits k (slice_way hi lo) v (x ∷ y ∷ []) (checked_suffixes ss (runs cs))
      (slice_leads reach.types reach.choice q x y v hi lo h.2 at_hi at_lo fit met) (λ u fu. more cs V.Bits u h.3 fu))))))
  way_goes reach same k Y.Item ss [] s q v more h fit = absurd h
  way_goes reach same k Y.Slice ss [] s q v more h fit = absurd h
  way_goes reach same k Y.Slice ss (a ∷ []) s q v more h fit = absurd h

  suffixes_go : (reach : Reach) → t.types ≡ reach.types → (s : Shape) (ss : List Suffix) → More reach s ss
  suffixes_go reach same s [] [] q v (inl is) fit = gives_goes reach w (F reach w s) v (subst (λ x. F reach w x v) is fit)
  suffixes_go reach same s [] [] q v (inr e) fit = absurd (e v fit)
  suffixes_go reach same s [] (c ∷ cs) q v h fit = absurd (h v fit)
  suffixes_go reach same s (suffix ∷ ss) cs q v h fit =
      way_goes reach same suffix.number suffix.way ss cs s q v (suffixes_go reach same s ss) h fit

  -- a part that no value is
  never_goes : (reach : Reach) → t.types ≡ reach.types → (s : Shape) (a : Core) (next : Value → Run Value Value) → NeverGives P reach a
      → GoesOn reach w (F reach w s) (checked t w a then next)
  never_goes reach same s a next e =
      then_goes reach w (F reach w e.0) (F reach w s) (checked t w a) next (sound reach same e.0 a e.1) (λ v fit. absurd (e.2 v fit))

  -- ---- arms and statements

  arm_goes : (reach : Reach) → t.types ≡ reach.types → (n : ℕ) (ss : List Shape) (binds : List Local) (s : Shape) (arm : Arm) (body : Run Value Value)
      → ArmBinds n reach w ss binds arm → Has (under reach binds) w s body → (vs : List Value) → FitAll reach.types reach.choice ss vs
      → GoesOn reach w (F reach w s) (arm_then w arm body vs)
  arm_goes reach same n ss binds s arm body h k vs fit =
      then_goes reach w (Suits reach.types reach.choice binds) (F reach w s) (checked_arm w arm vs) (λ found. within found body)
      (arms_go_on n reach w ss binds arm h vs fit) (λ found suits. within_goes reach w (F reach w s) binds found body suits k)

  arms_go : (reach : Reach) → t.types ≡ reach.types → (ss : List Shape) (s : Shape) (arms : List Arm) (cs : List Core) (none : Run Value Value)
      → GoesOn reach w (F reach w s) none → ArmsHave P w reach ss s arms cs → (vs : List Value) → FitAll reach.types reach.choice ss vs
      → GoesOn reach w (F reach w s) (first_arm w arms (runs cs) none vs)
  arms_go reach same ss s [] [] none hn h vs fit = hn
  arms_go reach same ss s [] (c ∷ cs) none hn h vs fit = absurd h
  arms_go reach same ss s (arm ∷ arms) [] none hn h vs fit = absurd h
  arms_go reach same ss s (arm ∷ arms) (c ∷ cs) none hn h vs fit =
      or_goes reach w (F reach w s) (arm_then w arm (checked t w c) vs) (first_arm w arms (runs cs) none vs)
      (arm_goes reach same h.0.0 ss h.0.1 s arm (checked t w c) h.0.2 (sound (under reach h.0.1) same s c h.0.3) vs fit)
      (arms_go reach same ss s arms cs none hn h.1 vs fit)

  one_fits : (reach : Reach) (q : Shape) (v : Value) → F reach w q v → FitAll reach.types reach.choice (q ∷ []) (v ∷ [])
  one_fits reach q v fit = two (fits reach.types v (put reach.choice q)) true fit refl

  let_goes : (reach : Reach) → t.types ≡ reach.types → (n : ℕ) (q s : Shape) (binds : List Local) (place : Place) (arm : Arm) (body : Run Value Value)
      → ArmBinds n reach w (q ∷ []) binds arm → Has (under reach binds) w s body → (v : Value) → F reach w q v
      → GoesOn reach w (F reach w s) (let_then w place arm v body)
  let_goes reach same n q s binds place arm body h k v fit =
      or_goes reach w (F reach w s) (arm_then w arm body (v ∷ [])) (stops (MatchFailure place))
      (arm_goes reach same n (q ∷ []) binds s arm body h k (v ∷ []) (one_fits reach q v fit)) (λ now ready. tt)

  block_goes : (reach : Reach) → t.types ≡ reach.types → (s : Shape) (ss : List Statement) (cs : List Core) → BlockHas P w reach s ss cs
      → GoesOn reach w (F reach w s) (statements w ss (runs cs))
  block_goes reach same s [] [] h = is_shape reach w s V.Unit (gives Val.Unit) h (gives_goes reach w (F reach w V.Unit) Val.Unit
      (unit_fits reach.types reach.choice))
  block_goes reach same s [] (c ∷ []) h = sound reach same s c h
  block_goes reach same s [] (c ∷ d ∷ cs) h = absurd h
  block_goes reach same s (T.Evaluate ∷ ss) [] h = absurd h
  block_goes reach same s (T.Define place arm ∷ ss) [] h = absurd h
  block_goes reach same s (T.Declare name written ∷ ss) [] h = absurd h
  block_goes reach same s (T.Evaluate ∷ ss) (c ∷ cs) h =
      then_goes reach w (F reach w h.0.0) (F reach w s) (checked t w c) (λ v. statements w ss (runs cs)) (sound reach same h.0.0 c h.0.1)
      (λ v fit. block_goes reach same s ss cs h.1)
  block_goes reach same s (T.Define place arm ∷ ss) (c ∷ cs) h =
      then_goes reach w (F reach w h.0) (F reach w s) (checked t w c) (λ v. let_then w place arm v (statements w ss (runs cs))) (sound reach same h.0 c h.3)
      (λ v fit. let_goes reach same h.1 h.0 s h.2 place arm (statements w ss (runs cs)) h.4 (block_goes (under reach h.2) same s ss cs h.5) v fit)
  block_goes reach same s (T.Declare name written ∷ ss) (c ∷ cs) h =
      then_goes reach w (F reach w h.0) (F reach w s) (checked t w c) (λ v. within (local name v ∷ []) (statements w ss (runs cs))) (sound reach same h.0 c h.1)
      (λ v fit. within_goes reach w (F reach w s) (variable name h.0 ∷ []) (local name v ∷ []) (statements w ss (runs cs)) (refl, fit, tt)
      (block_goes (under reach (variable name h.0 ∷ [])) same s ss cs h.2))

  -- ---- calls

  call_goes : (reach : Reach) → t.types ≡ reach.types → (s : Shape) (place : Place) (k : ℕ) (callee : Callee) (cs : List Core) (ss : List Shape)
      → AllHave (P reach) ss cs → Takes w reach ss (Some s) callee → Has reach w s (checked_kind t w place k (K.Call callee) (runs cs))
  call_goes reach same s place k callee cs ss h takes =
      operands_go reach w (FitAll reach.types reach.choice ss) (F reach w s) (call_met t callee) (runs cs) (called plainly w place k callee)
      (all_go reach same ss cs h) (λ vs fit met. callee_goes t w reach same ss (Some s) place k callee vs takes fit met)

  -- ---- all kinds

  put_goes : (reach : Reach) (s : Shape) (k : ℕ) (way : Into) (x : Value) (is : List Value) (y : Value) → Leads reach.types reach.choice s (way.put_in x y)
      → GoesOn reach w (F reach w s) (Means.put plainly k way x is y)
  put_goes reach s k way x is y leads =
      then_goes reach w (F reach w s) (F reach w s) (needs (way.put_in x y)) (λ v. made plainly k (x ∷ is ++ y ∷ []) v)
      (needs_goes reach w (F reach w s) (way.put_in x y) leads.0 leads.1 leads.2) (λ v fit. gives_goes reach w (F reach w s) v fit)

  cons_goes : (reach : Reach) (q : Shape) (vs : List Value) → FitAll reach.types reach.choice (q ∷ V.List q ∷ []) vs
      → Leads reach.types reach.choice (V.List q) (cons_of vs)
  cons_goes reach q [] fit = no fit
  cons_goes reach q (v ∷ []) fit = no (and_parts (fits reach.types v (put reach.choice q)) false fit).1
  cons_goes reach q (v ∷ u ∷ x ∷ us) fit =
      no (and_parts (fits reach.types u (put reach.choice (V.List q))) false
      (and_parts (fits reach.types v (put reach.choice q)) (fits reach.types u (put reach.choice (V.List q)) && false) fit).1).1
  cons_goes reach q (v ∷ u ∷ []) fit =
      let first = and_parts (fits reach.types v (put reach.choice q)) (each_fits (fits reach.types u ∷ []) (put reach.choice (V.List q) ∷ [])) fit in
      let l = is_list reach.types reach.choice q u (and_parts (fits reach.types u (put reach.choice (V.List q))) true first.1).0 in (
        Val.List (v ∷ l.0),
        ap (λ x. option_map (λ vs. Val.List (v ∷ vs)) (form_items x)) l.1,
        form_has reach.types reach.choice (W.List (v ∷ l.0)) (S.List q) (Val.List (v ∷ l.0)) (V.List q) (Val.rolls-List (v ∷ l.0)) (V.rolls-List q)
            (two (fits reach.types v (put reach.choice q)) (list_all (λ (f : Asked). f (put reach.choice q)) (map (fits reach.types) l.0)) first.0 l.2),
      )

  made_of : (reach : Reach) (s : Shape) (k : ℕ) (make : List Value → Option Value) (vs : List Value) → Leads reach.types reach.choice s (make vs)
      → GoesOn reach w (F reach w s) (needs (make vs) then made plainly k vs)
  made_of reach s k make vs leads =
      then_goes reach w (F reach w s) (F reach w s) (needs (make vs)) (made plainly k vs)
      (needs_goes reach w (F reach w s) (make vs) leads.0 leads.1 leads.2) (λ v fit. gives_goes reach w (F reach w s) v fit)

  kind_goes : (reach : Reach) → t.types ≡ reach.types → (s : Shape) (place : Place) (k : ℕ) (kind : Kind) (cs : List Core)
      → KindHas P w reach s kind cs → Has reach w s (checked_kind t w place k kind (runs cs))
  kind_goes reach same s place k (K.Constant literal) [] h = gives_goes reach w (F reach w s) (literal_value literal) h
  kind_goes reach same s place k (K.Local name) [] h = λ now ready.
      after_made reach w s (needs (held_in name now.locals) now) k (λ x. x ∷ []) (local_goes reach w s name h.0 h.1 h.2 now ready)
  kind_goes reach same s place k (K.Variable name) [] h = variable_goes reach w s k name h.0 h.1 h.2
  kind_goes reach same s place k (K.TopLevel i) [] h =
      then_goes reach w (F reach w s) (F reach w s) (needs (slice_get w.lets i)) (λ v. made plainly k [] v)
      (needs_goes reach w (F reach w s) (slice_get w.lets i) h.0 h.1 h.2) (λ v fit. gives_goes reach w (F reach w s) v fit)
  kind_goes reach same s place k (K.Register r) [] h = register_goes reach w s k r h
  kind_goes reach same s place k (K.Call callee) cs h = call_goes reach same s place k callee cs h.0 h.1 h.2
  kind_goes reach same s place k K.And (a ∷ b ∷ []) h =
      is_shape reach w s V.Bool _ h.0 (then_goes reach w (F reach w V.Bool) (F reach w V.Bool) (checked t w a) _ (sound reach same V.Bool a h.1)
      (λ x fit. choice_goes reach w (F reach w V.Bool) x (checked t w b then truly plainly) (gives x) fit
      (tested reach w (checked t w b) (sound reach same V.Bool b h.2)) (gives_goes reach w (F reach w V.Bool) x fit)))
  kind_goes reach same s place k K.Or (a ∷ b ∷ []) h =
      is_shape reach w s V.Bool _ h.0 (then_goes reach w (F reach w V.Bool) (F reach w V.Bool) (checked t w a) _ (sound reach same V.Bool a h.1)
      (λ x fit. choice_goes reach w (F reach w V.Bool) x (gives x) (checked t w b then truly plainly) fit
      (gives_goes reach w (F reach w V.Bool) x fit) (tested reach w (checked t w b) (sound reach same V.Bool b h.2))))
  kind_goes reach same s place k (K.Cast written) (a ∷ []) h =
      then_goes reach w (F reach w s) (F reach w s) (checked t w a) (λ x. made plainly k (x ∷ []) x) (sound reach same s a h)
      (λ x fit. gives_goes reach w (F reach w s) x fit)
  kind_goes reach same s place k K.Tuple cs h =
      is_shape reach w s (V.Tuple h.0) _ h.1 (then_goes reach w (FitAll reach.types reach.choice h.0) (F reach w (V.Tuple h.0)) (in_turn (runs cs)) _
      (all_go reach same h.0 cs h.2)
      (λ vs fit. gives_goes reach w (F reach w (V.Tuple h.0)) (Val.Tuple vs)
      (form_has reach.types reach.choice (W.Tuple vs) (S.Tuple h.0) (Val.Tuple vs) (V.Tuple h.0) (Val.rolls-Tuple vs) (V.rolls-Tuple h.0) fit)))
  kind_goes reach same s place k (K.Vector of) cs h =
      is_shape reach w s (V.Vector h.0) _ h.1 (operands_go reach w (AllFit reach.types reach.choice h.0) (F reach w (V.Vector h.0))
      (λ vs. is_length (length vs)) (runs cs) (λ vs. needs (vector_of vs) then made plainly k vs) (each_goes reach same h.0 cs h.2)
      (λ vs fit met. made_of reach (V.Vector h.0) k vector_of vs (
        Val.Vector (reverse vs),
        ap (λ b. if b then Some (Val.Vector (reverse vs)) else None) met,
        form_has reach.types reach.choice (W.Vector (reverse vs)) (S.Vector h.0) (Val.Vector (reverse vs)) (V.Vector h.0) (Val.rolls-Vector (reverse vs))
            (V.rolls-Vector h.0) (reversed_fit reach.types reach.choice h.0 vs fit),
      )))
  kind_goes reach same s place k (K.List of) cs h =
      is_shape reach w s (V.List h.0) _ h.1 (then_goes reach w (AllFit reach.types reach.choice h.0) (F reach w (V.List h.0)) (in_turn (runs cs)) _
      (each_goes reach same h.0 cs h.2)
      (λ vs fit. gives_goes reach w (F reach w (V.List h.0)) (Val.List vs)
      (form_has reach.types reach.choice (W.List vs) (S.List h.0) (Val.List vs) (V.List h.0) (Val.rolls-List vs) (V.rolls-List h.0) fit)))
  kind_goes reach same s place k (K.Cons of) (a ∷ b ∷ []) h =
      is_shape reach w s (V.List h.0) _ h.1 (then_goes reach w (FitAll reach.types reach.choice (h.0 ∷ V.List h.0 ∷ [])) (F reach w (V.List h.0))
      (in_turn (checked t w a ∷ checked t w b ∷ [])) _
      (turn_both reach w h.0 (V.List h.0 ∷ []) (checked t w a) (checked t w b ∷ []) (sound reach same h.0 a h.2)
      (turn_both reach w (V.List h.0) [] (checked t w b) [] (sound reach same (V.List h.0) b (subst (λ x. P reach x b) h.1 h.3))
      (gives_goes reach w (FitAll reach.types reach.choice []) [] refl)))
      (λ vs fit. made_of reach (V.List h.0) k cons_of vs (cons_goes reach h.0 vs fit)))
  kind_goes reach same s place k (K.Struct i places) cs h =
      then_goes reach w (FitAll reach.types reach.choice h.2) (F reach w s) (in_turn (runs cs)) _ (all_go reach same h.2 cs h.8)
      (λ vs fit. made_of reach s k (struct_of i places) vs (struct_leads reach.types reach.choice s i h.0 h.1 places h.2 vs h.3 h.4 h.5 h.6 h.7 fit))
  kind_goes reach same s place k (K.With i places) (a ∷ cs) (inl e) =
      then_goes reach w (λ (vs : List Value). ⊥) (F reach w s) (in_turn (checked t w a ∷ runs cs)) _
      (then_goes reach w (F reach w e.0) (λ (vs : List Value). ⊥) (checked t w a) _ (sound reach same e.0 a e.1) (λ v fit. absurd (e.2 v fit)))
      (λ vs never. absurd never)
  kind_goes reach same s place k (K.With i places) (a ∷ cs) (inr h) =
      then_goes reach w (FitAll reach.types reach.choice (s ∷ h.2)) (F reach w s) (in_turn (checked t w a ∷ runs cs)) _
      (turn_both reach w s h.2 (checked t w a) (runs cs) (sound reach same s a h.5) (all_go reach same h.2 cs h.7))
      (λ vs fit. made_of reach s k (with_of i places) vs (with_of_leads reach.types reach.choice s i h.0 h.1 places h.2 vs h.3 h.4 h.6 fit))
  kind_goes reach same s place k (K.Part suffixes) (a ∷ cs) h =
      then_goes reach w (F reach w h.0) (F reach w s) (checked t w a) (checked_suffixes suffixes (runs cs)) (sound reach same h.0 a h.1)
      (λ v fit. suffixes_go reach same s suffixes cs h.0 v h.2 fit)
  kind_goes reach same s place k K.WithItem (a ∷ b ∷ c ∷ []) (inl e) = never_goes reach same s a _ e
  kind_goes reach same s place k K.WithItem (a ∷ b ∷ c ∷ []) (inr h) =
      then_goes reach w (F reach w s) (F reach w s) (checked t w a) _ (sound reach same s a h.0)
      (λ v fv. then_goes reach w (F reach w V.Int) (F reach w s) (checked t w b) _ (sound reach same V.Int b h.1)
      (λ i fi. integer_then reach w (F reach w s) i _ fi
      (λ z at_z. then_goes reach w (λ u. F reach w h.2.0 u × (index_met (out-Value i) (out-Value v) ≡ true)) (F reach w s)
      (if_met (λ new. index_met (out-Value i) (out-Value v)) (checked t w c)) _
      (part_met reach w h.2.0 (λ new. index_met (out-Value i) (out-Value v)) (checked t w c) (sound reach same h.2.0 c h.2.2))
      (λ u fu. put_goes reach s k (item_way z) v (i ∷ []) u (item_takes reach.types reach.choice s h.2.0 i v u z h.2.1 at_z fv fu.0 fu.1)))))
  kind_goes reach same s place k K.WithSlice (a ∷ b ∷ c ∷ d ∷ []) (inl e) = never_goes reach same s a _ e
  kind_goes reach same s place k K.WithSlice (a ∷ b ∷ c ∷ d ∷ []) (inr h) =
      then_goes reach w (F reach w s) (F reach w s) (checked t w a) _ (sound reach same s a h.1)
      (λ v fv. then_goes reach w (F reach w V.Int) (F reach w s) (checked t w b) _ (sound reach same V.Int b h.2)
      (λ x fx. then_goes reach w (F reach w V.Int) (F reach w s) (checked t w c) _ (sound reach same V.Int c h.3)
      (λ y fy. integer_then reach w (F reach w s) x _ fx
      (λ hi at_hi. integer_then reach w (F reach w s) y _ fy
      (λ lo at_lo. then_goes reach w (λ u. F reach w V.Bits u
      × ((slice_met (out-Value x) (out-Value y) (out-Value v) && width_met (out-Value x) (out-Value y) (out-Value u)) ≡ true)) (F reach w s)
      (if_met (λ u. slice_met (out-Value x) (out-Value y) (out-Value v) && width_met (out-Value x) (out-Value y) (out-Value u)) (checked t w d)) _
      (part_met reach w V.Bits (λ u. slice_met (out-Value x) (out-Value y) (out-Value v) && width_met (out-Value x) (out-Value y) (out-Value u))
      (checked t w d) (sound reach same V.Bits d h.4))
      (λ u fu. put_goes reach s k (slice_way hi lo) v (x ∷ y ∷ []) u
      (slice_takes reach.types reach.choice s x y v u hi lo h.0 at_hi at_lo fv fu.0 fu.1)))))))
  kind_goes reach same s place k (K.SizeOf number numbers) [] h =
      is_shape reach w s V.Int _ h.0 (known_goes reach w V.Int (given_in w.numbers number) (known w.numbers number) (λ z. Val.Integer z) h.1
      (integer_fits reach.types reach.choice))
  kind_goes reach same s place k (K.Constraint c numbers) [] h =
      is_shape reach w s V.Bool _ h.0 (known_goes reach w V.Bool (truth_given w.numbers c) (known_truth w.numbers c) (λ b. Val.Truth b) h.1
      (truth_fits reach.types reach.choice))
  kind_goes reach same s place k (K.Assign targets) cs h = assigned_go t w P sound reach same s targets cs h
  kind_goes reach same s place k (K.Block ss) cs h = block_goes reach same s ss cs h
  kind_goes reach same s place k (K.Let arm) (a ∷ b ∷ []) h =
      then_goes reach w (F reach w h.0) (F reach w s) (checked t w a) (λ v. let_then w place arm v (checked t w b)) (sound reach same h.0 a h.3)
      (λ v fit. let_goes reach same h.1 h.0 s h.2 place arm (checked t w b) h.4 (sound (under reach h.2) same s b h.5) v fit)
  kind_goes reach same s place k (K.Var name written) (a ∷ b ∷ []) h =
      then_goes reach w (F reach w h.0) (F reach w s) (checked t w a) (λ v. within (local name v ∷ []) (checked t w b)) (sound reach same h.0 a h.1)
      (λ v fit. within_goes reach w (F reach w s) (variable name h.0 ∷ []) (local name v ∷ []) (checked t w b) (refl, fit, tt)
      (sound (under reach (variable name h.0 ∷ [])) same s b h.2))
  kind_goes reach same s place k (K.If of) (a ∷ b ∷ []) h =
      is_shape reach w s V.Unit _ h.0 (then_goes reach w (F reach w V.Bool) (F reach w V.Unit) (checked t w a) _ (sound reach same V.Bool a h.1)
      (λ x fit. choice_goes reach w (F reach w V.Unit) x (checked t w b) (gives Val.Unit) fit (sound reach same V.Unit b h.2)
      (gives_goes reach w (F reach w V.Unit) Val.Unit (unit_fits reach.types reach.choice))))
  kind_goes reach same s place k (K.If of) (a ∷ b ∷ c ∷ []) h =
      then_goes reach w (F reach w s) (F reach w s) (checked t w a then λ x. truth plainly x then if_so (checked t w b) (checked t w c))
      (λ x. made plainly k (Val.Unit ∷ []) x)
      (then_goes reach w (F reach w V.Bool) (F reach w s) (checked t w a) _ (sound reach same V.Bool a h.0)
      (λ x fit. choice_goes reach w (F reach w s) x (checked t w b) (checked t w c) fit (sound reach same s b h.1) (sound reach same s c h.2)))
      (λ x fit. gives_goes reach w (F reach w s) x fit)
  kind_goes reach same s place k (K.Match arms of) (a ∷ cs) h =
      then_goes reach w (F reach w h.0) (F reach w s) (checked t w a) _ (sound reach same h.0 a h.1)
      (λ v fit. arms_go reach same (h.0 ∷ []) s arms cs (stops (MatchFailure place)) (λ now ready. tt) h.2 (v ∷ []) (one_fits reach h.0 v fit))
  kind_goes reach same s place k (K.Try arms of) (a ∷ cs) h = λ now ready.
      caught_goes reach w (F reach w s) (checked t w a now) (λ v. first_arm w arms (runs cs) (throws v) (v ∷ [])) (sound reach same s a h.2 now ready)
      (λ v thrown. arms_go reach same (h.0 ∷ []) s arms cs (throws v) (λ later ready2. (thrown, ready2)) h.3 (v ∷ [])
      (one_fits reach h.0 v (subst (λ x. fits reach.types v x ≡ true) (sym h.1) thrown)))
  kind_goes reach same s place k (K.Clauses arms) cs h =
      arms_go reach same h.0 s arms cs falls (λ now ready. ready) h.2 w.arguments h.1
  kind_goes reach same s place k K.When (a ∷ b ∷ []) h =
      then_goes reach w (F reach w V.Bool) (F reach w s) (checked t w a) _ (sound reach same V.Bool a h.0)
      (λ x fit. choice_goes reach w (F reach w s) x (checked t w b) falls fit (sound reach same s b h.1) (λ now ready. ready))
  kind_goes reach same s place k (K.Foreach name way) (a ∷ b ∷ c ∷ body ∷ []) h =
      is_shape reach w s V.Unit _ h.0 (then_goes reach w (F reach w V.Int) (F reach w V.Unit) (checked t w a) _ (sound reach same V.Int a h.1)
      (λ x fx. integer_then reach w (F reach w V.Unit) x _ fx
      (λ from e1. then_goes reach w (F reach w V.Int) (F reach w V.Unit) (checked t w b) _ (sound reach same V.Int b h.2)
      (λ y fy. integer_then reach w (F reach w V.Unit) y _ fy
      (λ to e2. then_goes reach w (λ u. F reach w V.Int u × (step_met (out-Value u) ≡ true)) (F reach w V.Unit)
      (if_met (λ v. step_met (out-Value v)) (checked t w c)) _
      (part_met reach w V.Int (λ v. step_met (out-Value v)) (checked t w c) (sound reach same V.Int c h.3))
      (λ u fu. integer_then reach w (F reach w V.Unit) u _ fu.0
      (λ by e3. foreach_goes reach w h.4.0 name way from to by (checked t w body) (subst (λ q. step_met q ≡ true) e3 fu.1)
      (sound (under reach (constant name V.Int ∷ [])) same h.4.0 body h.4.1))))))))
  kind_goes reach same s place k K.While (m ∷ c ∷ b ∷ []) h =
      is_shape reach w s V.Unit _ h.0 (λ now ready. while_goes reach w h.3.0 now (suc now.ticks) place (if_met (λ v. measure_met (out-Value v)) (checked t w m))
      (checked t w c) (checked t w b) None (part_met reach w V.Int (λ v. measure_met (out-Value v)) (checked t w m) (sound reach same V.Int m h.1))
      (sound reach same V.Bool c h.2) (sound reach same h.3.0 b h.3.1) now ready)
  kind_goes reach same s place k K.Repeat (m ∷ b ∷ c ∷ []) h =
      is_shape reach w s V.Unit _ h.0 (λ now ready. repeat_goes reach w h.3.0 now (suc now.ticks) place
      (if_met (λ v. measure_met (out-Value v)) (checked t w m))
      (checked t w b) (checked t w c) None (part_met reach w V.Int (λ v. measure_met (out-Value v)) (checked t w m) (sound reach same V.Int m h.1))
      (sound reach same h.3.0 b h.3.1) (sound reach same V.Bool c h.2) now ready)
  kind_goes reach same s place k K.Return (a ∷ []) h =
      then_goes reach w (F reach w h.0) (F reach w s) (checked t w a) (λ v. returns v) (sound reach same h.0 a h.2)
      (λ v fit now ready. (subst (λ o. Answers reach o v) (sym h.1) fit, ready))
  kind_goes reach same s place k K.Throw (a ∷ []) h =
      then_goes reach w (F reach w h.0) (F reach w s) (checked t w a) (λ v. throws v) (sound reach same h.0 a h.2)
      (λ v fit now ready. (subst (λ x. fits reach.types v x ≡ true) h.1 fit, ready))
  kind_goes reach same s place k K.Exit (a ∷ []) h =
      then_goes reach w (F reach w h.0) (F reach w s) (checked t w a) (λ v. stops (Exit place)) (sound reach same h.0 a h.1) (λ v fit now ready. tt)
  kind_goes reach same s place k (K.Assert text) (a ∷ []) h =
      is_shape reach w s V.Unit _ h.0 (then_goes reach w (F reach w V.Bool) (F reach w V.Unit) (checked t w a) _ (sound reach same V.Bool a h.1)
      (λ x fit. choice_goes reach w (F reach w V.Unit) x (gives Val.Unit) (stops (Assertion place text)) fit
      (gives_goes reach w (F reach w V.Unit) Val.Unit (unit_fits reach.types reach.choice)) (λ now ready. tt)))
  kind_goes reach same s place k kind cs h = absurd h

-- a name of a shape that no value has isn't in scope at any moment
unreached : (reach : Reach) (w : World Value) (s : Shape) (r : Run Value Value) → IsUnreached reach → Has reach w s r
unreached reach w s r h now ready =
    let u = in_scope reach.types reach.choice reach.slots now.locals h.0 h.1 ready.good.locals h.2 in
    absurd (h.3 u.0 u.2)

pub cores_go_on : CoresGoOn
cores_go_on zero t w reach s c same h = absurd h
cores_go_on (suc n) t w reach s c same (inl h) = unreached reach w s (checked t w c) h
cores_go_on (suc n) t w reach s c same (inr h) =
    goes_as reach w (F reach w h.0) (F reach w s) (checked t w c) (λ v fit. widens reach.types v reach.choice h.0 s h.1 fit)
    (subst (Has reach w h.0) (sym (fold_out-Core (Run Value Value) (λ d. checked_kind t w d.place d.number d.kind d.parts) c))
    (kind_goes t w (IsShaped n w) (λ around fine q d k. cores_go_on n t w around q d fine k) reach same h.0 (out-Core c).place (out-Core c).number
    (out-Core c).kind (out-Core c).parts h.2))
