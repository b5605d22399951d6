-- What nodes of expressions note weighs no more than the node: calls, and ends of values.
use Rattle.std.proofs.Common.{◌≡◌, ℕ, ◌+◌, ◌≤◌, Bool, true, false, ◌&&◌, not, List, [], ◌∷◌, map, slice_get, Option, Some, None, if◌then◌else◌, sym}
use Rattle.std.proofs.Common.{◌++◌, subst, arith}
use Rattle.sail_base.specs.declared.place.Place.{Place}
use Rattle.sail_types.specs.declared.numbers.Index.{Index}
use Rattle.sail_types.specs.declared.rows.Row.{Row}
use Rattle.sail_types.specs.declared.table.Types.{Types}
use Rattle.sail_core.specs.declared.model.Direction.{Direction}
use Rattle.sail_core.specs.declared.model.Function.{Function}
use Rattle.sail_core.specs.declared.tree.Callee.{Callee}
use Rattle.sail_core.specs.declared.tree.Callee.TheVariants as D
use Rattle.sail_core.specs.declared.tree.Giver.TheVariants as Gives
use Rattle.value_indices.specs.declared.indices.Indices.{Indices}
use Rattle.value_indices.specs.declared.indices.Indices.TheVariants as I
use Rattle.value_indices.specs.declared.indices.Naming.{Naming}
use Rattle.value_indices.specs.declared.indices.Reading.{Reading}
use Rattle.value_indices.specs.declared.indices.Reading.TheVariants as R
use Rattle.value_indices.specs.declared.notes.Made.{Made}
use Rattle.value_indices.specs.declared.notes.Made.TheVariants as Makes
use Rattle.value_indices.specs.Opening.{opened, opened_for}
use Rattle.value_indices.specs.Steps.{Conditions, Walk, bind, call_note, give, given_note, made_note, next_variable, note, owe}
use Rattle.value_fits.specs.Fitting.{fits, owe_fit}
use Rattle.value_fits.specs.declared.fitted.Fitted.{Fitted}
use Rattle.pattern_leaves.specs.Settings.{Around}
use Rattle.pattern_leaves.specs.declared.names.Bound.{Bound}
use Rattle.call_arguments.specs.declared.aims.Aim.{Aim}
use Rattle.call_arguments.specs.declared.aims.Aim.TheVariants as Aims
use Rattle.call_notes.specs.Calls.{called, direction_applied, direction_call, direction_called, function_call, function_called}
use Rattle.call_notes.specs.Calls.{noted_call, part_owed, row_called}
use Rattle.call_notes.specs.Ends.{any_never, opened_at, settled, sized, sized_by, wrong_value}
use Rattle.call_notes.specs.Noted.{made_opened, name_indices, names_given, node_ended, node_given, node_made, numbers_by, numbers_given, numbers_noted}
use Rattle.call_notes.specs.Rows.{row_call}
use Rattle.expression_forms.specs.Nodes.{cast_ended, made_for, owed_type}
use Rattle.soundness_forms.proofs.Giving.{gives_all}
use Rattle.node_counts.specs.Counts.{Counted, arming, bit, giving, is_giver, is_of, making, mass, may_give, own, weigh}
use Rattle.node_counts.proofs.Budgets.{Within, light_first, light_last, within_bind, within_give, within_more, within_note}
use Rattle.node_counts.proofs.Openings as Opened
use Rattle.node_counts.proofs.Rows as Rows
use Rattle.node_counts.proofs.Weights.{arm_own, called_own, given_own, Light, lights, made_own, node_own}

module _ (q : Counted) where
  abbrev pub In : {A : Type 0} → ℕ → Walk A → Type 0
  In {A} b w = Within (weigh q) b w

  -- ---- steps

  pub few : {A : Type 0} {b : ℕ} (w : Walk A) → In 0 w → In b w
  few w h = within_more (weigh q) w (omega arith) h

  pub in_give : {A : Type 0} {b : ℕ} (x : A) → In b (give x)
  in_give x = few (give x) (within_give (weigh q) x)

  pub in_first : {A B : Type 0} {b : ℕ} (w : Walk A) (k : A → Walk B) → In 0 w → ((x : A) → In b (k x)) → In b (bind w k)
  in_first w k h more = light_first (weigh q) w k h more

  pub in_last : {A B : Type 0} {b : ℕ} (w : Walk A) (k : A → Walk B) → In b w → ((x : A) → In 0 (k x)) → In b (bind w k)
  in_last w k h more = light_last (weigh q) w k h more

  pub in_both : {A B : Type 0} {a b : ℕ} (w : Walk A) (k : A → Walk B) → In a w → ((x : A) → In b (k x)) → In (a + b) (bind w k)
  in_both w k h more = within_bind (weigh q) w k h more

  pub in_more : {A : Type 0} {a b : ℕ} (w : Walk A) → a ≤ b → In a w → In b w
  in_more w l h = within_more (weigh q) w l h

  pub in_either : {A : Type 0} {c : ℕ} (b : Bool) (w v : Walk A) → In c w → In c v → In c (if b then w else v)
  in_either true w v h k = h
  in_either false w v h k = k

  pub owes_light : (place : Place) (cs : Conditions) → In 0 (owe place cs)
  owes_light place cs = (lights q).owes place cs

  pub fit_light : (place : Place) (a : ℕ → Fitted) → In 0 (owe_fit place a)
  fit_light place a = (lights q).owes_fit place a

  pub next_light : In 0 next_variable
  next_light = (lights q).next_one

  pub sized_light : (place : Place) (i : Indices) → In 0 (sized place i)
  sized_light place i = (lights q).sizes place (Makes.ByIndices i)

  pub typed_light : (place : Place) (r : Reading) → In 0 (sized_by place r)
  typed_light place r = (lights q).sizes place (Makes.ByType r)

  pub wrong_in : {b : ℕ} (place : Place) → In b (wrong_value place)
  wrong_in place = few (wrong_value place) (Rows.wrong_kept (Light q) (lights q) place)

  pub opened_light : (place : Place) (r : Reading) → In 0 (opened_at place r)
  opened_light place r = in_first (sized_by place r) (λ t. opened r) (typed_light place r) (λ t. Opened.opened_kept (Light q) (lights q) r)

  pub named_light : (naming : Naming) (r : Reading) → In 0 (opened_for naming r)
  unfolding opened_for
  named_light naming r = Opened.opening_kept (Light q) (lights q) r false naming

  pub row_light : (types : Types) (place : Place) (row : Row) (is : List Indices) → In 0 (row_call types place row is)
  row_light types place row is = Rows.row_call_kept (Light q) (lights q) types place row is

  -- ---- numbers that are given

  numbers_light : (i : Indices) → In 0 (numbers_given i)
  numbers_light i facts n = subst (λ r. mass (weigh q) r.notes ≤ 0) (sym (gives_all i facts n)) (omega arith)

  pub noted_in : (k : ℕ) (i : Indices) → In (giving q k) (numbers_noted k i)
  noted_in k i =
      in_last (note (λ facts. given_note facts (Gives.Node k) i)) (λ t. numbers_given i)
      (within_note (weigh q) (λ facts. given_note facts (Gives.Node k) i) (λ facts. given_own q facts k i)) (λ t. numbers_light i)

  -- by what an arm matches, and its names
  pub names_given_in : (k n : ℕ) (is : List Indices) (found : List Bound) → In (arming q k n) (names_given (Gives.Arm k n) is found)
  names_given_in k n is found =
      let i : Indices = I.Tuple (is ++ map name_indices found) in
      in_last (numbers_by (Gives.Arm k n) i) (λ t. give found)
      (in_last (note (λ facts. given_note facts (Gives.Arm k n) i)) (λ t. numbers_given i)
      (within_note (weigh q) (λ facts. given_note facts (Gives.Arm k n) i) (λ facts. arm_own q facts k n i)) (λ t. numbers_light i)) (λ t. in_give found)

  pub node_in : (k : ℕ) (i : Indices) → In (giving q k) (node_given k i)
  node_in k i = in_last (numbers_noted k i) (λ t. give i) (noted_in k i) (λ t. in_give i)

  -- a value that gives no numbers
  pub caught_light : (k : ℕ) (i : Indices) → may_give i ≡ false → In 0 (numbers_noted k i)
  caught_light k i none =
      in_first (note (λ facts. given_note facts (Gives.Node k) i)) (λ t. numbers_given i)
      (within_note (weigh q) (λ facts. given_note facts (Gives.Node k) i) (λ facts. by q.gives (is_giver q (Gives.Node k)) (may_give i) none))
      (λ t. numbers_light i)
    where
      by : (g a b : Bool) → b ≡ false → bit (g && (a && b)) ≤ 0
      by false a b e = omega arith
      by true false b e = omega arith
      by true true false e = omega arith
      by true true true e = absurd (cc)

  -- what is made, and then the numbers that it gives
  pub made_and_given : (k : ℕ) (w : Walk Indices) → In (making q k) w → In (own q k) (bind w (node_given k))
  made_and_given k w h = in_more (bind w (node_given k)) (node_own q k) (in_both w (node_given k) h (node_in k))

  -- ---- what is made

  pub made_exact : (k : ℕ) (is : List Indices) (m : Made) → In (bit (not q.gives && (not q.calls && is_of q k is))) (node_made k is m)
  made_exact k is m = within_note (weigh q) (λ facts. made_note facts k is m) (λ facts. omega arith)

  pub made_in : (k : ℕ) (is : List Indices) (m : Made) → In (making q k) (node_made k is m)
  made_in k is m = within_note (weigh q) (λ facts. made_note facts k is m) (λ facts. made_own q facts k is m)

  pub ended_in : (k : ℕ) (is : List Indices) (i : Indices) → In (making q k) (node_ended k is i)
  ended_in k is i = in_last (node_made k is (Makes.ByIndices i)) (λ t. give i) (made_in k is (Makes.ByIndices i)) (λ t. in_give i)

  pub opened_exact : (place : Place) (k : ℕ) (is : List Indices) (r : Reading)
      → In (bit (not q.gives && (not q.calls && is_of q k is))) (made_opened place k is r)
  opened_exact place k is r =
      in_last (node_made k is (Makes.ByType r)) (λ t. opened_at place r) (made_exact k is (Makes.ByType r)) (λ t. opened_light place r)

  pub opened_in : (place : Place) (k : ℕ) (is : List Indices) (r : Reading) → In (making q k) (made_opened place k is r)
  opened_in place k is r = in_last (node_made k is (Makes.ByType r)) (λ t. opened_at place r) (made_in k is (Makes.ByType r)) (λ t. opened_light place r)

  pub cast_in : (k : ℕ) (aim : Aim) (i : Indices) → In (making q k) (cast_ended k aim i)
  cast_in k aim i = in_last (node_made k (i ∷ []) (made_for (owed_type aim) i)) (λ t. give i) (made_in k (i ∷ []) (made_for (owed_type aim) i)) (λ t. in_give i)

  pub settled_light : (around : Around) (place : Place) (aim : Aim) (i : Indices) → In 0 (settled around place aim i)
  settled_light around place Aims.Free i = in_give i
  settled_light around place (Aims.Given r) i = in_give i
  settled_light around place (Aims.PartOf r) i = in_give i
  settled_light around place (Aims.Due r) i = in_first (owe_fit place (fits around.types i r)) (λ t. give i) (fit_light place _) (λ t. in_give i)

  pub part_light : (around : Around) (b : Bool) (place : Place) (i : Indices) (r : Reading) → In 0 (part_owed around b place i r)
  part_light around true place i r = in_give tt
  part_light around false place i r = fit_light place _

  -- ---- calls

  call_exact : (place : Place) (k : ℕ) (is : List Indices) (callee : Callee) (js : List Index) (rs : List Reading)
      → In (bit (not q.gives && (q.calls && is_of q k is))) (noted_call place k is callee js rs)
  call_exact place k is callee js rs = within_note (weigh q) (λ facts. call_note facts place k is callee js rs) (λ facts. omega arith)

  -- what is noted of a call and of what it makes
  call_both : {A : Type 0} (place : Place) (k : ℕ) (is : List Indices) (callee : Callee) (js : List Index) (rs : List Reading) (w : Walk A)
      → In (bit (not q.gives && (not q.calls && is_of q k is))) w → In (making q k) (bind (noted_call place k is callee js rs) (λ t. w))
  call_both place k is callee js rs w h =
      in_more (bind (noted_call place k is callee js rs) (λ t. w)) (called_own q k is)
      (in_both (noted_call place k is callee js rs) (λ t. w) (call_exact place k is callee js rs) (λ t. h))

  function_in : (around : Around) (place : Place) (k i : ℕ) (f : Function) (js : List Index) (rs : List Reading) (bs : List Bool) (is : List Indices)
      → In (making q k) (function_called around place k i f js rs bs is)
  function_in around place k i f js rs bs is =
      in_first _ _ (fit_light place _) (λ t.
      call_both place k is (D.Function i) js rs (made_opened place k is (R.Of f.result js rs)) (opened_exact place k is (R.Of f.result js rs)))

  known_in : (around : Around) (place : Place) (k i : ℕ) (o : Option Function) (bs : List Bool) (is : List Indices)
      → In (making q k) (function_call around place k i o bs is)
  known_in around place k i None bs is = wrong_in place
  known_in around place k i (Some f) bs is =
      in_either (any_never is) _ _ (in_give I.Never) (in_first next_variable _ next_light (λ m. function_in around place k i f _ _ bs is))

  applied_in : (around : Around) (place : Place) (k d : ℕ) (m : Direction) (b : Bool) (is : List Indices) (i : Indices)
      → In (making q k) (direction_applied around place k d m b is i)
  applied_in around place k d m b is i =
      in_first _ _ (fit_light place _) (λ t.
      call_both place k is (D.Converts d) [] [] (made_opened place k is (R.Of m.result [] [])) (opened_exact place k is (R.Of m.result [] [])))

  direction_in : (around : Around) (place : Place) (k d : ℕ) (m : Direction) (bs : List Bool) (is : List Indices)
      → In (making q k) (direction_called around place k d m bs is)
  direction_in around place k d m (b ∷ []) (i ∷ []) = applied_in around place k d m b (i ∷ []) i
  direction_in around place k d m [] is = wrong_in place
  direction_in around place k d m (b ∷ []) [] = wrong_in place
  direction_in around place k d m (b ∷ []) (i ∷ j ∷ is) = wrong_in place
  direction_in around place k d m (b ∷ c ∷ bs) is = wrong_in place

  converts_in : (around : Around) (place : Place) (k d : ℕ) (o : Option Direction) (bs : List Bool) (is : List Indices)
      → In (making q k) (direction_call around place k d o bs is)
  converts_in around place k d None bs is = wrong_in place
  converts_in around place k d (Some m) bs is = in_either (any_never is) _ _ (in_give I.Never) (direction_in around place k d m bs is)

  row_in : (types : Types) (place : Place) (k : ℕ) (row : Row) (is : List Indices) → In (making q k) (row_called types place k row is)
  row_in types place k row is =
      call_both place k is (D.Row row) [] [] (bind (row_call types place row is) (node_ended k is))
      (in_first (row_call types place row is) (node_ended k is) (row_light types place row is) (λ i.
      in_last (node_made k is (Makes.ByIndices i)) (λ t. give i) (made_exact k is (Makes.ByIndices i)) (λ t. in_give i)))

  pub called_in : (around : Around) (place : Place) (k : ℕ) (callee : Callee) (bs : List Bool) (is : List Indices)
      → In (making q k) (called around place k callee bs is)
  called_in around place k (D.Function f) bs is = known_in around place k f (slice_get around.functions f) bs is
  called_in around place k (D.Row row) bs is = row_in around.types place k row is
  called_in around place k (D.Converts d) bs is = converts_in around place k d (slice_get around.directions d) bs is
  called_in around place k (D.Applies d) bs is = wrong_in place
  called_in around place k (D.Constructor u c) bs is = wrong_in place
