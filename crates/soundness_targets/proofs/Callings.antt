-- What targets call, on their arguments and the new value behind them.
use Rattle.std.proofs.Common.{◌≡◌, ◌∙◌, ◌++◌, ◌&&◌, ◌≤◌, ℕ, suc, Bool, true, false, List, [], ◌∷◌, if◌then◌else◌, length, nat_eq, slice_get}
use Rattle.std.proofs.Common.{Option, Some, None, refl, sym, ap, subst, arith}
use Rattle.sail_base.specs.declared.place.Place.{Place}
use Rattle.sail_types.specs.declared.numbers.Index.{Index}
use Rattle.sail_types.specs.declared.types.Typ.{Typ}
use Rattle.sail_types.specs.declared.values.Value.{Value}
use Rattle.sail_core.specs.Making.{World, made}
use Rattle.sail_core.specs.Run.{Run, gives, row_run, ◌then◌}
use Rattle.sail_core.specs.Targets.{called as run_called}
use Rattle.sail_core.specs.declared.model.Direction.{Direction}
use Rattle.sail_core.specs.declared.model.Function.{Function}
use Rattle.sail_core.specs.declared.tree.Callee.{Callee}
use Rattle.sail_core.specs.declared.tree.Callee.TheVariants as D
use Rattle.value_indices.specs.Steps.{Walk, bind, give, next_variable}
use Rattle.value_indices.specs.declared.indices.Indices.{Indices}
use Rattle.value_indices.specs.declared.indices.Indices.TheVariants as I
use Rattle.value_indices.specs.declared.indices.Reading.{Reading}
use Rattle.value_indices.specs.declared.indices.Reading.TheVariants as R
use Rattle.value_indices.specs.declared.notes.Fact.{Fact}
use Rattle.value_fits.specs.Fitting.{fits, never, owe_fit}
use Rattle.pattern_leaves.specs.Settings.{Scope}
use Rattle.call_arguments.specs.Aims.{aimed}
use Rattle.call_arguments.specs.Callees.{argument_aim, is_closed, numbers_from, types_from}
use Rattle.call_arguments.specs.Holes.{types_without_holes}
use Rattle.call_arguments.specs.Placing.{arguments_owe, call_conditions}
use Rattle.call_arguments.specs.declared.aims.Aim.{Aim}
use Rattle.call_arguments.specs.declared.aims.Aim.TheVariants as Aims
use Rattle.call_notes.specs.Calls.{called, callee_types, direction_types, function_call, function_called, noted_call, numbered_call}
use Rattle.call_notes.specs.Calls.{parameter_types}
use Rattle.call_notes.specs.Ends.{never_value}
use Rattle.call_notes.specs.Noted.{made_opened, node_given}
use Rattle.expression_forms.specs.Spots.{closed_type, last_type}
use Rattle.expression_steps.specs.Calls.{argument_aims, nestings}
use Rattle.expression_steps.specs.Parts.{Part}
use Rattle.checked_meaning.specs.Items.{Item, vals}
use Rattle.value_laws.specs.Known.{Point}
use Rattle.value_laws.proofs.Steps.{same}
use Rattle.fitting_laws.specs.Fitting.{Suffices}
use Rattle.fitting_laws.proofs.Joining.{never_suffices}
use Rattle.soundness_steps.specs.Works.{Scene, Setting, Work, here}
use Rattle.soundness_steps.specs.Steps.{Beside, Walks}
use Rattle.soundness_steps.specs.Values.{AllHave, Is, IsMet}
use Rattle.soundness_steps.proofs.Steps.{means, next_is, runs_as, walks_mean}
use Rattle.soundness_forms.specs.Calls.{CalleeFits}
use Rattle.soundness_forms.specs.Forms.{FitsSuffice}
use Rattle.soundness_forms.specs.Mappings.{MappingsClosed}
use Rattle.soundness_forms.specs.Worlds.{Surrounds}
use Rattle.soundness_forms.proofs.Basics.{wrong_walks}
use Rattle.soundness_forms.proofs.Casts.{comes_is}
use Rattle.soundness_forms.proofs.Leaves.{wrong_node}
use Rattle.soundness_forms.proofs.Parts.{EachIs, are_typed, none_never, other_aims}
use Rattle.soundness_fits.proofs.Owing.{suffices_walks}
use Rattle.soundness_values.proofs.Functions as Functions
use Rattle.soundness_values.proofs.Made.{parts_node}
use Rattle.soundness_values.proofs.Mappings as Mappings
use Rattle.soundness_values.proofs.Mappings.{none_beside}
use Rattle.soundness_values.proofs.RowCalls.{row_fine}
use Rattle.soundness_values.proofs.Stands.{as_many, same_count}
use Rattle.soundness_values.proofs.Taken.{widening}
use Rattle.soundness_parts.proofs.Taken.{z}
use Rattle.soundness_targets.proofs.Named.{none_aimed}
use Rattle.soundness_targets.proofs.Rights.{last_given}

-- ---- the new value, as one argument more

-- an argument that owes what is wanted of it further in, or not
abbrev pub new_part : Place → Bool → Part
new_part at nested = record { place = at; is_nested = nested; never_ends = false; walk = λ around scope aim. give I.Never; state = λ around scope. give None }

pub nested_more : (at : Place) (nested : Bool) (ps : List Part) → nestings (ps ++ new_part at nested ∷ []) ≡ nestings ps ++ nested ∷ []
nested_more at nested [] = refl
nested_more at nested (p ∷ ps) = ap (λ bs. p.is_nested ∷ bs) (nested_more at nested ps)

one_more : (at : Place) (nested : Bool) (ps : List Part) → length (ps ++ new_part at nested ∷ []) ≡ suc (length ps)
one_more at nested [] = refl
one_more at nested (p ∷ ps) = ap suc (one_more at nested ps)

pub count_nestings : (ps : List Part) → length (nestings ps) ≡ length ps
count_nestings [] = refl
count_nestings (p ∷ ps) = ap suc (count_nestings ps)

module _ (set : Setting) (work : Work) {n : ℕ} (f : Point n) where
  -- what is wanted of the new value is what is wanted of the last argument
  last_argument : (t : Typ) (b : Bool) (v : Value) → IsMet set work f (aimed Aims.Given (closed_type t)) b v → IsMet set work f (argument_aim t) b v
  last_argument t b v h = by (is_closed t) h
    where
      by : (c : Bool) → IsMet set work f (aimed Aims.Given (if c then R.Of t [] [] else R.Hole)) b v
          → IsMet set work f (if c then aimed Aims.Given (R.Of t [] []) else Aims.Free) b v
      by true k = k
      by false k = tt

  none_met : (b : Bool) (v : Value) → IsMet set work f (aimed Aims.Given R.Hole) b v
  none_met b v = subst (λ aim. IsMet set work f aim b v) (sym none_aimed) tt

  module _ (at : Place) (nested : Bool) (i : Indices) (y : Item) (h : Is set work f i y) where
    each_with : (ps : List Part) (ts : List Typ) (is : List Indices) (xs : List Item) → length ts ≤ suc (length ps)
        → EachIs set work f ps (argument_aims ts) is xs → IsMet set work f (aimed Aims.Given (last_type ts)) nested y.val
        → EachIs set work f (ps ++ new_part at nested ∷ []) (argument_aims ts) (is ++ i ∷ []) (xs ++ y ∷ [])
    each_with [] [] [] [] few each met = (h, tt, tt)
    each_with [] (t ∷ []) [] [] few each met = (h, last_argument t nested y.val met, tt)
    each_with [] (t ∷ u ∷ ts) is xs few each met = absurd (omega (arith, few))
    each_with (p ∷ ps) [] (j ∷ is) (x ∷ xs) few each met = (each.0, each.1, each_with ps [] is xs (omega arith) each.2 (none_met nested y.val))
    each_with (p ∷ ps) (t ∷ []) (j ∷ is) (x ∷ xs) few each met = (each.0, each.1, each_with ps [] is xs (omega arith) each.2 (none_met nested y.val))
    each_with (p ∷ ps) (t ∷ u ∷ ts) (j ∷ is) (x ∷ xs) few each met = (each.0, each.1, each_with ps (u ∷ ts) is xs (omega (arith, few)) each.2 met)
    each_with [] [] (j ∷ is) xs few each met = absurd each
    each_with [] [] [] (x ∷ xs) few each met = absurd each
    each_with [] (t ∷ []) (j ∷ is) xs few each met = absurd each
    each_with [] (t ∷ []) [] (x ∷ xs) few each met = absurd each
    each_with (p ∷ ps) ts [] xs few each met = absurd each
    each_with (p ∷ ps) ts (j ∷ is) [] few each met = absurd each

    have_with : (ps : List Part) (aims : List Aim) (is : List Indices) (xs : List Item) → EachIs set work f ps aims is xs
        → AllHave set work f (is ++ i ∷ []) (vals (xs ++ y ∷ []))
    have_with [] aims [] [] each = (h.has, tt)
    have_with (p ∷ ps) aims (j ∷ is) (x ∷ xs) each = (each.0.has, have_with ps (other_aims aims) is xs each.2)
    have_with [] aims (j ∷ is) xs each = absurd each
    have_with [] aims [] (x ∷ xs) each = absurd each
    have_with (p ∷ ps) aims [] xs each = absurd each
    have_with (p ∷ ps) aims (j ∷ is) [] each = absurd each

-- ---- a call on other than as many arguments

module _ (q : Scene) (at : Place) (k i : ℕ) (fn : Function) (bs : List Bool) (is : List Indices)
    (other : nat_eq (length bs) (length fn.parameters) ≡ false) where
  pub none_fits : {n : ℕ} {f : Point n} {facts : List Fact} (js : List Index) (qs : List Reading)
      → Walks q n f facts (owe_fit at (call_conditions (fits q.set.around.types) fn js qs bs is)) (λ m g t. ⊥)
  none_fits {n} {f} {facts} js qs =
      walks_mean (λ m g t h. h g.integers (same g)) (suffices_walks {q = q} {Then = λ g. ⊥} at (call_conditions (fits q.set.around.types) fn js qs bs is)
      (subst (λ c. Suffices q.set.past n f (if c && nat_eq (length is) (length fn.parameters)
      then arguments_owe (fits q.set.around.types) fn js (types_without_holes qs) bs is n else never n) (λ g. ⊥)) (sym other) (never_suffices n f (λ g. ⊥))))

  pub many_wrong : {n : ℕ} {f : Point n} {facts : List Fact} {C : Type 0} {c : Run Item C} {Holds : (m : ℕ) → Point m → Indices → C → Type 0} (js : List Index)
      (qs : List Reading) → Beside q n f facts (function_called (here q) at k i fn js qs bs is) c Holds
  many_wrong {c = c} js qs =
      wrong_node (λ t. bind (noted_call at k is (D.Function i) js qs) (λ u. made_opened at k is (R.Of fn.result js qs))) c (none_fits js qs)

-- ---- what is called

module _ (fit : FitsSuffice) (q : Scene) (w : World Item) (places : (i : ℕ) → CalleeFits q.set i) (mappings : MappingsClosed q.set) (scope : Scope) (at : Place)
    (b : ℕ) where
  -- what it gives, with its numbers
  answered_by : {n : ℕ} {f : Point n} {facts : List Fact} (call : Walk Indices) (c : List Item → Run Item Value) (xs : List Item)
      → Beside q n f facts call (c xs then λ v. (z q).make b xs v) (λ m g j u. Is q.set q.work g j u)
      → Beside q n f facts (bind call (node_given b)) (c xs then λ v. made (z q) b xs v) (λ m g j u. Is q.set q.work g j u)
  answered_by {n} {f} {facts} call c xs h =
      subst (λ v. Beside q n f facts (bind v (node_given b)) (c xs then λ v2. made (z q) b xs v2) (λ m g j u. Is q.set q.work g j u)) (last_given call)
      (means (λ m g j u l e. comes_is false false Aims.Free j u e) (parts_node fit at b Aims.Free (gives xs) c tt h))

  module _ {n : ℕ} {f : Point n} (there : Surrounds q w f scope) (ps : List Part) (is : List Indices) (xs : List Item) (nested : Bool)
      (j : Indices) (y : Item) (h : Is q.set q.work f j y) where
    abbrev pub all_parts : List Part
    all_parts = ps ++ new_part at nested ∷ []

    abbrev pub all_is : List Indices
    all_is = is ++ j ∷ []

    abbrev pub all_items : List Item
    all_items = xs ++ y ∷ []

    abbrev pub Answers : List Fact → Walk Indices → Run Item Item → Type 0
    Answers facts call c = Beside q n f facts (bind call (node_given b)) c (λ m g a u. Is q.set q.work g a u)

    abbrev run_function : ℕ → List Item → Run Item Value
    run_function i = Functions.calling q w scope at b i fit (places i)

    function_by : {facts : List Fact} (i : ℕ) (o : Option Function) → slice_get q.set.around.functions i ≡ o
        → EachIs q.set q.work f ps (argument_aims (parameter_types o)) is xs
        → IsMet q.set q.work f (aimed Aims.Given (last_type (parameter_types o))) nested y.val
        → Beside q n f facts (function_call (here q) at b i o (nestings all_parts) all_is)
        (run_function i all_items then λ v. (z q).make b all_items v) (λ m g a u. Is q.set q.work g a u)
    function_by i None e each met = none_beside (wrong_walks at)
    function_by {facts} i (Some fn) e each met = by (nat_eq (suc (length ps)) (length fn.parameters)) refl
      where
        by : (c : Bool) → nat_eq (suc (length ps)) (length fn.parameters) ≡ c
            → Beside q n f facts (function_call (here q) at b i (Some fn) (nestings all_parts) all_is)
            (run_function i all_items then λ v. (z q).make b all_items v) (λ m g a u. Is q.set q.work g a u)
        by true same_many =
            let many : suc (length ps) ≡ length fn.parameters = same_count (suc (length ps)) (length fn.parameters) same_many in
            Functions.of_function q w scope at b i fit (places i) there.calls (Some fn) e all_parts all_is all_items
            (as_many all_parts fn.parameters (one_more at nested ps ∙ many))
            (each_with q.set q.work f at nested j y h ps fn.parameters is xs (omega (arith, many)) each met)
        by false other =
            subst (λ c. Beside q n f facts (if c then never_value else bind next_variable (numbered_call (here q) at b i fn (nestings all_parts) all_is))
            (run_function i all_items then λ v. (z q).make b all_items v) (λ m g a u. Is q.set q.work g a u))
            (sym (none_never q.set q.work f all_is (vals all_items) (have_with q.set q.work f at nested j y h ps (argument_aims fn.parameters) is xs each)))
            (next_is (numbered_call (here q) at b i fn (nestings all_parts) all_is)
            (many_wrong q at b i fn (nestings all_parts) all_is
            (ap (λ k. nat_eq k (length fn.parameters)) (count_nestings all_parts ∙ one_more at nested ps) ∙ other)
            (numbers_from 0 fn.variables fn.parameters all_is) (types_from n 0 (length fn.type_variables) fn.parameters all_is)))

    few_directions : (o : Option Direction) → length (direction_types o) ≤ suc (length ps)
    few_directions None = omega arith
    few_directions (Some m) = omega arith

    callee_by : {facts : List Fact} (callee : Callee) → EachIs q.set q.work f ps (argument_aims (callee_types (here q) callee)) is xs
        → IsMet q.set q.work f (aimed Aims.Given (last_type (callee_types (here q) callee))) nested y.val
        → Answers facts (called (here q) at b callee (nestings all_parts) all_is) (run_called (z q) w at b callee all_items)
    callee_by (D.Function i) each met =
        let o = slice_get q.set.around.functions i in
        runs_as (λ now. λ k. Functions.called_as q w scope at b i fit (places i) all_items k now)
        (answered_by (function_call (here q) at b i o (nestings all_parts) all_is) (run_function i) all_items (function_by i o refl each met))
    callee_by (D.Row row) each met =
        answered_by (called (here q) at b (D.Row row) (nestings all_parts) all_is) (λ us. row_run row w.hart (vals us)) all_items
        (row_fine widening q at b row w.hart all_is all_items
        (are_typed q.set q.work f all_parts [] all_is all_items (each_with q.set q.work f at nested j y h ps [] is xs (omega arith) each met))
        (have_with q.set q.work f at nested j y h ps [] is xs each))
    callee_by (D.Converts d) each met =
        let o = slice_get q.set.around.directions d in
        runs_as (λ now. λ k. Mappings.called_as q w scope at b d fit all_items k now)
        (answered_by (called (here q) at b (D.Converts d) (nestings all_parts) all_is) (Mappings.entering q w scope at b d fit) all_items
        (Mappings.of_direction q w scope at b d fit mappings there.calls o refl all_parts all_is all_items
        (each_with q.set q.work f at nested j y h ps (direction_types o) is xs (few_directions o) each met)))
    callee_by (D.Constructor u c) each met =
        wrong_node (node_given b) (run_called (z q) w at b (D.Constructor u c) all_items) (wrong_walks at)
    callee_by (D.Applies d) each met =
        wrong_node (node_given b) (run_called (z q) w at b (D.Applies d) all_items) (wrong_walks at)

    pub answers : {facts : List Fact} (callee : Callee) → EachIs q.set q.work f ps (argument_aims (callee_types (here q) callee)) is xs
        → IsMet q.set q.work f (aimed Aims.Given (last_type (callee_types (here q) callee))) nested y.val
        → Answers facts (called (here q) at b callee (nestings ps ++ nested ∷ []) all_is) (run_called (z q) w at b callee all_items)
    answers {facts} callee each met =
        subst (λ bs. Answers facts (called (here q) at b callee bs all_is) (run_called (z q) w at b callee all_items)) (nested_more at nested ps)
        (callee_by callee each met)
