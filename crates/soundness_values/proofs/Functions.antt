-- Calls of functions as a kind of node.
use Rattle.std.proofs.Common.{◌≡◌, ℕ, Bool, true, false, List, [], ◌∷◌, length, slice_get, take, Option, Some, None, refl, sym, ap, ◌∙◌, subst}
use Rattle.std.proofs.Common.{if◌then◌else◌}
use Rattle.std.specs.List.{list_all}
use Rattle.std.proofs.lemmas.Bool.{and_parts}
use Rattle.sail_base.specs.declared.place.Place.{Place}
use Rattle.sail_types.specs.declared.numbers.Index.{Index}
use Rattle.sail_types.specs.declared.types.Typ.{Typ}
use Rattle.sail_types.specs.declared.values.Value.{Value}
use Rattle.sail_core.specs.Making.{World, made}
use Rattle.sail_core.specs.Meaning.{kind_meaning}
use Rattle.sail_core.specs.Run as R
use Rattle.sail_core.specs.Run.{Ended, Run, goes_on, in_turn, ◌then◌}
use Rattle.sail_core.specs.Targets.{called}
use Rattle.sail_core.specs.declared.model.Function.{Function}
use Rattle.sail_core.specs.declared.tree.Callee.TheVariants as D
use Rattle.sail_core.specs.declared.tree.Kind.TheVariants as K
use Rattle.value_indices.specs.declared.indices.Indices.{Indices}
use Rattle.value_indices.specs.declared.indices.Indices.TheVariants as I
use Rattle.value_indices.specs.declared.indices.Naming.TheVariants as M
use Rattle.value_indices.specs.declared.indices.Reading.{Reading}
use Rattle.value_indices.specs.declared.indices.Reading.TheVariants as Q
use Rattle.value_indices.specs.declared.notes.Fact.{Fact}
use Rattle.value_indices.specs.declared.notes.Made.TheVariants as Makes
use Rattle.value_indices.specs.Opening.{opened}
use Rattle.value_indices.specs.Steps.{Walk, bind, call_note, next_variable, size_note}
use Rattle.value_fits.specs.Fitting.{fits, owe_fit}
use Rattle.pattern_leaves.specs.Settings.{Around, Scope}
use Rattle.call_arguments.specs.Callees.{argument_aim, numbers_from, types_from}
use Rattle.call_arguments.specs.Placing.{call_conditions}
use Rattle.call_arguments.specs.declared.aims.Aim.{Aim}
use Rattle.call_notes.specs.Calls.{function_call, function_called, noted_call, numbered_call, parameter_types}
use Rattle.call_notes.specs.Ends.{any_never, never_value, sized_by}
use Rattle.call_notes.specs.Noted.{node_made}
use Rattle.expression_steps.specs.Calls.{argument_aims, call_walk, nestings}
use Rattle.expression_steps.specs.Expressions.{kind_walk}
use Rattle.expression_steps.specs.Parts.{Part, each_walk}
use Rattle.checked_meaning.specs.Checked.{checked}
use Rattle.checked_meaning.specs.Items.{Item, vals}
use Rattle.value_laws.specs.Known.{Point}
use Rattle.soundness_steps.specs.Calls.{SoundCalls}
use Rattle.soundness_steps.specs.Works.{Scene, Setting, Work, here}
use Rattle.soundness_steps.specs.Steps.{Beside, Grows}
use Rattle.soundness_steps.specs.Values.{AimSteady, Comes, Is, IsMet}
use Rattle.soundness_steps.proofs.Steps.{binds, next_is, runs_as}
use Rattle.soundness_forms.specs.Calls.{ArgumentMet, ArgumentsAre, CalleeFits}
use Rattle.soundness_forms.specs.EachKind.{KindFine, node}
use Rattle.soundness_forms.specs.Forms.{AllFine, Fine, FitsSuffice, at, z}
use Rattle.soundness_forms.specs.Standing.{has_arguments, is_value}
use Rattle.soundness_forms.specs.Worlds.{Surrounds}
use Rattle.soundness_forms.proofs.Basics.{wrong_walks}
use Rattle.soundness_forms.proofs.Called.{function_fine}
use Rattle.soundness_forms.proofs.Growth.{grows_bind, grows_give, grows_made, grows_note, grows_opening, grows_owe_fit, grows_wrong}
use Rattle.soundness_forms.proofs.JoinGrowth.{grows_next}
use Rattle.soundness_forms.proofs.Parts.{EachIs, all_have, are_typed, each_fine, none_never}
use Rattle.soundness_forms.proofs.PlainKinds.{fine_by, settled_grows}
use Rattle.soundness_values.proofs.Made.{parts_node}
use Rattle.soundness_values.proofs.MadeKinds.{all_at, all_values, each_grow}
use Rattle.soundness_values.proofs.Mappings.{arguments_steady, given_aim, none_beside}
use Rattle.soundness_values.proofs.Placings.{conditions_count}
use Rattle.soundness_values.proofs.RowCalls.{taken_all}
use Rattle.soundness_values.proofs.Stands.{AsMany, CountStands, count_stands, parts_stand}

-- ---- arguments that have been walked

module _ (set : Setting) (work : Work) {n : ℕ} (f : Point n) where
  argument_met : (b : Bool) (t : Typ) (v : Value) → IsMet set work f (argument_aim t) b v → ArgumentMet set work f b t v
  argument_met true t v h = λ e. subst (λ a. IsMet set work f a true v) (given_aim t e) h
  argument_met false t v h = tt

  arguments_are : (ps : List Part) (ts : List Typ) (is : List Indices) (xs : List Item) → AsMany ps ts → EachIs set work f ps (argument_aims ts) is xs
      → ArgumentsAre set work f (nestings ps) ts is (vals xs)
  arguments_are [] [] [] [] c h = tt
  arguments_are (p ∷ ps) (t ∷ ts) (i ∷ is) (x ∷ xs) c h = (h.0.has, argument_met p.is_nested t x.val h.1, arguments_are ps ts is xs c h.2)
  arguments_are [] (t ∷ ts) is xs c h = absurd c
  arguments_are (p ∷ ps) [] is xs c h = absurd c
  arguments_are [] [] (i ∷ is) xs c h = absurd h
  arguments_are [] [] [] (x ∷ xs) c h = absurd h
  arguments_are (p ∷ ps) (t ∷ ts) [] xs c h = absurd h
  arguments_are (p ∷ ps) (t ∷ ts) (i ∷ is) [] c h = absurd h

-- ---- the call

regroups : {A B C : Type 0} (m : A → Run Item B) (l : B → Run Item C) (e : Ended Item A) → goes_on e (λ a. m a then l) ≡ goes_on (goes_on e m) l
regroups m l (R.Gives a now) = refl
regroups m l (R.No now) = refl
regroups m l (R.Returns v now) = refl
regroups m l (R.Throws v now) = refl
regroups m l (R.Stops cause now) = refl
regroups m l R.Stuck = refl

module _ (q : Scene) (w : World Item) (scope : Scope) (place : Place) (k i : ℕ) (fit : FitsSuffice) (suffice : CalleeFits q.set i) where
  abbrev pub calling : List Item → Run Item Value
  calling xs = (checked q.set.around.types q.cases).calls k xs then λ awaited. w.call place i awaited (vals xs)

  pub called_as : (xs : List Item)
      → (calling xs then λ v. made (checked q.set.around.types q.cases) k xs v) ≡ called (checked q.set.around.types q.cases) w place k (D.Function i) xs
  called_as xs j now = sym (regroups (λ awaited. w.call place i awaited (vals xs)) (λ v. made (checked q.set.around.types q.cases) k xs v)
      ((checked q.set.around.types q.cases).calls k xs now)) j

  abbrev pub Ends : {n : ℕ} → Point n → List Fact → Walk Indices → List Item → Type 0
  Ends {n} f facts walk xs = Beside q n f facts walk (calling xs then λ v. (checked q.set.around.types q.cases).make k xs v)
      (λ j g z y. Is q.set q.work g z y)

  pub of_function : SoundCalls q.set q.reached w → (o : Option Function) → slice_get q.set.around.functions i ≡ o → {n : ℕ} {f : Point n} {facts : List Fact}
      → (ps : List Part) (is : List Indices) (xs : List Item) → CountStands ps o → EachIs q.set q.work f ps (argument_aims (parameter_types o)) is xs
      → Ends f facts (function_call (here q) place k i o (nestings ps) is) xs
  of_function calls None e ps is xs c h = none_beside (wrong_walks place)
  of_function calls (Some fn) e {n} {f} {facts} ps is xs c h =
      subst (λ b. Ends f facts (if b then never_value else bind next_variable (numbered_call (here q) place k i fn (nestings ps) is)) xs)
      (sym (none_never q.set q.work f is (vals xs) (all_have q.set q.work f ps (argument_aims fn.parameters) is xs h)))
      (next_is (numbered_call (here q) place k i fn (nestings ps) is)
      (function_fine q w place k i fn e calls is xs n (suffice fn e) (nestings ps) (arguments_are q.set q.work f ps fn.parameters is xs c h)
      (are_typed q.set q.work f ps (argument_aims fn.parameters) is xs h)))

  abbrev types_there : List Typ
  types_there = parameter_types (slice_get q.set.around.functions i)

  pub called_fine : {n : ℕ} (f : Point n) (facts : List Fact) (aim : Aim) → Surrounds q w f scope → AimSteady q.set q.work f aim
      → (ps : List Part) (rs : List (Run Item Item)) → AllFine q w ps rs → CountStands ps (slice_get q.set.around.functions i)
      → Beside q n f facts (kind_walk place k (K.Call (D.Function i)) ps (here q) scope aim)
      (kind_meaning (checked q.set.around.types q.cases) w place k (K.Call (D.Function i)) rs) (λ m g i x. Comes q.set q.work g false false false aim i x)
  called_fine {n} f facts aim there st ps rs fine count =
      runs_as (λ now. (λ j. goes_on (in_turn rs now) (λ xs. called_as xs j)))
      (parts_node fit place k aim (in_turn rs) calling st
      (binds (λ is. function_call (here q) place k i (slice_get q.set.around.functions i) (nestings ps) is)
      (λ xs. calling xs then λ v. (checked q.set.around.types q.cases).make k xs v)
      (subst (λ ys. Beside q n f facts (each_walk ys (here q) scope (argument_aims types_there)) (in_turn rs)
      (λ m g is xs. EachIs q.set q.work g ps (argument_aims types_there) is xs)) (sym (taken_all ps))
      (each_fine q w scope ps rs fine (argument_aims types_there) there (arguments_steady q.set q.work f types_there)))
      (λ m g fs is xs l e. of_function there.calls (slice_get q.set.around.functions i) refl ps is xs count e)))

-- ---- what was in force still is

function_grows : (around : Around) (place : Place) (k i : ℕ) (fn : Function) (js : List Index) (qs : List Reading) (bs : List Bool) (is : List Indices)
    → Grows (function_called around place k i fn js qs bs is)
unfolding opened
function_grows around place k i fn js qs bs is =
    grows_bind (owe_fit place (call_conditions (fits around.types) fn js qs bs is)) _
    (grows_owe_fit place (call_conditions (fits around.types) fn js qs bs is) (conditions_count around.types fn js qs bs is)) (λ t.
    grows_bind (noted_call place k is (D.Function i) js qs) _ (grows_note (λ facts. call_note facts place k is (D.Function i) js qs)) (λ u.
    grows_bind (node_made k is (Makes.ByType (Q.Of fn.result js qs))) _ (grows_made k is (Makes.ByType (Q.Of fn.result js qs))) (λ x.
    grows_bind (sized_by place (Q.Of fn.result js qs)) _ (grows_note (λ facts. size_note facts place (Makes.ByType (Q.Of fn.result js qs)))) (λ y.
    grows_opening (Q.Of fn.result js qs) false M.Unnamed))))

pub call_grows : (around : Around) (place : Place) (k i : ℕ) (o : Option Function) (bs : List Bool) (is : List Indices)
    → Grows (function_call around place k i o bs is)
call_grows around place k i None bs is = grows_wrong place
call_grows around place k i (Some fn) bs is = by (any_never is)
  where
    by : (b : Bool) → Grows (if b then never_value else bind next_variable (numbered_call around place k i fn bs is))
    by true = grows_give I.Never
    by false = grows_bind next_variable _ grows_next (λ m. function_grows around place k i fn (numbers_from 0 fn.variables fn.parameters is)
        (types_from m 0 (length fn.type_variables) fn.parameters is) bs is)

-- ---- the node

module _ (fit : FitsSuffice) (q : Scene) (w : World Item) (i : ℕ) (suffice : CalleeFits q.set i) where
  -- of as many arguments as the function has parameters
  pub function_node : (place : Place) (k : ℕ) (ps : List Part) (rs : List (Run Item Item)) → AllFine q w ps rs
      → CountStands ps (slice_get q.set.around.functions i)
      → Fine q w false false (node q w place k (K.Call (D.Function i)) ps)
      (kind_meaning (checked q.set.around.types q.cases) w place k (K.Call (D.Function i)) rs)
  function_node place k ps rs fine count =
      fine_by q w false false (node q w place k (K.Call (D.Function i)) ps) (kind_meaning (z q w) w place k (K.Call (D.Function i)) rs) (λ around scope. refl)
      (λ names falls g n f facts scope aim there st.
      called_fine (at q w names falls) w scope place k i fit suffice f facts aim there st ps rs (all_at q w names falls ps rs fine) count)
      (λ around scope aim. settled_grows around place k aim (call_walk place k (D.Function i) ps around scope aim)
      (grows_bind (each_walk (take (length ps) ps) around scope (argument_aims (parameter_types (slice_get around.functions i))))
      (λ is. function_call around place k i (slice_get around.functions i) (nestings ps) is)
      (subst (λ ys. Grows (each_walk ys around scope (argument_aims (parameter_types (slice_get around.functions i))))) (sym (taken_all ps))
      (each_grow q w ps rs fine around scope (argument_aims (parameter_types (slice_get around.functions i)))))
      (λ is. call_grows around place k i (slice_get around.functions i) (nestings ps) is)))

  pub function_kind : KindFine q w (K.Call (D.Function i))
  function_kind place k ss ps rs h right =
      let o = slice_get q.set.around.functions i in
      let both = and_parts (has_arguments (length ss) o) (list_all is_value ss) right in
      function_node place k ps rs (all_values q w ss ps rs both.1 h)
      (count_stands ps o (ap (λ n. has_arguments n o) (sym (parts_stand q w ss ps rs h)) ∙ both.0))
