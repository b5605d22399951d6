-- An event of the core enters an instance as a call of it does, so it comes to what the code of the instance comes to.
use Rattle.std.proofs.Common.{◌≡◌, ◌∙◌, ◌<◌, ap, sym, refl, subst, ℕ, suc, nat_eq, Bool, true, false, List, [], ◌∷◌, length, map, slice_get, arith}
use Rattle.std.specs.Prelude.{Option, Some, None, option_map}
use Rattle.std.proofs.lemmas.Bool.Decides.{Decides-eqb}
use Rattle.std.proofs.lemmas.Option.{slice_get-map}
use Rattle.sail_types.specs.Named.{constructors}
use Rattle.sail_types.specs.Places.{an_int, first, only}
use Rattle.sail_types.specs.Sums.{and_then}
use Rattle.sail_types.specs.declared.table.Field.{Field}
use Rattle.sail_types.specs.declared.table.Types.{Types}
use Rattle.sail_types.specs.declared.values.Value.{Value, Value-F, out-Value}
use Rattle.sail_types.specs.declared.values.Value.TheOpen as W
use Rattle.model_state.specs.RunState.{Ran, RunState}
use Rattle.model_state.specs.declared.cause.Cause.TheVariants as C
use Rattle.model_state.specs.declared.cause.Ended.{Ended as Halt}
use Rattle.model_state.specs.declared.cause.Ended.TheVariants as E
use Rattle.sail_core.specs.Numbers.{Awaited, Givens, Instance, all_agree, as_awaited, givens_of, place_of}
use Rattle.sail_core.specs.Program.{Calls, Setting, Sizing, answered, calls, event_of, framed, world_of}
use Rattle.sail_core.specs.Run as R
use Rattle.sail_core.specs.Run.{Ended, Now, Run, if_so, needs, stuck, ◌then◌}
use Rattle.sail_core.specs.Start as S
use Rattle.sail_core.specs.Start.{event_run, setting_of}
use Rattle.sail_core.specs.declared.model.CoreModel.{CoreModel}
use Rattle.sail_core.specs.declared.model.Function.{Function}
use Rattle.mappings.proofs.FreeModels as free
use Rattle.mappings.specs.Rewriting.{free_function, without_mappings}
use Rattle.match_rewrite.proofs.FlatModels.{runs_kept}
use Rattle.match_rewrite.specs.Rewriting.{flat_function, with_flat_arms}
use Rattle.value_laws.proofs.Basics.{two}
use Rattle.checked_meaning.specs.Checked.{checked, checking}
use Rattle.checked_meaning.specs.Items.{Item, items_of}
use Rattle.sized_nodes.specs.declared.trees.SizedCore.{SizedCore}
use Rattle.sized_nodes.specs.declared.trees.SizedInstance.{SizedInstance}
use Rattle.sized_meanings.specs.Sized.{entered, entering, first_for, if_for, is_for, noted_cases_of, noted_checks_of, nodes_for, numbers_of, signature_for}
use Rattle.case_laws.proofs.Under.{some_alike}
use Rattle.split_laws.proofs.Basics.{none}
use Rattle.jib.specs.Jib as J
use Rattle.jib.specs.Openings as O
use Rattle.lowered_laws.specs.Modules.{Made}
use Rattle.lowered_laws.specs.Modules as Modules
use Rattle.lowered_laws.specs.Simulation.{AnswersFrom, bare}
use Rattle.safe_models.specs.RunEvents.{IsEntered, MadeOf}
use Rattle.safe_models.specs.RunLaws.{EventsCome}
use Rattle.safe_models.proofs.Options.{keeps_parts}

-- ---- what a run comes to is the same in both words

name_same : (o : Option Field) → S.name_of o ≡ O.name_of o
name_same None = refl
name_same (Some f) = refl

thrown_same : (types : Types) (v : Value-F Value) → S.thrown_name types v ≡ O.thrown_name types v
thrown_same types (W.Union u c v) = name_same (slice_get (constructors types u) c)
thrown_same types v = refl

-- at a moment a run has come to this
abbrev ran_at : Now Item → Halt → Ran
ran_at t how = record { ended = how; state = t.state; accesses = t.accesses }

abbrev exception : List ℕ → Halt
exception name = E.Stop (C.Exception name)

ran_is : (t : Now Item) (how : Halt) (ran : Ran) → Some (ran_at t how) ≡ Some ran → ran ≡ ran_at t how
ran_is t how ran h = sym (some_alike (ran_at t how) ran h)

ended_there : (x : Made) (types : Types) (hart ticks q : ℕ) (vs : List Value) (state : RunState) (ran : Ran) (o : Ended Item Value)
    → AnswersFrom x.m x.lets hart (J.alone q) q vs (S.begun ticks state) o → S.ran_of types o ≡ Some ran → O.Calls x.m types x.lets hart ticks q vs state ran
ended_there x types hart ticks q vs state ran (R.Gives v t) a h = record {
  outcome = J.Gives v (bare t);
  run = a.3;
  same = ran_is t (E.Value v) ran h;
}
ended_there x types hart ticks q vs state ran (R.Throws v t) a h = record {
  outcome = J.Throws v (bare t);
  run = a.3;
  same = ran_is t (exception (S.thrown_name types (out-Value v))) ran h
      ∙ ap (λ (name : List ℕ). ran_at t (exception name)) (thrown_same types (out-Value v));
}
ended_there x types hart ticks q vs state ran (R.Stops cause t) a h = record {
  outcome = J.Stops cause (bare t);
  run = a;
  same = ran_is t (E.Stop cause) ran h;
}
ended_there x types hart ticks q vs state ran (R.No t) a h = absurd a
ended_there x types hart ticks q vs state ran (R.Returns v t) a h = absurd a
ended_there x types hart ticks q vs state ran R.Stuck a h = none h

-- ---- an event enters its instance as a call of it does

module _ (m : CoreModel) (c : SizedCore) (hart i p : ℕ) (e : IsEntered m c i p) (depth : ℕ) (vs : List Value) where
  abbrev s : Setting Item
  s = setting_of (checking (noted_checks_of m c)) (with_flat_arms (without_mappings m)) hart

  abbrev function : Function
  function = flat_function (free_function e.function)

  function_is : slice_get (with_flat_arms (without_mappings m)).functions i ≡ Some function
  function_is =
      slice_get-map flat_function (map free_function m.functions) i
      ∙ ap (option_map flat_function) (slice_get-map free_function m.functions i ∙ ap (option_map free_function) e.is_it)

  abbrev below : Calls Item
  below = calls s depth

  abbrev awaited : Instance
  awaited = record { place = p; numbers = numbers_of e.instance.instance }

  -- with these numbers of its variables, as the instance is read that is entered
  run_by : Awaited → Givens → Run Item Value
  run_by a nu = if_so
      (needs (s.sizing.enters i (place_of a) nu vs)
      then λ xs. framed (answered (s.sizing.function i (place_of a) nu) (world_of s below [] nu xs) function))
      stuck (as_awaited a nu)

  abbrev begun_by : Awaited → ℕ → Run Item Value
  begun_by a n = needs (givens_of n function.parameters vs) then run_by a

  abbrev read_as : Option SizedInstance → Bool → Run Item Value
  read_as o b = if_so
      (needs (and_then (and_then (signature_for o) (entering false m.types vs)) (λ ss. items_of ss vs))
      then λ xs. framed (answered (checked m.types (noted_cases_of m.types c.instances (nodes_for o))) (world_of s below [] [] xs) function))
      stuck b

  numbers_are : all_agree (numbers_of e.instance.instance) [] ≡ true
  numbers_are = ap (λ ns. all_agree (map (option_map an_int) ns) []) e.bare

  it_is : is_for i [] e.instance ≡ true
  it_is =
      two (nat_eq e.instance.instance.function i) (all_agree (numbers_of e.instance.instance) []) ((Decides-eqb e.instance.instance.function i).1 e.is_of)
      numbers_are

  at_place : entered c.instances i p [] ≡ Some e.instance
  at_place =
      ap (λ (o : Option SizedInstance). first (if_for i [] o) (first_for i [] c.instances)) e.is_there
      ∙ ap (λ (b : Bool). first (only b e.instance) (first_for i [] c.instances)) it_is

  same_instance : entered c.instances i 0 [] ≡ entered c.instances i p []
  same_instance = e.first ∙ sym at_place

  same_run : run_by None [] ≡ run_by (Some awaited) []
  unfolding run_by
  same_run = λ j. read_as (same_instance j) (sym numbers_are j)

  none_given : (a : Awaited) → begun_by a (length function.variables) ≡ run_by a []
  none_given a = ap (λ ps. begun_by a (length ps)) e.plain

  event_is : (a : Awaited)
      → event_of s below i a vs (slice_get (with_flat_arms (without_mappings m)).functions i) ≡ begun_by a (length function.variables)
  unfolding run_by
  event_is a = ap (event_of s below i a vs) function_is

  pub same_event : event_of s below i None vs (slice_get (with_flat_arms (without_mappings m)).functions i)
      ≡ event_of s below i (Some awaited) vs (slice_get (with_flat_arms (without_mappings m)).functions i)
  same_event = event_is None ∙ none_given None ∙ same_run ∙ sym (none_given (Some awaited)) ∙ sym (event_is (Some awaited))

pub events_come : Modules.EventsAnswer → EventsCome
events_come answer m c hart x of i p e ticks vs state ran h =
    let sizing : Sizing Item = checking (noted_checks_of m c) in
    let flat : CoreModel = with_flat_arms (without_mappings m) in
    let t : Setting Item = setting_of sizing flat hart in
    let a : Instance = record { place = p; numbers = numbers_of e.instance.instance } in
    let now : Now Item = S.begun ticks state in
    let less : ticks < suc ticks = omega arith in
    let there = answer x of.agrees of.lowered of.turned of.taken of.ticks of.events (suc ticks) i a vs now (of.of p e.instance e.is_there ∙ e.is_of)
    (of.awaits p e.instance e.is_there) less in
    let answers : AnswersFrom x.m x.lets hart (J.alone (x.event p)) (x.event p) vs now
    (event_of t (calls t (suc ticks)) i (Some a) vs (slice_get flat.functions i) now) =
    subst (λ (u : Setting Item). AnswersFrom x.m x.lets u.hart (J.alone (x.event p)) (x.event p) vs now
    (event_of u (calls u (suc ticks)) i (Some a) vs (slice_get u.functions i) now)) of.setting there in
    let same : event_run sizing flat ticks None hart i vs state ≡ event_of t (calls t (suc ticks)) i (Some a) vs (slice_get flat.functions i) now =
    ap (λ (r : Run Item Value). r now) (same_event m c hart i p e (suc ticks) vs) in
    let kept : event_run sizing flat ticks None hart i vs state ≡ event_run sizing m ticks None hart i vs state =
    (runs_kept sizing (without_mappings m)).events ticks None hart i vs state
    ∙ (free.runs_kept sizing (keeps_parts (noted_checks_of m c) of.options) m of.resolved).events ticks None hart i vs state in
    ended_there x m.types hart ticks (x.event p) vs state ran (event_of t (calls t (suc ticks)) i (Some a) vs (slice_get flat.functions i) now) answers
    (ap (S.ran_of m.types) (sym same ∙ kept) ∙ h)
