-- A model whose accepted list is tested is read: its functions, and bodies of no function.
use Rattle.std.proofs.Common.{◌≡◌, ◌∙◌, ap, sym, refl, subst, ℕ, ◌+◌, ℤ, Bool, true, inl, inr, List, [], ◌∷◌, ◌++◌}
use Rattle.std.proofs.Common.{map, slice_get}
use Rattle.std.specs.Prelude.{Option, Some, None, option_map}
use Rattle.std.specs.List.{list_all}
use Rattle.std.proofs.lemmas.Bool.{and_parts}
use Rattle.std.proofs.lemmas.Option.{slice_get-map}
use Rattle.sail_types.specs.Numbers.{Positive}
use Rattle.sail_types.specs.Places.{an_int}
use Rattle.sail_types.specs.declared.table.Types.{Types}
use Rattle.sail_types.specs.declared.values.Value.{Value}
use Rattle.sail_core.specs.Numbers.{Givens, all_agree}
use Rattle.sail_core.specs.declared.model.CoreModel.{CoreModel}
use Rattle.sail_core.specs.declared.model.Function.{Function}
use Rattle.sail_core.specs.declared.model.Opening.{Opening}
use Rattle.sail_core.specs.declared.tree.Core.{Core}
use Rattle.pattern_leaves.specs.Settings.{Around}
use Rattle.pattern_leaves.specs.declared.names.TopLevel.{TopLevel}
use Rattle.constraint_gen.specs.Models.{around_of, around_with, lets_behind, names_of}
use Rattle.value_laws.specs.Belonging.{Integers}
use Rattle.size_values.specs.declared.sized.Sized.{Sized}
use Rattle.size_splits.specs.Bodies.{Body}
use Rattle.size_notes.specs.Bodies.{bodies_of, body_of, function_bodies, function_read, measure_bodies, measure_read}
use Rattle.split_laws.specs.Counted.{IsIn}
use Rattle.split_laws.proofs.Basics.{in_back, in_front}
use Rattle.monomorph.specs.declared.found.Found.{Found}
use Rattle.monomorph.specs.declared.found.Found.TheVariants as F
use Rattle.sized_nodes.specs.declared.trees.Instance.{Instance}
use Rattle.monomorph.specs.Found.{instances_in}
use Rattle.monomorph.specs.Instances.{model_of, or_none}
use Rattle.monomorph.specs.Lasts.{Model}
use Rattle.sized_nodes.specs.declared.trees.SizedInstance.{SizedInstance}
use Rattle.sized_nodes.specs.declared.trees.SizedCore.{SizedCore}
use Rattle.sized_trees.specs.Trees.{sized_instance, sized_list}
use Rattle.checked_meaning.specs.Checked.{Cases, Checks}
use Rattle.sized_meanings.specs.Sized.{entered, numbers_of}
use Rattle.call_fits.specs.Calls.{AllBelong, givens_at}
use Rattle.soundness_steps.specs.Works.{Work, nobody}
use Rattle.soundness_steps.specs.Calls as Calls
use Rattle.soundness_steps.specs.Calls.{Enters}
use Rattle.soundness_calls.specs.Premises.{EntersAs}
use Rattle.exact_sizes.proofs.Equal.{all_same}
use Rattle.exact_sizes.proofs.Known.{none, some_there}
use Rattle.met_notes.specs.Covers.{AreRead, CoversFunction}
use Rattle.covering_laws.specs.Closed.{BodiesAreRead, IsRead, NotesAreRead}
use Rattle.covering_laws.specs.Covered.{all_told, at_work, body_cases, body_tested, constants_of, entered_told}
use Rattle.tabled_cores.specs.Cores.{all_found}
use Rattle.covering_laws.specs.Covered.{found_tested, function_covered, function_tested, is_found}
use Rattle.covering_laws.specs.Covered.{instance_cases, instance_tested, model_checks, parameter_tested, parameters_told, setting_of}
use Rattle.covering_laws.specs.Given.{bodies_given, cases_given}
use Rattle.node_counts.specs.Told.{all_noted, are_apart, are_single}
use Rattle.node_counts.proofs.Apart.{notes_are_apart, numbers_are_given_once}
use Rattle.note_laws.specs.Notes.{EachNote}
use Rattle.covering_laws.specs.Apart.{GivesKinds, NumbersApart}
use Rattle.covering_laws.specs.Tested.{inside}
use Rattle.covering_laws.proofs.Entering.{all_made_in}
use Rattle.covering_laws.proofs.Found.{instance_there, place_there}
use Rattle.covering_laws.proofs.Given.{bodies_are_given}
use Rattle.covering_laws.proofs.Joined.{mapped_there, placed_there}
use Rattle.covering_laws.proofs.KindsGiven.{GivesNumbers}
use Rattle.covering_laws.proofs.There.{function_gives}
use Rattle.covering_laws.proofs.Working.{awaited_are, covered_at, function_is, types_are, working}

types_kept : (m : CoreModel) (lets : List TopLevel) (os : List Opening) → (lets_behind (around_with m lets) os).types ≡ m.types
types_kept m lets [] = refl
types_kept m lets (o ∷ os) = types_kept m (lets ++ names_of (around_with m lets) o o.kind) os

functions_kept : (m : CoreModel) (lets : List TopLevel) (os : List Opening) → (lets_behind (around_with m lets) os).functions ≡ m.functions
functions_kept m lets [] = refl
functions_kept m lets (o ∷ os) = functions_kept m (lets ++ names_of (around_with m lets) o o.kind) os

module _ (core : CoreModel) (past : Positive) (hart : ℕ) where
  abbrev pub around : Around
  around = around_of core

  abbrev pub model : Model
  model = model_of core (bodies_of core)

  -- all that is found, and its instances
  abbrev pub all : List Found
  all = all_found model

  abbrev pub list : List Instance
  list = instances_in all

  abbrev pub sized : SizedCore
  sized = sized_list model list

  abbrev pub checks : Checks
  checks = model_checks model list sized.instances

  pub same_types : around.types ≡ core.types
  same_types = types_kept core [] core.openings

  -- bodies that are read together
  pub read_in : (x : Work) (zs : List (Option ℤ)) → x.instance.numbers ≡ map (option_map an_int) zs → (bs : List Body)
      → BodiesAreRead model zs x.own bs all → ((b : Body) → IsIn b bs → EachNote (GivesNumbers model.sizing) b.notes) → are_apart (all_noted bs) ≡ true
      → are_single (all_noted bs) ≡ true → bodies_given core.types model.sizing zs x.own bs ≡ true → (b : Body) → IsIn b bs
      → AreRead (setting_of core past hart sized) x (is_found all) (cases_given core.types model.sizing zs x.own list (all_noted bs)) b.notes
  read_in x zs awaits bs read gives apart single h b i =
      subst (λ (ty : Types). AreRead (setting_of core past hart sized) x (is_found all) (cases_given ty model.sizing zs x.own list (all_noted bs)) b.notes)
      same_types
      (bodies_are_given (setting_of core past hart sized) x model.sizing zs awaits list sized.instances (placed_there model list) (covered_at sized)
      all (λ y k. place_there y all k) (λ d k. k) refl bs
      (λ c k. subst (λ (ty : Types). NotesAreRead (inside ty model.sizing zs x.own c) all c.notes) (sym same_types) (read c k))
      gives apart single
      (subst (λ (ty : Types). bodies_given ty model.sizing zs x.own bs ≡ true) (sym same_types) h) b i)

  -- ---- functions

  bodies_there : (i : ℕ) (f : Function) → slice_get core.functions i ≡ Some f → or_none (slice_get model.bodies.functions i) ≡ function_bodies around f
  bodies_there i f e = ap or_none (slice_get-map (function_bodies around) core.functions i ∙ ap (option_map (function_bodies around)) e)

  measure_there : (f : Function) (measure : Core) (o : Option Core) → o ≡ Some measure
      → IsIn (body_of (measure_read around f measure)) (measure_bodies around f o)
  measure_there f measure None e = none e
  measure_there f measure (Some c) e = inl (ap (λ (d : Core). body_of (measure_read around f d)) (sym (cc e)))

  module _ (x : Work) (f : Function) (here : slice_get core.functions x.function ≡ Some f) (s : SizedInstance) (y : Instance) (is_in : IsIn y list)
      (same : s ≡ sized_instance model list y) (function : s.instance.function ≡ x.function) (numbers : numbers_of s.instance ≡ x.instance.numbers)
      (owns : x.own ≡ s.instance.types)
      (entered_there : (nu : Givens) → all_agree x.instance.numbers nu ≡ true → entered sized.instances x.function x.instance.place nu ≡ Some s)
      (read : IsRead model all (F.Function y)) (gives : (b : Body) → IsIn b (function_bodies around f) → EachNote (GivesNumbers model.sizing) b.notes)
      (apart : are_apart (all_noted (function_bodies around f)) ≡ true) (single : are_single (all_noted (function_bodies around f)) ≡ true)
      (tested : instance_tested model y ≡ true) where
    instance_is : s.instance ≡ y
    instance_is = ap (λ (z : SizedInstance). z.instance) same

    awaits : x.instance.numbers ≡ map (option_map an_int) y.numbers
    awaits = sym numbers ∙ ap numbers_of instance_is

    own_is : y.types ≡ x.own
    own_is = sym (owns ∙ ap (λ (z : Instance). z.types) instance_is)

    place_is : y.function ≡ x.function
    place_is = ap (λ (z : Instance). z.function) (sym instance_is) ∙ function

    bodies_are : or_none (slice_get model.bodies.functions y.function) ≡ function_bodies around f
    bodies_are = ap (λ (i : ℕ). or_none (slice_get model.bodies.functions i)) place_is ∙ bodies_there x.function f here

    function_there : slice_get core.functions y.function ≡ Some f
    function_there = ap (slice_get core.functions) place_is ∙ here

    abbrev all_tested : List Sized → List Body → Bool
    all_tested own bs = bodies_given core.types model.sizing y.numbers own bs

    abbrev tests : (all_tested y.types (or_none (slice_get model.bodies.functions y.function)) ≡ true)
        × (function_tested core.types y (slice_get core.functions y.function) ≡ true)
    tests =
        and_parts (all_tested y.types (or_none (slice_get model.bodies.functions y.function)))
        (function_tested core.types y (slice_get core.functions y.function)) tested

    cases_are : (nu : Givens) → all_agree x.instance.numbers nu ≡ true
        → instance_cases model list (entered sized.instances x.function x.instance.place nu)
        ≡ cases_given core.types model.sizing y.numbers x.own list (all_noted (function_bodies around f))
    cases_are nu a =
        ap (instance_cases model list) (entered_there nu a)
        ∙ ap (λ (z : Instance). cases_given core.types model.sizing z.numbers z.types list (all_noted (or_none (slice_get model.bodies.functions z.function))))
        instance_is
        ∙ ap (λ (l : List Body). cases_given core.types model.sizing y.numbers y.types list (all_noted l)) bodies_are
        ∙ ap (λ (l : List Sized). cases_given core.types model.sizing y.numbers l list (all_noted (function_bodies around f))) own_is

    bodies_pass : bodies_given core.types model.sizing y.numbers x.own (function_bodies around f) ≡ true
    bodies_pass =
        subst (λ (l : List Sized). all_tested l (function_bodies around f) ≡ true) own_is
        (subst (λ (l : List Body). all_tested y.types l ≡ true) bodies_are tests.0)

    bodies_read : BodiesAreRead model y.numbers x.own (function_bodies around f) all
    bodies_read =
        subst (λ (l : List Sized). BodiesAreRead model y.numbers l (function_bodies around f) all) own_is
        (subst (λ (l : List Body). BodiesAreRead model y.numbers y.types l all) bodies_are read)

    one_read : (nu : Givens) → all_agree x.instance.numbers nu ≡ true → (b : Body) → IsIn b (function_bodies around f)
        → AreRead (setting_of core past hart sized) x (is_found all) (checks.function x.function x.instance.place nu) b.notes
    one_read nu a b i =
        subst (λ (l : Cases). AreRead (setting_of core past hart sized) x (is_found all) l b.notes)
        (sym (cases_are nu a))
        (read_in x y.numbers awaits (function_bodies around f) bodies_read gives apart single bodies_pass b i)

    parameters_tested : list_all (parameter_tested core.types y.numbers y.types f) f.parameters ≡ true
    parameters_tested = subst (λ (o : Option Function). function_tested core.types y o ≡ true) function_there tests.1

    parameters_pass : list_all (parameter_tested core.types y.numbers x.own f) f.parameters ≡ true
    parameters_pass = subst (λ (l : List Sized). list_all (parameter_tested core.types y.numbers l f) f.parameters ≡ true) own_is parameters_tested

    enters_as : (vs : List Value) (h : Integers) (e : Enters (setting_of core past hart sized) x f vs h)
        → EntersAs (setting_of core past hart sized) checks x f vs h e
    enters_as vs h e =
        let ss = all_told core.types x.own (constants_of y.numbers) f.parameters vs in
        let a : all_agree (map (option_map an_int) y.numbers) (givens_at h 0 f.variables) ≡ true =
        subst (λ ns. all_agree ns (givens_at h 0 f.variables) ≡ true) awaits e.awaited in
        let b : AllBelong core.types (Calls.inside (setting_of core past hart sized) f h) x.types f.parameters vs =
        subst (λ (ty : Types). AllBelong ty (Calls.inside (setting_of core past hart sized) f h) x.types f.parameters vs) same_types e.belong in
        record {
          sizes = ss;
          is_there = ap (entered_told core vs) (entered_there (givens_at h 0 f.variables) e.awaited)
              ∙ ap (λ (z : Instance). parameters_told core.types vs z (slice_get core.functions z.function)) instance_is
              ∙ ap (parameters_told core.types vs y) function_there
              ∙ ap (λ (l : List Sized). Some (all_told core.types l (constants_of y.numbers) f.parameters vs)) own_is;
          are_right = λ g own. all_made_in (setting_of core past hart sized) core.types same_types x f y.numbers h a g own f.parameters parameters_pass vs b;
        }

    pub one_is_read : CoversFunction (setting_of core past hart sized) checks x f
    one_is_read = record {
      body = λ nu a. one_read nu a (body_of (function_read around f))
          (in_back (body_of (function_read around f)) (measure_bodies around f f.measure) (body_of (function_read around f) ∷ []) (inl refl));
      measure = λ nu a measure e. one_read nu a (body_of (measure_read around f measure))
          (in_front (body_of (measure_read around f measure)) (measure_bodies around f f.measure) (body_of (function_read around f) ∷ [])
          (measure_there f measure f.measure e));
      enters = enters_as;
    }

  pub function_is_read : NumbersApart core → GivesKinds core → ((z : Found) → IsIn z all → IsRead model all z)
      → ((z : Found) → IsIn z all → found_tested model z ≡ true) → (x : Work) (f : Function) → function_covered sized x ≡ true
      → slice_get core.functions x.function ≡ Some f → CoversFunction (setting_of core past hart sized) checks x f
  function_is_read numbers kinds read tested x f c here =
      let found = some_there (at_work sized.instances x) c in
      let s = found.0 in
      let w = working sized.instances x s found.1 in
      let y = mapped_there (sized_instance model list) list s w.is_in in
      one_is_read x f here s y.0 y.1 y.2 (function_is x s w.is) (awaited_are x s w.is) (all_same x.own s.instance.types (types_are x s w.is)) w.entered_there
      (read (F.Function y.0) (instance_there y.0 all y.1)) (function_gives core kinds f)
      ((notes_are_apart around).function f (numbers.functions x.function f here))
      ((numbers_are_given_once around).function f (numbers.functions x.function f here))
      (tested (F.Function y.0) (instance_there y.0 all y.1))

  -- ---- bodies of no function

  pub alone_read : (b : Body) → BodiesAreRead model [] [] (b ∷ []) all → EachNote (GivesNumbers model.sizing) b.notes
      → are_apart (all_noted (b ∷ [])) ≡ true → are_single (all_noted (b ∷ [])) ≡ true → body_tested model b ≡ true
      → AreRead (setting_of core past hart sized) nobody (is_found all) (body_cases model list (Some b)) b.notes
  alone_read b read gives apart single h = read_in nobody [] refl (b ∷ []) read one apart single h b (inl refl)
    where
      one : (c : Body) → IsIn c (b ∷ []) → EachNote (GivesNumbers model.sizing) c.notes
      one c (inl e) = subst (λ (d : Body). EachNote (GivesNumbers model.sizing) d.notes) (sym e) gives
      one c (inr i) = absurd i
