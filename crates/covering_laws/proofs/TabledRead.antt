-- Functions, and bodies of no function, are read by the tables of an accepted list.
use Rattle.std.proofs.Common.{◌≡◌, ◌∙◌, ap, sym, refl, subst, ℕ, ℤ, Bool, true, false, inl, List, [], ◌∷◌, map, slice_get}
use Rattle.std.specs.Prelude.{Option, Some, None, option_map}
use Rattle.std.proofs.lemmas.Bool.{and_parts}
use Rattle.std.proofs.lemmas.Option.{slice_get-map}
use Rattle.sail_types.specs.Numbers.{Positive}
use Rattle.sail_types.specs.Places.{an_int, only}
use Rattle.sail_types.specs.Sums.{and_then}
use Rattle.sail_types.specs.declared.table.Types.{Types}
use Rattle.sail_types.specs.declared.values.Value.{Value}
use Rattle.sail_core.specs.Numbers.{Givens, all_agree}
use Rattle.sail_core.specs.declared.model.CoreModel.{CoreModel}
use Rattle.sail_core.specs.declared.model.Function.{Function}
use Rattle.sail_core.specs.declared.tree.Core.{Core}
use Rattle.pattern_leaves.specs.Settings.{Around}
use Rattle.constraint_gen.specs.Models.{around_of}
use Rattle.value_laws.specs.Belonging.{Integers}
use Rattle.value_laws.proofs.Basics.{no, two}
use Rattle.size_values.specs.declared.sized.Sized.{Sized}
use Rattle.size_splits.specs.Bodies.{Body}
use Rattle.size_notes.specs.Bodies.{bodies_of, body_of, function_bodies, function_read, measure_bodies, measure_read}
use Rattle.split_laws.specs.Counted.{IsIn}
use Rattle.split_laws.proofs.Basics.{in_back, in_front}
use Rattle.monomorph.specs.declared.found.Found.{Found}
use Rattle.monomorph.specs.declared.found.Found.TheVariants as F
use Rattle.sized_nodes.specs.declared.trees.Instance.{Instance}
use Rattle.monomorph.specs.Found.{instances_in}
use Rattle.monomorph.specs.Instances.{model_of, or_none}
use Rattle.monomorph.specs.Lasts.{Model}
use Rattle.sized_nodes.specs.declared.trees.NodeSizes.{NodeSizes}
use Rattle.sized_nodes.specs.declared.trees.Signature.{Signature}
use Rattle.sized_nodes.specs.declared.trees.SizedInstance.{SizedInstance}
use Rattle.sized_nodes.specs.declared.trees.SizedCore.{SizedCore}
use Rattle.sized_trees.specs.Bodies.{sized_body}
use Rattle.sized_trees.specs.Trees.{sized_instance, sized_list, signature_under}
use Rattle.sized_trees.specs.Trees as Trees
use Rattle.checked_meaning.specs.Fits.{AllFit}
use Rattle.sized_meanings.specs.Sized.{cases_by, checks_by, entered, entering, joined_nodes, nodes_for, numbers_of, signature_for}
use Rattle.call_fits.specs.Calls.{AllBelong, givens_at}
use Rattle.soundness_steps.specs.Works.{IsFitted, Setting, Work, nobody}
use Rattle.soundness_steps.specs.Calls as Calls
use Rattle.soundness_steps.specs.Calls.{Enters}
use Rattle.soundness_calls.specs.Premises.{EntersAs}
use Rattle.exact_sizes.proofs.Equal.{all_same}
use Rattle.exact_sizes.proofs.Known.{none, some_there}
use Rattle.met_notes.specs.Covers.{AreRead, CoversFunction}
use Rattle.node_counts.specs.Told.{all_noted, are_apart, are_single}
use Rattle.node_counts.proofs.Apart.{notes_are_apart, numbers_are_given_once}
use Rattle.covering_laws.specs.Apart.{NumbersApart}
use Rattle.covering_laws.specs.Closed.{BodiesAreRead, IsRead, NotesAreRead}
use Rattle.covering_laws.specs.Covered.{at_work, function_covered, is_found}
use Rattle.tabled_cores.specs.Cores.{all_found}
use Rattle.tabled_cores.specs.Signed.{function_signed, parameters_signed}
use Rattle.covering_laws.specs.Tested.{all_nodes, inside}
use Rattle.covering_laws.proofs.Found.{instance_there}
use Rattle.covering_laws.proofs.Joined.{mapped_there, placed_there}
use Rattle.covering_laws.proofs.Read.{same_types}
use Rattle.covering_laws.proofs.Signed.{are_signed}
use Rattle.covering_laws.proofs.Working.{awaited_are, covered_at, function_is, types_are, working}
use Rattle.covering_laws.specs.Tables.{tabled_setting}
use Rattle.tabled_cores.specs.Bodies.{bodies_tabled}
use Rattle.tabled_cores.specs.Cores.{alone_tabled, found_tabled, instance_tabled}
use Rattle.covering_laws.proofs.TabledNodes.{alone_there, nodes_joined}
use Rattle.covering_laws.proofs.TabledNotes.{bodies_met}

pub only_so : {A : Type 0} (b : Bool) (x : A) → b ≡ true → only b x ≡ Some x
only_so true x h = refl
only_so false x h = no h

module _ (given : Bool) (core : CoreModel) (past : Positive) (hart : ℕ) where
  abbrev pub around : Around
  around = around_of core

  abbrev pub model : Model
  model = model_of core (bodies_of core)

  -- all that is found, and its instances
  abbrev pub all : List Found
  all = all_found model

  abbrev pub list : List Instance
  list = instances_in all

  abbrev pub sized : SizedCore
  sized = sized_list model list

  abbrev pub set : Setting
  set = tabled_setting core past hart sized

  types_are_kept : around.types ≡ core.types
  types_are_kept = same_types core past hart

  -- bodies that are read together
  read_in : (x : Work) → AllFit around.types x.types x.own → (zs : List (Option ℤ)) → x.instance.numbers ≡ map (option_map an_int) zs → (bs : List Body)
      → BodiesAreRead model zs x.own bs all → are_apart (all_noted bs) ≡ true → are_single (all_noted bs) ≡ true
      → bodies_tabled given core.types model.sizing zs x.own list bs ≡ true → (b : Body) → IsIn b bs
      → AreRead set x (is_found all)
      (cases_by given core.types sized.instances (all_nodes core.types model.sizing zs x.own list (all_noted bs))) b.notes
  read_in x own_fit zs awaits bs read apart single h b i =
      subst (λ (ty : Types). AreRead set x (is_found all) (cases_by given ty sized.instances (all_nodes ty model.sizing zs x.own list (all_noted bs))) b.notes)
      types_are_kept
      (bodies_met given set x model.sizing zs awaits list sized.instances (placed_there model list) (covered_at sized) all (λ d k. k) refl own_fit bs
      (λ c k. subst (λ (ty : Types). NotesAreRead (inside ty model.sizing zs x.own c) all c.notes) (sym types_are_kept) (read c k)) apart single
      (subst (λ (ty : Types). bodies_tabled given ty model.sizing zs x.own list bs ≡ true) (sym types_are_kept) h) b i)

  -- ---- functions

  bodies_there : (i : ℕ) (f : Function) → slice_get core.functions i ≡ Some f → or_none (slice_get model.bodies.functions i) ≡ function_bodies around f
  bodies_there i f e = ap or_none (slice_get-map (function_bodies around) core.functions i ∙ ap (option_map (function_bodies around)) e)

  measure_there : (f : Function) (measure : Core) (o : Option Core) → o ≡ Some measure
      → IsIn (body_of (measure_read around f measure)) (measure_bodies around f o)
  measure_there f measure None e = none e
  measure_there f measure (Some c) e = inl (ap (λ (d : Core). body_of (measure_read around f d)) (sym (cc e)))

  module _ (x : Work) (f : Function) (here : slice_get core.functions x.function ≡ Some f) (s : SizedInstance) (y : Instance) (is_in : IsIn y list)
      (same : s ≡ sized_instance model list y) (function : s.instance.function ≡ x.function) (numbers : numbers_of s.instance ≡ x.instance.numbers)
      (owns : x.own ≡ s.instance.types)
      (entered_there : (nu : Givens) → all_agree x.instance.numbers nu ≡ true → entered sized.instances x.function x.instance.place nu ≡ Some s)
      (read : IsRead model all (F.Function y)) (apart : are_apart (all_noted (function_bodies around f)) ≡ true)
      (single : are_single (all_noted (function_bodies around f)) ≡ true) (tested : instance_tabled given model list y ≡ true)
      (own_fit : AllFit around.types x.types x.own) where
    instance_is : s.instance ≡ y
    instance_is = ap (λ (z : SizedInstance). z.instance) same

    awaits : x.instance.numbers ≡ map (option_map an_int) y.numbers
    awaits = sym numbers ∙ ap numbers_of instance_is

    own_is : y.types ≡ x.own
    own_is = sym (owns ∙ ap (λ (z : Instance). z.types) instance_is)

    place_is : y.function ≡ x.function
    place_is = ap (λ (z : Instance). z.function) (sym instance_is) ∙ function

    bodies_are : or_none (slice_get model.bodies.functions y.function) ≡ function_bodies around f
    bodies_are = ap (λ (i : ℕ). or_none (slice_get model.bodies.functions i)) place_is ∙ bodies_there x.function f here

    function_there : slice_get core.functions y.function ≡ Some f
    function_there = ap (slice_get core.functions) place_is ∙ here

    abbrev whole : List Sized → List Body → Bool
    whole own bs = bodies_tabled given core.types model.sizing y.numbers own list bs

    abbrev tests : (whole y.types (or_none (slice_get model.bodies.functions y.function)) ≡ true)
        × (function_signed given core.types y (slice_get core.functions y.function) ≡ true)
    tests =
        and_parts (whole y.types (or_none (slice_get model.bodies.functions y.function)))
        (function_signed given core.types y (slice_get core.functions y.function)) tested

    nodes_are : (nu : Givens) → all_agree x.instance.numbers nu ≡ true → nodes_for (entered sized.instances x.function x.instance.place nu)
        ≡ all_nodes core.types model.sizing y.numbers x.own list (all_noted (function_bodies around f))
    nodes_are nu a =
        ap nodes_for (entered_there nu a)
        ∙ ap (λ (z : SizedInstance). joined_nodes z.bodies) same
        ∙ nodes_joined model list y.numbers y.types (or_none (slice_get model.bodies.functions y.function))
        ∙ ap (λ (l : List Body). all_nodes core.types model.sizing y.numbers y.types list (all_noted l)) bodies_are
        ∙ ap (λ (l : List Sized). all_nodes core.types model.sizing y.numbers l list (all_noted (function_bodies around f))) own_is

    bodies_pass : whole x.own (function_bodies around f) ≡ true
    bodies_pass =
        subst (λ (l : List Sized). whole l (function_bodies around f) ≡ true) own_is
        (subst (λ (l : List Body). whole y.types l ≡ true) bodies_are tests.0)

    bodies_read : BodiesAreRead model y.numbers x.own (function_bodies around f) all
    bodies_read =
        subst (λ (l : List Sized). BodiesAreRead model y.numbers l (function_bodies around f) all) own_is
        (subst (λ (l : List Body). BodiesAreRead model y.numbers y.types l all) bodies_are read)

    one_read : (nu : Givens) → all_agree x.instance.numbers nu ≡ true → (b : Body) → IsIn b (function_bodies around f)
        → AreRead set x (is_found all) ((checks_by given core sized).function x.function x.instance.place nu) b.notes
    one_read nu a b i =
        subst (λ (l : List NodeSizes). AreRead set x (is_found all) (cases_by given core.types sized.instances l) b.notes) (sym (nodes_are nu a))
        (read_in x own_fit y.numbers awaits (function_bodies around f) bodies_read apart single bodies_pass b i)

    abbrev instance_at : Instance
    instance_at = record { function = x.function; numbers = y.numbers; types = x.own }

    same_instance : y ≡ instance_at
    same_instance = λ j. record { function = place_is j; numbers = y.numbers; types = own_is j }

    parameters_pass : parameters_signed given core.types instance_at f ≡ true
    parameters_pass =
        subst (λ (z : Instance). parameters_signed given core.types z f ≡ true) same_instance
        (subst (λ (o : Option Function). function_signed given core.types y o ≡ true) function_there tests.1)

    signature_is : s.signature ≡ Some (signature_under core.types instance_at f)
    signature_is =
        ap (λ (z : SizedInstance). z.signature) same
        ∙ ap (Trees.signature_for core.types y) function_there
        ∙ ap (λ (z : Instance). Some (signature_under core.types z f)) same_instance

    enters_as : (vs : List Value) (h : Integers) (e : Enters set x f vs h) → EntersAs set (checks_by given core sized) x f vs h e
    enters_as vs h e =
        let a : all_agree (map (option_map an_int) y.numbers) (givens_at h 0 f.variables) ≡ true =
        subst (λ ns. all_agree ns (givens_at h 0 f.variables) ≡ true) awaits e.awaited in
        let b : AllBelong core.types (Calls.inside set f h) x.types f.parameters vs =
        subst (λ (ty : Types). AllBelong ty (Calls.inside set f h) x.types f.parameters vs) types_are_kept e.belong in
        let fit : AllFit core.types x.types x.own = subst (λ (ty : Types). AllFit ty x.types x.own) types_are_kept own_fit in
        let signed = are_signed given set core.types types_are_kept x fit f y.numbers h a parameters_pass vs b in
        record {
          sizes = signed.sizes;
          is_there = ap (λ (o : Option SizedInstance). and_then (signature_for o) (entering given core.types vs))
              (entered_there (givens_at h 0 f.variables) e.awaited)
              ∙ ap (λ (o : Option Signature). and_then o (entering given core.types vs)) signature_is
              ∙ signed.are_there;
          are_right = signed.are_right;
        }

    pub one_is_read : CoversFunction set (checks_by given core sized) x f
    one_is_read = record {
      body = λ nu a. one_read nu a (body_of (function_read around f))
          (in_back (body_of (function_read around f)) (measure_bodies around f f.measure) (body_of (function_read around f) ∷ []) (inl refl));
      measure = λ nu a measure e. one_read nu a (body_of (measure_read around f measure))
          (in_front (body_of (measure_read around f measure)) (measure_bodies around f f.measure) (body_of (function_read around f) ∷ [])
          (measure_there f measure f.measure e));
      enters = enters_as;
    }

  pub function_is_read : NumbersApart core → ((z : Found) → IsIn z all → IsRead model all z)
      → ((z : Found) → IsIn z all → found_tabled given model list z ≡ true) → (x : Work) (f : Function) → function_covered sized x ≡ true
      → (IsFitted set → AllFit around.types x.types x.own) → slice_get core.functions x.function ≡ Some f → CoversFunction set (checks_by given core sized) x f
  function_is_read numbers read tested x f c own_fit here =
      let found = some_there (at_work sized.instances x) c in
      let s = found.0 in
      let w = working sized.instances x s found.1 in
      let y = mapped_there (sized_instance model list) list s w.is_in in
      one_is_read x f here s y.0 y.1 y.2 (function_is x s w.is) (awaited_are x s w.is) (all_same x.own s.instance.types (types_are x s w.is)) w.entered_there
      (read (F.Function y.0) (instance_there y.0 all y.1)) ((notes_are_apart around).function f (numbers.functions x.function f here))
      ((numbers_are_given_once around).function f (numbers.functions x.function f here)) (tested (F.Function y.0) (instance_there y.0 all y.1)) (own_fit refl)

  -- ---- bodies of no function

  pub alone_read : (b : Body) → BodiesAreRead model [] [] (b ∷ []) all → are_apart (all_noted (b ∷ [])) ≡ true → are_single (all_noted (b ∷ [])) ≡ true
      → alone_tabled given model list b ≡ true
      → AreRead set nobody (is_found all) (cases_by given core.types sized.instances (sized_body model list [] [] b)) b.notes
  alone_read b read apart single h =
      subst (λ (l : List NodeSizes). AreRead set nobody (is_found all) (cases_by given core.types sized.instances l) b.notes)
      (sym (alone_there model list [] [] b))
      (read_in nobody tt [] refl (b ∷ []) read apart single (two (alone_tabled given model list b) true h refl) b (inl refl))
