-- Functions at work for the numbers of a listed instance are read, and bodies of no function.
use Rattle.std.proofs.Common.{◌≡◌, ◌∙◌, ap, sym, refl, subst, ℕ, nat_eq, ℤ, Bool, true, false, ◌||◌, inl, inr, List, [], ◌∷◌, map}
use Rattle.std.proofs.Common.{slice_get}
use Rattle.std.specs.Prelude.{Option, Some, None, option_map}
use Rattle.std.proofs.lemmas.Bool.{and_parts}
use Rattle.std.proofs.lemmas.Bool.Decides.{Decides-eqb}
use Rattle.std.proofs.lemmas.Option.{slice_get-map}
use Rattle.sail_types.specs.Numbers.{Positive}
use Rattle.sail_types.specs.Places.{Given, an_int}
use Rattle.sail_types.specs.declared.table.Types.{Types}
use Rattle.sail_types.specs.declared.types.Typ.{Typ}
use Rattle.sail_types.specs.declared.values.Value.{Value}
use Rattle.sail_core.specs.Numbers.{Givens, Instance as Awaits}
use Rattle.sail_core.specs.declared.model.CoreModel.{CoreModel}
use Rattle.sail_core.specs.declared.model.Function.{Function}
use Rattle.sail_core.specs.declared.tree.Core.{Core}
use Rattle.pattern_leaves.specs.Settings.{Around}
use Rattle.constraint_gen.specs.Models.{around_of}
use Rattle.value_laws.specs.Belonging.{Integers}
use Rattle.value_laws.proofs.Basics.{no, two}
use Rattle.call_fits.specs.Calls.{AllBelong}
use Rattle.size_values.specs.declared.sized.Sized.{Sized}
use Rattle.size_splits.specs.Bodies.{Body}
use Rattle.size_notes.specs.Bodies.{bodies_of, body_of, function_bodies, function_read, measure_bodies, measure_read}
use Rattle.split_laws.specs.Counted.{IsIn}
use Rattle.split_laws.proofs.Basics.{either, in_back, in_front, or_cases}
use Rattle.monomorph.specs.declared.found.Found.{Found}
use Rattle.monomorph.specs.declared.found.Found.TheVariants as F
use Rattle.sized_nodes.specs.declared.trees.Instance.{Instance}
use Rattle.monomorph.specs.Found.{instances_in}
use Rattle.monomorph.specs.Instances.{model_of, or_none}
use Rattle.monomorph.specs.Lasts.{Model}
use Rattle.checked_meaning.specs.Checked.{Checks}
use Rattle.sized_nodes.specs.declared.trees.SizedInstance.{SizedInstance}
use Rattle.sized_trees.specs.Trees.{sized_instance, sized_instances}
use Rattle.sized_meanings.specs.Sized.{numbers_of}
use Rattle.soundness_steps.specs.Works.{Setting, Work, nobody}
use Rattle.soundness_steps.specs.Calls as Calls
use Rattle.soundness_calls.specs.Premises.{AllMade}
use Rattle.note_laws.specs.Notes.{EachNote}
use Rattle.exact_sizes.proofs.Known.{none}
use Rattle.node_counts.specs.Told.{all_noted, are_apart, are_single}
use Rattle.node_counts.proofs.Apart.{notes_are_apart, numbers_are_given_once}
use Rattle.met_notes.specs.Covers.{AreRead, CoversFunction}
use Rattle.covering_laws.specs.Apart.{GivesKinds, NumbersApart}
use Rattle.covering_laws.specs.Closed.{BodiesAreRead, IsRead, NotesAreRead}
use Rattle.covering_laws.specs.Covered.{is_found, same_numbers}
use Rattle.covering_laws.specs.Laws.{AreCovered}
use Rattle.covering_laws.specs.Tested.{inside}
use Rattle.covering_laws.proofs.Found.{instance_there, place_there}
use Rattle.covering_laws.proofs.Joined.{mapped_there, placed_there}
use Rattle.covering_laws.proofs.KindsGiven.{GivesNumbers}
use Rattle.covering_laws.proofs.Read.{same_types}
use Rattle.covering_laws.proofs.There.{function_gives}
use Rattle.covering_laws.proofs.Working.{numbers_are, numbers_themselves, there}
use Rattle.covering_laws.specs.Plain.{alone_cases, any_types, found_setting, is_like, is_listed}
use Rattle.covering_laws.specs.Plain.{plain_cases, plain_checks}
use Rattle.covering_laws.proofs.Plainly.{bodies_met}

-- ---- which functions at work are listed

like_there : (x : Work) (list : List Instance) → is_listed list x ≡ true → (y : Instance) × IsIn y list × (is_like x y ≡ true)
like_there x [] h = no h
like_there x (y ∷ ys) h = either (or_cases (is_like x y) (is_listed ys x) h) (λ e. (y, inl refl, e)) (λ e. behind (like_there x ys e))
  where
    behind : ((z : Instance) × IsIn z ys × (is_like x z ≡ true)) → (z : Instance) × IsIn z (y ∷ ys) × (is_like x z ≡ true)
    behind k = (k.0, inr k.1, k.2)

or_first : (b c : Bool) → b ≡ true → (b || c) ≡ true
or_first true c h = refl
or_first false c h = no h

or_last : (b c : Bool) → c ≡ true → (b || c) ≡ true
or_last true c h = refl
or_last false c h = h

pub listed_by : (x : Work) (list : List Instance) (y : Instance) → IsIn y list → is_like x y ≡ true → is_listed list x ≡ true
listed_by x [] y i h = absurd i
listed_by x (z ∷ zs) y (inl e) h = or_first (is_like x z) (is_listed zs x) (subst (λ (w : Instance). is_like x w ≡ true) e h)
listed_by x (z ∷ zs) y (inr i) h = or_last (is_like x z) (is_listed zs x) (listed_by x zs y i h)

pub is_like_by : (x : Work) (y : Instance) → y.function ≡ x.function → numbers_of y ≡ x.instance.numbers → is_like x y ≡ true
is_like_by x y function numbers =
    two (nat_eq y.function x.function) (same_numbers (numbers_of y) x.instance.numbers) ((Decides-eqb y.function x.function).1 function)
    (subst (λ (ns : List (Option Given)). same_numbers (numbers_of y) ns ≡ true) numbers (numbers_themselves (numbers_of y)))

-- ---- arguments come in, as many as there are parameters

made_any : (set : Setting) (x : Work) (f : Function) (h g : Integers) (types : Types) → set.covered.exact ≡ false → (ts : List Typ) (vs : List Value)
    → AllBelong types (Calls.inside set f h) x.types ts vs → AllMade set x f g ts vs (any_types vs)
made_any set x f h g types loose [] [] b = tt
made_any set x f h g types loose [] (v ∷ vs) b = absurd b
made_any set x f h g types loose (t ∷ ts) [] b = absurd b
made_any set x f h g types loose (t ∷ ts) (v ∷ vs) b = ((λ exact. no (sym loose ∙ exact)), made_any set x f h g types loose ts vs b.1)

module _ (core : CoreModel) (past : Positive) (hart : ℕ) (all : List Found) (numbers : NumbersApart core) (kinds : GivesKinds core)
    (read : (z : Found) → IsIn z all → IsRead (model_of core (bodies_of core)) all z) where
  abbrev around : Around
  around = around_of core

  abbrev model : Model
  model = model_of core (bodies_of core)

  abbrev list : List Instance
  list = instances_in all

  abbrev instances : List SizedInstance
  instances = sized_instances model list list

  abbrev set : Setting
  set = found_setting core past hart all

  abbrev checks : Checks
  checks = plain_checks model

  abbrev types_are : around.types ≡ core.types
  types_are = same_types core past hart

  like : (y : Instance) → IsIn y list → (w : Work) → y.function ≡ w.function → numbers_of y ≡ w.instance.numbers → set.covered.function w ≡ true
  like y i w function given = listed_by w list y i (is_like_by w y function given)

  covers : AreCovered set instances
  covers p s w at function is owns =
      let y = mapped_there (sized_instance model list) list s (there instances p s at) in
      let same : s.instance ≡ y.0 = ap (λ (z : SizedInstance). z.instance) y.2 in
      like y.0 y.1 w (ap (λ (z : Instance). z.function) (sym same) ∙ function) (ap numbers_of (sym same) ∙ ap (λ (i : Awaits). i.numbers) (sym is))

  -- bodies that are read together
  pub read_in : (x : Work) (zs : List (Option ℤ)) → x.instance.numbers ≡ map (option_map an_int) zs → (own : List Sized) (bs : List Body)
      → BodiesAreRead model zs own bs all → ((b : Body) → IsIn b bs → EachNote (GivesNumbers model.sizing) b.notes) → are_apart (all_noted bs) ≡ true
      → are_single (all_noted bs) ≡ true → (b : Body) → IsIn b bs
      → AreRead set x (is_found all) (plain_cases core.types model.sizing (all_noted bs)) b.notes
  read_in x zs awaits own bs are gives apart single b i =
      subst (λ (ty : Types). AreRead set x (is_found all) (plain_cases ty model.sizing (all_noted bs)) b.notes) types_are
      (bodies_met set refl refl x model.sizing zs awaits own list instances (placed_there model list) covers like all
      (λ y k. place_there y all k) (λ d k. k) bs
      (λ c k. subst (λ (ty : Types). NotesAreRead (inside ty model.sizing zs own c) all c.notes) (sym types_are) (are c k)) gives apart single b i)

  -- ---- functions

  bodies_there : (i : ℕ) (f : Function) → slice_get core.functions i ≡ Some f → or_none (slice_get model.bodies.functions i) ≡ function_bodies around f
  bodies_there i f e = ap or_none (slice_get-map (function_bodies around) core.functions i ∙ ap (option_map (function_bodies around)) e)

  measure_there : (f : Function) (measure : Core) (o : Option Core) → o ≡ Some measure
      → IsIn (body_of (measure_read around f measure)) (measure_bodies around f o)
  measure_there f measure None e = none e
  measure_there f measure (Some c) e = inl (ap (λ (d : Core). body_of (measure_read around f d)) (sym (cc e)))

  module _ (x : Work) (f : Function) (here : slice_get core.functions x.function ≡ Some f) (y : Instance) (is_in : IsIn y list) (is : is_like x y ≡ true) where
    abbrev parts : (nat_eq y.function x.function ≡ true) × (same_numbers (numbers_of y) x.instance.numbers ≡ true)
    parts = and_parts (nat_eq y.function x.function) (same_numbers (numbers_of y) x.instance.numbers) is

    function_is : y.function ≡ x.function
    function_is = (Decides-eqb y.function x.function).0 parts.0

    awaits : x.instance.numbers ≡ map (option_map an_int) y.numbers
    awaits = sym (numbers_are (numbers_of y) x.instance.numbers parts.1)

    bodies_are : or_none (slice_get model.bodies.functions x.function) ≡ function_bodies around f
    bodies_are = bodies_there x.function f here

    bodies_read : BodiesAreRead model y.numbers y.types (function_bodies around f) all
    bodies_read =
        subst (λ (l : List Body). BodiesAreRead model y.numbers y.types l all)
        (ap (λ (i : ℕ). or_none (slice_get model.bodies.functions i)) function_is ∙ bodies_are) (read (F.Function y) (instance_there y all is_in))

    one_read : (nu : Givens) (b : Body) → IsIn b (function_bodies around f)
        → AreRead set x (is_found all) (checks.function x.function x.instance.place nu) b.notes
    one_read nu b i =
        subst (λ (l : List Body). AreRead set x (is_found all) (plain_cases core.types model.sizing (all_noted l)) b.notes) (sym bodies_are)
        (read_in x y.numbers awaits y.types (function_bodies around f) bodies_read (function_gives core kinds f)
        ((notes_are_apart around).function f (numbers.functions x.function f here))
        ((numbers_are_given_once around).function f (numbers.functions x.function f here)) b i)

    pub one_is_read : CoversFunction set checks x f
    one_is_read = record {
      body = λ nu a. one_read nu (body_of (function_read around f))
          (in_back (body_of (function_read around f)) (measure_bodies around f f.measure) (body_of (function_read around f) ∷ []) (inl refl));
      measure = λ nu a measure e. one_read nu (body_of (measure_read around f measure))
          (in_front (body_of (measure_read around f measure)) (measure_bodies around f f.measure) (body_of (function_read around f) ∷ [])
          (measure_there f measure f.measure e));
      enters = λ vs h e. record {
        sizes = any_types vs;
        is_there = refl;
        are_right = λ g own. made_any set x f h g set.around.types refl f.parameters vs e.belong;
      };
    }

  pub function_is_read : (x : Work) (f : Function) → is_listed list x ≡ true → slice_get core.functions x.function ≡ Some f
      → CoversFunction set checks x f
  function_is_read x f c here = let y = like_there x list c in one_is_read x f here y.0 y.1 y.2

  -- ---- bodies of no function

  pub alone_read : (b : Body) → BodiesAreRead model [] [] (b ∷ []) all → EachNote (GivesNumbers model.sizing) b.notes → are_apart (all_noted (b ∷ [])) ≡ true
      → are_single (all_noted (b ∷ [])) ≡ true → AreRead set nobody (is_found all) (alone_cases model (Some b)) b.notes
  alone_read b are gives apart single = read_in nobody [] refl [] (b ∷ []) are one apart single b (inl refl)
    where
      one : (c : Body) → IsIn c (b ∷ []) → EachNote (GivesNumbers model.sizing) c.notes
      one c (inl e) = subst (λ (d : Body). EachNote (GivesNumbers model.sizing) d.notes) (sym e) gives
      one c (inr i) = absurd i
