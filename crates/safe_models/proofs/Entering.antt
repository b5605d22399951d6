-- The instances that events enter: `reset` the first one, `step` the first or the second.
use Rattle.std.proofs.Common.{◌≡◌, ◌∙◌, ◌<◌, ◌≤◌, ap, sym, refl, subst, ℕ, nat_eq, Bool, true, false, ◌&&◌, List, [], ◌∷◌, slice_get, if◌then◌else◌, arith}
use Rattle.std.specs.Prelude.{Some, None, Ok}
use Rattle.std.proofs.lemmas.Bool.Decides.{Decides-eqb}
use Rattle.sail_types.specs.Places.{first, only}
use Rattle.sail_types.specs.declared.values.Value.TheVariants as V
use Rattle.sail_syntax.specs.declared.definitions.Def.{Def}
use Rattle.scattered.specs.Gathered.{gathered}
use Rattle.sail_core.specs.Numbers.{all_agree}
use Rattle.sail_core.specs.declared.model.CoreModel.{CoreModel}
use Rattle.sail_core.specs.declared.model.Function.{Function}
use Rattle.sail_types.specs.declared.table.Parameter.{Parameter}
use Rattle.value_laws.specs.Belonging.{Integers}
use Rattle.value_laws.proofs.Basics.{no}
use Rattle.call_fits.specs.Calls.{givens_at}
use Rattle.size_laws.proofs.Said.{one}
use Rattle.size_notes.specs.Bodies.{bodies_of}
use Rattle.monomorph.specs.Instances.{model_of}
use Rattle.monomorph.specs.Lasts.{Model}
use Rattle.sized_nodes.specs.declared.trees.Instance.{Instance}
use Rattle.sized_trees.specs.Trees.{sized_core, sized_instance, sized_instances, sized_list}
use Rattle.sized_nodes.specs.declared.trees.SizedCore.{SizedCore}
use Rattle.sized_nodes.specs.declared.trees.SizedInstance.{SizedInstance}
use Rattle.sized_meanings.specs.Sized.{entered, first_for}
use Rattle.covering_laws.proofs.Grown.{list_starts}
use Rattle.covering_laws.proofs.Joined.{accepted as accepted_list}
use Rattle.known_texts.specs.Accepted.{NothingFails, NothingOfItFails}
use Rattle.known_texts.specs.KnownTexts.{DefinitionsAreSigned}
use Rattle.known_texts.specs.Written.{IsWritten}
use Rattle.text_progress.specs.Laws.{core_of}
use Rattle.text_progress.specs.ParsedTexts.{ParsedTextsAreWritten}
use Rattle.sail_compile.specs.Models.{end_of_all, joined}
use Rattle.soundness_steps.specs.Works.{Coverage, Setting}
use Rattle.soundness_calls.specs.Events.{EventEnters}
use Rattle.whole_runs.specs.Never.{setting_in}
use Rattle.whole_runs.proofs.Events.{functions_kept}
use Rattle.safe_models.proofs.Found.{found_throughout}
use Rattle.safe_models.specs.RunEvents.{IsEntered}
use Rattle.safe_models.specs.RunLaws.{EventsEnter}

-- ---- in a list that begins with them

module _ (m : Model) (more : List Instance) (a b : ℕ) where
  abbrev bare : ℕ → Instance
  bare f = record { function = f; numbers = []; types = [] }

  abbrev list : List Instance
  list = bare a ∷ bare b ∷ more

  abbrev front : SizedInstance
  front = sized_instance m list (bare a)

  abbrev second : SizedInstance
  second = sized_instance m list (bare b)

  abbrev others : List SizedInstance
  others = sized_instances m list more

  itself : (i : ℕ) → nat_eq i i ≡ true
  itself i = (Decides-eqb i i).1 refl

  front_enters : (i : ℕ) → nat_eq a i ≡ true → entered (sized_list m list).instances i 0 [] ≡ Some front
  front_enters i h = ap (λ (q : Bool). first (only (q && true) front) (first_for i [] (front ∷ second ∷ others))) h

  second_enters : nat_eq a b ≡ false → entered (sized_list m list).instances b 0 [] ≡ Some second
  second_enters h =
      ap (λ (q : Bool). first (only (q && true) front)
      (if q && true then Some front else (if nat_eq b b && true then Some second else first_for b [] others))) h
      ∙ ap (λ (q : Bool). if q && true then Some second else first_for b [] others) (itself b)

-- ---- of a core

module _ (core : CoreModel) (c : SizedCore) (found : sized_core core ≡ Ok c) where
  abbrev model : Model
  model = model_of core (bodies_of core)

  reset_enters : (f : Function) → slice_get core.functions core.reset ≡ Some f → f.variables ≡ [] → IsEntered core c core.reset 0
  reset_enters f e plain =
      let k = accepted_list core c found in
      let starts = list_starts model k.0 k.1 in
      let a : ℕ = core.reset in
      let b : ℕ = core.step in
      subst (λ (d : SizedCore). IsEntered core d a 0) (sym (k.2 ∙ ap (sized_list model) starts.1)) (record {
        function = f;
        is_it = e;
        plain = plain;
        instance = front model starts.0 a b;
        is_there = refl;
        is_of = refl;
        bare = refl;
        first = front_enters model starts.0 a b a (itself model starts.0 a b a);
      })

  step_enters : (f : Function) → slice_get core.functions core.step ≡ Some f → f.variables ≡ [] → IsEntered core c core.step 1
  step_enters f e plain =
      let k = accepted_list core c found in
      let starts = list_starts model k.0 k.1 in
      let a : ℕ = core.reset in
      let b : ℕ = core.step in
      subst (λ (d : SizedCore). IsEntered core d b 1) (sym (k.2 ∙ ap (sized_list model) starts.1)) (record {
        function = f;
        is_it = e;
        plain = plain;
        instance = second model starts.0 a b;
        is_there = refl;
        is_of = refl;
        bare = refl;
        first = by starts.0 (nat_eq a b) refl;
      })
    where
      -- where `step` is `reset`, both instances are one
      by : (more : List Instance) (q : Bool) → nat_eq core.reset core.step ≡ q
          → entered (sized_list model (list model more core.reset core.step)).instances core.step 0 [] ≡ Some (second model more core.reset core.step)
      by more true h =
          front_enters model more core.reset core.step core.step h
          ∙ ap (λ (f : ℕ). Some (sized_instance model (list model more core.reset core.step) (bare model more core.reset core.step f)))
          ((Decides-eqb core.reset core.step).0 h)
      by more false h = second_enters model more core.reset core.step h

-- ---- of an accepted text

no_variables : (h : Integers) (ps : List Parameter) → all_agree [] (givens_at h 0 ps) ≡ true → ps ≡ []
no_variables h [] e = refl
no_variables h (p ∷ ps) e = no e

-- where all is covered
abbrev all_covered : Coverage
all_covered = record { function = λ x. true; direction = λ d. true; exact = false; fitted = false }

module _ (m : CoreModel) (hart : ℕ) where
  abbrev set : Setting
  set = setting_in m one hart all_covered

  it_there : (i : ℕ) (vs : List _) (e : EventEnters set i vs) → slice_get m.functions i ≡ Some e.it
  it_there i vs e = subst (λ fs. slice_get fs i ≡ Some e.it) (functions_kept m [] m.openings) e.enters.is_it

  it_plain : (i : ℕ) (vs : List _) (e : EventEnters set i vs) → e.it.variables ≡ []
  it_plain i vs e = no_variables e.integers e.it.variables e.enters.awaited

pub events_enter : ParsedTextsAreWritten → NothingOfItFails → DefinitionsAreSigned → EventsEnter
events_enter written nothing sign texts made accepted cycle c whole =
    let text : List Def = gathered accepted.definitions in
    let m : CoreModel = core_of text cycle in
    let clear : NothingFails text = nothing text (end_of_all texts) accepted.tables in
    let as_written : IsWritten text = (written (joined texts accepted.tokens) accepted.definitions accepted.parsed).1 in
    let few : 1 ≤ 8 = omega arith in
    let low : 0 < 1 = omega arith in
    let found = found_throughout text cycle (sign text (end_of_all texts) accepted.tables as_written) clear.step clear.reset one all_covered 1 few 0 low in
    let r = found.reset refl 0 in
    let s = found.step refl in (
      reset_enters m c whole r.it (it_there m 0 m.reset _ r) (it_plain m 0 m.reset _ r),
      step_enters m c whole s.it (it_there m 0 m.step _ s) (it_plain m 0 m.step _ s),
    )
