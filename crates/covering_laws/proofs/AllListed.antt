-- Directions of mappings that are found are read, and openings: all of a model.
use Rattle.std.proofs.Common.{◌≡◌, ◌∙◌, ap, sym, refl, subst, ℕ, ◌+◌, ◌/◌, ◌*◌, true, inl, inr, List, [], ◌∷◌}
use Rattle.std.proofs.Common.{slice_get, arith}
use Rattle.std.specs.Prelude.{Ok, Option, Some}
use Rattle.std.proofs.lemmas.Bool.{and_parts}
use Rattle.sail_types.specs.Numbers.{Positive}
use Rattle.size_values.specs.declared.sized.Sized.TheVariants as S
use Rattle.sail_core.specs.declared.model.CoreModel.{CoreModel}
use Rattle.sail_core.specs.declared.model.Direction.{Direction}
use Rattle.sail_core.specs.declared.model.Opening.{Opening}
use Rattle.pattern_leaves.specs.Settings.{Around}
use Rattle.constraint_gen.specs.Models.{around_of, around_opening, around_with}
use Rattle.value_laws.proofs.Basics.{no}
use Rattle.size_splits.specs.Bodies.{Body}
use Rattle.size_notes.specs.Bodies.{bodies_of, body_of, mapping_read, opening_body, opening_read}
use Rattle.split_laws.specs.Counted.{IsIn}
use Rattle.monomorph.specs.declared.found.Found.{Found}
use Rattle.monomorph.specs.declared.found.Found.TheVariants as F
use Rattle.sized_nodes.specs.declared.trees.Instance.{Instance}
use Rattle.monomorph.specs.Found.{instances_in}
use Rattle.monomorph.specs.Instances.{entry, found_from, model_of, one_or_none}
use Rattle.monomorph.specs.Lasts.{Model}
use Rattle.monomorph.specs.Reading.{reading_of}
use Rattle.checked_meaning.specs.Checked.{Cases, Checks}
use Rattle.note_laws.specs.Ways.{core_reached, told_of}
use Rattle.note_laws.proofs.ModelGoes.{ways_are_named}
use Rattle.soundness_steps.specs.Works.{Setting, nobody}
use Rattle.soundness_calls.specs.Directions.{Side}
use Rattle.soundness_calls.specs.Events.{entered_by}
use Rattle.node_counts.proofs.Apart.{notes_are_apart, numbers_are_given_once}
use Rattle.met_notes.specs.Covers.{AreRead, Covers, CoversDirection, DirectionsPaired, pair_of, side_at}
use Rattle.covering_laws.specs.Apart.{GivesKinds, NumbersApart}
use Rattle.covering_laws.specs.Closed.{BodiesAreRead, IsRead, MappingsAreThere, NotesAreRead}
use Rattle.covering_laws.specs.Covered.{both_fall, is_found, is_lower, ways_fall}
use Rattle.covering_laws.proofs.Across.{met_below, opening_there, pair_falls}
use Rattle.covering_laws.proofs.Bounded.{lists_are_read}
use Rattle.covering_laws.proofs.Found.{mapping_there}
use Rattle.covering_laws.proofs.Grown.{all_start, found_from_keeps}
use Rattle.covering_laws.proofs.Placed.{direction_placed}
use Rattle.covering_laws.proofs.There.{mapping_gives, mappings_are_there, opening_gives}
use Rattle.covering_laws.proofs.Working.{there}
use Rattle.covering_laws.specs.Listed.{ListsCover}
use Rattle.covering_laws.specs.Plain.{alone_cases, found_setting, is_listed, plain_checks}
use Rattle.covering_laws.proofs.Listed.{alone_read, function_is_read, is_like_by, listed_by}

module _ (core : CoreModel) (past : Positive) (hart : ℕ) (rank : ℕ → ℕ) (all : List Found)
    (accepted_all : found_from (model_of core (bodies_of core)) (entry core.reset ∷ entry core.step ∷ []) ≡ Ok all)
    (numbers : NumbersApart core) (kinds : GivesKinds core) (paired : DirectionsPaired core)
    (falls : ways_fall core rank ≡ true) where
  abbrev around : Around
  around = around_of core

  abbrev model : Model
  model = model_of core (bodies_of core)

  abbrev set : Setting
  set = found_setting core past hart all

  abbrev k : Checks
  k = plain_checks model

  there_all : MappingsAreThere model
  there_all = mappings_are_there core paired

  all_read : (z : Found) → IsIn z all → IsRead model all z
  all_read = (lists_are_read model all there_all accepted_all).1

  -- ---- a direction of a mapping that is found

  direction_read : (d : ℕ) (n : Direction) (side : Side) → is_found all d ≡ true → slice_get core.directions d ≡ Some n
      → side_at core.directions d ≡ Some side → CoversDirection set rank k d n side
  direction_read d n side found e is_its =
      let at = direction_placed around core.directions d n side e is_its in
      let b : Body = body_of (mapping_read around (pair_of side n).forwards (pair_of side n).backwards) in
      let body_there : slice_get model.bodies.mappings (d / 2) ≡ Some b = ap (slice_get model.bodies.mappings) at.half ∙ at.body_there in
      let is_in : IsIn (F.Mapping (d / 2)) all = mapping_there (d / 2) all found in
      let are : BodiesAreRead model [] [] (b ∷ []) all =
      subst (λ (o : Option Body). BodiesAreRead model [] [] (one_or_none o) all) body_there (all_read (F.Mapping (d / 2)) is_in) in
      let from_front : 2 * 0 + d ≡ d = omega arith in
      let both = and_parts (core_reached (is_lower rank d) (pair_of side n).forwards.body) (core_reached (is_lower rank d) (pair_of side n).backwards.body)
      (subst (λ (e : ℕ). both_fall rank e (pair_of side n).forwards (pair_of side n).backwards ≡ true) from_front
      (pair_falls rank core.directions 0 d n side falls e is_its)) in
      let differ = numbers.mappings at.mapping (pair_of side n) at.is_there in
      record {
        read = met_below set nobody (told_of (is_lower rank d) around) (is_found all) (k.direction d) b.notes
            (subst (λ (l : Cases). AreRead set nobody (is_found all) l b.notes) (sym (ap (alone_cases model) body_there))
            (alone_read core past hart all numbers kinds all_read b are
            (mapping_gives core kinds (pair_of side n).forwards (pair_of side n).backwards)
            ((notes_are_apart around).mapping (pair_of side n).forwards (pair_of side n).backwards differ)
            ((numbers_are_given_once around).mapping (pair_of side n).forwards (pair_of side n).backwards differ)))
            (ways_are_named (is_lower rank d) around (pair_of side n).forwards (pair_of side n).backwards both.0 both.1);
        takes = λ v is. (S.Never, refl, λ exact g. no exact);
      }

  opening_is_read : (i : ℕ) (o : Opening) → slice_get core.openings i ≡ Some o
      → AreRead set nobody (is_found all) (k.opening i) (opening_read (around_opening core i) o [] 0).notes
  opening_is_read i o e =
      let b : Body = opening_body (around_opening core i) o in
      let body_there : slice_get model.bodies.openings i ≡ Some b = opening_there (around_with core []) core.openings i o e in
      let is_in : IsIn b model.bodies.openings = there model.bodies.openings i b body_there in
      subst (λ (o : Option Body). AreRead set nobody (is_found all) (alone_cases model o) b.notes) (sym body_there)
      (alone_read core past hart all numbers kinds all_read b (by_itself b ((lists_are_read model all there_all accepted_all).0 b is_in))
      (opening_gives core kinds (around_opening core i) o)
      ((notes_are_apart (around_opening core i)).opening o (numbers.openings i o e))
      ((numbers_are_given_once (around_opening core i)).opening o (numbers.openings i o e)))
    where
      by_itself : (b : Body) → NotesAreRead (reading_of core.types model.sizing [] [] b) all b.notes → BodiesAreRead model [] [] (b ∷ []) all
      by_itself b h c (inl e) = subst (λ (d : Body). NotesAreRead (reading_of core.types model.sizing [] [] d) all d.notes) (sym e) h
      by_itself b h c (inr i) = absurd i

  -- ---- the functions that a hart enters stand first

  abbrev bare : ℕ → Instance
  bare f = record { function = f; numbers = []; types = [] }

  first_two : (more : List Instance) × (instances_in all ≡ bare core.reset ∷ bare core.step ∷ more)
  first_two = all_start model (instances_in all) all (found_from_keeps model (entry core.reset ∷ entry core.step ∷ []) all accepted_all) refl

  entered_listed : (i : ℕ) → IsIn (bare i) (instances_in all) → is_listed (instances_in all) (entered_by i) ≡ true
  entered_listed i is = listed_by (entered_by i) (instances_in all) (bare i) is (is_like_by (entered_by i) (bare i) refl refl)

  is_read : Covers set core k rank
  is_read = record {
    functions = λ x f listed own at. function_is_read core past hart all numbers kinds all_read x f listed at;
    directions = direction_read;
    openings = opening_is_read;
    step = entered_listed core.step (subst (IsIn (bare core.step)) (sym first_two.1) (inr (inl refl)));
    reset = entered_listed core.reset (subst (IsIn (bare core.reset)) (sym first_two.1) (inl refl));
  }

pub lists_cover : ListsCover
lists_cover m past hart rank all numbers kinds paired accepted falls = is_read m past hart rank all accepted numbers kinds paired falls
