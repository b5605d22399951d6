-- Mappings and openings are read by the tables of an accepted list, and so is the whole model.
use Rattle.std.proofs.Common.{◌≡◌, ◌∙◌, ap, sym, subst, ℕ, suc, ◌+◌, ◌/◌, ◌*◌, pos, Bool, true, ◌&&◌, ◌⊎◌, inl, inr, List, [], ◌∷◌, map, slice_get, arith}
use Rattle.std.specs.Prelude.{Ok, Option, Some, option_map}
use Rattle.std.specs.List.{list_all}
use Rattle.std.proofs.lemmas.Bool.{and_parts}
use Rattle.std.proofs.lemmas.Option.{slice_get-map}
use Rattle.sail_types.specs.Belongs.{belongs}
use Rattle.sail_types.specs.Numbers.{Positive}
use Rattle.sail_types.specs.declared.table.Types.{Types}
use Rattle.sail_types.specs.declared.values.Value.{Value}
use Rattle.sail_core.specs.declared.model.CoreModel.{CoreModel}
use Rattle.sail_core.specs.declared.model.Direction.{Direction}
use Rattle.sail_core.specs.declared.model.Opening.{Opening}
use Rattle.pattern_leaves.specs.Settings.{Around}
use Rattle.constraint_gen.specs.Models.{around_of, around_opening, around_with}
use Rattle.value_laws.specs.Belonging.{Integers, closed, standing}
use Rattle.size_splits.specs.Bodies.{Body}
use Rattle.size_notes.specs.Bodies.{bodies_of, body_of, mapping_read, opening_body, opening_read}
use Rattle.split_laws.specs.Counted.{IsIn}
use Rattle.monomorph.specs.declared.found.Found.{Found}
use Rattle.monomorph.specs.declared.found.Found.TheVariants as F
use Rattle.sized_nodes.specs.declared.trees.Instance.{Instance}
use Rattle.monomorph.specs.Found.{instances_in}
use Rattle.monomorph.specs.Instances.{entry, found_from, instances_of, model_of, one_or_none}
use Rattle.monomorph.specs.Lasts.{Model}
use Rattle.monomorph.specs.Reading.{reading_of}
use Rattle.sized_nodes.specs.declared.trees.NodeSizes.{NodeSizes}
use Rattle.sized_nodes.specs.declared.trees.SizedCore.{SizedCore}
use Rattle.sized_trees.specs.Bodies.{sized_body}
use Rattle.sized_trees.specs.Trees.{sized_list}
use Rattle.checked_meaning.specs.Checked.{Checks}
use Rattle.checked_meaning.specs.Fits.{has_sizes}
use Rattle.checked_meaning.specs.Items.{fixed_typ}
use Rattle.sized_meanings.specs.Sized.{cases_by, checks_by, or_none, taken}
use Rattle.note_laws.specs.Ways.{core_reached, told_of}
use Rattle.note_laws.proofs.ModelGoes.{ways_are_named}
use Rattle.soundness_steps.specs.Works.{Setting, nobody}
use Rattle.soundness_steps.specs.Noted.{OpensAs}
use Rattle.soundness_calls.specs.Events.{entered_by}
use Rattle.soundness_calls.specs.Directions.{Side, bare_type}
use Rattle.soundness_calls.proofs.Directions.{bare_closed}
use Rattle.met_notes.specs.Covers.{AreRead, Covers, CoversDirection, DirectionsPaired, pair_of, side_at}
use Rattle.node_counts.proofs.Apart.{notes_are_apart, numbers_are_given_once}
use Rattle.covering_laws.specs.Apart.{NumbersApart}
use Rattle.covering_laws.specs.Closed.{BodiesAreRead, IsRead, MappingsAreThere, NotesAreRead}
use Rattle.covering_laws.specs.Covered.{both_fall, function_covered, is_found, is_lower, ways_fall}
use Rattle.tabled_cores.specs.Cores.{all_found}
use Rattle.covering_laws.proofs.Across.{listed_of, met_below, opening_there, pair_falls}
use Rattle.covering_laws.proofs.Bounded.{lists_are_read}
use Rattle.covering_laws.proofs.Found.{mapping_there}
use Rattle.covering_laws.proofs.Grown.{first_covered, list_starts, second_covered}
use Rattle.covering_laws.proofs.Joined.{accepted}
use Rattle.covering_laws.proofs.Placed.{direction_placed}
use Rattle.covering_laws.proofs.Places.{all_in}
use Rattle.covering_laws.proofs.Read.{same_types}
use Rattle.covering_laws.proofs.There.{mappings_are_there}
use Rattle.covering_laws.proofs.Working.{there}
use Rattle.covering_laws.specs.Tables.{TablesCover, tabled_setting}
use Rattle.tabled_cores.specs.Cores.{alone_tabled, bare_tabled, core_tabled, found_tabled, mapping_tabled, takes_tabled}
use Rattle.covering_laws.proofs.TabledBare.{bare_fits, bare_opens}
use Rattle.covering_laws.proofs.TabledRead.{alone_read, function_is_read, only_so}

module _ (given : Bool) (core : CoreModel) (past : Positive) (hart : ℕ) (rank : ℕ → ℕ)
    (accepted_all : found_from (model_of core (bodies_of core)) (entry core.reset ∷ entry core.step ∷ []) ≡ Ok (all_found (model_of core (bodies_of core))))
    (tested : core_tabled given core ≡ true) (numbers : NumbersApart core) (paired : DirectionsPaired core) (falls : ways_fall core rank ≡ true) where
  abbrev around : Around
  around = around_of core

  abbrev model : Model
  model = model_of core (bodies_of core)

  abbrev all : List Found
  all = all_found model

  abbrev list : List Instance
  list = instances_in all

  abbrev c : SizedCore
  c = sized_list model list

  abbrev set : Setting
  set = tabled_setting core past hart c

  abbrev k : Checks
  k = checks_by given core c

  halves : (list_all (found_tabled given model list) all ≡ true) × (list_all (alone_tabled given model list) model.bodies.openings ≡ true)
  halves = and_parts (list_all (found_tabled given model list) all) (list_all (alone_tabled given model list) model.bodies.openings) tested

  all_pass : (z : Found) → IsIn z all → found_tabled given model list z ≡ true
  all_pass z i = all_in (found_tabled given model list) all z halves.0 i

  there_all : MappingsAreThere model
  there_all = mappings_are_there core paired

  all_read : (z : Found) → IsIn z all → IsRead model all z
  all_read = (lists_are_read model all there_all accepted_all).1

  -- the nodes of a body at its place
  nodes_there : (bs : List Body) (i : ℕ) (b : Body) → slice_get bs i ≡ Some b
      → or_none (slice_get (map (sized_body model list [] []) bs) i) ≡ sized_body model list [] [] b
  nodes_there bs i b e = ap or_none (slice_get-map (sized_body model list [] []) bs i ∙ ap (option_map (sized_body model list [] [])) e)

  -- ---- a direction of a mapping that is found

  both_pass : (i : ℕ) (b : Body) → mapping_tabled given model list i (Some b) ≡ true
      → (alone_tabled given model list b ≡ true) × (takes_tabled core.types (slice_get core.directions (2 * i)) ≡ true)
      × (takes_tabled core.types (slice_get core.directions (suc (2 * i))) ≡ true)
  both_pass i b h =
      let ahead : Bool = takes_tabled core.types (slice_get core.directions (2 * i)) in
      let back : Bool = takes_tabled core.types (slice_get core.directions (suc (2 * i))) in
      let p = and_parts (alone_tabled given model list b) (ahead && back) h in
      let q = and_parts ahead back p.1 in
      (p.0, q.0, q.1)

  -- either direction
  side_passes : (d i : ℕ) (b : Body) → mapping_tabled given model list i (Some b) ≡ true → (d ≡ 2 * i) ⊎ (d ≡ suc (2 * i))
      → (alone_tabled given model list b ≡ true) × (takes_tabled core.types (slice_get core.directions d) ≡ true)
  side_passes d i b h (inl e) =
      let p = both_pass i b h in
      (p.0, subst (λ (n : ℕ). takes_tabled core.types (slice_get core.directions n) ≡ true) (sym e) p.1)
  side_passes d i b h (inr e) =
      let p = both_pass i b h in
      (p.0, subst (λ (n : ℕ). takes_tabled core.types (slice_get core.directions n) ≡ true) (sym e) p.2)

  taken_there : (d : ℕ) (n : Direction) (v : Value) → slice_get core.directions d ≡ Some n → has_sizes core.types v (fixed_typ core.types n.parameter) ≡ true
      → taken core.types v (slice_get core.directions d) ≡ Some (fixed_typ core.types n.parameter)
  taken_there d n v e fits =
      ap (taken core.types v) e ∙ only_so (has_sizes core.types v (fixed_typ core.types n.parameter)) (fixed_typ core.types n.parameter) fits

  direction_read : (d : ℕ) (n : Direction) (side : Side) → is_found all d ≡ true → slice_get core.directions d ≡ Some n
      → side_at core.directions d ≡ Some side → CoversDirection set rank k d n side
  direction_read d n side found e is_its =
      let at = direction_placed around core.directions d n side e is_its in
      let b : Body = body_of (mapping_read around (pair_of side n).forwards (pair_of side n).backwards) in
      let body_there : slice_get model.bodies.mappings (d / 2) ≡ Some b = ap (slice_get model.bodies.mappings) at.half ∙ at.body_there in
      let is_in : IsIn (F.Mapping (d / 2)) all = mapping_there (d / 2) all found in
      let read : BodiesAreRead model [] [] (b ∷ []) all =
      subst (λ (o : Option Body). BodiesAreRead model [] [] (one_or_none o) all) body_there (all_read (F.Mapping (d / 2)) is_in) in
      let whole : mapping_tabled given model list (d / 2) (Some b) ≡ true =
      subst (λ (o : Option Body). mapping_tabled given model list (d / 2) o ≡ true) body_there (all_pass (F.Mapping (d / 2)) is_in) in
      let double : (d ≡ 2 * (d / 2)) ⊎ (d ≡ suc (2 * (d / 2))) =
      subst (λ (i : ℕ). (d ≡ 2 * i) ⊎ (d ≡ suc (2 * i))) (sym at.half) at.double in
      let passes = side_passes d (d / 2) b whole double in
      let bare : bare_tabled core.types n.parameter ≡ true = subst (λ (o : Option Direction). takes_tabled core.types o ≡ true) e passes.1 in
      let from_front : 2 * 0 + d ≡ d = omega arith in
      let both = and_parts (core_reached (is_lower rank d) (pair_of side n).forwards.body) (core_reached (is_lower rank d) (pair_of side n).backwards.body)
      (subst (λ (e : ℕ). both_fall rank e (pair_of side n).forwards (pair_of side n).backwards ≡ true) from_front
      (pair_falls rank core.directions 0 d n side falls e is_its)) in
      let differ = numbers.mappings at.mapping (pair_of side n) at.is_there in
      record {
        read = met_below set nobody (told_of (is_lower rank d) around) (is_found all) (k.direction d) b.notes
            (subst (λ (l : List NodeSizes). AreRead set nobody (is_found all) (cases_by given core.types c.instances l) b.notes)
            (sym (nodes_there model.bodies.mappings (d / 2) b body_there))
            (alone_read given core past hart b read
            ((notes_are_apart around).mapping (pair_of side n).forwards (pair_of side n).backwards differ)
            ((numbers_are_given_once around).mapping (pair_of side n).forwards (pair_of side n).backwards differ) passes.0))
            (ways_are_named (is_lower rank d) around (pair_of side n).forwards (pair_of side n).backwards both.0 both.1);
        takes = λ v is.
            let belongs_there : (g : Integers) → belongs core.types v (closed core.types (standing past g) [] (bare_type n.parameter)) ≡ true =
            λ g. subst (λ (ty : Types). belongs ty v (closed ty (standing past g) [] (bare_type n.parameter)) ≡ true) (same_types core past hart)
            (ap (belongs set.around.types v) (bare_closed set g n.parameter) ∙ is) in (
              fixed_typ core.types n.parameter,
              taken_there d n v e (bare_fits core.types past n.parameter bare (λ i. pos 0) v (belongs_there (λ i. pos 0))),
              λ exact g. subst (λ (ty : Types). OpensAs ty past nobody g (bare_type n.parameter) v (fixed_typ core.types n.parameter))
                  (sym (same_types core past hart)) (bare_opens core.types past n.parameter bare g v),
            );
      }

  opening_is_read : (i : ℕ) (o : Opening) → slice_get core.openings i ≡ Some o
      → AreRead set nobody (is_found all) (k.opening i) (opening_read (around_opening core i) o [] 0).notes
  opening_is_read i o e =
      let b : Body = opening_body (around_opening core i) o in
      let body_there : slice_get model.bodies.openings i ≡ Some b = opening_there (around_with core []) core.openings i o e in
      let is_in : IsIn b model.bodies.openings = there model.bodies.openings i b body_there in
      subst (λ (l : List NodeSizes). AreRead set nobody (is_found all) (cases_by given core.types c.instances l) b.notes)
      (sym (nodes_there model.bodies.openings i b body_there))
      (alone_read given core past hart b (alone b ((lists_are_read model all there_all accepted_all).0 b is_in))
      ((notes_are_apart (around_opening core i)).opening o (numbers.openings i o e))
      ((numbers_are_given_once (around_opening core i)).opening o (numbers.openings i o e))
      (all_in (alone_tabled given model list) model.bodies.openings b halves.1 is_in))
    where
      alone : (b : Body) → NotesAreRead (reading_of core.types model.sizing [] [] b) all b.notes → BodiesAreRead model [] [] (b ∷ []) all
      alone b h c (inl e) = subst (λ (d : Body). NotesAreRead (reading_of core.types model.sizing [] [] d) all d.notes) (sym e) h
      alone b h c (inr i) = absurd i

  pub model_is_read : function_covered c (entered_by core.step) ≡ true → function_covered c (entered_by core.reset) ≡ true → Covers set core k rank
  model_is_read step reset = record {
    functions = λ x f covered own e. function_is_read given core past hart numbers all_read all_pass x f covered own e;
    directions = direction_read;
    openings = opening_is_read;
    step = step;
    reset = reset;
  }

pub tables_cover : TablesCover
tables_cover given m past hart rank c numbers paired accept h low =
    let model : Model = model_of m (bodies_of m) in
    let found = accepted m c accept in
    let whole = listed_of model found.0 found.1 in
    let list : List Instance = instances_in (all_found model) in
    let same : c ≡ sized_list model list = found.2 ∙ ap (sized_list model) (sym whole.1) in
    let starts = list_starts model list (subst (λ (l : List Instance). instances_of model ≡ Ok l) (sym whole.1) found.1) in
    let step : function_covered (sized_list model list) (entered_by m.step) ≡ true =
    subst (λ (l : List Instance). function_covered (sized_list model l) (entered_by m.step) ≡ true) (sym starts.1)
    (second_covered model starts.0 m.reset m.step) in
    let reset : function_covered (sized_list model list) (entered_by m.reset) ≡ true =
    subst (λ (l : List Instance). function_covered (sized_list model l) (entered_by m.reset) ≡ true) (sym starts.1)
    (first_covered model starts.0 m.reset m.step) in
    subst (λ (d : SizedCore). Covers (tabled_setting m past hart d) m (checks_by given m d) rank) (sym same)
    (model_is_read given m past hart rank whole.0 h numbers paired low step reset)
