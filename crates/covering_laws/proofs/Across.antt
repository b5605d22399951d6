-- Directions of mappings that are found are read, and take what belongs to their parameters; so are openings.
use Rattle.std.proofs.Common.{◌≡◌, ◌∙◌, ap, sym, refl, subst, ℕ, zero, suc, ◌+◌, ◌/◌, ◌*◌, Bool, true, ◌&&◌, ◌⊎◌, inl, inr, List, [], ◌∷◌}
use Rattle.std.proofs.Common.{slice_get, take, arith}
use Rattle.std.specs.Prelude.{Err, Ok, Option, Some, option_map}
use Rattle.std.specs.List.{list_all}
use Rattle.std.proofs.lemmas.Bool.{and_from, and_parts}
use Rattle.sail_types.specs.Belongs.{belongs}
use Rattle.sail_types.specs.Numbers.{Positive}
use Rattle.sail_types.specs.declared.table.Types.{Types}
use Rattle.sail_types.specs.declared.types.Typ.{Typ}
use Rattle.sail_types.specs.declared.values.Value.{Value}
use Rattle.sail_core.specs.declared.model.CoreModel.{CoreModel}
use Rattle.sail_core.specs.declared.model.Direction.{Direction}
use Rattle.sail_core.specs.declared.model.Opening.{Opening}
use Rattle.value_indices.specs.Steps.{Note, call_note, given_note, goal_note, made_note, name_note, size_note, way_note}
use Rattle.pattern_leaves.specs.Settings.{Around}
use Rattle.constraint_gen.specs.Models.{around_of, around_opening, around_with, behind_opening, lets_behind}
use Rattle.value_laws.specs.Belonging.{Integers, is_of, standing}
use Rattle.size_values.specs.Numbers.{known_at, nothing_known}
use Rattle.size_laws.specs.Told.{typ_told}
use Rattle.size_splits.specs.Bodies.{Body}
use Rattle.size_notes.specs.Bodies.{bodies_of, body_of, mapping_read, opening_bodies, opening_body, opening_read}
use Rattle.monomorph.specs.declared.found.Found.{Found}
use Rattle.monomorph.specs.declared.found.Found.TheVariants as F
use Rattle.sized_nodes.specs.declared.trees.Instance.{Instance}
use Rattle.monomorph.specs.Found.{Answer, instances_in}
use Rattle.monomorph.specs.Instances.{entry, found_from, instances_of, listed, model_of, one_or_none}
use Rattle.monomorph.specs.Lasts.{Model}
use Rattle.monomorph.specs.Reading.{reading_of}
use Rattle.sized_nodes.specs.declared.trees.SizedCore.{SizedCore}
use Rattle.sized_trees.specs.Trees.{sized_list}
use Rattle.checked_meaning.specs.Checked.{Cases, Checks}
use Rattle.note_laws.specs.Notes.{EachNote, OfOthers}
use Rattle.note_laws.specs.Ways.{Through, Told, core_reached, told_of}
use Rattle.note_laws.proofs.ModelGoes.{ways_are_named}
use Rattle.soundness_steps.specs.Works.{Setting, Work, nobody}
use Rattle.soundness_steps.specs.Covers.{IsMet}
use Rattle.soundness_steps.specs.Noted.{OpensAs, known}
use Rattle.soundness_calls.specs.Events.{entered_by}
use Rattle.soundness_calls.proofs.Directions.{bare_closed}
use Rattle.soundness_calls.specs.Directions.{Side, bare_type, is_ahead, is_back}
use Rattle.exact_sizes.specs.Laws.{Stands}
use Rattle.exact_sizes.proofs.Known.{none}
use Rattle.exact_sizes.proofs.Told.{told_of as type_told_of}
use Rattle.split_laws.specs.Counted.{IsIn}
use Rattle.met_notes.specs.Covers.{AreRead, Covers, CoversDirection, DirectionsPaired, pair_of, side_at}
use Rattle.covering_laws.specs.Closed.{BodiesAreRead, IsRead, MappingsAreThere, NotesAreRead}
use Rattle.covering_laws.specs.Covered.{ModelsAreRead, bare_tells}
use Rattle.tabled_cores.specs.Cores.{all_found}
use Rattle.covering_laws.specs.Covered.{body_cases, body_tested, both_fall, checks_given, core_tested, direction_tested}
use Rattle.covering_laws.specs.Covered.{found_tested, function_covered, is_found, is_lower, mapping_tested}
use Rattle.covering_laws.specs.Covered.{model_checks, pairs_fall, setting_of, taken_told, takes_tested, ways_fall}
use Rattle.tabled_cores.specs.Cores.{or_nothing}
use Rattle.covering_laws.proofs.Bounded.{lists_are_read}
use Rattle.covering_laws.proofs.Found.{mapping_there}
use Rattle.covering_laws.proofs.Grown.{first_covered, list_starts, second_covered}
use Rattle.covering_laws.proofs.Joined.{accepted, same_instances}
use Rattle.covering_laws.proofs.Places.{all_in}
use Rattle.node_counts.proofs.Apart.{notes_are_apart, numbers_are_given_once}
use Rattle.covering_laws.specs.Apart.{GivesKinds, NumbersApart}
use Rattle.covering_laws.proofs.Placed.{direction_placed}
use Rattle.covering_laws.proofs.Read.{alone_read, function_is_read, same_types}
use Rattle.covering_laws.proofs.There.{mapping_gives, mappings_are_there, opening_gives}
use Rattle.covering_laws.proofs.Telling.{told_fits}
use Rattle.covering_laws.proofs.Working.{there}

-- ---- a type that names no variable

module _ (types : Types) (past : Positive) (t : Typ) (tested : bare_tells types t ≡ true) where
  nothing_stands_for : (g : Integers) → Stands (known_at nothing_known) g
  nothing_stands_for g i z h = none h

  pub bare_opens : (g : Integers) (v : Value) → is_of types (standing past g) [] (bare_type t) v ≡ true
      → OpensAs types past nobody g (bare_type t) v (typ_told types [] t [] v)
  bare_opens g v is = record {
    each = λ tells name facts n had. sym (type_told_of types [] (known g) t [] [] v)
        ∙ (told_fits types past nobody g (known_at nothing_known) (nothing_stands_for g) (bare_type t) tested v is).each tells name facts n had;
  }

-- ---- directions that the patterns of a mapping name are of a lower rank than it

pub pair_falls : (rank : ℕ → ℕ) (ms : List Direction) (i d : ℕ) (n : Direction) (side : Side) → pairs_fall rank i ms ≡ true → slice_get ms d ≡ Some n
    → side_at ms d ≡ Some side → both_fall rank (2 * i + d) (pair_of side n).forwards (pair_of side n).backwards ≡ true
pair_falls rank [] i d n side h e s = none s
pair_falls rank (m ∷ []) i d n side h e s = none s
pair_falls rank (m ∷ q ∷ ms) i zero n side h e s =
    let same : m ≡ n = cc e in
    let its : is_ahead q ≡ side = cc s in
    let here : 2 * i ≡ 2 * i + 0 = omega arith in
    let parts = and_parts (both_fall rank (2 * i) m q && both_fall rank (suc (2 * i)) m q) (pairs_fall rank (suc i) ms) h in
    let first : both_fall rank (2 * i) m q ≡ true = (and_parts (both_fall rank (2 * i) m q) (both_fall rank (suc (2 * i)) m q) parts.0).0 in
    subst (λ (r : Direction). both_fall rank (2 * i + 0) (pair_of side r).forwards (pair_of side r).backwards ≡ true) same
    (subst (λ (z : Side). both_fall rank (2 * i + 0) (pair_of z m).forwards (pair_of z m).backwards ≡ true) its
    (subst (λ (e : ℕ). both_fall rank e m q ≡ true) here first))
pair_falls rank (m ∷ q ∷ ms) i (suc zero) n side h e s =
    let same : q ≡ n = cc e in
    let its : is_back m ≡ side = cc s in
    let here : suc (2 * i) ≡ 2 * i + 1 = omega arith in
    let parts = and_parts (both_fall rank (2 * i) m q && both_fall rank (suc (2 * i)) m q) (pairs_fall rank (suc i) ms) h in
    let second : both_fall rank (suc (2 * i)) m q ≡ true = (and_parts (both_fall rank (2 * i) m q) (both_fall rank (suc (2 * i)) m q) parts.0).1 in
    subst (λ (r : Direction). both_fall rank (2 * i + 1) (pair_of side r).forwards (pair_of side r).backwards ≡ true) same
    (subst (λ (z : Side). both_fall rank (2 * i + 1) (pair_of z q).forwards (pair_of z q).backwards ≡ true) its
    (subst (λ (e : ℕ). both_fall rank e m q ≡ true) here second))
pair_falls rank (m ∷ q ∷ ms) i (suc (suc d)) n side h e s =
    let here : 2 * suc i + d ≡ 2 * i + suc (suc d) = omega arith in
    let parts = and_parts (both_fall rank (2 * i) m q && both_fall rank (suc (2 * i)) m q) (pairs_fall rank (suc i) ms) h in
    subst (λ (e : ℕ). both_fall rank e (pair_of side n).forwards (pair_of side n).backwards ≡ true) here
    (pair_falls rank ms (suc i) d n side parts.1 e s)

-- what is met where these are reached, and goes through those alone, is met where both are so
module _ (set : Setting) (x : Work) (told : Told) (reached : ℕ → Bool) (cases : Cases) where
  abbrev lower : ℕ → Bool
  lower e = told.reached e && reached e

  note_met : (n : Note) → OfOthers (IsMet set x reached cases) n → Through told n → OfOthers (IsMet set x lower cases) n
  note_met (goal_note facts place goal) h t = tt
  note_met (size_note facts place made) h t = h
  note_met (made_note facts k operands made) h t = h
  note_met (call_note facts place k operands callee js qs) h t = h
  note_met (way_note facts d) h t = λ f noted so. and_from (told.reached d) (reached d) t.0 (h f noted so)
  note_met (given_note facts k o) h t = h
  note_met (name_note facts name) h t = h

  pub met_below : (ns : List Note) → AreRead set x reached cases ns → EachNote (Through told) ns → AreRead set x lower cases ns
  met_below [] h t = tt
  met_below (n ∷ ns) h t = (note_met n h.0 t.0, met_below ns h.1 t.1)

-- ---- openings, each behind the lets before it

pub opening_there : (around : Around) (os : List Opening) (i : ℕ) (o : Opening) → slice_get os i ≡ Some o
    → slice_get (opening_bodies around os) i ≡ Some (opening_body (lets_behind around (take i os)) o)
opening_there around [] i o e = none e
opening_there around (n ∷ os) zero o e = ap (option_map (opening_body around)) e
opening_there around (n ∷ os) (suc i) o e = opening_there (behind_opening around n) os i o e

-- ---- all of a model

module _ (core : CoreModel) (past : Positive) (hart : ℕ) (rank : ℕ → ℕ)
    (accepted_all : found_from (model_of core (bodies_of core)) (entry core.reset ∷ entry core.step ∷ []) ≡ Ok (all_found (model_of core (bodies_of core))))
    (tested : core_tested core ≡ true) (numbers : NumbersApart core) (kinds : GivesKinds core)
    (paired : DirectionsPaired core) (falls : ways_fall core rank ≡ true) where
  abbrev around : Around
  around = around_of core

  abbrev model : Model
  model = model_of core (bodies_of core)

  abbrev all : List Found
  all = all_found model

  abbrev list : List Instance
  list = instances_in all

  abbrev c : SizedCore
  c = sized_list model list

  abbrev set : Setting
  set = setting_of core past hart c

  abbrev k : Checks
  k = model_checks model list c.instances

  halves : (list_all (found_tested model) all ≡ true) × (list_all (body_tested model) model.bodies.openings ≡ true)
  halves = and_parts (list_all (found_tested model) all) (list_all (body_tested model) model.bodies.openings) tested

  all_pass : (z : Found) → IsIn z all → found_tested model z ≡ true
  all_pass z i = all_in (found_tested model) all z halves.0 i

  there_all : MappingsAreThere model
  there_all = mappings_are_there core paired

  all_read : (z : Found) → IsIn z all → IsRead model all z
  all_read = (lists_are_read model all there_all accepted_all).1

  -- ---- a direction of a mapping that is found

  -- either direction
  side_passes : (d i : ℕ) (b : Body) → mapping_tested model i (Some b) ≡ true → (d ≡ 2 * i) ⊎ (d ≡ suc (2 * i))
      → direction_tested model b d ≡ true
  side_passes d i b h (inl q) =
      subst (λ (e : ℕ). direction_tested model b e ≡ true) (sym q)
      (and_parts (direction_tested model b (2 * i)) (direction_tested model b (suc (2 * i))) h).0
  side_passes d i b h (inr q) =
      subst (λ (e : ℕ). direction_tested model b e ≡ true) (sym q)
      (and_parts (direction_tested model b (2 * i)) (direction_tested model b (suc (2 * i))) h).1

  direction_read : (d : ℕ) (n : Direction) (side : Side) → is_found all d ≡ true → slice_get core.directions d ≡ Some n
      → side_at core.directions d ≡ Some side → CoversDirection set rank k d n side
  direction_read d n side found e is_its =
      let at = direction_placed around core.directions d n side e is_its in
      let b : Body = body_of (mapping_read around (pair_of side n).forwards (pair_of side n).backwards) in
      let body_there : slice_get model.bodies.mappings (d / 2) ≡ Some b = ap (slice_get model.bodies.mappings) at.half ∙ at.body_there in
      let is_in : IsIn (F.Mapping (d / 2)) all = mapping_there (d / 2) all found in
      let read : BodiesAreRead model [] [] (b ∷ []) all =
      subst (λ (o : Option Body). BodiesAreRead model [] [] (one_or_none o) all) body_there (all_read (F.Mapping (d / 2)) is_in) in
      let whole : mapping_tested model (d / 2) (Some b) ≡ true =
      subst (λ (o : Option Body). mapping_tested model (d / 2) o ≡ true) body_there (all_pass (F.Mapping (d / 2)) is_in) in
      let double : (d ≡ 2 * (d / 2)) ⊎ (d ≡ suc (2 * (d / 2))) =
      subst (λ (i : ℕ). (d ≡ 2 * i) ⊎ (d ≡ suc (2 * i))) (sym at.half) at.double in
      let passes = and_parts (body_tested model b) (takes_tested core.types (slice_get core.directions d))
      (side_passes d (d / 2) b whole double) in
      let bare : bare_tells core.types n.parameter ≡ true = subst (λ (o : Option Direction). takes_tested core.types o ≡ true) e passes.1 in
      let from_front : 2 * 0 + d ≡ d = omega arith in
      let both = and_parts (core_reached (is_lower rank d) (pair_of side n).forwards.body) (core_reached (is_lower rank d) (pair_of side n).backwards.body)
      (subst (λ (e : ℕ). both_fall rank e (pair_of side n).forwards (pair_of side n).backwards ≡ true) from_front
      (pair_falls rank core.directions 0 d n side falls e is_its)) in
      let differ = numbers.mappings at.mapping (pair_of side n) at.is_there in
      record {
        read = met_below set nobody (told_of (is_lower rank d) around) (is_found all) (k.direction d) b.notes
            (subst (λ (l : Cases). AreRead set nobody (is_found all) l b.notes) (sym (ap (body_cases model list) body_there))
            (alone_read core past hart b read (mapping_gives core kinds (pair_of side n).forwards (pair_of side n).backwards)
            ((notes_are_apart around).mapping (pair_of side n).forwards (pair_of side n).backwards differ)
            ((numbers_are_given_once around).mapping (pair_of side n).forwards (pair_of side n).backwards differ)
            passes.0))
            (ways_are_named (is_lower rank d) around (pair_of side n).forwards (pair_of side n).backwards both.0 both.1);
        takes = λ v is. (
          typ_told core.types [] n.parameter [] v,
          ap (option_map (taken_told core.types v)) e,
          λ exact g. subst (λ (ty : Types). OpensAs ty past nobody g (bare_type n.parameter) v (typ_told core.types [] n.parameter [] v))
              (sym (same_types core past hart))
              (bare_opens core.types past n.parameter bare g v
              (subst (λ (ty : Types). is_of ty (standing past g) [] (bare_type n.parameter) v ≡ true) (same_types core past hart)
              (ap (belongs set.around.types v) (bare_closed set g n.parameter) ∙ is))),
        );
      }

  opening_is_read : (i : ℕ) (o : Opening) → slice_get core.openings i ≡ Some o
      → AreRead set nobody (is_found all) (k.opening i) (opening_read (around_opening core i) o [] 0).notes
  opening_is_read i o e =
      let b : Body = opening_body (around_opening core i) o in
      let body_there : slice_get model.bodies.openings i ≡ Some b = opening_there (around_with core []) core.openings i o e in
      let is_in : IsIn b model.bodies.openings = there model.bodies.openings i b body_there in
      subst (λ (o : Option Body). AreRead set nobody (is_found all) (body_cases model list o) b.notes) (sym body_there)
      (alone_read core past hart b (alone b ((lists_are_read model all there_all accepted_all).0 b is_in))
      (opening_gives core kinds (around_opening core i) o)
      ((notes_are_apart (around_opening core i)).opening o (numbers.openings i o e))
      ((numbers_are_given_once (around_opening core i)).opening o (numbers.openings i o e))
      (all_in (body_tested model) model.bodies.openings b halves.1 is_in))
    where
      alone : (b : Body) → NotesAreRead (reading_of core.types model.sizing [] [] b) all b.notes → BodiesAreRead model [] [] (b ∷ []) all
      alone b h c (inl e) = subst (λ (d : Body). NotesAreRead (reading_of core.types model.sizing [] [] d) all d.notes) (sym e) h
      alone b h c (inr i) = absurd i

  pub model_is_read : function_covered c (entered_by core.step) ≡ true → function_covered c (entered_by core.reset) ≡ true
      → Covers (setting_of core past hart c) core k rank
  model_is_read step reset = record {
    functions = λ x f covered own e. function_is_read core past hart numbers kinds all_read all_pass x f covered e;
    directions = direction_read;
    openings = opening_is_read;
    step = step;
    reset = reset;
  }

-- what an accepted list is of
pub listed_of : (m : Model) (list : List Instance) → instances_of m ≡ Ok list
    → (found_from m (entry m.core.reset ∷ entry m.core.step ∷ []) ≡ Ok (all_found m)) × (instances_in (all_found m) ≡ list)
listed_of m list h = by (found_from m (entry m.core.reset ∷ entry m.core.step ∷ [])) h
  where
    by : (a : Answer) → listed a ≡ Ok list → (a ≡ Ok (or_nothing a)) × (instances_in (or_nothing a) ≡ list)
    by (Ok all) e =
        let same : instances_in all ≡ list = cc e in
        (refl, same)
    by (Err why) e = absurd (cc)

pub models_are_read : ModelsAreRead
models_are_read m past hart rank c numbers kinds paired accept h low =
    let model : Model = model_of m (bodies_of m) in
    let found = accepted m c accept in
    let whole = listed_of model found.0 found.1 in
    let list : List Instance = instances_in (all_found model) in
    let same : c ≡ sized_list model list = found.2 ∙ ap (sized_list model) (sym whole.1) in
    let starts = list_starts model list (subst (λ (l : List Instance). instances_of model ≡ Ok l) (sym whole.1) found.1) in
    let step : function_covered (sized_list model list) (entered_by m.step) ≡ true =
    subst (λ (l : List Instance). function_covered (sized_list model l) (entered_by m.step) ≡ true) (sym starts.1)
    (second_covered model starts.0 m.reset m.step) in
    let reset : function_covered (sized_list model list) (entered_by m.reset) ≡ true =
    subst (λ (l : List Instance). function_covered (sized_list model l) (entered_by m.reset) ≡ true) (sym starts.1)
    (first_covered model starts.0 m.reset m.step) in
    subst (λ (d : SizedCore). Covers (setting_of m past hart d) m (checks_given m d) rank) (sym same)
    (subst (λ (l : List Instance). Covers (setting_of m past hart (sized_list model list)) m (model_checks model l (sized_list model list).instances) rank)
    (sym (same_instances model list list)) (model_is_read m past hart rank whole.0 h numbers kinds paired low step reset))
