-- Goals from obligations, all other notes from those that instances read.
use Rattle.std.proofs.Common.{◌≡◌, subst, ℕ, zero, suc, Bool, List, [], ◌∷◌, ◌++◌, take, Some}
use Rattle.std.specs.Prelude.{slice_get}
use Rattle.sail_core.specs.declared.model.CoreModel.{CoreModel}
use Rattle.sail_core.specs.declared.model.Direction.{Direction}
use Rattle.sail_core.specs.declared.model.Function.{Function}
use Rattle.sail_core.specs.declared.model.Opening.{Opening}
use Rattle.sail_core.specs.declared.tree.Core.{Core}
use Rattle.value_indices.specs.Steps.{Note, goal_note, size_note, made_note, call_note, way_note, given_note, name_note}
use Rattle.pattern_leaves.specs.Settings.{Around}
use Rattle.expression_steps.specs.Expressions.{part}
use Rattle.function_notes.specs.Functions.{function_walk, mapping_walk, measure_walk}
use Rattle.constraint_gen.specs.Models.{Definition, around_of, function_definitions, function_listed, listed, mapping_definitions, mapping_listed}
use Rattle.constraint_gen.specs.Models.{around_opening, around_with, behind_opening, lets_behind}
use Rattle.constraint_gen.specs.Models.{measure_definition, opening_definitions, opening_listed, opening_walk}
use Rattle.size_notes.specs.Bodies.{function_read, mapping_read, measure_read, opening_read}
use Rattle.goal_laws.specs.Goals.{EachOf, GoalIsTrue}
use Rattle.goal_laws.specs.Goals as G
use Rattle.goal_laws.proofs.Models.{goals_hold}
use Rattle.note_laws.specs.Notes.{AllRead, EachNote, HasNotes, IsAmong, OfOthers}
use Rattle.note_laws.proofs.Bodies.{bodies_have}
use Rattle.checked_meaning.specs.Checked.{Cases}
use Rattle.soundness_steps.specs.Works.{Setting, Work}
use Rattle.soundness_steps.specs.Covers.{AreMet, IsMet}
use Rattle.met_notes.specs.Met.{MetWhere, NotesAreMet, Pair, pairs}

-- ---- one walk

module _ (set : Setting) (work : Work) (reached : ℕ → Bool) (cases : Cases) where
  abbrev Others : List Note → Type 0
  Others = EachNote (OfOthers (IsMet set work reached cases))

  found : (ns : List Note) (i : ℕ) (n : Note) → slice_get ns i ≡ Some n → Others ns → OfOthers (IsMet set work reached cases) n
  found [] i n e h = absurd (cc)
  found (m ∷ ns) zero n e h = let same : m ≡ n = cc in subst (OfOthers (IsMet set work reached cases)) same h.0
  found (m ∷ ns) (suc i) n e h = found ns i n e h.1

  note_met : (ns : List Note) → Others ns → (n : Note) → GoalIsTrue n → OfOthers (IsAmong ns) n → IsMet set work reached cases n
  note_met ns h (goal_note facts place goal) g r = λ f. g set.past f
  note_met ns h (size_note facts place made) g r = found ns r.0 (size_note facts place made) r.1 h
  note_met ns h (made_note facts k operands made) g r = found ns r.0 (made_note facts k operands made) r.1 h
  note_met ns h (call_note facts place k operands callee js qs) g r = found ns r.0 (call_note facts place k operands callee js qs) r.1 h
  note_met ns h (way_note facts d) g r = found ns r.0 (way_note facts d) r.1 h
  note_met ns h (given_note facts k i) g r = found ns r.0 (given_note facts k i) r.1 h
  note_met ns h (name_note v name) g r = tt

  all_met : (ns : List Note) → Others ns → (ms : List Note) → G.EachNote GoalIsTrue ms → AllRead ns ms → AreMet set work reached cases ms
  all_met ns h [] g r = tt
  all_met ns h (m ∷ ms) g r = (note_met ns h m g.0 r.0, all_met ns h ms g.1 r.1)

met_where : (ns ms : List Note) → G.EachNote GoalIsTrue ms → AllRead ns ms → MetWhere ns ms
met_where ns ms g r = λ set work reached cases h. all_met set work reached cases ns h ms g r

-- ---- a definition among those of a model

front : (ds es : List Definition) → EachOf GoalIsTrue (ds ++ es) → EachOf GoalIsTrue ds
front [] es h = tt
front (d ∷ ds) es h = (h.0, front ds es h.1)

behind : (ds es : List Definition) → EachOf GoalIsTrue (ds ++ es) → EachOf GoalIsTrue es
behind [] es h = h
behind (d ∷ ds) es h = behind ds es h.1

function_among : (around : Around) (fs : List Function) (i : ℕ) (f : Function) → slice_get fs i ≡ Some f
    → EachOf GoalIsTrue (function_definitions around fs) → EachOf GoalIsTrue (function_listed around f)
function_among around [] i f e h = absurd (cc)
function_among around (g ∷ fs) zero f e h =
    let same : g ≡ f = cc in
    subst (λ g. EachOf GoalIsTrue (function_listed around g)) same (front (function_listed around g) (function_definitions around fs) h)
function_among around (g ∷ fs) (suc i) f e h = function_among around fs i f e (behind (function_listed around g) (function_definitions around fs) h)

mapping_among : (around : Around) (ms : List Direction) (i : ℕ) (p : Pair) → slice_get (pairs ms) i ≡ Some p
    → EachOf GoalIsTrue (mapping_definitions around ms) → EachOf GoalIsTrue (mapping_listed around p.forwards p.backwards)
mapping_among around [] i p e h = absurd (cc)
mapping_among around (m ∷ []) i p e h = absurd (cc)
mapping_among around (m ∷ n ∷ ms) zero p e h =
    let same : record { forwards = m; backwards = n } ≡ p = cc in
    subst (λ p. EachOf GoalIsTrue (mapping_listed around p.forwards p.backwards)) same (front (mapping_listed around m n) (mapping_definitions around ms) h)
mapping_among around (m ∷ n ∷ ms) (suc i) p e h =
    mapping_among around ms i p e (behind (mapping_listed around m n) (mapping_definitions around ms) h)

-- behind the lets before it
opening_among : (around : Around) (os : List Opening) (i : ℕ) (o : Opening) → slice_get os i ≡ Some o
    → EachOf GoalIsTrue (opening_definitions around os) → EachOf GoalIsTrue (opening_listed (lets_behind around (take i os)) o)
opening_among around [] i o e h = absurd (cc)
opening_among around (n ∷ os) zero o e h =
    let same : n ≡ o = cc in
    subst (λ n. EachOf GoalIsTrue (opening_listed around n)) same
    (front (opening_listed around n) (opening_definitions (behind_opening around n) os) h)
opening_among around (n ∷ os) (suc i) o e h =
    opening_among (behind_opening around n) os i o e (behind (opening_listed around n) (opening_definitions (behind_opening around n) os) h)

-- ---- all of a model

-- functions and mappings stand before top-level lets and initial values
of_calls : (m : CoreModel) → EachOf GoalIsTrue (listed m (around_of m))
    → EachOf GoalIsTrue (function_definitions (around_of m) m.functions ++ mapping_definitions (around_of m) m.directions)
of_calls m h =
    let around : Around = around_of m in
    front (function_definitions around m.functions ++ mapping_definitions around m.directions) (opening_definitions (around_with m []) m.openings) h

of_function : (m : CoreModel) → EachOf GoalIsTrue (listed m (around_of m)) → (i : ℕ) (f : Function) → slice_get m.functions i ≡ Some f
    → EachOf GoalIsTrue (function_listed (around_of m) f)
of_function m h i f at =
    let around : Around = around_of m in
    function_among around m.functions i f at (front (function_definitions around m.functions) (mapping_definitions around m.directions) (of_calls m h))

of_mapping : (m : CoreModel) → EachOf GoalIsTrue (listed m (around_of m)) → (i : ℕ) (p : Pair) → slice_get (pairs m.directions) i ≡ Some p
    → EachOf GoalIsTrue (mapping_listed (around_of m) p.forwards p.backwards)
of_mapping m h i p at =
    let around : Around = around_of m in
    mapping_among around m.directions i p at (behind (function_definitions around m.functions) (mapping_definitions around m.directions) (of_calls m h))

of_opening : (m : CoreModel) → EachOf GoalIsTrue (listed m (around_of m)) → (i : ℕ) (o : Opening) → slice_get m.openings i ≡ Some o
    → EachOf GoalIsTrue (opening_listed (around_opening m i) o)
of_opening m h i o at =
    let around : Around = around_of m in
    let others : List Definition = function_definitions around m.functions ++ mapping_definitions around m.directions in
    opening_among (around_with m []) m.openings i o at (behind others (opening_definitions (around_with m []) m.openings) h)

-- a measure stands behind its function
measured : (around : Around) (f : Function) (measure : Core) → f.measure ≡ Some measure → EachOf GoalIsTrue (function_listed around f)
    → G.EachNote GoalIsTrue (measure_walk around f measure [] 0).notes
measured around f measure is h = (subst (λ o. EachOf GoalIsTrue (measure_definition around f o)) is h.1).0

pub notes_met : NotesAreMet
notes_met m held =
    let around : Around = around_of m in
    let notes : HasNotes around = bodies_have around in
    let goals : EachOf GoalIsTrue (listed m around) = goals_hold m held in
    record {
      function = λ i f at. met_where (function_read around f [] 0).notes (function_walk around f [] 0).notes (of_function m goals i f at).0 (notes.function f);
      measure = λ i f at measure is. met_where (measure_read around f measure [] 0).notes (measure_walk around f measure [] 0).notes
          (measured around f measure is (of_function m goals i f at)) (notes.measure f measure);
      mapping = λ i p at. met_where (mapping_read around p.forwards p.backwards [] 0).notes (mapping_walk around p.forwards p.backwards [] 0).notes
          (of_mapping m goals i p at).0 (notes.mapping p.forwards p.backwards);
      opening = λ i o at.
          let here : Around = around_opening m i in
          let own : HasNotes here = bodies_have here in
          met_where (opening_read here o [] 0).notes (opening_walk here o.place o.kind (part o.value) [] 0).notes (of_opening m goals i o at).0
          (own.opening o);
    }
