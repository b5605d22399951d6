-- From the obligations of a model to the goals of its definitions.
use Rattle.std.proofs.Common.{ℕ, Bool, true, false, List, [], ◌∷◌, ◌++◌, map, if◌then◌else◌}
use Rattle.linear.specs.Choices.{joined}
use Rattle.obligations.specs.declared.obligation.Obligation.{Obligation}
use Rattle.value_indices.specs.Steps.{Note, goal_note, size_note, made_note, call_note, way_note, given_note, name_note, conditions}
use Rattle.constraint_gen.specs.Models.{Definition, around_of, from_nothing, in_order, is_before, listed, placed_among}
use Rattle.constraint_gen.specs.Obligations.{goals_in, names_of, obligations_in}
use Rattle.goal_laws.specs.Goals.{AllHold, EachNote, EachOf, GoalIsTrue, GoalsHold}
use Rattle.goal_laws.proofs.Closing.{goal_true}

-- ---- one definition

goals_true : (names : List (List ℕ)) (ns : List Note) → AllHold (goals_in names ns) → EachNote GoalIsTrue ns
goals_true names [] h = tt
goals_true names (goal_note facts place goal ∷ ns) h = (λ past f. goal_true past f goal (conditions facts) h.0, goals_true names ns h.1)
goals_true names (size_note facts place made ∷ ns) h = (tt, goals_true names ns h)
goals_true names (made_note facts k operands made ∷ ns) h = (tt, goals_true names ns h)
goals_true names (call_note facts place k operands callee js qs ∷ ns) h = (tt, goals_true names ns h)
goals_true names (way_note facts d ∷ ns) h = (tt, goals_true names ns h)
goals_true names (given_note facts k i ∷ ns) h = (tt, goals_true names ns h)
goals_true names (name_note v name ∷ ns) h = (tt, goals_true names ns h)

-- ---- definitions in the order of the text, and as they are listed

abbrev Each : (Definition → Type 0) → List Definition → Type 0
Each P [] = Unit {0}
Each P (d ∷ ds) = P d × Each P ds

behind_others : (P : Definition → Type 0) (b : Bool) (d e : Definition) (es rest : List Definition) → (Each P rest → P d × Each P es)
    → Each P (if b then e ∷ rest else d ∷ e ∷ es) → P d × Each P (e ∷ es)
behind_others P true d e es rest more h = let r = more h.1 in (r.0, (h.0, r.1))
behind_others P false d e es rest more h = h

among_others : (P : Definition → Type 0) (d : Definition) (es : List Definition) → Each P (placed_among d es) → P d × Each P es
among_others P d [] h = h
among_others P d (e ∷ es) h = behind_others P (is_before e.place d.place) d e es (placed_among d es) (among_others P d es) h

as_listed : (P : Definition → Type 0) (ds : List Definition) → Each P (in_order ds) → Each P ds
as_listed P [] h = tt
as_listed P (d ∷ ds) h = let r = among_others P d (in_order ds) h in (r.0, as_listed P ds r.1)

-- ---- all

abbrev DefinitionHolds : Definition → Type 0
DefinitionHolds d = AllHold (obligations_in (from_nothing d))

held_front : (os ps : List Obligation) → AllHold (os ++ ps) → AllHold os
held_front [] ps h = tt
held_front (o ∷ os) ps h = (h.0, held_front os ps h.1)

held_behind : (os ps : List Obligation) → AllHold (os ++ ps) → AllHold ps
held_behind [] ps h = h
held_behind (o ∷ os) ps h = held_behind os ps h.1

each_holds : (ds : List Definition) → AllHold (joined (map (λ d. obligations_in (from_nothing d)) ds)) → Each DefinitionHolds ds
each_holds [] h = tt
each_holds (d ∷ ds) h =
    let first : List Obligation = obligations_in (from_nothing d) in
    let others : List Obligation = joined (map (λ d. obligations_in (from_nothing d)) ds) in
    (held_front first others h, each_holds ds (held_behind first others h))

each_true : (ds : List Definition) → Each DefinitionHolds ds → EachOf GoalIsTrue ds
each_true [] h = tt
each_true (d ∷ ds) h = (
  goals_true (names_of (from_nothing d).next (from_nothing d).notes) (from_nothing d).notes h.0,
  each_true ds h.1,
)

pub goals_hold : GoalsHold
goals_hold m h =
    let ds : List Definition = listed m (around_of m) in
    each_true ds (as_listed DefinitionHolds ds (each_holds (in_order ds) h))
