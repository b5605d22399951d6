-- Mappings that notes of a model's bodies name are of the model, where its directions stand in pairs; and its calls give numbers to size variables.
use Rattle.std.proofs.Common.{◌≡◌, refl, subst, sym, ℕ, zero, suc, ◌/◌, ◌<◌, true, inl, inr, List, [], ◌∷◌, ◌++◌, map, length, slice_get, Option, Some}
use Rattle.std.proofs.Common.{None}
use Rattle.std.specs.Prelude.{is_some}
use Rattle.sail_base.specs.declared.place.Place.{Place}
use Rattle.sail_types.specs.declared.numbers.Index.{Index}
use Rattle.sail_core.specs.declared.model.CoreModel.{CoreModel}
use Rattle.sail_core.specs.declared.model.Direction.{Direction}
use Rattle.sail_core.specs.declared.model.Function.{Function}
use Rattle.sail_core.specs.declared.model.Opening.{Opening}
use Rattle.sail_core.specs.declared.tree.Callee.{Callee}
use Rattle.sail_core.specs.declared.tree.Callee.TheVariants as D
use Rattle.sail_core.specs.declared.tree.Core.{Core}
use Rattle.value_indices.specs.Steps.{Note, call_note, way_note}
use Rattle.value_indices.specs.declared.indices.Indices.{Indices}
use Rattle.value_indices.specs.declared.indices.Reading.{Reading}
use Rattle.value_indices.specs.declared.notes.Fact.{Fact}
use Rattle.value_laws.proofs.Basics.{no}
use Rattle.pattern_leaves.specs.Settings.{Around}
use Rattle.constraint_gen.specs.Models.{around_of, around_with, behind_opening, lets_behind}
use Rattle.size_splits.specs.Bodies.{Body}
use Rattle.size_splits.specs.Sizing.{Sizing, flags_of}
use Rattle.size_notes.specs.Bodies.{bodies_of, body_of, function_bodies, function_read, mapping_bodies, mapping_read, measure_bodies, measure_read}
use Rattle.size_notes.specs.Bodies.{opening_bodies, opening_read}
use Rattle.monomorph.specs.Instances.{model_of}
use Rattle.note_laws.specs.Notes.{EachNote}
use Rattle.note_laws.specs.Ways.{CallsOne, Through, Told, any, has_direction, told_of}
use Rattle.note_laws.proofs.ModelGoes.{ways_are_of_model}
use Rattle.soundness_calls.proofs.Counted.{is_below}
use Rattle.exact_sizes.proofs.Known.{none}
use Rattle.split_laws.specs.Counted.{IsIn}
use Rattle.met_notes.specs.Covers.{DirectionsPaired}
use Rattle.covering_laws.specs.Apart.{GivesKinds}
use Rattle.covering_laws.specs.Closed.{CalleeNames, MappingsAreThere, Names}
use Rattle.covering_laws.proofs.KindsGiven.{GivesNumbers, are_nums, numbers_given}
use Rattle.covering_laws.proofs.Placed.{direction_placed}

-- ---- notes that call what is of a model

each_note : (Q : Note → Type 0) (told : Told) → ((n : Note) → Through told n → Q n) → (ns : List Note) → EachNote (Through told) ns → EachNote Q ns
each_note Q told each [] h = tt
each_note Q told each (n ∷ ns) h = (each n h.0, each_note Q told each ns h.1)

abbrev AllHave : (Note → Type 0) → List Body → Type 0
AllHave Q bs = (b : Body) → IsIn b bs → EachNote Q b.notes

abbrev nothing : Told
nothing = record { reached = any; functions = []; directions = [] }

module _ (Q : Note → Type 0) where
  -- what is read of lets and initial values calls nothing
  module _ (each : (n : Note) → Through nothing n → Q n) where
    opening_has : (around : Around) (o : Opening) → EachNote Q (opening_read around o [] 0).notes
    opening_has around o = each_note Q nothing each (opening_read around o [] 0).notes ((ways_are_of_model around).opening o)

    openings_have : (around : Around) (os : List Opening) → AllHave Q (opening_bodies around os)
    openings_have around [] b i = absurd i
    openings_have around (o ∷ os) b (inl e) = subst (λ (c : Body). EachNote Q c.notes) (sym e) (opening_has around o)
    openings_have around (o ∷ os) b (inr i) = openings_have (behind_opening around o) os b i

  module _ (around : Around) (each : (n : Note) → Through (told_of any around) n → Q n) where
    function_has : (f : Function) → EachNote Q (function_read around f [] 0).notes
    function_has f = each_note Q (told_of any around) each (function_read around f [] 0).notes ((ways_are_of_model around).function f)

    measured_have : (f : Function) (o : Option Core) → AllHave Q (measure_bodies around f o ++ body_of (function_read around f) ∷ [])
    measured_have f None b (inl e) = subst (λ (c : Body). EachNote Q c.notes) (sym e) (function_has f)
    measured_have f None b (inr i) = absurd i
    measured_have f (Some measure) b (inl e) =
        subst (λ (c : Body). EachNote Q c.notes) (sym e)
        (each_note Q (told_of any around) each (measure_read around f measure [] 0).notes ((ways_are_of_model around).measure f measure))
    measured_have f (Some measure) b (inr (inl e)) = subst (λ (c : Body). EachNote Q c.notes) (sym e) (function_has f)
    measured_have f (Some measure) b (inr (inr i)) = absurd i

    functions_have : (fs : List Function) (i : ℕ) (bs : List Body) → slice_get (map (function_bodies around) fs) i ≡ Some bs → AllHave Q bs
    functions_have [] i bs e = none e
    functions_have (f ∷ fs) zero bs e =
        let its : function_bodies around f ≡ bs = cc e in
        subst (AllHave Q) its (measured_have f f.measure)
    functions_have (f ∷ fs) (suc i) bs e = functions_have fs i bs e

    mapping_has : (m n : Direction) → EachNote Q (mapping_read around m n [] 0).notes
    mapping_has m n = each_note Q (told_of any around) each (mapping_read around m n [] 0).notes ((ways_are_of_model around).mapping m n)

    mappings_have : (ms : List Direction) → AllHave Q (mapping_bodies around ms)
    mappings_have [] b i = absurd i
    mappings_have (m ∷ []) b i = absurd i
    mappings_have (m ∷ n ∷ ms) b (inl e) = subst (λ (c : Body). EachNote Q c.notes) (sym e) (mapping_has m n)
    mappings_have (m ∷ n ∷ ms) b (inr i) = mappings_have ms b i

-- ---- a model

same_directions : (around : Around) (os : List Opening) → (lets_behind around os).directions ≡ around.directions
same_directions around [] = refl
same_directions around (o ∷ os) = same_directions (behind_opening around o) os

same_functions : (around : Around) (os : List Opening) → (lets_behind around os).functions ≡ around.functions
same_functions around [] = refl
same_functions around (o ∷ os) = same_functions (behind_opening around o) os

module _ (core : CoreModel) where
  abbrev around : Around
  around = around_of core

  -- ---- mappings

  module _ (paired : DirectionsPaired core) where
    abbrev count : ℕ
    count = length (bodies_of core).mappings

    -- its mapping is one of those that are read
    mapping_there : (d : ℕ) (o : Option Direction) → slice_get core.directions d ≡ o → is_some o ≡ true → d / 2 < count
    mapping_there d None e h = no h
    mapping_there d (Some m) e h =
        let side = paired d m e in
        let at = direction_placed around core.directions d m side.0 e side.1 in
        subst (λ (i : ℕ). i < count) (sym at.half) (is_below (bodies_of core).mappings at.mapping _ at.body_there)

    each_there : (d : ℕ) → has_direction around.directions d ≡ true → d / 2 < count
    each_there d h =
        mapping_there d (slice_get core.directions d) refl
        (subst (λ ds. has_direction ds d ≡ true) (same_directions (around_with core []) core.openings) h)

    callee_names : (callee : Callee) (js : List Index) → CallsOne (told_of any around) callee js → CalleeNames (λ i. i < count) callee
    callee_names (D.Converts d) js h = each_there d h
    callee_names (D.Applies d) js h = each_there d h
    callee_names callee js h = tt

    note_names : (n : Note) → Through (told_of any around) n → Names (λ i. i < count) n
    note_names (call_note facts place k operands callee js qs) h = callee_names callee js h
    note_names (way_note facts d) h = each_there d h.1
    note_names note h = tt

    none_called : (callee : Callee) (js : List Index) → CallsOne nothing callee js → CalleeNames (λ i. i < count) callee
    none_called (D.Converts d) js h = no h
    none_called (D.Applies d) js h = no h
    none_called callee js h = tt

    none_names : (n : Note) → Through nothing n → Names (λ i. i < count) n
    none_names (call_note facts place k operands callee js qs) h = none_called callee js h
    none_names (way_note facts d) h = no h.1
    none_names note h = tt

    pub mappings_are_there : MappingsAreThere (model_of core (bodies_of core))
    mappings_are_there = record {
      functions = functions_have (Names (λ i. i < count)) around note_names core.functions;
      mappings = mappings_have (Names (λ i. i < count)) around note_names core.directions;
      openings = openings_have (Names (λ i. i < count)) none_names (around_with core []) core.openings;
    }

  -- ---- numbers that calls give

  module _ (kinds : GivesKinds core) where
    abbrev sizing : Sizing
    sizing = (model_of core (bodies_of core)).sizing

    call_gives : (facts : List Fact) (place : Place) (k : ℕ) (operands : List Indices) (callee : Callee) (js : List Index) (qs : List Reading)
        → CallsOne (told_of any around) callee js → GivesNumbers sizing (call_note facts place k operands callee js qs)
    call_gives facts place k operands (D.Function g) js qs h =
        let there : slice_get core.functions g ≡ Some h.0 =
        subst (λ fs. slice_get fs g ≡ Some h.0) (same_functions (around_with core []) core.openings) h.1 in
        subst (λ is. are_nums (flags_of sizing g) is ≡ true) (sym h.2.1) (numbers_given core kinds g h.0 there h.2.0)
    call_gives facts place k operands (D.Row row) js qs h = tt
    call_gives facts place k operands (D.Converts d) js qs h = tt
    call_gives facts place k operands (D.Applies d) js qs h = tt
    call_gives facts place k operands (D.Constructor u c) js qs h = tt

    note_gives : (n : Note) → Through (told_of any around) n → GivesNumbers sizing n
    note_gives (call_note facts place k operands callee js qs) h = call_gives facts place k operands callee js qs h
    note_gives note h = tt

    none_given : (facts : List Fact) (place : Place) (k : ℕ) (operands : List Indices) (callee : Callee) (js : List Index) (qs : List Reading)
        → CallsOne nothing callee js → GivesNumbers sizing (call_note facts place k operands callee js qs)
    none_given facts place k operands (D.Function g) js qs h = none h.1
    none_given facts place k operands (D.Row row) js qs h = tt
    none_given facts place k operands (D.Converts d) js qs h = tt
    none_given facts place k operands (D.Applies d) js qs h = tt
    none_given facts place k operands (D.Constructor u c) js qs h = tt

    none_gives : (n : Note) → Through nothing n → GivesNumbers sizing n
    none_gives (call_note facts place k operands callee js qs) h = none_given facts place k operands callee js qs h
    none_gives note h = tt

    pub function_gives : (f : Function) (b : Body) → IsIn b (function_bodies around f) → EachNote (GivesNumbers sizing) b.notes
    function_gives f = measured_have (GivesNumbers sizing) around note_gives f f.measure

    pub mapping_gives : (m n : Direction) → EachNote (GivesNumbers sizing) (mapping_read around m n [] 0).notes
    mapping_gives m n = mapping_has (GivesNumbers sizing) around note_gives m n

    -- whatever lets are before it
    pub opening_gives : (others : Around) (o : Opening) → EachNote (GivesNumbers sizing) (opening_read others o [] 0).notes
    opening_gives others o = opening_has (GivesNumbers sizing) none_gives others o
