-- Targets that are calls: what was in force still is.
use Rattle.std.proofs.Common.{◌++◌, ℕ, suc, zero, Bool, List, [], ◌∷◌, take, slice_get, Option, arith}
use Rattle.sail_base.specs.declared.place.Place.{Place}
use Rattle.sail_types.specs.declared.rows.Row.{Row}
use Rattle.sail_core.specs.declared.targets.Caller.{Caller}
use Rattle.sail_core.specs.declared.tree.Callee.{Callee}
use Rattle.sail_core.specs.declared.tree.Callee.TheVariants as D
use Rattle.value_indices.specs.Steps.{Walk, bind, call_note, give}
use Rattle.value_indices.specs.declared.indices.Indices.{Indices}
use Rattle.value_indices.specs.declared.indices.Reading.TheVariants as R
use Rattle.value_indices.specs.declared.notes.Fact.{Fact}
use Rattle.value_fits.specs.Fitting.{says}
use Rattle.fitting_laws.proofs.Counted.{Counts}
use Rattle.pattern_leaves.specs.Settings.{Around, Scope}
use Rattle.call_arguments.specs.declared.aims.Aim.{Aim}
use Rattle.call_arguments.specs.declared.aims.Aim.TheVariants as Aims
use Rattle.call_notes.specs.Calls.{called, noted_call}
use Rattle.call_notes.specs.Noted.{node_ended, node_given}
use Rattle.call_notes.specs.Rows.{row_call}
use Rattle.expression_forms.specs.Nodes.{put}
use Rattle.expression_forms.specs.Spots.{answered, asked_with, call_spot, call_written, wrote, written_by}
use Rattle.expression_forms.specs.Spots as Walked
use Rattle.expression_steps.specs.Parts.{Part, each_walk}
use Rattle.soundness_steps.specs.Steps.{Grows}
use Rattle.soundness_forms.proofs.Growth.{grows_bind, grows_ended, grows_give, grows_given, grows_note, grows_wrong}
use Rattle.soundness_values.proofs.Functions as Functions
use Rattle.soundness_values.proofs.Mappings as Mappings
use Rattle.soundness_values.proofs.RowGrowth.{row_call_grows}
use Rattle.soundness_targets.proofs.TargetGrowth.{AnyGrow}
use Rattle.soundness_targets.proofs.WriteGrowth.{put_grows, written_grows}

pub says_counts : Counts (says [])
says_counts = λ n. omega arith

module _ (around : Around) (at : Place) where
  row_grows : (k : ℕ) (row : Row) (is : List Indices) → Grows (called around at k (D.Row row) [] is)
  row_grows k row is =
      grows_bind (noted_call at k is (D.Row row) [] []) (λ t. bind (row_call around.types at row is) (node_ended k is))
      (grows_note (λ facts. call_note facts at k is (D.Row row) [] [])) (λ t.
      grows_bind (row_call around.types at row is) (node_ended k is) (row_call_grows around.types at row is) (grows_ended k is))

  pub called_grows : (k : ℕ) (callee : Callee) (bs : List Bool) (is : List Indices) → Grows (called around at k callee bs is)
  called_grows k (D.Function i) bs is = Functions.call_grows around at k i (slice_get around.functions i) bs is
  called_grows k (D.Row row) bs is = row_grows k row is
  called_grows k (D.Converts d) bs is = Mappings.call_grows around at k d (slice_get around.directions d) bs is
  called_grows k (D.Applies d) bs is = grows_wrong at
  called_grows k (D.Constructor u c) bs is = grows_wrong at

  module _ (k : ℕ) (reader : Option Caller) (writer : Caller) (bs : List Bool) (is : List Indices) (nested : Bool) (j : Indices) where
    abbrev pub written : Walk Indices
    written = call_written around at k writer bs is nested j

    pub written_grow : Grows written
    written_grow =
        grows_bind (put k (j ∷ []) R.Hole j) (λ t. answered around at writer bs is nested j) (put_grows k (j ∷ []) R.Hole j) (λ t.
        grows_bind (asked_with around at writer bs is nested j) (node_given writer.number)
        (called_grows writer.number writer.callee (bs ++ nested ∷ []) (is ++ j ∷ [])) (λ a. grows_given writer.number a))

    pub left_counts : (facts : List Fact) (n : ℕ) → Counts (bind written Walked.gives facts n).value.left
    unfolding bind give
    left_counts facts n = says_counts

    pub call_grows : (place : Place) → Grows (written_by place (call_spot around at k reader writer bs is) nested j)
    call_grows place = written_grows (bind written Walked.gives) place left_counts
        (grows_bind written Walked.gives written_grow (λ a. grows_give (wrote (says []) a)))

module _ (around : Around) (scope : Scope) where
  pub each_grows : (ps : List Part) (aims : List Aim) → AnyGrow around scope ps → Grows (each_walk ps around scope aims)
  each_grows [] aims h = grows_give []
  each_grows (p ∷ ps) [] h =
      grows_bind (p.walk around scope Aims.Free) _ (h.0 Aims.Free) (λ i. grows_bind (each_walk ps around scope []) _ (each_grows ps [] h.1) (λ is.
      grows_give (i ∷ is)))
  each_grows (p ∷ ps) (a ∷ aims) h =
      grows_bind (p.walk around scope a) _ (h.0 a) (λ i. grows_bind (each_walk ps around scope aims) _ (each_grows ps aims h.1) (λ is. grows_give (i ∷ is)))

  pub taken_grow : (c : ℕ) (ps : List Part) → AnyGrow around scope ps → AnyGrow around scope (take c ps)
  taken_grow zero ps h = tt
  taken_grow (suc c) [] h = tt
  taken_grow (suc c) (p ∷ ps) h = (h.0, taken_grow c ps h.1)
