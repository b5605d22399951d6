-- Tests of the cores of a model: bodies come to their results, casts, guards, literals and counts of parts stand right, and nodes and patterns pass the
-- tests of their kinds.
use Rattle.std.specs.Prelude.{◌&&◌, Bool, true, false, List, [], ◌∷◌, map}
use Rattle.sail_types.specs.declared.numbers.Index.{Index}
use Rattle.sail_core.specs.declared.model.Direction.{Direction}
use Rattle.sail_core.specs.declared.tree.Core.{Core, out-Core}
use Rattle.sail_core.specs.declared.tree.Kind.{Kind}
use Rattle.sail_core.specs.declared.tree.Kind.TheVariants as K
use Rattle.pattern_leaves.specs.Settings.{Around}
use Rattle.function_notes.specs.Functions.{arm_of}
use Rattle.soundness_forms.specs.Standing.{is_body, is_bound, standing}
use Rattle.soundness_binding.specs.Patterned.{arms_stand}
use Rattle.sail_soundness.specs.Whole.{core_fits}

module _ (around : Around) (numbers : List Index) where
  abbrev pub bodies_fit : List Core → Bool
  bodies_fit [] = true
  bodies_fit (c ∷ cs) = (is_body (standing around c) && core_fits around.types numbers c) && bodies_fit cs

  -- a value that a top-level let binds, or that a register begins with
  abbrev pub value_fits : Core → Bool
  value_fits c = is_bound (standing around c) && core_fits around.types numbers c

  -- clauses of a function, as what a `val` declares or not; and those of a direction of a mapping
  abbrev pub arms_fit : Bool → Kind → Bool
  arms_fit declared (K.Clauses arms) = arms_stand around.types numbers (map (arm_of declared) arms)
  arms_fit declared kind = false

  abbrev pub clauses_fit : Bool → Core → Bool
  clauses_fit declared core = arms_fit declared (out-Core core).kind && bodies_fit (out-Core core).parts

  abbrev pub are_clauses : Kind → Bool
  are_clauses (K.Clauses arms) = arms_stand around.types numbers arms
  are_clauses kind = false

  abbrev pub direction_fits : Direction → Bool
  direction_fits m = are_clauses (out-Core m.body).kind && bodies_fit (out-Core m.body).parts
