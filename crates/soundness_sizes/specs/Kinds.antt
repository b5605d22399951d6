-- Numbers and conditions that a node reads are over the function's own variables.
use Rattle.std.specs.Prelude.{Bool, true, List}
use Rattle.sail_types.specs.declared.numbers.Index.{Index}
use Rattle.sail_core.specs.declared.tree.Kind.{Kind}
use Rattle.sail_core.specs.declared.tree.Kind.TheVariants as K
use Rattle.soundness_sizes.specs.Own.{con_own, number_own}

abbrev pub sizes_stand : List Index → Kind → Bool
sizes_stand numbers (K.SizeOf t ns) = number_own numbers t
sizes_stand numbers (K.Constraint c ns) = con_own numbers c
sizes_stand numbers kind = true
