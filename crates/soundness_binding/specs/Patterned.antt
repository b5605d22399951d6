-- Patterns that stand in what a node binds.
use Rattle.std.specs.Prelude.{Bool, true, ◌&&◌, List, [], ◌∷◌}
use Rattle.sail_types.specs.declared.numbers.Index.{Index}
use Rattle.sail_types.specs.declared.table.Types.{Types}
use Rattle.sail_core.specs.declared.patterns.Arm.{Arm}
use Rattle.sail_core.specs.declared.tree.Kind.{Kind}
use Rattle.sail_core.specs.declared.tree.Kind.TheVariants as K
use Rattle.sail_core.specs.declared.tree.Statement.{Statement}
use Rattle.sail_core.specs.declared.tree.Statement.TheVariants as S
use Rattle.pattern_laws.specs.Standing.{arm_stands}

module _ (types : Types) (numbers : List Index) where
  -- those of each `let` in a block
  abbrev pub lets_stand : List Statement → Bool
  lets_stand [] = true
  lets_stand (S.Evaluate ∷ ss) = lets_stand ss
  lets_stand (S.Define here_at arm ∷ ss) = arm_stands types numbers arm && lets_stand ss
  lets_stand (S.Declare name written ∷ ss) = lets_stand ss

  abbrev pub arms_stand : List Arm → Bool
  arms_stand [] = true
  arms_stand (arm ∷ arms) = arm_stands types numbers arm && arms_stand arms

  abbrev pub patterns_stand : Kind → Bool
  patterns_stand (K.Let arm) = arm_stands types numbers arm
  patterns_stand (K.Block statements) = lets_stand statements
  patterns_stand (K.Match arms shape) = arms_stand arms
  patterns_stand (K.Try arms shape) = arms_stand arms
  patterns_stand (K.Clauses arms) = arms_stand arms
  patterns_stand kind = true
