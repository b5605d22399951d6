-- Which directions of mappings a body calls, or asks in patterns.
use Rattle.std.specs.Prelude.{◌≡◌, ℕ, Bool, true, ◌&&◌, List, [], ◌∷◌}
use Rattle.sail_types.specs.declared.table.Types.{Types}
use Rattle.size_values.specs.declared.sized.Sized.{Sized}
use Rattle.sail_core.specs.declared.patterns.Step.{Step}
use Rattle.sail_core.specs.declared.patterns.Step.TheVariants as P
use Rattle.sail_core.specs.declared.patterns.Arm.{Arm}
use Rattle.sail_core.specs.declared.patterns.Arm.TheVariants as A
use Rattle.sail_core.specs.declared.tree.Callee.TheVariants as F
use Rattle.sail_core.specs.declared.tree.Statement.{Statement}
use Rattle.sail_core.specs.declared.tree.Statement.TheVariants as S
use Rattle.sail_core.specs.declared.tree.Kind.{Kind}
use Rattle.sail_core.specs.declared.tree.Kind.TheVariants as K
use Rattle.sail_core.specs.declared.tree.Core.{Core, fold-Core}
use Rattle.lowered_pieces.specs.Places.{Kit}
use Rattle.lowered_pieces.specs.Tables.{Tables}
use Rattle.lowered_pieces.specs.Forms.{Callees}
use Rattle.lowered_pieces.specs.Lowering.{node}
use Rattle.lowered_laws.specs.Returning.{all_so}

module _ (crosses : ℕ → Bool) where
  -- each that a flat arm asks is one of these
  abbrev pub step_within : Step → Bool
  step_within (P.Sees i d) = crosses d
  step_within step = true

  abbrev pub steps_within : List Step → Bool
  steps_within [] = true
  steps_within (s ∷ ss) = step_within s && steps_within ss

  abbrev pub arm_within : Arm → Bool
  arm_within (A.Flat k ss) = steps_within ss
  arm_within arm = true

  abbrev pub arms_within : List Arm → Bool
  arms_within [] = true
  arms_within (arm ∷ arms) = arm_within arm && arms_within arms

  abbrev pub statements_within : List Statement → Bool
  statements_within [] = true
  statements_within (S.Define place arm ∷ ss) = arm_within arm && statements_within ss
  statements_within (s ∷ ss) = statements_within ss

  abbrev pub crosses_here : Kind → Bool
  crosses_here (K.Call (F.Applies d)) = crosses d
  crosses_here (K.Block statements) = statements_within statements
  crosses_here (K.Let arm) = arm_within arm
  crosses_here (K.Match arms shape) = arms_within arms
  crosses_here (K.Try arms shape) = arms_within arms
  crosses_here (K.Clauses arms) = arms_within arms
  crosses_here kind = true

  -- each that a body calls or asks is one of these
  abbrev pub crosses_within : Core → Bool
  crosses_within = fold-Core Bool (λ c. crosses_here c.kind && all_so c.parts)

-- where all that it calls or asks are of these, it is lowered as where every direction may be called
abbrev pub CrossingsKnown : Type 0
CrossingsKnown = (types : Types) (kit : Kit) (number : Sized → ℕ) (callees : Callees) (tables : Tables) (crosses : ℕ → Bool) (c : Core)
    → crosses_within crosses c ≡ true
    → node types kit number (record callees { crosses = λ d. true }) tables c ≡ node types kit number (record callees { crosses = crosses }) tables c
