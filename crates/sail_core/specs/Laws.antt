-- What holds of the meaning of the core.
use Rattle.std.specs.Prelude.{◌≡◌, ℕ, List, [], ◌∷◌}
use Rattle.sail_base.specs.declared.place.Place.{Place}
use Rattle.sail_types.specs.declared.values.Value.{Value}
use Rattle.sail_core.specs.declared.patterns.Arm.{Arm}
use Rattle.sail_core.specs.declared.tree.Statement.{Statement}
use Rattle.sail_core.specs.declared.tree.Statement.TheVariants as S
use Rattle.sail_core.specs.declared.tree.Kind.TheVariants as K
use Rattle.sail_core.specs.declared.tree.Core.{Core}
use Rattle.sail_core.specs.declared.written.Written.{Written}
use Rattle.sail_core.specs.Making.{World}
use Rattle.sail_core.specs.Meaning.{core_meaning}
use Rattle.sail_core.specs.Nodes.{node, renumbered}
use Rattle.std.specs.Prelude.{Option}

-- numbers are for other readings: whatever they are, a core means the same
abbrev pub NumbersDontMatter : Type 0
NumbersDontMatter = (f : ℕ → ℕ) (w : World Value) (c : Core) → core_meaning w (renumbered f c) ≡ core_meaning w c

-- a block is the nest of its statements: a `let` in a block is a `let .. in` over the rest of it, and so is a `var`
abbrev pub BlocksAreNests : Type 0
BlocksAreNests = (w : World Value) (p : Place) (k l : ℕ) (q : Place) (arm : Arm) (ss : List Statement) (a : Core) (parts : List Core)
    → core_meaning w (node p k (K.Block (S.Define q arm ∷ ss)) (a ∷ parts))
    ≡ core_meaning w (node q l (K.Let arm) (a ∷ node p k (K.Block ss) parts ∷ []))

abbrev pub BlocksDeclare : Type 0
BlocksDeclare = (w : World Value) (p : Place) (k l : ℕ) (q : Place) (x : List ℕ) (t : Option Written) (ss : List Statement) (a : Core) (parts : List Core)
    → core_meaning w (node p k (K.Block (S.Declare x t ∷ ss)) (a ∷ parts))
    ≡ core_meaning w (node q l (K.Var x t) (a ∷ node p k (K.Block ss) parts ∷ []))
