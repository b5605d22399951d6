-- Sentences on what is left open in shapes, which laws prove: `fills` is an order, `join` gives the least shape above two, and what is
-- learnt from an argument makes the parameter its shape.
use Rattle.std.specs.Prelude.{◌≡◌, true, List, Some}
use Rattle.sail_types.specs.Shapes.{at, put}
use Rattle.sail_types.specs.declared.shapes.Shape.{Shape}
use Rattle.shape_joins.specs.Joins.{join}
use Rattle.shape_joins.specs.Filling.{fills, fill_all}
use Rattle.shape_joins.specs.Learning.{learn}

-- each shape is itself, with nothing filled
abbrev pub IsReflexive : Type 0
IsReflexive = (s : Shape) → fills s s ≡ true

-- what is filled twice is filled
abbrev pub IsTransitive : Type 0
IsTransitive = (s t u : Shape) → fills s t ≡ true → fills t u ≡ true → fills s u ≡ true

-- the one shape that two are is each of them, once filled
abbrev pub JoinsAreAbove : Type 0
JoinsAreAbove = (s t joined : Shape) → join s t ≡ Some joined → (fills s joined ≡ true) × (fills t joined ≡ true)

-- where some shape is both of them, once filled, there is one shape that they are, which leaves open whatever can be left open
abbrev pub JoinsAreLeast : Type 0
JoinsAreLeast = (s t above : Shape) → fills s above ≡ true → fills t above ≡ true
    → (joined : Shape) × (join s t ≡ Some joined) × (fills joined above ≡ true)

-- what is learnt from an argument keeps what was known, and the parameter with it in place of its variables is the argument's shape,
-- once filled
abbrev pub LearningFills : Type 0
LearningFills = (parameter s : Shape) (known later : List Shape) → learn parameter s known ≡ Some later
    → (fill_all known later ≡ true) × (fills s (put (at later) parameter) ≡ true)
