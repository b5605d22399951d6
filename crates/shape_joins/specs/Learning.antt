-- What the Type variables of a callee stand for, learnt from its arguments (Sail language manual, "Polymorphic functions").
use Rattle.std.specs.Prelude.{ℕ, nat_eq, nat_lt, List, [], ◌∷◌, length, replicate, slice_set, Option, Some, None, if◌then◌else◌}
use Rattle.sail_types.specs.Shapes.{at}
use Rattle.sail_types.specs.declared.shapes.Shape.{Shape, Shape-F, fold-Shape, out-Shape}
use Rattle.sail_types.specs.declared.shapes.Shape.TheOpen as S
use Rattle.sail_types.specs.declared.shapes.Shape.TheVariants as V
use Rattle.shape_joins.specs.Joins.{join}

-- before any argument nothing is known of so many variables
abbrev pub holes : ℕ → List Shape
holes count = replicate count V.Hole

-- a parameter's shape, shown an argument's and what is known: what is known then
abbrev pub Learns : Type 0
Learns = Shape → List Shape → Option (List Shape)

abbrev pub then_learn : Option (List Shape) → (List Shape → Option (List Shape)) → Option (List Shape)
then_learn None next = None
then_learn (Some known) next = next known

abbrev pub also_as : List Shape → ℕ → Option Shape → Option (List Shape)
also_as known i None = None
also_as known i (Some t) = Some (slice_set known i t)

-- this variable stands for this shape too
abbrev pub also : List Shape → ℕ → Shape → Option (List Shape)
also known i s = if nat_lt i (length known) then also_as known i (join (at known i) s) else None

-- likewise of several, from left to right
abbrev pub learn_all : List Learns → List Shape → List Shape → Option (List Shape)
learn_all [] [] known = Some known
learn_all (f ∷ fs) (s ∷ ss) known = then_learn (f s known) (learn_all fs ss)
learn_all fs ss known = None

-- a hole in the argument's shape, and what never ends normally, teach nothing
abbrev pub learn_form : Shape-F Learns → Shape → Shape-F Shape → List Shape → Option (List Shape)
learn_form (S.Variable i) s form known = also known i s
learn_form S.Unit s S.Unit known = Some known
learn_form S.Unit s S.Hole known = Some known
learn_form S.Unit s S.Never known = Some known
learn_form S.Bool s S.Bool known = Some known
learn_form S.Bool s S.Hole known = Some known
learn_form S.Bool s S.Never known = Some known
learn_form S.Bit s S.Bit known = Some known
learn_form S.Bit s S.Hole known = Some known
learn_form S.Bit s S.Never known = Some known
learn_form S.Bits s S.Bits known = Some known
learn_form S.Bits s S.Hole known = Some known
learn_form S.Bits s S.Never known = Some known
learn_form S.Int s S.Int known = Some known
learn_form S.Int s S.Hole known = Some known
learn_form S.Int s S.Never known = Some known
learn_form S.String s S.String known = Some known
learn_form S.String s S.Hole known = Some known
learn_form S.String s S.Never known = Some known
learn_form (S.List f) s (S.List u) known = f u known
learn_form (S.List f) s S.Hole known = Some known
learn_form (S.List f) s S.Never known = Some known
learn_form (S.Vector f) s (S.Vector u) known = f u known
learn_form (S.Vector f) s S.Hole known = Some known
learn_form (S.Vector f) s S.Never known = Some known
learn_form (S.Tuple fs) s (S.Tuple ss) known = learn_all fs ss known
learn_form (S.Tuple fs) s S.Hole known = Some known
learn_form (S.Tuple fs) s S.Never known = Some known
learn_form (S.Named i fs) s (S.Named j ss) known = if nat_eq i j then learn_all fs ss known else None
learn_form (S.Named i fs) s S.Hole known = Some known
learn_form (S.Named i fs) s S.Never known = Some known
learn_form p s form known = None

-- a parameter's shape is this argument's: what is known of the variables then; none where it can't be
abbrev pub learn : Shape → Learns
learn = fold-Shape Learns (λ p s known. learn_form p s (out-Shape s) known)
