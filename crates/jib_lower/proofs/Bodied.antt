-- Bodies of directions that are functions; and types of what doesn't exist.
use Rattle.std.proofs.Common.{◌≡◌, ◌∙◌, ◌≤◌, ◌<◌, List, length, ap, arith, refl}
use Rattle.sail_types.specs.declared.types.Typ.{Typ}
use Rattle.sail_core.specs.declared.model.Direction.{Direction}
use Rattle.sail_core.specs.declared.tree.Core.{Core, out-Core}
use Rattle.sail_core.specs.declared.tree.Kind.TheVariants as K
use Rattle.size_values.specs.declared.sized.Sized.{Sized, Sized-F}
use Rattle.size_values.specs.declared.sized.Sized.TheOpen as Z
use Rattle.lowered_pieces.specs.Forms.{never_form}
use Rattle.lowered_types.specs.Table.{form_never}
use Rattle.jib_lower.specs.Left.{NoBody}

pub same_never : (z : Sized-F Sized) → never_form z ≡ form_never z
same_never Z.Never = refl
same_never z = refl

-- a body gives an option
pub other_kind : (m : Direction) → ((typ : Typ) → (out-Core m.body).kind ≡ K.Optional typ → ⊥) → NoBody m
other_kind m never typ clauses b = never typ b.kind

-- of one part
pub no_part : (m : Direction) (parts : List Core) → parts ≡ (out-Core m.body).parts → length parts < 1 → NoBody m
no_part m parts is few typ clauses b = let one : length parts ≡ 1 = ap length (is ∙ b.parts) in omega (arith, one, few)

pub more_parts : (m : Direction) (parts : List Core) → parts ≡ (out-Core m.body).parts → 2 ≤ length parts → NoBody m
more_parts m parts is many typ clauses b = let one : length parts ≡ 1 = ap length (is ∙ b.parts) in omega (arith, one, many)
