-- The table of a model's types, and its module without functions.
use Rattle.std.specs.Prelude.{◌≡◌, ◌≤◌, ℕ, pos, true, List, [], ◌∷◌, map, Option}
use Rattle.sail_core.specs.declared.model.CoreModel.{CoreModel}
use Rattle.size_values.specs.declared.sized.Sized.{Sized, out-Sized}
use Rattle.size_values.specs.declared.sized.Sized.TheVariants as S
use Rattle.sized_nodes.specs.declared.trees.SizedCore.{SizedCore}
use Rattle.checked_meaning.specs.Items.{fixed_typ}
use Rattle.jib.specs.declared.code.Module.{Module}
use Rattle.jib.specs.declared.types.ValueType.{ValueType}
use Rattle.jib.specs.Operands.{each}
use Rattle.jib.specs.Valid.{typ_right}
use Rattle.lowered_types.specs.Table.{all_known, is_known, type_in}
use Rattle.lowered_pieces.specs.Arms.{word_width}
use Rattle.lowered_tables.specs.Built.{Stands}
use Rattle.lowered_tables.specs.declared.tables.Table.{Table}
use Rattle.jib_lower.specs.Types.{all_in_bodies, all_in_instances, all_in_registers, all_in_ways, all_small, exception_typ}

-- where these directions have a number of a cycle
pub record TableOf (core : CoreModel) (sized : SizedCore) (turned : List (Option ℕ)) (table : Table) : Type 0 where
  pub stands : Stands core.types table
  pub in_instances : all_in_instances table.numbered sized.instances ≡ true
  pub in_openings : all_in_bodies table.numbered sized.openings ≡ true
  pub in_ways : all_in_ways table.numbered sized.mappings 0 core.directions turned ≡ true
  pub in_registers : all_in_registers core.types table.numbered core.registers ≡ true
  pub small : all_small table.numbered ≡ true
  pub basic : all_known table.numbered (S.Unit ∷ S.Bool ∷ S.Int ∷ exception_typ core.exception ∷ []) ≡ true
  pub bits : (t : Sized) (n : ℕ) → is_known table.numbered t ≡ true → n ≤ word_width (out-Sized t) → is_known table.numbered (S.Bits (pos n)) ≡ true

-- with the types of a table that modules may have
pub record ShellOf (core : CoreModel) (numbered : List Sized) (types : List ValueType) (shell : Module) : Type 0 where
  pub types_are : shell.types ≡ types
  pub typs : each typ_right 0 types ≡ true
  pub exception : shell.exception ≡ type_in numbered (exception_typ core.exception)
  pub registers : shell.registers ≡ map (λ r. type_in numbered (fixed_typ core.types r.typ)) core.registers
