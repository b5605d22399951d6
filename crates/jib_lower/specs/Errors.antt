-- Why a model isn't lowered: memory is wanting, a type gets no number, or another reason.
use Rattle.lowered_tables.specs.declared.tables.TableError.{TableError}
use Rattle.lowered_tables.specs.declared.tables.TableError.TheVariants as T
use Rattle.jib_lower.specs.declared.error.LowerError.{LowerError}
use Rattle.jib_lower.specs.declared.error.LowerError.TheVariants as L

abbrev pub of_table : TableError → LowerError
of_table T.Memory = L.Memory
of_table error = L.Table error

-- an error comes where memory is wanting, or for this reason
abbrev pub OrMemory : Type 0 → LowerError → Type 0
OrMemory reason L.Memory = Unit {0}
OrMemory reason error = reason
