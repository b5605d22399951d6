use Rattle.std.proofs.Common.{length}
use Rattle.lowered_typed.proofs.structs.+are_fields.Given as goal

abbrev pub decreases-are_fields : goal.decreases-are_fields
decreases-are_fields l = length l.types.now
