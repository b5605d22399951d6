use Rattle.std.proofs.Common.{◌<◌, List, length, subst}
use Rattle.linear.specs.declared.row.Row.{Row}
use Rattle.farkas.proofs.Places.{fate_within}
use Rattle.farkas.proofs.keeping.keep.Goals as goal

pub set-requires : goal.set-requires
set-requires c = subst (λ (kept : List Row). c.in-Replaces.place < length kept) c.as_slice.ensures
    (fate_within c.as_slice.result.now c.in_ok-row.row _ _ c.fate_of.ensures c.in-Replaces.is)
