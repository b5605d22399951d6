use Rattle.std.proofs.Common.{◌<◌, List, length, subst}
use Rattle.farkas.specs.declared.elimination.Held.{Held}
use Rattle.farkas.proofs.Places.{fate_of_within}
use Rattle.farkas.proofs.elimination.take.Goals as goal

pub set-requires : goal.set-requires
set-requires c = subst (λ (held : List Held). c.in-Replaces.place < length held) c.as_slice-2.ensures
    (fate_of_within c.as_slice-2.result.now c.args.row _ _ c.fate_of_held.ensures c.in-Replaces.is)
