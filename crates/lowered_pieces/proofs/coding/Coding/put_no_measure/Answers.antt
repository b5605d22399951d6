use Rattle.std.proofs.Common.{refl}
use Rattle.lowered_pieces.proofs.Emitting.{grows_here, no_reads, ok_put}
use Rattle.lowered_pieces.proofs.coding.Coding.put_no_measure.Goals as goal

pub returns : goal.returns
returns c = ok_put c.put_plain.result _ _ _ _ _ (grows_here _) c.put_plain.ensures (λ ys b l. refl) (no_reads _)
