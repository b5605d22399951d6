use Rattle.std.proofs.Common.{length}
use Rattle.lowered_steps.proofs.moves.+put_kept_all.Given as goal

abbrev pub decreases-put_kept_all : goal.decreases-put_kept_all
decreases-put_kept_all l = length l.types.now
