use Rattle.std.proofs.Common.{length}
use Rattle.tabled_cores.proofs.calls.+numbers_pass.Given as goal

abbrev pub decreases-numbers_pass : goal.decreases-numbers_pass
decreases-numbers_pass l = length l.flags.now
