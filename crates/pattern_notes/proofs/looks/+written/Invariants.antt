use Rattle.std.proofs.Common.{◌+◌, ◌*◌}
use denote.Param.Weighed.{most}
use Rattle.sail_core.proofs.patterns.Pattern.TheLaws.{the_size}
use Rattle.pattern_notes.proofs.looks.+written.Given as goal

abbrev pub decreases-written_of : goal.decreases-written_of
decreases-written_of l = 4 * the_size l.pattern.now

abbrev pub decreases-form_written : goal.decreases-form_written
decreases-form_written l = 4 * most the_size l.parts.now + 2

abbrev pub decreases-only_written : goal.decreases-only_written
decreases-only_written l = 4 * most the_size l.parts.now + 1
