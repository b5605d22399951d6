use Rattle.clap.specs.Words.{rows_of, found_of}
use Rattle.sail_words.proofs.Limits.{IfOk-allowed}
use Rattle.sail_words.proofs.reading.line.Goals as goal

pub returns-in-Some-clause-limits : goal.returns-in-Some-clause-limits
returns-in-Some-clause-limits c =
    IfOk-allowed c.in-Some.name.now (rows_of (found_of c.in-Some.values.now)) c.read_command.result c.read_command.ensures.found
