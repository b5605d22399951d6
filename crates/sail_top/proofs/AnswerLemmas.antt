-- The answer to a command, by how the reading of its files ends.
use Rattle.std.proofs.Common.{ℕ, List, Option, Some, None, sym, subst}
use Rattle.sail_outside.specs.Files.{Files}
use Rattle.sail_outside.specs.declared.errors.ReadError.{ReadError}
use Rattle.sail_outside.specs.declared.errors.ReadError.TheVariants as read
use Rattle.sail_top.specs.Answer.{AnswersEnd, AnswersCommand}
use Rattle.sail_compile.specs.Engines.{Meant}
use Rattle.sail_words.specs.declared.command.Command.{Command}
use Rattle.sail_top.specs.Ending.{Leaves}
use Rattle.sail_top.specs.Reading.{ReadEnd, absent, long, contents_at, wanted_by, IsLeft}
use Rattle.sail_top.specs.parts.Unread.{Ends, StopsAt, AnswersUnread}
use Rattle.sail_top.specs.declared.status.Answer.{Answer}

pub answered_end : (engine : Meant) (held : Option Files) (command : Command) (end : ReadEnd) (left : Option (List ℕ)) (answer : Answer)
    → Ends held (wanted_by command) end left → AnswersEnd engine command end answer
    → AnswersCommand engine command held answer
answered_end engine None command end left answer ends is = (ends.0, subst (λ e. AnswersEnd engine command e answer) (sym ends.1) is)
answered_end engine (Some files) command end left answer ends is = subst (λ e. AnswersEnd engine command e answer) (sym ends.0) is

pub left_end : (held : Option Files) (command : Command) (end : ReadEnd) (left : Option (List ℕ))
    → Ends held (wanted_by command) end left → Leaves (Some command) held left
left_end None command end left ends = tt
left_end (Some files) command end left ends = λ some. subst (λ e. IsLeft (contents_at files (wanted_by command)) e left) (sym ends.0) ends.1

-- the answer where a file could not be read
pub answered_unread : (engine : Meant) (held : Option Files) (command : Command) (number : ℕ) (name : List ℕ) (error : ReadError) (left : Option (List ℕ))
    (before now : ℕ) (answer : Answer)
    → StopsAt held (wanted_by command) number name error left before now → AnswersUnread number name error answer
    → AnswersCommand engine command held answer
answered_unread engine held command number name read.Missing left before now answer stops is = answered_end engine held command (absent number name) left answer stops is
answered_unread engine held command number name (read.TooLong limit) left before now answer stops is = answered_end engine held command
    (long number name limit) left answer stops is
answered_unread engine held command number name read.Fault left before now answer stops is = absurd is
answered_unread engine held command number name read.OutOfMemory left before now answer stops is = absurd is

pub left_unread : (held : Option Files) (command : Command) (number : ℕ) (name : List ℕ) (error : ReadError) (left : Option (List ℕ))
    (before now : ℕ) (answer : Answer)
    → StopsAt held (wanted_by command) number name error left before now → AnswersUnread number name error answer
    → Leaves (Some command) held left
left_unread held command number name read.Missing left before now answer stops is = left_end held command (absent number name) left stops
left_unread held command number name (read.TooLong limit) left before now answer stops is = left_end held command (long number name limit) left stops
left_unread held command number name read.Fault left before now answer stops is = absurd is
left_unread held command number name read.OutOfMemory left before now answer stops is = absurd is
