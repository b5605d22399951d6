-- A command whose files were read whole: what is answered, and what is left.
use Rattle.std.proofs.Common.{◌≡◌, ℕ, List, [], length, Option, Some, None, sym, subst, ap, arith}
use Rattle.sail_outside.specs.Files.{Files}
use Rattle.sail_compile.specs.Engines.{Meant}
use Rattle.sail_words.specs.declared.command.Command.{Command}
use Rattle.sail_top.specs.Answer.{AnswersCommand, AnswersEnd, AnswersFiles}
use Rattle.sail_top.specs.Ending.{Leaves}
use Rattle.sail_top.specs.Reading.{IsLeft, ReadEnd, Wanted, contents_at, reading, wanted_by, whole}
use Rattle.sail_top.specs.declared.status.Answer.{Answer}
use Rattle.sail_top.specs.parts.Unread.{Ends}

pub command_answered : (engine : Meant) (held : Option Files) (command : Command) (files : List (List ℕ)) (left : Option (List ℕ)) (answer : Answer)
    → Ends held (wanted_by command) (whole files) left → AnswersFiles engine command files answer → AnswersCommand engine command held answer
command_answered engine (Some held) command files left answer ends answers =
    subst (λ (e : ReadEnd). AnswersEnd engine command e answer) (sym ends.0) answers
command_answered engine None command files left answer ends answers =
    (ends.0, subst (λ (e : ReadEnd). AnswersEnd engine command e answer) (sym ends.1) answers)

pub command_left : (held : Option Files) (command : Command) (files : List (List ℕ)) (left : Option (List ℕ))
    → Ends held (wanted_by command) (whole files) left → Leaves (Some command) held left
command_left (Some held) command files left ends =
    λ some. subst (λ (e : ReadEnd). IsLeft (contents_at held (wanted_by command)) e left) (sym ends.0) ends.1
command_left None command files left ends = tt

-- a command that wants no file
pub unread_answered : (engine : Meant) (held : Option Files) (command : Command) (answer : Answer) → wanted_by command ≡ [] → AnswersFiles engine command [] answer
    → AnswersCommand engine command held answer
unread_answered engine (Some held) command answer none answers =
    subst (λ (wanted : List Wanted). AnswersEnd engine command (reading 0 wanted (contents_at held wanted)) answer) (sym none) answers
unread_answered engine None command answer none answers =
    ([], subst (λ (wanted : List Wanted). AnswersEnd engine command (reading 0 wanted []) answer) (sym none) answers)

pub unread_left : (held : Option Files) (command : Command) (left : Option (List ℕ)) → wanted_by command ≡ [] → Leaves (Some command) held left
unread_left (Some held) command left none = λ some. let empty : length (wanted_by command) ≡ 0 = ap length none in absurd (omega arith)
unread_left None command left none = tt
