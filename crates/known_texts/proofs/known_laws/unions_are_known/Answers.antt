use Rattle.known_texts.proofs.Failures.{nothing_fails}
use Rattle.known_texts.proofs.Types.{types_known}
use Rattle.known_texts.proofs.Parts.{tuples_have_parts}
use Rattle.known_texts.proofs.Unions.{unions_named}
use Rattle.known_texts.proofs.UnionsKnown.{each_union, option_known}
use Rattle.known_texts.proofs.known_laws.unions_are_known.Goals as goal

pub returns : goal.returns
returns c = λ text end accepted is_written.
    let clear = nothing_fails text end accepted in
    let parts = tuples_have_parts text is_written in
    (option_known text parts, each_union text parts text (unions_named text clear (types_known text clear.types)))
