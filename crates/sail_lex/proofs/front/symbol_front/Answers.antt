use Rattle.std.proofs.Common.{Some, take, length}
use Rattle.sail_lex.specs.Entries.{entry}
use Rattle.sail_lex.proofs.Plain.{plain_symbol}
use Rattle.sail_lex.proofs.Symbols.{symbol_reaches}
use Rattle.sail_lex.proofs.front.symbol_front.Goals as goal

-- a symbol of the table that begins the text is some of its bytes
pub returns-in-Some-clause-reaches : goal.returns-in-Some-clause-reaches
returns-in-Some-clause-reaches c =
    let text = c.args.text.now in
    let found = entry c.in-Some.symbol in
    let reaches = symbol_reaches text (Some found) c.in-Some.ensures in
    (reaches.0, reaches.1, plain_symbol text (take (length found.0) text) (Some found) c.in-Some.ensures)
