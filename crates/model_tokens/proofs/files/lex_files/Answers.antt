use Rattle.std.proofs.Common.{map, subst}
use Rattle.std.proofs.Math.ListN.{drop_of_length-le}
use Rattle.model_tokens.specs.Parts.{tokens_of}
use Rattle.model_tokens.proofs.Onward.{FilesSoFar, LexedSoFar, all_found, all_lexed}
use Rattle.model_tokens.proofs.files.lex_files.Goals as goal

pub returns-clause-lexed : goal.returns-clause-lexed
returns-clause-lexed c =
    all_lexed
    (subst (LexedSoFar c.args.texts.now (map tokens_of c.loop-text.found) c.loop-text.file c.loop-text.before)
    (drop_of_length-le c.args.texts.now c.loop-text-test.false) c.loop-text.invariant.lexed)

pub returns-clause-files : goal.returns-clause-files
returns-clause-files c =
    all_found
    (subst (FilesSoFar c.args.texts.now c.loop-text.found c.loop-text.file) (drop_of_length-le c.args.texts.now c.loop-text-test.false)
    c.loop-text.invariant.files)
