use Rattle.std.proofs.Common.{sym, subst}
use Rattle.std.specs.List.{All}
use Rattle.model_tokens.specs.Files.{IsShort}
use Rattle.sail_top.specs.parts.Short.{AreShortButLast}
use Rattle.sail_top.proofs.ShortLemmas.{short_texts}
use Rattle.sail_top.proofs.answer.answer_run.Goals as goal

pub judge-requires-clause-short : goal.judge-requires-clause-short
judge-requires-clause-short g c =
    subst (All IsShort) (sym c.as_slice.ensures) (short_texts c.pop.new.self c.in-Some.file (subst AreShortButLast c.in-Some.ensures c.requires.short))
