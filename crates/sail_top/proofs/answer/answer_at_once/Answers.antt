use Rattle.std.proofs.Common.{ℕ, List, length, IfOk, sym, ap, ◌∙◌, subst}
use Rattle.sail_top.specs.Answer.{AnswersFiles}
use Rattle.sail_top.specs.parts.Short.{AreShortFor}
use Rattle.sail_top.proofs.ShortLemmas.{none_short}
use Rattle.sail_top.proofs.answer.answer_at_once.Goals as goal

pub answer_files-requires-clause-count : goal.answer_files-requires-clause-count
answer_files-requires-clause-count g c = ap length c.new.ensures ∙ sym (ap length c.requires.none)

pub answer_files-requires-clause-short : goal.answer_files-requires-clause-short
answer_files-requires-clause-short g c = subst (AreShortFor c.args.command.now) (sym c.new.ensures) (none_short c.args.command.now)

pub returns : goal.returns
returns g c =
    subst (λ (files : List (List ℕ)). IfOk c.answer_files.result (AnswersFiles (g.E.Engine.engine c.args.engine.now) c.args.command.now files)) c.new.ensures c.answer_files.ensures
