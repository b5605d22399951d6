use Rattle.std.proofs.Common.{◌∙◌, sym, ap}
use Rattle.lowered_pieces.specs.Forms.{cases_ends}
use Rattle.lowered_pieces.specs.Gathered.{only_end}
use Rattle.lowered_steps.proofs.Lists.{none_of, one_of}
use Rattle.lowered_typed.proofs.More.{moves_many}
use Rattle.lowered_typed.specs.Judging.{signs_here}
use Rattle.lowered_validity.specs.Typing.{comes}
use Rattle.lowered_typed.specs.Judged as judged
use Rattle.lowered_typed.proofs.calls.only_moves.Goals as goal

pub returns-in-empty : goal.returns-in-empty
returns-in-empty c =
    ap (λ us. judged.comes_to c.args.judge.now (only_end (cases_ends us)) c.args.to) (sym (none_of c.args.cases.now c.in-empty.len_below))

pub returns-in_ok-from-in-len1 : goal.returns-in_ok-from-in-len1
returns-in_ok-from-in-len1 c =
    c.comes.ensures ∙ ap (λ n. comes (signs_here c.args.judge.now) n c.args.to) c.in_ok-from-in-len1.ensures
    ∙ ap (λ us. judged.comes_to c.args.judge.now (only_end (cases_ends us)) c.args.to) (sym
    (one_of c.args.cases.now c.only-item.result c.in-len1.len_at_least c.in-len1.len_below c.only-item.is))

pub returns-in-len2-up : goal.returns-in-len2-up
returns-in-len2-up c = moves_many c.args.judge.now c.args.cases.now c.args.to c.in-len2-up.len_at_least
