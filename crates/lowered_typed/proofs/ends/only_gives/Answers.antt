use Rattle.std.proofs.Common.{◌≡◌, ◌∙◌, sym, ap}
use Rattle.lowered_pieces.specs.Forms.{cases_ends}
use Rattle.lowered_pieces.specs.Gathered.{only_end}
use Rattle.lowered_steps.proofs.Lists.{none_of, one_of}
use Rattle.lowered_typed.proofs.Fixed.{nothing_typ}
use Rattle.lowered_typed.proofs.More.{gives_many}
use Rattle.size_values.specs.declared.sized.Sized.{Sized}
use Rattle.std.proofs.lemmas.Result.{IfOk-weaker}
use Rattle.lowered_typed.specs.Here as here
use Rattle.lowered_typed.proofs.ends.only_gives.Goals as goal

pub returns-in-empty : goal.returns-in-empty
returns-in-empty c =
    sym (nothing_typ c.args.judge.now.setting.now.types.now)
    ∙ ap (λ us. here.operand_typ c.args.judge.now (only_end (cases_ends us))) (sym (none_of c.args.cases.now c.in-empty.len_below))

pub returns-in-len1 : goal.returns-in-len1
returns-in-len1 c =
    IfOk-weaker c.copy_sized.result _ (λ (a : Sized). a ≡ here.operand_typ c.args.judge.now (only_end (cases_ends c.args.cases.now))) (λ a e. e
    ∙ ap (λ us. here.operand_typ c.args.judge.now (only_end (cases_ends us))) (sym
    (one_of c.args.cases.now c.only-item.result c.in-len1.len_at_least c.in-len1.len_below c.only-item.is))) c.copy_sized.ensures

pub returns-in-len2-up : goal.returns-in-len2-up
returns-in-len2-up c =
    sym (nothing_typ c.args.judge.now.setting.now.types.now) ∙ gives_many c.args.judge.now c.args.cases.now c.in-len2-up.len_at_least
