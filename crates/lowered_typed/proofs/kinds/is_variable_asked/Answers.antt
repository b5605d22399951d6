use Rattle.std.proofs.Common.{◌≡◌, ◌∙◌, ◌≤◌, Bool, true, List, [], ◌∷◌, length, refl, sym, ap, arith}
use Rattle.size_values.specs.declared.sized.Sized.{Sized}
use Rattle.sized_nodes.specs.declared.trees.Case.{Case}
use Rattle.lowered_typed.specs.declared.signs.Judge.{Judge}
use Rattle.std.proofs.lemmas.Result.{IfOk-weaker}
use Rattle.lowered_pieces.specs.Nodes.{cases_at}
use Rattle.lowered_steps.proofs.Lists.{none_of}
use Rattle.lowered_steps.specs.Setting.{nodes_in}
use Rattle.lowered_typed.specs.Judging.{cases_typed}
use Rattle.lowered_typed.specs.Here as here
use Rattle.lowered_typed.specs.Judged as judged
use Rattle.lowered_typed.proofs.kinds.is_variable_asked.Goals as goal

read_right : (j : Judge) (us : List Sized) (cs : List Case) → 1 ≤ length us → cases_typed j (λ case_. true) cs ≡ here.variable_right j us cs
read_right j [] cs some = absurd (omega (arith, some))
read_right j (u ∷ us) cs some = refl

pub returns-in-empty : goal.returns-in-empty
returns-in-empty c =
    ap (λ us. here.variable_right c.args.judge.now us (cases_at c.args.number 0 (nodes_in c.args.judge.now.setting.now)))
    (sym (none_of c.reads_as.result.now c.in-empty.len_below) ∙ c.reads_as.ensures)

pub returns-in-len1-up : goal.returns-in-len1-up
returns-in-len1-up c =
    IfOk-weaker c.are_as_asked.result _ (λ (a : Bool). a ≡ judged.variable_asked c.args.judge.now c.args.name.now c.args.number)
    (λ a e. e ∙ ap (λ cs. cases_typed c.args.judge.now (λ case_. true) cs) c.cases.ensures
    ∙ read_right c.args.judge.now c.reads_as.result.now (cases_at c.args.number 0 (nodes_in c.args.judge.now.setting.now)) c.in-len1-up.len_at_least
    ∙ ap (λ us. here.variable_right c.args.judge.now us (cases_at c.args.number 0 (nodes_in c.args.judge.now.setting.now)))
    c.reads_as.ensures) c.are_as_asked.ensures
