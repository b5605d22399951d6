use Rattle.std.proofs.Common.{◌≡◌, ◌∙◌, ◌++◌, ◌≤◌, List, [], ◌∷◌, length, refl, sym, ap, arith}
use Rattle.size_values.specs.declared.sized.Sized.{Sized}
use Rattle.lowered_typed.specs.declared.signs.Judge.{Judge}
use Rattle.std.proofs.lemmas.Result.{on_ok_weaker}
use Rattle.sized_nodes.specs.declared.trees.Case.{Case}
use Rattle.lowered_pieces.specs.Nodes.{cases_at}
use Rattle.lowered_steps.proofs.Lists.{none_of}
use Rattle.lowered_steps.specs.Setting.{nodes_in}
use Rattle.lowered_validity.specs.Typing.{gives_in}
use Rattle.lowered_typed.proofs.Pushed.{none}
use Rattle.lowered_typed.specs.Here as here
use Rattle.lowered_typed.specs.Judged as judged
use Rattle.lowered_typed.proofs.types.put_variable_types.Goals as goal

read_types : (j : Judge) (us : List Sized) (cs : List Case) → 1 ≤ length us → gives_in cs ≡ here.variable_types j us cs
read_types j [] cs some = absurd (omega (arith, some))
read_types j (u ∷ us) cs some = refl

pub returns-in-empty : goal.returns-in-empty
returns-in-empty c =
    none c.args.types.now (judged.variable_types c.args.judge.now c.args.name.now c.args.number)
    (ap (λ us. here.variable_types c.args.judge.now us (cases_at c.args.number 0 (nodes_in c.args.judge.now.setting.now)))
    (sym c.reads_as.ensures ∙ none_of c.reads_as.result.now c.in-empty.len_below))

pub returns-in-len1-up : goal.returns-in-len1-up
returns-in-len1-up c =
    on_ok_weaker c.put_gives.result (λ (e : c.put_gives.new.types ≡ c.args.types.now ++ gives_in c.cases.result.now). e
    ∙ ap (λ (cs : List Case). c.args.types.now ++ gives_in cs) c.cases.ensures
    ∙ ap (λ us. c.args.types.now ++ us) (read_types c.args.judge.now c.reads_as.result.now (cases_at c.args.number 0 (nodes_in c.args.judge.now.setting.now))
    c.in-len1-up.len_at_least)
    ∙ ap (λ us. c.args.types.now ++ here.variable_types c.args.judge.now us (cases_at c.args.number 0 (nodes_in c.args.judge.now.setting.now)))
    c.reads_as.ensures) c.put_gives.ensures
