use Rattle.std.proofs.Common.{◌∙◌, ◌&&◌, true, List, ap}
use Rattle.sized_nodes.specs.declared.trees.Case.{Case}
use Rattle.lowered_steps.specs.Cells.{holder_in}
use Rattle.lowered_validity.specs.Typing.{gives_in}
use Rattle.lowered_typed.specs.Here as here
use Rattle.lowered_typed.specs.Judging.{cases_typed}
use Rattle.lowered_typed.proofs.spots.is_part.Goals as goal

pub returns : goal.returns
returns c =
    let j = c.args.judge.now in let cell = c.args.cell.now in c.both-all.ensures
    ∙ (λ i. (c.in_ok-one.ensures ∙ ap (λ (cs : List Case). cases_typed j (λ k. true) cs) c.cases-cases.ensures) i
    && (c.both-rest.ensures
    ∙ (λ k. (c.in_ok-other.ensures ∙ ap (λ (cs : List Case). here.holder_right j (holder_in cell.holder) cs) c.cases-cases.ensures) k
    && (c.in_ok-last.ensures ∙ (λ h. here.replaces_all j cell.suffixes.now (c.cases-cases.ensures h) (gives_in (c.cases-values.ensures h)))) k)) i)
