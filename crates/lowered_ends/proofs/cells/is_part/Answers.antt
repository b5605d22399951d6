use Rattle.std.proofs.Common.{◌∙◌, List, ap, ◌&&◌}
use Rattle.sized_nodes.specs.declared.trees.Case.{Case}
use Rattle.lowered_pieces.specs.Forms.{End, has_ends}
use Rattle.lowered_steps.specs.Cells.{holder_in}
use Rattle.lowered_ends.specs.Cells.{held_ok, paths_ok}
use Rattle.lowered_ends.proofs.cells.is_part.Goals as goal

pub returns : goal.returns
returns c =
    let setting = c.args.setting.now in let cell = c.args.cell.now in c.both.ensures
    ∙ (λ i. (c.is_said-said.ensures ∙ ap (λ (es : List End). has_ends es) c.in_ok-ends.ensures) i
    && (c.both-way.ensures
    ∙ (λ j. (c.in_ok-paths.ensures ∙ ap (λ (cs : List Case). paths_ok setting cell.suffixes.now cs) c.cases-cases.ensures) j
    && (c.is_held-held.ensures ∙ ap (λ (cs : List Case). held_ok setting (holder_in cell.holder) cs) c.cases-cases.ensures) j)) i)
