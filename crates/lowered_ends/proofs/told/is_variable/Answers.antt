use Rattle.std.proofs.Common.{◌∙◌}
use Rattle.std.specs.Prelude.{◌&&◌, nat_eq}
use Rattle.lowered_pieces.specs.Tables.{cases_among}
use Rattle.lowered_ends.proofs.told.is_variable.Goals as goal

pub returns : goal.returns
returns c =
    c.both.ensures
    ∙ (λ i. c.is_told-told.ensures i
    && (c.both-whole.ensures
    ∙ (λ j. nat_eq c.args.parts 0 && (c.are_among-fit.ensures ∙ (λ k. cases_among (c.reads_as-types.ensures k) (c.cases-list.ensures k))) j)) i)
