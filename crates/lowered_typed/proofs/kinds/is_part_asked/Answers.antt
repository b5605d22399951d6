use Rattle.std.proofs.Common.{◌∙◌, ◌&&◌, ap}
use Rattle.lowered_ends.specs.Able.{suffixes_fit}
use Rattle.lowered_typed.proofs.kinds.is_part_asked.Goals as goal

pub returns : goal.returns
returns c =
    c.both-all.ensures ∙ (λ i. (c.are_suffixes-one.ensures
    ∙ ap (suffixes_fit c.args.suffixes.now) c.saturating_sub.ensures) i && c.in_ok-other.ensures i)
