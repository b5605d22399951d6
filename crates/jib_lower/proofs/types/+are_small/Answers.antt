use Rattle.std.proofs.Common.{◌∙◌, ap, sym}
use Rattle.lowered_steps.proofs.Lists.{first_of, none_of, others}
use Rattle.std.specs.Prelude.{◌&&◌}
use Rattle.jib_lower.specs.Types.{all_sizes_fit, all_small}
use Rattle.jib_lower.proofs.Kept.{narrow_more, narrow_none, small_more}
use Rattle.jib_lower.proofs.types.+are_small.Goals as goal

pub returns-in-empty-clause-small : goal.returns-in-empty-clause-small
returns-in-empty-clause-small t c = λ h. ap all_small (none_of c.args.numbered.now c.in-empty.len_below)

pub returns-in-empty-clause-narrow : goal.returns-in-empty-clause-narrow
returns-in-empty-clause-narrow t c = λ h. narrow_none c.args.numbered.now (none_of c.args.numbered.now c.in-empty.len_below)

pub returns-then-has_small-clause-small : goal.returns-then-has_small-clause-small
returns-then-has_small-clause-small t c =
    λ h.
    small_more c.first-item.result (others c.args.numbered.now) c.args.numbered.now
    (first_of c.args.numbered.now c.first-item.result c.in-len1-up.len_at_least c.first-item.is)
    (c.has_small.ensures.small c.if-has_small.true) (c.are_small.ensures.small h)

pub returns-then-has_small-clause-narrow : goal.returns-then-has_small-clause-narrow
returns-then-has_small-clause-narrow t c =
    λ h.
    narrow_more c.first-item.result (others c.args.numbered.now) c.args.numbered.now
    (first_of c.args.numbered.now c.first-item.result c.in-len1-up.len_at_least c.first-item.is)
    (c.has_small.ensures.narrow c.if-has_small.true) (c.are_small.ensures.narrow h)

pub returns-in-empty-clause-fits : goal.returns-in-empty-clause-fits
returns-in-empty-clause-fits t c = sym (ap all_sizes_fit (none_of c.args.numbered.now c.in-empty.len_below))

pub returns-then-has_small-clause-fits : goal.returns-then-has_small-clause-fits
returns-then-has_small-clause-fits t c =
    c.are_small.ensures.fits
    ∙ sym (ap all_sizes_fit (first_of c.args.numbered.now c.first-item.result c.in-len1-up.len_at_least c.first-item.is)
    ∙ ap (λ b. b && all_sizes_fit (others c.args.numbered.now)) (sym c.has_small.ensures.fits ∙ c.if-has_small.true))

pub returns-else-has_small-clause-fits : goal.returns-else-has_small-clause-fits
returns-else-has_small-clause-fits t c =
    c.if-has_small.false
    ∙ sym (ap all_sizes_fit (first_of c.args.numbered.now c.first-item.result c.in-len1-up.len_at_least c.first-item.is)
    ∙ ap (λ b. b && all_sizes_fit (others c.args.numbered.now)) (sym c.has_small.ensures.fits ∙ c.if-has_small.false))
