use Rattle.std.proofs.Common.{◌∙◌, ap, if◌then◌else◌, sym}
use Rattle.lowered_steps.proofs.setting.types_or.Goals as goal

pub returns-then-same : goal.returns-then-same
returns-then-same c =
    c.as_slice.ensures ∙ sym (ap (λ b. if b then c.args.reads.now.types else c.args.others.now) (sym c.is_of-same.ensures ∙ c.if-same.true))

pub returns-else-same : goal.returns-else-same
returns-else-same c = sym (ap (λ b. if b then c.args.reads.now.types else c.args.others.now) (sym c.is_of-same.ensures ∙ c.if-same.false))
