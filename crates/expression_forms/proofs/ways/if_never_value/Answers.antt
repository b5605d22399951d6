use Rattle.std.proofs.Common.{◌∙◌, sym}
use Rattle.value_indices.specs.Walking.{seen}
use Rattle.expression_forms.proofs.Forms.{never_got, never_run}
use Rattle.expression_forms.proofs.ways.if_never_value.Goals as goal

pub returns-then-is_never-clause-value : goal.returns-then-is_never-clause-value
returns-then-is_never-clause-value c =
    never_got c.args.place c.args.value.now (seen c.args.walking.now) (sym c.is_never.ensures ∙ c.if-is_never.true)

pub returns-then-is_never-clause-walked : goal.returns-then-is_never-clause-walked
returns-then-is_never-clause-walked c =
    never_run c.args.place c.args.value.now (seen c.args.walking.now) (sym c.is_never.ensures ∙ c.if-is_never.true)
