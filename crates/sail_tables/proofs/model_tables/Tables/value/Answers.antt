use Rattle.std.proofs.Common.{ap, ◌∙◌}
use Rattle.sail_names.specs.Known.{Known}
use Rattle.sail_tables.proofs.model_tables.Tables.value.Goals as goal

pub returns : goal.returns
returns c = λ text end these. c.value.ensures ∙ ap (λ (known : Known). known.value c.args.name.now) these.names
