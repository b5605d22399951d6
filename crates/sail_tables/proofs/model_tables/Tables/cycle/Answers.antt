use Rattle.std.proofs.Common.{ap, ◌∙◌}
use Rattle.sail_names.specs.Known.{Known}
use Rattle.sail_cycles.specs.Cycles.{number_named}
use Rattle.sail_tables.specs.Tabled.{cycle_numbered}
use Rattle.sail_tables.proofs.model_tables.Tables.cycle.Goals as goal

pub returns : goal.returns
returns c = λ text end these.
    c.cycle_numbered.ensures
    ∙ ap (cycle_numbered c.args.self.now.calls) (c.number_of.ensures ∙ ap (λ (known : Known). number_named (known.value c.args.name.now)) these.names)
