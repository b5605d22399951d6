use Rattle.std.proofs.Common.{sym, ◌∙◌}
use Rattle.jib_values.proofs.RegisterLaws.{not_written}
use Rattle.jib_values.proofs.reading.put_register.Goals as goal

pub returns-else-is_some : goal.returns-else-is_some
returns-else-is_some g c = not_written c.args.state.now c.args.hart c.args.index c.args.value c.find_register.result c.find_register.ensures (sym
    c.is_some.ensures ∙ c.if-is_some.false)
