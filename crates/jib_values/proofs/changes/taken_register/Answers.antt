use Rattle.std.proofs.Common.{sym, ◌∙◌}
use Rattle.sail_types.specs.declared.values.Value.TheVariants as V
use Rattle.jib_values.proofs.RegisterLaws.{not_written}
use Rattle.jib_values.proofs.changes.taken_register.Goals as goal

pub returns-else-is_some-clause-state : goal.returns-else-is_some-clause-state
returns-else-is_some-clause-state g c = not_written c.args.state.now c.args.hart c.args.index V.Unit c.find_register.result c.find_register.ensures (sym
    c.is_some.ensures ∙ c.if-is_some.false)
