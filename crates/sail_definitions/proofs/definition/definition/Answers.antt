use Rattle.std.proofs.Common.{sym, ◌∙◌}
use Rattle.sail_grammar.proofs.Steps.{pass_ok, pass_stop}
use Rattle.sail_definitions.proofs.DefinitionRows.{by_order, by_order_stops, by_alias, by_alias_stops}
use Rattle.sail_definitions.proofs.DefinitionRows.{by_enum_definition, by_enum_definition_stops, by_struct_definition}
use Rattle.sail_definitions.proofs.DefinitionRows.{by_struct_definition_stops, by_union_definition}
use Rattle.sail_definitions.proofs.DefinitionRows.{by_union_definition_stops, by_val, by_val_stops, by_function}
use Rattle.sail_definitions.proofs.DefinitionRows.{by_function_stops, by_measure, by_measure_stops, by_mapping}
use Rattle.sail_definitions.proofs.DefinitionRows.{by_mapping_stops, by_let_definition, by_let_definition_stops}
use Rattle.sail_definitions.proofs.DefinitionRows.{by_register, by_register_stops, by_overload, by_overload_stops}
use Rattle.sail_definitions.proofs.DefinitionRows.{by_scattered, by_scattered_stops, by_end, by_end_stops}
use Rattle.sail_definitions.proofs.definition.definition.Goals as goal

pub returns-then-sees-clause-read : goal.returns-then-sees-clause-read
returns-then-sees-clause-read c = pass_ok _ c.order.ensures.read (λ x r. by_order (sym c.sees.ensures ∙ c.if-sees.true) r)

pub returns-then-sees-clause-stop : goal.returns-then-sees-clause-stop
returns-then-sees-clause-stop c = pass_stop _ c.order.ensures.stop (λ e s. by_order_stops (sym c.sees.ensures ∙ c.if-sees.true) s)

pub returns-then-sees-2-clause-read : goal.returns-then-sees-2-clause-read
returns-then-sees-2-clause-read c = pass_ok _ c.alias.ensures.read (λ x r. by_alias (sym c.sees-else-sees.ensures ∙ c.if-sees-2.true) r)

pub returns-then-sees-2-clause-stop : goal.returns-then-sees-2-clause-stop
returns-then-sees-2-clause-stop c = pass_stop _ c.alias.ensures.stop (λ e s. by_alias_stops (sym c.sees-else-sees.ensures ∙ c.if-sees-2.true) s)

pub returns-then-sees-3-clause-read : goal.returns-then-sees-3-clause-read
returns-then-sees-3-clause-read c =
    pass_ok _ c.enum_definition.ensures.read (λ x r. by_enum_definition (sym c.sees-else-sees-2.ensures ∙ c.if-sees-3.true) r)

pub returns-then-sees-3-clause-stop : goal.returns-then-sees-3-clause-stop
returns-then-sees-3-clause-stop c =
    pass_stop _ c.enum_definition.ensures.stop (λ e s. by_enum_definition_stops (sym c.sees-else-sees-2.ensures ∙ c.if-sees-3.true) s)

pub returns-then-sees-4-clause-read : goal.returns-then-sees-4-clause-read
returns-then-sees-4-clause-read c =
    pass_ok _ c.struct_definition.ensures.read (λ x r. by_struct_definition (sym c.sees-else-sees-3.ensures ∙ c.if-sees-4.true) r)

pub returns-then-sees-4-clause-stop : goal.returns-then-sees-4-clause-stop
returns-then-sees-4-clause-stop c =
    pass_stop _ c.struct_definition.ensures.stop (λ e s. by_struct_definition_stops (sym c.sees-else-sees-3.ensures ∙ c.if-sees-4.true) s)

pub returns-then-sees-5-clause-read : goal.returns-then-sees-5-clause-read
returns-then-sees-5-clause-read c =
    pass_ok _ c.union_definition.ensures.read (λ x r. by_union_definition (sym c.sees-else-sees-4.ensures ∙ c.if-sees-5.true) r)

pub returns-then-sees-5-clause-stop : goal.returns-then-sees-5-clause-stop
returns-then-sees-5-clause-stop c =
    pass_stop _ c.union_definition.ensures.stop (λ e s. by_union_definition_stops (sym c.sees-else-sees-4.ensures ∙ c.if-sees-5.true) s)

pub returns-then-sees-6-clause-read : goal.returns-then-sees-6-clause-read
returns-then-sees-6-clause-read c = pass_ok _ c.val.ensures.read (λ x r. by_val (sym c.sees-else-sees-5.ensures ∙ c.if-sees-6.true) r)

pub returns-then-sees-6-clause-stop : goal.returns-then-sees-6-clause-stop
returns-then-sees-6-clause-stop c = pass_stop _ c.val.ensures.stop (λ e s. by_val_stops (sym c.sees-else-sees-5.ensures ∙ c.if-sees-6.true) s)

pub returns-then-sees-7-clause-read : goal.returns-then-sees-7-clause-read
returns-then-sees-7-clause-read c = pass_ok _ c.function.ensures.read (λ x r. by_function (sym c.sees-else-sees-6.ensures ∙ c.if-sees-7.true) r)

pub returns-then-sees-7-clause-stop : goal.returns-then-sees-7-clause-stop
returns-then-sees-7-clause-stop c =
    pass_stop _ c.function.ensures.stop (λ e s. by_function_stops (sym c.sees-else-sees-6.ensures ∙ c.if-sees-7.true) s)

pub returns-then-sees-8-clause-read : goal.returns-then-sees-8-clause-read
returns-then-sees-8-clause-read c = pass_ok _ c.measure.ensures.read (λ x r. by_measure (sym c.sees-else-sees-7.ensures ∙ c.if-sees-8.true) r)

pub returns-then-sees-8-clause-stop : goal.returns-then-sees-8-clause-stop
returns-then-sees-8-clause-stop c = pass_stop _ c.measure.ensures.stop (λ e s. by_measure_stops (sym c.sees-else-sees-7.ensures ∙ c.if-sees-8.true) s)

pub returns-then-sees-9-clause-read : goal.returns-then-sees-9-clause-read
returns-then-sees-9-clause-read c = pass_ok _ c.mapping.ensures.read (λ x r. by_mapping (sym c.sees-else-sees-8.ensures ∙ c.if-sees-9.true) r)

pub returns-then-sees-9-clause-stop : goal.returns-then-sees-9-clause-stop
returns-then-sees-9-clause-stop c = pass_stop _ c.mapping.ensures.stop (λ e s. by_mapping_stops (sym c.sees-else-sees-8.ensures ∙ c.if-sees-9.true) s)

pub returns-then-sees-10-clause-read : goal.returns-then-sees-10-clause-read
returns-then-sees-10-clause-read c =
    pass_ok _ c.let_definition.ensures.read (λ x r. by_let_definition (sym c.sees-else-sees-9.ensures ∙ c.if-sees-10.true) r)

pub returns-then-sees-10-clause-stop : goal.returns-then-sees-10-clause-stop
returns-then-sees-10-clause-stop c =
    pass_stop _ c.let_definition.ensures.stop (λ e s. by_let_definition_stops (sym c.sees-else-sees-9.ensures ∙ c.if-sees-10.true) s)

pub returns-then-sees-11-clause-read : goal.returns-then-sees-11-clause-read
returns-then-sees-11-clause-read c = pass_ok _ c.register.ensures.read (λ x r. by_register (sym c.sees-else-sees-10.ensures ∙ c.if-sees-11.true) r)

pub returns-then-sees-11-clause-stop : goal.returns-then-sees-11-clause-stop
returns-then-sees-11-clause-stop c =
    pass_stop _ c.register.ensures.stop (λ e s. by_register_stops (sym c.sees-else-sees-10.ensures ∙ c.if-sees-11.true) s)

pub returns-then-sees-12-clause-read : goal.returns-then-sees-12-clause-read
returns-then-sees-12-clause-read c = pass_ok _ c.overload.ensures.read (λ x r. by_overload (sym c.sees-else-sees-11.ensures ∙ c.if-sees-12.true) r)

pub returns-then-sees-12-clause-stop : goal.returns-then-sees-12-clause-stop
returns-then-sees-12-clause-stop c =
    pass_stop _ c.overload.ensures.stop (λ e s. by_overload_stops (sym c.sees-else-sees-11.ensures ∙ c.if-sees-12.true) s)

pub returns-then-sees-13-clause-read : goal.returns-then-sees-13-clause-read
returns-then-sees-13-clause-read c = pass_ok _ c.scattered.ensures.read (λ x r. by_scattered (sym c.sees-else-sees-12.ensures ∙ c.if-sees-13.true) r)

pub returns-then-sees-13-clause-stop : goal.returns-then-sees-13-clause-stop
returns-then-sees-13-clause-stop c =
    pass_stop _ c.scattered.ensures.stop (λ e s. by_scattered_stops (sym c.sees-else-sees-12.ensures ∙ c.if-sees-13.true) s)

pub returns-else-sees-13-clause-read : goal.returns-else-sees-13-clause-read
returns-else-sees-13-clause-read c =
    pass_ok _ c.end.ensures.read (λ x r. by_end (sym c.sees.ensures ∙ c.if-sees.false) (sym c.sees-else-sees.ensures ∙ c.if-sees-2.false)
    (sym c.sees-else-sees-2.ensures ∙ c.if-sees-3.false) (sym c.sees-else-sees-3.ensures ∙ c.if-sees-4.false)
    (sym c.sees-else-sees-4.ensures ∙ c.if-sees-5.false) (sym c.sees-else-sees-5.ensures ∙ c.if-sees-6.false)
    (sym c.sees-else-sees-6.ensures ∙ c.if-sees-7.false) (sym c.sees-else-sees-7.ensures ∙ c.if-sees-8.false)
    (sym c.sees-else-sees-8.ensures ∙ c.if-sees-9.false) (sym c.sees-else-sees-9.ensures ∙ c.if-sees-10.false)
    (sym c.sees-else-sees-10.ensures ∙ c.if-sees-11.false) (sym c.sees-else-sees-11.ensures ∙ c.if-sees-12.false)
    (sym c.sees-else-sees-12.ensures ∙ c.if-sees-13.false) r)

pub returns-else-sees-13-clause-stop : goal.returns-else-sees-13-clause-stop
returns-else-sees-13-clause-stop c =
    pass_stop _ c.end.ensures.stop (λ e s. by_end_stops (sym c.sees.ensures ∙ c.if-sees.false) (sym c.sees-else-sees.ensures ∙ c.if-sees-2.false)
    (sym c.sees-else-sees-2.ensures ∙ c.if-sees-3.false) (sym c.sees-else-sees-3.ensures ∙ c.if-sees-4.false)
    (sym c.sees-else-sees-4.ensures ∙ c.if-sees-5.false) (sym c.sees-else-sees-5.ensures ∙ c.if-sees-6.false)
    (sym c.sees-else-sees-6.ensures ∙ c.if-sees-7.false) (sym c.sees-else-sees-7.ensures ∙ c.if-sees-8.false)
    (sym c.sees-else-sees-8.ensures ∙ c.if-sees-9.false) (sym c.sees-else-sees-9.ensures ∙ c.if-sees-10.false)
    (sym c.sees-else-sees-10.ensures ∙ c.if-sees-11.false) (sym c.sees-else-sees-11.ensures ∙ c.if-sees-12.false)
    (sym c.sees-else-sees-12.ensures ∙ c.if-sees-13.false) s)
