use Rattle.std.proofs.Common.{refl, ap, ◌∙◌}
use Rattle.sail_kinds.specs.Scopes.{type_named, own_of}
use Rattle.type_definitions.specs.Defined.{held}
use Rattle.type_definitions.proofs.Noted.{on_ok, on_both}
use Rattle.type_definitions.proofs.Rows.{row_added}
use Rattle.type_definitions.proofs.defined.Defined.add_form.Goals as goal

pub returns-clause-types : goal.returns-clause-types
returns-clause-types c =
    let types = held c.args.self.now in
    on_both c.add_where.result
    (λ names table. row_added types (held c.name_type.new.self) (held c.add_where.new.self) c.args.name.now.text c.args.parameters.now c.args.form c.args.form
    c.in_ok-next.next c.in_ok-is_free.is_free c.in_ok-is_free.ensures.types c.in_ok-next.ensures c.in_ok-is_free.ensures.free refl (ap type_named names) table)
    c.add_where.ensures.names c.add_where.ensures.table

pub returns-clause-own : goal.returns-clause-own
returns-clause-own c = on_ok c.add_where.result (λ names. ap own_of names ∙ c.in_ok-is_free.ensures.own) c.add_where.ensures.names
