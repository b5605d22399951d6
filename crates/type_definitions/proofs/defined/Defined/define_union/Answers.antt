use Rattle.std.proofs.Common.{◌≡◌, ℕ, List, ap, ◌∙◌, Option}
use Rattle.sail_types.specs.declared.table.Field.{Field}
use Rattle.sail_types.specs.declared.table.Form.TheVariants as F
use Rattle.sail_kinds.specs.declared.scope.NamedType.{NamedType}
use Rattle.sail_kinds.specs.Failures.{first_failure}
use Rattle.sail_kinds.specs.Repeated.{clashes}
use Rattle.sail_kinds.specs.Scopes.{type_named, own_of}
use Rattle.type_definitions.specs.Defined.{Types, held, names_of, members_failures, fields_of}
use Rattle.type_definitions.specs.Defined.{under_union, within_union, union_form, named_with, with_name, next_type}
use Rattle.type_definitions.proofs.Noted.{two_noted, on_any, on_ok, on_both}
use Rattle.type_definitions.proofs.Rows.{row_added}
use Rattle.type_definitions.proofs.defined.Defined.define_union.Goals as goal

pub returns-clause-failures : goal.returns-clause-failures
returns-clause-failures c =
    let types = held c.args.self.now in
    let name = c.args.name.now.text in
    let ps = c.args.parameters.now in
    let ms = c.args.members.now in
    let noted = c.note_parameters.new.first.error in
    let given : (held c.name_type.new.self).named ≡ with_name name (next_type ps types) types.named =
    ap (λ (t : Types). t.named) (c.in_ok-is_free.ensures.types ∙ ap (named_with types name) c.in_ok-next.ensures) in
    on_any c.add_where.result
    (two_noted c.args.first.now.error noted c.read_constructors.new.first.error (clashes (names_of ps))
    (members_failures (within_union types name ps) ms) c.in_ok-note_parameters.ensures
    (c.in_ok-constructors.ensures.failures
    ∙ ap (λ (named : List ℕ → Option NamedType). first_failure noted (members_failures (under_union named name ps) ms)) given))

pub returns-clause-types : goal.returns-clause-types
returns-clause-types c =
    let types = held c.args.self.now in
    let name = c.args.name.now.text in
    let ps = c.args.parameters.now in
    let ms = c.args.members.now in
    let given : (held c.name_type.new.self).named ≡ with_name name (next_type ps types) types.named =
    ap (λ (t : Types). t.named) (c.in_ok-is_free.ensures.types ∙ ap (named_with types name) c.in_ok-next.ensures) in
    let made : c.in_ok-constructors.constructors ≡ fields_of (within_union types name ps) ms =
    c.in_ok-constructors.ensures.fields ∙ ap (λ (named : List ℕ → Option NamedType). fields_of (under_union named name ps) ms) given in
    let last = c.add_where.new.self in
    let now = held c.read_constructors.new.self in
    on_both c.add_where.result
    (λ names table. row_added types now (held last) name ps (union_form types name ps ms) (F.Union c.in_ok-constructors.constructors) c.in_ok-next.next
    c.in_ok-is_free.is_free (c.in_ok-constructors.ensures.types ∙ c.in_ok-is_free.ensures.types) c.in_ok-next.ensures c.in_ok-is_free.ensures.free
    (ap (λ (fields : List Field). F.Union fields) made) (ap type_named names) table)
    c.add_where.ensures.names c.add_where.ensures.table

pub returns-clause-between : goal.returns-clause-between
returns-clause-between c = on_ok c.add_where.result (λ names. ap own_of names ∙ c.in_ok-constructors.ensures.between) c.add_where.ensures.names
