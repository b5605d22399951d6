use Rattle.std.proofs.Common.{◌≡◌, ap, ◌∙◌, Some}
use Rattle.sail_kinds.specs.Failures.{first_failure}
use Rattle.sail_kinds.specs.Scopes.{Within}
use Rattle.type_definitions.specs.Defined.{held, around, under_union, members_failures, fields_of}
use Rattle.type_definitions.proofs.Scopes.{around_union}
use Rattle.type_definitions.proofs.defined.Defined.read_constructors.Goals as goal

pub returns-clause-failures : goal.returns-clause-failures
returns-clause-failures c =
    let self = c.args.self.now in
    let name = c.args.name.now.text in
    let ps = c.args.parameters.now in
    let now = record self { names = c.begin_union.new.self } in
    let is : around now ps ≡ under_union (held self).named name ps =
    around_union now (held self).named name ps c.begin_union.ensures.types (c.begin_union.ensures.own ∙ ap Some c.as_str.ensures) in
    c.in_ok-fields.ensures.failures ∙ ap (λ (w : Within). first_failure c.args.first.now.error (members_failures w c.args.members.now)) is

pub returns-clause-fields : goal.returns-clause-fields
returns-clause-fields c =
    let self = c.args.self.now in
    let name = c.args.name.now.text in
    let ps = c.args.parameters.now in
    let now = record self { names = c.begin_union.new.self } in
    let is : around now ps ≡ under_union (held self).named name ps =
    around_union now (held self).named name ps c.begin_union.ensures.types (c.begin_union.ensures.own ∙ ap Some c.as_str.ensures) in
    c.in_ok-fields.ensures.fields ∙ ap (λ (w : Within). fields_of w c.args.members.now) is

pub returns-clause-types : goal.returns-clause-types
returns-clause-types c =
    λ i. record { named = λ other. (c.end_union.ensures.types other ∙ c.begin_union.ensures.types other) i; table = c.args.self.now.table }
