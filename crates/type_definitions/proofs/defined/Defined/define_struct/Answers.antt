use Rattle.std.proofs.Common.{◌++◌, ap, ◌∙◌}
use Rattle.sail_kinds.specs.Failures.{first_failure}
use Rattle.sail_kinds.specs.Repeated.{clashes}
use Rattle.sail_kinds.specs.Scopes.{Within}
use Rattle.type_definitions.specs.Defined.{held, names_of, member_names, members_failures, under}
use Rattle.type_definitions.proofs.Noted.{two_noted, on_any}
use Rattle.type_definitions.proofs.Scopes.{around_between}
use Rattle.type_definitions.proofs.defined.Defined.define_struct.Goals as goal

pub returns-clause-failures : goal.returns-clause-failures
returns-clause-failures c =
    let self = c.args.self.now in
    let ps = c.args.parameters.now in
    let ms = c.args.members.now in
    let before = c.args.first.now.error in
    let one = c.note_parameters.new.first.error in
    let two = c.note_members.new.first.error in
    let last = c.read_fields.new.first.error in
    on_any c.add_form.result
    (two_noted before two last (clashes (names_of ps) ++ clashes (member_names ms)) (members_failures (under (held self).named ps) ms)
    (two_noted before one two (clashes (names_of ps)) (clashes (member_names ms)) c.in_ok-note_parameters.ensures c.in_ok-note_members.ensures)
    (c.in_ok-fields.ensures.failures ∙ ap (λ (w : Within). first_failure two (members_failures w ms)) (around_between self ps c.requires)))
