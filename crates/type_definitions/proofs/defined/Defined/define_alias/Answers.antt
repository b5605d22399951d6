use Rattle.std.proofs.Common.{ap, ◌∙◌}
use Rattle.sail_kinds.specs.Failures.{first_failure}
use Rattle.sail_kinds.specs.Repeated.{clashes}
use Rattle.sail_kinds.specs.Scopes.{Within}
use Rattle.type_definitions.specs.Defined.{held, names_of, right_side, alias_read, alias_of, named_with}
use Rattle.type_definitions.proofs.Noted.{two_noted}
use Rattle.type_definitions.proofs.Scopes.{around_between}
use Rattle.type_definitions.proofs.defined.Defined.define_alias.Goals as goal

pub returns-clause-failures : goal.returns-clause-failures
returns-clause-failures c =
    let self = c.args.self.now in
    let ps = c.args.parameters.now in
    let noted = c.note_parameters.new.first.error in
    two_noted c.args.first.now.error noted c.read_alias.new.first.error (clashes (names_of ps))
    (alias_read (held self) ps c.args.kind c.args.typ.now).failures c.in_ok-note_parameters.ensures
    (c.in_ok-normal.ensures.failures
    ∙ ap (λ (w : Within). first_failure noted (right_side c.args.kind c.args.typ.now w).failures) (around_between self ps c.requires))

pub returns-clause-types : goal.returns-clause-types
returns-clause-types c =
    let self = c.args.self.now in
    let ps = c.args.parameters.now in
    let meaning = c.alias_of.ensures
    ∙ ap alias_of (c.in_ok-normal.ensures.normal
    ∙ ap (λ (w : Within). (right_side c.args.kind c.args.typ.now w).normal) (around_between self ps c.requires)) in
    c.in_ok-name_type.ensures.types
    ∙ ap (named_with (held self) c.args.name.now.text) (λ i. record { parameters = c.in_ok-kinds.ensures i; meaning = meaning i })
