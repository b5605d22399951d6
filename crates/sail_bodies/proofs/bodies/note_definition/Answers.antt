use Rattle.std.proofs.Common.{◌≡◌, OnOk, ap, ◌∙◌, subst, List}
use Rattle.sail_kinds.specs.declared.error.TableError.{TableError}
use Rattle.sail_kinds.specs.Failures.{first_failure}
use Rattle.sail_names.specs.declared.around.Allowed.{Allowed}
use Rattle.sail_names.specs.Known.{Setting, known_of, setting_of}
use Rattle.type_definitions.specs.Defined.{held}
use Rattle.sail_bodies.specs.Bodies.{setting, allowed_in, variables_at, own_failures, body_failures}
use Rattle.sail_bodies.proofs.Settings.{parameters_are, own_is}
use Rattle.sail_bodies.proofs.bodies.note_definition.Goals as goal

pub returns : goal.returns
returns c =
    let given = c.args.given in
    let text = given.definitions.now in
    let known = known_of given.names.now in
    let types = held given.types.now in
    let at = c.args.number in
    let d = c.args.definition.now in
    let parameters = variables_at text d in
    let stands : setting_of c.placed-around.result ≡ setting known types (allowed_in d) parameters at =
    c.placed-around.ensures parameters (parameters_are c.as_slice.result ∙ c.as_slice.ensures ∙ c.in_ok-variables.ensures)
    ∙ ap (λ (allowed : Allowed). setting known types allowed parameters at) c.allowed_in.ensures in
    let same : own_failures (setting_of c.placed-around.result) types d ≡ body_failures text known types at d =
    ap (λ (place : Setting). own_failures place types d) stands ∙ own_is text known types at d c.in_default.not-Val in
    subst (λ (failures : List TableError). OnOk c.note_own.result (c.note_own.new.first.error ≡ first_failure c.args.first.now.error failures))
    same c.note_own.ensures
