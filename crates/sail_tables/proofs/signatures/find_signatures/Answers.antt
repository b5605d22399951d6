use Rattle.std.proofs.Common.{◌≡◌, ◌+◌, ◌||◌, cond, take, sym, ap, ◌∙◌, bytes_eq}
use Rattle.std.specs.List.{list_any}
use Rattle.std.specs.Option.{option_copied}
use Rattle.std.proofs.lemmas.List.{take_all}
use Rattle.std.proofs.lemmas.List.Folds.{list_any_more}
use Rattle.sail_kinds.specs.Scopes.{type_named}
use Rattle.sail_tables.specs.Tabled.{signature_at}
use Rattle.sail_tables.proofs.Signed.{is_part_of, signature_among, signature_all, among_part, among_other}
use Rattle.sail_tables.proofs.signatures.find_signatures.Goals as goal
use Rattle.sail_tables.proofs.signatures.find_signatures.Goals.{in-Some+in_ok-signature+in_ok-put_signature, in_default}

pub loop-definition-preserved : goal.loop-definition-preserved
loop-definition-preserved c = λ name.
    let named = type_named c.args.types.now.names in
    let text = c.args.definitions.now in
    let at = c.loop-definition.definition-index in
    let d = c.definition-item.result in
    let more : list_any (is_part_of name) (take (at + 1) text) ≡ (list_any (is_part_of name) (take at text) || is_part_of name d) =
    list_any_more (is_part_of name) text at d c.loop-definition-test.true
    ∙ ap (λ x. list_any (is_part_of name) (take at text) || is_part_of name x) (sym c.definition-item.is) in
    let held = signature_at c.loop-definition.signatures name in
    elim c.match-callable_name.branch [
      | in-Some+in_ok-signature+in_ok-put_signature w ↦
          among_part named text (take at text) (take (at + 1) text) d w.in-Some.name.now name held _
          (sym c.callable_name.ensures ∙ ap option_copied w.in-Some.is) more (c.loop-definition.invariant name)
          (ap (λ m. signature_at m name) w.signatures-is ∙ w.in_ok-put_signature.ensures name
          ∙ ap (λ s. cond (bytes_eq w.in-Some.name.now name) s held) w.in_ok-signature.ensures)
      | in_default w ↦
          among_other named text (take at text) (take (at + 1) text) d name held _
          (sym c.callable_name.ensures ∙ ap option_copied w.in_default.is) more (c.loop-definition.invariant name)
          (ap (λ m. signature_at m name) w.signatures-is)
    ]

pub returns : goal.returns
returns c = λ name. c.loop-definition.invariant name
    ∙ ap (λ some. signature_among (type_named c.args.types.now.names) c.args.definitions.now some name)
    (take_all c.loop-definition.definition-index c.args.definitions.now c.loop-definition-test.false)
    ∙ signature_all (type_named c.args.types.now.names) c.args.definitions.now name
