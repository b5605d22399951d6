use Rattle.std.proofs.Common.{◌≡◌, ℕ, Option, sym, ap, ◌∙◌, subst, slice_get, IfOk}
use Rattle.std.specs.Option.{option_copied, option_or}
use Rattle.sail_types.specs.Sums.{and_then}
use Rattle.sail_kinds.specs.Scopes.{type_named}
use Rattle.sail_syntax.specs.declared.definitions.Def.{Def}
use Rattle.sail_signatures.specs.declared.parts.Parts.{Parts}
use Rattle.sail_signatures.specs.declared.signature.Signature.{Signature}
use Rattle.sail_signatures.specs.Signatures.{is_val_of, is_body_of, definition_signature}
use Rattle.sail_signatures.proofs.Finding.{found_or}
use Rattle.sail_signatures.proofs.named.read_signature.Goals as goal

pub returns-in-None : goal.returns-in-None
returns-in-None c =
    let text = c.args.definitions.now in
    let name = c.args.name.now in
    let parts = ap (λ (parts : Parts). and_then (option_or parts.val parts.body) (slice_get text)) (c.parts-parts.ensures text c.requires.callables) in
    let first = sym (ap option_copied c.in-None.is) ∙ c.definition_at.ensures ∙ ap (λ (o : Option ℕ). and_then o (slice_get text)) c.or.ensures
    ∙ parts ∙ sym (found_or (is_val_of name) (is_body_of name) text) in
    ap (λ (d : Option Def). and_then d (definition_signature (type_named c.args.names.now))) first

pub returns-in-Some : goal.returns-in-Some
returns-in-Some c =
    let text = c.args.definitions.now in
    let name = c.args.name.now in
    let named = type_named c.args.names.now in
    let parts = ap (λ (parts : Parts). and_then (option_or parts.val parts.body) (slice_get text)) (c.parts-parts.ensures text c.requires.callables) in
    let first = sym (ap option_copied c.in-Some.is) ∙ c.definition_at.ensures ∙ ap (λ (o : Option ℕ). and_then o (slice_get text)) c.or.ensures
    ∙ parts ∙ sym (found_or (is_val_of name) (is_body_of name) text) in
    subst (λ (d : Option Def). IfOk c.read_definition.result (λ (read : Option Signature). read ≡ and_then d (definition_signature named))) first
    c.read_definition.ensures
