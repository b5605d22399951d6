use Rattle.std.proofs.Common.{◌≡◌, List, sym, ap, ◌∙◌, subst, slice_get, IfOk}
use Rattle.sail_types.specs.Sums.{and_then}
use Rattle.sail_syntax.specs.declared.definitions.Param.{Param}
use Rattle.sail_kinds.specs.declared.scope.Variable.{Variable}
use Rattle.type_definitions.specs.Defined.{variables_of}
use Rattle.sail_signatures.specs.declared.parts.Parts.{Parts}
use Rattle.sail_signatures.specs.Signatures.{is_val_of, quantified, variables_in}
use Rattle.sail_signatures.proofs.Finding.{found_at}
use Rattle.sail_signatures.proofs.named.find_variables.Goals as goal

pub returns : goal.returns
returns c =
    let text = c.args.definitions.now in
    let name = c.args.name.now in
    let first = ap (λ (parts : Parts). and_then parts.val (slice_get text)) (c.parts-parts.ensures text c.requires) ∙ sym (found_at (is_val_of name) text) in
    let bound : c.quantified.result.now ≡ variables_in text name = c.quantified.ensures ∙ ap quantified (c.definition_at-definition.ensures ∙ first) in
    subst (λ (all : List Param). IfOk c.variables_of.result (λ (variables : List Variable). variables ≡ variables_of all)) bound c.variables_of.ensures
