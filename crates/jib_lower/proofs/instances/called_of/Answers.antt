use Rattle.std.proofs.Common.{◌∙◌, ◌++◌, ap, map, refl}
use Rattle.lowered_types.specs.Table.{type_in}
use Rattle.lowered_pieces.specs.Nodes.{told_as}
use Rattle.jib_lower.specs.Left.{no_function, not_plain}
use Rattle.jib_lower.proofs.Unmade.{exit_more}
use Rattle.jib_lower.proofs.instances.called_of.Goals as goal

pub returns-clause-enters : goal.returns-clause-enters
returns-clause-enters c = record {
  signature = c.in_ok-signature.signature.now;
  plain = c.in_ok-signature.ensures.plain;
  parameters = c.in_ok-push_told.ensures
      ∙ ap (λ ns. ns ++ map (type_in c.args.numbered.now) (map told_as c.as_slice-told.result.now)) c.new-parameters.ensures
      ∙ ap (λ ts. map (type_in c.args.numbered.now) (map told_as ts)) c.as_slice-told.ensures;
  cycle_is = refl;
}

pub returns-in_err-function-clause-left : goal.returns-in_err-function-clause-left
returns-in_err-function-clause-left c = exit_more _ _ c.from_residual.ensures.1 no_function c.in_err-function.ensures.left

pub returns-in_err-signature-clause-left : goal.returns-in_err-signature-clause-left
returns-in_err-signature-clause-left c = exit_more _ _ c.from_residual-in_err-signature.ensures.1 not_plain c.in_err-signature.ensures.left
