use Rattle.std.proofs.Common.{◌∙◌}
use Rattle.std.specs.Prelude.{None}
use Rattle.sail_syntax.specs.declared.expressions.Exp.TheVariants as V
use Rattle.sail_parse_atoms.proofs.LeafRows.{block_value, block_alone, value_there, value_missing, made_as}
use Rattle.sail_parse_atoms.proofs.leaves.block_up_to.Goals as goal

pub returns-in-Evaluate : goal.returns-in-Evaluate
returns-in-Evaluate c = made_as _ c.block.ensures (block_value _ _ _ _ (value_there _ _ c.in-Evaluate.is))

pub returns-in_ok-push-in_default : goal.returns-in_ok-push-in_default
returns-in_ok-push-in_default c =
    made_as _ c.block-in_default.ensures ((λ i. V.Block c.args.place (c.in_ok-push-in_default.ensures.pushed i) None) ∙
    block_alone _ _ _ (value_missing _ c.in_default.not-Evaluate))
