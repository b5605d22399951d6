use Rattle.std.proofs.Common.{ap}
use Rattle.value_indices.specs.Walking.{seen}
use Rattle.expression_steps.specs.Expressions.{node_end}
use Rattle.expression_steps.proofs.BranchEnds.{alone_got, alone_run}
use Rattle.expression_steps.proofs.ends.end_node.Goals as goal

pub returns-else-is_made-clause-value : goal.returns-else-is_made-clause-value
returns-else-is_made-clause-value c =
    alone_got (node_end c.args.number c.args.is_made c.args.value) c.args.value (seen c.args.walking.now)
    (ap (λ b. node_end c.args.number b c.args.value) c.if-is_made.false)

pub returns-else-is_made-clause-walked : goal.returns-else-is_made-clause-walked
returns-else-is_made-clause-walked c =
    alone_run (node_end c.args.number c.args.is_made c.args.value) c.args.value (seen c.args.walking.now)
    (ap (λ b. node_end c.args.number b c.args.value) c.if-is_made.false)
