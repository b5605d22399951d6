use Rattle.std.proofs.Common.{subst, sym}
use Rattle.jib_lower.specs.Crossings.{calls_of, turns_of}
use Rattle.jib_lower.specs.Cycles.{NumbersFit}
use Rattle.jib_lower.specs.Lowerable.{entries_left}
use Rattle.jib_lower.specs.Order.{Ordered, made_in}
use Rattle.jib_lower.proofs.Unmade.{exit_more}
use Rattle.jib_lower.proofs.lowering.make_parts.Goals as goal

pub parts_of-requires : goal.parts_of-requires
parts_of-requires c = record {
  fit = subst (λ ns. NumbersFit c.args.core.now.functions c.args.sized.now.instances c.args.sized.now.mappings (turns_of c.args.core.now) ns)
      (sym c.as_slice-cycles.ensures) c.in_ok-found.ensures.fit;
  turned = c.in_ok-turned.ensures;
  ordered = subst (λ ts. Ordered (calls_of c.args.core.now.directions) (made_in 0 ts) c.in_ok-order.order) c.as_slice.ensures c.in_ok-order.ensures;
}

pub returns-clause-parts : goal.returns-clause-parts
returns-clause-parts c = c.parts_of.ensures.parts

pub returns-clause-left : goal.returns-clause-left
returns-clause-left c = c.parts_of.ensures.left

pub returns-in_err-found-clause-left : goal.returns-in_err-found-clause-left
returns-in_err-found-clause-left c = exit_more _ _ c.from_residual.ensures.1 entries_left c.in_err-found.ensures.left
