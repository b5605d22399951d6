use Rattle.std.proofs.Common.{◌∙◌, subst, sym}
use Rattle.jib_lower.specs.Lowered.{FlatBehind}
use Rattle.jib_lower.specs.Lowerable.{FlatLeft, not_flat, not_resolved, not_tabled}
use Rattle.jib_lower.proofs.Flattened.{flat_is}
use Rattle.jib_lower.proofs.Joined.{lowered_behind}
use Rattle.jib_lower.proofs.Unmade.{exit_more}
use Rattle.jib_lower.proofs.lowering.lower.Goals as goal

pub invariant_of-result : goal.invariant_of-result
invariant_of-result c = record {
  kept = c.modules_are_valid.ensures.valid c.args.written c.args.sized.now c.in_ok-placed.placed.program
      (lowered_behind c.args.written c.args.sized.now c.in_ok-placed.placed.program c.in_ok-placed.placed.before
      (sym c.in_ok-tabled.ensures ∙ c.if-tabled.true) (sym c.model_in-resolved.ensures ∙ c.if-resolved.true)
      (subst (λ core. FlatBehind core c.args.sized.now c.in_ok-placed.placed.program c.in_ok-placed.placed.before)
      (flat_is c.args.written c.in_ok-free.free c.in_ok-flat.flat c.in_ok-free.ensures.rewritten c.in_ok-flat.ensures.rewritten)
      c.in_ok-placed.ensures.made)).from;
}

pub returns-in_ok-placed-clause-flat : goal.returns-in_ok-placed-clause-flat
returns-in_ok-placed-clause-flat c =
    flat_is c.args.written c.in_ok-free.free c.in_ok-flat.flat c.in_ok-free.ensures.rewritten c.in_ok-flat.ensures.rewritten

pub returns-in_ok-placed-clause-made : goal.returns-in_ok-placed-clause-made
returns-in_ok-placed-clause-made c =
    lowered_behind c.args.written c.args.sized.now c.in_ok-placed.placed.program c.in_ok-placed.placed.before
    (sym c.in_ok-tabled.ensures ∙ c.if-tabled.true) (sym c.model_in-resolved.ensures ∙ c.if-resolved.true)
    (subst (λ core. FlatBehind core c.args.sized.now c.in_ok-placed.placed.program c.in_ok-placed.placed.before)
    (flat_is c.args.written c.in_ok-free.free c.in_ok-flat.flat c.in_ok-free.ensures.rewritten c.in_ok-flat.ensures.rewritten)
    c.in_ok-placed.ensures.made)

pub returns-else-tabled-clause-left : goal.returns-else-tabled-clause-left
returns-else-tabled-clause-left c = not_tabled (sym c.in_ok-tabled.ensures ∙ c.if-tabled.false)

pub returns-else-resolved-clause-left : goal.returns-else-resolved-clause-left
returns-else-resolved-clause-left c = not_resolved (sym c.model_in-resolved.ensures ∙ c.if-resolved.false)

pub returns-in_err-placed-clause-left : goal.returns-in_err-placed-clause-left
returns-in_err-placed-clause-left c =
    exit_more _ _ c.from_residual-in_err-placed.ensures.1
    (λ why. not_flat (subst (λ core. FlatLeft core c.args.sized.now)
    (flat_is c.args.written c.in_ok-free.free c.in_ok-flat.flat c.in_ok-free.ensures.rewritten c.in_ok-flat.ensures.rewritten) why))
    c.in_err-placed.ensures.left
