use Rattle.jib_lower.proofs.Growth.{openings_from}
use Rattle.std.proofs.Common.{[], subst}
use Rattle.jib_lower.specs.Left.{OpeningsLeft}
use Rattle.jib_lower.proofs.Unmade.{exit_more}
use Rattle.jib_lower.proofs.openings.make_openings.Goals as goal

pub returns-clause-made : goal.returns-clause-made
returns-clause-made c =
    openings_from c.args.model.now c.args.before c.as_slice-openings.result.now _ c.add_openings.new.opened
    (λ i. record {
      openings = c.new.ensures i;
      types = c.new-2.ensures i;
      names = c.new-3.ensures i;
      functions = c.new-4.ensures i;
      before = c.args.before;
    }) c.as_slice-openings.ensures
    c.in_ok-add_openings.ensures.added

pub returns-in_err-add_openings-clause-left : goal.returns-in_err-add_openings-clause-left
returns-in_err-add_openings-clause-left c =
    let m = c.args.model.now in
    let os = c.as_slice-openings.result.now in
    exit_more _ _ c.from_residual.ensures.1
    (λ why. subst (λ xs. OpeningsLeft m 0 xs [] []) c.as_slice-openings.ensures (subst (λ ts. OpeningsLeft m 0 os ts []) c.new-2.ensures
    (subst (λ ns. OpeningsLeft m 0 os c.new-2.result ns) c.new-3.ensures why))) c.in_err-add_openings.ensures.left
