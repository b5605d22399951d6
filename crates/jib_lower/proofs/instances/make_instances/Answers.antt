use Rattle.std.proofs.Common.{◌∙◌, ◌++◌, ap, sym, subst}
use Rattle.jib_lower.specs.Added.{AllMade}
use Rattle.jib_lower.proofs.Listed.{instances_made}
use Rattle.jib_lower.specs.Left.{InstancesLeft}
use Rattle.jib_lower.proofs.Unmade.{exit_more}
use Rattle.jib_lower.proofs.instances.make_instances.Goals as goal

pub returns-clause-made : goal.returns-clause-made
returns-clause-made c =
    let more = c.in_ok-push_instances.ensures.added in
    instances_made c.args.model.now c.as_slice-instances.result.now c.push_instances.new.functions c.as_slice-instances.ensures
    (subst (λ ms. AllMade c.args.model.now 0 c.as_slice-instances.result.now ms) (sym (more.is ∙ ap
    (λ ms. ms ++ more.added) c.new-functions.ensures)) more.made)

pub returns-in_err-push_instances-clause-left : goal.returns-in_err-push_instances-clause-left
returns-in_err-push_instances-clause-left c =
    exit_more _ _ c.from_residual.ensures.1 (subst (λ xs. InstancesLeft c.args.model.now 0 xs) c.as_slice-instances.ensures)
    c.in_err-push_instances.ensures.left
