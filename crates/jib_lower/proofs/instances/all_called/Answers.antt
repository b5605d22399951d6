use Rattle.std.proofs.Common.{◌≡◌, ◌∙◌, ◌++◌, ap, subst, sym}
use Rattle.jib_lower.specs.Added.{AllEnter}
use Rattle.jib_lower.specs.Left.{SomeEntryLeft, some_entry}
use Rattle.jib_lower.proofs.Listed.{enter_each, enter_many}
use Rattle.jib_lower.proofs.Unmade.{exit_more}
use Rattle.jib_lower.proofs.instances.all_called.Goals as goal

pub returns-clause-called : goal.returns-clause-called
returns-clause-called c =
    let more = c.in_ok-push_called.ensures.added in
    let enter : AllEnter c.args.numbered.now c.args.cycles.now c.args.sized.now.instances more.added =
    subst (λ xs. AllEnter c.args.numbered.now c.args.cycles.now xs more.added) c.as_slice-instances.ensures more.enter in
    let enter_new : AllEnter c.args.numbered.now c.args.cycles.now c.args.sized.now.instances c.push_called.new.called =
    subst (λ cs. AllEnter c.args.numbered.now c.args.cycles.now c.args.sized.now.instances cs) (sym (more.is ∙ ap
    (λ cs. cs ++ more.added) c.new-called.ensures)) enter in
    record {
      many = enter_many c.args.numbered.now c.args.cycles.now c.args.sized.now.instances c.push_called.new.called enter_new;
      cycles = c.args.cycles.now;
      fit = c.requires.fit;
      turned_is = c.requires.turned;
      each = enter_each c.args.numbered.now c.args.cycles.now c.args.sized.now.instances c.push_called.new.called enter_new;
    }

pub returns-in_err-push_called-clause-left : goal.returns-in_err-push_called-clause-left
returns-in_err-push_called-clause-left c =
    exit_more _ _ c.from_residual.ensures.1
    (λ some. some_entry (subst (λ xs. SomeEntryLeft c.args.core.now xs) c.as_slice-instances.ensures some)) c.in_err-push_called.ensures.left
