use Rattle.std.proofs.Common.{◌∙◌, ◌+◌, ap, refl, subst, sym}
use Rattle.jib.specs.Operands.{each}
use Rattle.jib.specs.Valid.{typ_right}
use Rattle.jib_lower.specs.Entering.{mapped_from}
use Rattle.jib_lower.specs.Instances.{CalledAre}
use Rattle.jib_lower.specs.Left.{TypesLeft, types_not_right}
use Rattle.jib_lower.specs.Lowerable.{entries_left, types_left}
use Rattle.jib_lower.specs.Tabled.{ShellOf, TableOf}
use Rattle.jib_lower.proofs.Unmade.{exit_more}
use Rattle.jib_lower.proofs.lowering.parts_of.Goals as goal

pub all_called-requires : goal.all_called-requires
all_called-requires c = record { fit = c.requires.fit; turned = c.as_slice-ways.ensures ∙ c.requires.turned }

pub returns-clause-parts : goal.returns-clause-parts
returns-clause-parts c = record {
  table = c.in_ok-table.table;
  is = subst (λ ts. TableOf c.args.core.now c.args.sized.now ts c.in_ok-table.table) c.as_slice-ways.ensures c.in_ok-table.ensures.is;
  numbered = refl;
  shell = subst (λ ns. ShellOf c.args.core.now ns c.in_ok-table.table.types c.in_ok-shell.shell) c.as_slice-numbers.ensures c.in_ok-shell.ensures.shell;
  exception = c.exception_type-exception.ensures;
  nothing = refl;
  truths = refl;
  called = subst (λ ts. CalledAre c.args.core.now c.args.sized.now c.in_ok-table.table.numbered c.in_ok-called.called ts) c.as_slice-ways.ensures
      (subst (λ ns. CalledAre c.args.core.now c.args.sized.now ns c.in_ok-called.called c.as_slice-ways.result.now) c.as_slice-numbers.ensures
      c.in_ok-called.ensures.called);
  ordered = c.requires.ordered;
  entered = c.in_ok-directions.ensures
      ∙ ap (λ ms. mapped_from c.args.core.now.types c.as_slice.result.now 0 ms) c.as_slice-mapped.ensures
      ∙ ap (λ ds. mapped_from c.args.core.now.types ds 0 c.args.core.now.directions) c.as_slice.ensures;
  before = c.in_ok-before.ensures ∙ c.len.ensures;
  opened_at = c.in_ok-opened_at.ensures ∙ ap (λ n. c.in_ok-before.before + n) c.in_ok-many.ensures;
}

pub returns-in_err-table-clause-left : goal.returns-in_err-table-clause-left
returns-in_err-table-clause-left c =
    exit_more _ _ c.from_residual.ensures.1
    (λ wrong. types_left c.requires.fit
    (subst (λ ts. TypesLeft c.args.core.now c.args.sized.now ts) (c.as_slice-ways.ensures ∙ c.requires.turned) wrong)) c.in_err-table.ensures.left

pub returns-in_err-shell-clause-left : goal.returns-in_err-shell-clause-left
returns-in_err-shell-clause-left c =
    exit_more _ _ c.from_residual-in_err-shell.ensures.1
    (λ wrong. types_left c.requires.fit
    (subst (λ ts. TypesLeft c.args.core.now c.args.sized.now ts) (c.as_slice-ways.ensures ∙ c.requires.turned)
    (types_not_right c.in_ok-table.ensures.listed (ap (each typ_right 0) (sym c.in_ok-table.ensures.values) ∙ wrong))))
    c.in_err-shell.ensures.left

pub returns-in_err-called-clause-left : goal.returns-in_err-called-clause-left
returns-in_err-called-clause-left c = exit_more _ _ c.from_residual-in_err-called.ensures.1 entries_left c.in_err-called.ensures.left
