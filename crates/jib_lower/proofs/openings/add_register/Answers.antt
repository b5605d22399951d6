use Rattle.std.proofs.Common.{Some}
use Rattle.jib_lower.proofs.Growth.{pushed_grown}
use Rattle.jib_lower.specs.Left.{register_no_type, register_not_made, register_of_other}
use Rattle.jib_lower.proofs.Unmade.{exit_more}
use Rattle.jib_lower.proofs.openings.add_register.Goals as goal

pub returns-then-fits-clause-added : goal.returns-then-fits-clause-added
returns-then-fits-clause-added c =
    let p = c.in_ok-push_opening.ensures in
    record {
      made = c.in_ok-function.function;
      is = c.in_ok-function.ensures.made;
      typ = c.is_register-fits.ensures.is c.if-fits.true;
      grown = pushed_grown (Some c.args.register) c.in_ok-function.function c.args.opened.now c.push_opening.new.opened p;
      types = p.types;
      names = p.names;
    }

pub returns-in_err-typ-clause-left : goal.returns-in_err-typ-clause-left
returns-in_err-typ-clause-left c = exit_more _ _ c.from_residual.ensures.1 register_no_type c.in_err-typ.ensures.left

pub returns-in_err-function-clause-left : goal.returns-in_err-function-clause-left
returns-in_err-function-clause-left c =
    exit_more _ _ c.from_residual-in_err-function.ensures.1 (register_not_made c.in_ok-typ.ensures.typ) c.in_err-function.ensures.left

pub returns-clause-left : goal.returns-clause-left
returns-clause-left c = register_of_other c.in_ok-function.ensures.made (c.is_register-fits.ensures.no c.if-fits.false)
