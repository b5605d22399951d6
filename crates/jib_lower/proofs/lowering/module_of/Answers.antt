use Rattle.std.proofs.Common.{refl}
use Rattle.jib_lower.proofs.Joined.{flat_behind}
use Rattle.jib_lower.specs.Lowerable.{functions_left, openings_left, parts_left}
use Rattle.jib_lower.proofs.Unmade.{exit_more}
use Rattle.jib_lower.proofs.lowering.module_of.Goals as goal

pub returns-clause-made : goal.returns-clause-made
returns-clause-made c =
    flat_behind c.args.core.now c.args.sized.now c.in_ok-parts.parts c.in_ok-opened.opened c.in_ok-functions.functions _ c.in_ok-parts.ensures.parts
    c.in_ok-opened.ensures.opened c.in_ok-functions.ensures.made c.requires.alone c.requires.openings refl refl refl c.in_ok-push_all.ensures refl

pub returns-in_err-parts-clause-left : goal.returns-in_err-parts-clause-left
returns-in_err-parts-clause-left c = exit_more _ _ c.from_residual.ensures.1 parts_left c.in_err-parts.ensures.left

pub returns-in_err-opened-clause-left : goal.returns-in_err-opened-clause-left
returns-in_err-opened-clause-left c =
    exit_more _ _ c.from_residual-in_err-opened.ensures.1 (openings_left c.in_ok-parts.ensures.parts) c.in_err-opened.ensures.left

pub returns-in_err-functions-clause-left : goal.returns-in_err-functions-clause-left
returns-in_err-functions-clause-left c =
    exit_more _ _ c.from_residual-in_err-functions.ensures.1 (functions_left c.in_ok-parts.ensures.parts c.in_ok-opened.ensures.opened)
    c.in_err-functions.ensures.left
