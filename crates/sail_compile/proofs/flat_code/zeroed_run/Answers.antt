use Rattle.std.proofs.Common.{◌∙◌, ap, sym}
use Rattle.sail_compile.specs.Meanings.{no_zero}
use Rattle.sail_compile.specs.Zeros.{have_zeros}
use Rattle.sail_compile.proofs.RunLemmas.{zeroed_code}
use Rattle.sail_compile.proofs.flat_code.zeroed_run.Goals as goal

pub returns-then-zeroed : goal.returns-then-zeroed
returns-then-zeroed c =
    zeroed_code c.args.core c.code_of.result
    (ap (have_zeros c.args.core.types) (sym c.as_slice.ensures) ∙ sym c.in_ok-zeroed.ensures ∙ c.if-zeroed.true) c.code_of.ensures

pub returns-else-zeroed : goal.returns-else-zeroed
returns-else-zeroed c = no_zero (ap (have_zeros c.args.core.types) (sym c.as_slice.ensures) ∙ sym c.in_ok-zeroed.ensures ∙ c.if-zeroed.false)
