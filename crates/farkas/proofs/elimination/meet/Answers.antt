use Rattle.std.proofs.Common.{pos, ◌∙◌, sym, ap}
use Rattle.std.specs.Prelude.{int_lt}
use Rattle.linear.specs.Numbers.{is_zero}
use Rattle.linear.specs.laws.Divisors.{gcd_nonzero}
use Rattle.farkas.proofs.elimination.meet.Goals as goal

pub over-first_times-requires : goal.over-first_times-requires
over-first_times-requires c = λ z. gcd_nonzero c.coefficient-above.result c.coefficient-below.result (ap (int_lt (pos 0)) c.coefficient-above.ensures
    ∙ c.requires.positive) (ap is_zero (sym c.divisor_with-common.ensures) ∙ z)

pub over-second_times-requires : goal.over-second_times-requires
over-second_times-requires c = λ z. gcd_nonzero c.coefficient-above.result c.coefficient-below.result (ap (int_lt (pos 0)) c.coefficient-above.ensures
    ∙ c.requires.positive) (ap is_zero (sym c.divisor_with-common.ensures) ∙ z)
