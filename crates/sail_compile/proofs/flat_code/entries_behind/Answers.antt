use Rattle.sail_compile.proofs.flat_code.entries_behind.Goals as goal

pub returns : goal.returns
returns c = λ i. record { reset = c.in_ok-reset.ensures i; step = c.in_ok-step.ensures i }
