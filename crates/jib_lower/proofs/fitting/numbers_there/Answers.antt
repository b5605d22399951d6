use Rattle.std.proofs.Common.{◌≡◌, ◌∙◌, length, refl, subst, sym, true}
use Rattle.jib_lower.specs.Cycles.{all_there}
use Rattle.jib_lower.specs.Left.{no_cycles}
use Rattle.jib_lower.proofs.Fitted.{fit_back, fit_same}
use Rattle.jib_lower.proofs.fitting.numbers_there.Goals as goal

pub cycle_numbers-requires : goal.cycle_numbers-requires
cycle_numbers-requires c = record {
  there = subst (λ fs. all_there (length fs) c.as_slice-instances.result.now ≡ true) (sym c.as_slice-functions.ensures)
      (subst (λ xs. all_there (length c.args.core.now.functions) xs ≡ true) (sym c.as_slice-instances.ensures) c.requires.there);
}

pub returns-then-fit-clause-fit : goal.returns-then-fit-clause-fit
returns-then-fit-clause-fit c =
    fit_same _ _ _ _ _ _ _ _ _ _ c.as_slice-functions.ensures c.as_slice-instances.ensures c.as_slice-mappings.ensures
    (c.as_slice-turns.ensures ∙ c.in_ok-found.ensures) c.as_slice.ensures (c.are_numbers-fit.ensures.is c.if-fit.true)

pub returns-clause-left : goal.returns-clause-left
returns-clause-left c =
    no_cycles (λ numbers fit.
    c.are_numbers-fit.ensures.no c.if-fit.false
    (fit_same _ _ _ _ _ _ _ _ _ _ refl refl refl refl (sym c.as_slice.ensures)
    (c.in_ok-numbers.ensures numbers
    (fit_back _ _ _ _ _ _ _ _ numbers c.as_slice-functions.ensures c.as_slice-instances.ensures c.as_slice-mappings.ensures
    (c.as_slice-turns.ensures ∙ c.in_ok-found.ensures) fit))))
