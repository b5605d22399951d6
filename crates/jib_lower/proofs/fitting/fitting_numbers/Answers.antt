use Rattle.std.proofs.Common.{◌∙◌, ap, length, sym}
use Rattle.jib_lower.specs.Cycles.{all_there}
use Rattle.jib_lower.specs.Left.{some_entry}
use Rattle.jib_lower.proofs.Unmade.{entry_nowhere}
use Rattle.jib_lower.proofs.fitting.fitting_numbers.Goals as goal

pub numbers_there-requires : goal.numbers_there-requires
numbers_there-requires c = record {
  there = ap (all_there (length c.args.core.now.functions)) (sym c.as_slice.ensures) ∙ ap (λ n. all_there n c.as_slice.result.now) (sym c.len.ensures)
      ∙ sym c.are_there-there.ensures ∙ c.if-there.true;
}

pub returns-else-there-clause-left : goal.returns-else-there-clause-left
returns-else-there-clause-left c =
    some_entry (entry_nowhere c.args.core.now c.args.sized.now.instances
    (ap (all_there (length c.args.core.now.functions)) (sym c.as_slice.ensures) ∙ ap (λ n. all_there n c.as_slice.result.now) (sym c.len.ensures)
    ∙ sym c.are_there-there.ensures ∙ c.if-there.false))
