use Rattle.std.proofs.Common.{◌∙◌, ap, subst, sym}
use Rattle.jib_lower.specs.Types.{AllNarrow, all_sizes_fit, all_small}
use Rattle.jib_lower.specs.Left.{types_too_wide}
use Rattle.jib_lower.proofs.Kept.{bits_known}
use Rattle.jib_lower.proofs.lowering.small_table.Goals as goal

pub returns-then-small-clause-is : goal.returns-then-small-clause-is
returns-then-small-clause-is c =
    let table = c.in_ok-table.ensures in
    record {
      stands = table.stands;
      in_instances = table.instances;
      in_openings = table.openings;
      in_ways = table.ways;
      in_registers = table.registers;
      small = ap all_small (sym c.as_slice-numbered.ensures) ∙ c.are_small-small.ensures.small c.if-small.true;
      basic = table.basic;
      bits = bits_known c.in_ok-table.table.numbered table.words
          (subst AllNarrow c.as_slice-numbered.ensures (c.are_small-small.ensures.narrow c.if-small.true));
    }

pub returns-else-small-clause-left : goal.returns-else-small-clause-left
returns-else-small-clause-left c =
    types_too_wide c.in_ok-table.ensures.listed
    (ap all_sizes_fit (sym c.as_slice-numbered.ensures) ∙ sym c.are_small-small.ensures.fits ∙ c.if-small.false)
