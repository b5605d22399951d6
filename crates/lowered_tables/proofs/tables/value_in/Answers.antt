use Rattle.std.proofs.Common.{◌∙◌, ap, sym}
use Rattle.lowered_tables.specs.Built.{all_have, no_number_inside, sizes_too_wide}
use Rattle.lowered_tables.proofs.Growing.{last_more}
use Rattle.lowered_tables.proofs.tables.value_in.Goals as goal

pub returns-then-have_numbers-clause-left : goal.returns-then-have_numbers-clause-left
returns-then-have_numbers-clause-left c = last_more c.value_type.result sizes_too_wide c.value_type.ensures.left

pub returns-clause-left : goal.returns-clause-left
returns-clause-left c =
    no_number_inside (ap (all_have c.args.numbered.now) (sym (c.as_slice-parts.ensures ∙ c.in_ok-inside.ensures)) ∙ c.have_numbers.ensures.no c.if-have_numbers.false)
