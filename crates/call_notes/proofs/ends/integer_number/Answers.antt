use Rattle.value_indices.specs.Walking.{seen}
use Rattle.call_notes.proofs.Integers.{own_got}
use Rattle.call_notes.proofs.ends.integer_number.Goals as goal

pub returns-in_ok-copy_num-in-Integer-clause-value : goal.returns-in_ok-copy_num-in-Integer-clause-value
returns-in_ok-copy_num-in-Integer-clause-value c =
    own_got c.args.place c.args.value.now c.in-Integer.number c.in_ok-copy_num-in-Integer.field-0 (seen c.args.walking.now) c.in-Integer.is
    c.in_ok-copy_num-in-Integer.ensures
