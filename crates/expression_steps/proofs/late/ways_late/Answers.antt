use Rattle.std.proofs.Common.{◌∙◌}
use Rattle.value_indices.specs.Walking.{seen}
use Rattle.pattern_leaves.specs.Settings.{around_of}
use Rattle.expression_steps.proofs.LateParts.{ways_got, ways_run}
use Rattle.expression_steps.proofs.late.ways_late.Goals as goal

pub returns-clause-value : goal.returns-clause-value
returns-clause-value c =
    ways_got c.args.place c.args.suffixes.now (around_of c.args.around.now) c.args.numbers.now c.args.ahead.now (seen c.args.walking.now)
    (seen c.remember.new.self) (seen c.assume_facts.new.self) (seen c.part_late.new.walking) (seen c.restore.new.self) c.in_ok-copy_facts.field-0
    c.in_ok-remember.ensures (c.in_ok-copy_facts.ensures ∙ c.as_slice.ensures) c.in_ok-assume_facts.ensures c.in_ok-found.found
    c.in_ok-found.ensures.value

pub returns-clause-walked : goal.returns-clause-walked
returns-clause-walked c =
    ways_run c.args.place c.args.suffixes.now (around_of c.args.around.now) c.args.numbers.now c.args.ahead.now (seen c.args.walking.now)
    (seen c.remember.new.self) (seen c.assume_facts.new.self) (seen c.part_late.new.walking) (seen c.restore.new.self) c.in_ok-copy_facts.field-0
    c.in_ok-remember.ensures (c.in_ok-copy_facts.ensures ∙ c.as_slice.ensures) c.in_ok-assume_facts.ensures c.in_ok-found.ensures.walked
    c.in_ok-restore.ensures
