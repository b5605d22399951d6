use Rattle.value_indices.specs.Walking.{seen}
use Rattle.pattern_leaves.specs.Settings.{around_of}
use Rattle.expression_forms.specs.Spots.{spot_of}
use Rattle.expression_steps.proofs.LateParts.{ahead_got, ahead_run}
use Rattle.expression_steps.proofs.late.read_ahead.Goals as goal

pub returns-clause-value : goal.returns-clause-value
returns-clause-value c =
    let base = spot_of (around_of c.args.around.now) c.args.base.now in
    ahead_got base (seen c.args.walking.now) (seen c.remember.new.self) (seen c.read.new.walking) (seen c.restore.new.self) c.next-before.result
    c.in_ok-held.held c.in_ok-facts.facts c.next-before.ensures c.in_ok-remember.ensures c.in_ok-held.ensures.value c.in_ok-facts.ensures

pub returns-clause-walked : goal.returns-clause-walked
returns-clause-walked c =
    let base = spot_of (around_of c.args.around.now) c.args.base.now in
    ahead_run base (seen c.args.walking.now) (seen c.remember.new.self) (seen c.read.new.walking) (seen c.restore.new.self) c.next-before.result
    c.in_ok-held.held c.in_ok-facts.facts c.next-before.ensures c.in_ok-remember.ensures c.in_ok-held.ensures.walked c.in_ok-restore.ensures
