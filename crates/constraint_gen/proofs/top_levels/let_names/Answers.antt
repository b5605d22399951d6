use Rattle.value_indices.specs.Walking.{seen}
use Rattle.pattern_leaves.specs.Settings.{around_of}
use Rattle.constraint_gen.proofs.Lets.{names_found}
use Rattle.constraint_gen.proofs.top_levels.let_names.Goals as goal

pub returns : goal.returns
returns c =
    let l = c.loop-bound in
    names_found (around_of c.args.around.now) c.args.place c.args.arm.now c.args.value.now (seen c.new-walking.result) c.in_ok-found.found
    c.as_slice-bound-items.result.now l.bound-index l.made c.new-walking.ensures c.in_ok-found.ensures.value
    c.as_slice-bound-items.ensures c.loop-bound-test.false l.invariant
