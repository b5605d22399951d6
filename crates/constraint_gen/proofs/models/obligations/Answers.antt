use Rattle.std.proofs.Common.{◌≡◌, ◌++◌, ap, ◌∙◌}
use Rattle.pattern_leaves.specs.Settings.{around_of}
use Rattle.constraint_gen.specs.Defined.{definitions_of}
use Rattle.constraint_gen.specs.Models.{around_with, definitions_under}
use Rattle.constraint_gen.specs.Models as models
use Rattle.constraint_gen.specs.Obligations.{obligations}
use Rattle.function_notes.proofs.Lists.{got_again}
use Rattle.constraint_gen.proofs.Gathered.{gathered, owed_by, all_gathered, first_gathered, one_owed}
use Rattle.constraint_gen.proofs.models.obligations.Goals as goal

pub loop-placed-init : goal.loop-placed-init
loop-placed-init c =
    let core = c.args.core.now in
    let around = around_of c.around_model-around.result in
    let items = c.as_slice-placed-items.result.now in
    let settings : around ≡ models.around_of core =
    c.around_model-around.ensures ∙ (ap (around_with core) c.as_slice.ensures ∙ c.in_ok-lets.ensures.names) in
    let listed : definitions_of core around items ≡ definitions_under core around =
    ap (definitions_of core around) c.as_slice-placed-items.ensures ∙ c.in_ok-definitions.ensures around in
    ap (λ l. l ++ gathered owed_by core around items) c.new-made.ensures ∙ first_gathered owed_by core around items settings listed

pub loop-placed-preserved : goal.loop-placed-preserved
loop-placed-preserved c =
    let l = c.loop-placed in
    let core = c.args.core.now in
    let around = around_of c.around_model-around.result in
    let items = c.as_slice-placed-items.result.now in
    one_owed core around items l.placed-index _ c.in_ok-walking.walking c.loop-placed-test.true
    (got_again items l.placed-index _ c.loop-placed-test.true) c.in_ok-walking.ensures l.made c.push_obligations.new.made
    (obligations c.args.core.now) c.in_ok-push_obligations.ensures l.invariant

pub returns : goal.returns
returns c =
    let l = c.loop-placed in
    all_gathered owed_by c.args.core.now (around_of c.around_model-around.result) c.as_slice-placed-items.result.now l.placed-index l.made
    (obligations c.args.core.now) c.loop-placed-test.false l.invariant
