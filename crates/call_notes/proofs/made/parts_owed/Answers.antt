use Rattle.std.proofs.Common.{◌∙◌, sym, arith}
use Rattle.pattern_leaves.specs.Settings.{around_of}
use Rattle.value_indices.specs.Walking.{seen}
use Rattle.call_arguments.proofs.Lists.{item_is}
use Rattle.call_notes.proofs.Owed.{parts_more, parts_all}
use Rattle.call_notes.proofs.made.parts_owed.Goals as goal

pub loop-index-preserved : goal.loop-index-preserved
loop-index-preserved c =
    parts_more (around_of c.args.around.now) c.args.known.now c.args.indices.now c.args.readings.now c.args.places.now c.args.types.now
    c.args.values.now c.loop-index.index _ _ _ (seen c.loop-index.walking) (seen c.owe_part.new.walking) (omega arith) (omega arith) (omega arith)
    (item_is c.args.places.now c.loop-index.index _ (omega arith)) c.index-types-index.is c.index-values-index.is c.in_ok-owe_part.ensures
    ∙ c.loop-index.invariant

pub returns : goal.returns
returns c =
    sym (parts_all (around_of c.args.around.now) c.args.known.now c.args.indices.now c.args.readings.now c.args.places.now c.args.types.now
    c.args.values.now c.loop-index.index (seen c.loop-index.walking) (omega arith))
    ∙ c.loop-index.invariant
