use Rattle.pattern_leaves.specs.Settings.{around_of}
use Rattle.constraint_gen.proofs.LetsBefore.{around_cut}
use Rattle.constraint_gen.proofs.top_levels.around_opening.Goals as goal

pub returns : goal.returns
returns c =
    around_cut c.args.core.now c.args.lets.now c.requires c.args.at c.as_slice.result.now c.as_slice-2.result.now c.first_names-names.result.now
    (around_of c.around_model.result) c.as_slice.ensures c.as_slice-2.ensures c.first_names-names.ensures c.around_model.ensures
