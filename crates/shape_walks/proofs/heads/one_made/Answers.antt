use Rattle.std.proofs.Common.{◌∙◌, refl}
use Rattle.shape_walks.specs.Walks.{known_shapes}
use Rattle.shape_walks.proofs.Recalled.{again_noted}
use Rattle.shape_walks.proofs.heads.one_made.Goals as goal

pub returns-clause-failures : goal.returns-clause-failures
returns-clause-failures c =
    again_noted c.call_found.result c.args.place c.args.want.now c.args.callee.now c.as_slice.result.now (known_shapes c.args.walk.plan)
    c.args.walk.cores c.args.walk.cores c.args.first.now.error c.call_found.new.first.error (c.as_slice.ensures ∙ c.known_shapes-known.ensures)
    refl c.call_found.ensures.failures
