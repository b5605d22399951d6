use Rattle.std.proofs.Common.{[], ◌∷◌}
use Rattle.lowered_pieces.proofs.Emitting.{grows_then}
use Rattle.lowered_steps.specs.Stores.{temp_at}
use Rattle.lowered_steps.proofs.Storing.{whole_read}
use Rattle.lowered_steps.proofs.stores.list_whole.Goals as goal

pub returns-clause-read : goal.returns-clause-read
returns-clause-read c =
    c.in_ok-push_indexes.ensures.read (λ name. temp_at name c.args.temp c.args.whole ∷ [])
    (whole_read c.source.new.self.slots c.new-sources.result c.push.new.self c.in_ok-source.source c.args.temp c.args.whole c.new-sources.ensures
    c.in_ok-push.ensures.pushed c.in_ok-source.ensures.read)

pub returns-clause-grown : goal.returns-clause-grown
returns-clause-grown c =
    grows_then c.args.coding.now c.source.new.self c.push_indexes.new.coding c.in_ok-source.ensures.grown c.in_ok-push_indexes.ensures.grown
