use Rattle.lowered_pieces.proofs.Emitting.{grows_then, grows_here}
use Rattle.lowered_steps.proofs.Lists.{first_of, none_of, others}
use Rattle.lowered_steps.proofs.Sourcing.{sources_done, sources_more}
use Rattle.lowered_pieces.specs.Emitted.{Grows}
use Rattle.std.proofs.lemmas.Result.{on_ok_weaker}
use Rattle.lowered_steps.proofs.making.+list_from.Goals as goal

pub returns-in-empty-clause-read : goal.returns-in-empty-clause-read
returns-in-empty-clause-read t c =
    λ by s. sources_done c.args.setting.now c.args.coding.now.slots c.args.sources.now by c.args.temp c.args.types.now
    (none_of c.args.types.now c.in-empty.len_below) s

pub returns-in-empty-clause-grown : goal.returns-in-empty-clause-grown
returns-in-empty-clause-grown t c =
    grows_here c.args.coding.now

pub returns-in_ok-next-in-len1-up-clause-read : goal.returns-in_ok-next-in-len1-up-clause-read
returns-in_ok-next-in-len1-up-clause-read t c =
    λ by s.
    sources_more c.args.setting.now c.list_from.result by c.args.temp c.in_ok-next-in-len1-up.next c.in_ok-number-in-len1-up.number c.first-item.result
    (others c.args.types.now) c.args.types.now c.args.coding.now c.source.new.self
    c.list_from.new.coding c.in_ok-source-in-len1-up.source c.args.sources.now c.push.new.self c.list_from.new.sources
    (first_of c.args.types.now c.first-item.result c.in-len1-up.len_at_least c.first-item.is) c.in_ok-number-in-len1-up.ensures
    c.in_ok-next-in-len1-up.ensures s c.in_ok-source-in-len1-up.ensures.grown c.in_ok-source-in-len1-up.ensures.read c.in_ok-push-in-len1-up.ensures.pushed
    c.list_from.ensures.read

pub returns-in_ok-next-in-len1-up-clause-grown : goal.returns-in_ok-next-in-len1-up-clause-grown
returns-in_ok-next-in-len1-up-clause-grown t c =
    on_ok_weaker c.list_from.result (λ (g : Grows c.source.new.self c.list_from.new.coding).
    grows_then c.args.coding.now c.source.new.self c.list_from.new.coding c.in_ok-source-in-len1-up.ensures.grown g) c.list_from.ensures.grown
