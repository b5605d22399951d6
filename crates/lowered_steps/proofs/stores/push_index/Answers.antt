use Rattle.std.proofs.Common.{◌≡◌, [], ◌∷◌, ◌++◌}
use Rattle.std.proofs.lemmas.Result.{on_ok_weaker}
use Rattle.lowered_steps.specs.Stores.{temp_at}
use Rattle.lowered_steps.proofs.Storing.{sourced_more}
use Rattle.lowered_steps.proofs.Taking.{just}
use Rattle.lowered_steps.proofs.stores.push_index.Goals as goal

pub returns-clause-read : goal.returns-clause-read
returns-clause-read c =
    λ by s.
    on_ok_weaker c.push.result (λ (e : c.push.new.self ≡ c.args.sources.now ++ c.in_ok-source.source ∷ []).
    sourced_more c.args.coding.now.slots c.source.new.self.slots c.args.sources.now c.push.new.self c.in_ok-source.source by
    (λ name. temp_at name c.args.index c.args.setting.now.integer ∷ []) e c.in_ok-source.ensures.grown.slots s c.in_ok-source.ensures.read)
    c.push.ensures.pushed

pub returns-clause-grown : goal.returns-clause-grown
returns-clause-grown c = just c.push.result c.in_ok-source.ensures.grown
