use Rattle.std.proofs.Common.{◌∙◌, ◌+◌, List, [], ◌∷◌, ◌++◌, ap, append_assoc}
use Rattle.std.proofs.lemmas.Result.{on_ok_weaker}
use Rattle.jib.specs.declared.code.Source.{Source}
use Rattle.lowered_pieces.specs.Emitted.{Grows, Sourced}
use Rattle.lowered_pieces.specs.Places.{Naming}
use Rattle.lowered_pieces.proofs.Emitting.{grows_then}
use Rattle.lowered_steps.specs.Stores.{temp_at}
use Rattle.lowered_steps.proofs.Sourcing.{sourced_as}
use Rattle.lowered_steps.proofs.stores.push_two.Goals as goal

pub returns-clause-read : goal.returns-clause-read
returns-clause-read c =
    λ by s.
    let f : Naming → List Source = λ name. by name ++ temp_at name c.args.indexes c.args.setting.now.integer ∷ [] in
    on_ok_weaker c.push_index-2.result (λ (y : Sourced c.push_index-2.new.coding.slots c.push_index-2.new.sources
    (λ name. f name ++ temp_at name c.in_ok-behind.behind c.args.setting.now.integer ∷ [])).
    sourced_as c.push_index-2.new.coding.slots c.push_index-2.new.sources (λ name. f name ++ temp_at name c.in_ok-behind.behind c.args.setting.now.integer ∷ [])
    (λ name. by name ++ temp_at name c.args.indexes c.args.setting.now.integer ∷ temp_at name (c.args.indexes + 1) c.args.setting.now.integer ∷ [])
    (λ name. append_assoc (by name) (temp_at name c.args.indexes c.args.setting.now.integer ∷ []) (temp_at name c.in_ok-behind.behind
    c.args.setting.now.integer ∷ [])
    ∙ ap (λ k. by name ++ temp_at name c.args.indexes c.args.setting.now.integer ∷ temp_at name k c.args.setting.now.integer ∷ []) c.in_ok-behind.ensures) y)
    (c.push_index-2.ensures.read f (c.in_ok-push_index.ensures.read by s))

pub returns-clause-grown : goal.returns-clause-grown
returns-clause-grown c =
    on_ok_weaker c.push_index-2.result (λ (g : Grows c.push_index.new.coding c.push_index-2.new.coding).
    grows_then c.args.coding.now c.push_index.new.coding c.push_index-2.new.coding c.in_ok-push_index.ensures.grown g) c.push_index-2.ensures.grown
