use Rattle.std.proofs.Common.{◌∙◌, ◌++◌, map, ap}
use Rattle.lowered_steps.specs.Found.{indices_of}
use Rattle.sized_meanings.specs.Present.{gives_at}
use Rattle.sized_meanings.specs.Sized.{joined_nodes}
use Rattle.lowered_steps.proofs.setting.Setting.gives.Goals as goal

pub returns : goal.returns
returns c =
    c.in_ok-list_all_gives.ensures ∙ ap (λ us. map indices_of us ++ gives_at (joined_nodes c.args.self.now.bodies.now) c.args.giver) c.new-found.ensures
