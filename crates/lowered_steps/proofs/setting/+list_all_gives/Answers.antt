use Rattle.std.proofs.Common.{◌∙◌, ◌++◌, map, ap}
use Rattle.lowered_steps.proofs.Lists.{first_of, none_of, others}
use Rattle.lowered_steps.specs.Found.{indices_of}
use Rattle.lowered_steps.proofs.Noted.{all_found, none_found}
use Rattle.sized_meanings.specs.Present.{gives_at}
use Rattle.lowered_steps.proofs.setting.+list_all_gives.Goals as goal

pub returns-in-empty : goal.returns-in-empty
returns-in-empty t c =
    none_found c.args.giver c.args.bodies.now c.args.found.now (none_of c.args.bodies.now c.in-empty.len_below)

pub returns-in_ok-list_gives-in-len1-up : goal.returns-in_ok-list_gives-in-len1-up
returns-in_ok-list_gives-in-len1-up t c =
    all_found c.list_all_gives.result c.args.giver c.body-item.result (others c.args.bodies.now) c.args.bodies.now c.args.found.now c.list_gives.new.found
    c.list_all_gives.new.found
    (first_of c.args.bodies.now c.body-item.result c.in-len1-up.len_at_least c.body-item.is)
    (c.in_ok-list_gives-in-len1-up.ensures ∙ ap (λ ns. map indices_of c.args.found.now ++ gives_at ns c.args.giver) c.as_slice.ensures) c.list_all_gives.ensures
