use Rattle.std.proofs.Common.{◌∙◌, ◌++◌, map, sym, ap, take, append_assoc}
use Rattle.lowered_steps.proofs.Searched.{gives_more}
use Rattle.lowered_steps.specs.Found.{indices_of}
use Rattle.sized_meanings.specs.Present.{gives_at}
use Rattle.sized_meanings.specs.Present.{gives_in}
use Rattle.lowered_steps.proofs.setting.list_gives.Goals as goal

pub loop-sizes-preserved : goal.loop-sizes-preserved
loop-sizes-preserved c =
    let l = c.loop-sizes in
    c.in_ok-push_gives.ensures ∙ ap (λ us. us ++ gives_in c.args.giver c.sizes-item.result) l.invariant
    ∙ append_assoc (map indices_of c.args.found.now) (gives_at (take l.sizes-index c.args.nodes.now) c.args.giver) (gives_in c.args.giver c.sizes-item.result)
    ∙ ap (λ us. map indices_of c.args.found.now ++ us) (sym (gives_more c.args.nodes.now l.sizes-index c.sizes-item.result c.args.giver
    c.loop-sizes-test.true c.sizes-item.is))
