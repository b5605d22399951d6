use Rattle.std.proofs.Common.{◌≡◌, ◌∙◌, ap, map, sym}
use Rattle.std.proofs.lemmas.Result.{on_ok_weaker}
use Rattle.lowered_steps.proofs.Lists.{first_of, none_of, others}
use Rattle.lowered_steps.specs.Setting.{nodes_in}
use Rattle.jib_lower.specs.Reads.{read_of, with_names}
use Rattle.jib_lower.proofs.reads.+push_names.Goals as goal

pub returns-in-empty : goal.returns-in-empty
returns-in-empty t c =
    ap (λ rs. with_names (nodes_in c.args.setting.now) (map read_of c.args.reads.now) (map read_of rs) c.args.told.now)
    (sym (none_of c.args.some.now c.in-empty.len_below))

pub returns-in_ok-add_name-in-len1-up : goal.returns-in_ok-add_name-in-len1-up
returns-in_ok-add_name-in-len1-up t c =
    let nodes = nodes_in c.args.setting.now in let all = map read_of c.args.reads.now in
    on_ok_weaker c.push_names.result
    (λ (e : c.push_names.new.told ≡ with_names nodes all (map read_of (others c.args.some.now)) c.add_name.new.told).
    e ∙ ap (with_names nodes all (map read_of (others c.args.some.now))) c.in_ok-add_name-in-len1-up.ensures
    ∙ ap (λ rs. with_names nodes all (map read_of rs) c.args.told.now)
    (sym (first_of c.args.some.now c.first-item.result c.in-len1-up.len_at_least c.first-item.is)))
    c.push_names.ensures
