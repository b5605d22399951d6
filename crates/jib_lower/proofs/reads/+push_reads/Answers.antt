use Rattle.std.proofs.Common.{◌≡◌, ◌∙◌, ap, map, sym}
use Rattle.std.proofs.lemmas.Result.{on_ok_weaker}
use Rattle.lowered_steps.proofs.Lists.{first_of, none_of, others}
use Rattle.lowered_steps.specs.Setting.{nodes_in}
use Rattle.jib_lower.specs.Reads.{read_of, with_read}
use Rattle.jib_lower.proofs.reads.+push_reads.Goals as goal

pub returns-in-empty : goal.returns-in-empty
returns-in-empty t c =
    ap (λ rs. with_read (nodes_in c.args.setting.now) c.args.name.now (map read_of rs) c.args.types.now)
    (sym (none_of c.args.reads.now c.in-empty.len_below))

pub returns-in_ok-add_read-in-len1-up : goal.returns-in_ok-add_read-in-len1-up
returns-in_ok-add_read-in-len1-up t c =
    let nodes = nodes_in c.args.setting.now in
    on_ok_weaker c.push_reads.result
    (λ (e : c.push_reads.new.types ≡ with_read nodes c.args.name.now (map read_of (others c.args.reads.now)) c.add_read.new.types).
    e ∙ ap (with_read nodes c.args.name.now (map read_of (others c.args.reads.now))) c.in_ok-add_read-in-len1-up.ensures
    ∙ ap (λ rs. with_read nodes c.args.name.now (map read_of rs) c.args.types.now)
    (sym (first_of c.args.reads.now c.first-item.result c.in-len1-up.len_at_least c.first-item.is)))
    c.push_reads.ensures
