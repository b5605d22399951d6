use Rattle.std.proofs.Common.{◌∙◌, ap, if◌then◌else◌, sym}
use Rattle.std.specs.Str.{bytes_eq}
use Rattle.lowered_steps.proofs.Lists.{first_of, none_of}
use Rattle.lowered_steps.specs.Setting.{reads_at}
use Rattle.lowered_steps.proofs.setting.+reads_of.Goals as goal

pub returns-in-empty : goal.returns-in-empty
returns-in-empty t c = ap (λ rs. reads_at rs c.args.name.now) (sym (none_of c.args.reads.now c.in-empty.len_below))

pub returns-in-len1-up : goal.returns-in-len1-up
returns-in-len1-up t c =
    c.types_or.ensures
    ∙ ap (λ us. if bytes_eq c.first-item.result.name c.args.name.now then c.first-item.result.types else us) c.reads_of-others.ensures
    ∙ ap (λ rs. reads_at rs c.args.name.now) (sym (first_of c.args.reads.now c.first-item.result c.in-len1-up.len_at_least c.first-item.is))
