use Rattle.std.proofs.Common.{◌≡◌, ◌∙◌, ◌+◌, map, sym, ap}
use Rattle.std.proofs.lemmas.Result.{IfOk-weaker}
use Rattle.sail_core.specs.Patterns.{known_sum}
use Rattle.lowered_pieces.specs.Arms.{part_width}
use Rattle.lowered_steps.specs.Setting.{size_for}
use Rattle.lowered_steps.proofs.Opened.{widths_none, widths_sum}
use Rattle.lowered_steps.proofs.Lists.{first_of, none_of, others}
use Rattle.lowered_steps.proofs.words.+sum_widths.Goals as goal

pub returns-in-empty : goal.returns-in-empty
returns-in-empty t c =
    ap (λ ws. known_sum (map (part_width (size_for c.args.setting.now)) ws)) (sym (none_of c.args.widths.now c.in-empty.len_below))

pub returns-in-Some : goal.returns-in-Some
returns-in-Some t c =
    IfOk-weaker c.sum_of.result (λ n. n ≡ c.in-Some.width + c.in_ok-behind-in-len1-up.behind)
    (λ n. n ≡ known_sum (map (part_width (size_for c.args.setting.now)) c.args.widths.now))
    (λ n e. e ∙ widths_sum (part_width (size_for c.args.setting.now) c.first-item.result) (map (part_width (size_for c.args.setting.now))
    (others c.args.widths.now)) (map (part_width (size_for c.args.setting.now)) c.args.widths.now) c.in-Some.width c.in_ok-behind-in-len1-up.behind
    (ap (map (part_width (size_for c.args.setting.now))) (first_of c.args.widths.now c.first-item.result c.in-len1-up.len_at_least c.first-item.is))
    (sym c.part_width.ensures ∙ c.in-Some.is) c.in_ok-behind-in-len1-up.ensures) c.sum_of.ensures

pub returns-in-None : goal.returns-in-None
returns-in-None t c =
    widths_none (part_width (size_for c.args.setting.now) c.first-item.result) (map (part_width (size_for c.args.setting.now)) (others c.args.widths.now))
    (map (part_width (size_for c.args.setting.now)) c.args.widths.now) c.in_ok-behind-in-len1-up.behind
    (ap (map (part_width (size_for c.args.setting.now))) (first_of c.args.widths.now c.first-item.result c.in-len1-up.len_at_least c.first-item.is))
    (sym c.part_width.ensures ∙ c.in-None.is) c.in_ok-behind-in-len1-up.ensures
