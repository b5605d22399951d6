use Rattle.std.proofs.Common.{◌∙◌, List, sym, ap, ◌&&◌}
use Rattle.lowered_ends.proofs.Lists.{first_of, none_of}
use Rattle.lowered_ends.specs.Able.{all_one_for}
use Rattle.lowered_pieces.specs.Forms.{End}
use Rattle.lowered_pieces.specs.Gathered.{is_one}
use Rattle.sail_core.specs.declared.tree.Core.{Core}
use Rattle.lowered_ends.proofs.able.+have_one_type.Goals as goal

pub returns-in-empty : goal.returns-in-empty
returns-in-empty t c =
    λ name. ap (λ (cs : List Core). all_one_for c.args.setting.now c.args.around.now name cs) (sym (none_of c.args.nodes.now c.in-empty.len_below))

pub returns-in_ok-are_others-in-len1-up : goal.returns-in_ok-are_others-in-len1-up
returns-in_ok-are_others-in-len1-up t c =
    λ name. c.both.ensures ∙ (λ i. (c.is_one-single.ensures ∙ ap (λ (es : List End). is_one es) (c.in_ok-ends-in-len1-up.ensures name)) i &&
    c.in_ok-are_others-in-len1-up.ensures name i) ∙ ap (λ (cs : List Core). all_one_for c.args.setting.now c.args.around.now name cs) (sym (first_of
    c.args.nodes.now c.first-item.result c.in-len1-up.len_at_least c.first-item.is))
