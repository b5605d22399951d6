use Rattle.std.proofs.Common.{◌∙◌, ap, ◌&&◌}
use Rattle.std.specs.Prelude.{Bool}
use Rattle.lowered_ends.proofs.Paths.{path_more, path_none, path_one}
use Rattle.lowered_ends.proofs.cells.+is_path.Goals as goal

pub returns-in-empty : goal.returns-in-empty
returns-in-empty t c = path_none c.args.setting.now c.args.suffixes.now c.args.typ.now c.in-empty.len_below

pub returns-in-len1 : goal.returns-in-len1
returns-in-len1 t c = path_one c.args.setting.now c.args.suffixes.now c.args.typ.now c.in-len1.len_below

pub returns-in_ok-is_rest-in-len1-up : goal.returns-in_ok-is_rest-in-len1-up
returns-in_ok-is_rest-in-len1-up t c =
    c.both.ensures
    ∙ ap (λ (b : Bool). c.is_way_said.result && b) c.both-behind.ensures
    ∙ path_more c.args.setting.now c.args.suffixes.now _ c.args.typ.now c.in_ok-inner-in-len1-up.inner c.is_way_said.result
    c.in_ok-known-in-len1-up.known c.in_ok-is_rest-in-len1-up.is_rest c.in-len1-up.len_at_least c.is_way_said.ensures
    c.in_ok-inner-in-len1-up.ensures c.in_ok-known-in-len1-up.ensures c.in_ok-is_rest-in-len1-up.ensures
