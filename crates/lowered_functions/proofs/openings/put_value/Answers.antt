use Rattle.std.proofs.Common.{[], refl}
use Rattle.lowered_pieces.specs.Functions.{ends_code}
use Rattle.lowered_steps.specs.Setting.{kit_for}
use Rattle.lowered_functions.specs.Made.{value_for}
use Rattle.lowered_functions.proofs.Put.{code_made, emits_behind}
use Rattle.lowered_functions.proofs.openings.put_value.Goals as goal

pub put_node-requires : goal.put_node-requires
put_node-requires c = c.requires.lowered

pub returns : goal.returns
returns c =
    code_made c.args.walk.now [] c.in_ok-coding.coding c.put_ends.new.coding _ _ (λ name. value_for c.args.walk.now name c.args.place c.args.value.now)
    c.in_ok-coding.ensures.slots c.in_ok-coding.ensures.code c.in_ok-coding.ensures.labels (λ name. refl)
    (emits_behind c.in_ok-coding.coding c.put_node.new.coding c.put_ends.new.coding _ (λ name. ends_code (kit_for c.args.walk.now.setting.now name)
    c.args.place) _ c.in_ok-put_node.ensures c.in_ok-put_ends.ensures)
