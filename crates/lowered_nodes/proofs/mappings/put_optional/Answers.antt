use Rattle.std.proofs.Common.{◌-◌}
use Rattle.lowered_nodes.proofs.Putting.{put_as}
use Rattle.lowered_nodes.proofs.Pieces.{else_put}
use Rattle.lowered_nodes.specs.Walk.{piece_at}
use Rattle.lowered_pieces.specs.Mapped.{none_piece, optional_piece, some_piece}
use Rattle.lowered_steps.specs.Setting.{kit_for}
use Rattle.lowered_steps.specs.Stands.{stand_of}
use Rattle.lowered_steps.specs.Tails.{tail_of}
use Rattle.lowered_nodes.proofs.mappings.put_optional.Goals as goal

pub returns : goal.returns
returns c =
    let walk = c.args.walk.now in let setting = walk.setting.now in let s = stand_of c.args.stand.now in let value = c.args.value.now in put_as
    c.put_label.result _ _ walk c.args.stand.now c.args.tail.now _ _ (λ name i. optional_piece setting.types.now (kit_for setting name)
    (c.in_ok-option.ensures setting.types.now c.args.typ.now c.in_ok-payload.ensures i) (c.in_ok-payload.ensures i) (piece_at walk name value)) (else_put
    c.put_label.result (λ name. kit_for setting name) s (λ name. tail_of setting name c.args.tail.now) setting.types.now (λ name. some_piece (kit_for
    setting name) c.in_ok-option.option c.in_ok-payload.payload (piece_at walk name value)) (λ name. none_piece (kit_for setting name)
    c.in_ok-option.option) _ _ _ _ _ _ c.in_ok-label.label c.in_ok-end.end c.in_ok-label.ensures.first c.in_ok-end.ensures c.in_ok-label.ensures.taken
    c.in_ok-put_node.ensures c.in_ok-end_arm.ensures c.in_ok-put_none.ensures c.put_label.ensures)
