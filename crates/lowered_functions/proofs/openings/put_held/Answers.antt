use Rattle.std.proofs.Common.{◌∙◌, ap}
use Rattle.std.specs.Prelude.{map}
use Rattle.sail_core.specs.declared.tree.Giver.TheVariants as Gives
use Rattle.sized_meanings.specs.Present.{gives_at}
use Rattle.sized_meanings.specs.Sized.{joined_nodes}
use Rattle.lowered_pieces.specs.Arms.{Hand, hand_of, in_hand}
use Rattle.lowered_pieces.specs.Forms.{one_end}
use Rattle.lowered_steps.specs.Setting.{kit_for}
use Rattle.lowered_steps.specs.Stands.{named_of, stand_of}
use Rattle.lowered_functions.specs.Made.{failing_at}
use Rattle.lowered_functions.proofs.Named.{held_put}
use Rattle.lowered_functions.proofs.openings.put_held.Goals as goal

pub returns : goal.returns
returns c =
    held_put c.args.setting.now c.args.name.now (stand_of c.args.stand.now) c.args.no_match c.put_tail.result (λ place typ. 0) c.args.coding.now
    c.put_looks.new.coding c.put_copy.new.self c.put_tail.new.coding _ c.in_ok-copy_sized.field-0 (map named_of c.as_slice.result.now) c.in_ok-hand.hand.free
    c.in_ok-typ.typ c.place_in-from.result (ap (λ bs. gives_at (joined_nodes bs) (Gives.Arm 0 0)) c.requires.bare) c.in_ok-copy_sized.ensures
    (ap (λ (h : Hand). h.free) (c.in_ok-hand.ensures.hand ∙ ap (λ t. hand_of c.args.setting.now.types.now (kit_for c.args.setting.now (λ place typ. 0))
    (in_hand (one_end t))
    c.args.name.now.steps.now (failing_at c.args.no_match (stand_of c.args.stand.now))) c.in_ok-copy_sized.ensures))
    (ap (λ us. map named_of us) c.as_slice.ensures ∙ ap (λ (h : Hand). h.names) (c.in_ok-hand.ensures.hand ∙ ap
    (λ t. hand_of c.args.setting.now.types.now (kit_for c.args.setting.now (λ place typ. 0)) (in_hand (one_end t))
    c.args.name.now.steps.now (failing_at c.args.no_match (stand_of c.args.stand.now))) c.in_ok-copy_sized.ensures))
    c.place_in-from.ensures c.in_ok-typ.ensures c.in_ok-hand.ensures.code c.in_ok-put_copy.ensures c.put_tail.ensures
