use Rattle.std.proofs.Common.{◌∙◌, ◌+◌, ap}
use Rattle.size_values.specs.declared.sized.Sized.{out-Sized}
use Rattle.checked_meaning.specs.Items.{item_typ}
use Rattle.lowered_pieces.specs.Arms.{held_at}
use Rattle.lowered_steps.specs.Hands.{held_of}
use Rattle.lowered_steps.proofs.Opened.{first_put, held_put}
use Rattle.lowered_steps.proofs.heads.put_first_item.Goals as goal

pub returns-clause-code : goal.returns-clause-code
returns-clause-code c =
    first_put c.args.setting.now (held_of c.args.value.now) c.args.coding.now c.put_apply_one.new.self c.put_jump_if.new.self c.put_apply_at.new.self
    c.put_apply_one-2.new.self c.args.free c.args.fail c.in_ok-number.number c.in_ok-whole.whole c.in_ok-further.field-0 c.in_ok-typ.typ
    c.in_ok-typ.ensures c.in_ok-number.ensures c.in_ok-whole.ensures c.in_ok-further.ensures c.in_ok-put_apply_one.ensures c.in_ok-put_jump_if.ensures
    c.in_ok-put_apply_at.ensures c.in_ok-put_apply_one-2.ensures

pub returns-clause-parts : goal.returns-clause-parts
returns-clause-parts c =
    held_put c.args.parts.now c.push.new.self _ (held_at c.args.free (item_typ (out-Sized c.args.value.now.typ)))
    (ap (λ u. held_at c.args.free u) c.in_ok-typ.ensures) c.in_ok-push.ensures.pushed

pub returns-clause-rest : goal.returns-clause-rest
returns-clause-rest c =
    ap (λ q. held_at q c.in_ok-copy_sized.field-0) c.in_ok-further.ensures ∙ ap (λ u. held_at (c.args.free + 1) u) c.in_ok-copy_sized.ensures
