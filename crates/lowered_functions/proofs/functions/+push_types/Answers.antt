use Rattle.std.proofs.Common.{◌∙◌, ◌++◌, append-nil, map, sym, ap}
use Rattle.lowered_slots.specs.declared.slots.Slot.{Slot}
use Rattle.lowered_steps.proofs.Lists.{head_of, none_of, others}
use Rattle.lowered_functions.proofs.Begun.{types_more}
use Rattle.lowered_functions.proofs.functions.+push_types.Goals as goal

pub returns-in-empty : goal.returns-in-empty
returns-in-empty t c =
    sym (append-nil c.args.types.now) ∙ ap (λ us. c.args.types.now ++ map (λ (slot : Slot). slot.typ) us) (sym (none_of c.args.slots.now c.in-empty.len_below))

pub returns-in_ok-push-in-len1-up : goal.returns-in_ok-push-in-len1-up
returns-in_ok-push-in-len1-up t c =
    types_more c.push_types.result _ (others c.args.slots.now) c.args.slots.now c.args.types.now c.push.new.self c.push_types.new.types
    (head_of c.args.slots.now _ c.in-len1-up.len_at_least) c.in_ok-push-in-len1-up.ensures.pushed c.push_types.ensures
