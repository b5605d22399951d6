use Rattle.std.proofs.Common.{[], ◌∷◌}
use Rattle.lowered_pieces.proofs.Emitting.{ok_next}
use Rattle.jib.specs.declared.code.Instruction.TheVariants as I
use Rattle.lowered_steps.proofs.chains.end_arm.Goals as goal

pub returns : goal.returns
returns c =
    ok_next c.put_label.result c.args.coding.now c.put_goto.new.self c.put_label.new.self (λ name. I.Goto c.args.end ∷ []) (λ name. I.Label c.args.next ∷ [])
    c.in_ok-put_goto.ensures c.put_label.ensures
