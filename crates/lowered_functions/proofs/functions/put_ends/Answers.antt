use Rattle.std.proofs.Common.{[], ◌∷◌}
use Rattle.model_state.specs.declared.cause.Cause.TheVariants.{MatchFailure}
use Rattle.jib.specs.declared.code.Instruction.TheVariants as I
use Rattle.jib.specs.declared.code.Source.TheVariants as R
use Rattle.lowered_pieces.specs.Places.{Raised}
use Rattle.lowered_pieces.proofs.Emitting.{emits_next, ok_next}
use Rattle.lowered_functions.proofs.functions.put_ends.Goals as goal

pub returns : goal.returns
returns c =
    ok_next c.put_throw.result c.args.coding.now c.put_label-2.new.self c.put_throw.new.self
    (λ name. I.Label 1 ∷ I.Stop (MatchFailure c.args.place) ∷ I.Label 0 ∷ []) (λ name. I.Throw (R.Slot (name Raised c.args.setting.now.exception)) ∷ [])
    (emits_next c.args.coding.now c.put_stop.new.self c.put_label-2.new.self (λ name. I.Label 1 ∷ I.Stop (MatchFailure c.args.place) ∷ [])
    (λ name. I.Label 0 ∷ [])
    (emits_next c.args.coding.now c.put_label.new.self c.put_stop.new.self (λ name. I.Label 1 ∷ []) (λ name. I.Stop (MatchFailure c.args.place) ∷ [])
    c.in_ok-put_label.ensures c.in_ok-put_stop.ensures) c.in_ok-put_label-2.ensures) c.put_throw.ensures
