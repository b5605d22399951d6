use Rattle.std.proofs.Common.{[], ◌∷◌}
use Rattle.jib.specs.declared.code.Instruction.TheVariants as I
use Rattle.lowered_pieces.proofs.Emitting.{ok_next}
use Rattle.lowered_functions.proofs.Put.{ok_measured}
use Rattle.lowered_functions.proofs.functions.put_measured.Goals as goal

pub put_measure-requires : goal.put_measure-requires
put_measure-requires c = record { lowered = c.requires.measure }

pub put_answer-requires : goal.put_answer-requires
put_answer-requires c = record { lowered = c.requires.lowered }

pub returns : goal.returns
returns c =
    ok_measured c.put_no_measure.result c.args.coding.now c.put_measure.new.coding c.put_answer.new.coding c.put_no_measure.new.self _ _
    (λ name. I.Label 2 ∷ I.NoMeasure ∷ []) _ _ c.in_ok-put_measure.ensures c.in_ok-put_answer.ensures
    (ok_next c.put_no_measure.result c.put_answer.new.coding c.put_label.new.self c.put_no_measure.new.self (λ name. I.Label 2 ∷ []) (λ name. I.NoMeasure ∷ [])
    c.in_ok-put_label.ensures c.put_no_measure.ensures)
