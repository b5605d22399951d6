use Rattle.std.proofs.Common.{◌≡◌, ◌++◌, take}
use Rattle.lowered_pieces.specs.Forms.{all_notes}
use Rattle.lowered_steps.proofs.notes.+list_notes.Given as goal

abbrev pub invariant-list_parts-loop-part : goal.invariant-list_parts-loop-part
invariant-list_parts-loop-part l = l.listed ≡ l.initial.listed ++ all_notes (take l.part-index l.parts)
