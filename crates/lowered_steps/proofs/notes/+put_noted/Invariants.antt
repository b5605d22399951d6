use Rattle.std.proofs.Common.{take}
use Rattle.lowered_pieces.specs.Emitted.{Emits, no_labels}
use Rattle.lowered_pieces.specs.Forms.{kit_at}
use Rattle.lowered_pieces.specs.Places.{from}
use Rattle.lowered_steps.specs.Noting.{each_noted}
use Rattle.lowered_steps.specs.Setting.{kit_for, number_for}
use Rattle.lowered_steps.specs.Stands.{depths_of}
use Rattle.lowered_steps.proofs.notes.+put_noted.Given as goal

abbrev pub invariant-put_parts_noted-loop-at : goal.invariant-put_parts_noted-loop-at
invariant-put_parts_noted-loop-at l =
    Emits l.initial.coding l.coding
    (λ name first. each_noted (kit_at (kit_for l.setting name) (depths_of l.levels)) (number_for l.setting) (take l.at l.parts) l.types
    (from (kit_for l.setting name) l.place l.typ) l.free)
    no_labels
