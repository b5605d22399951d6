-- What is done with a value in hand, as the code that makes its code holds it.
use Rattle.std.specs.Prelude.{[]}
use Rattle.lowered_pieces.specs.Places.{Naming}
use Rattle.lowered_pieces.specs.Arms.{moved}
use Rattle.lowered_pieces.specs.Forms.{Tail, var_tail, met_tail, no_tail, return_tail, throw_tail}
use Rattle.lowered_pieces.specs.Mapped.{some_tail}
use Rattle.lowered_pieces.specs.Writes.{cell_writing, given_tail, several_writing}
use Rattle.lowered_steps.specs.declared.setting.Setting.{Setting}
use Rattle.lowered_steps.specs.declared.tails.Tail.{Tail as Ending}
use Rattle.lowered_steps.specs.declared.tails.Tail.{Binds, Gives', Meets, Moves', Returns, Shares', Stays, Throws, Wraps'}
use Rattle.lowered_steps.specs.Cells.{aim_of, cells_of}
use Rattle.lowered_steps.specs.Setting.{kit_for, number_for, reads_at, tables_for}
use Rattle.lowered_steps.specs.Stands.{stand_of}

module _ (setting : Setting) (name : Naming) where
  -- each is made where its form stands
  abbrev pub tail_of : Ending → Tail
  tail_of Stays = no_tail
  tail_of (Throws s) = throw_tail (kit_for setting name) (stand_of s.now)
  tail_of (Returns s) = return_tail (kit_for setting name) (stand_of s.now)
  tail_of (Binds text s) = var_tail (kit_for setting name) (reads_at setting.reads.now text.now) (stand_of s.now)
  tail_of (Meets cases s) = met_tail (kit_for setting name) (number_for setting) cases.now (stand_of s.now)
  tail_of (Gives' c s p tail) =
      given_tail (kit_for setting name) (cell_writing setting.types.now (kit_for setting name) (tables_for setting []) (aim_of c.now)) (tail_of tail)
      (stand_of s.now)
  tail_of (Shares' targets s p tail) =
      given_tail (kit_for setting name) (several_writing setting.types.now (kit_for setting name) (tables_for setting []) (cells_of targets.now))
      (tail_of tail) (stand_of s.now)
  tail_of (Wraps' option payload s p tail) = some_tail (kit_for setting name) option.now payload.now (tail_of tail) (stand_of s.now)
  tail_of (Moves' m s p tail) = moved setting.types.now (kit_for setting name) m (stand_of s.now) (tail_of tail)
