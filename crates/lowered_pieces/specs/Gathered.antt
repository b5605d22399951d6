-- The code of builtins of the state: their operands have one type each, so that they are done before it is known that their case is there.
use Rattle.std.specs.Prelude.{ℕ, ◌+◌, Bool, true, false, ◌&&◌, List, [], ◌∷◌, ◌++◌, Option, Some, None}
use Rattle.sail_types.specs.declared.rows.Row.{Row}
use Rattle.value_indices.specs.declared.indices.Indices.{Indices}
use Rattle.size_values.specs.declared.sized.Sized.{Sized}
use Rattle.jib.specs.declared.code.Source.{Source}
use Rattle.jib.specs.declared.code.Operation.TheVariants as O
use Rattle.jib.specs.declared.code.Instruction.TheVariants as I
use Rattle.sized_meanings.specs.Case.{Case}
use Rattle.lowered_pieces.specs.Places.{Kit, Temp, from, to}
use Rattle.lowered_pieces.specs.Forms.{Coder, End, Piece, Tail, all_code, all_labels, all_notes, kit_at, note_code, notes_in, nothing_piece, one_end}

-- the type of a value that has one alone
abbrev pub only_end : List End → Option Sized
only_end (e ∷ []) = Some e.typ
only_end es = None

module _ (kit : Kit) where
  abbrev pub operand_at : ℕ → Option Sized → Source
  operand_at n None = from kit (Temp n) kit.unit
  operand_at n (Some t) = from kit (Temp n) (kit.number t)

  abbrev pub operands_at : ℕ → List Piece → List Source
  operands_at n [] = []
  operands_at n (p ∷ ps) = operand_at n (only_end p.ends) ∷ operands_at (n + 1) ps

  abbrev pub row_code : Row → Case → List Indices → List Piece → Tail → Coder
  row_code row c gives ps tail s l =
      I.Apply (to kit (Temp s.temp) (kit.number c.gives)) (O.Builtin row) (operands_at s.temp ps)
      ∷ (note_code (kit_at kit s.depths) kit.number s.temp gives c.gives ++ tail.code c.gives l)

  abbrev pub state_code : Row → Case → List Indices → List Piece → Tail → Coder
  state_code row c gives ps tail s l =
      all_code kit kit.number ps s l ++ row_code row c gives ps tail s (l + all_labels kit kit.number ps)

  -- at a node that has one case
  abbrev pub state_piece : Row → List Case → List Indices → List Piece → Piece
  state_piece row (c ∷ []) gives ps = record {
    labels = λ q. all_labels kit kit.number ps + q;
    ended = state_code row c gives ps;
    notes = notes_in kit kit.number ps ++ all_notes gives;
    ends = one_end c.gives;
  }
  state_piece row cases gives ps = nothing_piece

abbrev pub is_one : {A : Type 0} → List A → Bool
is_one (c ∷ []) = true
is_one cs = false

abbrev pub all_one : List Piece → Bool
all_one [] = true
all_one (p ∷ ps) = is_one p.ends && all_one ps
