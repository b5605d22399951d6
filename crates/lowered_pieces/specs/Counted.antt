-- The code of `foreach` (Sail language manual, "Loops").
use Rattle.std.specs.Prelude.{ℕ, pos, ◌+◌, List, [], ◌∷◌, ◌++◌, length}
use Rattle.sail_types.specs.Limits.{largest}
use Rattle.sail_types.specs.declared.rows.Row.{Row}
use Rattle.sail_types.specs.declared.rows.Row.TheVariants as B
use Rattle.sail_core.specs.declared.tree.Counting.{Counting}
use Rattle.sail_core.specs.declared.tree.Counting.TheVariants.{Up, Down}
use Rattle.jib.specs.declared.code.Literal.TheVariants as L
use Rattle.jib.specs.declared.code.Source.{Source}
use Rattle.jib.specs.declared.code.Source.TheVariants as R
use Rattle.jib.specs.declared.code.Operation.TheVariants as O
use Rattle.jib.specs.declared.code.Instruction.{Instruction}
use Rattle.jib.specs.declared.code.Instruction.TheVariants as I
use Rattle.lowered_pieces.specs.Places.{Local, Temp, Kit, from, to}
use Rattle.lowered_pieces.specs.Forms.{Coder, Piece, Stand, Tail, bound, code_of, count_of, higher, unit_piece}

-- the number is at n, the last one that counts at n + 1, and the step at n + 2; the place behind is for what is worked out between turns
module _ (kit : Kit) where
  abbrev int_at : ℕ → Source
  int_at n = from kit (Temp n) kit.integer

  abbrev largest_int : Source
  largest_int = R.Constant kit.integer (L.Integer (pos largest))

  -- how far a step still leads to an integer
  abbrev reach : Counting → ℕ → List Source
  reach Up n = largest_int ∷ int_at (n + 2) ∷ []
  reach Down n = int_at (n + 2) ∷ largest_int ∷ []

  abbrev beyond : Counting → ℕ → List Source
  beyond Up n = int_at (n + 3) ∷ int_at n ∷ []
  beyond Down n = int_at n ∷ int_at (n + 3) ∷ []

  abbrev step_row : Counting → Row
  step_row Up = B.AddInt
  step_row Down = B.SubInt

  -- the next number; past all integers the loop ends at label e
  abbrev pub next_code : Counting → ℕ → ℕ → List Instruction
  next_code way n e =
      I.Apply (to kit (Temp (n + 3)) kit.integer) (O.Builtin B.SubInt) (reach way n)
      ∷ I.Apply (to kit (Temp (n + 3)) kit.truth) (O.Builtin B.LtInt) (beyond way n)
      ∷ I.JumpIf (from kit (Temp (n + 3)) kit.truth) e
      ∷ I.Apply (to kit (Temp n) kit.integer) (O.Builtin (step_row way)) (int_at n ∷ int_at (n + 2) ∷ []) ∷ []

  abbrev in_span : Counting → ℕ → List Source
  in_span Up n = int_at n ∷ int_at (n + 1) ∷ []
  in_span Down n = int_at (n + 1) ∷ int_at n ∷ []

  -- one more turn where the number still counts
  abbrev pub turn_code : Counting → ℕ → ℕ → List Instruction
  turn_code way n l =
      I.Apply (to kit (Temp (n + 3)) kit.truth) (O.Builtin B.LteqInt) (in_span way n) ∷ I.JumpIf (from kit (Temp (n + 3)) kit.truth) l ∷ []

  -- a turn has the number under its name, in a place of its own
  abbrev pub turn_stand : List ℕ → Stand → Stand
  turn_stand name s = bound name (record s { temp = s.temp + 3 })

  abbrev pub bounds_labels : Piece → Piece → Piece → ℕ
  bounds_labels a b c = count_of a + count_of b + count_of c

  abbrev pub bounds_code : Piece → Piece → Piece → Coder
  bounds_code a b c s l =
      code_of a s l ++ (code_of b (higher s) (l + count_of a) ++ code_of c (higher (higher s)) (l + count_of a + count_of b))

  -- labels: 3 of its own, those of the bounds and the step, the body's, the tail's
  abbrev pub foreach_code : List ℕ → Counting → Piece → Piece → Piece → Piece → Tail → Coder
  foreach_code name way a b c body tail s l =
      bounds_code a b c s (l + 3) ++ I.Goto (l + 1) ∷ I.Label l ∷ I.Tick
      ∷ I.Copy (to kit (Local (length s.scope)) kit.integer) (int_at s.temp)
      ∷ (code_of body (turn_stand name s) (l + 3 + bounds_labels a b c) ++ (next_code way s.temp (l + 2) ++ I.Label (l + 1)
      ∷ (turn_code way s.temp l ++ I.Label (l + 2)
      ∷ (unit_piece kit).ended tail s (l + 3 + bounds_labels a b c + count_of body))))

  abbrev pub foreach_piece : List ℕ → Counting → Piece → Piece → Piece → Piece → Piece
  foreach_piece name way a b c body = record {
    labels = λ q. 3 + bounds_labels a b c + count_of body + q;
    ended = foreach_code name way a b c body;
    notes = a.notes ++ (b.notes ++ c.notes);
    ends = [];
  }
