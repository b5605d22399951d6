-- The code of mappings whose directions are functions that give an option (Sail language manual, "Mappings").
use Rattle.std.specs.Prelude.{ℕ, ◌+◌, Bool, true, false, ◌&&◌, List, [], ◌∷◌, ◌++◌, Option, Some, None, if◌then◌else◌}
use Rattle.sail_base.specs.declared.place.Place.{Place as TextPlace}
use Rattle.model_state.specs.declared.cause.Cause.TheVariants.{MatchFailure}
use Rattle.value_indices.specs.declared.indices.Indices.{Indices}
use Rattle.sail_types.specs.declared.table.Types.{Types}
use Rattle.size_values.specs.Sized.{sized_eq}
use Rattle.size_values.specs.declared.constants.Picked.{Picked}
use Rattle.size_values.specs.declared.sized.Sized.{Sized}
use Rattle.jib.specs.declared.code.Operation.TheVariants as O
use Rattle.jib.specs.declared.code.Instruction.{Instruction}
use Rattle.jib.specs.declared.code.Instruction.TheVariants as I
use Rattle.sized_meanings.specs.Case.{Case}
use Rattle.lowered_pieces.specs.Places.{Mapped, Temp, Kit, from, to}
use Rattle.lowered_pieces.specs.Chains.{many}
use Rattle.lowered_pieces.specs.Moves.{retype}
use Rattle.lowered_pieces.specs.Arms.{else_piece}
use Rattle.lowered_pieces.specs.Gathered.{only_end}
use Rattle.lowered_pieces.specs.Forms.{Coder, End, Piece, Stand, Tail, all_notes, answer_make, code_of, count_of, ends_of, made_code, one_end, said}
use Rattle.lowered_pieces.specs.Forms.{unit_source}

module _ (kit : Kit) where
  -- ---- what a direction gives, as an option of this type over a payload of that one; and `None` where it says No

  abbrev pub some_tail : Sized → Sized → Tail → Stand → Tail
  some_tail option payload tail s = record {
    labels = tail.labels;
    code = λ t l.
        retype kit s.temp (kit.number t) (kit.number payload)
        ++ I.Apply (to kit (Temp s.temp) (kit.number option)) (O.Construct 0) (from kit (Temp s.temp) (kit.number payload) ∷ []) ∷ tail.code option l;
  }

  abbrev pub some_piece : Sized → Sized → Piece → Piece
  some_piece option payload a = record {
    labels = a.labels;
    ended = λ tail s. a.ended (some_tail option payload tail s) s;
    notes = a.notes;
    ends = [];
  }

  abbrev pub none_piece : Sized → Piece
  none_piece option = record {
    labels = λ q. q;
    ended = λ tail s l. I.Apply (to kit (Temp s.temp) (kit.number option)) (O.Construct 1) (unit_source kit ∷ []) ∷ tail.code option l;
    notes = [];
    ends = [];
  }

  -- ---- calls: the value comes to the type of the side that is taken, the call takes its tick, and the run stops where there is `None`

  abbrev pub operand_moved : ℕ → Option Sized → Sized → List Instruction
  operand_moved n None t = []
  operand_moved n (Some u) t = retype kit n (kit.number u) (kit.number t)

  abbrev pub direction_call : TextPlace → Mapped → Stand → Instruction
  direction_call place m s = I.Call (record {
    slot = kit.name (Temp s.temp) (kit.number m.gives);
    function = m.function;
    arguments = from kit (Temp s.temp) (kit.number m.takes) ∷ [];
    on_throw = s.on_throw;
    place = place;
  })

  -- labels: 2 of its own, those of the operand, those of the cases
  abbrev pub applied_code : TextPlace → Mapped → List Case → List Indices → Piece → Tail → Coder
  applied_code place m cases gives a tail s l =
      code_of a s (l + 2) ++ (operand_moved s.temp (only_end a.ends) m.takes ++ I.Tick ∷ direction_call place m s
      ∷ I.Payload (kit.name (Temp s.temp) (kit.number m.payload)) (from kit (Temp s.temp) (kit.number m.gives)) 0 l
      ∷ I.Goto (l + 1) ∷ I.Label l ∷ I.Stop (MatchFailure place) ∷ I.Label (l + 1)
      ∷ made_code kit kit.number 1 (answer_make kit kit.number (kit.number m.payload)) cases gives tail s (l + 2 + count_of a))

  abbrev pub applied_piece : TextPlace → Mapped → List Case → List Indices → Piece → Piece
  applied_piece place m cases gives a = record {
    labels = λ q. 2 + count_of a + many q cases;
    ended = applied_code place m cases gives a;
    notes = a.notes ++ all_notes gives;
    ends = ends_of gives cases;
  }

-- an option of what a piece gives
abbrev pub optional_piece : Types → Kit → Sized → Sized → Piece → Piece
optional_piece types kit option payload a = else_piece types kit (some_piece kit option payload a) (none_piece kit option)

-- ---- the type that all of several pieces end with, where there is one whatever the numbers are

abbrev pub if_fixed : List Picked → Sized → Option Sized
if_fixed [] t = Some t
if_fixed (p ∷ ps) t = None

abbrev pub fixed_end : List End → Option Sized
fixed_end (e ∷ []) = if_fixed e.picked e.typ
fixed_end es = None

abbrev pub ends_with : Sized → Option Sized → Bool
ends_with t None = false
ends_with t (Some u) = sized_eq u t

abbrev pub all_end : Sized → List Piece → Bool
all_end t [] = true
all_end t (p ∷ ps) = ends_with t (fixed_end p.ends) && all_end t ps

abbrev pub ends_if : Option Sized → List Piece → List End
ends_if None ps = []
ends_if (Some t) ps = if all_end t ps then one_end t else []

abbrev pub common_ends : List Piece → List End
common_ends [] = []
common_ends (p ∷ ps) = ends_if (fixed_end p.ends) ps

-- clauses, whose bodies may all end with one type
abbrev pub with_ends : Piece → List Piece → Piece
with_ends p bodies = said (common_ends bodies) p
