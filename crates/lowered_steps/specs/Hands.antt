-- What an arm has in hand, as the code that makes its code holds it.
use Rattle.std.specs.Prelude.{ℕ, pos, List, [], ◌∷◌, map, Option}
pub use Rattle.lowered_pieces.specs.Arms.{is_union, part_width, width_or, word_width}
use Rattle.sail_core.specs.Patterns.{solved}
use Rattle.size_values.specs.declared.sized.Sized.TheVariants as T
use Rattle.sail_types.specs.declared.table.Types.{Types}
use Rattle.jib.specs.declared.code.Instruction.{Instruction}
use Rattle.lowered_pieces.specs.Places.{Kit}
use Rattle.lowered_pieces.specs.Forms.{End, cases_ends, one_end}
use Rattle.size_values.specs.declared.constants.Picked.{Picked}
use Rattle.lowered_pieces.specs.Arms.{Choice, Hand, Held, Matched, arguments, cut_take, cut_takes, held_at, in_hand, takes_code, takes_held, vector_takes}
use Rattle.lowered_steps.specs.declared.hands.Held.{Held as HeldValue}
use Rattle.lowered_steps.specs.declared.hands.Hand.{Hand as HandSoFar}
use Rattle.lowered_steps.specs.declared.hands.Ends.{Ends}
use Rattle.lowered_steps.specs.declared.hands.Ends.TheVariants as E
use Rattle.lowered_steps.specs.declared.hands.Matched.{Matched as MatchedValue}
use Rattle.lowered_steps.specs.declared.hands.Matched.TheVariants as M
use Rattle.lowered_steps.specs.Stands.{named_of}

abbrev pub held_of : HeldValue → Held
held_of h = record { place = h.place; typ = h.typ }

abbrev pub hand_of : HandSoFar → Hand
hand_of h = record { values = map held_of h.values; names = map named_of h.names; named = map held_of h.named; free = h.free }

abbrev pub choice_of : List Picked → List Held → Choice
choice_of ps hs = record { picked = ps; values = hs }

abbrev pub begun_with : List Held → ℕ → Hand
begun_with hs q = record { values = hs; names = []; named = []; free = q }

-- the types that a value may have
abbrev pub types_of : Ends → List End
types_of E.Unsaid = []
types_of (E.Cases cases) = cases_ends cases.now
types_of (E.One typ) = one_end typ

abbrev pub matched_of : MatchedValue → Matched
matched_of (M.InHand ends) = in_hand (types_of ends.now)
matched_of (M.Arguments types) = arguments types.now

-- the items of a vector, one by one
module _ (types : Types) (kit : Kit) where
  abbrev pub items_code : Held → ℕ → ℕ → List Instruction
  items_code h k q = takes_code types kit (vector_takes types kit h k) q

  abbrev pub items_held : Held → ℕ → ℕ → List Held
  items_held h k q = takes_held types kit (vector_takes types kit h k) q

  -- the parts of a word
  abbrev pub cut_code : Held → ℕ → List ℕ → ℕ → List Instruction
  cut_code h m ns q = takes_code types kit (cut_takes types kit h m ns) q

  abbrev pub cut_held : Held → ℕ → List ℕ → ℕ → List Held
  cut_held h m ns q = takes_held types kit (cut_takes types kit h m ns) q

  abbrev pub slice_code : Held → ℕ → ℕ → ℕ → List Instruction
  slice_code h m n q = takes_code types kit (cut_take types kit h m n ∷ []) q

abbrev pub slice_held : ℕ → ℕ → Held
slice_held q n = held_at q (T.Bits (pos n))

abbrev pub solved_all : ℕ → List (Option ℕ) → List ℕ
solved_all rest ws = map (solved rest) ws
