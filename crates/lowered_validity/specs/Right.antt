-- Code that keeps the rules of a valid module, wherever it stands in a function: where its slots are there, its instructions have their types, and each
-- goes to labels that are set further on, or directly before a tick.
use Rattle.std.specs.Prelude.{◌≡◌, ◌⊎◌, ℕ, ◌<◌, ◌≤◌, nat_eq, nat_lt, Bool, true, ◌||◌, List, [], ◌∷◌, length, Option, Some, None, slice_get}
use Rattle.sail_types.specs.declared.table.Types.{Types}
use Rattle.size_values.specs.declared.sized.Sized.{Sized}
use Rattle.jib.specs.declared.types.ValueType.{ValueType}
use Rattle.jib.specs.declared.code.Instruction.{Instruction}
use Rattle.jib.specs.declared.code.Instruction.TheVariants as I
use Rattle.jib.specs.declared.code.Function.{Function}
use Rattle.jib.specs.declared.code.Module.{Module}
use Rattle.jib.specs.Typing.{let_typ}
use Rattle.jib.specs.Valid.{aim, is_pure_instruction, is_tick, typed}
use Rattle.jib.specs.laws.Ways.{In, uses}
use Rattle.lowered_types.specs.Table.{TypesStand}
use Rattle.lowered_pieces.specs.Places.{Place, Naming}
use Rattle.lowered_pieces.specs.Forms.{Callees, Piece, Stand, Tail}
use Rattle.lowered_pieces.specs.Lowering.{kit_of}
use Rattle.lowered_laws.specs.CodeLaws.{sets}
use Rattle.lowered_laws.specs.Standing.{Types as Basic}

-- ---- labels

-- labels that code may go to, besides those that it sets further on
abbrev pub Labels : Type 0
Labels = ℕ → Bool

abbrev pub Goes : Labels → List Instruction → Option ℕ → Type 0
Goes out c None = Unit {0}
Goes out c (Some l) = (1 ≤ sets l c) ⊎ (out l ≡ true)

-- what stands behind a label with a tick may go back to it
abbrev pub seen : Instruction → List Instruction → Labels → Labels
seen (I.Label l) (I.Tick ∷ c) out = λ k. nat_eq k l || out k
seen i c out = out

-- ---- instructions of a function of a module

-- there are more slots than the number of each that is used
abbrev pub Used : ℕ → Instruction → Type 0
Used many i = (k : ℕ) → In k (uses i) → k < many

module _ (m : Module) (f : Function) (n : ℕ) where
  abbrev pub Fits : Instruction → Type 0
  Fits i = Used (length f.slots) i → (typed m f n i ≡ true) × (f.is_pure ≡ true → is_pure_instruction m i ≡ true)

  abbrev pub Right : Labels → List Instruction → Type 0
  Right out [] = Unit {0}
  Right out (i ∷ c) = Fits i × (Goes out c (aim i) × Right (seen i c out) c)

  -- the code of a tail, for each of these types
  abbrev pub RightTail : Labels → Tail → List Sized → Type 0
  RightTail out tail [] = Unit {0}
  RightTail out tail (t ∷ ts) = ((l : ℕ) → Right out (tail.code t l)) × RightTail out tail ts

  -- the code of a piece whose value may have these types
  abbrev pub RightPiece : Piece → List Sized → Type 0
  RightPiece p ts = (out : Labels) (tail : Tail) (s : Stand) (l : ℕ) → out s.on_throw ≡ true → out s.on_no ≡ true → RightTail out tail ts
      → Right out (p.ended tail s l)

-- ---- what is around the code of a function

-- the types of the module's table and of exceptions, of registers, of the openings that the function may read, and of its result; whether it is pure;
-- the parameters of what is called, by the places of instances, where a call of it may stand in this function; and the directions of mappings that may be asked
pub record Signs : Type 0 where
  pub table : List ValueType
  pub exception : ℕ
  pub registers : List ℕ
  pub lets : List ℕ
  pub result : ℕ
  pub is_pure : Bool
  pub parameters : ℕ → Option (List ℕ)
  pub directions : ℕ → Bool

-- what a call enters from the n-th function: of the same cycle or a lower one, and with a tick or of a lower number
pub record Entered (m : Module) (f : Function) (n function result : ℕ) (parameters : List ℕ) : Type 0 where
  pub called : Function
  pub there : slice_get m.functions function ≡ Some called
  pub takes : called.parameters ≡ parameters
  pub gives : called.result ≡ result
  pub cycle : called.cycle ≤ f.cycle
  pub lets : called.lets ≤ f.lets
  pub ticks : (is_tick (slice_get called.code 0) || nat_lt function n) ≡ true

-- the n-th function of a module, with this numbering of its slots and of the types of the table
pub record Placed (types : Types) (ss : List Sized) (number : Sized → ℕ) (callees : Callees) (m : Module) (f : Function) (n : ℕ) (name : Naming)
    (g : Signs) : Type 0 where
  pub named : (p : Place) (t : ℕ) → name p t < length f.slots → slice_get f.slots (name p t) ≡ Some t
  pub table : m.types ≡ g.table
  pub stands : TypesStand types ss g.table
  pub basic : Basic g.table (kit_of types name number g.exception callees.size callees.direction)
  pub exception : m.exception ≡ g.exception
  pub registers : m.registers ≡ g.registers
  pub lets : (k t : ℕ) → slice_get g.lets k ≡ Some t → let_typ m f k ≡ Some t
  pub result : f.result ≡ g.result
  pub is_pure : f.is_pure ≡ g.is_pure
  pub entered : (p : ℕ) (ts : List ℕ) → g.parameters p ≡ Some ts → Entered m f n (callees.function p) (number (callees.answer p)) ts
  pub directed : (d : ℕ) → g.directions d ≡ true
      → Entered m f n (callees.direction d).function (number (callees.direction d).gives) (number (callees.direction d).takes ∷ [])
