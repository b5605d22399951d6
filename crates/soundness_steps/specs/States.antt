-- What holds at every moment of a run: of the machine's registers, and of the names in scope.
use Rattle.std.specs.Prelude.{◌≡◌, ℕ, pos, true, List, [], ◌∷◌, slice_get, Option, Some, None}
use Rattle.sail_types.specs.Belongs.{Reading as Closed, reading, no_readings, belongs}
use Rattle.sail_types.specs.Numbers.{Assignment, Positive}
use Rattle.sail_types.specs.declared.table.Types.{Types}
use Rattle.sail_types.specs.declared.types.Typ.TheVariants as T
use Rattle.sail_types.specs.declared.values.Value.{Value}
use Rattle.model_state.specs.declared.state.Hart.{Hart}
use Rattle.model_state.specs.declared.state.Register.{Register}
use Rattle.model_state.specs.RunState.{RunState}
use Rattle.sail_core.specs.Run.{Local, Now}
use Rattle.checked_meaning.specs.Items.{Item}
use Rattle.value_laws.specs.Belonging.{standing, plain}
use Rattle.soundness_steps.specs.Works.{Setting, Kept, is_value, is_var, Scene}

-- a type that names no variable, whatever variables stand for
abbrev pub nothing_stands : Positive → Assignment
nothing_stands past = standing past (λ i. pos 0)

-- ---- registers belong to their types, which name no variable

abbrev pub AreRegisters : Setting → List Register → List Value → Type 0
AreRegisters set [] [] = Unit {0}
AreRegisters set (r ∷ rs) (v ∷ vs) = (belongs set.around.types v (reading r.typ (nothing_stands set.past) no_readings) ≡ true) × AreRegisters set rs vs
AreRegisters set rs vs = ⊥

abbrev pub AllHarts : Setting → List Hart → Type 0
AllHarts set [] = Unit {0}
AllHarts set (h ∷ hs) = AreRegisters set set.around.registers h.registers × AllHarts set hs

abbrev pub registers_of : Option Hart → List Value
registers_of None = []
registers_of (Some h) = h.registers

-- those of each hart, and those of the one at work; where a model has no register, there need be no hart
pub record StateBelongs (set : Setting) (state : RunState) : Type 0 where
  pub harts : AllHarts set state.harts
  pub at_work : AreRegisters set set.around.registers (registers_of (slice_get state.harts set.hart))

-- ---- names in scope

abbrev pub Keeps : Types → Kept → Local Item → Type 0
Keeps types (is_value name x) l = (l.name ≡ name) × (l.held ≡ x)
Keeps types (is_var name t) l = (l.name ≡ name) × (belongs types l.held.val t ≡ true)

abbrev pub AllKept : Types → List Kept → List (Local Item) → Type 0
AllKept types [] [] = Unit {0}
AllKept types (k ∷ ks) (l ∷ ls) = Keeps types k l × AllKept types ks ls
AllKept types ks ls = ⊥

-- a moment of a piece
pub record Sound (q : Scene) (now : Now Item) : Type 0 where
  pub state : StateBelongs q.set now.state
  pub names : AllKept q.set.around.types q.names now.locals

-- ---- what leaves a piece otherwise than by its end: what is thrown is of the model's exception, what is returned of the result's type

abbrev pub IsThrown : Setting → Option ℕ → Value → Type 0
IsThrown set None v = ⊥
IsThrown set (Some u) v = belongs set.around.types v (plain (nothing_stands set.past) (T.Named u [] []) []) ≡ true

abbrev pub IsAnswer : Types → Option Closed → Value → Type 0
IsAnswer types None v = ⊥
IsAnswer types (Some t) v = belongs types v t ≡ true
