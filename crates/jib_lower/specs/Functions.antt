-- What is made of the instances of a model: of each the function that calls enter, and behind it the one that events enter.
use Rattle.std.specs.Prelude.{◌≡◌, ℕ, Bool, true, ◌&&◌, List, [], ◌∷◌, length, map, nat_lt}
use Rattle.sail_core.specs.declared.model.Function.{Function}
use Rattle.jib.specs.declared.code.Function.{Function as Made}
use Rattle.lowered_pieces.specs.declared.coding.Coding.{Coding}
use Rattle.lowered_pieces.specs.Functions.{all_in, measure_of}
use Rattle.lowered_pieces.specs.Places.{Naming}
use Rattle.lowered_steps.specs.declared.setting.Setting.{Setting}
use Rattle.lowered_steps.specs.Setting.{number_for}
use Rattle.lowered_ends.specs.Around.{node_for}
use Rattle.lowered_functions.specs.Walk.{Walk}
use Rattle.lowered_functions.specs.Made.{CodeMade, called_for, event_for}
use Rattle.lowered_typed.specs.declared.signs.Judge.{Judge}
use Rattle.lowered_typed.specs.Judging.{typed}
use Rattle.lowered_typed.specs.Here as here
use Rattle.jib_lower.specs.declared.functions.Head.{Head}

-- what code is made by that is judged by this
abbrev pub walk_by : Judge → Walk
walk_by judge = record { alloc = judge.alloc; setting = judge.setting; around = judge.around }

-- whether a function's trees are lowered here, its measure where it is in a cycle
abbrev pub measure_able : Walk → Naming → Function → Bool
measure_able walk name f = all_in (λ c. (node_for walk.setting.now walk.around.now name c).ok) (measure_of f.cycle f.measure)

abbrev pub able_for : Walk → Naming → Function → Bool
able_for walk name f = measure_able walk name f && (node_for walk.setting.now walk.around.now name f.body).ok

-- and whether their code has its types
abbrev pub measure_typed : Judge → Function → Bool
measure_typed judge f = all_in (λ c. (typed judge c).right) (measure_of f.cycle f.measure)

abbrev pub typed_for : Judge → Function → Bool
typed_for judge f = measure_typed judge f && here.result_right judge f.last (typed judge f.body)

-- numbers of types
abbrev pub are_types : ℕ → List ℕ → Bool
are_types n [] = true
are_types n (t ∷ ts) = nat_lt t n && are_types n ts

-- a function with this code, where the types of its slots and of its result have numbers
pub record FunctionMade (setting : Setting) (head : Head) (coding : Coding) (made : Made) : Type 0 where
  pub code : made.code ≡ coding.code
  pub slots : made.slots ≡ map (λ slot. slot.typ) coding.slots
  pub parameters : made.parameters ≡ map (number_for setting) head.given.now
  pub result : made.result ≡ head.result
  pub typs : are_types (length setting.numbered.now) made.slots ≡ true
  pub ends : nat_lt made.result (length setting.numbered.now) ≡ true
  pub cycle : made.cycle ≡ head.cycle
  pub lets : made.lets ≡ head.lets
  pub is_pure : made.is_pure ≡ head.is_pure

-- both functions of an instance, under what is around it: its trees are lowered here, their code has its types, and it is theirs
pub record InstanceMade (walk : Walk) (judge : Judge) (f : Function) (head : Head) (called event : Made) : Type 0 where
  pub able : (name : Naming) → able_for walk name f ≡ true
  pub typed : typed_for judge f ≡ true
  pub called_coding : Coding
  pub called_made : CodeMade walk called_coding head.given.now (λ name. called_for walk name f)
  pub called_is : FunctionMade walk.setting.now head called_coding called
  pub event_coding : Coding
  pub event_made : CodeMade walk event_coding head.given.now (λ name. event_for walk name f)
  pub event_is : FunctionMade walk.setting.now head event_coding event
