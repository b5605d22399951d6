-- Whether something is noted of a value: of a part that is taken out of a tuple it has to be known before.
use Rattle.std.specs.Prelude.{ℕ, Bool, false, ◌||◌, List, [], ◌∷◌, map, is_some, if◌then◌else◌}
use Rattle.value_indices.specs.declared.indices.Indices.{Indices, fold-Indices}
use Rattle.value_indices.specs.declared.indices.Indices.TheOpen as W
use Rattle.value_indices.specs.declared.indices.Indices.TheOpen.{Indices-F, Reading-F}
use Rattle.call_arguments.specs.Placing.{variable_in}
use Rattle.size_values.specs.declared.sized.Sized.{Sized, Sized-F, out-Sized}
use Rattle.size_values.specs.declared.sized.Sized.TheOpen as Z
use Rattle.jib.specs.declared.code.Source.{Source}
use Rattle.jib.specs.declared.code.Operation.TheVariants as O
use Rattle.jib.specs.declared.code.Instruction.{Instruction}
use Rattle.jib.specs.declared.code.Instruction.TheVariants as I
use Rattle.lowered_pieces.specs.Places.{Kit, Temp, to}
use Rattle.lowered_pieces.specs.Forms.{noter_of, parts_noted}

abbrev pub IsNoting : Type 0
IsNoting = Sized → Bool

abbrev pub any_noting : List IsNoting → List Sized → Bool
any_noting (f ∷ fs) (s ∷ ss) = f s || any_noting fs ss
any_noting fs ss = false

abbrev pub form_noting : Indices-F IsNoting IsNoting → Sized-F Sized → Bool
form_noting (W.Integer t) Z.Int = is_some (variable_in t)
form_noting (W.Bits t) (Z.Bits n) = is_some (variable_in t)
form_noting (W.Vector t f) (Z.Vector n s) = is_some (variable_in t)
form_noting (W.Tuple fs) (Z.Tuple ss) = any_noting fs ss
form_noting i s = false

abbrev pub is_noting : Indices → IsNoting
is_noting = fold-Indices IsNoting IsNoting (λ i s. form_noting i (out-Sized s)) (λ (r : Reading-F IsNoting IsNoting) s. false)

abbrev pub is_any_noting : List Indices → List Sized → Bool
is_any_noting (i ∷ is) (s ∷ ss) = is_noting i s || is_any_noting is ss
is_any_noting is ss = false

module _ (kit : Kit) (number : Sized → ℕ) where
  abbrev pub part_taken : Sized → ℕ → Source → ℕ → Instruction
  part_taken s j a p = I.Apply (to kit (Temp p) (number s)) (O.Field j) (a ∷ [])

  abbrev pub taken_where : Bool → Sized → ℕ → Source → ℕ → List Instruction
  taken_where b s j a p = if b then part_taken s j a p ∷ [] else []

  -- what is noted of the parts of a tuple
  abbrev pub each_noted : List Indices → List Sized → Source → ℕ → List Instruction
  each_noted is ss a p = parts_noted kit number (map (noter_of kit number) is) ss 0 a p
