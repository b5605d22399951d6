-- A value that goes from one slot to another, where the types may differ.
use Rattle.std.specs.Prelude.{ℕ, ◌+◌, nat_eq, cond, List, [], ◌∷◌, ◌++◌}
use Rattle.size_values.specs.declared.sized.Sized.{Sized}
use Rattle.jib.specs.declared.code.Source.{Source}
use Rattle.jib.specs.declared.code.Operation.TheVariants as O
use Rattle.jib.specs.declared.code.Instruction.{Instruction}
use Rattle.jib.specs.declared.code.Instruction.TheVariants as I
use Rattle.lowered_pieces.specs.Places.{Place, Temp, Kit, from, to}

-- to a place at type u, from another at type t
abbrev pub move : Kit → Place → ℕ → Place → ℕ → Instruction
move kit p u q t = cond (nat_eq t u) (I.Copy (to kit p u) (from kit q t)) (I.Apply (to kit p u) O.Same (from kit q t ∷ []))

-- a value in hand gets another type
abbrev pub retype : Kit → ℕ → ℕ → ℕ → List Instruction
retype kit n t u = cond (nat_eq t u) [] (I.Apply (to kit (Temp n) u) O.Same (from kit (Temp n) t ∷ []) ∷ [])

-- a value in hand goes to a place at another type as well
abbrev pub kept_as : Kit → Place → ℕ → ℕ → ℕ → List Instruction
kept_as kit p u n t = cond (nat_eq t u) [] (I.Apply (to kit p u) O.Same (from kit (Temp n) t ∷ []) ∷ [])

abbrev pub kept_all : Kit → Place → ℕ → ℕ → List Sized → List Instruction
kept_all kit p n t [] = []
kept_all kit p n t (u ∷ us) = kept_as kit p (kit.number u) n t ++ kept_all kit p n t us

-- a value in hand of this type goes to the place of a variable: at its type, and at those at which the variable is read
abbrev pub kept_code : Kit → Place → ℕ → List Sized → Sized → List Instruction
kept_code kit p n us t = I.Copy (to kit p (kit.number t)) (from kit (Temp n) (kit.number t)) ∷ kept_all kit p n (kit.number t) us

-- values in hand from n on, of these types
abbrev pub sources : Kit → ℕ → List ℕ → List Source
sources kit n [] = []
sources kit n (t ∷ ts) = from kit (Temp n) t ∷ sources kit (n + 1) ts
