-- Code that is chosen by the numbers of opened variables: a test for each number, arm by arm.
use Rattle.std.specs.Prelude.{ℕ, ◌+◌, List, [], ◌∷◌, ◌++◌}
use Rattle.sail_types.specs.declared.rows.Row.TheVariants as B
use Rattle.size_values.specs.declared.constants.Picked.{Picked}
use Rattle.jib.specs.declared.code.Literal.TheVariants as L
use Rattle.jib.specs.declared.code.Source.TheVariants as R
use Rattle.jib.specs.declared.code.Operation.TheVariants as O
use Rattle.jib.specs.declared.code.Instruction.{Instruction}
use Rattle.jib.specs.declared.code.Instruction.TheVariants as I
use Rattle.lowered_pieces.specs.Places.{Number, Temp, Kit, from, to}

-- the tests of an arm, with p for what they find, which lead to a label where a number is another one
abbrev pub tests : Kit → ℕ → ℕ → List Picked → List Instruction
tests kit p l [] = []
tests kit p l (x ∷ xs) =
    I.Apply (to kit (Temp p) kit.truth) (O.Builtin B.Neq)
    (from kit (Number x.variable (kit.depth x.variable)) kit.integer ∷ R.Constant kit.integer (L.Integer x.number) ∷ [])
    ∷ I.JumpIf (from kit (Temp p) kit.truth) l ∷ tests kit p l xs

-- arms with q labels each, from label l on; each goes on at label e, and the last needs no test
abbrev pub chain : {A : Type 0} → (A → List Picked) → Kit → ℕ → ℕ → ℕ → (A → ℕ → List Instruction) → ℕ → List A → List Instruction
chain picks kit p e q arm l [] = []
chain picks kit p e q arm l (u ∷ []) = arm u l
chain picks kit p e q arm l (u ∷ v ∷ us) =
    tests kit p l (picks u) ++ (arm u (l + 1) ++ I.Goto e ∷ I.Label l ∷ chain picks kit p e q arm (l + 1 + q) (v ∷ us))

-- one case needs neither tests nor labels of its own
abbrev pub by_case : {A : Type 0} → (A → List Picked) → Kit → ℕ → ℕ → (A → ℕ → List Instruction) → ℕ → List A → List Instruction
by_case picks kit p q arm l [] = []
by_case picks kit p q arm l (u ∷ []) = arm u l
by_case picks kit p q arm l (u ∷ v ∷ us) = chain picks kit p l q arm (l + 1) (u ∷ v ∷ us) ++ I.Label l ∷ []

-- how many labels it has
abbrev pub chain_labels : {A : Type 0} → ℕ → List A → ℕ
chain_labels q [] = 0
chain_labels q (u ∷ []) = q
chain_labels q (u ∷ v ∷ us) = 1 + q + chain_labels q (v ∷ us)

abbrev pub many : {A : Type 0} → ℕ → List A → ℕ
many q [] = 0
many q (u ∷ []) = q
many q (u ∷ v ∷ us) = 1 + chain_labels q (u ∷ v ∷ us)
