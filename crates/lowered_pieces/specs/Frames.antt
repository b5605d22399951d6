-- Code that is chosen by noted numbers, as it is put arm by arm: the label behind all, then each arm with the label of the next.
use Rattle.std.specs.Prelude.{ℕ, zero, suc, List, [], ◌∷◌}
use Rattle.size_values.specs.declared.constants.Picked.{Picked}
use Rattle.jib.specs.declared.code.Instruction.{Instruction}
use Rattle.jib.specs.declared.code.Instruction.TheVariants as I
use Rattle.lowered_pieces.specs.declared.coding.Coding.{Coding}
use Rattle.lowered_pieces.specs.Chains.{tests}
use Rattle.lowered_pieces.specs.Emitted.{Emits, no_labels}
use Rattle.lowered_pieces.specs.Places.{Kit, Naming}

-- one arm alone needs no label behind it
abbrev pub end_labels : ℕ → ℕ
end_labels zero = 0
end_labels (suc zero) = 0
end_labels (suc (suc n)) = 1

abbrev pub end_code : ℕ → ℕ → List Instruction
end_code zero end = []
end_code (suc zero) end = []
end_code (suc (suc n)) end = I.Label end ∷ []

module _ {A : Type 0} (picks : A → List Picked) (kit : Naming → Kit) (p : ℕ) (q : Naming → ℕ) (arm : Naming → A → ℕ → List Instruction) (end : ℕ) where
  -- each arm but the last behind its tests, and then on to the end
  abbrev pub ArmsPut : List A → Coding → Coding → Type 0
  ArmsPut [] old new = Emits old new (λ name l. []) no_labels
  ArmsPut (u ∷ []) old new = Emits old new (λ name. arm name u) q
  ArmsPut (u ∷ v ∷ us) old new =
      (a : Coding) × (b : Coding) × (c : Coding) × Emits old a (λ name l. tests (kit name) p l (picks u)) (λ name. 1) × Emits a b (λ name. arm name u) q
      × Emits b c (λ name l. I.Goto end ∷ I.Label old.labels ∷ []) no_labels × ArmsPut (v ∷ us) c new
