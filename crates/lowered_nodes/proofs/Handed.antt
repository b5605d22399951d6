-- Operands of builtins of the state: each of its only type.
use Rattle.std.proofs.Common.{◌≡◌, ◌∙◌, ℕ, ◌+◌, ◌≤◌, List, [], ◌∷◌, ◌++◌, length, refl, sym, ap, arith}
use Rattle.sail_core.specs.declared.tree.Core.{Core}
use Rattle.jib.specs.declared.code.Source.{Source}
use Rattle.jib.specs.declared.code.Source.TheVariants as R
use Rattle.sized_nodes.specs.declared.trees.Case.{Case}
use Rattle.lowered_pieces.specs.Forms.{End, cases_ends}
use Rattle.lowered_pieces.specs.Gathered.{only_end, operand_at}
use Rattle.lowered_pieces.specs.Places.{Naming, Temp}
use Rattle.lowered_steps.specs.declared.setting.Setting.{Setting}
use Rattle.lowered_steps.specs.Setting.{kit_for}
use Rattle.lowered_nodes.specs.declared.walk.Walk.{Walk}
use Rattle.lowered_nodes.specs.Walk.{only_number, operands_for, piece_at}

-- several types
pub none_only : (setting : Setting) (cs : List Case) → 2 ≤ length cs → setting.unit ≡ only_number setting (cases_ends cs)
none_only setting [] some = absurd (omega (arith, some))
none_only setting (c ∷ []) some = absurd (omega (arith, some))
none_only setting (c ∷ d ∷ cs) some = refl

module _ (walk : Walk) (name : Naming) where
  one_operand : (n : ℕ) (es : List End)
      → R.Slot (name (Temp n) (only_number walk.setting.now es)) ≡ operand_at (kit_for walk.setting.now name) n (only_end es)
  one_operand n [] = refl
  one_operand n (e ∷ []) = refl
  one_operand n (e ∷ f ∷ es) = refl

  pub operands_more : (n k m : ℕ) (x : Core) (xs cs : List Core) → k ≡ only_number walk.setting.now (piece_at walk name x).ends → m ≡ n + 1 → cs ≡ x ∷ xs
      → R.Slot (name (Temp n) k) ∷ operands_for walk name m xs ≡ operands_for walk name n cs
  operands_more n k m x xs cs typ next there =
      (λ i. R.Slot (name (Temp n) (typ i)) ∷ operands_for walk name (next i) xs)
      ∙ ap (λ (u : Source). u ∷ operands_for walk name (n + 1) xs) (one_operand n (piece_at walk name x).ends)
      ∙ ap (λ (ds : List Core). operands_for walk name n ds) (sym there)
