-- Widths that are written as integers.
use Rattle.std.proofs.Common.{◌≡◌, ◌∙◌, ℕ, sym, ap, arith}
use Rattle.std.specs.Prelude.{ℤ, Option, Some, negsuc, pos, unsigned_abs, ◌≤ℤ◌}
use Rattle.std.proofs.lemmas.Int.{ints}
use Rattle.lowered_pieces.specs.Arms.{width_or}

-- one that isn't negative
pub width_known : (o : Option ℤ) (n : ℤ) (w : ℕ) → o ≡ Some n → pos 0 ≤ℤ n → w ≡ unsigned_abs n → w ≡ width_or o
width_known o (pos k) w is low e =
    let same : w ≡ k = omega (arith, ints) in
    same ∙ ap width_or (sym is)
width_known o (negsuc k) w is low e = absurd (omega (arith, ints))

-- and one that is
pub width_none : (o : Option ℤ) (n : ℤ) → o ≡ Some n → (pos 0 ≤ℤ n → ⊥) → 0 ≡ width_or o
width_none o (pos k) is past = absurd (past (omega (arith, ints)))
width_none o (negsuc k) is past = ap width_or (sym is)
