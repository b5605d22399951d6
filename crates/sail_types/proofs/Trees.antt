-- Trees whose parts are equal are equal.
use Rattle.std.proofs.Common.{◌≡◌, ◌∙◌, sym}
use Rattle.sail_types.specs.declared.numbers.Num.{Num, out-Num, roll-Num}
use Rattle.sail_types.specs.declared.numbers.Atom.TheViews.{roll-out-Num}

pub same_parts : (a b : Num) → (out-Num a).terms ≡ (out-Num b).terms → (out-Num a).constant ≡ (out-Num b).constant → a ≡ b
same_parts a b h k = sym (roll-out-Num a) ∙ (λ i. roll-Num (record { terms = h i; constant = k i })) ∙ roll-out-Num b
