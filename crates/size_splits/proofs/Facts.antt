-- The conditions among facts.
use Rattle.std.proofs.Common.{◌≡◌, List, [], ◌∷◌, ◌++◌, ap, refl}
use Rattle.value_indices.specs.declared.notes.Fact.{Fact}
use Rattle.value_indices.specs.declared.notes.Fact.TheVariants as Y
use Rattle.value_indices.specs.Steps.{conditions}

pub conditions_append : (xs ys : List Fact) → conditions (xs ++ ys) ≡ conditions xs ++ conditions ys
conditions_append [] ys = refl
conditions_append (Y.Holds c ∷ xs) ys = ap (λ l. c ∷ l) (conditions_append xs ys)
conditions_append (Y.IsGiven v ∷ xs) ys = conditions_append xs ys
