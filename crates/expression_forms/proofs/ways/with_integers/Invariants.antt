use Rattle.std.proofs.Common.{◌≡◌, ◌++◌, ◌∷◌, drop, map}
use Rattle.value_indices.specs.declared.indices.Indices.TheVariants as I
use Rattle.expression_forms.proofs.ways.with_integers.Given as goal

abbrev pub invariant-loop-number : goal.invariant-loop-number
invariant-loop-number l =
    l.made ++ map (λ n. I.Integer n) (drop l.number-index l.numbers) ≡ l.value ∷ map (λ n. I.Integer n) l.numbers
