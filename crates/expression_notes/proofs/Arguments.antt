-- Parts of which so many are taken.
use Rattle.std.proofs.Common.{◌≡◌, ◌∙◌, ap, sym, ℕ, List, take}
use Rattle.std.proofs.lemmas.List.{take-map}
use Rattle.sail_core.specs.declared.tree.Core.{Core}
use Rattle.expression_steps.specs.Coded.{each_part}
use Rattle.expression_steps.specs.Expressions.{part}

pub parts_taken : (cs : List Core) (n : ℕ) (taken : List Core) → taken ≡ take n cs → take n (each_part cs) ≡ each_part taken
parts_taken cs n taken is = take-map part n cs ∙ ap each_part (sym is)
