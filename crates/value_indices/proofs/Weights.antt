-- How deep readings are, through types and what their Type variables stand for.
use Rattle.std.proofs.Common.{◌≡◌, ◌∙◌, ap, sym, ℕ, zero, suc, ◌+◌, ◌*◌, ◌≤◌, max, List, [], ◌∷◌, map, slice_get, Some, arith}
use Rattle.sail_types.specs.declared.numbers.Index.{Index}
use Rattle.sail_types.specs.declared.types.Typ.{Typ}
use Rattle.sail_types.proofs.types.Typ.TheLaws.{the_size}
use Rattle.value_indices.specs.declared.indices.Indices.TheFolds.{fold-Reading, fold-roll-Reading}
use Rattle.value_indices.specs.declared.indices.Indices.TheOpen as W
use Rattle.value_indices.specs.declared.indices.Indices.TheOpen.{Indices-F, Reading-F}
use Rattle.value_indices.specs.declared.indices.Reading.{Reading}
use Rattle.value_indices.specs.declared.indices.Reading.TheVariants as R

greatest : List ℕ → ℕ
greatest [] = 0
greatest (x ∷ xs) = max x (greatest xs)

indices_weight : Indices-F ℕ ℕ → ℕ
indices_weight x = 0

reading_weight : Reading-F ℕ ℕ → ℕ
reading_weight (W.Of t is rs) = 2 * the_size t + greatest rs + 2
reading_weight (W.Widened i) = 0
reading_weight (W.Parts rs) = greatest rs + 2
reading_weight W.Hole = 0

pub weight : Reading → ℕ
weight = fold-Reading ℕ ℕ indices_weight reading_weight

pub heaviest : List Reading → ℕ
heaviest rs = greatest (map weight rs)

pub weight_of : (t : Typ) (is : List Index) (rs : List Reading) → weight (R.Of t is rs) ≡ 2 * the_size t + heaviest rs + 2
unfolding weight heaviest reading_weight
weight_of t is rs = ap weight (sym (R.rolls-Of t is rs)) ∙ fold-roll-Reading ℕ ℕ indices_weight reading_weight (W.Of t is rs)

pub weight_parts : (rs : List Reading) → weight (R.Parts rs) ≡ heaviest rs + 2
unfolding weight heaviest reading_weight
weight_parts rs = ap weight (sym (R.rolls-Parts rs)) ∙ fold-roll-Reading ℕ ℕ indices_weight reading_weight (W.Parts rs)

-- none is deeper than the deepest
pub heaviest_at : (rs : List Reading) (i : ℕ) (r : Reading) → slice_get rs i ≡ Some r → weight r ≤ heaviest rs
unfolding heaviest greatest
heaviest_at [] i r e = absurd (cc)
heaviest_at (x ∷ xs) zero r e = let same : x ≡ r = cc in let w : weight x ≡ weight r = ap weight same in omega arith
heaviest_at (x ∷ xs) (suc i) r e = let h = heaviest_at xs i r e in omega arith

pub ruleset weights = (weight_of, weight_parts, heaviest_at)
