-- What is known where no number more is taken.
use Rattle.std.proofs.Common.{◌≡◌, ◌≤◌, ℕ, List, ap, drop, length}
use Rattle.std.proofs.lemmas.List.{drop_all}
use Rattle.size_values.specs.declared.constants.Picked.{Picked}
use Rattle.size_values.specs.Numbers.{Known, with_picked}

pub end_of_picks : (k : Known) (ps : List Picked) (i v : ℕ) → length ps ≤ i → with_picked k (drop i ps) v ≡ k v
end_of_picks k ps i v h = ap (λ (rest : List Picked). with_picked k rest v) (drop_all i ps h)
