-- What a lowered assignment's parts are.
use Rattle.std.proofs.Common.{◌≡◌, ◌≤◌, ℕ, ◌+◌, nat_eq, Some, true, arith}
use Rattle.std.proofs.lemmas.Bool.{and_parts, false≢true}
use Rattle.std.specs.Prelude.{Option, None}
use Rattle.sail_types.specs.declared.table.Types.{Types}
use Rattle.lowered_pieces.specs.Tables.{Tables, leads_to}
use Rattle.lowered_pieces.specs.Writes.{Spot, called, cell_lowered, one, several, several_lowered, spot_lowered, takes_all, takes_in}

same_count : (n k : ℕ) → nat_eq n k ≡ true → n ≡ k
same_count n k h = grind (arith, h)

module _ (types : Types) (tables : Tables) where
  -- at least the new value
  pub spot_some : (spot : Option Spot) (n : ℕ) → spot_lowered types tables spot n ≡ true → 1 ≤ n
  spot_some None n h = absurd (false≢true h)
  spot_some (Some (one c)) n h =
      let e = same_count n (takes_in c.suffixes + 1) (and_parts (nat_eq n (takes_in c.suffixes + 1)) (cell_lowered types tables c) h).0 in omega (arith, e)
  spot_some (Some (several cs)) n h =
      let e = same_count n (takes_all cs + 1) (and_parts (nat_eq n (takes_all cs + 1)) (several_lowered types tables cs) h).0 in omega (arith, e)
  spot_some (Some (called k place m j f)) n h =
      let e = same_count n (m + 1) (and_parts (nat_eq n (m + 1)) (leads_to tables.of f (tables.leads j)) h).0 in omega (arith, e)
