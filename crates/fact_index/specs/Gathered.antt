-- Keys that are gathered from a goal.
use Rattle.std.specs.Prelude.{◌≡◌, ℕ, true, List, ◌++◌}
use Rattle.std.specs.BTreeSet.{contains}
use Rattle.std.specs.Ordering.{nat_cmp}
use Rattle.value_indices.specs.declared.notes.Fact.{Fact}
use Rattle.fact_index.specs.declared.gathering.Keys.{Keys}
use Rattle.fact_index.specs.Filed.{has, IsIn}
use Rattle.fact_index.specs.Keys.{keys_at}

-- what is seen is in the list
abbrev pub AreListed : Keys → Type 0
AreListed keys = (key : ℕ) → contains nat_cmp keys.seen key ≡ true → has keys.list key ≡ true

-- keys with more of them behind, among which are these
pub record Puts (old new : Keys) (more : List ℕ) : Type 0 where
  pub listed : AreListed old → AreListed new
  pub grown : (behind : List ℕ) × (new.list ≡ old.list ++ behind)
  pub put : AreListed old → (key : ℕ) → has more key ≡ true → has new.list key ≡ true

-- keys from which no fact leads to others: each fact in the list of one has none but these
pub record AreClosed (lists : List (List ℕ)) (facts : List Fact) (from keys : List ℕ) : Type 0 where
  pub begun : (key : ℕ) → has from key ≡ true → has keys key ≡ true
  pub closed : (key position : ℕ) → has keys key ≡ true → IsIn lists key position
      → (other : ℕ) → has (keys_at facts position) other ≡ true → has keys other ≡ true
