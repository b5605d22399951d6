-- Lists of positions, one for each key: the position of each fact stands in the list of each of its keys. More may stand there.
use Rattle.std.specs.Prelude.{◌≡◌, ◌<◌, ℕ, nat_eq, Bool, true, List, [], slice_index_or}
use Rattle.std.specs.List.{list_any}
use Rattle.value_indices.specs.declared.notes.Fact.{Fact}
use Rattle.fact_index.specs.Keys.{keys_at}

abbrev pub has : List ℕ → ℕ → Bool
has numbers n = list_any (nat_eq n) numbers

-- the list of a key has a position
abbrev pub IsIn : List (List ℕ) → ℕ → ℕ → Type 0
IsIn lists key position = has (slice_index_or lists key []) position ≡ true

-- those of several keys have it
abbrev pub AreIn : List (List ℕ) → List ℕ → ℕ → Type 0
AreIn lists keys position = (key : ℕ) → has keys key ≡ true → IsIn lists key position

-- no position is lost; none below a mark
abbrev pub Keeps : List (List ℕ) → List (List ℕ) → Type 0
Keeps old new = (key position : ℕ) → IsIn old key position → IsIn new key position

abbrev pub KeepsBelow : ℕ → List (List ℕ) → List (List ℕ) → Type 0
KeepsBelow mark old new = (key position : ℕ) → position < mark → IsIn old key position → IsIn new key position

-- facts are filed; so many of the first are
abbrev pub IsFiled : List Fact → List (List ℕ) → Type 0
IsFiled facts lists = (position : ℕ) → AreIn lists (keys_at facts position) position

abbrev pub IsFiledBelow : ℕ → List Fact → List (List ℕ) → Type 0
IsFiledBelow mark facts lists = (position : ℕ) → position < mark → AreIn lists (keys_at facts position) position
