-- Facts of which some are left out.
use Rattle.std.specs.Prelude.{◌≡◌, ◌+◌, ◌≤◌, ℕ, Bool, true, List, ◌++◌, length, Some, slice_get}
use Rattle.std.specs.List.{list_any, list_all}
use Rattle.sail_types.specs.declared.numbers.Atom.{Atom}
use Rattle.sail_types.specs.declared.numbers.Con.{Con}
use Rattle.linear.specs.Choices.{variables_in}
use Rattle.value_indices.specs.Steps.{conditions}
use Rattle.value_indices.specs.declared.notes.Fact.{Fact}
use Rattle.value_indices.specs.declared.notes.Fact.TheVariants as Y
use Rattle.obligations.specs.Connected.{spread, sharing}
use Rattle.fact_index.specs.Filed.{has}

-- from variables of a kind, as many facts give the same variables, all of that kind, and the same of them share one
pub record IsAsGood (is_kind : Atom → Bool) (all some : List Con) : Type 0 where
  pub spread_alike : (atoms : List Atom) → list_all is_kind atoms ≡ true → spread all atoms ≡ spread some atoms
  pub spread_kind : (atoms : List Atom) → list_all is_kind atoms ≡ true → list_all is_kind (spread all atoms) ≡ true
  pub share_alike : (atoms : List Atom) → list_all is_kind atoms ≡ true → sharing atoms all ≡ sharing atoms some
  pub shorter : length some ≤ length all

-- a fact has variables of a kind alone, or none
abbrev pub IsWhole : (Atom → Bool) → Con → Type 0
IsWhole is_kind c = list_any is_kind (variables_in c) ≡ true → list_all is_kind (variables_in c) ≡ true

-- each fact has variables of a kind alone or none, and the positions of those that have some are there, where the first has this position
pub record HasAll (is_kind : Atom → Bool) (facts : List Fact) (first : ℕ) (positions : List ℕ) : Type 0 where
  pub whole : (place : ℕ) (c : Con) → slice_get facts place ≡ Some (Y.Holds c) → IsWhole is_kind c
  pub all : (place : ℕ) (c : Con) → slice_get facts place ≡ Some (Y.Holds c) → list_any is_kind (variables_in c) ≡ true
      → has positions (first + place) ≡ true

-- conditions with more behind them, which are as good as those among facts
pub record IsPart (is_kind : Atom → Bool) (facts : List Fact) (old new : List Con) : Type 0 where
  pub more : List Con
  pub put : new ≡ old ++ more
  pub good : IsAsGood is_kind (conditions facts) more

-- so for each kind of variables
abbrev pub IsPicked : List Con → List Fact → ℕ → List ℕ → List Con → Type 0
IsPicked old facts first positions new = (is_kind : Atom → Bool) → HasAll is_kind facts first positions → IsPart is_kind facts old new
