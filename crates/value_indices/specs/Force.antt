-- What is in force as the code keeps it: each list that is remembered is a beginning of the one in force, and only its length is kept.
use Rattle.std.specs.Prelude.{◌≡◌, ◌≤◌, ℕ, List, [], ◌∷◌, length, take, reverse}
use Rattle.value_indices.specs.declared.notes.Fact.{Fact}
use Rattle.value_indices.specs.Walking.{Written}

-- beginnings of these lengths, the newest first, each of the one before
abbrev pub beginnings : List Fact → List ℕ → List (List Fact)
beginnings facts [] = []
beginnings facts (m ∷ ms) = take m facts ∷ beginnings (take m facts) ms

abbrev pub AreWithin : List Fact → List ℕ → Type 0
AreWithin facts [] = Unit {0}
AreWithin facts (m ∷ ms) = (m ≤ length facts) × AreWithin (take m facts) ms

-- these facts are in force there, and beginnings of these lengths are remembered, the newest last
pub record IsInForce (w : Written) (facts : List Fact) (marks : List ℕ) : Type 0 where
  pub in_force : w.facts ≡ facts
  pub remembered : w.remembered ≡ beginnings facts (reverse marks)
  pub within : AreWithin facts (reverse marks)
