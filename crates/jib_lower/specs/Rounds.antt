-- How an order of directions is found: in rounds, each of which places those whose asked ones are all placed, until one places none.
use Rattle.std.specs.Prelude.{ℕ, zero, suc, nat_eq, Bool, List, [], ◌∷◌, ◌++◌, length, if◌then◌else◌, slice_get}
use Rattle.jib_lower.specs.Crossings.{list_at}
use Rattle.jib_lower.specs.Order.{all_among}

module _ (calls : List (List ℕ)) where
  -- all that a direction asks are placed
  abbrev pub is_ready : List ℕ → ℕ → Bool
  is_ready placed d = all_among (list_at (slice_get calls d)) placed

  -- then it comes behind these, and else behind those that are left
  abbrev pub with_placed : List ℕ → ℕ → List ℕ
  with_placed placed d = if is_ready placed d then placed ++ d ∷ [] else placed

  abbrev pub with_left : List ℕ → List ℕ → ℕ → List ℕ
  with_left placed left d = if is_ready placed d then left else left ++ d ∷ []

  -- one round over these directions
  abbrev pub all_placed : List ℕ → List ℕ → List ℕ
  all_placed placed [] = placed
  all_placed placed (d ∷ ds) = all_placed (with_placed placed d) ds

  abbrev pub all_left : List ℕ → List ℕ → List ℕ → List ℕ
  all_left placed left [] = left
  all_left placed left (d ∷ ds) = all_left (with_placed placed d) (with_left placed left d) ds

  -- rounds, in at most so many steps; those that are left then stand last
  abbrev pub in_rounds : ℕ → List ℕ → List ℕ → List ℕ
  in_rounds zero placed left = placed ++ left
  in_rounds (suc n) placed left =
      if nat_eq (length (all_left placed [] left)) (length left) then all_placed placed left ++ all_left placed [] left
      else in_rounds n (all_placed placed left) (all_left placed [] left)
