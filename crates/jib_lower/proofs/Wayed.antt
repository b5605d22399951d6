-- Types of mappings keep their numbers as a table grows, one direction behind another.
use Rattle.std.proofs.Common.{◌≡◌, ◌∙◌, ℕ, ◌+◌, Bool, true, List, [], ◌∷◌, Option, Some, None, refl, sym, ap, subst}
use Rattle.std.specs.Prelude.{◌&&◌, ◌++◌, ◌/◌, slice_get}
use Rattle.sail_types.specs.declared.table.Types.{Types}
use Rattle.sail_core.specs.declared.model.Direction.{Direction}
use Rattle.size_values.specs.declared.sized.Sized.{Sized}
use Rattle.sized_nodes.specs.declared.trees.NodeSizes.{NodeSizes}
use Rattle.lowered_pieces.specs.Emitted.{Begins}
use Rattle.jib_lower.specs.Types.{all_in_nodes, all_in_ways, in_mapping, types_in_way, types_in_ways}
use Rattle.jib_lower.proofs.Basics.{both}
use Rattle.jib_lower.proofs.Kept.{nodes_stay}

mapping_stays : (ss us : List Sized) → Begins ss us → (o : Option (List NodeSizes)) → in_mapping ss o ≡ true → in_mapping us o ≡ true
mapping_stays ss us more None h = refl
mapping_stays ss us more (Some nodes) h = nodes_stay ss us more nodes h

module _ (ms : List (List NodeSizes)) (d next : ℕ) (m : Direction) (directions all : List Direction) (is : all ≡ m ∷ directions) (e : next ≡ d + 1) where
  pub ways_next : (us ws : List Sized) (cycle : ℕ) (ts told : List (Option ℕ)) → Begins us ws → told ≡ Some cycle ∷ ts
      → in_mapping us (slice_get ms (d / 2)) ≡ true → all_in_ways ws ms next directions ts ≡ true → all_in_ways ws ms d all told ≡ true
  ways_next us ws cycle ts told more t here h =
      ap (λ xs. all_in_ways ws ms d xs told) is ∙ ap (all_in_ways ws ms d (m ∷ directions)) t
      ∙ both (in_mapping ws (slice_get ms (d / 2))) (all_in_ways ws ms (d + 1) directions ts) (mapping_stays us ws more (slice_get ms (d / 2)) here)
      (ap (λ n. all_in_ways ws ms n directions ts) (sym e) ∙ h)

  pub ways_past : (ws : List Sized) (ts told : List (Option ℕ)) → told ≡ None ∷ ts → all_in_ways ws ms next directions ts ≡ true
      → all_in_ways ws ms d all told ≡ true
  ways_past ws ts told t h =
      ap (λ xs. all_in_ways ws ms d xs told) is ∙ ap (all_in_ways ws ms d (m ∷ directions)) t ∙ ap (λ n. all_in_ways ws ms n directions ts) (sym e) ∙ h

  module _ (types : Types) where
    pub types_next : (cycle : ℕ) (ts told : List (Option ℕ)) → told ≡ Some cycle ∷ ts
        → types_in_ways types ms d all told ≡ types_in_way types ms (d / 2) m ++ types_in_ways types ms next directions ts
    types_next cycle ts told t =
        ap (λ xs. types_in_ways types ms d xs told) is ∙ ap (types_in_ways types ms d (m ∷ directions)) t
        ∙ ap (λ n. types_in_way types ms (d / 2) m ++ types_in_ways types ms n directions ts) (sym e)

    pub types_past : (ts told : List (Option ℕ)) → told ≡ None ∷ ts → types_in_ways types ms d all told ≡ types_in_ways types ms next directions ts
    types_past ts told t =
        ap (λ xs. types_in_ways types ms d xs told) is ∙ ap (types_in_ways types ms d (m ∷ directions)) t
        ∙ ap (λ n. types_in_ways types ms n directions ts) (sym e)

-- where one of both lists has no more
pub no_ways_in : (ss : List Sized) (ms : List (List NodeSizes)) (d : ℕ) (all : List Direction) (told : List (Option ℕ)) → all ≡ []
    → all_in_ways ss ms d all told ≡ true
no_ways_in ss ms d all told is = ap (λ xs. all_in_ways ss ms d xs told) is

pub none_told_in : (ss : List Sized) (ms : List (List NodeSizes)) (d : ℕ) (all : List Direction) (told : List (Option ℕ)) → told ≡ []
    → all_in_ways ss ms d all told ≡ true
none_told_in ss ms d all told t = ap (all_in_ways ss ms d all) t ∙ by all
  where
    by : (xs : List Direction) → all_in_ways ss ms d xs [] ≡ true
    by [] = refl
    by (x ∷ xs) = refl

pub no_types : (types : Types) (ms : List (List NodeSizes)) (d : ℕ) (all : List Direction) (told : List (Option ℕ)) → all ≡ []
    → types_in_ways types ms d all told ≡ []
no_types types ms d all told is = ap (λ xs. types_in_ways types ms d xs told) is

pub none_told_types : (types : Types) (ms : List (List NodeSizes)) (d : ℕ) (all : List Direction) (told : List (Option ℕ)) → told ≡ []
    → types_in_ways types ms d all told ≡ []
none_told_types types ms d all told t = ap (types_in_ways types ms d all) t ∙ by all
  where
    by : (xs : List Direction) → types_in_ways types ms d xs [] ≡ []
    by [] = refl
    by (x ∷ xs) = refl
