-- The nodes of bodies that are read together.
use Rattle.std.proofs.Common.{◌≡◌, ◌∙◌, ap, refl, sym, ℤ, Option, List, [], ◌∷◌, ◌++◌, map, append-nil, append_assoc}
use Rattle.value_indices.specs.Steps.{Note}
use Rattle.size_values.specs.declared.sized.Sized.{Sized}
use Rattle.size_splits.specs.Bodies.{Body}
use Rattle.sized_nodes.specs.declared.trees.Instance.{Instance}
use Rattle.monomorph.specs.Lasts.{Model}
use Rattle.sized_nodes.specs.declared.trees.NodeSizes.{NodeSizes}
use Rattle.sized_trees.specs.Bodies.{at_note, at_notes, sized_body}
use Rattle.sized_meanings.specs.Sized.{joined_nodes}
use Rattle.node_counts.specs.Told.{all_noted, note_in}
use Rattle.covering_laws.specs.Tested.{all_nodes, inside}

module _ (m : Model) (list : List Instance) (zs : List (Option ℤ)) (own : List Sized) where
  front_nodes : (b : Body) (ns : List Note) (bs : List Body)
      → at_notes (inside m.core.types m.sizing zs own b) list ns ++ all_nodes m.core.types m.sizing zs own list (all_noted bs)
      ≡ all_nodes m.core.types m.sizing zs own list (map (note_in b) ns ++ all_noted bs)
  front_nodes b [] bs = refl
  front_nodes b (n ∷ ns) bs =
      let r = inside m.core.types m.sizing zs own b in
      append_assoc (at_note r list n) (at_notes r list ns) (all_nodes m.core.types m.sizing zs own list (all_noted bs))
      ∙ ap (λ (l : List NodeSizes). at_note r list n ++ l) (front_nodes b ns bs)

  pub nodes_joined : (bs : List Body) → joined_nodes (map (sized_body m list zs own) bs) ≡ all_nodes m.core.types m.sizing zs own list (all_noted bs)
  nodes_joined [] = refl
  nodes_joined (b ∷ bs) =
      ap (λ (l : List NodeSizes). at_notes (inside m.core.types m.sizing zs own b) list b.notes ++ l) (nodes_joined bs) ∙ front_nodes b b.notes bs

  -- of a body by itself
  pub alone_there : (b : Body) → sized_body m list zs own b ≡ all_nodes m.core.types m.sizing zs own list (all_noted (b ∷ []))
  alone_there b = sym (append-nil (sized_body m list zs own b)) ∙ nodes_joined (b ∷ [])
