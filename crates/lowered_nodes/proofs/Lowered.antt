-- What is lowered of lists of nodes.
use Rattle.std.proofs.Common.{◌≡◌, ◌∙◌, true, List, ◌∷◌, sym, ap}
use Rattle.std.proofs.lemmas.Bool.{and_parts}
use Rattle.sail_core.specs.declared.tree.Core.{Core}
use Rattle.lowered_pieces.specs.Places.{Naming}
use Rattle.lowered_nodes.specs.declared.walk.Walk.{Walk}
use Rattle.lowered_nodes.specs.Walk.{all_lowered_for, node_ok}

module _ (walk : Walk) (name : Naming) (cs : List Core) (x : Core) (ys : List Core) (is : cs ≡ x ∷ ys) (h : all_lowered_for walk name cs ≡ true) where
  pub first_lowered : node_ok walk name x ≡ true
  first_lowered = (and_parts (node_ok walk name x) (all_lowered_for walk name ys) (ap (λ (us : List Core). all_lowered_for walk name us) (sym is) ∙ h)).0

  pub rest_lowered : all_lowered_for walk name ys ≡ true
  rest_lowered = (and_parts (node_ok walk name x) (all_lowered_for walk name ys) (ap (λ (us : List Core). all_lowered_for walk name us) (sym is) ∙ h)).1
