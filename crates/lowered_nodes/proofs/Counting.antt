-- As many pieces as nodes.
use Rattle.std.proofs.Common.{◌≡◌, ◌∙◌, ℕ, suc, List, [], ◌∷◌, length, map, refl, sym, ap}
use Rattle.sail_core.specs.declared.tree.Core.{Core}
use Rattle.lowered_pieces.specs.Places.{Naming}
use Rattle.lowered_nodes.specs.declared.walk.Walk.{Walk}
use Rattle.lowered_nodes.specs.Walk.{pieces_for}

pub many_pieces : (walk : Walk) (name : Naming) (cs : List Core) → length cs ≡ length (pieces_for walk name cs)
many_pieces walk name [] = refl
many_pieces walk name (c ∷ cs) = ap (λ n. suc n) (many_pieces walk name cs)
