-- Calls through directions of mappings, one after another.
use Rattle.std.proofs.Common.{◌≡◌, ◌∙◌, ℕ, ◌≤◌, Bool, true, false, List, [], ◌∷◌, Option, Some, None, refl, sym, ap, subst, arith}
use Rattle.std.specs.Prelude.{◌&&◌, ◌/◌, slice_get, slice_index_or}
use Rattle.sized_nodes.specs.declared.trees.NodeSizes.{NodeSizes}
use Rattle.sized_nodes.specs.declared.trees.SizedInstance.{SizedInstance}
use Rattle.jib_lower.specs.Cycles.{Joined, directions_fall, mapping_falls, nodes_fall, turn_falls, turns_fall}
use Rattle.jib_lower.proofs.Falling.{and_joined, joined_same}

pub same_few : (m n : ℕ) → m ≡ n → n ≤ m
same_few m n e = omega (arith, e)

module _ (xs : List SizedInstance) (ms : List (List NodeSizes)) (caller : ℕ) where
  abbrev own : List ℕ → ℕ
  own ns = slice_index_or ns caller 0

  pub mapping_there : (o : Option (List NodeSizes)) (nodes given : List NodeSizes) (a b : List (List ℕ)) → o ≡ Some nodes → given ≡ nodes
      → Joined (λ ns. nodes_fall ns xs (own ns) given ≡ true) a b → Joined (λ ns. mapping_falls ns xs (own ns) o ≡ true) a b
  mapping_there o nodes given a b found same x =
      subst (λ p. Joined (λ ns. mapping_falls ns xs (own ns) p ≡ true) a b) (sym found)
      (subst (λ ys. Joined (λ ns. nodes_fall ns xs (own ns) ys ≡ true) a b) same x)

  pub mapping_nowhere : (o : Option (List NodeSizes)) (g : List (List ℕ)) → o ≡ None → Joined (λ ns. mapping_falls ns xs (own ns) o ≡ true) g g
  mapping_nowhere o g none = joined_same (λ ns. mapping_falls ns xs (own ns) o ≡ true) g (λ ns. ap (mapping_falls ns xs (own ns)) none)

  pub no_directions : (g : List (List ℕ)) (all : List ℕ) → all ≡ [] → Joined (λ ns. directions_fall ns xs ms (own ns) all ≡ true) g g
  no_directions g all is = joined_same (λ ns. directions_fall ns xs ms (own ns) all ≡ true) g (λ ns. ap (directions_fall ns xs ms (own ns)) is)

  pub directions_more : (d : ℕ) (ds all : List ℕ) (a b c : List (List ℕ)) → all ≡ d ∷ ds
      → Joined (λ ns. mapping_falls ns xs (own ns) (slice_get ms (d / 2)) ≡ true) a b → Joined (λ ns. directions_fall ns xs ms (own ns) ds ≡ true) b c
      → Joined (λ ns. directions_fall ns xs ms (own ns) all ≡ true) a c
  directions_more d ds all a b c is x y =
      subst (λ ys. Joined (λ ns. directions_fall ns xs ms (own ns) ys ≡ true) a c) (sym is)
      (and_joined (λ ns. mapping_falls ns xs (own ns) (slice_get ms (d / 2))) (λ ns. directions_fall ns xs ms (own ns) ds) a b c x y)

  pub turn_there : (o : Option (List ℕ)) (ds given : List ℕ) (a b : List (List ℕ)) → o ≡ Some ds → given ≡ ds
      → Joined (λ ns. directions_fall ns xs ms (own ns) given ≡ true) a b → Joined (λ ns. turn_falls ns xs ms (own ns) o ≡ true) a b
  turn_there o ds given a b found same x =
      subst (λ p. Joined (λ ns. turn_falls ns xs ms (own ns) p ≡ true) a b) (sym found)
      (subst (λ ys. Joined (λ ns. directions_fall ns xs ms (own ns) ys ≡ true) a b) same x)

  pub turn_nowhere : (o : Option (List ℕ)) (g : List (List ℕ)) → o ≡ None → Joined (λ ns. turn_falls ns xs ms (own ns) o ≡ true) g g
  turn_nowhere o g none = joined_same (λ ns. turn_falls ns xs ms (own ns) o ≡ true) g (λ ns. ap (turn_falls ns xs ms (own ns)) none)

module _ (xs : List SizedInstance) (ms : List (List NodeSizes)) (turns : List (List ℕ)) where
  pub no_turns : (g : List (List ℕ)) (all : List SizedInstance) → all ≡ [] → Joined (λ ns. turns_fall ns xs ms turns all ≡ true) g g
  no_turns g all is = joined_same (λ ns. turns_fall ns xs ms turns all ≡ true) g (λ ns. ap (turns_fall ns xs ms turns) is)

  pub turns_more : (x : SizedInstance) (rest all : List SizedInstance) (a b c : List (List ℕ)) → all ≡ x ∷ rest
      → Joined (λ ns. turn_falls ns xs ms (slice_index_or ns x.instance.function 0) (slice_get turns x.instance.function) ≡ true) a b
      → Joined (λ ns. turns_fall ns xs ms turns rest ≡ true) b c → Joined (λ ns. turns_fall ns xs ms turns all ≡ true) a c
  turns_more x rest all a b c is h k =
      subst (λ ys. Joined (λ ns. turns_fall ns xs ms turns ys ≡ true) a c) (sym is)
      (and_joined (λ ns. turn_falls ns xs ms (slice_index_or ns x.instance.function 0) (slice_get turns x.instance.function))
      (λ ns. turns_fall ns xs ms turns rest) a b c h k)
