-- Bodies of directions in which nothing returns, one behind another; and calls of the mappings of directions that have numbers.
use Rattle.std.proofs.Common.{◌≡◌, ◌∙◌, ℕ, zero, suc, ◌+◌, ◌≤◌, Bool, true, false, List, [], ◌∷◌, Option, Some, None, refl, sym, ap, subst, arith}
use Rattle.std.specs.Prelude.{◌&&◌, ◌/◌, if◌then◌else◌, nat_le, nat_lt, slice_get}
use Rattle.std.proofs.lemmas.Bool.Decides.{nat_tests}
use Rattle.sail_core.specs.declared.model.CoreModel.{CoreModel}
use Rattle.sail_core.specs.declared.model.Direction.{Direction}
use Rattle.sized_nodes.specs.declared.trees.Lead.{Lead}
use Rattle.sized_nodes.specs.declared.trees.NodeSizes.{NodeSizes}
use Rattle.sized_nodes.specs.declared.trees.NodeSizes.TheVariants as N
use Rattle.sized_nodes.specs.declared.trees.SizedCore.{SizedCore}
use Rattle.sized_nodes.specs.declared.trees.SizedInstance.{SizedInstance}
use Rattle.lowered_laws.specs.Returning.{returns_nothing}
use Rattle.jib_lower.specs.Crossings.{AllStay, calls_of, higher, highest_at, highest_in, highest_lead, highest_of, is_in, leads_from, turned_as}
use Rattle.jib_lower.specs.Crossings.{turned_by, turned_from, turns_of, wanted_by, way_falls, ways_fall}
use Rattle.jib_lower.specs.Cycles.{cycle_at, leads_fall, mapping_falls, nodes_fall}
use Rattle.jib_lower.proofs.Basics.{both, some_same}
use Rattle.jib_lower.proofs.Falling.{true_le}

none_is : {A X : Type 0} (x : A) → None ≡ Some x → X
none_is x e = cc

pub none_stay : (ms : List Direction) → ms ≡ [] → AllStay ms
none_stay ms is d m e = none_is m (ap (λ ns. slice_get ns d) (sym is) ∙ e)

pub stay_more : (x : Direction) (ms : List Direction) → returns_nothing x.body ≡ true → AllStay ms → AllStay (x ∷ ms)
stay_more x ms h rest zero m e = subst (λ (y : Direction). returns_nothing y.body ≡ true) (some_same x m e) h
stay_more x ms h rest (suc d) m e = rest d m e

pub stay_less : (x : Direction) (ms all : List Direction) → all ≡ x ∷ ms → (a b : Bool) → a ≡ returns_nothing x.body
    → (b ≡ false → AllStay ms → ⊥) → (a && b) ≡ false → AllStay all → ⊥
stay_less x ms all is true b one more fails stay = more fails (λ d m e. stay (suc d) m (ap (λ ns. slice_get ns (suc d)) is ∙ e))
stay_less x ms all is false b one more fails stay = apart (one ∙ stay zero x (ap (λ ns. slice_get ns zero) is))
  where
    apart : false ≡ true → ⊥
    apart e = cc

-- ---- the highest number is no lower than any

choose : (b : Bool) (m n : ℕ) → nat_lt m n ≡ b → (m ≤ (if b then n else m)) × (n ≤ (if b then n else m))
choose true m n h = (grind (arith, nat_tests), omega arith)
choose false m n h = (omega arith, grind (arith, nat_tests))

left_le : (m n : ℕ) → m ≤ higher m n
left_le m n = (choose (nat_lt m n) m n refl).0

right_le : (m n : ℕ) → n ≤ higher m n
right_le m n = (choose (nat_lt m n) m n refl).1

le_then : (a b c : ℕ) → a ≤ b → b ≤ c → a ≤ c
le_then a b c h k = omega (arith, h, k)

module _ (ns : List ℕ) (xs : List SizedInstance) where
  leads_low : (own : ℕ) (ls : List Lead) → highest_lead ns xs ls ≤ own → leads_fall ns xs own ls ≡ true
  leads_low own [] le = refl
  leads_low own (l ∷ ls) le =
      let m : ℕ = cycle_at ns xs l.instance in
      let n : ℕ = highest_lead ns xs ls in
      both (nat_le m own) (leads_fall ns xs own ls) (true_le m own (le_then m (higher m n) own (left_le m n) le))
      (leads_low own ls (le_then n (higher m n) own (right_le m n) le))

  nodes_low : (own : ℕ) (nodes : List NodeSizes) → highest_in ns xs nodes ≤ own → nodes_fall ns xs own nodes ≡ true
  nodes_low own [] le = refl
  nodes_low own (N.Calls k ls ∷ nodes) le =
      let m : ℕ = highest_lead ns xs ls in
      let n : ℕ = highest_in ns xs nodes in
      both (leads_fall ns xs own ls) (nodes_fall ns xs own nodes) (leads_low own ls (le_then m (higher m n) own (left_le m n) le))
      (nodes_low own nodes (le_then n (higher m n) own (right_le m n) le))
  nodes_low own (N.Makes k i cs ∷ nodes) le = nodes_low own nodes le
  nodes_low own (N.Gives k i ∷ nodes) le = nodes_low own nodes le

  mapping_low : (own : ℕ) (o : Option (List NodeSizes)) → highest_at ns xs o ≤ own → mapping_falls ns xs own o ≡ true
  mapping_low own None le = refl
  mapping_low own (Some nodes) le = nodes_low own nodes le

  module _ (ms : List (List NodeSizes)) (calls : List (List ℕ)) (wanted : List ℕ) where
    turned_falls : (d : ℕ) (ds : List ℕ) → way_falls ns xs (slice_get ms (d / 2)) (turned_as ns xs ms calls wanted d ds) ≡ true
    turned_falls d ds = by (is_in d wanted)
      where
        own : ℕ
        own = highest_of ns xs ms (d ∷ leads_from calls ds)

        by : (b : Bool) → way_falls ns xs (slice_get ms (d / 2)) (if b then Some own else None) ≡ true
        by false = refl
        by true =
            mapping_low own (slice_get ms (d / 2))
            (left_le (highest_at ns xs (slice_get ms (d / 2))) (highest_of ns xs ms (leads_from calls ds)))

    all_fall : (d : ℕ) (lists : List (List ℕ)) → ways_fall ns xs ms d (turned_from ns xs ms calls wanted d lists) ≡ true
    all_fall d [] = refl
    all_fall d (ds ∷ rest) =
        both (way_falls ns xs (slice_get ms (d / 2)) (turned_as ns xs ms calls wanted d ds))
        (ways_fall ns xs ms (d + 1) (turned_from ns xs ms calls wanted (d + 1) rest)) (turned_falls d ds) (all_fall (d + 1) rest)

-- the calls of the mapping of each direction that has a number lead to instances with this one or a lower one
pub turned_low : (core : CoreModel) (sized : SizedCore) (numbers : List ℕ) → ways_fall numbers sized.instances sized.mappings 0 (turned_by core sized numbers) ≡ true
turned_low core sized numbers =
    all_fall numbers sized.instances sized.mappings (calls_of core.directions) (wanted_by (turns_of core) sized.instances []) 0 (calls_of core.directions)
