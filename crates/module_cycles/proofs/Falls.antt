-- The number of the cycle of a direction of a mapping is none that the calls of its mapping go above.
use Rattle.std.proofs.Common.{◌≡◌, ℕ, zero, suc, ◌+◌, ◌≤◌, ◌<◌, Bool, true, false, List, [], ◌∷◌, Option, Some, None, refl, subst, arith}
use Rattle.std.specs.Prelude.{◌&&◌, ◌/◌, nat_le, nat_lt, slice_get, if◌then◌else◌}
use Rattle.std.proofs.lemmas.Bool.Decides.{nat_tests}
use Rattle.sail_core.specs.declared.model.CoreModel.{CoreModel}
use Rattle.sized_nodes.specs.declared.trees.Lead.{Lead}
use Rattle.sized_nodes.specs.declared.trees.NodeSizes.{NodeSizes}
use Rattle.sized_nodes.specs.declared.trees.NodeSizes.TheVariants as N
use Rattle.sized_nodes.specs.declared.trees.SizedCore.{SizedCore}
use Rattle.sized_nodes.specs.declared.trees.SizedInstance.{SizedInstance}
use Rattle.jib_lower.specs.Crossings.{calls_of, higher, highest_at, highest_in, highest_lead, highest_of, is_in, leads_from, turned_as, turned_by, turned_from}
use Rattle.jib_lower.specs.Crossings.{turns_of, wanted_by}
use Rattle.jib_lower.specs.Cycles.{cycle_at, leads_fall, mapping_falls, nodes_fall}

none_is : {A X : Type 0} (x : A) → None ≡ Some x → X
none_is x e = cc

some_same : {A : Type 0} (x y : A) → Some x ≡ Some y → x ≡ y
some_same x y e = cc

both : (a b : Bool) → a ≡ true → b ≡ true → (a && b) ≡ true
both true b h k = k
both false b h k = h

le_is : (a b : ℕ) → a ≤ b → nat_le a b ≡ true
le_is a b h = grind (arith, nat_tests)

lt_true : (a b : ℕ) → nat_lt a b ≡ true → a < b
lt_true a b h = grind (arith, nat_tests)

lt_false : (a b : ℕ) → nat_lt a b ≡ false → b ≤ a
lt_false a b h = grind (arith, nat_tests)

-- what is no lower than the higher one of two is no lower than each
below_both : (a b n : ℕ) → higher a b ≤ n → (a ≤ n) × (b ≤ n)
below_both a b n h = by (nat_lt a b) refl h
  where
    first : a < b → b ≤ n → a ≤ n
    first l k = omega (arith, l, k)

    second : b ≤ a → a ≤ n → b ≤ n
    second l k = omega (arith, l, k)

    by : (c : Bool) → nat_lt a b ≡ c → (if c then b else a) ≤ n → (a ≤ n) × (b ≤ n)
    by true e k = (first (lt_true a b e) k, k)
    by false e k = (k, second (lt_false a b e) k)

no_lower : (a b : ℕ) → a ≤ higher a b
no_lower a b = (below_both a b (higher a b) (self (higher a b))).0
  where
    self : (n : ℕ) → n ≤ n
    self n = omega arith

module _ (numbers : List ℕ) (xs : List SizedInstance) (own : ℕ) where
  leads_so : (ls : List Lead) → highest_lead numbers xs ls ≤ own → leads_fall numbers xs own ls ≡ true
  leads_so [] h = refl
  leads_so (l ∷ ls) h =
      let q = below_both (cycle_at numbers xs l.instance) (highest_lead numbers xs ls) own h in
      both (nat_le (cycle_at numbers xs l.instance) own) (leads_fall numbers xs own ls) (le_is (cycle_at numbers xs l.instance) own q.0) (leads_so ls q.1)

  nodes_so : (nodes : List NodeSizes) → highest_in numbers xs nodes ≤ own → nodes_fall numbers xs own nodes ≡ true
  nodes_so [] h = refl
  nodes_so (N.Calls k ls ∷ nodes) h =
      let q = below_both (highest_lead numbers xs ls) (highest_in numbers xs nodes) own h in
      both (leads_fall numbers xs own ls) (nodes_fall numbers xs own nodes) (leads_so ls q.0) (nodes_so nodes q.1)
  nodes_so (N.Makes k i cs ∷ nodes) h = nodes_so nodes h
  nodes_so (N.Gives g is ∷ nodes) h = nodes_so nodes h

  mapping_so : (nodes : Option (List NodeSizes)) → highest_at numbers xs nodes ≤ own → mapping_falls numbers xs own nodes ≡ true
  mapping_so None h = refl
  mapping_so (Some nodes) h = nodes_so nodes h

module _ (numbers : List ℕ) (xs : List SizedInstance) (mappings : List (List NodeSizes)) (calls : List (List ℕ)) (wanted : List ℕ) where
  abbrev Falls : ℕ → ℕ → Type 0
  Falls d c = mapping_falls numbers xs c (slice_get mappings (d / 2)) ≡ true

  one_falls : (d : ℕ) (ds : List ℕ) (c : ℕ) → turned_as numbers xs mappings calls wanted d ds ≡ Some c → Falls d c
  one_falls d ds c e = by (is_in d wanted) e
    where
      by : (b : Bool) → (if b then Some (highest_of numbers xs mappings (d ∷ leads_from calls ds)) else None) ≡ Some c → Falls d c
      by true f =
          let highest : ℕ = highest_of numbers xs mappings (d ∷ leads_from calls ds) in
          subst (Falls d) (some_same highest c f)
          (mapping_so numbers xs highest (slice_get mappings (d / 2))
          (no_lower (highest_at numbers xs (slice_get mappings (d / 2))) (highest_of numbers xs mappings (leads_from calls ds))))
      by false f = none_is c f

  each_falls : (first : ℕ) (lists : List (List ℕ)) (d c : ℕ) → slice_get (turned_from numbers xs mappings calls wanted first lists) d ≡ Some (Some c)
      → Falls (first + d) c
  each_falls first [] d c e = none_is (Some c) e
  each_falls first (ds ∷ rest) zero c e =
      subst (λ k. Falls k c) (none_more first)
      (one_falls first ds c (some_same (turned_as numbers xs mappings calls wanted first ds) (Some c) e))
    where
      none_more : (n : ℕ) → n ≡ n + 0
      none_more n = omega arith
  each_falls first (ds ∷ rest) (suc d) c e = subst (λ k. Falls k c) (one_more first d) (each_falls (first + 1) rest d c e)
    where
      one_more : (n k : ℕ) → n + 1 + k ≡ n + suc k
      one_more n k = omega arith

-- so of the directions of a model
pub turned_falls : (core : CoreModel) (sized : SizedCore) (numbers : List ℕ) (d c : ℕ) → slice_get (turned_by core sized numbers) d ≡ Some (Some c)
    → mapping_falls numbers sized.instances c (slice_get sized.mappings (d / 2)) ≡ true
turned_falls core sized numbers d c e =
    subst (λ k. mapping_falls numbers sized.instances c (slice_get sized.mappings (k / 2)) ≡ true) (from_first d)
    (each_falls numbers sized.instances sized.mappings (calls_of core.directions) (wanted_by (turns_of core) sized.instances []) 0 (calls_of core.directions)
    d c e)
  where
    from_first : (k : ℕ) → 0 + k ≡ k
    from_first k = omega arith
