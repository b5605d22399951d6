-- Numbers that no edge raises, as edges come to a graph; and those of its components.
use Rattle.std.proofs.Common.{◌≡◌, ◌≢◌, ◌∙◌, ℕ, zero, suc, ◌+◌, ◌<◌, ◌≤◌, ◌⊎◌, inl, inr, Bool, true, false, not, List, [], ◌∷◌, ◌++◌, length, Option, Some, None}
use Rattle.std.proofs.Common.{refl, sym, ap, subst, arith, Contains, get_or, if◌then◌else◌}
use Rattle.std.specs.Prelude.{nat_eq, nat_le, nat_lt, ◌&&◌, slice_get, slice_index_or, slice_set}
use Rattle.std.proofs.lemmas.Bool.Decides.{eqb_tells, nat_tests}
use Rattle.std.proofs.lemmas.List.{get_or-set_other, get_or-set_same, length-set}
use Rattle.std.proofs.lemmas.List.Elements.{Contains-append_left, Contains-push, Contains-push_cases}
use Rattle.call_graph.specs.declared.found.Cycles.{Cycles}
use Rattle.call_graph.specs.Components.{component_of, node_count}
use Rattle.call_graph.specs.Graphs.{AreConnected, HasEdge, Reaches, by_edge, by_edge_and, successors}
use Rattle.sail_core.specs.declared.model.Function.{Function}
use Rattle.sized_nodes.specs.declared.trees.Lead.{Lead}
use Rattle.sized_nodes.specs.declared.trees.NodeSizes.{NodeSizes}
use Rattle.sized_nodes.specs.declared.trees.NodeSizes.TheVariants as N
use Rattle.sized_nodes.specs.declared.trees.SizedInstance.{SizedInstance}
use Rattle.jib_lower.specs.Cycles.{AllEven, CyclesFit, Even, EvenBehind, Falls, FitIfAny, GraphOf, Joined, NumbersOf, alike, in_one, pair_fits}
use Rattle.jib_lower.specs.Cycles.{bodies_fall, cycle_at, instances_fall, leads_fall, nodes_fall, number_there, turns_fall}
use Rattle.jib_lower.proofs.Basics.{and_left, and_right, both, some_same}

pub le_true : (a b : ℕ) → nat_le a b ≡ true → a ≤ b
le_true a b h = grind (arith, nat_tests)

pub true_le : (a b : ℕ) → a ≤ b → nat_le a b ≡ true
true_le a b h = grind (arith, nat_tests)

pub lt_true : (a b : ℕ) → nat_lt a b ≡ true → a < b
lt_true a b h = grind (arith, nat_tests)

-- ---- numbers past their list

pub past_zero : (ns : List ℕ) (i : ℕ) → length ns ≤ i → slice_index_or ns i 0 ≡ 0
past_zero [] i few = refl
past_zero (n ∷ ns) zero few = absurd (omega (arith, few))
past_zero (n ∷ ns) (suc i) few = past_zero ns i (omega (arith, few))

-- ---- edges one after another

pub joined_same : (P : List ℕ → Type 0) (g : List (List ℕ)) → ((ns : List ℕ) → P ns) → Joined P g g
joined_same P g p = record { many = refl; falls = λ ns few f h. f; fell = λ ns few f. (f, p ns) }

pub joined_then : (P Q R : List ℕ → Type 0) (a b c : List (List ℕ)) → Joined P a b → Joined Q b c → ((ns : List ℕ) → P ns → Q ns → R ns)
    → ((ns : List ℕ) → R ns → P ns × Q ns) → Joined R a c
joined_then P Q R a b c x y join part = record {
  many = y.many ∙ x.many;
  falls = λ ns few f r. y.falls ns (there ns few) (x.falls ns few f (part ns r).0) (part ns r).1;
  fell = λ ns few f.
      let back = y.fell ns (there ns few) f in
      let front = x.fell ns few back.0 in
      (front.0, join ns front.1 back.1);
}
  where
    there : (ns : List ℕ) → length ns ≤ length a → length ns ≤ length b
    there ns few = subst (λ n. length ns ≤ n) (sym x.many) few

pub joined_as : (P Q : List ℕ → Type 0) (a b : List (List ℕ)) → Joined P a b → ((ns : List ℕ) → P ns → Q ns) → ((ns : List ℕ) → Q ns → P ns) → Joined Q a b
joined_as P Q a b x to from = record {
  many = x.many;
  falls = λ ns few f q. x.falls ns few f (from ns q);
  fell = λ ns few f. let h = x.fell ns few f in (h.0, to ns h.1);
}

-- ---- one edge

module _ (g : List (List ℕ)) (from to : ℕ) (there : from < length g) where
  abbrev put : List (List ℕ)
  put = slice_set g from (successors g from ++ to ∷ [])

  at_from : successors put from ≡ successors g from ++ to ∷ []
  at_from = get_or-set_same g from (successors g from ++ to ∷ []) [] there

  elsewhere : (u : ℕ) → from ≢ u → successors put u ≡ successors g u
  elsewhere u other = get_or-set_other g from u (successors g from ++ to ∷ []) [] (λ same. other (sym same))

  edge_stays : (u v : ℕ) → HasEdge g u v → HasEdge put u v
  edge_stays u v e = by (eqb_tells from u)
    where
      by : ((nat_eq from u ≡ true) × (from ≡ u)) ⊎ ((nat_eq from u ≡ false) × (from ≢ u)) → HasEdge put u v
      by (inl own) =
          subst (λ w. HasEdge put w v) own.1 (subst (λ ns. Contains ns v) (sym at_from)
          (Contains-append_left (successors g from) (to ∷ []) v (subst (λ w. HasEdge g w v) (sym own.1) e)))
      by (inr other) = subst (λ ns. Contains ns v) (sym (elsewhere u other.1)) e

  edge_there : HasEdge put from to
  edge_there = subst (λ ns. Contains ns to) (sym at_from) (Contains-push (successors g from) to)

  edge_was : (u v : ℕ) → HasEdge put u v → HasEdge g u v ⊎ ((from ≡ u) × (to ≡ v))
  edge_was u v e = by (eqb_tells from u)
    where
      last : from ≡ u → Contains (successors g from) v ⊎ (to ≡ v) → HasEdge g u v ⊎ ((from ≡ u) × (to ≡ v))
      last own (inl old) = inl (subst (λ w. HasEdge g w v) own old)
      last own (inr new) = inr (own, new)

      by : ((nat_eq from u ≡ true) × (from ≡ u)) ⊎ ((nat_eq from u ≡ false) × (from ≢ u)) → HasEdge g u v ⊎ ((from ≡ u) × (to ≡ v))
      by (inl own) =
          last own.1 (Contains-push_cases (successors g from) to v (subst (λ ns. Contains ns v) at_from (subst (λ w. HasEdge put w v) (sym own.1) e)))
      by (inr other) = inl (subst (λ ns. Contains ns v) (elsewhere u other.1) e)

  pub edge_joined : (new : List (List ℕ)) → new ≡ put → Joined (λ ns. slice_index_or ns to 0 ≤ slice_index_or ns from 0) g new
  edge_joined new is = subst (λ w. Joined (λ ns. slice_index_or ns to 0 ≤ slice_index_or ns from 0) g w) (sym is) (record {
    many = length-set g from (successors g from ++ to ∷ []);
    falls = λ ns few f h u v e. by ns f h u v (edge_was u v e);
    fell = λ ns few f. (λ u v e. f u v (edge_stays u v e), f from to edge_there);
  })
    where
      by : (ns : List ℕ) → Falls ns g → slice_index_or ns to 0 ≤ slice_index_or ns from 0 → (u v : ℕ) → HasEdge g u v ⊎ ((from ≡ u) × (to ≡ v))
          → slice_index_or ns v 0 ≤ slice_index_or ns u 0
      by ns f h u v (inl old) = f u v old
      by ns f h u v (inr new) =
          subst (λ w. slice_index_or ns w 0 ≤ slice_index_or ns u 0) new.1 (subst (λ w. slice_index_or ns to 0 ≤ slice_index_or ns w 0) new.0 h)

-- an edge to no node
pub outside_joined : (g : List (List ℕ)) (from to : ℕ) → length g ≤ to → Joined (λ ns. slice_index_or ns to 0 ≤ slice_index_or ns from 0) g g
outside_joined g from to out = record {
  many = refl;
  falls = λ ns few f h. f;
  fell = λ ns few f. (f, subst (λ n. n ≤ slice_index_or ns from 0) (sym (past_zero ns to (omega (arith, few, out)))) (omega arith));
}

-- ---- no edges

last_empty : (g : List (List ℕ)) (u : ℕ) → successors (g ++ [] ∷ []) u ≡ successors g u
last_empty [] zero = refl
last_empty [] (suc u) = refl
last_empty (x ∷ g) zero = refl
last_empty (x ∷ g) (suc u) = last_empty g u

pub falls_more : (g new : List (List ℕ)) → new ≡ g ++ [] ∷ [] → ((ns : List ℕ) → Falls ns g) → (ns : List ℕ) → Falls ns new
falls_more g new is h ns u v e = h ns u v (subst (λ xs. Contains xs v) (ap (λ w. successors w u) is ∙ last_empty g u) e)

pub falls_first : (g : List (List ℕ)) → g ≡ [] → (ns : List ℕ) → Falls ns g
falls_first g is ns u v e = absurd (no (subst (λ w. HasEdge w u v) is e))
  where
    no : HasEdge [] u v → ⊥
    no h = omega (arith, h.1)

-- ---- components

module _ (g : List (List ℕ)) (ns : List ℕ) (f : Falls ns g) where
  path_falls : (u v : ℕ) → Reaches g u v → slice_index_or ns v 0 ≤ slice_index_or ns u 0
  path_falls u v (by_edge e) = f u v e
  path_falls u v (by_edge_and next e r) =
      let one : slice_index_or ns next 0 ≤ slice_index_or ns u 0 = f u next e in
      let rest : slice_index_or ns v 0 ≤ slice_index_or ns next 0 = path_falls next v r in
      omega (arith, one, rest)

  pub connected_even : (u v : ℕ) → AreConnected g u v → slice_index_or ns u 0 ≡ slice_index_or ns v 0
  connected_even u v (inl same) = ap (λ w. slice_index_or ns w 0) same
  connected_even u v (inr paths) =
      let there : slice_index_or ns v 0 ≤ slice_index_or ns u 0 = path_falls u v paths.0 in
      let back : slice_index_or ns u 0 ≤ slice_index_or ns v 0 = path_falls v u paths.1 in
      omega (arith, there, back)

one_in : (c d : Option ℕ) → in_one c d ≡ true → in_one d c ≡ true
one_in (Some c) (Some d) h = grind (arith, nat_tests)
one_in (Some c) None h = h
one_in None (Some d) h = absurd (let no : false ≡ true = h in cc)
one_in None None h = h

got_inside : {A : Type 0} (xs : List A) (i : ℕ) (x : A) → slice_get xs i ≡ Some x → i < length xs
got_inside [] i x e = absurd (let no : None ≡ Some x = e in cc)
got_inside (y ∷ xs) zero x e = omega arith
got_inside (y ∷ xs) (suc i) x e = let rest : i < length xs = got_inside xs i x e in omega (arith, rest)

even_pairs : (functions : List Function) (ns : List ℕ) → AllEven functions (length functions) ns → (i j : ℕ) → Even functions ns i j
even_pairs functions ns all i j f g e k h = by (cases i j)
  where
    cases : (a b : ℕ) → (a < b) ⊎ ((a ≡ b) ⊎ (b < a))
    cases zero zero = inr (inl refl)
    cases zero (suc b) = inl (omega arith)
    cases (suc a) zero = inr (inr (omega arith))
    cases (suc a) (suc b) = more (cases a b)
      where
        more : (a < b) ⊎ ((a ≡ b) ⊎ (b < a)) → (suc a < suc b) ⊎ ((suc a ≡ suc b) ⊎ (suc b < suc a))
        more (inl x) = inl (omega (arith, x))
        more (inr (inl x)) = inr (inl (ap suc x))
        more (inr (inr x)) = inr (inr (omega (arith, x)))

    by : (i < j) ⊎ ((i ≡ j) ⊎ (j < i)) → slice_index_or ns i 0 ≡ slice_index_or ns j 0
    by (inl lt) = all i (got_inside functions i f e) j lt (got_inside functions j g k) f g e k h
    by (inr (inl same)) = ap (λ w. slice_index_or ns w 0) same
    by (inr (inr lt)) = sym (all j (got_inside functions j g k) i lt (got_inside functions i f e) g f k e (one_in f.cycle g.cycle h))

fits_even : (functions : List Function) (ns : List ℕ) → CyclesFit functions ns → (k : ℕ) → AllEven functions k ns
fits_even functions ns fit k i ik j ij jk f g e there h = by (eqb_tells (slice_index_or ns i 0) (slice_index_or ns j 0))
  where
    m : ℕ
    m = slice_index_or ns i 0

    n : ℕ
    n = slice_index_or ns j 0

    by : ((nat_eq m n ≡ true) × (m ≡ n)) ⊎ ((nat_eq m n ≡ false) × (m ≢ n)) → m ≡ n
    by (inl same) = same.1
    by (inr other) = absurd (no (sym (ap (λ b. if b then alike f.cycle g.cycle else not (in_one f.cycle g.cycle)) other.0 ∙ ap not h)
        ∙ fit.each i j f g e there))
      where
        no : false ≡ true → ⊥
        no p = cc

module _ (functions : List Function) (xs : List SizedInstance) (mappings : List (List NodeSizes)) (turns g : List (List ℕ))
    (graph : GraphOf functions xs mappings turns g) (c : Cycles) (numbers : List ℕ) (is : NumbersOf c numbers) (nodes : node_count c ≡ length g)
    (components : (left right : ℕ) → left < length g → right < length g
    → ((component_of c left ≡ component_of c right) → AreConnected g left right))
    (order : (from to : ℕ) → HasEdge g from to → component_of c to ≤ component_of c from) where
  starts_inside : (w : List (List ℕ)) (u v : ℕ) → HasEdge w u v → u < length w
  starts_inside [] u v h = omega (arith, h.1)
  starts_inside (y ∷ w) zero v h = omega arith
  starts_inside (y ∷ w) (suc u) v h = let rest : u < length w = starts_inside w u v h in omega (arith, rest)

  many : length numbers ≡ length functions
  many = is.many ∙ nodes ∙ graph.many

  few : length numbers ≤ length g
  few = omega (arith, is.many, nodes)

  at : (u : ℕ) → u < length g → slice_index_or numbers u 0 ≡ component_of c u
  at u lt = is.each u (subst (λ n. u < n) (sym nodes) lt)

  number_falls : Falls numbers g
  number_falls u v e = by (cases v (length g))
    where
      cases : (a b : ℕ) → (a < b) ⊎ (b ≤ a)
      cases a zero = inr (omega arith)
      cases zero (suc b) = inl (omega arith)
      cases (suc a) (suc b) = more (cases a b)
        where
          more : (a < b) ⊎ (b ≤ a) → (suc a < suc b) ⊎ (suc b ≤ suc a)
          more (inl x) = inl (omega (arith, x))
          more (inr x) = inr (omega (arith, x))

      by : (v < length g) ⊎ (length g ≤ v) → slice_index_or numbers v 0 ≤ slice_index_or numbers u 0
      by (inl lt) =
          let le : component_of c v ≤ component_of c u = order u v e in
          omega (arith, le, at u (starts_inside g u v e), at v lt)
      by (inr out) = omega (arith, past_zero numbers v (omega (arith, few, out)))

  pub best : FitIfAny functions xs mappings turns numbers
  best others all = record {
    cycles = record { many = many; each = each };
    falls = graph.calls numbers few number_falls;
    turns_so = graph.turned numbers few number_falls;
  }
    where
      fit : CyclesFit functions others
      fit = all.cycles

      falls : Falls others g
      falls = graph.falls others (omega (arith, fit.many, graph.many)) all.falls all.turns_so (fits_even functions others fit (length functions))

      even : (i j : ℕ) → Even functions numbers i j
      even = even_pairs functions numbers (graph.even numbers few number_falls)

      each : (i j : ℕ) (f h : Function) → slice_get functions i ≡ Some f → slice_get functions j ≡ Some h
          → pair_fits (slice_index_or numbers i 0) (slice_index_or numbers j 0) f.cycle h.cycle ≡ true
      each i j f h e k = by (eqb_tells m n)
        where
          m : ℕ
          m = slice_index_or numbers i 0

          n : ℕ
          n = slice_index_or numbers j 0

          inside : (p : ℕ) (y : Function) → slice_get functions p ≡ Some y → p < length g
          inside p y found = subst (λ q. p < q) (sym graph.many) (got_inside functions p y found)

          same_others : m ≡ n → slice_index_or others i 0 ≡ slice_index_or others j 0
          same_others s =
              connected_even g others falls i j
              (components i j (inside i f e) (inside j h k) (sym (at i (inside i f e)) ∙ s ∙ at j (inside j h k)))

          alike_if : (a b : ℕ) → a ≡ b → pair_fits a b f.cycle h.cycle ≡ true → alike f.cycle h.cycle ≡ true
          alike_if a b s p = sym (ap (λ t. if t then alike f.cycle h.cycle else not (in_one f.cycle h.cycle)) (equal a b s)) ∙ p
            where
              equal : (x y : ℕ) → x ≡ y → nat_eq x y ≡ true
              equal x y z = grind (arith, nat_tests)

          not_one : (t : Bool) → in_one f.cycle h.cycle ≡ t → m ≢ n → not (in_one f.cycle h.cycle) ≡ true
          not_one true one other = absurd (other (even i j f h e k one))
          not_one false one other = ap not one

          by : ((nat_eq m n ≡ true) × (m ≡ n)) ⊎ ((nat_eq m n ≡ false) × (m ≢ n)) → pair_fits m n f.cycle h.cycle ≡ true
          by (inl same) =
              ap (λ t. if t then alike f.cycle h.cycle else not (in_one f.cycle h.cycle)) same.0
              ∙ alike_if (slice_index_or others i 0) (slice_index_or others j 0) (same_others same.1) (fit.each i j f h e k)
          by (inr other) =
              ap (λ t. if t then alike f.cycle h.cycle else not (in_one f.cycle h.cycle)) other.0
              ∙ not_one (in_one f.cycle h.cycle) refl other.1

-- ---- calls, one after another

pub and_joined : (p q : List ℕ → Bool) (a b c : List (List ℕ)) → Joined (λ ns. p ns ≡ true) a b → Joined (λ ns. q ns ≡ true) b c
    → Joined (λ ns. (p ns && q ns) ≡ true) a c
and_joined p q a b c x y =
    joined_then (λ ns. p ns ≡ true) (λ ns. q ns ≡ true) (λ ns. (p ns && q ns) ≡ true) a b c x y (λ ns h k. both (p ns) (q ns) h k)
    (λ ns h. (and_left (p ns) (q ns) h, and_right (p ns) (q ns) h))

module _ (xs : List SizedInstance) (caller : ℕ) where
  abbrev own : List ℕ → ℕ
  own ns = slice_index_or ns caller 0

  pub no_leads : (g : List (List ℕ)) (all : List Lead) → all ≡ [] → Joined (λ ns. leads_fall ns xs (own ns) all ≡ true) g g
  no_leads g all is = joined_same (λ ns. leads_fall ns xs (own ns) all ≡ true) g (λ ns. ap (leads_fall ns xs (own ns)) is)

  pub leads_more : (l : Lead) (ls all : List Lead) (a b c : List (List ℕ)) → all ≡ l ∷ ls
      → Joined (λ ns. nat_le (cycle_at ns xs l.instance) (own ns) ≡ true) a b → Joined (λ ns. leads_fall ns xs (own ns) ls ≡ true) b c
      → Joined (λ ns. leads_fall ns xs (own ns) all ≡ true) a c
  leads_more l ls all a b c is x y =
      subst (λ ys. Joined (λ ns. leads_fall ns xs (own ns) ys ≡ true) a c) (sym is)
      (and_joined (λ ns. nat_le (cycle_at ns xs l.instance) (own ns)) (λ ns. leads_fall ns xs (own ns) ls) a b c x y)

  pub no_nodes : (g : List (List ℕ)) (all : List NodeSizes) → all ≡ [] → Joined (λ ns. nodes_fall ns xs (own ns) all ≡ true) g g
  no_nodes g all is = joined_same (λ ns. nodes_fall ns xs (own ns) all ≡ true) g (λ ns. ap (nodes_fall ns xs (own ns)) is)

  pub nodes_more : (k : ℕ) (ls given : List Lead) (nodes all : List NodeSizes) (a b c : List (List ℕ)) → all ≡ N.Calls k ls ∷ nodes → given ≡ ls
      → Joined (λ ns. leads_fall ns xs (own ns) given ≡ true) a b → Joined (λ ns. nodes_fall ns xs (own ns) nodes ≡ true) b c
      → Joined (λ ns. nodes_fall ns xs (own ns) all ≡ true) a c
  nodes_more k ls given nodes all a b c is same x y =
      subst (λ ys. Joined (λ ns. nodes_fall ns xs (own ns) ys ≡ true) a c) (sym is)
      (and_joined (λ ns. leads_fall ns xs (own ns) ls) (λ ns. nodes_fall ns xs (own ns) nodes) a b c
      (subst (λ ys. Joined (λ ns. leads_fall ns xs (own ns) ys ≡ true) a b) same x) y)

  pub nodes_as : (nodes all : List NodeSizes) (a b : List (List ℕ)) → all ≡ nodes → Joined (λ ns. nodes_fall ns xs (own ns) nodes ≡ true) a b
      → Joined (λ ns. nodes_fall ns xs (own ns) all ≡ true) a b
  nodes_as nodes all a b is x = subst (λ ys. Joined (λ ns. nodes_fall ns xs (own ns) ys ≡ true) a b) (sym is) x

  pub no_bodies : (g : List (List ℕ)) (all : List (List NodeSizes)) → all ≡ [] → Joined (λ ns. bodies_fall ns xs (own ns) all ≡ true) g g
  no_bodies g all is = joined_same (λ ns. bodies_fall ns xs (own ns) all ≡ true) g (λ ns. ap (bodies_fall ns xs (own ns)) is)

  pub bodies_more : (nodes given : List NodeSizes) (bodies all : List (List NodeSizes)) (a b c : List (List ℕ)) → all ≡ nodes ∷ bodies → given ≡ nodes
      → Joined (λ ns. nodes_fall ns xs (own ns) given ≡ true) a b → Joined (λ ns. bodies_fall ns xs (own ns) bodies ≡ true) b c
      → Joined (λ ns. bodies_fall ns xs (own ns) all ≡ true) a c
  bodies_more nodes given bodies all a b c is same x y =
      subst (λ ys. Joined (λ ns. bodies_fall ns xs (own ns) ys ≡ true) a c) (sym is)
      (and_joined (λ ns. nodes_fall ns xs (own ns) nodes) (λ ns. bodies_fall ns xs (own ns) bodies) a b c
      (subst (λ ys. Joined (λ ns. nodes_fall ns xs (own ns) ys ≡ true) a b) same x) y)

  -- the call at a place, where an instance is there and where none is
  pub lead_there : (place : ℕ) (x : SizedInstance) (a b : List (List ℕ)) → slice_get xs place ≡ Some x
      → Joined (λ ns. slice_index_or ns x.instance.function 0 ≤ own ns) a b → Joined (λ ns. nat_le (cycle_at ns xs place) (own ns) ≡ true) a b
  lead_there place x a b found h =
      joined_as (λ ns. slice_index_or ns x.instance.function 0 ≤ own ns) (λ ns. nat_le (cycle_at ns xs place) (own ns) ≡ true) a b h
      (λ ns le. ap (λ o. nat_le (number_there ns o) (own ns)) found ∙ true_le (slice_index_or ns x.instance.function 0) (own ns) le)
      (λ ns e. le_true (slice_index_or ns x.instance.function 0) (own ns) (sym (ap (λ o. nat_le (number_there ns o) (own ns)) found) ∙ e))

  pub lead_nowhere : (place : ℕ) (g : List (List ℕ)) → slice_get xs place ≡ None → Joined (λ ns. nat_le (cycle_at ns xs place) (own ns) ≡ true) g g
  lead_nowhere place g none =
      joined_same (λ ns. nat_le (cycle_at ns xs place) (own ns) ≡ true) g
      (λ ns. ap (λ o. nat_le (number_there ns o) (own ns)) none ∙ true_le 0 (own ns) (omega arith))

module _ (xs : List SizedInstance) where
  pub no_callers : (g : List (List ℕ)) (all : List SizedInstance) → all ≡ [] → Joined (λ ns. instances_fall ns xs all ≡ true) g g
  no_callers g all is = joined_same (λ ns. instances_fall ns xs all ≡ true) g (λ ns. ap (instances_fall ns xs) is)

  pub callers_more : (x : SizedInstance) (bodies : List (List NodeSizes)) (rest all : List SizedInstance) (a b c : List (List ℕ)) → all ≡ x ∷ rest
      → bodies ≡ x.bodies → Joined (λ ns. bodies_fall ns xs (slice_index_or ns x.instance.function 0) bodies ≡ true) a b
      → Joined (λ ns. instances_fall ns xs rest ≡ true) b c → Joined (λ ns. instances_fall ns xs all ≡ true) a c
  callers_more x bodies rest all a b c is same h k =
      subst (λ ys. Joined (λ ns. instances_fall ns xs ys ≡ true) a c) (sym is)
      (and_joined (λ ns. bodies_fall ns xs (slice_index_or ns x.instance.function 0) x.bodies) (λ ns. instances_fall ns xs rest) a b c
      (subst (λ ys. Joined (λ ns. bodies_fall ns xs (slice_index_or ns x.instance.function 0) ys ≡ true) a b) same h) k)

-- ---- edges both ways between two of one cycle

pub pair_joined : (is_one : Bool) (left right : ℕ) (a b c : List (List ℕ)) → is_one ≡ true
    → Joined (λ ns. slice_index_or ns right 0 ≤ slice_index_or ns left 0) a b → Joined (λ ns. slice_index_or ns left 0 ≤ slice_index_or ns right 0) b c
    → Joined (λ ns. is_one ≡ true → slice_index_or ns left 0 ≡ slice_index_or ns right 0) a c
pair_joined is_one left right a b c one x y =
    joined_then (λ ns. slice_index_or ns right 0 ≤ slice_index_or ns left 0) (λ ns. slice_index_or ns left 0 ≤ slice_index_or ns right 0)
    (λ ns. is_one ≡ true → slice_index_or ns left 0 ≡ slice_index_or ns right 0) a b c x y (λ ns h k e. omega (arith, h, k))
    (λ ns h. let same : slice_index_or ns left 0 ≡ slice_index_or ns right 0 = h one in (omega (arith, same), omega (arith, same)))

pub pair_apart : (is_one : Bool) (left right : ℕ) (g : List (List ℕ)) → is_one ≡ false
    → Joined (λ ns. is_one ≡ true → slice_index_or ns left 0 ≡ slice_index_or ns right 0) g g
pair_apart is_one left right g other =
    joined_same (λ ns. is_one ≡ true → slice_index_or ns left 0 ≡ slice_index_or ns right 0) g (λ ns e. absurd (no (sym other ∙ e)))
  where
    no : false ≡ true → ⊥
    no p = cc

got_at : {A : Type 0} (xs : List A) (i : ℕ) (d : A) → i < length xs → slice_get xs i ≡ Some (get_or xs i d)
got_at [] i d lt = absurd (omega (arith, lt))
got_at (y ∷ xs) zero d lt = refl
got_at (y ∷ xs) (suc i) d lt = got_at xs i d (omega (arith, lt))

pub past_none : {A : Type 0} (xs : List A) (i : ℕ) → length xs ≤ i → slice_get xs i ≡ None
past_none [] i le = refl
past_none (y ∷ xs) zero le = absurd (omega (arith, le))
past_none (y ∷ xs) (suc i) le = past_none xs i (omega (arith, le))

below_next : (i k : ℕ) → i < k + 1 → (i < k) ⊎ (i ≡ k)
below_next i k lt = by (eqb_tells i k)
  where
    by : ((nat_eq i k ≡ true) × (i ≡ k)) ⊎ ((nat_eq i k ≡ false) × (i ≢ k)) → (i < k) ⊎ (i ≡ k)
    by (inl same) = inr same.1
    by (inr other) = inl (less i k lt other.1)
      where
        less : (a b : ℕ) → a < b + 1 → a ≢ b → a < b
        less zero zero below apart = absurd (apart refl)
        less zero (suc b) below apart = omega arith
        less (suc a) zero below apart = absurd (omega (arith, below))
        less (suc a) (suc b) below apart = let rest : a < b = less a b (omega (arith, below)) (λ e. apart (ap suc e)) in omega (arith, rest)

pub even_next : (fs : List Function) (i k : ℕ) (d e : Function) (is_one : Bool) (a b c : List (List ℕ))
    → is_one ≡ in_one (get_or fs i d).cycle (get_or fs k e).cycle → i < length fs → k < length fs → i < k → Joined (EvenBehind fs i k) a b
    → Joined (λ ns. is_one ≡ true → slice_index_or ns i 0 ≡ slice_index_or ns k 0) b c → Joined (EvenBehind fs i (k + 1)) a c
even_next fs i k d e is_one a b c is in_i in_k lt x y =
    joined_then (EvenBehind fs i k) (λ ns. is_one ≡ true → slice_index_or ns i 0 ≡ slice_index_or ns k 0) (EvenBehind fs i (k + 1)) a b c x y join part
  where
    f : Function
    f = get_or fs i d

    g : Function
    g = get_or fs k e

    fi : slice_get fs i ≡ Some f
    fi = got_at fs i d in_i

    gk : slice_get fs k ≡ Some g
    gk = got_at fs k e in_k

    join : (ns : List ℕ) → EvenBehind fs i k ns → (is_one ≡ true → slice_index_or ns i 0 ≡ slice_index_or ns k 0) → EvenBehind fs i (k + 1) ns
    join ns h last j ij below p q e1 e2 one = by (below_next j k below)
      where
        by : (j < k) ⊎ (j ≡ k) → slice_index_or ns i 0 ≡ slice_index_or ns j 0
        by (inl jk) = h j ij jk p q e1 e2 one
        by (inr same) =
            last (is ∙ ap (λ (w : Function). in_one w.cycle g.cycle) (some_same f p (sym fi ∙ e1))
            ∙ ap (λ (w : Function). in_one p.cycle w.cycle) (some_same g q (sym gk ∙ ap (slice_get fs) (sym same) ∙ e2)) ∙ one)
            ∙ ap (λ w. slice_index_or ns w 0) (sym same)

    part : (ns : List ℕ) → EvenBehind fs i (k + 1) ns → EvenBehind fs i k ns × (is_one ≡ true → slice_index_or ns i 0 ≡ slice_index_or ns k 0)
    part ns h = (λ j ij jk. h j ij (omega (arith, jk)), λ one. h k lt (omega arith) f g fi gk (sym is ∙ one))

pub all_even_next : (fs : List Function) (i : ℕ) (a b c : List (List ℕ)) → Joined (AllEven fs i) a b → Joined (EvenBehind fs i (length fs)) b c
    → Joined (AllEven fs (i + 1)) a c
all_even_next fs i a b c x y = joined_then (AllEven fs i) (EvenBehind fs i (length fs)) (AllEven fs (i + 1)) a b c x y join part
  where
    join : (ns : List ℕ) → AllEven fs i ns → EvenBehind fs i (length fs) ns → AllEven fs (i + 1) ns
    join ns h last k below = by (below_next k i below)
      where
        by : (k < i) ⊎ (k ≡ i) → EvenBehind fs k (length fs) ns
        by (inl lt) = h k lt
        by (inr same) = subst (λ w. EvenBehind fs w (length fs) ns) (sym same) last

    part : (ns : List ℕ) → AllEven fs (i + 1) ns → AllEven fs i ns × EvenBehind fs i (length fs) ns
    part ns h = (λ k lt. h k (omega (arith, lt)), h i (omega arith))

-- ---- the whole graph

pub graph_joined : (fs : List Function) (xs : List SizedInstance) (ms : List (List NodeSizes)) (turns a b c d : List (List ℕ)) → length a ≡ length fs
    → ((ns : List ℕ) → Falls ns a) → Joined (λ ns. instances_fall ns xs xs ≡ true) a b → Joined (λ ns. turns_fall ns xs ms turns xs ≡ true) b c
    → Joined (AllEven fs (length fs)) c d → GraphOf fs xs ms turns d
graph_joined fs xs ms turns a b c d many none x y z = record {
  many = z.many ∙ y.many ∙ x.many ∙ many;
  falls = λ ns few low turn even. z.falls ns (last ns few) (y.falls ns (there ns few) (x.falls ns (here ns few) (none ns) low) turn) even;
  calls = λ ns few f. (x.fell ns (here ns few) (y.fell ns (there ns few) (z.fell ns (last ns few) f).0).0).1;
  turned = λ ns few f. (y.fell ns (there ns few) (z.fell ns (last ns few) f).0).1;
  even = λ ns few f. (z.fell ns (last ns few) f).1;
}
  where
    last : (ns : List ℕ) → length ns ≤ length d → length ns ≤ length c
    last ns few = subst (λ n. length ns ≤ n) z.many few

    there : (ns : List ℕ) → length ns ≤ length d → length ns ≤ length b
    there ns few = subst (λ n. length ns ≤ n) y.many (last ns few)

    here : (ns : List ℕ) → length ns ≤ length d → length ns ≤ length a
    here ns few = subst (λ n. length ns ≤ n) x.many (there ns few)
