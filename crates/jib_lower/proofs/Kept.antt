-- Types keep their numbers as a table grows: those of cases, of nodes, and of all that is made of them.
use Rattle.std.proofs.Common.{◌≡◌, ◌∙◌, Bool, true, false, List, [], ◌∷◌, Option, Some, None, ap, refl, subst, suc, sym, zero, ℕ, ◌≤◌, arith}
use Rattle.std.specs.Prelude.{◌&&◌, pos}
use Rattle.sail_types.specs.declared.table.Types.{Types}
use Rattle.model_state.specs.declared.state.Register.{Register}
use Rattle.size_values.specs.declared.sized.Sized.{Sized, Sized-F, out-Sized}
use Rattle.size_values.specs.declared.sized.Sized.TheOpen as Z
use Rattle.size_values.specs.declared.sized.Sized.TheVariants as S
use Rattle.sized_nodes.specs.declared.trees.Case.{Case}
use Rattle.sized_nodes.specs.declared.trees.Lead.{Lead}
use Rattle.sized_nodes.specs.declared.trees.NodeSizes.{NodeSizes}
use Rattle.sized_nodes.specs.declared.trees.NodeSizes.TheVariants as N
use Rattle.sized_nodes.specs.declared.trees.Signature.{Signature}
use Rattle.sized_nodes.specs.declared.trees.SizedInstance.{SizedInstance}
use Rattle.sized_nodes.specs.declared.trees.Told.{Told}
use Rattle.checked_meaning.specs.Items.{fixed_typ}
use Rattle.lowered_types.specs.Table.{all_known, form_never, is_known, type_in}
use Rattle.lowered_types.proofs.Standing.{found, known_lt}
use Rattle.lowered_pieces.specs.Arms.{word_width}
use Rattle.lowered_pieces.specs.Emitted.{Begins}
use Rattle.lowered_tables.proofs.Growing.{all_more}
use Rattle.jib_lower.specs.Types.{AllNarrow, all_in_bodies, all_in_cases, all_in_instances, all_in_leads, all_in_nodes, all_in_registers, all_in_told}
use Rattle.jib_lower.specs.Types.{all_small, in_signature}
use Rattle.lowered_validity.specs.Laws.{sizes_small}
use Rattle.jib_lower.proofs.Basics.{and_left, and_right, both, some_same}

-- two that hold together, each by the one before
also : (a b c d : Bool) → (a ≡ true → c ≡ true) → (b ≡ true → d ≡ true) → (a && b) ≡ true → (c && d) ≡ true
also a b c d f g h = both c d (f (and_left a b h)) (g (and_right a b h))

module _ (ss us : List Sized) (more : Begins ss us) where
  pub known_stays : (t : Sized) → is_known ss t ≡ true → is_known us t ≡ true
  known_stays t h = and_left (is_known us t) true (all_more ss us (t ∷ []) more (both (is_known ss t) true h refl))

  pub all_stay : (ts : List Sized) → all_known ss ts ≡ true → all_known us ts ≡ true
  all_stay ts h = all_more ss us ts more h

  pub cases_stay : (cs : List Case) → all_in_cases ss cs ≡ true → all_in_cases us cs ≡ true
  cases_stay [] h = refl
  cases_stay (c ∷ cs) h =
      also (all_known ss c.takes) (is_known ss c.gives && all_in_cases ss cs) (all_known us c.takes) (is_known us c.gives && all_in_cases us cs)
      (all_stay c.takes) (also (is_known ss c.gives) (all_in_cases ss cs) (is_known us c.gives) (all_in_cases us cs) (known_stays c.gives) (cases_stay cs)) h

  pub leads_stay : (xs : List Lead) → all_in_leads ss xs ≡ true → all_in_leads us xs ≡ true
  leads_stay [] h = refl
  leads_stay (x ∷ xs) h = also (all_known ss x.takes) (all_in_leads ss xs) (all_known us x.takes) (all_in_leads us xs) (all_stay x.takes) (leads_stay xs) h

  pub nodes_stay : (nodes : List NodeSizes) → all_in_nodes ss nodes ≡ true → all_in_nodes us nodes ≡ true
  nodes_stay [] h = refl
  nodes_stay (N.Makes k i cs ∷ nodes) h =
      also (all_in_cases ss cs) (all_in_nodes ss nodes) (all_in_cases us cs) (all_in_nodes us nodes) (cases_stay cs) (nodes_stay nodes) h
  nodes_stay (N.Calls k xs ∷ nodes) h =
      also (all_in_leads ss xs) (all_in_nodes ss nodes) (all_in_leads us xs) (all_in_nodes us nodes) (leads_stay xs) (nodes_stay nodes) h
  nodes_stay (N.Gives k i ∷ nodes) h = nodes_stay nodes h

  pub bodies_stay : (bodies : List (List NodeSizes)) → all_in_bodies ss bodies ≡ true → all_in_bodies us bodies ≡ true
  bodies_stay [] h = refl
  bodies_stay (nodes ∷ bodies) h =
      also (all_in_nodes ss nodes) (all_in_bodies ss bodies) (all_in_nodes us nodes) (all_in_bodies us bodies) (nodes_stay nodes) (bodies_stay bodies) h

  pub told_stay : (ts : List Told) → all_in_told ss ts ≡ true → all_in_told us ts ≡ true
  told_stay [] h = refl
  told_stay (t ∷ ts) h = also (all_in_cases ss t.cases) (all_in_told ss ts) (all_in_cases us t.cases) (all_in_told us ts) (cases_stay t.cases) (told_stay ts) h

  pub signature_stays : (o : Option Signature) → in_signature ss o ≡ true → in_signature us o ≡ true
  signature_stays None h = refl
  signature_stays (Some s) h =
      also (all_in_told ss s.parameters) (all_in_cases ss s.result.cases) (all_in_told us s.parameters) (all_in_cases us s.result.cases)
      (told_stay s.parameters) (cases_stay s.result.cases) h

  pub instances_stay : (xs : List SizedInstance) → all_in_instances ss xs ≡ true → all_in_instances us xs ≡ true
  instances_stay [] h = refl
  instances_stay (x ∷ xs) h =
      also (in_signature ss x.signature) (all_in_bodies ss x.bodies && all_in_instances ss xs) (in_signature us x.signature)
      (all_in_bodies us x.bodies && all_in_instances us xs) (signature_stays x.signature)
      (also (all_in_bodies ss x.bodies) (all_in_instances ss xs) (all_in_bodies us x.bodies) (all_in_instances us xs) (bodies_stay x.bodies)
      (instances_stay xs)) h

  pub registers_stay : (types : Types) (rs : List Register) → all_in_registers types ss rs ≡ true → all_in_registers types us rs ≡ true
  registers_stay types [] h = refl
  registers_stay types (r ∷ rs) h =
      also (is_known ss (fixed_typ types r.typ)) (all_in_registers types ss rs) (is_known us (fixed_typ types r.typ)) (all_in_registers types us rs)
      (known_stays (fixed_typ types r.typ)) (registers_stay types rs) h

-- ---- words

below : (a b c : ℕ) → a ≤ b → b ≤ c → a ≤ c
below a b c h k = omega (arith, h, k)

-- where words are narrow, a type that has a number is narrow
narrow_at : (ss : List Sized) → AllNarrow ss → (t : Sized) → is_known ss t ≡ true → word_width (out-Sized t) ≤ 128
narrow_at ss narrow t k = by (form_never (out-Sized t)) refl
  where
    never : (z : Sized-F Sized) → form_never z ≡ true → word_width z ≤ 128
    never Z.Never e = omega arith
    never z e = absurd (no e)
      where
        no : false ≡ true → ⊥
        no e = cc

    by : (b : Bool) → form_never (out-Sized t) ≡ b → word_width (out-Sized t) ≤ 128
    by true e = never (out-Sized t) e
    by false e = narrow (type_in ss t) t (found ss t (known_lt ss t k e))

-- shorter words than one that has a number have numbers
pub bits_known : (ss : List Sized) → ((n : ℕ) → n ≤ 128 → is_known ss (S.Bits (pos n)) ≡ true) → AllNarrow ss → (t : Sized) (n : ℕ) → is_known ss t ≡ true
    → n ≤ word_width (out-Sized t) → is_known ss (S.Bits (pos n)) ≡ true
bits_known ss words narrow t n k le = words n (below n (word_width (out-Sized t)) 128 le (narrow_at ss narrow t k))

-- types of a list that grows are narrow
pub narrow_none : (xs : List Sized) → xs ≡ [] → AllNarrow xs
narrow_none xs e = subst AllNarrow (sym e) (λ i t k. none_is t k)
  where
    none_is : {A X : Type 0} (x : A) → None ≡ Some x → X
    none_is x e = cc

narrow_next : (x : Sized) (xs : List Sized) → word_width (out-Sized x) ≤ 128 → AllNarrow xs → AllNarrow (x ∷ xs)
narrow_next x xs h k zero t e = subst (λ y. word_width (out-Sized y) ≤ 128) (some_same x t e) h
narrow_next x xs h k (suc i) t e = k i t e

pub narrow_more : (x : Sized) (xs all : List Sized) → all ≡ x ∷ xs → word_width (out-Sized x) ≤ 128 → AllNarrow xs → AllNarrow all
narrow_more x xs all e h k = subst AllNarrow (sym e) (narrow_next x xs h k)

pub small_more : (x : Sized) (xs all : List Sized) → all ≡ x ∷ xs → sizes_small (out-Sized x) ≡ true → all_small xs ≡ true → all_small all ≡ true
small_more x xs all e h k = ap all_small e ∙ both (sizes_small (out-Sized x)) (all_small xs) h k
