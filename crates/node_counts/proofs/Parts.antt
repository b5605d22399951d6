-- Walks over parts of an expression note no more than the parts do together.
use Rattle.std.proofs.Common.{◌≡◌, ℕ, zero, suc, ◌+◌, List, [], ◌∷◌, map, take, drop, Option, Some, None, ap, subst, refl, arith}
use Rattle.sail_base.specs.declared.place.Place.{Place}
use Rattle.sail_types.specs.declared.numbers.Con.{Con}
use Rattle.sail_types.specs.declared.numbers.Num.{Num}
use Rattle.value_indices.specs.Steps.{Walk, assume, bind, give, wrong}
use Rattle.value_indices.specs.declared.indices.Indices.{Indices, out-Indices}
use Rattle.value_indices.specs.declared.indices.Indices.TheOpen as W
use Rattle.value_indices.specs.declared.indices.Indices.TheOpen.{Indices-F}
use Rattle.value_indices.specs.declared.indices.Indices.TheVariants as I
use Rattle.value_indices.specs.declared.indices.Reading.{Reading}
use Rattle.pattern_leaves.specs.Settings.{Around, Scope}
use Rattle.call_arguments.specs.declared.aims.Aim.{Aim}
use Rattle.call_arguments.specs.declared.aims.Aim.TheVariants as Aims
use Rattle.call_notes.specs.Ends.{integer_number, number_form}
use Rattle.expression_forms.specs.Truths.{then_truth, truth_form, truth_of}
use Rattle.expression_steps.specs.Parts.{Part, condition_walk, each_walk, four, given_that, led}
use Rattle.expression_steps.specs.Parts.{none, number_before, number_walk, numbers_behind, numbers_walk, one}
use Rattle.expression_steps.specs.Parts.{three, truth_walk, two, under}
use Rattle.node_counts.specs.Counts.{Counted, weigh}
use Rattle.node_counts.proofs.Budgets.{within_scoped}
use Rattle.node_counts.proofs.Weights.{lights}
use Rattle.node_counts.proofs.Nodes.{In, in_both, in_first, in_give, in_last, in_more, owes_light, wrong_in}

module _ (q : Counted) where
  -- whatever is around it, in scope and wanted
  abbrev pub PartIn : ℕ → Part → Type 0
  PartIn b p = ((around : Around) (scope : Scope) (aim : Aim) → In q b (p.walk around scope aim))
      × ((around : Around) (scope : Scope) → In q b (p.state around scope))

  pub record Costed : Type 0 where
    pub part : Part
    pub cost : ℕ
    pub within : PartIn cost part

  abbrev pub parts_of : List Costed → List Part
  parts_of ys = map (λ (y : Costed). y.part) ys

  abbrev pub total : List Costed → ℕ
  total [] = 0
  total (y ∷ ys) = y.cost + total ys

  pub walk_in : (y : Costed) (around : Around) (scope : Scope) (aim : Aim) → In q y.cost (y.part.walk around scope aim)
  walk_in y around scope aim = y.within.0 around scope aim

  -- ---- some of several

  pub taken_parts : (k : ℕ) (ys : List Costed) → parts_of (take k ys) ≡ take k (parts_of ys)
  taken_parts zero ys = refl
  taken_parts (suc k) [] = refl
  taken_parts (suc k) (y ∷ ys) = ap (λ ps. y.part ∷ ps) (taken_parts k ys)

  pub dropped_parts : (k : ℕ) (ys : List Costed) → parts_of (drop k ys) ≡ drop k (parts_of ys)
  dropped_parts zero ys = refl
  dropped_parts (suc k) [] = refl
  dropped_parts (suc k) (y ∷ ys) = dropped_parts k ys

  pub split_total : (k : ℕ) (ys : List Costed) → total (take k ys) + total (drop k ys) ≡ total ys
  split_total zero ys = omega arith
  split_total (suc k) [] = omega arith
  split_total (suc k) (y ∷ ys) = let e : total (take k ys) + total (drop k ys) ≡ total ys = split_total k ys in omega (arith, e)

  -- ---- so many parts

  pub none_in : {b : ℕ} (place : Place) (w : Walk Indices) (ys : List Costed) → In q b w → In q (b + total ys) (none place w (parts_of ys))
  none_in place w [] h = in_more q w (omega arith) h
  none_in place w (y ∷ ys) h = wrong_in q place

  pub one_in : (b : ℕ) (place : Place) (f : Part → Walk Indices) (ys : List Costed) → ((y : Costed) → In q (b + y.cost) (f y.part))
      → In q (b + total ys) (one place f (parts_of ys))
  one_in b place f [] h = wrong_in q place
  one_in b place f (y ∷ []) h = in_more q (f y.part) (omega arith) (h y)
  one_in b place f (y ∷ z ∷ ys) h = wrong_in q place

  pub two_in : (b : ℕ) (place : Place) (f : Part → Part → Walk Indices) (ys : List Costed)
      → ((y z : Costed) → In q (b + (y.cost + z.cost)) (f y.part z.part)) → In q (b + total ys) (two place f (parts_of ys))
  two_in b place f [] h = wrong_in q place
  two_in b place f (y ∷ []) h = wrong_in q place
  two_in b place f (y ∷ z ∷ []) h = in_more q (f y.part z.part) (omega arith) (h y z)
  two_in b place f (y ∷ z ∷ x ∷ ys) h = wrong_in q place

  pub led_in : (b : ℕ) (place : Place) (f : Part → List Part → Walk Indices) (ys : List Costed)
      → ((y : Costed) (zs : List Costed) → In q (b + (y.cost + total zs)) (f y.part (parts_of zs))) → In q (b + total ys) (led place f (parts_of ys))
  led_in b place f [] h = wrong_in q place
  led_in b place f (y ∷ ys) h = h y ys

  -- the same of what notes no more than they do

  pub one_only : (place : Place) (f : Part → Walk Indices) (ys : List Costed) → ((y : Costed) → In q y.cost (f y.part))
      → In q (total ys) (one place f (parts_of ys))
  one_only place f [] h = wrong_in q place
  one_only place f (y ∷ []) h = in_more q (f y.part) (omega arith) (h y)
  one_only place f (y ∷ z ∷ ys) h = wrong_in q place

  pub two_only : (place : Place) (f : Part → Part → Walk Indices) (ys : List Costed) → ((y z : Costed) → In q (y.cost + z.cost) (f y.part z.part))
      → In q (total ys) (two place f (parts_of ys))
  two_only place f [] h = wrong_in q place
  two_only place f (y ∷ []) h = wrong_in q place
  two_only place f (y ∷ z ∷ []) h = in_more q (f y.part z.part) (omega arith) (h y z)
  two_only place f (y ∷ z ∷ x ∷ ys) h = wrong_in q place

  pub three_only : (place : Place) (f : Part → Part → Part → Walk Indices) (ys : List Costed)
      → ((y z x : Costed) → In q (y.cost + (z.cost + x.cost)) (f y.part z.part x.part)) → In q (total ys) (three place f (parts_of ys))
  three_only place f [] h = wrong_in q place
  three_only place f (y ∷ []) h = wrong_in q place
  three_only place f (y ∷ z ∷ []) h = wrong_in q place
  three_only place f (y ∷ z ∷ x ∷ []) h = in_more q (f y.part z.part x.part) (omega arith) (h y z x)
  three_only place f (y ∷ z ∷ x ∷ u ∷ ys) h = wrong_in q place

  pub four_only : (place : Place) (f : Part → Part → Part → Part → Walk Indices) (ys : List Costed)
      → ((y z x u : Costed) → In q (y.cost + (z.cost + (x.cost + u.cost))) (f y.part z.part x.part u.part))
      → In q (total ys) (four place f (parts_of ys))
  four_only place f [] h = wrong_in q place
  four_only place f (y ∷ []) h = wrong_in q place
  four_only place f (y ∷ z ∷ []) h = wrong_in q place
  four_only place f (y ∷ z ∷ x ∷ []) h = wrong_in q place
  four_only place f (y ∷ z ∷ x ∷ u ∷ []) h = in_more q (f y.part z.part x.part u.part) (omega arith) (h y z x u)
  four_only place f (y ∷ z ∷ x ∷ u ∷ v ∷ ys) h = wrong_in q place

  -- ---- from left to right

  pub each_in : (ys : List Costed) (around : Around) (scope : Scope) (aims : List Aim) → In q (total ys) (each_walk (parts_of ys) around scope aims)
  each_in [] around scope aims = in_give q []
  each_in (y ∷ ys) around scope [] =
      in_both q (y.part.walk around scope Aims.Free) (λ i. bind (each_walk (parts_of ys) around scope []) (λ is. give (i ∷ is)))
      (walk_in y around scope Aims.Free) (λ i.
      in_last q (each_walk (parts_of ys) around scope []) (λ is. give (i ∷ is)) (each_in ys around scope []) (λ is. in_give q (i ∷ is)))
  each_in (y ∷ ys) around scope (aim ∷ aims) =
      in_both q (y.part.walk around scope aim) (λ i. bind (each_walk (parts_of ys) around scope aims) (λ is. give (i ∷ is)))
      (walk_in y around scope aim) (λ i.
      in_last q (each_walk (parts_of ys) around scope aims) (λ is. give (i ∷ is)) (each_in ys around scope aims) (λ is. in_give q (i ∷ is)))

  -- the first so many
  pub first_in : (k : ℕ) (ys : List Costed) (around : Around) (scope : Scope) (aims : List Aim)
      → In q (total ys) (each_walk (take k (parts_of ys)) around scope aims)
  first_in k ys around scope aims =
      let e : total (take k ys) + total (drop k ys) ≡ total ys = split_total k ys in
      subst (λ (ps : List Part). In q (total ys) (each_walk ps around scope aims)) (taken_parts k ys)
      (in_more q (each_walk (parts_of (take k ys)) around scope aims) (omega (arith, e)) (each_in (take k ys) around scope aims))

  -- ---- numbers and conditions

  pub nothing_light : (A : Type 0) (place : Place) → In q 0 (bind (wrong place) (λ t. give {A = Option A} None))
  nothing_light A place = in_first q (wrong place) (λ t. give None) (owes_light q place _) (λ t. in_give q None)

  number_light : (place : Place) (form : Indices-F Indices Reading) → In q 0 (number_form place form)
  number_light place (W.Integer t) = in_give q (Some t)
  number_light place W.Never = in_give q None
  number_light place form = nothing_light Num place

  truth_light : (place : Place) (form : Indices-F Indices Reading) → In q 0 (truth_form place form)
  truth_light place (W.Truth c) = in_give q (Some c)
  truth_light place W.Never = in_give q None
  truth_light place form = nothing_light Con place

  pub number_in : (y : Costed) (around : Around) (scope : Scope) → In q y.cost (number_walk y.part around scope)
  number_in y around scope =
      in_last q (y.part.walk around scope Aims.Free) (integer_number y.part.place) (walk_in y around scope Aims.Free) (λ i.
      number_light y.part.place (out-Indices i))

  before_light : (n : Num) (o : Option (List Num)) → In q 0 (number_before n o)
  before_light n None = in_give q None
  before_light n (Some ns) = in_give q (Some (n ∷ ns))

  behind_in : {b : ℕ} (rest : Walk (Option (List Num))) → In q b rest → (o : Option Num) → In q b (numbers_behind rest o)
  behind_in rest h None = in_give q None
  behind_in rest h (Some n) = in_last q rest (number_before n) h (before_light n)

  pub numbers_in : (ys : List Costed) (around : Around) (scope : Scope) → In q (total ys) (numbers_walk (parts_of ys) around scope)
  numbers_in [] around scope = in_give q (Some [])
  numbers_in (y ∷ ys) around scope =
      in_both q (number_walk y.part around scope) (numbers_behind (numbers_walk (parts_of ys) around scope)) (number_in y around scope)
      (behind_in (numbers_walk (parts_of ys) around scope) (numbers_in ys around scope))

  pub truth_in : (y : Costed) (around : Around) (scope : Scope) → In q y.cost (truth_walk y.part around scope)
  truth_in y around scope =
      in_last q (y.part.walk around scope Aims.Free) (truth_of y.part.place) (walk_in y around scope Aims.Free) (λ i.
      truth_light y.part.place (out-Indices i))

  pub truth_of_light : (place : Place) (i : Indices) → In q 0 (truth_of place i)
  truth_of_light place i = truth_light place (out-Indices i)

  pub integer_light : (place : Place) (i : Indices) → In q 0 (integer_number place i)
  integer_light place i = number_light place (out-Indices i)

  then_in : (b : ℕ) (next : Con → Walk Indices) → ((c : Con) → In q b (next c)) → (o : Option Con) → In q b (then_truth next o)
  then_in b next h None = in_give q I.Never
  then_in b next h (Some c) = h c

  pub condition_in : (b : ℕ) (y : Costed) (around : Around) (scope : Scope) (next : Con → Walk Indices) → ((c : Con) → In q b (next c))
      → In q (y.cost + b) (condition_walk y.part around scope next)
  condition_in b y around scope next h = in_both q (truth_walk y.part around scope) (then_truth next) (truth_in y around scope) (then_in b next h)

  pub under_in : (c : Con) (y : Costed) (around : Around) (scope : Scope) (aim : Aim) → In q y.cost (under c y.part around scope aim)
  under_in c y around scope aim = in_first q (assume c) (λ t. y.part.walk around scope aim) ((lights q).assumes c) (λ t. walk_in y around scope aim)

  pub given_in : (c : Con) (y : Costed) (around : Around) (scope : Scope) (aim : Aim) → In q y.cost (given_that c y.part around scope aim)
  given_in c y around scope aim = within_scoped (weigh q) (under c y.part around scope aim) (under_in c y around scope aim)
