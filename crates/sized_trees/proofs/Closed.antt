-- Every call leads to an instance.
use Rattle.std.proofs.Common.{◌≡◌, ap, sym, subst, refl, ℕ, suc, ◌+◌, ◌<◌, Bool, true, false, List, [], ◌∷◌, length, map, arith}
use Rattle.std.specs.Prelude.{Option, Some, None, option_map, if◌then◌else◌}
use Rattle.sail_types.specs.declared.numbers.Index.{Index}
use Rattle.sail_core.specs.declared.tree.Callee.{Callee}
use Rattle.sail_core.specs.declared.tree.Callee.TheVariants as D
use Rattle.value_indices.specs.declared.indices.Indices.{Indices}
use Rattle.value_indices.specs.declared.indices.Reading.{Reading}
use Rattle.value_indices.specs.declared.notes.Fact.{Fact}
use Rattle.value_indices.specs.Steps.{Note, goal_note, size_note, made_note, call_note, way_note, given_note, name_note}
use Rattle.size_values.specs.declared.constants.Picked.{Picked}
use Rattle.sized_nodes.specs.declared.trees.Instance.{Instance}
use Rattle.monomorph.specs.Found.{instance_eq}
use Rattle.monomorph.specs.Reading.{Inside, instance_of, under}
use Rattle.sized_nodes.specs.declared.trees.Lead.{Lead}
use Rattle.sized_nodes.specs.declared.trees.NodeSizes.{NodeSizes}
use Rattle.sized_trees.specs.Bodies.{at_call, at_note}
use Rattle.sized_trees.specs.Cases.{lead_found, lead_to, lead_under, lead_within, leads_under, one_or_none, place_from, place_in}
use Rattle.sized_trees.specs.Combinations.{combinations_at}
use Rattle.sized_trees.specs.Trees.{sized_instance, sized_list}
use Rattle.sized_nodes.specs.Asked.{Each}
use Rattle.sized_trees.specs.Laws.{CallsLeadToInstances, EachNode, IsThere, LeadsAreThere}
use Rattle.sized_trees.proofs.Each.{each_append, model_each}

-- ---- as many instances as there are in the list

mapped_length : {A B : Type 0} (f : A → B) (xs : List A) → length (map f xs) ≡ length xs
mapped_length f [] = refl
mapped_length f (x ∷ xs) = ap suc (mapped_length f xs)

-- ---- the place of an instance

here_or_behind : (is : Bool) (n more : ℕ) (o : Option ℕ) (p : ℕ) → ((q : ℕ) → o ≡ Some q → q < suc n + more)
    → (if is then Some n else o) ≡ Some p → p < n + suc more
here_or_behind true n more o p behind e =
    let h : Some n ≡ Some p = e in
    let same : n ≡ p = cc h in
    omega (arith, same)
here_or_behind false n more o p behind e = let h = behind p e in omega (arith, h)

place_there : (n : ℕ) (x : Instance) (list : List Instance) (p : ℕ) → place_from n x list ≡ Some p → p < n + length list
place_there n x [] p e = let h : None ≡ Some p = e in absurd (cc)
place_there n x (y ∷ list) p e =
    here_or_behind (instance_eq x y) n (length list) (place_from (suc n) x list) p (place_there (suc n) x list) e

-- ---- leads

module _ (r : Inside) (list : List Instance) where
  abbrev Leads : List Lead → Type 0
  Leads = Each (IsThere (length list))

  found_there : (operands : List Indices) (ps : List Picked) (o : Option ℕ) → ((p : ℕ) → o ≡ Some p → p < length list)
      → Leads (one_or_none (option_map (lead_to r operands ps) o))
  found_there operands ps None h = tt
  found_there operands ps (Some p) h = (h p refl, tt)

  if_there : (is : Bool) (o : Option Lead) → Leads (one_or_none o) → Leads (one_or_none (if is then o else None))
  if_there true o h = h
  if_there false o h = tt

  module _ (operands : List Indices) (f : ℕ) (js : List Index) (qs : List Reading) where
    found : (ps : List Picked) (x : Instance) → Leads (one_or_none (option_map (lead_to r operands ps) (place_in list x)))
    found ps x = found_there operands ps (place_in list x) (λ p e. let h = place_there 0 x list p e in omega (arith, h))

    leads_there : (pss : List (List Picked)) → Leads (leads_under r list operands f js qs pss)
    leads_there [] = tt
    leads_there (ps ∷ more) =
        each_append (IsThere (length list)) (one_or_none (lead_under r list operands f js qs ps)) (leads_under r list operands f js qs more)
        (if_there (lead_within r operands f js qs ps) (lead_found r list operands f js qs ps) (found ps (instance_of r (under r ps) f js qs)))
        (leads_there more)

  -- ---- nodes

  abbrev Nodes : List NodeSizes → Type 0
  Nodes = Each (LeadsAreThere (length list))

  call_there : (facts : List Fact) (k : ℕ) (operands : List Indices) (callee : Callee) (js : List Index) (qs : List Reading)
      → Nodes (at_call r list facts k operands callee js qs)
  call_there facts k operands (D.Function f) js qs = (leads_there operands f js qs (combinations_at r facts), tt)
  call_there facts k operands (D.Row row) js qs = tt
  call_there facts k operands (D.Constructor u c) js qs = tt
  call_there facts k operands (D.Converts d) js qs = tt
  call_there facts k operands (D.Applies d) js qs = tt

  note_there : (n : Note) → Nodes (at_note r list n)
  note_there (goal_note facts place c) = tt
  note_there (size_note facts place made) = tt
  note_there (made_note facts k operands made) = (tt, tt)
  note_there (call_note facts place k operands callee js qs) = call_there facts k operands callee js qs
  note_there (way_note facts d) = tt
  note_there (given_note facts k i) = (tt, tt)
  note_there (name_note v name) = tt

-- ---- models

pub calls_lead_to_instances : CallsLeadToInstances
calls_lead_to_instances =
    model_each (λ list. LeadsAreThere (length list)) note_there (λ c. LeadsAreThere (length c.instances))
    (λ m list e. subst (λ (n : ℕ). EachNode (LeadsAreThere n) (sized_list m list)) (sym (mapped_length (sized_instance m list) list)) e)
