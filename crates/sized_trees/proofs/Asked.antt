-- The cases of a node ask for the numbers of the same variables, and so do its leads.
use Rattle.std.proofs.Common.{◌≡◌, ◌∙◌, ap, refl, ℕ, Bool, true, false, List, [], ◌∷◌, ◌++◌}
use Rattle.std.proofs.lemmas.List.{map-append}
use Rattle.std.specs.Prelude.{ℤ, Option, Some, None, option_map, if◌then◌else◌}
use Rattle.std.specs.List.{list_any}
use Rattle.sail_types.specs.Places.{only}
use Rattle.sail_types.specs.declared.numbers.Con.{Con}
use Rattle.sail_types.specs.declared.numbers.Index.{Index}
use Rattle.sail_core.specs.declared.tree.Callee.{Callee}
use Rattle.sail_core.specs.declared.tree.Callee.TheVariants as D
use Rattle.value_indices.specs.declared.indices.Indices.{Indices}
use Rattle.value_indices.specs.declared.indices.Reading.{Reading}
use Rattle.value_indices.specs.declared.notes.Fact.{Fact}
use Rattle.value_indices.specs.declared.notes.Made.{Made}
use Rattle.value_indices.specs.Steps.{Note, goal_note, size_note, made_note, call_note, way_note, given_note, name_note, conditions}
use Rattle.size_values.specs.declared.constants.Constant.{Constant}
use Rattle.size_values.specs.declared.constants.Picked.{Picked}
use Rattle.size_values.specs.Numbers.{Known, known_at, known_of, may_hold, with_picked}
use Rattle.size_splits.specs.Alone.{sizes_given}
use Rattle.size_splits.specs.Sizing.{made_facts}
use Rattle.size_splits.specs.Splits.{combinations, counted, domain, one_where, those_that_may, with_domain, with_number, with_numbers}
use Rattle.sized_nodes.specs.declared.trees.Instance.{Instance}
use Rattle.monomorph.specs.Reading.{Inside, instance_of, under}
use Rattle.sized_trees.specs.declared.combinations.Choice.{Choice}
use Rattle.sized_nodes.specs.declared.trees.Case.{Case}
use Rattle.sized_nodes.specs.declared.trees.Lead.{Lead}
use Rattle.sized_trees.specs.Bodies.{at_call, at_note, made_choices, value_at}
use Rattle.sized_trees.specs.Cases.{case_of, case_under, case_within, cases_under, one_or_none, place_in}
use Rattle.sized_trees.specs.Cases.{lead_found, lead_to, lead_under, lead_within, leads_under}
use Rattle.sized_trees.specs.Combinations.{all_picked_eq, bound_choices, combinations_at, each_once, is_given, is_told, noted_choices, picked_by}
use Rattle.sized_trees.specs.Combinations.{picked_where, those_before, those_from, where_so, with_bound, with_each, with_one}
use Rattle.sized_nodes.specs.Asked.{CaseAsks, Each, LeadAsks, asked}
use Rattle.sized_trees.specs.Laws.{AsksAlike, NodesAskAlike}
use Rattle.sized_trees.proofs.Each.{each_append, each_if, model_each}

-- ---- combinations

abbrev pub Asks : List ℕ → List Picked → Type 0
Asks vs ps = asked ps ≡ vs

-- those that have numbers to take
abbrev with_taken : ℕ → Option (List ℤ) → List ℕ → List ℕ
with_taken v None vs = vs
with_taken v (Some zs) vs = v ∷ vs

abbrev taken : (ℕ → Constant) → List Con → List ℕ → List ℕ
taken of cs [] = []
taken of cs (v ∷ vs) = with_taken v (domain of v cs) (taken of cs vs)

number_asks : (v : ℕ) (z : ℤ) (ws : List ℕ) (pss : List (List Picked)) → Each (Asks ws) pss → Each (Asks (v ∷ ws)) (with_number v pss z)
number_asks v z ws [] e = tt
number_asks v z ws (ps ∷ pss) e = (ap (λ (l : List ℕ). v ∷ l) (e.0), number_asks v z ws pss (e.1))

numbers_ask : (v : ℕ) (zs : List ℤ) (ws : List ℕ) (pss : List (List Picked)) → Each (Asks ws) pss → Each (Asks (v ∷ ws)) (with_numbers v zs pss)
numbers_ask v [] ws pss e = tt
numbers_ask v (z ∷ zs) ws pss e =
    each_append (Asks (v ∷ ws)) (with_number v pss z) (with_numbers v zs pss) (number_asks v z ws pss e) (numbers_ask v zs ws pss e)

domain_asks : (v : ℕ) (o : Option (List ℤ)) (ws : List ℕ) (pss : List (List Picked)) → Each (Asks ws) pss
    → Each (Asks (with_taken v o ws)) (with_domain v o pss)
domain_asks v None ws pss e = e
domain_asks v (Some zs) ws pss e = numbers_ask v zs ws pss e

combinations_ask : (of : ℕ → Constant) (cs : List Con) (vs : List ℕ) → Each (Asks (taken of cs vs)) (combinations of cs vs)
combinations_ask of cs [] = (refl, tt)
combinations_ask of cs (v ∷ vs) = domain_asks v (domain of v cs) (taken of cs vs) (combinations of cs vs) (combinations_ask of cs vs)

-- ---- of those that may be

one_asks : (is : Bool) (vs : List ℕ) (ps : List Picked) → Asks vs ps → Each (Asks vs) (one_where is ps)
one_asks true vs ps e = (e, tt)
one_asks false vs ps e = tt

those_ask : (k : Known) (cs : List Con) (vs : List ℕ) (pss : List (List Picked)) → Each (Asks vs) pss → Each (Asks vs) (those_that_may k cs pss)
those_ask k cs vs [] e = tt
those_ask k cs vs (ps ∷ pss) e =
    each_append (Asks vs) (one_where (may_hold (known_at (with_picked k ps)) cs) ps) (those_that_may k cs pss)
    (one_asks (may_hold (known_at (with_picked k ps)) cs) vs ps (e.0)) (those_ask k cs vs pss (e.1))

-- ---- by what is noted

abbrev kept : (ℕ → Bool) → List ℕ → List ℕ
kept f [] = []
kept f (v ∷ vs) = where_so (f v) v ++ kept f vs

where_asked : (is : Bool) (p : Picked) (ps : List Picked) (vs : List ℕ) → asked ps ≡ vs
    → asked (where_so is p ++ ps) ≡ where_so is p.variable ++ vs
where_asked true p ps vs e = ap (λ (l : List ℕ). p.variable ∷ l) e
where_asked false p ps vs e = e

kept_asked : (f : ℕ → Bool) (ps : List Picked) → asked (picked_where f ps) ≡ kept f (asked ps)
kept_asked f [] = refl
kept_asked f (p ∷ ps) = where_asked (f p.variable) p (picked_where f ps) (kept f (asked ps)) (kept_asked f ps)

once_asks : (f : ℕ → Bool) (vs : List ℕ) (seen pss : List (List Picked)) → Each (Asks (kept f vs)) seen → Each (Asks vs) pss
    → Each (Asks (kept f vs)) (each_once f seen pss)
once_asks f vs seen [] s e = s
once_asks f vs seen (ps ∷ pss) s e =
    let one = picked_where f ps in
    once_asks f vs (with_one seen one) pss
    (each_if (Asks (kept f vs)) (list_any (all_picked_eq one) seen) seen (seen ++ one ∷ []) s
    (each_append (Asks (kept f vs)) seen (one ∷ []) s (kept_asked f ps ∙ ap (kept f) (e.0), tt))) (e.1)

-- ---- numbers of what is bound in front of each

abbrev ChoiceAsks : List ℕ → Choice → Type 0
ChoiceAsks vs c = asked (picked_by c) ≡ vs

module _ (ws vs : List ℕ) where
  with_asks : (bound : List (List Picked)) (ps : List Picked) → Each (Asks ws) bound → Asks vs ps → Each (ChoiceAsks (ws ++ vs)) (with_bound bound ps)
  with_asks [] ps e a = tt
  with_asks (qs ∷ bound) ps e a = (map-append (λ (p : Picked). p.variable) qs ps ∙ (λ j. e.0 j ++ a j), with_asks bound ps e.1 a)

  each_asks : (bound : List (List Picked)) → Each (Asks ws) bound → (pss : List (List Picked)) → Each (Asks vs) pss
      → Each (ChoiceAsks (ws ++ vs)) (with_each bound pss)
  each_asks bound e [] a = tt
  each_asks bound e (ps ∷ pss) a =
      each_append (ChoiceAsks (ws ++ vs)) (with_bound bound ps) (with_each bound pss) (with_asks bound ps e a.0) (each_asks bound e pss a.1)

-- ---- at a place

module _ (r : Inside) (list : List Instance) where
  abbrev pub asked_at : List Fact → List ℕ
  asked_at facts = kept (is_given facts) (taken (known_at (known_of r.numbers)) (conditions (facts ++ [])) r.split)

  pub place_asks : (facts : List Fact) → Each (Asks (asked_at facts)) (combinations_at r facts)
  place_asks facts =
      let k = known_of r.numbers in
      let cs = conditions (facts ++ []) in
      once_asks (is_given facts) (taken (known_at k) cs r.split) [] (counted k r.split facts []) tt
      (those_ask k (conditions facts) (taken (known_at k) cs r.split) (combinations (known_at k) cs r.split)
      (combinations_ask (known_at k) cs r.split))

  -- where a value is made
  abbrev pub asked_noted : List Fact → List ℕ → List ℕ
  asked_noted facts own =
      kept (is_told facts (those_before r.variables own)) (taken (known_at (known_of r.numbers)) (conditions (facts ++ [])) r.split)

  noted_ask : (facts : List Fact) (own : List ℕ) → Each (Asks (asked_noted facts own)) (noted_choices r facts own)
  noted_ask facts own =
      let k = known_of r.numbers in
      let cs = conditions (facts ++ []) in
      once_asks (is_told facts (those_before r.variables own)) (taken (known_at k) cs r.split) [] (counted k r.split facts []) tt
      (those_ask k (conditions facts) (taken (known_at k) cs r.split) (combinations (known_at k) cs r.split)
      (combinations_ask (known_at k) cs r.split))

  abbrev pub asked_bound : List Fact → List ℕ → List ℕ
  asked_bound opening own = kept (is_told [] own) (taken (known_at (known_of r.numbers)) (conditions ([] ++ opening)) (those_from r.variables own))

  pub bound_ask : (opening : List Fact) (own : List ℕ) → Each (Asks (asked_bound opening own)) (bound_choices r opening own)
  bound_ask opening own =
      let k = known_of r.numbers in
      let cs = conditions ([] ++ opening) in
      let vs = those_from r.variables own in
      once_asks (is_told [] own) (taken (known_at k) cs vs) [] (counted k vs [] opening) tt
      (those_ask k (conditions []) (taken (known_at k) cs vs) (combinations (known_at k) cs vs) (combinations_ask (known_at k) cs vs))

  abbrev pub asked_made : List Fact → Made → List ℕ
  asked_made facts made =
      let own = sizes_given r.types (value_at r made) in
      asked_bound (made_facts r.variables made None) own ++ asked_noted facts own

  pub made_asks : (facts : List Fact) (made : Made) → Each (ChoiceAsks (asked_made facts made)) (made_choices r facts made)
  made_asks facts made =
      let own = sizes_given r.types (value_at r made) in
      let opening = made_facts r.variables made None in
      each_asks (asked_bound opening own) (asked_noted facts own) (bound_choices r opening own) (bound_ask opening own) (noted_choices r facts own)
      (noted_ask facts own)

  -- ---- cases and leads

  only_asks : (is : Bool) (vs : List ℕ) (c : Case) → CaseAsks vs c → Each (CaseAsks vs) (one_or_none (only is c))
  only_asks true vs c e = (e, tt)
  only_asks false vs c e = tt

  pub cases_ask : (operands : List Indices) (i : Indices) (vs : List ℕ) (cs : List Choice) → Each (ChoiceAsks vs) cs
      → Each (CaseAsks vs) (cases_under r operands i cs)
  cases_ask operands i vs [] e = tt
  cases_ask operands i vs (c ∷ cs) e =
      each_append (CaseAsks vs) (one_or_none (case_under r operands i c)) (cases_under r operands i cs)
      (only_asks (case_within r operands i c) vs (case_of r operands i c) (e.0)) (cases_ask operands i vs cs (e.1))

  found_asks : (operands : List Indices) (vs : List ℕ) (ps : List Picked) (o : Option ℕ) → Asks vs ps
      → Each (LeadAsks vs) (one_or_none (option_map (lead_to r operands ps) o))
  found_asks operands vs ps None e = tt
  found_asks operands vs ps (Some place) e = (e, tt)

  if_asks : (is : Bool) (vs : List ℕ) (o : Option Lead) → Each (LeadAsks vs) (one_or_none o)
      → Each (LeadAsks vs) (one_or_none (if is then o else None))
  if_asks true vs o e = e
  if_asks false vs o e = tt

  pub leads_ask : (operands : List Indices) (f : ℕ) (js : List Index) (qs : List Reading) (vs : List ℕ) (pss : List (List Picked)) → Each (Asks vs) pss
      → Each (LeadAsks vs) (leads_under r list operands f js qs pss)
  leads_ask operands f js qs vs [] e = tt
  leads_ask operands f js qs vs (ps ∷ pss) e =
      each_append (LeadAsks vs) (one_or_none (lead_under r list operands f js qs ps)) (leads_under r list operands f js qs pss)
      (if_asks (lead_within r operands f js qs ps) vs (lead_found r list operands f js qs ps)
      (found_asks operands vs ps (place_in list (instance_of r (under r ps) f js qs)) (e.0))) (leads_ask operands f js qs vs pss (e.1))

  -- ---- nodes

  call_asks : (facts : List Fact) (k : ℕ) (operands : List Indices) (callee : Callee) (js : List Index) (qs : List Reading)
      → Each AsksAlike (at_call r list facts k operands callee js qs)
  call_asks facts k operands (D.Function f) js qs =
      ((asked_at facts, leads_ask operands f js qs (asked_at facts) (combinations_at r facts) (place_asks facts)), tt)
  call_asks facts k operands (D.Row row) js qs = tt
  call_asks facts k operands (D.Constructor u c) js qs = tt
  call_asks facts k operands (D.Converts d) js qs = tt
  call_asks facts k operands (D.Applies d) js qs = tt

  note_asks : (n : Note) → Each AsksAlike (at_note r list n)
  note_asks (goal_note facts place c) = tt
  note_asks (size_note facts place made) = tt
  note_asks (made_note facts k operands made) =
      ((asked_made facts made, cases_ask operands (value_at r made) (asked_made facts made) (made_choices r facts made) (made_asks facts made)), tt)
  note_asks (call_note facts place k operands callee js qs) = call_asks facts k operands callee js qs
  note_asks (way_note facts d) = tt
  note_asks (given_note facts k i) = (tt, tt)
  note_asks (name_note v name) = tt

-- ---- models

pub nodes_ask_alike : NodesAskAlike
nodes_ask_alike = model_each (λ list. AsksAlike) note_asks (λ c. AsksAlike) (λ m list e. e)
