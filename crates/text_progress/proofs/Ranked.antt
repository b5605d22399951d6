-- Mappings of a text without failures have ranks: those by which the patterns of a mapping convert have lower ones.
use Rattle.std.proofs.Common.{◌≡◌, inl, inr, ℕ, zero, suc, ◌+◌, ◌*◌, ◌<◌, ◌≤◌, nat_eq, nat_lt, List, [], ◌∷◌, ◌++◌, length, map, filter, refl, sym, ap, ◌∙◌}
use Rattle.std.proofs.Common.{subst, Bool, true, false, ◌&&◌, ◌||◌, not, cond, if◌then◌else◌, arith, Option, Some, None, get_or, zero-add}
use Rattle.std.proofs.lemmas.Bool.{and_parts}
use Rattle.std.proofs.lemmas.Bool.Decides.{Decides-ltb}
use Rattle.std.specs.Prelude.{flat_map, is_some, slice_get}
use Rattle.std.specs.List.{list_all}
use Rattle.std.specs.Option.{option_or}
use Rattle.sail_syntax.specs.declared.definitions.Def.{Def}
use Rattle.sail_syntax.specs.declared.definitions.Def.TheVariants as D
use Rattle.sail_syntax.specs.declared.definitions.MappingClause.{MappingClause}
use Rattle.sail_kinds.specs.declared.error.TableError.{TableError}
use Rattle.sail_kinds.proofs.Firsts.{none_failed}
use Rattle.sail_base.specs.declared.place.Place.{Place}
use Rattle.sail_syntax.specs.declared.definitions.Member.{Member}
use Rattle.sail_syntax.specs.declared.definitions.Overloaded.TheVariants as Over
use Rattle.sail_syntax.specs.declared.name.Name.{Name}
use Rattle.sail_syntax.specs.declared.words.Arrow.TheVariants as A
use Rattle.sail_types.specs.Rows.{row_named}
use Rattle.sail_types.specs.declared.rows.Row.{Row}
use Rattle.sail_types.specs.declared.shapes.Shape.{Shape}
use Rattle.sail_globals.specs.Bound as Globals
use Rattle.sail_globals.specs.Bound.{bound, is_among, is_plain}
use Rattle.sail_globals.specs.Globals.{is_body}
use Rattle.sail_globals.specs.declared.naming.Alone.{Alone}
use Rattle.sail_globals.specs.declared.naming.Alone.TheVariants as is
use Rattle.sail_globals.specs.declared.naming.Called.TheVariants as Called
use Rattle.sail_globals.specs.declared.naming.Role.{Role}
use Rattle.sail_globals.specs.declared.naming.Role.TheVariants.{Defined, Whole}
use Rattle.sail_globals.specs.declared.naming.Space.TheVariants.{Values}
use Rattle.sail_globals.specs.Clashes.{clashes, takes}
use Rattle.sail_globals.specs.Namings.{all_namings, backwards_of, forwards_of, constructor_naming, let_naming, namings, namings_from, own_naming, value_naming}
use Rattle.sail_globals.specs.declared.naming.Naming.{Naming}
use Rattle.sail_kinds.specs.declared.scope.Variable.{Variable}
use Rattle.sail_declared.specs.Wanting.{all_wanting}
use Rattle.type_definitions.specs.Defined.{all_type_failures, types_of}
use Rattle.sail_bodies.specs.Bodies.{all_body_failures}
use Rattle.known_names.specs.Meanings.{known_in, naming_of}
use Rattle.call_graph.specs.Graphs.{HasEdge, IsInCycle, LeadsToNodes, Reaches, by_edge, by_edge_and, successors}
use Rattle.sail_cycles.specs.declared.expressions.Which.TheVariants.{Patterns}
use Rattle.sail_cycles.specs.Callees.{mappings_of_global}
use Rattle.sail_cycles.specs.Cycles.{Edge, all_cycle_failures, all_edges, callees, cycle_failures, edges, edges_to, mapping_clause_callees}
use Rattle.sail_cycles.specs.Cycles.{number_named, pattern_graph, reaches_itself, targets}
use Rattle.sail_tables.specs.Refused.{IsAccepted, entry_failures, failures}
use Rattle.mapping_ranks.specs.Ranks.{RanksOf}
use Rattle.mapping_ranks.proofs.Reaching.{held}
use Rattle.mapping_ranks.proofs.Counting.{ranks}
use Rattle.sail_core.specs.declared.tree.Callee.TheVariants as C
use Rattle.shape_joins.proofs.JoinsLeast.{none, some_same}
use Rattle.shape_joins.proofs.Order.{no, same_nat, two}
use Rattle.shape_rules.specs.declared.callees.Candidate.{Candidate}
use Rattle.shape_rules.specs.declared.callees.Doing.{Doing}
use Rattle.shape_rules.specs.declared.callees.Doing.TheVariants as Does
use Rattle.shape_rules.specs.declared.callees.Meant.{Meant}
use Rattle.shape_rules.specs.declared.callees.Meant.TheVariants as M
use Rattle.shape_rules.specs.declared.locals.Local.{Local}
use Rattle.shape_rules.specs.Written.{joined}
use Rattle.shape_models.specs.Models.{added_to_name, candidates, entries, let_in, or_overload, or_row, value_of}
use Rattle.shape_meanings.proofs.StructNames.{bytes_same}
use Rattle.known_texts.proofs.Entries.{CalleeIs}
use Rattle.known_texts.proofs.Roles.{IsTaken, taken_first, taken_left, taken_right}
use Rattle.known_texts.proofs.Meant as Names
use Rattle.known_texts.proofs.Values as Valued
use Rattle.known_texts.proofs.Values.{LetFound, let_found}
use Rattle.known_texts.specs.Accepted.{NothingFails}
use Rattle.known_texts.proofs.Failures.{apart}
use Rattle.shapes.specs.Failures.{own_in}
use Rattle.shapes.specs.Tabled.{tabled_of}
use Rattle.known_texts.proofs.There.{EachHas}
use Rattle.text_progress.proofs.Held.{edge_either, edge_in, edge_left, edge_right, edges_held, from_node, got_held, held_count, held_kept, held_there, in_mapped}
use Rattle.text_progress.proofs.Held.{in_nodes, is_held, joined_left, joined_right, kept_held, lead_from, left, many_nodes, mapped_get, mapped_in, mapped_many, nodes_in, right}
use Rattle.text_progress.proofs.Insides.{HeadWays, Ways}
use Rattle.text_progress.proofs.Named.{DoesBy, MaybeBy, direction_first, direction_known_as, mapping_first, mapping_known_as, nodes}
use Rattle.text_progress.proofs.Named.{nodes_by, number_of, or_zero, own_by, way_number}
use Rattle.sail_core.specs.declared.model.Direction.{Direction}
use Rattle.shapes.specs.Failures.{all_lets}
use Rattle.shape_clauses.specs.Mappings.{directions_if, directions_of}
use Rattle.known_texts.specs.Known.{EachKnown}
use Rattle.known_texts.specs.Whole.{setting_in}
use Rattle.known_texts.proofs.BuiltinNames.{one_more, there_behind}
use Rattle.text_progress.proofs.Entries.{join_again}
use Rattle.text_progress.proofs.MappingsRanked.{CalleesAmong, MappingsRanked, WaysBelow}

-- ---- definitions stand in the text

abbrev AtPlace : ℕ → List Naming → Type 0
AtPlace at [] = Unit {0}
AtPlace at (n ∷ ns) = (n.definition ≡ at) × AtPlace at ns

placed_own : (at : ℕ) (what : Alone) (ms : List Name) → AtPlace at (map (own_naming at what) ms)
placed_own at what [] = tt
placed_own at what (m ∷ ms) = (refl, placed_own at what ms)

placed_constructors : (at : ℕ) (cs : List Member) → AtPlace at (map (constructor_naming at) cs)
placed_constructors at [] = tt
placed_constructors at (c ∷ cs) = (refl, placed_constructors at cs)

placed_lets : (at : ℕ) (place : Place) (plain : Bool) (ns : List Name) → AtPlace at (map (let_naming at place plain) ns)
placed_lets at place plain [] = tt
placed_lets at place plain (n ∷ ns) = (refl, placed_lets at place plain ns)

placed : (is_member : List ℕ → Bool) (at : ℕ) (d : Def) → AtPlace at (namings is_member at d)
placed is_member at (D.Alias place own variables kind typ) = (refl, tt)
placed is_member at (D.Enum place own ms) = (refl, placed_own at is.Member ms)
placed is_member at (D.Struct place own variables fs) = (refl, tt)
placed is_member at (D.Union place own variables cs) = (refl, placed_constructors at cs)
placed is_member at (D.Val place own quantifier from A.Function to) = (refl, tt)
placed is_member at (D.Val place own quantifier from A.Mapping to) = (refl, (refl, (refl, tt)))
placed is_member at (D.Function place extent own clauses) = (refl, tt)
placed is_member at (D.Measure place own parameters value) = (refl, tt)
placed is_member at (D.Mapping place own None clauses) = (refl, (refl, (refl, tt)))
placed is_member at (D.Mapping place own (Some sides) clauses) = (refl, (refl, (refl, tt)))
placed is_member at (D.Let place pattern value) = placed_lets at place (is_plain pattern) (bound is_member pattern)
placed is_member at (D.Register place own typ initial) = (refl, tt)
placed is_member at (D.Overload place (Over.Named own) added) = (refl, tt)
placed is_member at (D.Overload place (Over.Operator there own) added) = tt
placed is_member at d = tt

first_below : (name : List ℕ) (xs more : List Naming) (at limit : ℕ) → AtPlace at xs → at < limit
    → ((n : Naming) → naming_of more name ≡ Some n → n.definition < limit) → (n : Naming) → naming_of (xs ++ more) name ≡ Some n → n.definition < limit
first_below name [] more at limit here lt next n e = next n e
first_below name (x ∷ xs) more at limit here lt next n e = by (takes Values name x) (λ f. first_below name xs more at limit here.1 lt next n f) e
  where
    by : (b : Bool) → (naming_of (xs ++ more) name ≡ Some n → n.definition < limit) → cond b (Some x) (naming_of (xs ++ more) name) ≡ Some n
        → n.definition < limit
    by true later f = subst (λ (m : Naming). m.definition < limit) (some_same x n f) (subst (λ k. k < limit) (sym here.0) lt)
    by false later f = later f

text_below : (is_member : List ℕ → Bool) (name : List ℕ) (at : ℕ) (text : List Def) (n : Naming) → naming_of (namings_from is_member at text) name ≡ Some n
    → n.definition < (at + length text)
text_below is_member name at [] n e = none e
text_below is_member name at (d ∷ text) n e =
    first_below name (namings is_member at d) (namings_from is_member (at + 1) text) at (at + length (d ∷ text)) (placed is_member at d)
    (more at (length text)) (λ m f. let lt = text_below is_member name (at + 1) text m f in further m.definition at (length text) lt) n e
  where
    more : (at k : ℕ) → at < (at + suc k)
    more at k = omega arith

    further : (m at k : ℕ) → m < ((at + 1) + k) → m < (at + suc k)
    further m at k lt = omega (arith, lt)

-- ---- a direction's mapping

abbrev pub half : ℕ → ℕ
half zero = zero
half (suc zero) = zero
half (suc (suc n)) = suc (half n)

half_twice : (k : ℕ) → (half (2 * k) ≡ k) × (half (suc (2 * k)) ≡ k)
half_twice zero = (ap half none_twice, ap (λ n. half (suc n)) none_twice)
  where
    none_twice : (2 * 0) ≡ 0
    none_twice = omega arith
half_twice (suc k) =
    let again = half_twice k in
    (ap half (next k) ∙ ap suc again.0, ap (λ n. half (suc n)) (next k) ∙ ap suc again.1)
  where
    next : (k : ℕ) → (2 * suc k) ≡ suc (suc (2 * k))
    next k = omega arith

half_less : (i n : ℕ) → i < (2 * n) → half i < n
half_less zero n lt = omega (arith, lt)
half_less (suc zero) n lt = omega (arith, lt)
half_less (suc (suc i)) zero lt = absurd (omega (arith, lt))
half_less (suc (suc i)) (suc n) lt = let le = half_less i n (omega (arith, lt)) in omega (arith, le)

got : (xs : List ℕ) (k x : ℕ) → slice_get xs k ≡ Some x → get_or xs k 0 ≡ x
got [] k x h = none h
got (y ∷ ys) zero x h = some_same y x h
got (y ∷ ys) (suc k) x h = got ys k x h

there_some : {A : Type 0} (xs : List A) (k : ℕ) → k < length xs → (x : A) × (slice_get xs k ≡ Some x)
there_some [] k lt = absurd (omega (arith, lt))
there_some (y ∷ ys) zero lt = (y, refl)
there_some (y ∷ ys) (suc k) lt = there_some ys k (omega (arith, lt))

some_there : {A : Type 0} (xs : List A) (k : ℕ) (x : A) → slice_get xs k ≡ Some x → k < length xs
some_there [] k x h = none h
some_there (y ∷ ys) zero x h = omega arith
some_there (y ∷ ys) (suc k) x h = let lt = some_there ys k x h in omega (arith, lt)

-- ---- a text that the tables accept

abbrev TakenBy : List Def → List ℕ → Doing → Type 0
TakenBy text name (Does.Calls (C.Converts n)) = IsTaken (all_namings text) name (is_body Called.Direction)
TakenBy text name doing = Unit {0}

module _ (text : List Def) (clear : NothingFails text) (has_all : EachHas (tabled_of text) text) (end : Place) (accepted : IsAccepted text end) where
  abbrev size : ℕ
  size = length text

  abbrev found_edges : List Edge
  found_edges = all_edges Patterns (known_in text) text

  abbrev graph : List (List ℕ)
  graph = pattern_graph (known_in text) text

  abbrev keeps : ℕ → Bool
  keeps q = held (nodes text) q

  abbrev kept : List (List ℕ)
  kept = map (filter keeps) graph

  cycles_none : all_cycle_failures text (known_in text) accepted.is_cyclic accepted.is_pattern_cyclic text ≡ []
  cycles_none =
      let named : List TableError = clashes (all_namings text) in
      let wanted : List TableError = all_wanting (all_namings text) text in
      let typed : List TableError = all_type_failures text in
      let bodies : List TableError = all_body_failures text (known_in text) (types_of text) in
      let cycles : List TableError = all_cycle_failures text (known_in text) accepted.is_cyclic accepted.is_pattern_cyclic text in
      let entries = apart ((((named ++ wanted) ++ typed) ++ bodies) ++ cycles) (entry_failures text end)
      (none_failed (failures text end accepted.is_cyclic accepted.is_pattern_cyclic) accepted.first) in
      (apart (((named ++ wanted) ++ typed) ++ bodies) cycles entries.0).1

  -- ---- no mapping reaches itself

  mapping_edge : (p q : ℕ) → accepted.is_pattern_cyclic p ≡ true → (e : TableError) (o : Option ℕ) (qs : List ℕ)
      → (if reaches_itself accepted.is_pattern_cyclic o then e ∷ [] else []) ≡ [] → edge_in (edges_to o qs) p q ≡ true → ⊥
  mapping_edge p q c e None qs f h = no h
  mapping_edge p q c e (Some m) qs f h =
      not_none (subst (λ b. (if b then e ∷ [] else []) ≡ []) (ap accepted.is_pattern_cyclic (lead_from m p q qs h) ∙ c) f)
    where
      not_none : {A : Type 0} {x : A} {xs : List A} → (x ∷ xs) ≡ [] → ⊥
      not_none h = cc

  no_edges_to : (p q : ℕ) (o : Option ℕ) → edge_in (edges_to o []) p q ≡ true → ⊥
  no_edges_to p q None h = no h
  no_edges_to p q (Some m) h = no h

  edge_of : (p q : ℕ) → accepted.is_pattern_cyclic p ≡ true → (d : Def)
      → cycle_failures text (known_in text) accepted.is_cyclic accepted.is_pattern_cyclic d ≡ [] → edge_in (edges Patterns (known_in text) d) p q ≡ true → ⊥
  edge_of p q c (D.Function place extent name clauses) f h = no_edges_to p q (number_named ((known_in text).value name.text)) h
  edge_of p q c (D.Mapping place name sides clauses) f h =
      mapping_edge p q c _ (number_named ((known_in text).value name.text)) (callees Patterns (known_in text) (D.Mapping place name sides clauses)) f h
  edge_of p q c d f h = no h

  no_edge : (p q : ℕ) → accepted.is_pattern_cyclic p ≡ true → (ds : List Def)
      → all_cycle_failures text (known_in text) accepted.is_cyclic accepted.is_pattern_cyclic ds ≡ []
      → edge_in (all_edges Patterns (known_in text) ds) p q ≡ true → ⊥
  no_edge p q c [] f h = no h
  no_edge p q c (d ∷ ds) f h =
      let k = apart (cycle_failures text (known_in text) accepted.is_cyclic accepted.is_pattern_cyclic d)
      (all_cycle_failures text (known_in text) accepted.is_cyclic accepted.is_pattern_cyclic ds) f in
      elim (edge_either (edges Patterns (known_in text) d) (all_edges Patterns (known_in text) ds) p q h) [
        | inl e ↦ edge_of p q c d k.0 e
        | inr e ↦ no_edge p q c ds k.1 e
      ]

  edge_found : (p q : ℕ) → HasEdge graph p q → (edge_in found_edges p q ≡ true) × (nat_lt q size ≡ true)
  edge_found p q e =
      let in_targets : held (targets size found_edges p) q ≡ true =
      subst (λ n. held (targets size found_edges n) q ≡ true) (zero-add p) (nodes_in size found_edges 0 text p q (is_held (successors graph p) q e)) in
      let k = held_kept (λ to. nat_lt to size) (from_node found_edges p) q in_targets in
      (mapped_in found_edges p q k.0, k.1)

  out_edge : {from to : ℕ} → Reaches graph from to → (x : ℕ) × HasEdge graph from x
  out_edge (by_edge {from = from} {to = to} e) = (to, e)
  out_edge (by_edge_and next e r) = (next, e)

  acyclic : (node : ℕ) → IsInCycle graph node → ⊥
  acyclic node cycle =
      let x = out_edge cycle in
      no_edge node x.0 ((accepted.patterns node).1 cycle) text cycles_none (edge_found node x.0 x.1).0

  -- ---- among mappings alone

  kept_edge : (p q : ℕ) → HasEdge kept p q → HasEdge graph p q × (keeps q ≡ true)
  kept_edge p q e =
      let k = held_kept keeps (successors graph p) q
      (subst (λ ns. held ns q ≡ true) (mapped_get (filter keeps) refl graph p) (is_held (successors kept p) q e)) in
      (held_there (successors graph p) q k.0, k.1)

  kept_reaches : {from to : ℕ} → Reaches kept from to → Reaches graph from to
  kept_reaches (by_edge {from = from} {to = to} e) = by_edge (kept_edge from to e).0
  kept_reaches (by_edge_and {from = from} next e r) = by_edge_and next (kept_edge from next e).0 (kept_reaches r)

  kept_many : length kept ≡ size
  kept_many = mapped_many (filter keeps) graph ∙ many_nodes size found_edges 0 text

  kept_leads : LeadsToNodes kept
  kept_leads from to e = subst (λ n. to < n) (sym kept_many) (below to size (edge_found from to (kept_edge from to e).0).1)
    where
      below : (x n : ℕ) → nat_lt x n ≡ true → x < n
      below x n h = (Decides-ltb x n).0 h

  pub found_ranks : RanksOf kept keeps
  found_ranks = ranks kept kept_leads (λ node cycle. acyclic node (kept_reaches cycle)) keeps (λ from to e. (kept_edge from to e).1)

  -- ---- the ranks of directions

  abbrev pub rank : ℕ → ℕ
  rank i = found_ranks.rank (get_or (nodes text) (half i) 0)

  rank_at : (k x : ℕ) → slice_get (nodes text) k ≡ Some x → (rank (2 * k) ≡ found_ranks.rank x) × (rank (suc (2 * k)) ≡ found_ranks.rank x)
  rank_at k x there =
      let is : get_or (nodes text) k 0 ≡ x = got (nodes text) k x there in
      let h = half_twice k in (
        ap (λ n. found_ranks.rank (get_or (nodes text) n 0)) h.0 ∙ ap found_ranks.rank is,
        ap (λ n. found_ranks.rank (get_or (nodes text) n 0)) h.1 ∙ ap found_ranks.rank is,
      )

  pub rank_alike : (k x : ℕ) → slice_get (nodes text) k ≡ Some x → rank (suc (2 * k)) ≡ rank (2 * k)
  rank_alike k x there = let h = rank_at k x there in h.1 ∙ sym h.0

  rank_few : (x : ℕ) → x < size → keeps x ≡ true → found_ranks.rank x < length (nodes text)
  rank_few x lt is =
      let few = found_ranks.few x (subst (λ n. x < n) (sym kept_many) lt) is in
      let most = held_count (nodes text) (length kept) in
      omega (arith, few, most)

  mapping_taken : (is_member : List ℕ → Bool) (at : ℕ) (place : Place) (name : Name) (sides : _) (cs : List MappingClause)
      → IsTaken (namings is_member at (D.Mapping place name sides cs)) name.text (is_body Called.Mapping)
  mapping_taken is_member at place name None cs =
      taken_first (is_body Called.Mapping) name.text (value_naming at (Defined Called.Mapping) place name.text)
      (value_naming at (Defined Called.Direction) place (forwards_of name.text) ∷ value_naming at (Defined Called.Direction) place
      (backwards_of name.text) ∷ []) (bytes_same name.text) refl
  mapping_taken is_member at place name (Some sides) cs =
      taken_first (is_body Called.Mapping) name.text (value_naming at (Whole is.Mapping) place name.text)
      (value_naming at (Whole is.Direction) place (forwards_of name.text) ∷ value_naming at (Whole is.Direction) place (backwards_of name.text) ∷ [])
      (bytes_same name.text) refl

  number_at : (name : List ℕ) → IsTaken (all_namings text) name (is_body Called.Mapping)
      → (number_named ((known_in text).value name) ≡ Some (number_of text name)) × (number_of text name < size)
  number_at name taken_so =
      let first = mapping_first text clear has_all name taken_so in
      let is = ap number_named (mapping_known_as text clear has_all name first.0 first.1 first.2) in
      let same : number_of text name ≡ first.0.definition = ap or_zero is in
      let lt = text_below (is_among (Globals.members text)) name 0 text first.0 first.1 in (
        is ∙ ap Some (sym same),
        subst (λ n. n < size) (sym same) (subst (λ n. first.0.definition < n) (zero-add size) lt),
      )

  abbrev Lies : ℕ → List Def → Type 0
  Lies at more =
      (name : List ℕ) (test : Role → Bool) → IsTaken (namings_from (is_among (Globals.members text)) at more) name test → IsTaken (all_namings text) name test

  lies_on : (at : ℕ) (d : Def) (more : List Def) → Lies at (d ∷ more) → Lies (at + 1) more
  lies_on at d more lies name test h =
      lies name test (taken_right test name (namings (is_among (Globals.members text)) at d) (namings_from (is_among (Globals.members text)) (at + 1) more) h)

  here_taken : (at : ℕ) (place : Place) (name : Name) (sides : _) (cs : List MappingClause) (more : List Def)
      → Lies at (D.Mapping place name sides cs ∷ more) → IsTaken (all_namings text) name.text (is_body Called.Mapping)
  here_taken at place name sides cs more lies =
      lies name.text (is_body Called.Mapping)
      (taken_left (is_body Called.Mapping) name.text (namings (is_among (Globals.members text)) at (D.Mapping place name sides cs))
      (namings_from (is_among (Globals.members text)) (at + 1) more) (mapping_taken (is_among (Globals.members text)) at place name sides cs))

  nodes_below : (more : List Def) (at : ℕ) → Lies at more → (k x : ℕ) → slice_get (joined (map (nodes_by text) more)) k ≡ Some x → x < size
  nodes_below [] at lies k x h = none h
  nodes_below ((D.Mapping place name sides cs) ∷ more) at lies zero x h =
      subst (λ n. n < size) (some_same (number_of text name.text) x h) (number_at name.text (here_taken at place name sides cs more lies)).1
  nodes_below ((D.Mapping place name sides cs) ∷ more) at lies (suc k) x h =
      nodes_below more (at + 1) (lies_on at (D.Mapping place name sides cs) more lies) k x h
  nodes_below (d ∷ more) at lies k x h = nodes_below more (at + 1) (lies_on at d more lies) k x h

  -- each direction has a rank below how many there are
  pub ranks_few : (i : ℕ) → i < (2 * length (nodes text)) → rank i < length (nodes text)
  ranks_few i lt =
      let k = there_some (nodes text) (half i) (half_less i (length (nodes text)) lt) in
      let is : get_or (nodes text) (half i) 0 ≡ k.0 = got (nodes text) (half i) k.0 k.1 in
      subst (λ n. found_ranks.rank n < length (nodes text)) (sym is)
      (rank_few k.0 (nodes_below text 0 (λ name test h. h) (half i) k.0 k.1) (got_held (nodes text) (half i) k.0 k.1))

  -- ---- what the patterns of a mapping convert by

  abbrev pub converts : List ℕ → ℕ → Bool
  converts name q = not (keeps q && nat_lt q size) || nat_lt (found_ranks.rank q) (found_ranks.rank (number_of text name))

  abbrev pub ClausesConvert : List ℕ → List MappingClause → Type 0
  ClausesConvert name [] = Unit {0}
  ClausesConvert name (c ∷ cs) =
      (list_all (converts name) (mapping_clause_callees Patterns (known_in text) c) ≡ true) × ClausesConvert name cs

  abbrev pub AllConvert : List Def → Type 0
  AllConvert [] = Unit {0}
  AllConvert ((D.Mapping place name sides cs) ∷ more) = ClausesConvert name.text cs × AllConvert more
  AllConvert (d ∷ more) = AllConvert more

  edge_lower : (name : List ℕ) (q : ℕ) → number_of text name < size → edge_in found_edges (number_of text name) q ≡ true → converts name q ≡ true
  edge_lower name q lt e = by (keeps q) (nat_lt q size) refl refl
    where
      p : ℕ
      p = number_of text name

      told : (a b : ℕ) → a < b → nat_lt a b ≡ true
      told a b h = (Decides-ltb a b).1 h

      lower : keeps q ≡ true → nat_lt q size ≡ true → nat_lt (found_ranks.rank q) (found_ranks.rank p) ≡ true
      lower k l =
          let there : held (successors graph p) q ≡ true =
          in_nodes size found_edges 0 text p q lt
          (subst (λ n. held (targets size found_edges n) q ≡ true) (sym (zero-add p))
          (kept_held (λ to. nat_lt to size) (from_node found_edges p) q (in_mapped found_edges p q e) l)) in
          let among : held (successors kept p) q ≡ true =
          subst (λ ns. held ns q ≡ true) (sym (mapped_get (filter keeps) refl graph p)) (kept_held keeps (successors graph p) q there k) in
          told (found_ranks.rank q) (found_ranks.rank p) (found_ranks.lower p q (held_there (successors kept p) q among))

      by : (a b : Bool) → keeps q ≡ a → nat_lt q size ≡ b → (not (a && b) || nat_lt (found_ranks.rank q) (found_ranks.rank p)) ≡ true
      by true true k l = lower k l
      by true false k l = refl
      by false b k l = refl

  all_converted : (name : List ℕ) (qs : List ℕ) → ((q : ℕ) → held qs q ≡ true → converts name q ≡ true) → list_all (converts name) qs ≡ true
  all_converted name [] f = refl
  all_converted name (q ∷ qs) f =
      two (converts name q) (list_all (converts name) qs) (f q (left (nat_eq q q) (held qs q) (same_nat q)))
      (all_converted name qs (λ x h. f x (right (nat_eq q x) (held qs x) h)))

  clauses_convert : (name : List ℕ) (cs : List MappingClause)
      → ((q : ℕ) → held (flat_map (mapping_clause_callees Patterns (known_in text)) cs) q ≡ true → converts name q ≡ true) → ClausesConvert name cs
  clauses_convert name [] f = tt
  clauses_convert name (c ∷ cs) f =
      let here : List ℕ = mapping_clause_callees Patterns (known_in text) c in
      let later : List ℕ = flat_map (mapping_clause_callees Patterns (known_in text)) cs in (
        all_converted name here (λ q h. f q (joined_left here later q h)),
        clauses_convert name cs (λ q h. f q (joined_right here later q h)),
      )

  each_convert : (more : List Def) (at : ℕ) → Lies at more
      → ((p q : ℕ) → edge_in (all_edges Patterns (known_in text) more) p q ≡ true → edge_in found_edges p q ≡ true) → AllConvert more
  each_convert [] at lies sub = tt
  each_convert ((D.Mapping place name sides cs) ∷ more) at lies sub =
      let n = number_at name.text (here_taken at place name sides cs more lies) in
      let d : Def = D.Mapping place name sides cs in
      let all : List ℕ = flat_map (mapping_clause_callees Patterns (known_in text)) cs in (
        clauses_convert name.text cs (λ q h.
            edge_lower name.text q n.1 (sub (number_of text name.text) q
            (edge_left (edges Patterns (known_in text) d) (all_edges Patterns (known_in text) more) (number_of text name.text) q
            (subst (λ o. edge_in (edges_to o all) (number_of text name.text) q ≡ true) (sym n.0) (edges_held (number_of text name.text) q all h))))),
        each_convert more (at + 1) (lies_on at d more lies)
            (λ p q h. sub p q (edge_right (edges Patterns (known_in text) d) (all_edges Patterns (known_in text) more) p q h)),
      )
  each_convert (d ∷ more) at lies sub =
      each_convert more (at + 1) (lies_on at d more lies)
      (λ p q h. sub p q (edge_right (edges Patterns (known_in text) d) (all_edges Patterns (known_in text) more) p q h))

  pub all_convert : AllConvert text
  all_convert = each_convert text 0 (λ name test h. h) (λ p q h. h)

  -- ---- what a name takes as the head of a pattern

  abbrev own : List ℕ → Option Meant
  own = own_in (tabled_of text) text

  -- by what the tables know of the name
  abbrev Leads : (ℕ → Type 0) → List ℕ → Type 0
  Leads can name =
      (q : ℕ) → mappings_of_global ((known_in text).value name) ≡ (q ∷ []) → q < size → (k : ℕ) → slice_get (nodes text) k ≡ Some q
      → can (2 * k) × can (suc (2 * k))

  head_ways : (can : ℕ → Type 0) (name : List ℕ) → Leads can name → (f : Candidate) (doing : Doing) → f.doing ≡ doing
      → TakenBy text name doing → DoesBy text name doing → HeadWays can doing
  head_ways can name leads f (Does.Calls (C.Converts n)) e taken_so way =
      let first = direction_first text clear has_all name taken_so in
      let known = direction_known_as text clear has_all name first.0 first.1 first.2 in
      let d : ℕ = first.0.definition in
      let same : number_of text way.1 ≡ d = way_number text clear has_all n name way first.0 first.1 first.2 in
      let lt = text_below (is_among (Globals.members text)) name 0 text first.0 first.1 in
      let can_both = leads d (ap mappings_of_global known) (subst (λ m. d < m) (zero-add size) lt) way.0 (way.2 ∙ ap Some same) in
      elim way.4 [
        | inl ahead ↦ subst can (sym ahead.0) can_both.0
        | inr back ↦ subst can (sym back.0) can_both.1
      ]
  head_ways can name leads f doing e taken_so way = tt

  own_ways : (can : ℕ → Type 0) (name : List ℕ) → Leads can name → (o : Option Meant) → own name ≡ o → MaybeBy text name o → Ways can o
  own_ways can name leads (Some (M.Mapping m)) e there =
      let taken_so = Names.own_meant (tabled_of text) (all_namings text) clear.names (Valued.free text clear has_all) (entries (tabled_of text) text)
      (Valued.are text clear has_all) (Valued.there text clear has_all) (Valued.declares text clear has_all) name (M.Mapping m) e in
      let first = mapping_first text clear has_all name taken_so in
      let known = mapping_known_as text clear has_all name first.0 first.1 first.2 in
      let d : ℕ = first.0.definition in
      let lt = text_below (is_among (Globals.members text)) name 0 text first.0 first.1 in
      leads d (ap mappings_of_global known) (subst (λ n. d < n) (zero-add size) lt) m.number
      (there ∙ ap Some (ap (λ g. or_zero (number_named g)) known))
  own_ways can name leads (Some (M.Callee f)) e does =
      head_ways can name leads f f.doing refl
      (taken_by f.doing f.params
      (Names.own_meant (tabled_of text) (all_namings text) clear.names (Valued.free text clear has_all) (entries (tabled_of text) text)
      (Valued.are text clear has_all) (Valued.there text clear has_all) (Valued.declares text clear has_all) name (M.Callee f) e)) does
    where
      taken_by : (doing : Doing) (params : List Shape) → CalleeIs (tabled_of text) (all_namings text) name doing params → TakenBy text name doing
      taken_by (Does.Calls (C.Converts n)) params h = h
      taken_by doing params h = tt
  own_ways can name leads (Some (M.Row row)) e by = tt
  own_ways can name leads (Some (M.Overload fs)) e by = tt
  own_ways can name leads (Some (M.Register r s)) e by = tt
  own_ways can name leads (Some (M.Let i s)) e by = tt
  own_ways can name leads (Some (M.Member i k)) e by = tt
  own_ways can name leads None e by = tt

  together : (can : ℕ → Type 0) (lets : List Local) (name : List ℕ) (o : Option Meant) (row : Option Row) (fs : List Candidate) → Ways can o
      → Ways can (or_overload (or_row (option_or o (let_in 0 lets name)) row) fs)
  together can lets name (Some m) row fs h = h
  together can lets name None row fs h = by_let (let_in 0 lets name) (λ some. let_found 0 lets name some)
    where
      by_overload : (fs : List Candidate) → Ways can (or_overload None fs)
      by_overload [] = tt
      by_overload (f ∷ fs) = tt

      by_row : (row : Option Row) → Ways can (or_overload (or_row None row) fs)
      by_row None = by_overload fs
      by_row (Some r) = tt

      by_let : (o : Option Meant) → (is_some o ≡ true → LetFound o) → Ways can (or_overload (or_row o row) fs)
      by_let None f = by_row row
      by_let (Some m) f = subst (λ x. Ways can (or_overload (or_row x row) fs)) (sym (f refl).2) tt

  value_ways : (can : ℕ → Type 0) (lets : List Local) (name : List ℕ) → Leads can name
      → Ways can (value_of (tabled_of text).types own text lets name)
  value_ways can lets name leads =
      together can lets name (own name) (row_named name) (candidates (added_to_name (tabled_of text).types own text name))
      (own_ways can name leads (own name) refl (own_by text clear has_all name))

  -- in the patterns of a mapping
  pub mapping_ways : (base : List ℕ) (k : ℕ) → slice_get (nodes text) k ≡ Some (number_of text base) → (lets : List Local) (name : List ℕ)
      → list_all (converts base) (mappings_of_global ((known_in text).value name)) ≡ true
      → Ways (λ i. rank i < rank (2 * k)) (value_of (tabled_of text).types own text lets name)
  mapping_ways base k there lets name all =
      value_ways (λ i. rank i < rank (2 * k)) lets name (λ q is lt j at.
      let r = rank_at j q at in
      let own_rank = rank_at k (number_of text base) there in
      let c : converts base q ≡ true =
      (and_parts (converts base q) true (subst (λ qs. list_all (converts base) qs ≡ true) is all)).0 in
      let less : found_ranks.rank q < found_ranks.rank (number_of text base) = lower base q (got_held (nodes text) j q at) lt c in (
        subst (λ n. n < rank (2 * k)) (sym r.0) (subst (λ n. found_ranks.rank q < n) (sym own_rank.0) less),
        subst (λ n. n < rank (2 * k)) (sym r.1) (subst (λ n. found_ranks.rank q < n) (sym own_rank.0) less),
      ))
    where
      below : (x n : ℕ) → nat_lt x n ≡ true → x < n
      below x n h = (Decides-ltb x n).0 h

      above : (x n : ℕ) → x < n → nat_lt x n ≡ true
      above x n h = (Decides-ltb x n).1 h

      by : (a b : Bool) (x n : ℕ) → a ≡ true → b ≡ true → (not (a && b) || nat_lt x n) ≡ true → x < n
      by true true x n h l c = below x n c
      by true false x n h l c = no l
      by false b x n h l c = no h

      lower : (base : List ℕ) (q : ℕ) → keeps q ≡ true → q < size → converts base q ≡ true
          → found_ranks.rank q < found_ranks.rank (number_of text base)
      lower base q h lt c = by (keeps q) (nat_lt q size) (found_ranks.rank q) (found_ranks.rank (number_of text base)) h (above q size lt) c

  -- in others
  pub all_ways : (limit : ℕ) → length (nodes text) ≤ limit → (lets : List Local) (name : List ℕ)
      → Ways (λ i. rank i < limit) (value_of (tabled_of text).types own text lets name)
  all_ways limit le lets name =
      value_ways (λ i. rank i < limit) lets name (λ q is lt j at.
      let r = rank_at j q at in
      let few = rank_few q lt (got_held (nodes text) j q at) in (
        subst (λ n. n < limit) (sym r.0) (omega (arith, few, le)),
        subst (λ n. n < limit) (sym r.1) (omega (arith, few, le)),
      ))

  -- ---- each mapping of the text

  among : (name : List ℕ) (cs : List MappingClause) → ClausesConvert name cs → CalleesAmong text (converts name) cs
  among name [] h = tt
  among name (c ∷ cs) h = (h.0, among name cs h.1)

  each_ranked : (more : List Def) (k : ℕ) (before : List ℕ) → nodes text ≡ (before ++ joined (map (nodes_by text) more)) → length before ≡ k
      → AllConvert more → MappingsRanked text rank k more
  each_ranked [] k before is many all = tt
  each_ranked ((D.Mapping place name sides cs) ∷ more) k before is many all =
      let there : slice_get (nodes text) k ≡ Some (number_of text name.text) =
      (λ j. slice_get (is j) (sym many j)) ∙ there_behind before (number_of text name.text) (joined (map (nodes_by text) more)) in
      let ahead : WaysBelow text rank (rank (2 * k)) (converts name.text) =
      λ other h. mapping_ways name.text k there (all_lets (tabled_of text) text) other h in (
        record {
          converts = converts name.text;
          callees = among name.text cs all.0;
          ahead = ahead;
          back = subst (λ n. WaysBelow text rank n (converts name.text)) (sym (rank_alike k (number_of text name.text) there)) ahead;
        },
        each_ranked more (suc k) (before ++ number_of text name.text ∷ [])
            (is ∙ join_again before (number_of text name.text ∷ []) (joined (map (nodes_by text) more)))
            (one_more before (number_of text name.text) ∙ ap suc many) all.1,
      )
  each_ranked (d ∷ more) k before is many all = each_ranked more k before is many all

  pub mappings_ranked : MappingsRanked text rank 0 text
  mappings_ranked = each_ranked text 0 [] refl refl all_convert

  -- ---- directions by their numbers

  next_twice : (a b : ℕ) → a ≡ (2 * b) → suc (suc a) ≡ (2 * suc b)
  next_twice a b h = omega (arith, h)

  abbrev directions_in : List Def → List Direction
  directions_in more = joined (map (directions_of (tabled_of text) (setting_in (tabled_of text) text [])) more)

  directions_many : (more : List Def) → EachKnown (tabled_of text) text (setting_in (tabled_of text) text) more
      → length (directions_in more) ≡ (2 * length (joined (map (nodes_by text) more)))
  directions_many [] known = nothing_twice
    where
      nothing_twice : 0 ≡ (2 * 0)
      nothing_twice = omega arith
  directions_many ((D.Mapping place name sides cs) ∷ more) known =
      ap (λ o. length (directions_if (setting_in (tabled_of text) text []) place name.text cs o ++ directions_in more)) known.0.1
      ∙ next_twice (length (directions_in more)) (length (joined (map (nodes_by text) more))) (directions_many more known.1)
  directions_many (d ∷ more) known = directions_many more known.1

  -- each has a rank below how many there are
  pub directions_few : EachKnown (tabled_of text) text (setting_in (tabled_of text) text) text → (i : ℕ) → i < length (directions_in text)
      → rank i < length (directions_in text)
  directions_few known i lt =
      let many = directions_many text known in
      let few = ranks_few i (subst (λ n. i < n) many lt) in
      subst (λ n. rank i < n) (sym many) (above (length (nodes text)) (rank i) few)
    where
      above : (n k : ℕ) → k < n → k < (2 * n)
      above n k lt = omega (arith, lt)

  -- and any name leads to such
  pub name_ways : EachKnown (tabled_of text) text (setting_in (tabled_of text) text) text → (variables : List Variable) (name : List ℕ)
      → Ways (λ i. rank i < length (directions_in text)) ((setting_in (tabled_of text) text variables).value name)
  name_ways known variables name =
      all_ways (length (directions_in text)) (enough (length (nodes text)) (length (directions_in text)) (directions_many text known))
      (all_lets (tabled_of text) text) name
    where
      enough : (n k : ℕ) → k ≡ (2 * n) → n ≤ k
      enough n k is = omega (arith, is)
