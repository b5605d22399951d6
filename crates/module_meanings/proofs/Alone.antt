-- Of one node's number and count of operands a body's tables say what values are made once, as its notes do.
use Rattle.std.proofs.Common.{◌≡◌, ◌∙◌, ℕ, zero, suc, nat_eq, ℤ, Bool, true, false, not, List, [], ◌∷◌, ◌++◌, length, map, Option, Some, None, refl, sym, ap}
use Rattle.std.proofs.Common.{eq-eqb, eqb-true, subst}
use Rattle.std.specs.Prelude.{◌&&◌, ◌||◌, slice_get, option_map, Ok}
use Rattle.std.specs.List.{list_all}
use Rattle.std.proofs.lemmas.Bool.{and_parts}
use Rattle.std.proofs.lemmas.List.{length-map}
use Rattle.std.proofs.lemmas.Option.{slice_get-map}
use Rattle.sail_types.specs.Places.{only}
use Rattle.sail_types.specs.declared.table.Types.{Types}
use Rattle.sail_core.specs.declared.model.CoreModel.{CoreModel}
use Rattle.sail_core.specs.declared.model.Direction.{Direction}
use Rattle.sail_core.specs.declared.model.Function.{Function}
use Rattle.sail_core.specs.declared.model.Opening.{Opening}
use Rattle.sail_core.specs.declared.tree.Callee.TheVariants as D
use Rattle.mappings.specs.Rewriting.{free_function, free_opening, without_mappings}
use Rattle.match_rewrite.specs.Rewriting.{flat_function, flat_opening, with_flat_arms}
use Rattle.value_indices.specs.declared.indices.Indices.{Indices}
use Rattle.value_indices.specs.declared.notes.Fact.{Fact}
use Rattle.value_indices.specs.declared.notes.Made.{Made}
use Rattle.value_indices.specs.Steps.{Note, call_note, given_note, goal_note, made_note, name_note, size_note, way_note}
use Rattle.size_values.specs.declared.sized.Sized.{Sized}
use Rattle.size_splits.specs.Bodies.{Body}
use Rattle.size_splits.specs.Sizing.{Sizing}
use Rattle.size_notes.specs.Bodies.{bodies_of, body_of, function_bodies, mapping_bodies, mapping_read, opening_body}
use Rattle.constraint_gen.specs.Models.{around_of, around_opening, around_with}
use Rattle.pattern_leaves.specs.Settings.{Around}
use Rattle.sized_nodes.specs.declared.trees.Instance.{Instance}
use Rattle.monomorph.specs.Instances.{model_of, or_none}
use Rattle.monomorph.specs.Lasts.{Model}
use Rattle.monomorph.specs.Reading.{Inside}
use Rattle.met_notes.specs.Met.{Pair, pairs}
use Rattle.node_counts.specs.Told.{NoteIn, all_noted, are_alike, are_apart, is_apart}
use Rattle.node_counts.proofs.Apart.{notes_are_apart}
use Rattle.sized_trees.specs.declared.combinations.Choice.{Choice}
use Rattle.sized_nodes.specs.declared.trees.Case.{Case}
use Rattle.sized_nodes.specs.declared.trees.Lead.{Lead}
use Rattle.sized_nodes.specs.declared.trees.NodeSizes.{NodeSizes}
use Rattle.sized_nodes.specs.declared.trees.NodeSizes.TheVariants as Z
use Rattle.sized_nodes.specs.declared.trees.SizedCore.{SizedCore}
use Rattle.sized_nodes.specs.declared.trees.SizedInstance.{SizedInstance}
use Rattle.sized_trees.specs.Bodies.{at_note, made_choices, node_cases, sized_body, value_at}
use Rattle.sized_trees.specs.Cases.{case_of, case_within, cases_under, one_or_none, sized_under}
use Rattle.sized_trees.specs.Trees.{sized_core, sized_instance}
use Rattle.sized_meanings.specs.Sized.{joined_nodes}
use Rattle.covering_laws.specs.Apart.{NumbersApart}
use Rattle.covering_laws.specs.Tested.{all_nodes, inside}
use Rattle.covering_laws.proofs.Across.{opening_there}
use Rattle.covering_laws.proofs.Joined.{accepted}
use Rattle.covering_laws.proofs.TabledNodes.{alone_there, nodes_joined}
use Rattle.lowered_pieces.specs.Nodes.{takes_many}
use Rattle.lowered_laws.specs.TablesTelling.{EachAlone, NoOtherCases, NoOtherLeads}
use Rattle.jib_lower.specs.Instances.{leads_alone, no_other_leads}

no : {X : Type 0} → false ≡ true → X
no e = cc

none : {A X : Type 0} (x : A) → None ≡ Some x → X
none x e = cc

some_same : {A : Type 0} (x y : A) → Some x ≡ Some y → x ≡ y
some_same x y e = cc

same_turned : (i j : ℕ) → nat_eq i j ≡ true → nat_eq j i ≡ true
same_turned i j e = eq-eqb j i (sym (eqb-true i j e))

-- ---- of each number and count of operands once

abbrev MakesAlone : List NodeSizes → Type 0
MakesAlone [] = Unit {0}
MakesAlone (Z.Makes j is cs ∷ nodes) = NoOtherCases j cs nodes × MakesAlone nodes
MakesAlone (node ∷ nodes) = MakesAlone nodes

leads_apart : (j : ℕ) (ls : List Lead) (nodes : List NodeSizes) → no_other_leads j nodes ≡ true → NoOtherLeads j ls nodes
leads_apart j ls [] h = tt
leads_apart j ls (Z.Calls i ms ∷ nodes) h =
    let both = and_parts (not (nat_eq j i)) (no_other_leads j nodes) h in
    (λ e. no (ap not (sym e) ∙ both.0), leads_apart j ls nodes both.1)
leads_apart j ls (Z.Makes i is cs ∷ nodes) h = leads_apart j ls nodes h
leads_apart j ls (Z.Gives g is ∷ nodes) h = leads_apart j ls nodes h

each_alone : (nodes : List NodeSizes) → MakesAlone nodes → leads_alone nodes ≡ true → EachAlone nodes
each_alone [] a h = tt
each_alone (Z.Calls j ls ∷ nodes) a h =
    let both = and_parts (no_other_leads j nodes) (leads_alone nodes) h in
    (leads_apart j ls nodes both.0, each_alone nodes a both.1)
each_alone (Z.Makes j is cs ∷ nodes) a h = (a.0, each_alone nodes a.1 h)
each_alone (Z.Gives g is ∷ nodes) a h = each_alone nodes a h

-- ---- the cases of a note take as many operands as it has

many_taken : (n : ℕ) (r : Inside) (is : List Indices) (i : Indices) (ks : List Choice) → takes_many n (cases_under r is i ks) ≡ true → length is ≡ n
many_taken n r is i [] h = no h
many_taken n r is i (k ∷ ks) h = by (case_within r is i k) (many_taken n r is i ks) h
  where
    one : (b : Bool) → nat_eq (length (case_of r is i k).takes) n ≡ b → (takes_many n (cases_under r is i ks) ≡ true → length is ≡ n)
        → (b || takes_many n (cases_under r is i ks)) ≡ true → length is ≡ n
    one true e more h = sym (length-map is (sized_under r k.noted)) ∙ eqb-true (length (case_of r is i k).takes) n e
    one false e more h = more h

    by : (b : Bool) → (takes_many n (cases_under r is i ks) ≡ true → length is ≡ n)
        → takes_many n (one_or_none (only b (case_of r is i k)) ++ cases_under r is i ks) ≡ true → length is ≡ n
    by true more h = one (nat_eq (length (case_of r is i k).takes) n) refl more h
    by false more h = more h

-- ---- notes that are apart

module _ (types : Types) (sizing : Sizing) (zs : List (Option ℤ)) (own : List Sized) (list : List Instance) where
  abbrev inside_of : Body → Inside
  inside_of b = inside types sizing zs own b

  abbrev nodes_of : List NoteIn → List NodeSizes
  nodes_of ys = all_nodes types sizing zs own list ys

  module _ (facts : List Fact) (k : ℕ) (is : List Indices) (made : Made) (cs : List Case) (many : (n : ℕ) → takes_many n cs ≡ true → length is ≡ n) where
    passed : (r : Inside) (y : Note) → are_alike (made_note facts k is made) y ≡ false → (rest : List NodeSizes) → NoOtherCases k cs rest
        → NoOtherCases k cs (at_note r list y ++ rest)
    passed r (made_note more j others value) h rest a = (
      λ n e c d. no (sym h ∙ alike j (length others) (same_turned k j e)
          (eq-eqb (length is) (length others) (many n c ∙ sym (many_taken n r others (value_at r value) (made_choices r more value) d)))),
      a,
    )
      where
        alike : (j l : ℕ) → nat_eq j k ≡ true → nat_eq (length is) l ≡ true → (nat_eq j k && nat_eq (length is) l) ≡ true
        alike j l e f = ap (λ b. b && nat_eq (length is) l) e ∙ f
    passed r (call_note more place j others (D.Function u) js qs) h rest a = a
    passed r (call_note more place j others (D.Row row) js qs) h rest a = a
    passed r (call_note more place j others (D.Constructor u c) js qs) h rest a = a
    passed r (call_note more place j others (D.Converts d) js qs) h rest a = a
    passed r (call_note more place j others (D.Applies d) js qs) h rest a = a
    passed r (given_note more j i) h rest a = a
    passed r (goal_note more place goal) h rest a = a
    passed r (size_note more place value) h rest a = a
    passed r (way_note more d) h rest a = a
    passed r (name_note w name) h rest a = a

    is_not : (b : Bool) → not b ≡ true → b ≡ false
    is_not true e = no e
    is_not false e = refl

    others_apart : (b : Body) (ys : List NoteIn) → list_all (is_apart (record { body = b; note = made_note facts k is made })) ys ≡ true
        → NoOtherCases k cs (nodes_of ys)
    others_apart b [] h = tt
    others_apart b (y ∷ ys) h =
        let x : NoteIn = record { body = b; note = made_note facts k is made } in
        let both = and_parts (is_apart x y) (list_all (is_apart x) ys) h in
        passed (inside_of y.body) y.note (is_not (are_alike (made_note facts k is made) y.note) both.0) (nodes_of ys) (others_apart b ys both.1)

  made_alone : (ys : List NoteIn) → are_apart ys ≡ true → MakesAlone (nodes_of ys)
  made_alone [] h = tt
  made_alone (y ∷ ys) h =
      let both = and_parts (list_all (is_apart y) ys) (are_apart ys) h in
      by y.note (λ facts k is made e.
      subst (λ (n : Note). list_all (is_apart (record { body = y.body; note = n })) ys ≡ true) e both.0) refl (made_alone ys both.1)
    where
      by : (n : Note)
          → ((facts : List Fact) (k : ℕ) (is : List Indices) (made : Made) → y.note ≡ made_note facts k is made
          → list_all (is_apart (record { body = y.body; note = made_note facts k is made })) ys ≡ true)
          → y.note ≡ n → MakesAlone (nodes_of ys) → MakesAlone (at_note (inside_of y.body) list n ++ nodes_of ys)
      by (made_note facts k is made) apart e a = (
        others_apart facts k is made (node_cases (inside_of y.body) facts is made)
            (λ n c. many_taken n (inside_of y.body) is (value_at (inside_of y.body) made) (made_choices (inside_of y.body) facts made) c) y.body ys
            (apart facts k is made e),
        a,
      )
      by (call_note more place j others (D.Function u) js qs) apart e a = a
      by (call_note more place j others (D.Row row) js qs) apart e a = a
      by (call_note more place j others (D.Constructor u c) js qs) apart e a = a
      by (call_note more place j others (D.Converts d) js qs) apart e a = a
      by (call_note more place j others (D.Applies d) js qs) apart e a = a
      by (given_note more j i) apart e a = a
      by (goal_note more place goal) apart e a = a
      by (size_note more place value) apart e a = a
      by (way_note more d) apart e a = a
      by (name_note w name) apart e a = a

-- ---- instances and openings of a core

-- of one node's number and count of operands the tables of instances of functions that are there, of mappings and of openings say what values are made once
pub record AllAlone (core : CoreModel) (sized : SizedCore) : Type 0 where
  pub instance : (p : ℕ) (s : SizedInstance) (f : Function) → slice_get sized.instances p ≡ Some s → slice_get core.functions s.instance.function ≡ Some f
      → leads_alone (joined_nodes s.bodies) ≡ true → EachAlone (joined_nodes s.bodies)
  pub mapping : (i : ℕ) (nodes : List NodeSizes) → slice_get sized.mappings i ≡ Some nodes → leads_alone nodes ≡ true → EachAlone nodes
  pub opening : (i : ℕ) (o : Opening) (nodes : List NodeSizes) → slice_get core.openings i ≡ Some o → slice_get sized.openings i ≡ Some nodes
      → leads_alone nodes ≡ true → EachAlone nodes

instance_there : (m : Model) (list xs : List Instance) (p : ℕ) (s : SizedInstance) → slice_get (map (sized_instance m list) xs) p ≡ Some s
    → (y : Instance) × (s ≡ sized_instance m list y)
instance_there m list xs p s e = by (slice_get xs p) refl
  where
    by : (o : Option Instance) → slice_get xs p ≡ o → (y : Instance) × (s ≡ sized_instance m list y)
    by None f = none s (sym (slice_get-map (sized_instance m list) xs p ∙ ap (option_map (sized_instance m list)) f) ∙ e)
    by (Some y) f =
        (y, sym (some_same (sized_instance m list y) s (sym (slice_get-map (sized_instance m list) xs p ∙ ap (option_map (sized_instance m list)) f) ∙ e)))

mapped_there : {A B : Type 0} (f : A → B) (xs : List A) (i : ℕ) (y : B) → slice_get (map f xs) i ≡ Some y → (x : A) × (slice_get xs i ≡ Some x)
mapped_there {A} {B} f xs i y e = by (slice_get xs i) refl
  where
    by : (o : Option A) → slice_get xs i ≡ o → (x : A) × (slice_get xs i ≡ Some x)
    by None h = none y (sym (slice_get-map f xs i ∙ ap (option_map f) h) ∙ e)
    by (Some x) h = (x, h)

-- the body of a mapping is that of its two directions
pair_there : (around : Around) (ds : List Direction) (i : ℕ) (b : Body) → slice_get (mapping_bodies around ds) i ≡ Some b
    → (p : Pair) × (slice_get (pairs ds) i ≡ Some p) × (b ≡ body_of (mapping_read around p.forwards p.backwards))
pair_there around [] i b e = none b e
pair_there around (d ∷ []) i b e = none b e
pair_there around (d ∷ n ∷ ds) zero b e = (
  record { forwards = d; backwards = n },
  refl,
  sym (some_same (body_of (mapping_read around d n)) b e),
)
pair_there around (d ∷ n ∷ ds) (suc i) b e = pair_there around ds i b e

module _ (m : CoreModel) (c : SizedCore) (apart : NumbersApart m) (found : sized_core m ≡ Ok c) where
  abbrev model : Model
  model = model_of m (bodies_of m)

  -- the instances that are listed
  abbrev list : List Instance
  list = (accepted m c found).0

  instance_alone : (p : ℕ) (s : SizedInstance) (f : Function) → slice_get c.instances p ≡ Some s → slice_get m.functions s.instance.function ≡ Some f
      → leads_alone (joined_nodes s.bodies) ≡ true → EachAlone (joined_nodes s.bodies)
  instance_alone p s f e is h =
      let at = instance_there model list list p s (ap (λ (d : SizedCore). slice_get d.instances p) (sym (accepted m c found).2) ∙ e) in
      let y : Instance = at.0 in
      let function : y.function ≡ s.instance.function = ap (λ (z : SizedInstance). z.instance.function) (sym at.1) in
      let bodies : or_none (slice_get model.bodies.functions y.function) ≡ function_bodies (around_of m) f =
      ap or_none (slice_get-map (function_bodies (around_of m)) m.functions y.function
      ∙ ap (option_map (function_bodies (around_of m))) (ap (slice_get m.functions) function ∙ is)) in
      let noted : List NoteIn = all_noted (function_bodies (around_of m) f) in
      let nodes : joined_nodes s.bodies ≡ all_nodes m.types model.sizing y.numbers y.types list noted =
      ap (λ (z : SizedInstance). joined_nodes z.bodies) at.1
      ∙ nodes_joined model list y.numbers y.types (or_none (slice_get model.bodies.functions y.function))
      ∙ ap (λ (bs : List Body). all_nodes m.types model.sizing y.numbers y.types list (all_noted bs)) bodies in
      each_alone (joined_nodes s.bodies)
      (subst MakesAlone (sym nodes)
      (made_alone m.types model.sizing y.numbers y.types list noted
      ((notes_are_apart (around_of m)).function f (apart.functions s.instance.function f is)))) h

  mapping_alone : (i : ℕ) (nodes : List NodeSizes) → slice_get c.mappings i ≡ Some nodes → leads_alone nodes ≡ true → EachAlone nodes
  mapping_alone i nodes e h = by (slice_get model.bodies.mappings i) refl
    where
      there : slice_get c.mappings i ≡ option_map (sized_body model list [] []) (slice_get model.bodies.mappings i)
      there =
          ap (λ (d : SizedCore). slice_get d.mappings i) (accepted m c found).2
          ∙ slice_get-map (sized_body model list [] []) model.bodies.mappings i

      by : (o : Option Body) → slice_get model.bodies.mappings i ≡ o → EachAlone nodes
      by None f = none nodes (sym (there ∙ ap (option_map (sized_body model list [] [])) f) ∙ e)
      by (Some b) f =
          let p = pair_there (around_of m) m.directions i b f in
          let whole : all_noted (b ∷ []) ≡ all_noted (body_of (mapping_read (around_of m) p.0.forwards p.0.backwards) ∷ []) =
          ap (λ (x : Body). all_noted (x ∷ [])) p.2 in
          let same : nodes ≡ all_nodes m.types model.sizing [] [] list (all_noted (b ∷ [])) =
          some_same nodes (sized_body model list [] [] b) (sym e ∙ there ∙ ap (option_map (sized_body model list [] [])) f)
          ∙ alone_there model list [] [] b in
          each_alone nodes
          (subst MakesAlone (sym same)
          (made_alone m.types model.sizing [] [] list (all_noted (b ∷ []))
          (ap are_apart whole ∙ (notes_are_apart (around_of m)).mapping p.0.forwards p.0.backwards (apart.mappings i p.0 p.1)))) h

  opening_alone : (i : ℕ) (o : Opening) (nodes : List NodeSizes) → slice_get m.openings i ≡ Some o → slice_get c.openings i ≡ Some nodes
      → leads_alone nodes ≡ true → EachAlone nodes
  opening_alone i o nodes is e h =
      let around : Around = around_opening m i in
      let b : Body = opening_body around o in
      let there : slice_get c.openings i ≡ Some (sized_body model list [] [] b) =
      ap (λ (d : SizedCore). slice_get d.openings i) (accepted m c found).2
      ∙ slice_get-map (sized_body model list [] []) model.bodies.openings i
      ∙ ap (option_map (sized_body model list [] [])) (opening_there (around_with m []) m.openings i o is) in
      let same : nodes ≡ all_nodes m.types model.sizing [] [] list (all_noted (b ∷ [])) =
      some_same nodes (sized_body model list [] [] b) (sym e ∙ there) ∙ alone_there model list [] [] b in
      each_alone nodes
      (subst MakesAlone (sym same)
      (made_alone m.types model.sizing [] [] list (all_noted (b ∷ [])) ((notes_are_apart around).opening o (apart.openings i o is)))) h

  -- of the core without mappings and with flat arms: its functions and openings stand where those of the core do
  pub all_alone : AllAlone (with_flat_arms (without_mappings m)) c
  all_alone = record {
    instance = λ p s f e is h.
        let g = mapped_there flat_function (map free_function m.functions) s.instance.function f is in
        let k = mapped_there free_function m.functions s.instance.function g.0 g.1 in
        instance_alone p s k.0 e k.1 h;
    mapping = mapping_alone;
    opening = λ i o nodes is e h.
        let g = mapped_there flat_opening (map free_opening m.openings) i o is in
        let k = mapped_there free_opening m.openings i g.0 g.1 in
        opening_alone i k.0 nodes k.1 e h;
  }
