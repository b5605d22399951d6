-- The names that the walk over a pattern finds are of those that it binds, in their order.
use Rattle.std.proofs.Common.{◌≡◌, ℕ, ℤ, nat_eq, Bool, true, false, List, [], ◌∷◌, ◌++◌, map, length, slice_get, Option, Some, None, refl, sym, ap, ◌∙◌, subst}
use Rattle.std.proofs.Common.{if◌then◌else◌, not, ◌&&◌, ◌||◌, bytes_eq}
use Rattle.sail_base.specs.declared.place.Place.{Place}
use Rattle.model_state.specs.declared.state.Register.{Register}
use Rattle.sail_core.specs.declared.model.CoreModel.{CoreModel}
use Rattle.sail_core.specs.declared.model.Direction.{Direction}
use Rattle.sail_core.specs.declared.model.Opening.{Opening}
use Rattle.sail_core.specs.declared.patterns.Arm.{Arm}
use Rattle.sail_core.specs.declared.patterns.Arm.TheVariants as A
use Rattle.sail_core.specs.declared.patterns.Form.{Form}
use Rattle.sail_core.specs.declared.patterns.Form.TheVariants as F
use Rattle.sail_core.specs.declared.patterns.Head.{Head}
use Rattle.sail_core.specs.declared.patterns.Head.TheVariants as H
use Rattle.sail_core.specs.declared.patterns.Literal.{Literal}
use Rattle.sail_core.specs.declared.patterns.Literal.TheVariants as L
use Rattle.sail_core.specs.declared.patterns.Pattern.{Pattern, Pattern-F, fold-roll-Pattern, ind-Pattern, map-Pattern, roll-Pattern}
use Rattle.sail_types.specs.declared.numbers.Num.{Num}
use Rattle.value_indices.specs.Steps.{Walk, bind, facts_here, give}
use Rattle.value_indices.specs.declared.indices.Indices.{Indices, out-Indices}
use Rattle.value_indices.specs.declared.indices.Indices.TheOpen as W
use Rattle.value_indices.specs.declared.indices.Indices.TheOpen.{Indices-F}
use Rattle.value_indices.specs.declared.indices.Indices.TheVariants as I
use Rattle.value_indices.specs.declared.indices.Naming.{Naming, Naming-F, out-Naming}
use Rattle.value_indices.specs.declared.indices.Naming.TheOpen as G
use Rattle.value_indices.specs.declared.indices.Reading.{Reading}
use Rattle.value_indices.specs.declared.notes.Fact.{Fact}
use Rattle.pattern_leaves.specs.Annotations.{written_at}
use Rattle.pattern_leaves.specs.Literals.{integer_met, is_of, literal_met, met_where, no_names, with_bits, with_integer, wrong_pattern}
use Rattle.pattern_leaves.specs.Settings.{Around, bound, written_in}
use Rattle.pattern_leaves.specs.declared.names.Bound.{Bound}
use Rattle.pattern_leaves.specs.declared.names.TopLevel.{TopLevel}
use Rattle.pattern_notes.specs.Patterns.{Look, after_inner, also, annotated_met, arm_written, cons_met, direction_met, each_match, each_met_never, form_match}
use Rattle.pattern_notes.specs.Patterns.{head_met}
use Rattle.pattern_notes.specs.Patterns.{inside, item_met, items_met, look, look_form, looks, one_match, opens_met, option_of, parts_match, result_of}
use Rattle.pattern_notes.specs.Patterns.{typed_met, union_met}
use Rattle.pattern_notes.specs.declared.matching.Matching.{Matching}
use Rattle.expression_steps.specs.Expressions.{part}
use Rattle.expression_steps.specs.Statements.{is_written, written_aim}
use Rattle.value_laws.proofs.Basics.{no}
use Rattle.pattern_laws.specs.Typing.{is_again}
use Rattle.whole_runs.specs.Initials.{pure_around}
use Rattle.whole_runs.specs.Lets.{let_found}
use Rattle.whole_runs.specs.Told.{are_apart}
use Rattle.safe_models.specs.Names.{binds_once, form_names, in_order, is_among, once_each, pattern_names}
use Rattle.safe_models.proofs.Within.{Within, once_within, within_first, within_joined, within_none, within_self}

abbrev spelled : List Bound → List (List ℕ)
spelled bs = map (λ (b : Bound). b.name) bs

-- a walk whose names are of these
abbrev Finds : List (List ℕ) → Walk (List Bound) → Type 0
Finds ns walk = (facts : List Fact) (n : ℕ) → Within (spelled (walk facts n).value) ns

-- ---- steps

then_finds : {A : Type 0} (ns : List (List ℕ)) (w : Walk A) (k : A → Walk (List Bound)) → ((a : A) → Finds ns (k a)) → Finds ns (bind w k)
unfolding bind
then_finds ns w k h facts n = let a = w facts n in h a.value a.facts a.next

gives_found : (ns : List (List ℕ)) (bs : List Bound) → Within (spelled bs) ns → Finds ns (give bs)
unfolding give
gives_found ns bs h facts n = h

nothing_found : (ns : List (List ℕ)) → Finds ns no_names
nothing_found ns = gives_found ns [] (within_none ns)

wrong_finds : (ns : List (List ℕ)) (place : Place) → Finds ns (wrong_pattern place)
wrong_finds ns place = then_finds ns _ _ (λ t. gives_found ns [] (within_none ns))

spelled_both : (bs cs : List Bound) → spelled (bs ++ cs) ≡ (spelled bs ++ spelled cs)
spelled_both [] cs = refl
spelled_both (b ∷ bs) cs = ap (λ ns. b.name ∷ ns) (spelled_both bs cs)

also_finds : (ms ns : List (List ℕ)) (first others : Walk (List Bound)) → Finds ms first → Finds ns others → Finds (ms ++ ns) (also first others)
unfolding also bind give
also_finds ms ns first others h k facts n =
    let a = first facts n in
    let b = others a.facts a.next in
    subst (λ all. Within all (ms ++ ns)) (sym (spelled_both a.value b.value))
    (within_joined (spelled a.value) (spelled b.value) ms ns (h facts n) (k a.facts a.next))

after_finds : (ns : List (List ℕ)) (inner : Walk (List Bound)) (owes : List Fact → Walk (Unit {0})) → Finds ns inner → Finds ns (after_inner inner owes)
unfolding after_inner bind facts_here give
after_finds ns inner owes h facts n = h facts n

-- a type that is written at a name changes no name
written_name : (form : Naming-F Naming) (r : Reading) (b : Bound) → (written_at form r b).name ≡ b.name
written_name (G.Named name) r b = by (bytes_eq b.name name)
  where
    by : (c : Bool) → (if c then record b { written = Some r } else b).name ≡ b.name
    by true = refl
    by false = refl
written_name form r b = refl

written_names : (form : Naming-F Naming) (r : Reading) (bs : List Bound) → spelled (map (written_at form r) bs) ≡ spelled bs
written_names form r [] = refl
written_names form r (b ∷ bs) = λ j. written_name form r b j ∷ written_names form r bs j

typed_finds : (ns : List (List ℕ)) (form : Naming-F Naming) (r : Reading) (inner : Walk (List Bound)) → Finds ns inner
    → Finds ns (bind inner (λ found. give (map (written_at form r) found)))
unfolding bind give
typed_finds ns form r inner h facts n = subst (λ all. Within all ns) (sym (written_names form r (inner facts n).value)) (h facts n)

module _ (around : Around) where
  abbrev LookFinds : List (List ℕ) → Look → Type 0
  LookFinds ns p = (how : Matching) (i : Indices) → Finds ns (p.match_with around how i)

  abbrev AllFind : List (List (List ℕ)) → List Look → Type 0
  AllFind [] [] = Unit {0}
  AllFind (ns ∷ more) (p ∷ ps) = LookFinds ns p × AllFind more ps
  AllFind more ps = ⊥

  -- ---- parts

  in_order_finds : (place : Place) (how : Matching) (nss : List (List (List ℕ))) (ps : List Look) → AllFind nss ps → (is : List Indices)
      → Finds (in_order nss) (each_match place ps around how is)
  in_order_finds place how [] [] h [] = nothing_found []
  in_order_finds place how [] [] h (i ∷ is) = wrong_finds [] place
  in_order_finds place how (ns ∷ nss) (p ∷ ps) h [] = wrong_finds (in_order (ns ∷ nss)) place
  in_order_finds place how (ns ∷ nss) (p ∷ ps) h (i ∷ is) =
      also_finds ns (in_order nss) _ _ (h.0 (inside how) i) (in_order_finds place how nss ps h.1 is)
  in_order_finds place how [] (p ∷ ps) h is = absurd h
  in_order_finds place how (ns ∷ nss) [] h is = absurd h

  parts_find : (place : Place) (how : Matching) (nss : List (List (List ℕ))) (ps : List Look) → AllFind nss ps → (is : List Indices)
      → Finds (in_order nss) (parts_match place ps around how is)
  parts_find place how nss ps h is = by (nat_eq (length ps) (length is))
    where
      by : (b : Bool) → Finds (in_order nss) (if b then each_match place ps around how is else wrong_pattern place)
      by true = in_order_finds place how nss ps h is
      by false = wrong_finds (in_order nss) place

  item_finds : (place : Place) (how : Matching) (ns : List (List ℕ)) (p : Look) → LookFinds ns p → (r : Reading) → Finds ns (item_met place p around how r)
  item_finds place how ns p h r = then_finds ns _ _ (λ i. h (inside how) i)

  items_find : (place : Place) (how : Matching) (nss : List (List (List ℕ))) (ps : List Look) → AllFind nss ps → (r : Reading)
      → Finds (in_order nss) (items_met place ps around how r)
  items_find place how [] [] h r = nothing_found []
  items_find place how (ns ∷ nss) (p ∷ ps) h r =
      also_finds ns (in_order nss) _ _ (item_finds place how ns p h.0 r) (items_find place how nss ps h.1 r)
  items_find place how [] (p ∷ ps) h r = absurd h
  items_find place how (ns ∷ nss) [] h r = absurd h

  cons_finds : (place : Place) (how : Matching) (nss : List (List (List ℕ))) (ps : List Look) → AllFind nss ps → (r : Reading)
      → Finds (in_order nss) (cons_met place ps around how r)
  cons_finds place how (ns ∷ ms ∷ []) (p ∷ q ∷ []) h r =
      also_finds ns (ms ++ []) _ _ (item_finds place how ns p h.0 r)
      (λ facts n. within_first _ ms [] (h.1.0 (inside how) (I.List r) facts n))
  cons_finds place how [] [] h r = wrong_finds [] place
  cons_finds place how (ns ∷ []) (p ∷ []) h r = wrong_finds (ns ++ []) place
  cons_finds place how (ns ∷ ms ∷ ls ∷ nss) (p ∷ q ∷ k ∷ ps) h r = wrong_finds (in_order (ns ∷ ms ∷ ls ∷ nss)) place
  cons_finds place how [] (p ∷ ps) h r = absurd h
  cons_finds place how (ns ∷ nss) [] h r = absurd h
  cons_finds place how (ns ∷ []) (p ∷ q ∷ ps) h r = absurd h.1
  cons_finds place how (ns ∷ ms ∷ nss) (p ∷ []) h r = absurd h.1
  cons_finds place how (ns ∷ ms ∷ []) (p ∷ q ∷ k ∷ ps) h r = absurd h.1.1
  cons_finds place how (ns ∷ ms ∷ ls ∷ nss) (p ∷ q ∷ []) h r = absurd h.1.1

  never_finds : (how : Matching) (nss : List (List (List ℕ))) (ps : List Look) → AllFind nss ps → Finds (in_order nss) (each_met_never ps around how)
  never_finds how [] [] h = nothing_found []
  never_finds how (ns ∷ nss) (p ∷ ps) h = also_finds ns (in_order nss) _ _ (h.0 (inside how) I.Never) (never_finds how nss ps h.1)
  never_finds how [] (p ∷ ps) h = absurd h
  never_finds how (ns ∷ nss) [] h = absurd h

  -- ---- literals find none

  integer_finds : (ns : List (List ℕ)) (in_case : Bool) (z : ℤ) (t : Num) → Finds ns (integer_met in_case z t)
  integer_finds ns true z t = then_finds ns _ _ (λ u. nothing_found ns)
  integer_finds ns false z t = nothing_found ns

  where_finds : (ns : List (List ℕ)) (place : Place) (b : Bool) → Finds ns (met_where place b)
  where_finds ns place true = nothing_found ns
  where_finds ns place false = wrong_finds ns place

  with_integer_finds : (ns : List (List ℕ)) (place : Place) (in_case : Bool) (t : Num) (l : Literal) → Finds ns (with_integer place in_case t l)
  with_integer_finds ns place in_case t (L.Integer z) = integer_finds ns in_case z t
  with_integer_finds ns place in_case t l = wrong_finds ns place

  with_bits_finds : (ns : List (List ℕ)) (place : Place) (t : Num) (l : Literal) → Finds ns (with_bits place t l)
  with_bits_finds ns place t (L.Bits bits) = then_finds ns _ _ (λ u. nothing_found ns)
  with_bits_finds ns place t l = wrong_finds ns place

  literal_finds : (ns : List (List ℕ)) (place : Place) (in_case : Bool) (l : Literal) (i : Indices-F Indices Reading)
      → Finds ns (literal_met place in_case l i)
  literal_finds ns place in_case l W.Never = nothing_found ns
  literal_finds ns place in_case l (W.Integer t) = with_integer_finds ns place in_case t l
  literal_finds ns place in_case l (W.Bits t) = with_bits_finds ns place t l
  literal_finds ns place in_case l i = where_finds ns place (is_of l i)

  -- ---- heads

  union_finds : (ns : List (List ℕ)) (place : Place) (same : Bool) (walk : Walk (List Bound)) → Finds ns walk → Finds ns (union_met place same walk)
  union_finds ns place true walk h = h
  union_finds ns place false walk h = wrong_finds ns place

  head_finds : (place : Place) (head : Head) (how : Matching) (nss : List (List (List ℕ))) (ps : List Look) → AllFind nss ps
      → (i : Indices-F Indices Reading) → Finds (in_order nss) (head_met place head ps around how i)
  head_finds place (H.Is l) how nss ps h i = literal_finds (in_order nss) place how.in_case l i
  head_finds place H.Tuple how nss ps h (W.Tuple is) = parts_find place how nss ps h is
  head_finds place H.Tuple how nss ps h i = wrong_finds (in_order nss) place
  head_finds place (H.Constructor u c) how nss ps h (W.Named v is rs) =
      union_finds (in_order nss) place _ _ (then_finds (in_order nss) _ _ (λ js. parts_find place how nss ps h js))
  head_finds place (H.Constructor u c) how nss ps h i = wrong_finds (in_order nss) place
  head_finds place H.Vector how nss ps h (W.Vector n r) = after_finds (in_order nss) _ _ (items_find place how nss ps h r)
  head_finds place H.Vector how nss ps h i = wrong_finds (in_order nss) place
  head_finds place H.List how nss ps h (W.List r) = items_find place how nss ps h r
  head_finds place H.List how nss ps h i = wrong_finds (in_order nss) place
  head_finds place H.Cons how nss ps h (W.List r) = cons_finds place how nss ps h r
  head_finds place H.Cons how nss ps h i = wrong_finds (in_order nss) place
  head_finds place (H.Cut ws) how nss ps h (W.Bits w) =
      after_finds (in_order nss) _ _ (then_finds (in_order nss) _ _ (λ js. parts_find place how nss ps h js))
  head_finds place (H.Cut ws) how nss ps h i = wrong_finds (in_order nss) place

  opens_find : (place : Place) (head : Head) (how : Matching) (nss : List (List (List ℕ))) (ps : List Look) → AllFind nss ps
      → (i : Indices-F Indices Reading) → Finds (in_order nss) (opens_met place head ps around how i)
  opens_find place head how nss ps h W.Never = never_finds how nss ps h
  opens_find place head how nss ps h i = head_finds place head how nss ps h i

  -- ---- forms

  direction_finds : (place : Place) (d : ℕ) (o : Option Direction) (gives : Direction → Reading) (how : Matching) (ns : List (List ℕ)) (p : Look)
      → LookFinds ns p → (i : Indices) → Finds ns (direction_met place d o gives p around how i)
  direction_finds place d None gives how ns p h i = wrong_finds ns place
  direction_finds place d (Some m) gives how ns p h i =
      then_finds ns _ _ (λ t. after_finds ns _ _ (item_finds place how ns p h (gives m)))

  alone_finds : (ns : List (List ℕ)) (walk : Walk (List Bound)) → Finds ns walk → Finds (ns ++ []) walk
  alone_finds ns walk h facts n = within_first _ ns [] (h facts n)

  abbrev FormFinds : Place → Form → Matching → List (List (List ℕ)) → List Look → Indices → Type 0
  FormFinds place form how nss ps i = Finds (form_names form nss) (form_match place form ps around how i)

  as_finds : (name : List ℕ) (ns : List (List ℕ)) (walk : Walk (List Bound)) (i : Indices) → Finds ns walk
      → Finds ((ns ++ []) ++ name ∷ []) (bind walk (λ found. give (found ++ bound name i ∷ [])))
  unfolding bind give
  as_finds name ns walk i h facts n =
      let found = (walk facts n).value in
      subst (λ all. Within all ((ns ++ []) ++ name ∷ [])) (sym (spelled_both found (bound name i ∷ [])))
      (within_joined (spelled found) (name ∷ []) (ns ++ []) (name ∷ []) (within_first (spelled found) ns [] (h facts n)) (within_self (name ∷ [])))

  form_finds : (place : Place) (form : Form) (how : Matching) (nss : List (List (List ℕ))) (ps : List Look) → AllFind nss ps → (i : Indices)
      → FormFinds place form how nss ps i
  form_finds place F.Any how nss [] h i = nothing_found (in_order nss)
  form_finds place F.Any how nss (p ∷ ps) h i = wrong_finds (in_order nss) place
  form_finds place (F.Binds name) how nss [] h i = gives_found (name ∷ []) (bound name i ∷ []) (within_self (name ∷ []))
  form_finds place (F.Binds name) how nss (p ∷ ps) h i = wrong_finds (name ∷ []) place
  form_finds place (F.As name) how (ns ∷ []) (p ∷ []) h i = as_finds name ns (p.match_with around how i) i (h.0 how i)
  form_finds place (F.As name) how [] [] h i = wrong_finds (name ∷ []) place
  form_finds place (F.As name) how (ns ∷ ms ∷ nss) (p ∷ q ∷ ps) h i = wrong_finds (in_order (ns ∷ ms ∷ nss) ++ name ∷ []) place
  form_finds place (F.As name) how [] (p ∷ ps) h i = absurd h
  form_finds place (F.As name) how (ns ∷ nss) [] h i = absurd h
  form_finds place (F.As name) how (ns ∷ []) (p ∷ q ∷ ps) h i = absurd h.1
  form_finds place (F.As name) how (ns ∷ ms ∷ nss) (p ∷ []) h i = absurd h.1
  form_finds place (F.Typed w) how (ns ∷ []) (p ∷ []) h i =
      alone_finds ns (typed_met place w p around how i)
      (typed_finds ns (out-Naming p.naming) (written_in around w) (annotated_met place w p around how i) (after_finds ns _ _ (h.0 (inside how) i)))
  form_finds place (F.Typed w) how [] [] h i = wrong_finds [] place
  form_finds place (F.Typed w) how (ns ∷ ms ∷ nss) (p ∷ q ∷ ps) h i = wrong_finds (in_order (ns ∷ ms ∷ nss)) place
  form_finds place (F.Typed w) how [] (p ∷ ps) h i = absurd h
  form_finds place (F.Typed w) how (ns ∷ nss) [] h i = absurd h
  form_finds place (F.Typed w) how (ns ∷ []) (p ∷ q ∷ ps) h i = absurd h.1
  form_finds place (F.Typed w) how (ns ∷ ms ∷ nss) (p ∷ []) h i = absurd h.1
  form_finds place (F.Opens head) how nss ps h i = opens_find place head how nss ps h (out-Indices i)
  form_finds place (F.Maps d) how (ns ∷ []) (p ∷ []) h i =
      alone_finds ns (direction_met place d (slice_get around.directions d) result_of p around how i)
      (direction_finds place d (slice_get around.directions d) result_of how ns p h.0 i)
  form_finds place (F.Maps d) how [] [] h i = wrong_finds [] place
  form_finds place (F.Maps d) how (ns ∷ ms ∷ nss) (p ∷ q ∷ ps) h i = wrong_finds (in_order (ns ∷ ms ∷ nss)) place
  form_finds place (F.Maps d) how [] (p ∷ ps) h i = absurd h
  form_finds place (F.Maps d) how (ns ∷ nss) [] h i = absurd h
  form_finds place (F.Maps d) how (ns ∷ []) (p ∷ q ∷ ps) h i = absurd h.1
  form_finds place (F.Maps d) how (ns ∷ ms ∷ nss) (p ∷ []) h i = absurd h.1
  form_finds place (F.Sees d) how (ns ∷ []) (p ∷ []) h i =
      alone_finds ns (direction_met place d (slice_get around.directions d) option_of p around how i)
      (direction_finds place d (slice_get around.directions d) option_of how ns p h.0 i)
  form_finds place (F.Sees d) how [] [] h i = wrong_finds [] place
  form_finds place (F.Sees d) how (ns ∷ ms ∷ nss) (p ∷ q ∷ ps) h i = wrong_finds (in_order (ns ∷ ms ∷ nss)) place
  form_finds place (F.Sees d) how [] (p ∷ ps) h i = absurd h
  form_finds place (F.Sees d) how (ns ∷ nss) [] h i = absurd h
  form_finds place (F.Sees d) how (ns ∷ []) (p ∷ q ∷ ps) h i = absurd h.1
  form_finds place (F.Sees d) how (ns ∷ ms ∷ nss) (p ∷ []) h i = absurd h.1

  -- ---- patterns

  Such : Pattern → Type 0
  Such p = LookFinds (pattern_names p) (look p)

  such_parts : (ys : List ((p : Pattern) × Such p)) → AllFind (map pattern_names (map (λ p. p.0) ys)) (map look (map (λ p. p.0) ys))
  unfolding Such
  such_parts [] = tt
  such_parts (p ∷ ys) = (p.1, such_parts ys)

  such_form : (p : Pattern-F ((p : Pattern) × Such p)) → Such (roll-Pattern (map-Pattern ((p : Pattern) × Such p) Pattern (λ q. q.0) p))
  unfolding Such
  such_form p =
      let bare : Pattern-F Pattern = map-Pattern ((p : Pattern) × Such p) Pattern (λ q. q.0) p in
      let parts : List Pattern = map (λ q. q.0) p.parts in
      subst (λ (ns : List (List ℕ)). LookFinds ns (look (roll-Pattern bare)))
      (sym (fold-roll-Pattern (List (List ℕ)) (λ p. form_names p.form p.parts) bare))
      (subst (LookFinds (form_names p.form (map pattern_names parts))) (sym (fold-roll-Pattern Look look_form bare))
      (λ how i. form_finds p.place p.form how (map pattern_names parts) (map look parts) (such_parts p.parts) i))

  such : (p : Pattern) → Such p
  such = ind-Pattern Such (λ e p is. subst (λ d. Such (roll-Pattern d)) is (such_form p))

  pub look_finds : (p : Pattern) → LookFinds (pattern_names p) (look p)
  unfolding Such
  look_finds p = such p

  arm_finds : (place : Place) (how : Matching) (arm : Arm) → binds_once arm ≡ true → (i : Indices)
      → (ns : List (List ℕ)) × (once_each ns ≡ true) × Finds ns (one_match place (looks arm) around how i)
  arm_finds place how (A.Nested []) once i = ([], refl, wrong_finds [] place)
  arm_finds place how (A.Nested (p ∷ [])) once i =
      (pattern_names p ++ [], once, alone_finds (pattern_names p) ((look p).match_with around how i) (look_finds p how i))
  arm_finds place how (A.Nested (p ∷ q ∷ ps)) once i = ([], refl, wrong_finds [] place)
  arm_finds place how (A.Flat count steps) once i = no once

-- ---- names of a top-level `let`

again_is : (name : List ℕ) (bs : List Bound) → is_again name bs ≡ is_among name (spelled bs)
again_is name [] = refl
again_is name (b ∷ bs) = ap (λ more. bytes_eq b.name name || more) (again_is name bs)

apart_is : (bs : List Bound) → are_apart bs ≡ once_each (spelled bs)
apart_is [] = refl
apart_is (b ∷ bs) = λ j. not (again_is b.name bs j) && apart_is bs j

pub names_apart : (m : CoreModel) (registers : List Register) (names : List TopLevel) (o : Opening) (arm : Arm) → binds_once arm ≡ true
    → are_apart (let_found m registers names o arm [] 0).value ≡ true
unfolding bind
names_apart m registers names o arm once =
    let around : Around = pure_around m registers names in
    let w = (part o.value).walk around [] (written_aim around (arm_written arm)) [] 0 in
    let how : Matching = record { in_case = false; is_owed = is_written (arm_written arm) && (part o.value).is_nested } in
    let found = arm_finds around o.place how arm once w.value in
    apart_is (let_found m registers names o arm [] 0).value
    ∙ once_within (spelled (let_found m registers names o arm [] 0).value) found.0 (found.2 w.facts w.next) found.1
