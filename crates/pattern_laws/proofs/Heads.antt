-- Patterns that open tuples, vectors and lists.
use Rattle.std.proofs.Common.{◌≡◌, ℕ, suc, nat_eq, pos, Bool, true, false, ◌&&◌, List, [], ◌∷◌, ◌++◌, map, length, reverse, Some, refl, sym, ap, ◌∙◌, subst}
use Rattle.std.proofs.Common.{append-nil, if◌then◌else◌}
use Rattle.std.proofs.lemmas.List.{length-reverse, length-map}
use Rattle.std.proofs.lemmas.Bool.{and_parts}
use Rattle.std.proofs.lemmas.Bool.Decides.{Decides-eqb}
use Rattle.sail_base.specs.declared.place.Place.{Place}
use Rattle.sail_types.specs.Belongs.{Reading as Closed, belongs}
use Rattle.sail_types.specs.Numbers.{Positive, number}
use Rattle.sail_types.specs.Sums.{constant}
use Rattle.sail_types.proofs.Substituted.{number_constant}
use Rattle.sail_types.specs.declared.numbers.Num.{Num}
use Rattle.sail_types.specs.declared.values.Value.{Value, Value-F, out-Value}
use Rattle.sail_types.specs.declared.values.Value.TheOpen as V
use Rattle.sail_types.specs.declared.values.Value.TheVariants as VV
use Rattle.sail_core.specs.Run.{Local, Run, gives, ◌then◌}
use Rattle.sail_core.specs.Making.{Making, World, one_item}
use Rattle.sail_core.specs.declared.patterns.Head.TheVariants as H
use Rattle.sail_core.specs.Patterns.{Parts, parts_if, components, items, opened, so_many, as_run, Matcher, parts_match as run_parts}
use Rattle.value_indices.specs.declared.indices.Indices.{Indices}
use Rattle.value_indices.specs.declared.indices.Indices.TheOpen as W
use Rattle.value_indices.specs.declared.indices.Indices.TheVariants as I
use Rattle.value_indices.specs.declared.indices.Reading.{Reading}
use Rattle.value_indices.specs.declared.notes.Fact.{Fact}
use Rattle.value_indices.specs.Steps.{Walk, owe_under}
use Rattle.value_indices.specs.Opening.{equal}
use Rattle.checked_meaning.specs.Items.{Item, item, part_typ}
use Rattle.checked_meaning.specs.Checked.{Cases}
use Rattle.pattern_leaves.specs.declared.names.Bound.{Bound}
use Rattle.pattern_leaves.specs.Literals.{wrong_pattern}
use Rattle.pattern_leaves.specs.Settings.{Around}
use Rattle.pattern_notes.specs.declared.matching.Matching.{Matching}
use Rattle.pattern_notes.specs.Patterns.{Look, inside, each_match, parts_match, items_met, cons_met, vector_met, length_owed}
use Rattle.value_laws.specs.Belonging.{Integers, standing, Meant, meant, closed, has, form_holds, each_holds}
use Rattle.value_laws.specs.Known.{Point, Agree}
use Rattle.value_laws.proofs.Basics.{no}
use Rattle.value_laws.proofs.Steps.{same, agree_on}
use Rattle.pattern_laws.specs.Beside.{AllMet, Stands, Ends, OfSizes, Behind, Beside}
use Rattle.pattern_laws.specs.Typing.{Typing, Bears, AllBear, EachFits, NamesBear}
use Rattle.pattern_laws.specs.Standing.{each_stands}
use Rattle.pattern_laws.proofs.Conditions.{equal_numbers, goals_said}
use Rattle.pattern_laws.proofs.Steps.{wrongs, knowing, falling, ends_as, after_beside, owed_quiet, met_after}
use Rattle.pattern_laws.proofs.Literals.{pos_same}
use Rattle.pattern_laws.proofs.Values.{list_had, list_has, vector_had, tuple_had, long_as, vector_items, all_reversed, AllWide, list_wide, vector_wide}
use Rattle.pattern_laws.proofs.Values.{tuple_wide}
use Rattle.pattern_laws.proofs.Points.{names_on, AllOf, all_of}
use Rattle.pattern_laws.proofs.Parts.{reads, Grounds, grounds_on, Names, Well, AllWell, all_stand, also_beside, parts_beside, item_beside, items_beside}
use Rattle.pattern_laws.proofs.Parts.{as_many, not_owed, seen_parts}

module _ (around : Around) (past : Positive) (own : List Closed) {fit : OfSizes} (y : Typing around.types past own fit) (q : Ends fit) (cases : Cases)
    (w : World Item) where
  abbrev Found : Behind (List Bound) (List (Local Item))
  Found = Names around past own y q cases w

  abbrev Good : {n : ℕ} → Point n → Type 0
  Good f = Grounds around past own y q cases w f

  abbrev Fine : List Look → List (Matcher Item) → List Bool → Type 0
  Fine looks ms ss = AllWell around past own y q cases w looks ms ss

  abbrev Has : {n : ℕ} → Point n → Indices → Item → Type 0
  Has f i x = Bears around.types past own y f i x

  abbrev z : Making Item
  z = reads around past own y q cases w

  -- as many tests as patterns
  pub as_many_stand : (looks : List Look) (ms : List (Matcher Item)) (ss : List Bool) → Fine looks ms ss → length ss ≡ length ms
  as_many_stand [] [] [] h = refl
  as_many_stand [] [] (k ∷ ss) h = absurd h
  as_many_stand [] (m ∷ ms) ss h = absurd h
  as_many_stand (a ∷ looks) [] ss h = absurd h
  as_many_stand (a ∷ looks) (m ∷ ms) [] h = absurd h
  as_many_stand (a ∷ looks) (m ∷ ms) (k ∷ ss) h = ap suc (as_many_stand looks ms ss h.1)

  -- ---- tuples

  holds_long : (ms : List Meant) (vs : List Value) → each_holds ms vs ≡ true → length vs ≡ length ms
  holds_long [] [] h = refl
  holds_long [] (v ∷ vs) h = no h
  holds_long (m ∷ ms) [] h = no h
  holds_long (m ∷ ms) (v ∷ vs) h = ap suc (holds_long ms vs (and_parts (m.holds v) (each_holds ms vs) h).1)

  pub components_long : (x : Item) (k : ℕ) (vs : List Value) → length (components z x k vs) ≡ length vs
  components_long x k [] = refl
  components_long x k (v ∷ vs) = ap suc (components_long x (suc k) vs)

  components_bear : {n : ℕ} {f : Point n} (x : Item) (k : ℕ) (is : List Indices) (vs : List Value)
      → ((g : Integers) → Agree f g → each_holds (map (meant around.types (standing past g) own) is) vs ≡ true)
      → ((g : Integers) → Agree f g → AllWide around.types past own g f.integers is)
      → ((g : Integers) → Agree f g → EachFits around.types (y.fits g) x.typ k is)
      → AllBear around.types past own y f is (components z x k vs)
  components_bear x k [] [] h e t = tt
  components_bear {f = f} x k [] (v ∷ vs) h e t = no (h f.integers (same f))
  components_bear {f = f} x k (i ∷ is) [] h e t = no (h f.integers (same f))
  components_bear {f = f} x k (i ∷ is) (v ∷ vs) h e t =
      let parts : (g : Integers) → Agree f g → (has around.types (standing past g) own i v ≡ true)
      × (each_holds (map (meant around.types (standing past g) own) is) vs ≡ true) =
      λ g a. and_parts (has around.types (standing past g) own i v) (each_holds (map (meant around.types (standing past g) own) is) vs) (h g a) in (
        record {
          wide = (meant around.types (standing past f.integers) own i).wide;
          has_it = λ g a. (parts g a).0;
          is_wide = λ g a. (e g a).0;
          typed = λ g a. (t g a).0;
        },
        components_bear x (suc k) is vs (λ g a. (parts g a).1) (λ g a. (e g a).1) (λ g a. (t g a).1),
      )

  -- as many patterns as parts, or false is owed
  pub by_count : {n : ℕ} {f : Point n} {facts : List Fact} (place : Place) (how : Matching) (looks : List Look) (is : List Indices)
      {c : Run Item (List (Local Item))} → (length looks ≡ length is → Beside q past n f facts (parts_match place looks around how is) c Found)
      → Beside q past n f facts (parts_match place looks around how is) c Found
  by_count {n} {f} {facts} place how looks is {c} next = by (nat_eq (length looks) (length is)) refl
    where
      by : (b : Bool) → nat_eq (length looks) (length is) ≡ b → Beside q past n f facts (parts_match place looks around how is) c Found
      by true e = next ((Decides-eqb (length looks) (length is)).0 e)
      by false e =
          subst (λ b. Beside q past n f facts (if b then each_match place looks around how is else wrong_pattern place) c Found) (sym e) (wrongs place)

  pub tuple_beside : {n : ℕ} {f : Point n} {facts : List Fact} (place : Place) (how : Matching) (looks : List Look) (ms : List (Matcher Item))
      (ss : List Bool) → Fine looks ms ss → (is : List Indices) (x : Item) → Has f (I.Tuple is) x → Good f → each_stands ss ≡ true
      → (v : Value-F Value) → out-Value x.val ≡ v
      → Beside q past n f facts (parts_match place looks around how is)
      (as_run (so_many (length ms) (opened z w.numbers H.Tuple (length ms) x v)) then run_parts ms) Found
  tuple_beside {f = f} place how looks ms ss fine is x b s t (V.Tuple vs) e =
      let held : (g : Integers) → Agree f g → each_holds (map (meant around.types (standing past g) own) is) vs ≡ true =
      λ g a. ap (form_holds around.types (standing past g) own (W.Tuple (map (meant around.types (standing past g) own) is))) (sym e)
      ∙ tuple_had around.types past own g is x.val (b.has_it g a) in
      by_count place how looks is (λ count.
      let long : length vs ≡ length is =
      holds_long (map (meant around.types (standing past f.integers) own) is) vs (held f.integers (same f))
      ∙ length-map is (meant around.types (standing past f.integers) own) in
      seen_parts around past own y q cases w ms (components z x 0 vs)
      (components_long x 0 vs ∙ long ∙ sym count ∙ sym (as_many around past own y q cases w looks ms ss fine))
      (parts_beside around past own y q cases w place how looks ms ss fine is (components z x 0 vs)
      (components_bear x 0 is vs held
      (λ g a. tuple_wide around.types past own g f.integers is (b.is_wide g a ∙ sym (b.is_wide f.integers (same f))))
      (λ g a. y.kept.parts g is x.typ (b.typed g a)))
      s (all_stand around past own y q cases w ss t)))
  tuple_beside {f = f} place how looks ms ss fine is x b s t v e =
      no (ap (form_holds around.types (standing past f.integers) own (W.Tuple (map (meant around.types (standing past f.integers) own) is))) (sym e)
      ∙ tuple_had around.types past own f.integers is x.val (b.has_it f.integers (same f)))

  -- ---- lists

  -- items of a list, and those of a vector
  list_of : {n : ℕ} {f : Point n} (r : Reading) (x : Item) → Has f (I.List r) x → (vs : List Value) → out-Value x.val ≡ V.List vs
      → AllOf around.types past own y f r (part_typ around.types one_item x.typ) vs
  list_of {f = f} r x b vs e =
      all_of around.types past own y r (part_typ around.types one_item x.typ) (closed around.types (standing past f.integers) own r) vs
      (λ g a. list_wide around.types past own g f.integers r (b.is_wide g a ∙ sym (b.is_wide f.integers (same f))))
      (λ g a. y.kept.list_item g r x.typ (b.typed g a))
      (ap (form_holds around.types (standing past f.integers) own (W.List (closed around.types (standing past f.integers) own r))) (sym e)
      ∙ list_had around.types past own f.integers r x.val (b.has_it f.integers (same f)))

  if_so : {n : ℕ} {f : Point n} {facts : List Fact} {walk : Walk (List Bound)} (k : ℕ) (ms : List (Matcher Item)) (xs : List Item) (c : Bool)
      → (c ≡ true → Beside q past n f facts walk (as_run (so_many k (Parts xs)) then run_parts ms) Found)
      → Beside q past n f facts walk (as_run (so_many k (parts_if c xs)) then run_parts ms) Found
  if_so k ms xs true h = h refl
  if_so k ms xs false h = falling

  pub list_beside : {n : ℕ} {f : Point n} {facts : List Fact} (place : Place) (how : Matching) (looks : List Look) (ms : List (Matcher Item))
      (ss : List Bool) → Fine looks ms ss → (r : Reading) (x : Item) → Has f (I.List r) x → Good f
      → each_stands ss ≡ true → (v : Value-F Value) → out-Value x.val ≡ v
      → Beside q past n f facts (items_met place looks around how r)
      (as_run (so_many (length ms) (opened z w.numbers H.List (length ms) x v)) then run_parts ms) Found
  list_beside place how looks ms ss fine r x b s t (V.List vs) e =
      if_so (length ms) ms (items z x vs) (nat_eq (length vs) (length ms)) (λ c.
      let long : length vs ≡ length ms = (Decides-eqb (length vs) (length ms)).0 c in
      seen_parts around past own y q cases w ms (items z x vs) (length-map vs (item (part_typ around.types one_item x.typ)) ∙ long)
      (items_beside around past own y q cases w place how looks ms ss fine r (part_typ around.types one_item x.typ) vs
      (long ∙ as_many around past own y q cases w looks ms ss fine) (list_of r x b vs e) s (all_stand around past own y q cases w ss t)))
  list_beside {f = f} place how looks ms ss fine r x b s t v e =
      no (ap (form_holds around.types (standing past f.integers) own (W.List (closed around.types (standing past f.integers) own r))) (sym e)
      ∙ list_had around.types past own f.integers r x.val (b.has_it f.integers (same f)))

  -- a pattern alone, as the last of several
  pub alone : {n : ℕ} {f : Point n} {facts : List Fact} {walk : Walk (List Bound)} {c : Run Item (List (Local Item))} → Beside q past n f facts walk c Found
      → Beside q past n f facts walk (c then λ found. gives (found ++ [])) Found
  alone b = ends_as (λ found. found ++ []) b (λ m p bs ls l h. subst (λ ks. NamesBear around.types past own y around.numbers m p bs ks) (sym (append-nil ls)) h)

  pub cons_beside : {n : ℕ} {f : Point n} {facts : List Fact} (place : Place) (how : Matching) (a b : Look) (m k : Matcher Item) (s t : Bool)
      → Well around past own y q cases w a m s → Well around past own y q cases w b k t → (r : Reading) (x : Item) → Has f (I.List r) x → Good f
      → (s && t) ≡ true → (v : Value-F Value) → out-Value x.val ≡ v
      → Beside q past n f facts (cons_met place (a ∷ b ∷ []) around how r)
      (as_run (so_many 2 (opened z w.numbers H.Cons 2 x v)) then run_parts (m ∷ k ∷ [])) Found
  cons_beside place how a b m k s t fine good r x h g d (V.List []) e = falling
  cons_beside {f = f} place how a b m k s t fine good r x h g d (V.List (v ∷ vs)) e =
      let both = and_parts s t d in
      let all = list_of r x h (v ∷ vs) e in
      also_beside around past own y q cases w (item_beside around past own y q cases w place how a m s fine r _ all.0 g both.0) (λ m2 p fs l.
      alone (good.beside (inside how) (I.List r) (item x.typ (VV.List vs)) m2 p fs (record {
        wide = h.wide;
        has_it = λ i c. list_has around.types past own i r vs (and_parts (belongs around.types v (closed around.types (standing past i) own r)) _
            (ap (form_holds around.types (standing past i) own (W.List (closed around.types (standing past i) own r))) (sym e)
            ∙ list_had around.types past own i r x.val (h.has_it i (agree_on l c)))).1;
        is_wide = λ i c. h.is_wide i (agree_on l c);
        typed = λ i c. h.typed i (agree_on l c);
      }) (grounds_on around past own y q cases w l g) (not_owed around past own y q cases w p how b.written (item x.typ (VV.List vs))) both.1))
  cons_beside {f = f} place how a b m k s t fine good r x h g d v e =
      no (ap (form_holds around.types (standing past f.integers) own (W.List (closed around.types (standing past f.integers) own r))) (sym e)
      ∙ list_had around.types past own f.integers r x.val (h.has_it f.integers (same f)))

  -- ---- vectors: what the length is stands behind the items

  vector_long : {n : ℕ} {f : Point n} {facts : List Fact} (place : Place) (how : Matching) (looks : List Look) (t : Num) (r : Reading) (vs : List Value)
      → number (standing past f.integers) t ≡ pos (length vs) → AllMet q past (vector_met place looks around how t r facts n).notes
      → Stands q past f facts → length vs ≡ length looks
  unfolding owe_under
  vector_long {n} {f} {facts} place how looks t r vs e met stands =
      let owed = (met_after q past n facts (items_met place looks around how r) (length_owed place (length looks) t) met).1 in
      let said = goals_said q past facts place (Some (equal (constant (pos (length looks))) t) ∷ []) owed f.integers (stands.there f.integers (same f)) in
      sym (pos_same (sym (number_constant (standing past f.integers) (pos (length looks)))
      ∙ equal_numbers (standing past f.integers) (constant (pos (length looks))) t said.0 ∙ e))

  pub vector_beside : {n : ℕ} {f : Point n} {facts : List Fact} (place : Place) (how : Matching) (looks : List Look) (ms : List (Matcher Item))
      (ss : List Bool) → Fine looks ms ss → (t : Num) (r : Reading) (x : Item) → Has f (I.Vector t r) x → Good f
      → each_stands ss ≡ true → (v : Value-F Value) → out-Value x.val ≡ v
      → Beside q past n f facts (vector_met place looks around how t r)
      (as_run (so_many (length ms) (opened z w.numbers H.Vector (length ms) x v)) then run_parts ms) Found
  vector_beside {f = f} place how looks ms ss fine t r x b s d (V.Vector vs) e =
      let here = standing past f.integers in
      let c : Closed = closed around.types here own r in
      let held : form_holds around.types here own (W.Vector t c) (V.Vector vs) ≡ true =
      ap (form_holds around.types here own (W.Vector t c)) (sym e) ∙ vector_had around.types past own f.integers t r x.val (b.has_it f.integers (same f)) in
      let typ = part_typ around.types one_item x.typ in
      knowing (vector_long place how looks t r vs (long_as around.types past own f.integers t c vs held)) (λ long.
      let turned : length (reverse vs) ≡ length looks = length-reverse vs ∙ long in
      seen_parts around past own y q cases w ms (items z x (reverse vs))
      (length-map (reverse vs) (item typ) ∙ turned ∙ sym (as_many around past own y q cases w looks ms ss fine))
      (after_beside (length_owed place (length looks) t) (items_beside around past own y q cases w place how looks ms ss fine r typ (reverse vs) turned
      (all_of around.types past own y r typ c (reverse vs)
      (λ g a. vector_wide around.types past own g f.integers t r (b.is_wide g a ∙ sym (b.is_wide f.integers (same f))))
      (λ g a. y.kept.vector_item g t r x.typ (b.typed g a))
      (all_reversed (λ v. belongs around.types v c) vs (vector_items around.types past own f.integers t c vs held))) s
      (all_stand around past own y q cases w ss d))
      (λ m k p g bs ls l h. names_on around.types past own y around.numbers bs ls l h)
      (λ m g fs l stands. owed_quiet _ place _ stands)))
  vector_beside {f = f} place how looks ms ss fine t r x b s d v e =
      let here = standing past f.integers in
      no (ap (form_holds around.types here own (W.Vector t (closed around.types here own r))) (sym e)
      ∙ vector_had around.types past own f.integers t r x.val (b.has_it f.integers (same f)))
