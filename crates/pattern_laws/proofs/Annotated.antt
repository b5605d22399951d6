-- Patterns with a type, and patterns over what a mapping gives.
use Rattle.std.proofs.Common.{◌≡◌, ℕ, ◌≤◌, Bool, true, false, List, [], ◌∷◌, ◌++◌, map, slice_get, Option, Some, None, refl, sym, ap, ◌∙◌, subst, arith}
use Rattle.std.proofs.Common.{if◌then◌else◌, ◌||◌, bytes_eq}
use Rattle.std.proofs.lemmas.Slice.Eq.{bytes_eq-Decides}
use Rattle.sail_base.specs.declared.place.Place.{Place}
use Rattle.sail_types.specs.Belongs.{Reading as Closed, reading, assigned, belongs}
use Rattle.sail_types.specs.Numbers.{Assignment, Positive}
use Rattle.sail_types.specs.declared.numbers.Index.{Index}
use Rattle.sail_types.specs.declared.types.Typ.{Typ}
use Rattle.sail_core.specs.declared.model.Direction.{Direction}
use Rattle.sail_core.specs.declared.written.Written.{Written}
use Rattle.sail_core.specs.declared.written.WrittenNumber.{WrittenNumber}
use Rattle.sail_core.specs.Run.{Local, ◌then◌}
use Rattle.sail_core.specs.Making.{World}
use Rattle.sail_core.specs.Patterns.{Matcher}
use Rattle.value_indices.specs.declared.indices.Indices.{Indices}
use Rattle.value_indices.specs.declared.indices.Indices.TheOpen as W
use Rattle.value_indices.specs.declared.indices.Naming.{Naming, Naming-F, out-Naming}
use Rattle.value_indices.specs.declared.indices.Naming.TheOpen as G
use Rattle.value_indices.specs.declared.indices.Reading.{Reading}
use Rattle.value_indices.specs.declared.indices.Reading.TheVariants as R
use Rattle.value_indices.specs.declared.notes.Fact.{Fact}
use Rattle.value_indices.specs.Steps.{Walk, Conditions, bind, give, owe, way_note}
use Rattle.value_fits.specs.Fitting.{fits, owe_fit_under, owe_made_under}
use Rattle.checked_meaning.specs.Items.{Item}
use Rattle.checked_meaning.specs.Checked.{Cases}
use Rattle.pattern_leaves.specs.declared.names.Bound.{Bound}
use Rattle.pattern_leaves.specs.Annotations.{written_at}
use Rattle.pattern_leaves.specs.Settings.{Around, written_in, exponents_owed}
use Rattle.pattern_notes.specs.declared.matching.Matching.{Matching}
use Rattle.pattern_notes.specs.Patterns.{Look, inside, after_inner, item_met, annotation_owed, written_owed, typed_met, parameter_owed, direction_met}
use Rattle.pattern_notes.specs.Patterns.{result_of}
use Rattle.value_laws.specs.Belonging.{Integers, standing, closeds, closed, types_or_own, is_of}
use Rattle.value_laws.specs.Known.{Point, Agree, Later}
use Rattle.value_laws.proofs.Steps.{same, agree_on, later_on, no_later}
use Rattle.value_laws.proofs.Numbers.{beyond_past}
use Rattle.value_laws.proofs.Values.{closed_is}
use Rattle.value_laws.proofs.Arguments.{assigned_as}
use Rattle.fitting_laws.specs.Fitting.{Suffices}
use Rattle.fitting_laws.proofs.Counting.{Grows}
use Rattle.fitting_laws.proofs.Deep.{fitting}
use Rattle.fitting_laws.proofs.Holes.{of_full}
use Rattle.pattern_laws.specs.Beside.{AllMet, Stands, Ends, OfSizes, Behind, Beside}
use Rattle.pattern_laws.specs.Typing.{Typing, Bears, HeldBears, NamesBear, TypeBears, is_again}
use Rattle.pattern_laws.specs.Grounds.{IsGiven, IsOwed, Ways}
use Rattle.pattern_laws.proofs.Conditions.{goals_said, met_behind, met_front, true_both, given_both}
use Rattle.pattern_laws.proofs.Growing.{exponents_grows, item_grows}
use Rattle.pattern_laws.proofs.Steady.{meant_same}
use Rattle.pattern_laws.proofs.Steps.{reach_then, way_reached, notes, knowing, wrongs, first_runs, then_gives, Quiet, after_beside, met_after}
use Rattle.pattern_laws.proofs.Steps.{with_piece}
use Rattle.pattern_laws.proofs.Whole.{HoldsWhole, NamesWhole, again}
use Rattle.pattern_laws.proofs.Points.{bears_on, names_on, ItemOf}
use Rattle.pattern_laws.proofs.Parts.{Grounds, grounds_on, Names, Well, item_beside, not_owed}

-- a point from which variables are counted later
abbrev grown : {n m : ℕ} → Point n → n ≤ m → Point m
grown f l = record { fixed = f.fixed; integers = f.integers; before = λ i h. let k = f.before i h in omega arith }

grown_later : {n m : ℕ} (f : Point n) (l : n ≤ m) → Later f (grown f l)
grown_later f l = record { onward = l; fixed = λ i h. h; same = λ i h. refl; new = λ i h less. h }

-- ---- walks of which nothing is wanted

quiet_give : {fit : OfSizes} {q : Ends fit} {past : Positive} {n : ℕ} {f : Point n} {facts : List Fact} → Stands q past f facts → Quiet q past f facts (give tt)
unfolding give
quiet_give {f = f} s = record { point = f; later = no_later f; stands = s; given = refl; holds = tt }

quiet_both : {fit : OfSizes} {q : Ends fit} {past : Positive} {n : ℕ} {f : Point n} {facts : List Fact} (a b : Walk (Unit {0})) → Quiet q past f facts a
    → ((m : ℕ) (g : Point m) (fs : List Fact) → Later f g → Stands q past g fs → Quiet q past g fs b) → Quiet q past f facts (bind a (λ t. b))
unfolding bind
quiet_both {n = n} {facts = facts} a b one next = reach_then one (next (a facts n).next one.point (a facts n).facts one.later one.stands)

owe_quiet : {fit : OfSizes} {q : Ends fit} {past : Positive} {n : ℕ} {f : Point n} {facts : List Fact} (place : Place) (cs : Conditions) → Stands q past f facts
    → Quiet q past f facts (owe place cs)
unfolding owe
owe_quiet {f = f} place cs s = record { point = f; later = no_later f; stands = s; given = refl; holds = tt }

exponents_quiet : {fit : OfSizes} {q : Ends fit} {past : Positive} {n : ℕ} {f : Point n} {facts : List Fact} (around : Around) (ns : List WrittenNumber)
    → Stands q past f facts
    → Quiet q past f facts (exponents_owed around ns)
exponents_quiet around [] s = quiet_give s
exponents_quiet around (n ∷ ns) s = quiet_both _ _ (owe_quiet n.place _ s) (λ m g fs l t. exponents_quiet around ns t)

module _ (around : Around) (past : Positive) (own : List Closed) {fit : OfSizes} (y : Typing around.types past own fit) (q : Ends fit) (cases : Cases)
    (w : World Item) where
  abbrev Found : Behind (List Bound) (List (Local Item))
  Found = Names around past own y q cases w

  abbrev Good : {n : ℕ} → Point n → Type 0
  Good f = Grounds around past own y q cases w f

  abbrev there : Integers → Assignment
  there g = standing past g

  abbrev Has : {n : ℕ} → Point n → Indices → Item → Type 0
  Has f i x = Bears around.types past own y f i x

  -- ---- that a value is of a written type

  abbrev Steady : {n : ℕ} → Point n → Reading → Type 0
  Steady f r = (g : Integers) → Agree f g → closed around.types (there g) own r ≡ closed around.types (there f.integers) own r

  abbrev Fit : {n : ℕ} → Point n → Indices → Typ → List Index → Item → Type 0
  Fit {n} f i t js x =
      Suffices past n f (fits around.types i (R.Of t js []) n) (λ g. is_of around.types (there g) own (R.Of t js []) x.val ≡ true)

  fit_of : {n : ℕ} {f : Point n} (i : Indices) (t : Typ) (js : List Index) (x : Item) → Has f i x → Steady f (R.Of t js []) → Fit f i t js x
  fit_of {n} {f} i t js x b steady =
      fitting around.types past own i (R.Of t js []) n f x.val (of_full t js [] refl)
      (λ g a. meant_same around.types past own g f.integers i x.val (b.has_it g a) (b.has_it f.integers (same f))
      (b.is_wide g a ∙ sym (b.is_wide f.integers (same f))))
      steady (b.has_it f.integers (same f))

  fit_quiet : {n : ℕ} {f : Point n} {facts : List Fact} (earlier : List Fact) (place : Place) (i : Indices) (t : Typ) (js : List Index) (x : Item)
      → Fit f i t js x → Stands q past f facts → Quiet q past f facts (owe_fit_under earlier place (fits around.types i (R.Of t js [])))
  unfolding owe_fit_under owe_made_under
  fit_quiet {n} {f} {facts} earlier place i t js x s stands =
      let a = fits around.types i (R.Of t js []) n in
      record {
        point = s.point;
        later = s.later;
        stands = record {
          there = λ g l. true_both (there g) facts a.facts (stands.there g (agree_on s.later l)) (s.true_there g l);
          so = λ g l. subst (q.so g) (sym (given_both facts a.facts s.given)) (stands.so g (agree_on s.later l));
        };
        given = given_both facts a.facts s.given;
        holds = tt;
      }

  -- types under the numbers of the function, and types without variables
  written_steady : {n : ℕ} {f : Point n} (t : Typ) → Good f → Steady f (R.Of t around.numbers [])
  written_steady {f = f} t s g a =
      closed_is around.types (there g) own (R.Of t around.numbers []) (W.Of t around.numbers []) (R.rolls-Of t around.numbers [])
      ∙ (λ j. reading t (s.still g a j) (closeds (types_or_own [] own)))
      ∙ sym (closed_is around.types (there f.integers) own (R.Of t around.numbers []) (W.Of t around.numbers []) (R.rolls-Of t around.numbers []))

  plain_same : (g h : Integers) (t : Typ) → closed around.types (there g) own (R.Of t [] []) ≡ closed around.types (there h) own (R.Of t [] [])
  plain_same g h t =
      let none : assigned (there g) [] ≡ assigned (there h) [] =
      assigned_as (there g) (there h) (λ o p. beyond_past past g o ∙ sym (beyond_past past h p)) [] [] tt in
      closed_is around.types (there g) own (R.Of t [] []) (W.Of t [] []) (R.rolls-Of t [] [])
      ∙ (λ j. reading t (none j) (closeds (types_or_own [] own)))
      ∙ sym (closed_is around.types (there h) own (R.Of t [] []) (W.Of t [] []) (R.rolls-Of t [] []))

  -- ---- `p : T`

  written_quiet : {n : ℕ} {f : Point n} {facts : List Fact} (earlier : List Fact) (place : Place) (wr : Written) (is_owed : Bool) (i : Indices) (x : Item)
      → Has f i x → Good f → Stands q past f facts → Quiet q past f facts (written_owed around place wr is_owed i earlier)
  written_quiet earlier place wr is_owed i x b s stands =
      quiet_both _ _ (exponents_quiet around wr.numbers stands) (λ m g fs l t.
      owed_by is_owed g fs (bears_on around.types past own y l b) (grounds_on around past own y q cases w l s) t)
    where
      owed_by : {m : ℕ} (o : Bool) (g : Point m) (fs : List Fact) → Has g i x → Good g → Stands q past g fs
          → Quiet q past g fs (annotation_owed around place o i (written_in around wr) earlier)
      owed_by true g fs b s t = quiet_give t
      owed_by false g fs b s t = fit_quiet earlier place i wr.typ around.numbers x (fit_of i wr.typ around.numbers x b (written_steady wr.typ s)) t

  -- where its obligations hold, the value is of the type
  written_told : {n : ℕ} {f : Point n} {facts : List Fact} (place : Place) (wr : Written) (is_owed : Bool) (i : Indices) (x : Item) → Has f i x → Good f
      → (is_owed ≡ true → (g : Integers) → Agree f g → is_of around.types (there g) own (written_in around wr) x.val ≡ true)
      → (inner : Walk (List Bound)) → Grows inner → AllMet q past (after_inner inner (written_owed around place wr is_owed i) facts n).notes
      → Stands q past f facts → (g : Integers) → Agree f g → is_of around.types (there g) own (written_in around wr) x.val ≡ true
  unfolding owe_fit_under owe_made_under bind
  written_told place wr true i x b s owed inner grows met stands g agree = owed refl g agree
  written_told {n} {f} {facts} place wr false i x b s owed inner grows met stands g agree =
      let e = exponents_owed around wr.numbers (inner facts n).facts (inner facts n).next in
      let up : n ≤ e.next =
      let first = grows.onward facts n in
      let then_on = (exponents_grows around wr.numbers).onward (inner facts n).facts (inner facts n).next in
      omega arith in
      let l = grown_later f up in
      let fit_there = fit_of i wr.typ around.numbers x (bears_on around.types past own y l b)
      (written_steady wr.typ (grounds_on around past own y q cases w l s)) in
      let a = fits around.types i (R.Of wr.typ around.numbers []) e.next in
      let owes = met_behind q past e.notes _ (met_after q past n facts inner (written_owed around place wr false i) met).1 in
      let last = fit_there.point.integers in
      ap (belongs around.types x.val) (written_steady wr.typ s g agree
      ∙ sym (written_steady wr.typ s last (agree_on (later_on l fit_there.later) (same fit_there.point))))
      ∙ fit_there.suffices fit_there.point (no_later fit_there.point) (λ h c. goals_said q past (facts ++ a.facts) place a.conditions owes h
      (true_both (there h) facts a.facts (stands.there h (agree_on (later_on l fit_there.later) c)) (fit_there.true_there h c))) last (same fit_there.point)

  -- ---- the names of a typed pattern

  -- a type that is written at a name changes no name
  name_kept : (form : Naming-F Naming) (r : Reading) (b : Bound) → (written_at form r b).name ≡ b.name
  name_kept (G.Named name) r b = by (bytes_eq b.name name)
    where
      by : (c : Bool) → (if c then record b { written = Some r } else b).name ≡ b.name
      by true = refl
      by false = refl
  name_kept form r b = refl

  again_kept : (form : Naming-F Naming) (r : Reading) (name : List ℕ) (bs : List Bound) → is_again name (map (written_at form r) bs) ≡ is_again name bs
  again_kept form r name [] = refl
  again_kept form r name (b ∷ bs) = λ j. bytes_eq (name_kept form r b j) name || again_kept form r name bs j

  abbrev Told : {n : ℕ} → Point n → Option Reading → Item → Type 0
  Told f o x = TypeBears around.types past own y around.numbers f o x

  abbrev Bear : {n : ℕ} → Point n → List Bound → List (Local Item) → Type 0
  Bear {n} f bs ls = NamesBear around.types past own y around.numbers n f bs ls

  -- names of a run are those of its walk
  again_run : {n : ℕ} (f : Point n) (name : List ℕ) (bs : List Bound) (ls : List (Local Item)) → Bear f bs ls → again name ls ≡ is_again name bs
  again_run f name [] [] h = refl
  again_run f name [] (l ∷ ls) h = absurd h
  again_run f name (b ∷ bs) [] h = absurd h
  again_run f name (b ∷ bs) (l ∷ ls) h = λ j. bytes_eq (h.0 j) name || again_run f name bs ls h.3 j

  -- a name of the pattern, which is or isn't that for the whole value
  one_written : {n : ℕ} (f : Point n) (name : List ℕ) (r : Reading) (x : Item) → Told f (Some r) x → (b : Bound) (bs : List Bound) (l : Local Item)
      (ls : List (Local Item)) → Bear f (b ∷ bs) (l ∷ ls) → NamesWhole name x (l ∷ ls) → (c : Bool) → bytes_eq b.name name ≡ c
      → (l.name ≡ (if c then record b { written = Some r } else b).name)
      × HeldBears around.types past own y f (if c then record b { written = Some r } else b).held l.held
      × (is_again (if c then record b { written = Some r } else b).name bs ≡ false → Told f (if c then record b { written = Some r } else b).written l.held)
  one_written f name r x told b bs l ls h whole true e = (
    h.0,
    h.1,
    λ k.
        subst (Told f (Some r)) (sym (whole.0 (ap (λ own_name. bytes_eq own_name name) h.0 ∙ e)
        (again_run f name bs ls h.3 ∙ ap (λ own_name. is_again own_name bs) (sym ((bytes_eq-Decides b.name name).0 e)) ∙ k))) told,
  )
  one_written f name r x told b bs l ls h whole false e = (h.0, h.1, h.2)

  names_named : {n : ℕ} (f : Point n) (name : List ℕ) (r : Reading) (x : Item) → Told f (Some r) x → (bs : List Bound) (ls : List (Local Item))
      → Bear f bs ls → NamesWhole name x ls → Bear f (map (written_at (G.Named name) r) bs) ls
  names_named f name r x told [] [] h whole = tt
  names_named f name r x told [] (l ∷ ls) h whole = absurd h
  names_named f name r x told (b ∷ bs) [] h whole = absurd h
  names_named f name r x told (b ∷ bs) (l ∷ ls) h whole =
      let one = one_written f name r x told b bs l ls h whole (bytes_eq b.name name) refl in (
        one.0,
        one.1,
        (λ k. one.2 (sym (again_kept (G.Named name) r (written_at (G.Named name) r b).name bs) ∙ k)),
        names_named f name r x told bs ls h.3 whole.1,
      )

  -- at which nothing is written
  names_plain : {n : ℕ} (f : Point n) (form : Naming-F Naming) (r : Reading) → ((b : Bound) → written_at form r b ≡ b) → (bs : List Bound)
      (ls : List (Local Item)) → Bear f bs ls → Bear f (map (written_at form r) bs) ls
  names_plain {n} f form r plain bs ls h = subst (λ all. Bear f all ls) (sym (all_plain bs)) h
    where
      all_plain : (cs : List Bound) → map (written_at form r) cs ≡ cs
      all_plain [] = refl
      all_plain (c ∷ cs) = λ j. plain c j ∷ all_plain cs j

  names_written : {n : ℕ} (f : Point n) (form : Naming-F Naming) (r : Reading) (x : Item) → Told f (Some r) x → (bs : List Bound) (ls : List (Local Item))
      → Bear f bs ls → HoldsWhole form x ls → Bear f (map (written_at form r) bs) ls
  names_written f (G.Named name) r x told bs ls h whole = names_named f name r x told bs ls h whole
  names_written f form r x told bs ls h whole = names_plain f form r (λ b. refl) bs ls h

  typed_first : (place : Place) (wr : Written) (how : Matching) (a : Look) (i : Indices) (facts : List Fact) (n : ℕ)
      → AllMet q past (typed_met place wr a around how i facts n).notes
      → AllMet q past (after_inner (a.match_with around (inside how) i) (written_owed around place wr how.is_owed i) facts n).notes
  unfolding bind give
  typed_first place wr how a i facts n met =
      met_front q past (after_inner (a.match_with around (inside how) i) (written_owed around place wr how.is_owed i) facts n).notes _ met

  pub typed_beside : {n : ℕ} {f : Point n} {facts : List Fact} (place : Place) (wr : Written) (how : Matching) (a : Look) (m : Matcher Item) (k : Bool)
      → Well around past own y q cases w a m k → (i : Indices) (x : Item) → Has f i x → Good f → IsOwed around past own f how (Some wr) x → k ≡ true
      → Beside q past n f facts (typed_met place wr a around how i) (m x) Found
  typed_beside {n} {f} {facts} place wr how a m k h i x b s owed t =
      let inner = a.match_with around (inside how) i in
      knowing (λ met stands.
      written_told place wr how.is_owed i x b s (λ e. owed e wr refl) inner (h.grows (inside how) i)
      (typed_first place wr how a i facts n met) stands)
      (λ told.
      then_gives (map (written_at (out-Naming a.naming) (written_in around wr)))
      (with_piece (HoldsWhole (out-Naming a.naming) x) (λ now. h.whole x now)
      (after_beside (written_owed around place wr how.is_owed i)
      (h.beside (inside how) i x n f facts b s (not_owed around past own y q cases w f how a.written x) t)
      (λ m k p g bs ls l n. names_on around.types past own y around.numbers bs ls l n)
      (λ m g fs l stands. written_quiet facts place wr how.is_owed i x (bears_on around.types past own y l b)
      (grounds_on around past own y q cases w l s) stands)))
      (λ m p bs ls l n.
      names_written p (out-Naming a.naming) (written_in around wr) x (wr.typ, refl, (λ g c. told g (agree_on l c))) bs ls n.0 n.1))

  -- ---- mappings

  -- that the value is one that the direction takes stands behind the inner pattern
  taken_by : {n : ℕ} {f : Point n} {facts : List Fact} (place : Place) (m : Direction) (i : Indices) (x : Item) → Has f i x → (inner : Walk (List Bound))
      → Grows inner → AllMet q past (after_inner inner (parameter_owed around place m i) facts n).notes → Stands q past f facts → (g : Integers)
      → is_of around.types (there g) own (R.Of m.parameter [] []) x.val ≡ true
  unfolding owe_fit_under owe_made_under
  taken_by {n} {f} {facts} place m i x b inner grows met stands g =
      let up : n ≤ (inner facts n).next = grows.onward facts n in
      let l = grown_later f up in
      let s = fit_of i m.parameter [] x (bears_on around.types past own y l b) (λ h a. plain_same h f.integers m.parameter) in
      let a = fits around.types i (R.Of m.parameter [] []) (inner facts n).next in
      let owed = (met_after q past n facts inner (parameter_owed around place m i) met).1 in
      let here = s.point.integers in
      ap (belongs around.types x.val) (plain_same g here m.parameter)
      ∙ s.suffices s.point (no_later s.point) (λ h c. goals_said q past (facts ++ a.facts) place a.conditions owed h
      (true_both (there h) facts a.facts (stands.there h (agree_on (later_on l s.later) c)) (s.true_there h c))) here (same s.point)

  given_of : {n : ℕ} {f : Point n} (t : Typ) (x : Item) → IsGiven around past own y t x → ItemOf around.types past own y f (R.Of t [] []) x
  given_of {f = f} t x h = record {
    typ = closed around.types (there f.integers) own (R.Of t [] []);
    is_typ = λ g a. plain_same g f.integers t;
    belongs_to = h.belongs_to f.integers;
    reads = λ g a. h.reads g;
  }

  maps_on : {n : ℕ} {f : Point n} {facts : List Fact} → Ways around past own y q w → (place : Place) (how : Matching) (d : ℕ) (a : Look) (m : Matcher Item)
      (k : Bool) → Well around past own y q cases w a m k → (i : Indices) (x : Item) → Has f i x → Good f → (o : Option Direction)
      → slice_get around.directions d ≡ o → k ≡ true
      → Beside q past n f facts (direction_met place d o result_of a around how i) (w.way d x then m) Found
  maps_on ways place how d a m k h i x b s None e t = wrongs place
  maps_on {n} {f} {facts} ways place how d a m k h i x b s (Some dir) e t =
      let inner = item_met place a around how (result_of dir) in
      knowing (λ met stands. way_reached q past n f facts d (after_inner inner (parameter_owed around place dir i)) met stands)
      (λ reached. notes (λ fs. way_note fs d) (knowing (λ met stands.
      taken_by place dir i x b inner (item_grows around place how a h.grows (result_of dir)) met stands)
      (λ takes. first_runs (ways d dir x reached e takes) (λ v given.
      after_beside (parameter_owed around place dir i)
      (item_beside around past own y q cases w place how a m k h (result_of dir) v (given_of dir.result v given) s t)
      (λ m k p g bs ls l n. names_on around.types past own y around.numbers bs ls l n)
      (λ m g fs l stands. fit_quiet facts place i dir.parameter [] x (fit_of i dir.parameter [] x (bears_on around.types past own y l b)
      (λ j c. plain_same j g.integers dir.parameter)) stands)))))

  pub maps_beside : {n : ℕ} {f : Point n} {facts : List Fact} → Ways around past own y q w → (place : Place) (how : Matching) (d : ℕ) (a : Look)
      (m : Matcher Item) (k : Bool) → Well around past own y q cases w a m k → (i : Indices) (x : Item) → Has f i x → Good f → k ≡ true
      → Beside q past n f facts (direction_met place d (slice_get around.directions d) result_of a around how i) (w.way d x then m) Found
  maps_beside ways place how d a m k h i x b s t = maps_on ways place how d a m k h i x b s (slice_get around.directions d) refl t
