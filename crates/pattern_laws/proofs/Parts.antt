-- Parts that are matched from left to right, and items that are taken out one by one.
use Rattle.std.proofs.Common.{◌≡◌, ℕ, suc, nat_eq, Bool, true, false, List, [], ◌∷◌, ◌++◌, map, length, Option, refl, sym, ap, subst, if◌then◌else◌}
use Rattle.std.proofs.lemmas.Bool.{and_parts}
use Rattle.std.proofs.lemmas.Bool.Decides.{Decides-eqb}
use Rattle.sail_base.specs.declared.place.Place.{Place}
use Rattle.sail_types.specs.Belongs.{Reading as Closed}
use Rattle.sail_types.specs.Numbers.{Positive}
use Rattle.sail_types.specs.declared.values.Value.{Value}
use Rattle.size_values.specs.declared.sized.Sized.{Sized}
use Rattle.sail_core.specs.declared.written.Written.{Written}
use Rattle.sail_core.specs.Run.{Local, Now, Run, gives, ◌then◌}
use Rattle.sail_core.specs.Making.{Making, World}
use Rattle.sail_core.specs.Patterns.{Parts, Wrong, so_many, as_run, Matcher, parts_match as run_parts}
use Rattle.value_indices.specs.declared.indices.Indices.{Indices}
use Rattle.value_indices.specs.declared.indices.Naming.{out-Naming}
use Rattle.value_indices.specs.declared.indices.Reading.{Reading}
use Rattle.value_indices.specs.declared.notes.Fact.{Fact}
use Rattle.value_indices.specs.declared.notes.Made.TheVariants as Makes
use Rattle.value_indices.specs.Steps.{Walk, bind, note}
use Rattle.checked_meaning.specs.Items.{Item, item}
use Rattle.checked_meaning.specs.Checked.{Cases, checked}
use Rattle.pattern_leaves.specs.declared.names.Bound.{Bound}
use Rattle.pattern_leaves.specs.Literals.{wrong_pattern}
use Rattle.pattern_leaves.specs.Settings.{Around}
use Rattle.pattern_notes.specs.declared.matching.Matching.{Matching}
use Rattle.pattern_notes.specs.Patterns.{Look, inside, also, each_match, part_type, parts_match, item_met, items_met}
use Rattle.value_laws.specs.Belonging.{Integers}
use Rattle.value_laws.specs.Known.{Point, Agree, Later}
use Rattle.value_laws.proofs.Basics.{no}
use Rattle.value_laws.proofs.Steps.{agree_on}
use Rattle.value_laws.proofs.Arguments.{still_later}
use Rattle.fitting_laws.proofs.Counting.{Grows}
use Rattle.pattern_laws.specs.Beside.{AllMet, Stands, Ends, OfSizes, Behind, Beside}
use Rattle.pattern_laws.specs.Typing.{Typing, Bears, AllBear, NamesBear}
use Rattle.pattern_laws.specs.Grounds.{Grounded, IsOwed}
use Rattle.pattern_laws.specs.Standing.{each_stands}
use Rattle.pattern_laws.proofs.Steps.{binds, knowing, walks, rests, wrongs}
use Rattle.pattern_laws.proofs.Whole.{GivesWhole}
use Rattle.pattern_laws.proofs.Points.{all_on, names_on, names_both, one_bears, ItemOf, AllOf, of_each, takes}

-- so many parts as are looked for
pub so_many_is : {X : Type 0} (k : ℕ) (xs : List X) → length xs ≡ k → so_many k (Parts xs) ≡ Parts xs
so_many_is k xs e = ap (λ b. if b then Parts xs else Wrong) ((Decides-eqb (length xs) k).1 e)

module _ (around : Around) (past : Positive) (own : List Closed) {fit : OfSizes} (y : Typing around.types past own fit) (q : Ends fit) (cases : Cases)
    (w : World Item) where
  abbrev pub reads : Making Item
  reads = checked around.types cases

  abbrev pub Grounds : {n : ℕ} → Point n → Type 0
  Grounds f = Grounded past around w.numbers f

  pub grounds_on : {n m : ℕ} {f : Point n} {g : Point m} → Later f g → Grounds f → Grounds g
  grounds_on {f} {g} l s = record {
    still = still_later past f g around.numbers l s.still;
    given = λ h a. s.given h (agree_on l a);
  }

  -- the names of a pattern
  abbrev pub Names : Behind (List Bound) (List (Local Item))
  Names m p bs ls = NamesBear around.types past own y around.numbers m p bs ls

  -- a pattern: its walk beside its run
  pub record Well (look : Look) (matcher : Matcher Item) (stands : Bool) : Type 0 where
    pub beside : (how : Matching) (i : Indices) (x : Item) (n : ℕ) (f : Point n) (facts : List Fact) → Bears around.types past own y f i x → Grounds f
        → IsOwed around past own f how look.written x → stands ≡ true → Beside q past n f facts (look.match_with around how i) (matcher x) Names
    pub whole : (x : Item) (now : Now Item) → GivesWhole (out-Naming look.naming) x (matcher x now)
    pub grows : (how : Matching) (i : Indices) → Grows (look.match_with around how i)

  -- further in nothing is owed already
  pub not_owed : {n : ℕ} (f : Point n) (how : Matching) (o : Option Written) (x : Item) → IsOwed around past own f (inside how) o x
  not_owed f how o x e = no e

  abbrev pub AllWell : List Look → List (Matcher Item) → List Bool → Type 0
  AllWell [] [] [] = Unit {0}
  AllWell (a ∷ looks) (m ∷ ms) (s ∷ ss) = Well a m s × AllWell looks ms ss
  AllWell looks ms ss = ⊥

  -- each stands
  abbrev pub AllStand : List Bool → Type 0
  AllStand [] = Unit {0}
  AllStand (s ∷ ss) = (s ≡ true) × AllStand ss

  pub all_stand : (ss : List Bool) → each_stands ss ≡ true → AllStand ss
  all_stand [] h = tt
  all_stand (s ∷ ss) h = let both = and_parts s (each_stands ss) h in (both.0, all_stand ss both.1)

  -- the names of a first part, and those of the others
  abbrev pub both_found : Run Item (List (Local Item)) → Run Item (List (Local Item)) → Run Item (List (Local Item))
  both_found first others = first then λ found. others then λ more. gives (found ++ more)

  pub also_beside : {n : ℕ} {f : Point n} {facts : List Fact} {first others : Walk (List Bound)} {c d : Run Item (List (Local Item))}
      → Beside q past n f facts first c Names
      → ((m : ℕ) (g : Point m) (fs : List Fact) → Later f g → Beside q past m g fs others d Names)
      → Beside q past n f facts (also first others) (both_found c d) Names
  unfolding also
  also_beside one next =
      binds one (λ m g fs bs ls l names. binds (next m g fs l) (λ m2 g2 fs2 cs ks l2 more.
      rests (bs ++ cs) (ls ++ ks) (names_both around.types past own y around.numbers g2 bs cs ls ks
      (names_on around.types past own y around.numbers bs ls l2 names) more)))

  -- ---- parts from left to right

  in_order_beside : {n : ℕ} {f : Point n} {facts : List Fact} (place : Place) (how : Matching) (looks : List Look) (ms : List (Matcher Item))
      (ss : List Bool) → AllWell looks ms ss → (is : List Indices) (xs : List Item) → AllBear around.types past own y f is xs → Grounds f
      → AllStand ss → Beside q past n f facts (each_match place looks around how is) (run_parts ms xs) Names
  in_order_beside place how [] [] [] h [] [] b s t = rests [] [] tt
  in_order_beside place how [] [] [] h [] (x ∷ xs) b s t = absurd b
  in_order_beside place how [] [] [] h (i ∷ is) xs b s t = wrongs place
  in_order_beside place how [] [] (k ∷ ss) h is xs b s t = absurd h
  in_order_beside place how [] (m ∷ ms) ss h is xs b s t = absurd h
  in_order_beside place how (a ∷ looks) [] ss h is xs b s t = absurd h
  in_order_beside place how (a ∷ looks) (m ∷ ms) [] h is xs b s t = absurd h
  in_order_beside place how (a ∷ looks) (m ∷ ms) (k ∷ ss) h [] xs b s t = wrongs place
  in_order_beside place how (a ∷ looks) (m ∷ ms) (k ∷ ss) h (i ∷ is) [] b s t = absurd b
  in_order_beside {n} {f} {facts} place how (a ∷ looks) (m ∷ ms) (k ∷ ss) h (i ∷ is) (x ∷ xs) b s t =
      also_beside (h.0.beside (inside how) i x n f facts b.0 s (not_owed f how a.written x) t.0) (λ m2 g2 fs l.
      in_order_beside place how looks ms ss h.1 is xs (all_on around.types past own y is xs l b.1) (grounds_on l s) t.1)

  pub parts_beside : {n : ℕ} {f : Point n} {facts : List Fact} (place : Place) (how : Matching) (looks : List Look) (ms : List (Matcher Item))
      (ss : List Bool) → AllWell looks ms ss → (is : List Indices) (xs : List Item) → AllBear around.types past own y f is xs → Grounds f
      → AllStand ss → Beside q past n f facts (parts_match place looks around how is) (run_parts ms xs) Names
  parts_beside {n} {f} {facts} place how looks ms ss h is xs b s t = by (nat_eq (length looks) (length is))
    where
      by : (c : Bool) → Beside q past n f facts (if c then each_match place looks around how is else wrong_pattern place) (run_parts ms xs) Names
      by true = in_order_beside place how looks ms ss h is xs b s t
      by false = wrongs place

  -- ---- items

  pub item_beside : {n : ℕ} {f : Point n} {facts : List Fact} (place : Place) (how : Matching) (a : Look) (m : Matcher Item) (k : Bool) → Well a m k
      → (r : Reading) (x : Item) → ItemOf around.types past own y f r x → Grounds f → k ≡ true
      → Beside q past n f facts (item_met place a around how r) (m x) Names
  unfolding bind note
  item_beside {n} {f} {facts} place how a m k h r x o s t =
      let told : AllMet q past (item_met place a around how r facts n).notes → Stands q past f facts → (g : Integers) → Agree f g
      → fit g (Makes.ByType (part_type r)) = λ met stands g c. met.0 g (stands.there g c) (stands.so g c) in
      knowing told (λ sizes.
      let made = takes around.types past own y place a.naming r x sizes o in
      walks made.2 (λ m2 g fs i l is.
      h.beside (inside how) i x m2 g fs (one_bears around.types past own y (made.0, x.typ) x (made.1, refl) is) (grounds_on l s)
      (not_owed g how a.written x) t))

  pub items_beside : {n : ℕ} {f : Point n} {facts : List Fact} (place : Place) (how : Matching) (looks : List Look) (ms : List (Matcher Item))
      (ss : List Bool) → AllWell looks ms ss → (r : Reading) (s : Sized) (vs : List Value) → length vs ≡ length looks
      → AllOf around.types past own y f r s vs → Grounds f → AllStand ss
      → Beside q past n f facts (items_met place looks around how r) (run_parts ms (map (item s) vs)) Names
  items_beside place how [] [] [] h r s [] e o g t = rests [] [] tt
  items_beside place how [] [] [] h r s (v ∷ vs) e o g t = absurd (cc)
  items_beside place how [] [] (k ∷ ss) h r s vs e o g t = absurd h
  items_beside place how [] (m ∷ ms) ss h r s vs e o g t = absurd h
  items_beside place how (a ∷ looks) [] ss h r s vs e o g t = absurd h
  items_beside place how (a ∷ looks) (m ∷ ms) [] h r s vs e o g t = absurd h
  items_beside place how (a ∷ looks) (m ∷ ms) (k ∷ ss) h r s [] e o g t = absurd (cc)
  items_beside {n} {f} {facts} place how (a ∷ looks) (m ∷ ms) (k ∷ ss) h r s (v ∷ vs) e o g t =
      also_beside (item_beside place how a m k h.0 r (item s v) o.0 g t.0) (λ m2 g2 fs l.
      items_beside place how looks ms ss h.1 r s vs (suc_same e) (of_each around.types past own y r s vs l o.1) (grounds_on l g) t.1)
    where
      suc_same : {i j : ℕ} → suc i ≡ suc j → i ≡ j
      suc_same k = cc

  -- as many
  pub as_many : (looks : List Look) (ms : List (Matcher Item)) (ss : List Bool) → AllWell looks ms ss → length ms ≡ length looks
  as_many [] [] [] h = refl
  as_many [] [] (k ∷ ss) h = absurd h
  as_many [] (m ∷ ms) ss h = absurd h
  as_many (a ∷ looks) [] ss h = absurd h
  as_many (a ∷ looks) (m ∷ ms) [] h = absurd h
  as_many (a ∷ looks) (m ∷ ms) (k ∷ ss) h = ap suc (as_many looks ms ss h.1)

  -- what is seen are these parts, and so many
  pub seen_parts : {n : ℕ} {f : Point n} {facts : List Fact} {walk : Walk (List Bound)} (ms : List (Matcher Item)) (xs : List Item) → length xs ≡ length ms
      → Beside q past n f facts walk (run_parts ms xs) Names
      → Beside q past n f facts walk (as_run (so_many (length ms) (Parts xs)) then run_parts ms) Names
  seen_parts {n} {f} {facts} {walk} ms xs e b =
      subst (λ s. Beside q past n f facts walk (as_run s then run_parts ms) Names) (sym (so_many_is (length ms) xs e)) b
