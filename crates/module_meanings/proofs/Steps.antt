-- What the steps of a pattern find where nothing of the model is called: the same at every moment, a name for each step that names, in order.
use Rattle.std.proofs.Common.{◌≡◌, ◌∙◌, ℕ, ℤ, Bool, true, false, not, List, [], ◌∷◌, ◌++◌, map, Option, Some, None, refl, sym, ap, append-nil}
use Rattle.std.specs.Prelude.{◌||◌, ◌&&◌, slice_get, if◌then◌else◌}
use Rattle.std.specs.Str.{bytes_eq}
use Rattle.std.proofs.lemmas.Slice.Eq.{bytes_eq-Decides}
use Rattle.std.proofs.lemmas.List.{map-append}
use Rattle.std.proofs.lemmas.Bool.{and_parts}
use Rattle.sail_types.specs.declared.numbers.Num.{Num}
use Rattle.sail_types.specs.declared.values.Value.{Value}
use Rattle.model_state.specs.declared.cause.Cause.{Cause}
use Rattle.sail_core.specs.declared.patterns.Arm.{Arm}
use Rattle.sail_core.specs.declared.patterns.Arm.TheVariants as A
use Rattle.sail_core.specs.declared.patterns.Step.{Step}
use Rattle.sail_core.specs.declared.patterns.Step.TheVariants as S
use Rattle.sail_core.specs.Making.{Making, World}
use Rattle.sail_core.specs.Patterns as P
use Rattle.sail_core.specs.Patterns.{Seen, as_run, looked, steps_meaning, with_name, with_values}
use Rattle.sail_core.specs.Run as R
use Rattle.sail_core.specs.Run.{Local, Now, Run, gives, goes_on, held_in, local, needs, ◌then◌}
use Rattle.sail_core.specs.Start.{opening_world}
use Rattle.checked_meaning.specs.Items.{Item}
use Rattle.size_values.specs.declared.sized.Sized.{Sized}
use Rattle.lowered_pieces.specs.Arms.{arm_fits, arm_lowered, step_fits, step_lowered, steps_fit, steps_in, steps_lowered}
use Rattle.jib_lower.specs.Lowered.{is_among, names_differ, names_in}

no : {X : Type 0} → false ≡ true → X
no e = cc

some_same : {A : Type 0} (x y : A) → Some x ≡ Some y → x ≡ y
some_same x y e = cc

pub given_same : {A : Type 0} (x y : A) (t u : Now Item) → R.Gives x t ≡ R.Gives y u → x ≡ y
given_same x y t u e = cc

pub moment_same : {A : Type 0} (x y : A) (t u : Now Item) → R.Gives x t ≡ R.Gives y u → t ≡ u
moment_same x y t u e = cc

stuck_gives : {A X : Type 0} (x : A) (t : Now Item) → R.Stuck ≡ R.Gives x t → X
stuck_gives x t e = cc

no_gives : {A X : Type 0} (x : A) (t u : Now Item) → R.No u ≡ R.Gives x t → X
no_gives x t u e = cc

assoc : {A : Type 0} (xs ys zs : List A) → (xs ++ ys) ++ zs ≡ xs ++ (ys ++ zs)
assoc [] ys zs = refl
assoc (x ∷ xs) ys zs = ap (λ ws. x ∷ ws) (assoc xs ys zs)

abbrev pub names_of : List (Local Item) → List (List ℕ)
names_of ls = map (λ (l : Local Item). l.name) ls

-- ---- steps

module _ (z : Making Item) (lets : List Value) where
  abbrev w : World Item
  w = opening_world lets

  -- what steps find of a hand: at this moment, and by which names
  pub record Looked (ss : List Step) (hand hr : P.Hand Item) (n : Now Item) : Type 0 where
    pub again : steps_meaning z w ss hand n ≡ R.Gives hr n
    pub names : names_of hr.found ≡ names_of hand.found ++ names_in ss

  pub looked_so : (ss : List Step) (hand hr : P.Hand Item) (t u n : Now Item) → steps_meaning z w ss hand t ≡ R.Gives hr u → Looked ss hand hr n
  looked_so [] hand hr t u n e =
      let same : hand ≡ hr = given_same hand hr t u e in
      record {
        again = ap (λ (h : P.Hand Item). R.Gives h n) same;
        names = ap (λ (h : P.Hand Item). names_of h.found) (sym same) ∙ sym (append-nil (names_of hand.found));
      }
  looked_so (S.Opens i head k ∷ ss) hand hr t u n e =
      by (slice_get hand.values i) refl (λ hd h. looked_so ss hd hr t u n h) e
    where
      opens : Item → Seen Item
      opens x = looked z w.numbers head k x

      at_parts : (x : Item) → slice_get hand.values i ≡ Some x → (o : Seen Item) → opens x ≡ o
          → ((hd : P.Hand Item) → steps_meaning z w ss hd t ≡ R.Gives hr u → Looked ss hd hr n)
          → goes_on (goes_on (as_run o t) (λ xs. gives (with_values hand xs))) (steps_meaning z w ss) ≡ R.Gives hr u
          → Looked (S.Opens i head k ∷ ss) hand hr n
      at_parts x there (P.Parts xs) seen rest h =
          let next : Looked ss (with_values hand xs) hr n = rest (with_values hand xs) h in
          record {
            again = ap (λ o. goes_on (goes_on (needs o n) (λ y. as_run (opens y) then λ ys. gives (with_values hand ys))) (steps_meaning z w ss)) there
                ∙ ap (λ o. goes_on (goes_on (as_run o n) (λ ys. gives (with_values hand ys))) (steps_meaning z w ss)) seen ∙ next.again;
            names = next.names;
          }
      at_parts x there P.Other seen rest h = no_gives hr u t h
      at_parts x there P.Wrong seen rest h = stuck_gives hr u h

      by : (o : Option Item) → slice_get hand.values i ≡ o
          → ((hd : P.Hand Item) → steps_meaning z w ss hd t ≡ R.Gives hr u → Looked ss hd hr n)
          → goes_on (goes_on (needs o t) (λ x. as_run (opens x) then λ xs. gives (with_values hand xs))) (steps_meaning z w ss) ≡ R.Gives hr u
          → Looked (S.Opens i head k ∷ ss) hand hr n
      by None there rest h = stuck_gives hr u h
      by (Some x) there rest h = at_parts x there (opens x) refl rest h
  looked_so (S.Sees i direction ∷ ss) hand hr t u n e = by (slice_get hand.values i) e
    where
      by : (o : Option Item)
          → goes_on (goes_on (needs o t) (λ x. w.way direction x then λ y. gives (with_values hand (y ∷ [])))) (steps_meaning z w ss) ≡ R.Gives hr u
          → Looked (S.Sees i direction ∷ ss) hand hr n
      by None h = stuck_gives hr u h
      by (Some x) h = stuck_gives hr u h
  looked_so (S.Names i name ∷ ss) hand hr t u n e =
      by (slice_get hand.values i) refl (λ hd h. looked_so ss hd hr t u n h) e
    where
      by : (o : Option Item) → slice_get hand.values i ≡ o
          → ((hd : P.Hand Item) → steps_meaning z w ss hd t ≡ R.Gives hr u → Looked ss hd hr n)
          → goes_on (goes_on (needs o t) (λ x. gives (with_name hand name x))) (steps_meaning z w ss) ≡ R.Gives hr u
          → Looked (S.Names i name ∷ ss) hand hr n
      by None there rest h = stuck_gives hr u h
      by (Some x) there rest h =
          let next : Looked ss (with_name hand name x) hr n = rest (with_name hand name x) h in
          record {
            again = ap (λ o. goes_on (goes_on (needs o n) (λ y. gives (with_name hand name y))) (steps_meaning z w ss)) there ∙ next.again;
            names = next.names
                ∙ ap (λ ns. ns ++ names_in ss) (map-append (λ (l : Local Item). l.name) hand.found (local name x ∷ []))
                ∙ assoc (names_of hand.found) (name ∷ []) (names_in ss);
          }

-- ---- how steps end where nothing of the model is called: at every moment so

module _ (z : Making Item) (lets : List Value) where
  abbrev world : World Item
  world = opening_world lets

  abbrev steps_of : List Step → P.Hand Item → Run Item (P.Hand Item)
  steps_of ss hand = steps_meaning z world ss hand

  pub data StepsEnd (ss : List Step) (hand : P.Hand Item) : Type 0 where
    end_gives : (hr : P.Hand Item) → ((n : Now Item) → steps_of ss hand n ≡ R.Gives hr n) → StepsEnd ss hand
    end_no : ((n : Now Item) → steps_of ss hand n ≡ R.No n) → StepsEnd ss hand
    end_stuck : ((n : Now Item) → steps_of ss hand n ≡ R.Stuck) → StepsEnd ss hand

  -- a step that leaves this hand for the others
  end_behind : (s : Step) (ss : List Step) (hand next : P.Hand Item) → ((n : Now Item) → steps_of (s ∷ ss) hand n ≡ steps_of ss next n) → StepsEnd ss next
      → StepsEnd (s ∷ ss) hand
  end_behind s ss hand next same (end_gives hr f) = end_gives hr (λ n. same n ∙ f n)
  end_behind s ss hand next same (end_no f) = end_no (λ n. same n ∙ f n)
  end_behind s ss hand next same (end_stuck f) = end_stuck (λ n. same n ∙ f n)

  steps_end : (ss : List Step) (hand : P.Hand Item) → StepsEnd ss hand
  steps_end [] hand = end_gives hand (λ n. refl)
  steps_end (S.Opens i head k ∷ ss) hand = by (slice_get hand.values i) refl (λ hd. steps_end ss hd)
    where
      opens : Item → Seen Item
      opens x = looked z world.numbers head k x

      at_parts : (x : Item) → slice_get hand.values i ≡ Some x → (o : Seen Item) → opens x ≡ o → ((hd : P.Hand Item) → StepsEnd ss hd)
          → StepsEnd (S.Opens i head k ∷ ss) hand
      at_parts x there o seen rest = of_parts o (λ n.
          ap (λ p. goes_on (goes_on (needs p n) (λ y. as_run (opens y) then λ ys. gives (with_values hand ys))) (steps_of ss)) there
          ∙ ap (λ p. goes_on (goes_on (as_run p n) (λ ys. gives (with_values hand ys))) (steps_of ss)) seen)
        where
          of_parts : (o : Seen Item)
              → ((n : Now Item) → steps_of (S.Opens i head k ∷ ss) hand n
              ≡ goes_on (goes_on (as_run o n) (λ ys. gives (with_values hand ys))) (steps_of ss))
              → StepsEnd (S.Opens i head k ∷ ss) hand
          of_parts (P.Parts xs) same = end_behind (S.Opens i head k) ss hand (with_values hand xs) same (rest (with_values hand xs))
          of_parts P.Other same = end_no same
          of_parts P.Wrong same = end_stuck same

      by : (o : Option Item) → slice_get hand.values i ≡ o → ((hd : P.Hand Item) → StepsEnd ss hd) → StepsEnd (S.Opens i head k ∷ ss) hand
      by None there rest = end_stuck (λ n.
          ap (λ p. goes_on (goes_on (needs p n) (λ y. as_run (opens y) then λ ys. gives (with_values hand ys))) (steps_of ss)) there)
      by (Some x) there rest = at_parts x there (opens x) refl rest
  steps_end (S.Sees i direction ∷ ss) hand = by (slice_get hand.values i) refl
    where
      by : (o : Option Item) → slice_get hand.values i ≡ o → StepsEnd (S.Sees i direction ∷ ss) hand
      by None there = end_stuck (λ n. ap (seen n) there)
        where
          seen : Now Item → Option Item → R.Ended Item (P.Hand Item)
          seen n p = goes_on (goes_on (needs p n) (λ x. world.way direction x then λ y. gives (with_values hand (y ∷ [])))) (steps_of ss)
      by (Some x) there = end_stuck (λ n. ap (seen n) there)
        where
          seen : Now Item → Option Item → R.Ended Item (P.Hand Item)
          seen n p = goes_on (goes_on (needs p n) (λ x. world.way direction x then λ y. gives (with_values hand (y ∷ [])))) (steps_of ss)
  steps_end (S.Names i name ∷ ss) hand = by (slice_get hand.values i) refl (λ hd. steps_end ss hd)
    where
      named : Now Item → Option Item → R.Ended Item (P.Hand Item)
      named n p = goes_on (goes_on (needs p n) (λ y. gives (with_name hand name y))) (steps_of ss)

      by : (o : Option Item) → slice_get hand.values i ≡ o → ((hd : P.Hand Item) → StepsEnd ss hd) → StepsEnd (S.Names i name ∷ ss) hand
      by None there rest = end_stuck (λ n. ap (named n) there)
      by (Some x) there rest = end_behind (S.Names i name) ss hand (with_name hand name x) (λ n. ap (named n) there) (rest (with_name hand name x))

  -- so they never stop, and what fails does so at every moment
  pub never_stops : {X : Type 0} (ss : List Step) (hand : P.Hand Item) (t u : Now Item) (cause : Cause) → steps_of ss hand t ≡ R.Stops cause u → X
  never_stops {X} ss hand t u cause e = by (steps_end ss hand)
    where
      by : StepsEnd ss hand → X
      by (end_gives hr f) = gives_stops hr (sym (f t) ∙ e)
        where
          gives_stops : (x : P.Hand Item) → R.Gives x t ≡ R.Stops cause u → X
          gives_stops x h = cc
      by (end_no f) = no_stops (sym (f t) ∙ e)
        where
          no_stops : ◌≡◌ {A = R.Ended Item (P.Hand Item)} (R.No t) (R.Stops cause u) → X
          no_stops h = cc
      by (end_stuck f) = stuck_stops (sym (f t) ∙ e)
        where
          stuck_stops : ◌≡◌ {A = R.Ended Item (P.Hand Item)} R.Stuck (R.Stops cause u) → X
          stuck_stops h = cc

  pub fails_again : (ss : List Step) (hand : P.Hand Item) (t u : Now Item) → steps_of ss hand t ≡ R.No u → (n : Now Item) → steps_of ss hand n ≡ R.No n
  fails_again ss hand t u e n = by (steps_end ss hand)
    where
      by : StepsEnd ss hand → steps_of ss hand n ≡ R.No n
      by (end_gives hr f) = gives_no hr (sym (f t) ∙ e)
        where
          gives_no : (x : P.Hand Item) → R.Gives x t ≡ R.No u → steps_of ss hand n ≡ R.No n
          gives_no x h = cc
      by (end_no f) = f n
      by (end_stuck f) = stuck_no (sym (f t) ∙ e)
        where
          stuck_no : ◌≡◌ {A = R.Ended Item (P.Hand Item)} R.Stuck (R.No u) → steps_of ss hand n ≡ R.No n
          stuck_no h = cc

-- ---- each name is found

-- each of these is what its name holds among all
abbrev pub FoundIn : List (Local Item) → List (Local Item) → Type 0
FoundIn all [] = Unit {0}
FoundIn all (l ∷ ls) = (held_in l.name all ≡ Some l.held) × FoundIn all ls

or_false_left : (a b : Bool) → (a || b) ≡ false → a ≡ false
or_false_left true b h = no (sym h)
or_false_left false b h = refl

or_false_right : (a b : Bool) → (a || b) ≡ false → b ≡ false
or_false_right true b h = no (sym h)
or_false_right false b h = h

is_not : (b : Bool) → not b ≡ true → b ≡ false
is_not true h = no h
is_not false h = refl

found_behind : (x : Local Item) (all ls : List (Local Item)) → is_among x.name (names_of ls) ≡ false → FoundIn all ls → FoundIn (x ∷ all) ls
found_behind x all [] h f = tt
found_behind x all (l ∷ ls) h f = (
  ap (λ b. if b then Some x.held else held_in l.name all) (or_false_left (bytes_eq x.name l.name) (is_among x.name (names_of ls)) h) ∙ f.0,
  found_behind x all ls (or_false_right (bytes_eq x.name l.name) (is_among x.name (names_of ls)) h) f.1,
)

pub all_found : (ls : List (Local Item)) → names_differ (names_of ls) ≡ true → FoundIn ls ls
all_found [] h = tt
all_found (l ∷ ls) h =
    let both = and_parts (not (is_among l.name (names_of ls))) (names_differ (names_of ls)) h in (
      ap (λ b. if b then Some l.held else held_in l.name ls) ((bytes_eq-Decides l.name l.name).1 refl),
      found_behind l ls ls (is_not (is_among l.name (names_of ls)) both.0) (all_found ls both.1),
    )

-- ---- what is lowered where no direction is there, and some names are variables', is where none is

module _ (size : Num → Option ℤ) (crosses : ℕ → Bool) (bare : (d : ℕ) → crosses d ≡ false) (reads : List ℕ → List Sized) where
  step_plain : (s : Step) → step_fits size crosses reads s ≡ true → step_lowered size s ≡ true
  step_plain (S.Opens i head k) h = h
  step_plain (S.Names i name) h = refl
  step_plain (S.Sees i d) h = sym (bare d) ∙ h

  steps_plain : (ss : List Step) → steps_fit size crosses reads ss ≡ true → steps_lowered size ss ≡ true
  steps_plain [] h = refl
  steps_plain (s ∷ ss) h =
      let p = and_parts (step_fits size crosses reads s) (steps_fit size crosses reads ss) h in
      λ i. step_plain s p.0 i && steps_plain ss p.1 i

  pub arm_plain : (arm : Arm) → arm_fits size crosses reads arm ≡ true → arm_lowered size arm ≡ true
  arm_plain (A.Flat n steps) h = steps_plain steps h
  arm_plain (A.Nested ps) h = no h

pub flat_steps : (size : Num → Option ℤ) (arm : Arm) → arm_lowered size arm ≡ true → steps_lowered size (steps_in arm) ≡ true
flat_steps size (A.Flat n steps) h = h
flat_steps size (A.Nested ps) h = no h
