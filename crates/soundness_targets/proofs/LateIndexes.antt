-- The indexes of all suffixes of a part of what is there late, beside the ways that a run finds: the value is read behind them.
use Rattle.std.proofs.Common.{arith, ◌≡◌, ◌∙◌, ◌≤◌, ◌-◌, ℕ, ℤ, suc, Bool, false, true, List, [], ◌∷◌, if◌then◌else◌, length}
use Rattle.std.proofs.Common.{take, drop, nat_lt, Option, Some, None}
use Rattle.std.proofs.Common.{refl, sym, ap, subst}
use Rattle.std.proofs.lemmas.Bool.Decides.{nat_tests}
use Rattle.sail_types.specs.declared.numbers.Num.{Num}
use Rattle.sail_core.specs.Making.{World, integer}
use Rattle.sail_core.specs.Run.{Run, gives, goes_on, ◌then◌}
use Rattle.sail_core.specs.Targets as Runs
use Rattle.sail_core.specs.Targets.{also, way_then, ways_of}
use Rattle.sail_core.specs.Values.{Into, field_way, item_way, slice_way}
use Rattle.sail_core.specs.declared.targets.Suffix.{Suffix}
use Rattle.sail_core.specs.declared.targets.Way.{Way}
use Rattle.sail_core.specs.declared.targets.Way.TheVariants as Y
use Rattle.value_indices.specs.Steps.{Walk, bind}
use Rattle.value_indices.specs.declared.notes.Fact.{Fact}
use Rattle.pattern_leaves.specs.Settings.{Scope}
use Rattle.expression_steps.specs.Parts.{Part, number_before, number_walk, numbers_behind, numbers_walk}
use Rattle.expression_steps.specs.Targets.{is_short, its_numbers, late_count, other_numbers}
use Rattle.expression_steps.specs.Values.{indexes_of, left_after}
use Rattle.checked_meaning.specs.Items.{Item}
use Rattle.value_laws.specs.Known.{Point}
use Rattle.soundness_steps.specs.Points.{Later}
use Rattle.soundness_steps.specs.Works.{Scene, here}
use Rattle.soundness_steps.specs.Steps.{Beside}
use Rattle.soundness_steps.proofs.Steps.{binds, given_back, means, rests, runs_as}
use Rattle.soundness_forms.specs.Forms.{AllFine, Fine}
use Rattle.soundness_forms.specs.Worlds.{Surrounds}
use Rattle.soundness_forms.proofs.Worlds.{surrounds_on}
use Rattle.soundness_parts.proofs.Indexes.{Counts, IsIndex, counts_on, number_runs, paired}
use Rattle.soundness_parts.proofs.SliceSteps.{IsTested, Tests, number_tests, tests_on, under}
use Rattle.soundness_parts.proofs.Taken.{z}
use Rattle.soundness_targets.proofs.Pieces.{maps_on, starts, walk_regrouped}

-- ---- counts

left_low : (ss : List Suffix) (n : ℕ) → left_after ss n ≤ n
left_low [] n = omega arith
left_low (s ∷ ss) n =
    let k = left_low ss (n - indexes_of s.way) in
    omega (arith, k)

-- one more part for the first suffix
count_more : (ss : List Suffix) (n : ℕ) → suc n - left_after ss n ≡ suc (n - left_after ss n)
count_more ss n = omega (arith, left_low ss n)

none_first : (n : ℕ) → nat_lt n 0 ≡ false
none_first n = grind (arith, nat_tests)

same_less : (n : ℕ) → n - 0 ≡ n
same_less n = omega arith

one_enough : (k : ℕ) → nat_lt (suc k) 1 ≡ false
one_enough k = grind (arith, nat_tests)

two_enough : (k : ℕ) → nat_lt (suc (suc k)) 2 ≡ false
two_enough k = grind (arith, nat_tests)

-- how many parts a way and the suffixes behind it take, and whether these are too few
abbrev count_by : Way → List Suffix → ℕ → ℕ
count_by way ss n = n - left_after ss (n - indexes_of way)

abbrev short_by : Way → List Suffix → ℕ → Bool
short_by way ss n = if nat_lt n (indexes_of way) then true else is_short ss (n - indexes_of way)

field_count : (u c : ℕ) (ss : List Suffix) (n : ℕ) → count_by (Y.Field u c) ss n ≡ n - left_after ss n
field_count u c ss n = λ j. n - left_after ss (same_less n j)

item_count : (ss : List Suffix) (n : ℕ) → count_by Y.Item ss (suc n) ≡ suc (n - left_after ss n)
item_count ss n = (λ j. suc n - left_after ss (less_one n j)) ∙ count_more ss n
  where
    less_one : (k : ℕ) → suc k - 1 ≡ k
    less_one k = omega arith

slice_count : (ss : List Suffix) (n : ℕ) → count_by Y.Slice ss (suc (suc n)) ≡ suc (suc (n - left_after ss n))
slice_count ss n = (λ j. suc (suc n) - left_after ss (less_two n j)) ∙ count_twice ss n
  where
    less_two : (k : ℕ) → suc (suc k) - 2 ≡ k
    less_two k = omega arith

    count_twice : (ts : List Suffix) (k : ℕ) → suc (suc k) - left_after ts k ≡ suc (suc (k - left_after ts k))
    count_twice ts k = omega (arith, left_low ts k)

field_more : (u c : ℕ) (ss : List Suffix) (n : ℕ) → short_by (Y.Field u c) ss n ≡ false → is_short ss n ≡ false
field_more u c ss n e = (λ j. is_short ss (sym (same_less n) j)) ∙ (λ j. if sym (none_first n) j then true else is_short ss (n - 0)) ∙ e

item_more : (ss : List Suffix) (n : ℕ) → short_by Y.Item ss (suc n) ≡ false → is_short ss n ≡ false
item_more ss n e = (λ j. is_short ss (sym (less_one n) j)) ∙ (λ j. if sym (one_enough n) j then true else is_short ss (suc n - 1)) ∙ e
  where
    less_one : (k : ℕ) → suc k - 1 ≡ k
    less_one k = omega arith

slice_more : (ss : List Suffix) (n : ℕ) → short_by Y.Slice ss (suc (suc n)) ≡ false → is_short ss n ≡ false
slice_more ss n e =
    (λ j. is_short ss (sym (less_two n) j)) ∙ (λ j. if sym (two_enough n) j then true else is_short ss (suc (suc n) - 2)) ∙ e
  where
    less_two : (k : ℕ) → suc (suc k) - 2 ≡ k
    less_two k = omega arith

-- ---- the ways that a run finds by the numbers of their indexes

abbrev pub ByFirst : (Into → Type 0) → (List Into → Type 0) → List Into → Type 0
ByFirst P Q [] = ⊥
ByFirst P Q (t ∷ ts) = P t × Q ts

module _ (q : Scene) where
  abbrev pub WayNumbers : {n : ℕ} → Point n → Way → List Num → Into → Type 0
  WayNumbers g (Y.Field u c) ns t = t ≡ field_way u c
  WayNumbers g Y.Item (n ∷ []) t = (y : Item) × (i : ℤ) × Counts q g n y i × (t ≡ item_way i)
  WayNumbers g Y.Slice (h ∷ l ∷ []) t =
      (y : Item) × (u : Item) × (hi : Tests q g h y) × (lo : Tests q g l u) × (t ≡ slice_way hi.integer_there lo.integer_there)
  WayNumbers g way ns t = ⊥

  abbrev pub WaysAre : {n : ℕ} → Point n → List Suffix → List Num → List Into → Type 0
  WaysAre g [] ns ts = ts ≡ []
  WaysAre g (s ∷ ss) ns ts = ByFirst (WayNumbers g s.way (its_numbers s ns)) (WaysAre g ss (other_numbers s ns)) ts

  pub way_on : {n m : ℕ} {f : Point n} {g : Point m} (way : Way) (ns : List Num) (t : Into) → Later f g → WayNumbers f way ns t → WayNumbers g way ns t
  way_on (Y.Field u c) ns t l h = h
  way_on Y.Item (n ∷ []) t l h = (h.0, h.1, counts_on l h.2, h.3)
  way_on Y.Item [] t l h = absurd h
  way_on Y.Item (n ∷ k ∷ ns) t l h = absurd h
  way_on Y.Slice (n ∷ k ∷ []) t l h = (h.0, h.1, tests_on l h.2, tests_on l h.3, h.4)
  way_on Y.Slice [] t l h = absurd h
  way_on Y.Slice (n ∷ []) t l h = absurd h
  way_on Y.Slice (n ∷ k ∷ j ∷ ns) t l h = absurd h

  pub ways_on : {n m : ℕ} {f : Point n} {g : Point m} (ss : List Suffix) (ns : List Num) (ts : List Into) → Later f g → WaysAre f ss ns ts
      → WaysAre g ss ns ts
  ways_on [] ns ts l h = h
  ways_on (s ∷ ss) ns [] l h = absurd h
  ways_on (s ∷ ss) ns (t ∷ ts) l h = (way_on s.way (its_numbers s ns) t l h.0, ways_on ss (other_numbers s ns) ts l h.1)

  module _ (w : World Item) (scope : Scope) where
    -- the numbers of all, the ways, and the parts that are left behind them
    abbrev pub Indexed : List Suffix → List Part → {n : ℕ} → Point n → Option (List Num) → Runs.Spotted Item (List Into) → Type 0
    Indexed ss ps g None r = ⊥
    Indexed ss ps g (Some ns) r = WaysAre g ss ns r.found × AllFine q w ps r.left

    abbrev pub AllIndexed : List Suffix → Type 0
    AllIndexed ss = (n : ℕ) (f : Point n) (facts : List Fact) (ps : List Part) (us : List (Run Item Item)) → is_short ss (length ps) ≡ false
        → AllFine q w ps us → Surrounds q w f scope
        → Beside q n f facts (numbers_walk (take (late_count ss ps) ps) (here q) scope) (ways_of (z q) ss us)
        (λ m g o r. Indexed ss (drop (late_count ss ps) ps) g o r)

    nothing_left : (k : ℕ) → k - k ≡ 0
    nothing_left k = omega arith

    none_indexed : AllIndexed []
    none_indexed n f facts ps us enough fine there =
        subst (λ (c : ℕ). Beside q n f facts (numbers_walk (take c ps) (here q) scope) (Runs.spotted [] us) (λ m g o r. Indexed [] (drop c ps) g o r))
        (sym (nothing_left (length ps))) (rests (record { found = []; left = us }) (given_back (Some []) (refl, fine)))

    -- a way, and those behind it
    abbrev Found : Way → List Suffix → List Part → {n : ℕ} → Point n → Option (List Num) → Runs.Spotted Item (List Into) → Type 0
    Found way ss ps g None r = ⊥
    Found way ss ps g (Some ns) r =
        ByFirst (WayNumbers g way (take (indexes_of way) ns)) (WaysAre g ss (drop (indexes_of way) ns)) r.found × AllFine q w ps r.left

    abbrev with_into : Into → Runs.Spotted Item (List Into) → Runs.Spotted Item (List Into)
    with_into t r = record { found = t ∷ r.found; left = r.left }

    module _ (ss : List Suffix) (more : AllIndexed ss) where
      field_found : (u c : ℕ) (ps : List Part) {n : ℕ} (g : Point n) (o : Option (List Num)) (r : Runs.Spotted Item (List Into)) → Indexed ss ps g o r
          → Found (Y.Field u c) ss ps g o (with_into (field_way u c) r)
      field_found u c ps g None r h = absurd h
      field_found u c ps g (Some ns) r h = ((refl, h.0), h.1)

      field_indexed : (u c : ℕ) (n : ℕ) (f : Point n) (facts : List Fact) (ps : List Part) (us : List (Run Item Item))
          → short_by (Y.Field u c) ss (length ps) ≡ false → AllFine q w ps us → Surrounds q w f scope
          → Beside q n f facts (numbers_walk (take (count_by (Y.Field u c) ss (length ps)) ps) (here q) scope)
          (way_then (z q) (Y.Field u c) us (ways_of (z q) ss))
          (λ m g o r. Found (Y.Field u c) ss (drop (count_by (Y.Field u c) ss (length ps)) ps) g o r)
      field_indexed u c n f facts ps us enough fine there =
          subst (λ (k : ℕ). Beside q n f facts (numbers_walk (take k ps) (here q) scope) (way_then (z q) (Y.Field u c) us (ways_of (z q) ss))
          (λ m g o r. Found (Y.Field u c) ss (drop k ps) g o r)) (sym (field_count u c ss (length ps)))
          (maps_on (with_into (field_way u c)) {Then = λ m g o r. Found (Y.Field u c) ss (drop (length ps - left_after ss (length ps)) ps) g o r}
          (λ m g o r l h. field_found u c (drop (length ps - left_after ss (length ps)) ps) g o r h)
          (more n f facts ps us (field_more u c ss (length ps) enough) fine there))

      -- an index

      module _ (p : Part) (a : Run Item Item) (fine : Fine q w false false p a) (ps : List Part) (us : List (Run Item Item))
          (enough : is_short ss (length ps) ≡ false) (fines : AllFine q w ps us) where
        abbrev rest : Walk (Option (List Num))
        rest = numbers_walk (take (late_count ss ps) ps) (here q) scope

        abbrev left : List Part
        left = drop (late_count ss ps) ps

        item_last : {m : ℕ} {g : Point m} {fs : List Fact} (t : Num) (y : Item) (i : ℤ) → Counts q g t y i → (o : Option (List Num))
            (r : Runs.Spotted Item (List Into)) → Indexed ss left g o r
            → Beside q m g fs (number_before t o) (Runs.spotted (item_way i ∷ r.found) r.left) (λ d c b x. Found Y.Item ss left c b x)
        item_last t y i c None r h = absurd h
        item_last t y i c (Some ns) r h =
            rests (record { found = item_way i ∷ r.found; left = r.left }) (given_back (Some (t ∷ ns)) (((y, i, c, refl), h.0), h.1))

        item_then : {m : ℕ} {g : Point m} {fs : List Fact} → Surrounds q w g scope → (o : Option Num) (y : Item) (i : ℤ) → IsIndex q g o y i
            → Beside q m g fs (numbers_behind rest o) (also (item_way i) (ways_of (z q) ss us)) (λ d c b x. Found Y.Item ss left c b x)
        item_then there None y i e = absurd e
        item_then {m} {g} {fs} there (Some t) y i e =
            binds (number_before t) (λ more2. Runs.spotted (item_way i ∷ more2.found) more2.left) (more m g fs ps us enough fines there) (λ d c gs o r l h.
            item_last t y i (counts_on l e) o r h)

        item_indexed : (n : ℕ) (f : Point n) (facts : List Fact) → Surrounds q w f scope
            → Beside q n f facts (bind (number_walk p (here q) scope) (numbers_behind rest)) (way_then (z q) Y.Item (a ∷ us) (ways_of (z q) ss))
            (λ m g o r. Found Y.Item ss left g o r)
        item_indexed n f facts there =
            runs_as (λ now. paired (a now) (integer (z q)) (λ y i. also (item_way i) (ways_of (z q) ss us)))
            (binds (numbers_behind rest) (λ r. also (item_way r.1) (ways_of (z q) ss us)) (number_runs q w p a fine scope there) (λ m g fs o r l e.
            item_then (surrounds_on q w scope l there) o r.0 r.1 e))

      -- two

      module _ (p r : Part) (a b : Run Item Item) (first : Fine q w false false p a) (second : Fine q w false false r b) (ps : List Part)
          (us : List (Run Item Item)) (enough : is_short ss (length ps) ≡ false) (fines : AllFine q w ps us) where
        abbrev ends : Walk (Option (List Num))
        ends = numbers_walk (take (late_count ss ps) ps) (here q) scope

        abbrev behind : List Part
        behind = drop (late_count ss ps) ps

        abbrev slice_runs : ℤ → ℤ → Run Item (Runs.Spotted Item (List Into))
        slice_runs hi lo = also (slice_way hi lo) (ways_of (z q) ss us)

        abbrev ints : Item → Item → Run Item (Runs.Spotted Item (List Into))
        ints y u = integer (z q) y then λ hi. integer (z q) u then λ lo. slice_runs hi lo

        slice_last : {m : ℕ} {g : Point m} {fs : List Fact} (t s : Num) (y u : Item) (ht : Tests q g t y) (hs : Tests q g s u) (o : Option (List Num))
            (x : Runs.Spotted Item (List Into)) → Indexed ss behind g o x
            → Beside q m g fs (bind (number_before s o) (number_before t)) (Runs.spotted (slice_way ht.integer_there hs.integer_there ∷ x.found) x.left)
            (λ d c e j. Found Y.Slice ss behind c e j)
        slice_last t s y u ht hs None x h = absurd h
        slice_last t s y u ht hs (Some ns) x h =
            starts (Some (s ∷ ns)) (number_before t)
            (rests (record { found = slice_way ht.integer_there hs.integer_there ∷ x.found; left = x.left })
            (given_back (Some (t ∷ s ∷ ns)) (((y, u, ht, hs, refl), h.0), h.1)))

        slice_ints : {m : ℕ} {g : Point m} {fs : List Fact} → Surrounds q w g scope → (t s : Num) (y u : Item) → Tests q g t y → Tests q g s u
            → Beside q m g fs (bind (bind ends (number_before s)) (number_before t)) (ints y u) (λ d c e j. Found Y.Slice ss behind c e j)
        slice_ints {m} {g} {fs} there t s y u ht hs =
            let hi : ℤ = ht.integer_there in
            let lo : ℤ = hs.integer_there in
            runs_as (λ now. ap (λ e. goes_on e (slice_runs hi)) (hs.test now) ∙ ap (λ e. goes_on e (λ k. integer (z q) u then slice_runs k)) (ht.test now))
            (walk_regrouped ends (number_before s) (number_before t)
            (binds (λ o. bind (number_before s o) (number_before t)) (λ more2. Runs.spotted (slice_way hi lo ∷ more2.found) more2.left)
            (more m g fs ps us enough fines there) (λ d c gs o x l h.
            slice_last t s y u (tests_on l ht) (tests_on l hs) o x h)))

        slice_second : {m : ℕ} {g : Point m} {fs : List Fact} → Surrounds q w g scope → (t : Num) (y : Item) → Tests q g t y → (o : Option Num) (u : Item)
            → IsTested q g o u
            → Beside q m g fs (bind (numbers_behind ends o) (number_before t)) (ints y u) (λ d c e j. Found Y.Slice ss behind c e j)
        slice_second there t y ht None u e = absurd e
        slice_second there t y ht (Some s) u e = slice_ints there t s y u ht e

        slice_first : {m : ℕ} {g : Point m} {fs : List Fact} → Surrounds q w g scope → (o : Option Num) (y : Item) → IsTested q g o y
            → Beside q m g fs (numbers_behind (bind (number_walk r (here q) scope) (numbers_behind ends)) o) (b then λ u. ints y u)
            (λ d c e j. Found Y.Slice ss behind c e j)
        slice_first there None y e = absurd e
        slice_first {m} {g} {fs} there (Some t) y e =
            walk_regrouped (number_walk r (here q) scope) (numbers_behind ends) (number_before t)
            (runs_as (λ now. under (b now) gives (λ u. ints y u) (λ u. ints y u) (λ u n1. refl))
            (binds (λ o. bind (numbers_behind ends o) (number_before t)) (λ u. ints y u) (number_tests q w scope r b second there) (λ d c gs o u l h.
            slice_second (surrounds_on q w scope l there) t y (tests_on l e) o u h)))

        slice_indexed : (n : ℕ) (f : Point n) (facts : List Fact) → Surrounds q w f scope
            → Beside q n f facts (bind (number_walk p (here q) scope) (numbers_behind (bind (number_walk r (here q) scope) (numbers_behind ends))))
            (way_then (z q) Y.Slice (a ∷ b ∷ us) (ways_of (z q) ss)) (λ m g o x. Found Y.Slice ss behind g o x)
        slice_indexed n f facts there =
            runs_as (λ now. under (a now) gives (λ y. b then λ u. ints y u) (λ y. b then λ u. ints y u) (λ y n1. refl))
            (binds (numbers_behind (bind (number_walk r (here q) scope) (numbers_behind ends))) (λ y. b then λ u. ints y u)
            (number_tests q w scope p a first there) (λ m g fs o y l e.
            slice_first (surrounds_on q w scope l there) o y e))

      -- any way
      more_indexed : (way : Way) (n : ℕ) (f : Point n) (facts : List Fact) (ps : List Part) (us : List (Run Item Item))
          → short_by way ss (length ps) ≡ false → AllFine q w ps us → Surrounds q w f scope
          → Beside q n f facts (numbers_walk (take (count_by way ss (length ps)) ps) (here q) scope) (way_then (z q) way us (ways_of (z q) ss))
          (λ m g o r. Found way ss (drop (count_by way ss (length ps)) ps) g o r)
      more_indexed (Y.Field u c) n f facts ps us enough fine there = field_indexed u c n f facts ps us enough fine there
      more_indexed Y.Item n f facts (p ∷ ps) (a ∷ us) enough fine there =
          subst (λ (k : ℕ). Beside q n f facts (numbers_walk (take k (p ∷ ps)) (here q) scope) (way_then (z q) Y.Item (a ∷ us) (ways_of (z q) ss))
          (λ m g o r. Found Y.Item ss (drop k (p ∷ ps)) g o r)) (sym (item_count ss (length ps)))
          (item_indexed p a fine.0 ps us (item_more ss (length ps) enough) fine.1 n f facts there)
      more_indexed Y.Slice n f facts (p ∷ r ∷ ps) (a ∷ b ∷ us) enough fine there =
          subst (λ (k : ℕ). Beside q n f facts (numbers_walk (take k (p ∷ r ∷ ps)) (here q) scope)
          (way_then (z q) Y.Slice (a ∷ b ∷ us) (ways_of (z q) ss)) (λ m g o x. Found Y.Slice ss (drop k (p ∷ r ∷ ps)) g o x)) (sym (slice_count ss (length ps)))
          (slice_indexed p r a b fine.0 fine.1.0 ps us (slice_more ss (length ps) enough) fine.1.1 n f facts there)
      more_indexed Y.Item n f facts [] us enough fine there = absurd (cc)
      more_indexed Y.Slice n f facts [] us enough fine there = absurd (cc)
      more_indexed Y.Slice n f facts (p ∷ []) us enough fine there = absurd (cc)
      more_indexed Y.Item n f facts (p ∷ ps) [] enough fine there = absurd fine
      more_indexed Y.Slice n f facts (p ∷ r ∷ ps) [] enough fine there = absurd fine
      more_indexed Y.Slice n f facts (p ∷ r ∷ ps) (a ∷ []) enough fine there = absurd fine.1

    pub all_indexed : (ss : List Suffix) → AllIndexed ss
    all_indexed [] n f facts ps us enough fine there = none_indexed n f facts ps us enough fine there
    all_indexed (s ∷ ss) n f facts ps us enough fine there = as_indexed (more_indexed ss (all_indexed ss) s.way n f facts ps us enough fine there)
      where
        same_found : {m : ℕ} (g : Point m) (o : Option (List Num)) (r : Runs.Spotted Item (List Into))
            → Found s.way ss (drop (late_count (s ∷ ss) ps) ps) g o r → Indexed (s ∷ ss) (drop (late_count (s ∷ ss) ps) ps) g o r
        same_found g None r h = absurd h
        same_found g (Some ns) r h = h

        as_indexed : Beside q n f facts (numbers_walk (take (late_count (s ∷ ss) ps) ps) (here q) scope) (way_then (z q) s.way us (ways_of (z q) ss))
            (λ m g o r. Found s.way ss (drop (late_count (s ∷ ss) ps) ps) g o r)
            → Beside q n f facts (numbers_walk (take (late_count (s ∷ ss) ps) ps) (here q) scope) (ways_of (z q) (s ∷ ss) us)
            (λ m g o r. Indexed (s ∷ ss) (drop (late_count (s ∷ ss) ps) ps) g o r)
        as_indexed h = means (λ m g o r l k. same_found g o r k) h
