-- One suffix after the other: a slice, its part, and what stands behind it.
use Rattle.std.proofs.Common.{◌≡◌, ◌∙◌, ℕ, suc, ℤ, false, List, [], ◌∷◌, if◌then◌else◌, length, take, drop, nat_lt, Option, Some, None, refl, sym, ap, subst, arith}
use Rattle.std.proofs.lemmas.Bool.Decides.{nat_tests}
use Rattle.sail_base.specs.declared.place.Place.{Place}
use Rattle.sail_types.specs.declared.numbers.Num.{Num}
use Rattle.sail_core.specs.Making.{World, integer}
use Rattle.sail_core.specs.Meaning.{taken as taken_run}
use Rattle.sail_core.specs.Run as Runs
use Rattle.sail_core.specs.Run.{Ended, Now, Run, gives, goes_on, ◌then◌}
use Rattle.sail_core.specs.Values.{slice_way}
use Rattle.sail_core.specs.declared.targets.Way.TheVariants as Y
use Rattle.value_indices.specs.declared.indices.Indices.{Indices, out-Indices, roll-Indices}
use Rattle.value_indices.specs.declared.indices.Indices.TheOpen as W
use Rattle.value_indices.specs.declared.indices.Indices.TheOpen.{Indices-F}
use Rattle.value_indices.specs.declared.indices.Indices.TheVariants as I
use Rattle.value_indices.specs.declared.indices.Indices.TheViews.{roll-out-Indices}
use Rattle.value_indices.specs.declared.indices.Reading.{Reading}
use Rattle.value_indices.specs.declared.notes.Fact.{Fact}
use Rattle.value_indices.specs.Steps.{Walk, bind, give}
use Rattle.pattern_leaves.specs.Settings.{Scope}
use Rattle.call_arguments.specs.declared.aims.Aim.TheVariants as Aims
use Rattle.call_notes.specs.Ends.{integer_number, number_form}
use Rattle.expression_forms.specs.Ways.{into_slice}
use Rattle.expression_forms.specs.declared.ways.Ends.{Ends}
use Rattle.expression_forms.specs.declared.ways.Reached.{Reached}
use Rattle.expression_steps.specs.Parts.{Part, number_before, number_walk, numbers_behind, numbers_walk}
use Rattle.expression_steps.specs.Values.{Passed, Taken, no_way, passed, reached_by, read_taken, slice_reached, taken, then_on, way_taken, way_walk}
use Rattle.checked_meaning.specs.Items.{Item}
use Rattle.value_laws.specs.Known.{Point}
use Rattle.soundness_steps.specs.Points.{Later}
use Rattle.soundness_steps.specs.Works.{Scene, here}
use Rattle.soundness_steps.specs.Steps.{Beside, Walks}
use Rattle.soundness_steps.specs.Values.{Is}
use Rattle.soundness_steps.proofs.Steps.{binds, given_back, rests, runs_as, walks_on}
use Rattle.soundness_forms.specs.Forms.{Fine}
use Rattle.soundness_forms.specs.Worlds.{Surrounds}
use Rattle.soundness_forms.proofs.Basics.{is_on, then_walks, wrong_alone}
use Rattle.soundness_forms.proofs.Casts.{comes_is, no_guard}
use Rattle.soundness_forms.proofs.Tests.{integer_tested, never_value}
use Rattle.soundness_forms.proofs.Worlds.{surrounds_on}
use Rattle.soundness_parts.proofs.Indexes.{Counts, counts_on, maps}
use Rattle.soundness_parts.proofs.Slices.{EndsAre, IsWide, slice_fine, width_of, width_walks}
use Rattle.soundness_parts.proofs.Taken.{z}

-- ---- runs one behind the other

pub thens : {A B C : Type 0} (e : Ended Item A) (k : A → Run Item B) (l : B → Run Item C) → goes_on (goes_on e k) l ≡ goes_on e (λ x. k x then l)
thens (Runs.Gives x now) k l = refl
thens (Runs.No now) k l = refl
thens (Runs.Returns v now) k l = refl
thens (Runs.Throws v now) k l = refl
thens (Runs.Stops cause now) k l = refl
thens Runs.Stuck k l = refl

-- what each result goes on with
pub under : {A B C : Type 0} (e : Ended Item A) (k : A → Run Item B) (l : A → Run Item C) (g : B → Run Item C)
    → ((x : A) (now : Now Item) → goes_on (k x now) g ≡ l x now) → goes_on (goes_on e k) g ≡ goes_on e l
under e k l g h = thens e k g ∙ (λ j. goes_on e (λ x now. h x now j))

-- ---- two values

abbrev pub couple : Item → Item → Item × Item
couple y u = (y, u)

-- ---- an index whose integer is tested later

module _ (q : Scene) where
  pub record Tests {n : ℕ} (f : Point n) (t : Num) (y : Item) : Type 0 where
    pub integer_there : ℤ
    pub counts : Counts q f t y integer_there
    pub test : (now : Now Item) → Runs.Gives integer_there now ≡ integer (z q) y now

  abbrev pub IsTested : {n : ℕ} → Point n → Option Num → Item → Type 0
  IsTested f None y = ⊥
  IsTested f (Some t) y = Tests f t y

  abbrev pub OneTested : {n : ℕ} → Point n → Option (List Num) → Item → Type 0
  OneTested f (Some (t ∷ [])) y = Tests f t y
  OneTested f o y = ⊥

  abbrev pub TwoTested : {n : ℕ} → Point n → Option (List Num) → Item → Item → Type 0
  TwoTested f (Some (t ∷ s ∷ [])) y u = Tests f t y × Tests f s u
  TwoTested f o y u = ⊥

abbrev pub tests_on : {q : Scene} {n m : ℕ} {f : Point n} {g : Point m} {t : Num} {y : Item} → Later f g → Tests q f t y → Tests q g t y
tests_on l h = record { integer_there = h.integer_there; counts = counts_on l h.counts; test = h.test }

module _ {q : Scene} {n : ℕ} {f : Point n} {facts : List Fact} where
  tested_by : (place : Place) (i : Indices) (y : Item) → Is q.set q.work f i y → (w : Indices-F Indices Reading) → out-Indices i ≡ w
      → Beside q n f facts (number_form place w) (gives y) (λ m p o x. IsTested q p o x)
  tested_by place i y h (W.Integer t) e =
      let is : i ≡ I.Integer t = sym (roll-out-Indices i) ∙ ap roll-Indices e ∙ I.rolls-Integer t in
      let k = integer_tested q i y h t is in
      rests y (given_back (Some t) (record {
        integer_there = k.0;
        counts = record { is_integer = subst (λ j. Is q.set q.work f j y) is h; same = k.2.1 };
        test = k.1;
      }))
  tested_by place i y h W.Never e = absurd (never_value q i y h e)
  tested_by place i y h W.Unit e = wrong_alone place _
  tested_by place i y h W.Bit e = wrong_alone place _
  tested_by place i y h (W.Bits t) e = wrong_alone place _
  tested_by place i y h (W.Truth c) e = wrong_alone place _
  tested_by place i y h W.String e = wrong_alone place _
  tested_by place i y h (W.List r) e = wrong_alone place _
  tested_by place i y h (W.Vector t r) e = wrong_alone place _
  tested_by place i y h (W.Tuple is) e = wrong_alone place _
  tested_by place i y h (W.Named u is rs) e = wrong_alone place _
  tested_by place i y h (W.Variable j) e = wrong_alone place _

module _ (q : Scene) (w : World Item) (scope : Scope) where
  pub number_tests : (p : Part) (a : Run Item Item) → Fine q w false false p a → {n : ℕ} {f : Point n} {facts : List Fact} → Surrounds q w f scope
      → Beside q n f facts (number_walk p (here q) scope) (a then gives) (λ m g o y. IsTested q g o y)
  number_tests p a fine {n} {f} {facts} there =
      binds (integer_number p.place) gives (fine.walks q.names q.may_fall no_guard n f facts scope Aims.Free there tt) (λ m g fs i y l c.
      tested_by p.place i y (comes_is p.is_nested p.never_ends Aims.Free i y c) (out-Indices i) refl)

  -- one index alone
  pub one_test : (p : Part) (a : Run Item Item) → Fine q w false false p a → {n : ℕ} {f : Point n} {facts : List Fact} → Surrounds q w f scope
      → Beside q n f facts (numbers_walk (p ∷ []) (here q) scope) (a then gives) (λ m g o y. OneTested q g o y)
  one_test p a fine there = then_walks (numbers_behind (give (Some []))) (number_tests p a fine there) (λ m g fs o y l h. by m g fs o y h)
    where
      by : (m : ℕ) (g : Point m) (fs : List Fact) (o : Option Num) (y : Item) → IsTested q g o y
          → Walks q m g fs (numbers_behind (give (Some [])) o) (λ j d b. OneTested q d b y)
      by m g fs None y h = absurd h
      by m g fs (Some t) y h = walks_on (number_before t) (given_back (Some []) refl) (λ j d gs b l e. behind j d gs b l e)
        where
          behind : (j : ℕ) (d : Point j) (gs : List Fact) (b : Option (List Num)) → Later g d → b ≡ Some []
              → Walks q j d gs (number_before t b) (λ x d2 c. OneTested q d2 c y)
          behind j d gs b l e = subst (λ c. Walks q j d gs (number_before t c) (λ x d2 u. OneTested q d2 u y)) (sym e)
              (given_back (Some (t ∷ [])) (tests_on l h))

  -- two
  module _ (p r : Part) (a b : Run Item Item) (first : Fine q w false false p a) (second : Fine q w false false r b) where
    abbrev pub pairs : Run Item (Item × Item)
    pairs = (a then gives) then λ y. (b then gives) then λ u. gives (couple y u)

    -- one value behind the other
    pub pairs_then : {A : Type 0} (g : Item × Item → Run Item A) (now : Now Item) → (pairs then g) now ≡ (a then λ y. b then λ u. g (couple y u)) now
    pairs_then g now =
        ap (λ e. goes_on e g) (thens (a now) gives (λ y. (b then gives) then λ u. gives (couple y u)))
        ∙ under (a now) _ _ g (λ y n1. ap (λ e. goes_on e g) (thens (b n1) gives (λ u. gives (couple y u))) ∙ under (b n1) _ _ g (λ u n2. refl))

    behind_one : {n : ℕ} {f : Point n} {facts : List Fact} → Surrounds q w f scope → (t : Num) (y : Item) → Tests q f t y
        → Beside q n f facts (bind (numbers_walk (r ∷ []) (here q) scope) (number_before t)) (b then gives) (λ m g o u. TwoTested q g o y u)
    behind_one {f} there t y h = then_walks (number_before t) (one_test r b second there) (λ m g fs o u l k. by m g fs o u l k)
      where
        by : (m : ℕ) (g : Point m) (fs : List Fact) (o : Option (List Num)) (u : Item) → Later f g → OneTested q g o u
            → Walks q m g fs (number_before t o) (λ j d c. TwoTested q d c y u)
        by m g fs (Some (s ∷ [])) u l k = given_back (Some (t ∷ s ∷ [])) (tests_on l h, k)
        by m g fs None u l k = absurd k
        by m g fs (Some []) u l k = absurd k
        by m g fs (Some (s ∷ v ∷ ss)) u l k = absurd k

    pub two_tests : {n : ℕ} {f : Point n} {facts : List Fact} → Surrounds q w f scope
        → Beside q n f facts (numbers_walk (p ∷ r ∷ []) (here q) scope) pairs (λ m g o x. TwoTested q g o x.0 x.1)
    two_tests {n} {f} there =
        binds (numbers_behind (numbers_walk (r ∷ []) (here q) scope)) (λ y. (b then gives) then λ u. gives (couple y u)) (number_tests p a first there)
        (λ m g fs o y l h. by m g fs o y l h)
      where
        by : (m : ℕ) (g : Point m) (fs : List Fact) (o : Option Num) (y : Item) → Later f g → IsTested q g o y
            → Beside q m g fs (numbers_behind (numbers_walk (r ∷ []) (here q) scope) o) ((b then gives) then λ u. gives (couple y u))
            (λ j d c x. TwoTested q d c x.0 x.1)
        by m g fs None y l h = absurd h
        by m g fs (Some t) y l h = maps (couple y) (λ j d c u k. k) (behind_one (surrounds_on q w scope l there) t y h)

-- ---- its part, and what stands behind it

enough : (n : ℕ) → nat_lt (suc (suc n)) 2 ≡ false
enough n = grind (arith, nat_tests)

module _ (q : Scene) (w : World Item) (scope : Scope) (place : Place) (k : ℕ) (i : Indices) (x : Item) where
  abbrev reads : Item → Item → Run Item Item
  reads y u = integer (z q) y then λ hi. integer (z q) u then λ lo. taken_run (z q) k (slice_way hi lo) x (y ∷ u ∷ [])

  -- the slice that is reached
  pub record Ranges {n : ℕ} (f : Point n) (o : Option Reached) (y u : Item) : Type 0 where
    pub high : Num
    pub low : Num
    pub width : Num
    pub is_high : Tests q f high y
    pub is_low : Tests q f low u
    pub wide : IsWide q f width (width_of is_high.integer_there is_low.integer_there)
    pub same : o ≡ into_slice high low width (out-Indices i)

  -- with the parts of the expression behind its indexes
  abbrev Reaches : {n : ℕ} → Point n → List Part → Option Taken → Item → Item → Type 0
  Reaches g ps o y u = (r : Option Reached) × (o ≡ taken r ps) × Ranges g r y u

  abbrev PassedIs : {n : ℕ} → Point n → List Part → Option Passed → Item → Type 0
  PassedIs g ps o u = (j : Indices) × (o ≡ passed ps j) × Is q.set q.work g j u

  module _ {n : ℕ} {f : Point n} (t s : Num) (y u : Item) (ht : Tests q f t y) (hs : Tests q f s u) where
    range_behind : {m : ℕ} {g : Point m} {gs : List Fact} (o : Option Ends) → Later f g
        → EndsAre q t s ht.integer_there hs.integer_there ht.counts.same hs.counts.same g o
        → Walks q m g gs (slice_reached i o) (λ j d r. Ranges d r y u)
    range_behind None l e = absurd e
    range_behind (Some e) l (h, b, c) = given_back (into_slice e.high e.low e.width (out-Indices i)) (record {
      high = t;
      low = s;
      width = e.width;
      is_high = tests_on l ht;
      is_low = tests_on l hs;
      wide = c;
      same = λ j. into_slice (h j) (b j) e.width (out-Indices i);
    })

    pub range_walks : {fs : List Fact} → Walks q n f fs (reached_by (here q) i Y.Slice (t ∷ s ∷ [])) (λ m d r. Ranges d r y u)
    range_walks = walks_on (slice_reached i)
        (width_walks q t s ht.integer_there hs.integer_there ht.counts.same hs.counts.same) (λ m d gs o l e. range_behind o l e)

  reached_walks : {n : ℕ} {g : Point n} {fs : List Fact} (ps : List Part) (o : Option (List Num)) (y u : Item) → TwoTested q g o y u
      → Walks q n g fs (way_taken (here q) i Y.Slice ps o) (λ m d r. Reaches d ps r y u)
  reached_walks ps (Some (t ∷ s ∷ [])) y u h =
      walks_on (λ r. give (taken r ps)) (range_walks t s y u h.0 h.1) (λ m d gs r l e. given_back (taken r ps) (r, refl, e))
  reached_walks ps None y u h = absurd h
  reached_walks ps (Some []) y u h = absurd h
  reached_walks ps (Some (t ∷ [])) y u h = absurd h
  reached_walks ps (Some (t ∷ s ∷ v ∷ ts)) y u h = absurd h

  takes : {n : ℕ} {g : Point n} {fs : List Fact} (ps : List Part) (o : Option Taken) (y u : Item) → Is q.set q.work g i x → Reaches g ps o y u
      → Beside q n g fs (read_taken false place k i o) (reads y u) (λ m d r v. PassedIs d ps r v)
  takes {n} {g} {fs} ps o y u h t =
      let e = t.2 in
      let hi = e.is_high.integer_there in
      let lo = e.is_low.integer_there in
      let d : ℤ → ℤ → Run Item Item = λ a b. taken_run (z q) k (slice_way a b) x (y ∷ u ∷ []) in
      subst (λ s. Beside q n g fs (read_taken false place k i s) (reads y u) (λ m d r v. PassedIs d ps r v)) (sym (t.1 ∙ ap (λ r. taken r ps) e.same))
      (runs_as (λ now. ap (λ e. goes_on e (d hi)) (e.is_low.test now) ∙ ap (λ e. goes_on e (λ a. integer (z q) u then d a)) (e.is_high.test now))
      (then_walks (λ j. give (passed ps j))
      (slice_fine q place k i x h e.high e.low e.width y u hi lo e.is_high.counts e.is_low.counts e.wide) (λ m d gs j v l is.
      given_back (passed ps j) (j, refl, is))))

  module _ (p r : Part) (ps : List Part) (a b : Run Item Item) (first : Fine q w false false p a) (second : Fine q w false false r b) (runs : Item → Run Item Item) where
    -- as the meaning has it
    abbrev pub sliced : Run Item Item
    sliced = a then λ y. b then λ u. integer (z q) y then λ hi. integer (z q) u then λ lo. taken_run (z q) k (slice_way hi lo) x (y ∷ u ∷ []) then runs

    abbrev both : Item × Item → Run Item Item
    both r = reads r.0 r.1

    reads_then : (y u : Item) (now : Now Item) → goes_on (reads y u now) runs
        ≡ (integer (z q) y then λ hi. integer (z q) u then λ lo. taken_run (z q) k (slice_way hi lo) x (y ∷ u ∷ []) then runs) now
    reads_then y u now =
        let d : ℤ → ℤ → Run Item Item = λ hi lo. taken_run (z q) k (slice_way hi lo) x (y ∷ u ∷ []) in
        thens (integer (z q) y now) (λ hi. integer (z q) u then d hi) runs
        ∙ (λ j. goes_on (integer (z q) y now) (λ hi now2. thens (integer (z q) u now2) (d hi) runs j))

    in_turn : (now : Now Item) → ((pairs q w scope p r a b first second then both) then runs) now ≡ sliced now
    in_turn now =
        thens (pairs q w scope p r a b first second now) both runs
        ∙ (pairs_then q w scope p r a b first second (λ v. both v then runs) now
        ∙ (λ j. goes_on (a now) (λ y n1. goes_on (b n1) (λ u n2. reads_then y u n2 j))))

    -- a slice, and what stands behind its part
    pub slice_step : {n : ℕ} {f : Point n} {facts : List Fact} {A : Type 0} → Surrounds q w f scope → Is q.set q.work f i x
        → (more : List Part → Indices → Walk (Option A)) → {Then : (m : ℕ) → Point m → Option A → Item → Type 0}
        → ((m : ℕ) (g : Point m) (fs : List Fact) (j : Indices) (u : Item) → Later f g → Is q.set q.work g j u → Beside q m g fs (more ps j) (runs u) Then)
        → Beside q n f facts (bind (bind (way_walk place (p ∷ r ∷ ps) (here q) scope i Y.Slice) (read_taken false place k i)) (then_on more)) sliced Then
    slice_step {n} {f} {facts} there h more {Then} next =
        let found = then_walks (way_taken (here q) i Y.Slice ps) (two_tests q w scope p r a b first second there) (λ m g fs o v l e.
        reached_walks ps o v.0 v.1 e) in
        let read = binds (read_taken false place k i) both found (λ m g fs o v l t. takes ps o v.0 v.1 (is_on l h) t) in
        let behind = binds (then_on more) runs read (λ m g fs o u l e.
        subst (λ s. Beside q m g fs (then_on more s) (runs u) Then) (sym e.1) (next m g fs e.0 u l e.2)) in
        subst (λ s. Beside q n f facts (bind (bind s (read_taken false place k i)) (then_on more)) sliced Then)
        (sym (ap (λ c. if c then no_way place else bind (numbers_walk (take 2 (p ∷ r ∷ ps)) (here q) scope)
        (way_taken (here q) i Y.Slice (drop 2 (p ∷ r ∷ ps)))) (enough (length ps)))) (runs_as in_turn behind)
