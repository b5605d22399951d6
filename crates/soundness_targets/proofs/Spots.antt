-- The suffixes of a target, beside their walk: the parts on the way are opened for a value that is foreseen, and another value at their end stands in
-- its place.
use Rattle.std.proofs.Common.{◌≡◌, ◌∙◌, ℕ, Bool, true, false, List, [], ◌∷◌, ◌++◌, if◌then◌else◌, Option, Some, None, refl, sym, ap, subst}
use Rattle.sail_base.specs.declared.place.Place.{Place}
use Rattle.sail_types.specs.Sums.{and_then}
use Rattle.sail_types.specs.declared.values.Value.{Value}
use Rattle.sail_types.proofs.SumNumbers.{some_same}
use Rattle.sail_core.specs.Making.{World}
use Rattle.sail_core.specs.Run.{Run}
use Rattle.sail_core.specs.Targets as Runs
use Rattle.sail_core.specs.Targets.{ways_of}
use Rattle.sail_core.specs.Values.{Into, replaced}
use Rattle.sail_core.specs.declared.targets.Suffix.{Suffix}
use Rattle.value_indices.specs.Opening.{opened, opening}
use Rattle.value_indices.specs.Steps.{Walk, bind, give, size_note}
use Rattle.value_indices.specs.declared.indices.Indices.{Indices}
use Rattle.value_indices.specs.declared.indices.Naming.{Naming}
use Rattle.value_indices.specs.declared.indices.Naming.TheVariants as M
use Rattle.value_indices.specs.declared.indices.Reading.{Reading}
use Rattle.value_indices.specs.declared.notes.Fact.{Fact}
use Rattle.value_indices.specs.declared.notes.Made.TheVariants as Makes
use Rattle.pattern_leaves.specs.Settings.{Scope}
use Rattle.call_notes.specs.Ends.{never_value, opened_at, wrong_value}
use Rattle.expression_forms.specs.Spots.{Spot, part_spot}
use Rattle.expression_forms.specs.Ways.{read_into}
use Rattle.expression_forms.specs.declared.ways.Reached.{Reached}
use Rattle.expression_steps.specs.Parts.{Part}
use Rattle.expression_steps.specs.Targets.{Spotted, last_suffix, part_spotted, spotted}
use Rattle.expression_steps.specs.Values.{Passed, Taken, passed, read_taken, suffixes_walk, taken, then_on, way_walk}
use Rattle.checked_meaning.specs.Items.{Item}
use Rattle.sail_types.specs.Belongs.{belongs}
use Rattle.value_laws.specs.Belonging.{Integers, Meant, has, is_of, standing}
use Rattle.value_laws.specs.Known.{Agree, Point}
use Rattle.value_laws.proofs.Opening.{opening_kept}
use Rattle.value_laws.proofs.Steps.{same}
use Rattle.way_laws.specs.Laws.{AreTrue, HasPart}
use Rattle.soundness_steps.specs.Points.{Later}
use Rattle.soundness_steps.proofs.Points.{agree_on, later_on}
use Rattle.soundness_steps.specs.Works.{Scene, here}
use Rattle.soundness_steps.specs.Steps.{Beside, Walks}
use Rattle.soundness_steps.specs.Values.{Belongs, Has, IsSteady, IsWanted}
use Rattle.soundness_steps.proofs.Steps.{binds, given_back, known_walk, notes, rests, runs_as, walks_mean, walks_on, walks_then}
use Rattle.soundness_forms.specs.Forms.{AllFine}
use Rattle.soundness_forms.specs.Worlds.{Surrounds}
use Rattle.soundness_forms.proofs.Basics.{has_on, steady_on, wanted_on, wrong_walks}
use Rattle.soundness_forms.proofs.Parts.{not_never}
use Rattle.soundness_forms.proofs.Worlds.{surrounds_on}
use Rattle.soundness_parts.proofs.Taken.{owed, z}
use Rattle.soundness_values.specs.Named.{TypesNarrow}
use Rattle.soundness_targets.proofs.Pieces.{maps_on, walk_regrouped}
use Rattle.soundness_targets.proofs.Ways.{PartThere, Stepped, WayIs, Whole, stepped, way_as, way_fine, with_more}
use Rattle.soundness_targets.proofs.Wholes.{opened_whole}

-- ---- a value that is foreseen is opened, and each other one with its indices is of the type too

pub opens_kept : {q : Scene} {n : ℕ} {f : Point n} {facts : List Fact} (r : Reading) (tells : Bool) (name : Naming) (v : Value)
    → IsSteady q.set q.work f r → Belongs q.set q.work f r v
    → Walks q n f facts (opening r tells name) (λ m p i. (h : Has q.set q.work p i v)
    × ((new : Value) → h.meaning.holds new ≡ true → Belongs q.set q.work p r new))
opens_kept {q} {n} {f} {facts} r tells name v steady is = record {
  go = λ noted stands met.
      let o = opening_kept q.set.around.types q.set.past q.work.types r tells name n f facts v steady (is f.integers (same f)) in
      let k = (known_walk {q = q} o.3).go noted stands met in
      record {
        point = k.point;
        later = k.later;
        stands = k.stands;
        holds = (
          record { meaning = o.0; is_so = o.1; steady = k.holds },
          λ new e g a. ap (belongs q.set.around.types new) (steady g (agree_on k.later a)) ∙ o.2 new e,
        );
      };
}

-- a walk alone, with what it gives and the point behind it
pub walks_with : {q : Scene} {n : ℕ} {f : Point n} {facts : List Fact} {A : Type 0} {w : Walk A} {Holds : (m : ℕ) → Point m → A → Type 0} (P : A → Type 0)
    → P (w facts n).value → Walks q n f facts w Holds → Walks q n f facts w (λ m g a. Later f g × P a × Holds m g a)
walks_with P p b = record {
  go = λ noted stands met.
      let r = b.go noted stands met in
      record { point = r.point; later = r.later; stands = r.stands; holds = (r.later, p, r.holds) };
}

module _ (q : Scene) where
  -- ---- a part on the way, and the value with another one in its place

  abbrev pub Has_at : Integers → Indices → Value → Type 0
  Has_at g i v = has q.set.around.types (standing q.set.past g) q.work.types i v ≡ true

  abbrev pub Is_at : Integers → Reading → Value → Type 0
  Is_at g r v = is_of q.set.around.types (standing q.set.past g) q.work.types r v ≡ true

  pub record Inside {n : ℕ} (f : Point n) (i : Indices) (u : Value) (way : Into) (j : Indices) (p : Value) : Type 0 where
    pub has_part : Has q.set q.work f j p
    pub whole : Whole q j
    pub is_there : way.take_out u ≡ Some p
    pub back : (g : Integers) → Agree f g → (new : Value) → Has_at g j new → (all : Value) × (way.put_in u new ≡ Some all) × Has_at g i all

  -- ---- the part at the end of ways

  pub record WayTo {n : ℕ} (f : Point n) (i : Indices) (u : Value) (ways : List Into) (x : Reached) : Type 0 where
    pub wanted : IsWanted q.set q.work f x.typ
    pub put : (g : Integers) → Agree f g → AreTrue (standing q.set.past g) x.conditions → (new : Value) → Is_at g x.typ new
        → (all : Value) × (replaced ways u new ≡ Some all) × Has_at g i all

  pub way_on : {n m : ℕ} {f : Point n} {g : Point m} {i : Indices} {u : Value} {ways : List Into} {x : Reached} → Later f g → WayTo f i u ways x
      → WayTo g i u ways x
  way_on {x = x} l h = record { wanted = wanted_on q.set q.work x.typ l h.wanted; put = λ c a. h.put c (agree_on l a) }

  -- the last one
  last_way : {n : ℕ} {f : Point n} (i : Indices) (u : Value) (way : Into) (x : Reached) → PartThere q f i u (Some x) way → WayTo f i u (way ∷ []) x
  last_way i u way x h = record {
    wanted = h.1;
    put = λ g a met new is_new.
        let part = h.0 g a met in
        let other = part.replaced new is_new in
        (other.whole, ap (λ o. and_then o (λ p. and_then (Some new) (way.put_in u))) part.is_there ∙ other.is_there, other.is_so);
  }

  -- one more in front
  more_ways : {n : ℕ} {f : Point n} (i j : Indices) (u p : Value) (way : Into) (ways : List Into) (x : Reached) → Inside f i u way j p → WayTo f j p ways x
      → WayTo f i u (way ∷ ways) x
  more_ways i j u p way ways x inside h = record {
    wanted = h.wanted;
    put = λ g a met new is_new.
        let inner = h.put g a met new is_new in
        let outer = inside.back g a inner.0 inner.2 in (
          outer.0,
          ap (λ o. and_then o (λ c. and_then (replaced ways c new) (way.put_in u))) inside.is_there
              ∙ ap (λ o. and_then o (way.put_in u)) inner.1 ∙ outer.1,
          outer.2,
        );
  }

  abbrev pub WayThere : {n : ℕ} → Point n → Indices → Value → List Into → Option Reached → Type 0
  WayThere f i u ways None = Unit {0}
  WayThere f i u ways (Some x) = WayTo f i u ways x

  pub more_there : {n : ℕ} (f : Point n) (i j : Indices) (u p : Value) (way : Into) (ways : List Into) (x : Option Reached) → Inside f i u way j p
      → WayThere f j p ways x → WayThere f i u (way ∷ ways) x
  more_there f i j u p way ways None inside h = tt
  more_there f i j u p way ways (Some x) inside h = more_ways i j u p way ways x inside h

  pub last_there : {n : ℕ} (f : Point n) (i : Indices) (u : Value) (way : Into) (x : Option Reached) → PartThere q f i u x way → WayThere f i u (way ∷ []) x
  last_there f i u way None h = tt
  last_there f i u way (Some x) h = last_way i u way x h

  pub inside_on : {n m : ℕ} {f : Point n} {g : Point m} {i j : Indices} {u p : Value} {way : Into} → Later f g → Inside f i u way j p → Inside g i u way j p
  inside_on l h = record {
    has_part = has_on l h.has_part;
    whole = h.whole;
    is_there = h.is_there;
    back = λ c a. h.back c (agree_on l a);
  }

  -- ---- a part on the way is opened

  module _ {n : ℕ} {f : Point n} (place : Place) (i : Indices) (u : Value) (h : Has q.set q.work f i u) where
    part_opens : (x : Reached) (way : Into) → PartThere q f i u (Some x) way → {m : ℕ} {g : Point m} {fs : List Fact} → Later f g
        → ((c : Integers) → Agree g c → AreTrue (standing q.set.past c) x.conditions)
        → Walks q m g fs (opened_at place x.typ) (λ d b j. (p : Value) × Inside b i u way j p)
    unfolding opened
    part_opens x way there {m} {g} {fs} l met =
        let part : (c : Integers) → Agree g c → HasPart q.set.around.types (standing q.set.past c) q.work.types i u x.typ way =
        λ c a. there.0 c (agree_on l a) (met c a) in
        let first = part g.integers (same g) in
        let belongs : Belongs q.set q.work g x.typ first.part =
        λ c a.
        let other = part c a in
        subst (λ v. Is_at c x.typ v) (some_same other.part first.part (sym other.is_there ∙ first.is_there)) other.is_typed in
        walks_on (λ t. opening x.typ false M.Unnamed) (notes (λ fs. size_note fs place (Makes.ByType x.typ))) (λ d b gs t l2 e.
        walks_mean (λ y k j kept. (
          first.part,
          record {
            has_part = kept.2.0;
            whole = kept.1;
            is_there = first.is_there;
            back = λ c a new is_new.
                let other = (part c (agree_on l2 (agree_on kept.0 a))).replaced new
                (kept.2.1 new (ap (λ (o : Meant). o.holds new) (sym (kept.2.0.steady c a)) ∙ is_new) c a) in
                (other.whole, other.is_there, other.is_so);
          },
        ))
        (walks_with (Whole q) (opened_whole x.typ there.1.1 false M.Unnamed gs d)
        (opens_kept x.typ false M.Unnamed first.part (steady_on q.set q.work x.typ (later_on l l2) there.1.0) (λ c a. belongs c (agree_on l2 a)))))

    -- what is read there
    abbrev PassedIs : {m : ℕ} → Point m → Into → List Part → Option Passed → Type 0
    PassedIs g way ps o = (j : Indices) × (p : Value) × (o ≡ passed ps j) × Inside g i u way j p

    pub reads_into : {facts : List Fact} (x : Option Reached) (way : Into) → PartThere q f i u x way
        → Walks q n f facts (read_into place i x) (λ m g j. (p : Value) × Inside g i u way j p)
    reads_into {facts} None way there =
        subst (λ b. Walks q n f facts (if b then never_value else wrong_value place) (λ m g j. (p : Value) × Inside g i u way j p))
        (sym (not_never q.set q.work i u h)) (walks_mean (λ m g j e. absurd e) (wrong_walks place))
    reads_into {facts} (Some x) way there =
        walks_on (λ t. opened_at place x.typ) (owed place x.conditions) (λ m g fs t l met. part_opens x way there l met)

    pub reads_taken : {facts : List Fact} (k : ℕ) (x : Option Reached) (ps : List Part) (way : Into) → PartThere q f i u x way
        → Walks q n f facts (read_taken true place k i (taken x ps)) (λ m g o. PassedIs g way ps o)
    reads_taken k x ps way there =
        walks_on (λ j. give (passed ps j)) (reads_into x way there) (λ m g fs j l e. given_back (passed ps j) (j, e.0, refl, e.1))

-- ---- suffix after suffix

module _ (q : Scene) (w : World Item) (scope : Scope) (narrow : TypesNarrow q.set.around.types) (k : ℕ) (s : Suffix) (base : Spot) (held : Indices) where
  -- the target's spot, the parts of the assignment behind its indexes, and the ways that the run finds
  abbrev pub SpotIs : {n : ℕ} → Point n → Indices → Value → Option Spotted → Runs.Spotted Item (List Into) → Type 0
  SpotIs f i u o r = (x : Option Reached) × (ps : List Part) × (o ≡ spotted (part_spot (here q) s.place k s.way base held x) ps) × AllFine q w ps r.left
      × WayThere q f i u r.found x

  abbrev last : List Part → Indices → Walk (Option Spotted)
  last ps i = last_suffix k s (here q) scope base held ps i

  abbrev found_last : Into → List (Run Item Item) → Runs.Spotted Item (List Into)
  found_last way rs = record { found = way ∷ []; left = rs }

  last_fine : {n : ℕ} {f : Point n} {facts : List Fact} (i : Indices) (u : Value) (ps : List Part) (rs : List (Run Item Item)) → AllFine q w ps rs
      → Surrounds q w f scope → Has q.set q.work f i u → Whole q i
      → Beside q n f facts (last ps i) (ways_of (z q) (s ∷ []) rs) (λ m g o r. SpotIs g i u o r)
  last_fine i u ps rs fine there h whole =
      runs_as (way_as q s.way rs (ways_of (z q) []))
      (binds (λ t. give (part_spotted (here q) k s base held t)) (with_more q (ways_of (z q) []))
      (way_fine q w scope narrow s.place i u s.way ps rs fine there h whole) (λ m g fs o r l e.
      rests (found_last r.0 r.1) (given_back (part_spotted (here q) k s base held o)
      (e.0, e.1, ap (part_spotted (here q) k s base held) e.2, e.3, last_there q g i u r.0 e.0 e.4))))

  abbrev with_way : Into → Runs.Spotted Item (List Into) → Runs.Spotted Item (List Into)
  with_way way r = record { found = way ∷ r.found; left = r.left }

  abbrev all_suffixes : List Suffix → List Part → Indices → Walk (Option Spotted)
  all_suffixes ss ps i = bind (suffixes_walk true ss (here q) scope ps i) (then_on last)

  -- wherever they begin
  abbrev pub SpotsFine : List Suffix → Type 0
  SpotsFine ss = (n : ℕ) (f : Point n) (facts : List Fact) (i : Indices) (u : Value) (ps : List Part) (rs : List (Run Item Item)) → AllFine q w ps rs
      → Surrounds q w f scope → Has q.set q.work f i u → Whole q i
      → Beside q n f facts (all_suffixes ss ps i) (ways_of (z q) (ss ++ s ∷ []) rs) (λ m g o r. SpotIs g i u o r)

  module _ (t : Suffix) (ss : List Suffix) (next : SpotsFine ss) (i : Indices) (u : Value) where
    abbrev others : Option Passed → Walk (Option Spotted)
    others p = bind (then_on (suffixes_walk true ss (here q) scope) p) (then_on last)

    abbrev runs : Stepped q → Run Item (Runs.Spotted Item (List Into))
    runs = with_more q (ways_of (z q) (ss ++ s ∷ []))

    behind : {n : ℕ} {f : Point n} {facts : List Fact} (way : Into) (us : List (Run Item Item)) (left : List Part) → AllFine q w left us
        → Surrounds q w f scope → (p : Option Passed) → (j : Indices) × (v : Value) × (p ≡ passed left j) × Inside q f i u way j v
        → Beside q n f facts (others p) (runs (stepped q way us)) (λ m g o r. SpotIs g i u o r)
    behind {n} {f} {facts} way us left fines around p e =
        subst (λ o. Beside q n f facts (others o) (runs (stepped q way us)) (λ m g c r. SpotIs g i u c r)) (sym e.2)
        (maps_on (with_way way) (λ m g c r l k. (k.0, k.1, k.2, k.3, more_there q g i e.0 u e.1 way r.found k.0 (inside_on q l e.3) k.4))
        (next n f facts e.0 e.1 left us fines around e.3.has_part e.3.whole))

    step : {n : ℕ} {f : Point n} {facts : List Fact} → Surrounds q w f scope → Has q.set q.work f i u → (o : Option Taken) (r : Stepped q)
        → WayIs q w f i u o r
        → Beside q n f facts (bind (read_taken true t.place t.number i o) others) (runs r) (λ m g c y. SpotIs g i u c y)
    step {n} {f} {facts} there h o r e =
        subst (λ c. Beside q n f facts (bind (read_taken true t.place t.number i c) others) (runs r) (λ m g b y. SpotIs g i u b y)) (sym e.2)
        (walks_then others (reads_taken q t.place i u h t.number e.0 e.1 r.0 e.4) (λ m g fs p l c.
        behind r.0 r.1 e.1 e.3 (surrounds_on q w scope l there) p c))

    one_more : {n : ℕ} {f : Point n} {facts : List Fact} (ps : List Part) (rs : List (Run Item Item)) → AllFine q w ps rs → Surrounds q w f scope
        → Has q.set q.work f i u → Whole q i
        → Beside q n f facts (all_suffixes (t ∷ ss) ps i) (ways_of (z q) (t ∷ ss ++ s ∷ []) rs) (λ m g o r. SpotIs g i u o r)
    one_more ps rs fine there h whole =
        let first : Walk (Option Taken) = way_walk t.place ps (here q) scope i t.way in
        let reads : Option Taken → Walk (Option Passed) = read_taken true t.place t.number i in
        walk_regrouped (bind first reads) (then_on (suffixes_walk true ss (here q) scope)) (then_on last)
        (walk_regrouped first reads others
        (runs_as (way_as q t.way rs (ways_of (z q) (ss ++ s ∷ [])))
        (binds (λ o. bind (reads o) others) runs (way_fine q w scope narrow t.place i u t.way ps rs fine there h whole) (λ m g fs o r l e.
        step (surrounds_on q w scope l there) (has_on l h) o r e))))

  pub spots_fine : (ss : List Suffix) → SpotsFine ss
  spots_fine [] n f facts i u ps rs fine there h whole =
      let here_at : Walks q n f facts (give (passed ps i)) (λ m g o. o ≡ passed ps i) = given_back (passed ps i) refl in
      walks_then (then_on last) here_at (λ m g fs o l e.
      subst (λ p. Beside q m g fs (then_on last p) (ways_of (z q) (s ∷ []) rs) (λ d b c r. SpotIs b i u c r)) (sym e)
      (last_fine i u ps rs fine (surrounds_on q w scope l there) (has_on l h) whole))
  spots_fine (t ∷ ss) n f facts i u ps rs fine there h whole = one_more t ss (spots_fine ss) i u ps rs fine there h whole
