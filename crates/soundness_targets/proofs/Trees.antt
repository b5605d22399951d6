-- What is foreseen of several targets hangs on one another: trees of it, and a run that ends well for each of their paths.
use Rattle.std.proofs.Common.{◌≡◌, ℕ, true, List}
use Rattle.sail_core.specs.Run as R
use Rattle.sail_core.specs.Run.{Ended, Now, Run, gives, goes_on}
use Rattle.value_indices.specs.declared.notes.Fact.{Fact}
use Rattle.checked_meaning.specs.Items.{Item}
use Rattle.value_laws.specs.Known.{Point}
use Rattle.soundness_steps.specs.Works.{Scene}
use Rattle.soundness_steps.specs.States.{IsAnswer, IsThrown, Sound}
use Rattle.soundness_steps.specs.Steps.{EndsWell, Reach, well_given, well_no, well_returned, well_stopped, well_thrown}
use Rattle.soundness_targets.proofs.Passes.{gave}

-- what holds for all that may be foreseen, and some of it
pub record Trees : Type 1 where
  pub Path : Type 0
  pub Tree : (Path → Type 0) → Type 0
  pub map : {P Q : Path → Type 0} → ((p : Path) → P p → Q p) → Tree P → Tree Q
  pub pick : {P : Path → Type 0} → Tree P → (p : Path) × P p

-- nothing is foreseen
abbrev pub one_path : Trees
one_path = record { Path = Unit {0}; Tree = λ P. P tt; map = λ say t. say tt t; pick = λ t. (tt, t) }

-- what is foreseen of one, and what of others then
abbrev pub both_paths : Trees → Trees → Trees
both_paths T U = record {
  Path = T.Path × U.Path;
  Tree = λ P. T.Tree (λ p. U.Tree (λ r. P (p, r)));
  map = λ say t. T.map (λ p u. U.map (λ r x. say (p, r) x) u) t;
  pick = λ t.
      let a = T.pick t in
      let b = U.pick a.1 in
      ((a.0, b.0), b.1);
}

module _ (q : Scene) where
  -- how a run ends: where it gives something, for all paths of a tree
  abbrev pub Ends : (T : Trees) {B : Type 0} → (T.Path → B → Now Item → Type 0) → Ended Item B → Type 0
  Ends T H (R.Gives x now) = T.Tree (λ p. H p x now) × Sound q now
  Ends T H (R.No now) = (q.may_fall ≡ true) × Sound q now
  Ends T H (R.Returns v now) = IsAnswer q.set.around.types q.answer v × Sound q now
  Ends T H (R.Throws v now) = IsThrown q.set q.set.around.exception v × Sound q now
  Ends T H (R.Stops cause now) = Unit {0}
  Ends T H R.Stuck = ⊥

  -- a point behind, where this holds
  abbrev pub There : {n : ℕ} → Point n → (m : ℕ) → List Fact → (Point m → Type 0) → Now Item → Type 0
  There f m fs Holds now = Reach q.set q.work now.opened f m fs Holds

  -- one behind the other
  pub ends_then : (T U : Trees) {B D : Type 0} (H : T.Path → B → Now Item → Type 0) (K : U.Path → D → Now Item → Type 0) (e : Ended Item B)
      (d : B → Run Item D) → Ends T H e → ((x : B) (now : Now Item) → T.Tree (λ p. H p x now) → Sound q now → Ends U K (d x now)) → Ends U K (goes_on e d)
  ends_then T U H K (R.Gives x now) d h next = next x now h.0 h.1
  ends_then T U H K (R.No now) d h next = h
  ends_then T U H K (R.Returns v now) d h next = h
  ends_then T U H K (R.Throws v now) d h next = h
  ends_then T U H K (R.Stops cause now) d h next = h
  ends_then T U H K R.Stuck d h next = absurd h

  -- what holds for each path says more
  pub ends_map : (T : Trees) {B : Type 0} (H K : T.Path → B → Now Item → Type 0) (e : Ended Item B)
      → ((x : B) (now : Now Item) (p : T.Path) → Sound q now → H p x now → K p x now) → Ends T H e → Ends T K e
  ends_map T H K (R.Gives x now) say h = (T.map (λ p y. say x now p h.1 y) h.0, h.1)
  ends_map T H K (R.No now) say h = h
  ends_map T H K (R.Returns v now) say h = h
  ends_map T H K (R.Throws v now) say h = h
  ends_map T H K (R.Stops cause now) say h = h
  ends_map T H K R.Stuck say h = absurd h

  -- what is given goes on with something made of it
  pub ends_made : (T : Trees) {B D : Type 0} (H : T.Path → B → Now Item → Type 0) (K : T.Path → D → Now Item → Type 0) (e : Ended Item B) (h : B → D)
      → ((x : B) (now : Now Item) (p : T.Path) → H p x now → K p (h x) now) → Ends T H e → Ends T K (goes_on e (λ x. gives (h x)))
  ends_made T H K (R.Gives x now) h say k = (T.map (λ p y. say x now p y) k.0, k.1)
  ends_made T H K (R.No now) h say k = k
  ends_made T H K (R.Returns v now) h say k = k
  ends_made T H K (R.Throws v now) h say k = k
  ends_made T H K (R.Stops cause now) h say k = k
  ends_made T H K R.Stuck h say k = absurd k

  -- the same end for each path
  module _ (T : Trees) {P : T.Path → Type 0} (tree : T.Tree P) {n : ℕ} (f : Point n) (m : ℕ) (fs : List Fact) {B : Type 0}
      (Holds : T.Path → Point m → B → Type 0) where
    abbrev Each : Ended Item B → Type 0
    Each e = (p : T.Path) → P p → EndsWell q f m fs (Holds p) e

    each_by : {e : Ended Item B} {Some : Point m → B → Type 0} → Each e → EndsWell q f m fs Some e
        → Ends T (λ p x now. There f m fs (λ g. Holds p g x) now) e
    each_by each (well_given x now r s) = (T.map (λ p y. (gave (each p y)).0) tree, s)
    each_by each (well_no now a s) = (a, s)
    each_by each (well_returned v now b s) = (b, s)
    each_by each (well_thrown v now b s) = (b, s)
    each_by each (well_stopped cause now) = tt

    pub ends_each : (e : Ended Item B) → Each e → Ends T (λ p x now. There f m fs (λ g. Holds p g x) now) e
    ends_each e each =
        let a = T.pick tree in
        each_by each (each a.0 a.1)

  -- and what is foreseen then
  module _ (T U : Trees) {P : T.Path → Type 0} (tree : T.Tree P) {B : Type 0} (H : T.Path × U.Path → B → Now Item → Type 0) where
    abbrev EachIn : Ended Item B → Type 0
    EachIn e = (p : T.Path) → P p → Ends U (λ r x now. H (p, r) x now) e

    abbrev some_in : (e : Ended Item B) → EachIn e → Ends U (λ r x now. H ((T.pick tree).0, r) x now) e
    some_in e each = each (T.pick tree).0 (T.pick tree).1

    pub ends_within : (e : Ended Item B) → EachIn e → Ends (both_paths T U) H e
    ends_within (R.Gives x now) each = (T.map (λ p y. (each p y).0) tree, (some_in (R.Gives x now) each).1)
    ends_within (R.No now) each = some_in (R.No now) each
    ends_within (R.Returns v now) each = some_in (R.Returns v now) each
    ends_within (R.Throws v now) each = some_in (R.Throws v now) each
    ends_within (R.Stops cause now) each = tt
    ends_within R.Stuck each = absurd (some_in R.Stuck each)

  -- where nothing is foreseen
  pub ends_well : {n m : ℕ} {f : Point n} {fs : List Fact} {B : Type 0} (Holds : Point m → B → Type 0) (e : Ended Item B)
      → Ends one_path (λ p x now. There f m fs (λ g. Holds g x) now) e → EndsWell q f m fs Holds e
  ends_well Holds (R.Gives x now) h = well_given x now h.0 h.1
  ends_well Holds (R.No now) h = well_no now h.0 h.1
  ends_well Holds (R.Returns v now) h = well_returned v now h.0 h.1
  ends_well Holds (R.Throws v now) h = well_thrown v now h.0 h.1
  ends_well Holds (R.Stops cause now) h = well_stopped cause now
  ends_well Holds R.Stuck h = absurd h

  pub well_ends : {n m : ℕ} {f : Point n} {fs : List Fact} {B : Type 0} (Holds : Point m → B → Type 0) {e : Ended Item B} → EndsWell q f m fs Holds e
      → Ends one_path (λ p x now. There f m fs (λ g. Holds g x) now) e
  well_ends Holds (well_given x now r s) = (r, s)
  well_ends Holds (well_no now a s) = (a, s)
  well_ends Holds (well_returned v now b s) = (b, s)
  well_ends Holds (well_thrown v now b s) = (b, s)
  well_ends Holds (well_stopped cause now) = tt
