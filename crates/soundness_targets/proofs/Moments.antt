-- Pieces at one moment beside what is left of a walk: where a run reads what it wrote before, the moment at which it does counts.
use Rattle.std.proofs.Common.{◌≡◌, ◌∙◌, ℕ, false, List, [], ◌∷◌, ◌++◌, refl, sym, ap, subst}
use Rattle.std.proofs.lemmas.List.{append_assoc}
use Rattle.sail_base.specs.declared.place.Place.{Place}
use Rattle.sail_types.specs.declared.values.Value.{Value}
use Rattle.sail_core.specs.Making.{made}
use Rattle.sail_core.specs.Run as R
use Rattle.sail_core.specs.Run.{Ended, Now, Run, goes_on}
use Rattle.sail_core.specs.declared.tree.Giver.TheVariants as By
use Rattle.value_indices.specs.declared.indices.Indices.{Indices}
use Rattle.value_indices.specs.declared.indices.Reading.{Reading, out-Reading}
use Rattle.value_indices.specs.declared.notes.Fact.{Fact}
use Rattle.value_indices.specs.declared.notes.Fact.TheVariants as Y
use Rattle.value_indices.specs.declared.notes.Made.TheVariants as Makes
use Rattle.value_indices.specs.Steps.{Walk, Went, bind, give, given_note, made_note, note, went}
use Rattle.std.specs.Prelude.{map}
use Rattle.value_fits.specs.Fitting.{owe_fit, owe_made}
use Rattle.value_fits.specs.declared.fitted.Fitted.{Fitted}
use Rattle.call_arguments.specs.Holes.{has_hole}
use Rattle.call_notes.specs.Noted.{numbers_noted}
use Rattle.expression_forms.specs.Nodes.{form_made, put}
use Rattle.checked_meaning.specs.Checked.{Noted, checked}
use Rattle.checked_meaning.specs.Items.{Item}
use Rattle.value_laws.specs.Known.{Point}
use Rattle.soundness_steps.specs.Points.{Later}
use Rattle.soundness_steps.specs.Works.{Scene}
use Rattle.soundness_steps.specs.Noted.{variables_given, with_given}
use Rattle.soundness_steps.specs.States.{Sound}
use Rattle.soundness_steps.specs.Steps.{AllMet, Beside, EndsWell, Grows, Stands, Walks}
use Rattle.soundness_steps.specs.Values.{Belongs, Has, Is}
use Rattle.soundness_steps.proofs.Steps.{met_behind, met_front, well_on}
use Rattle.soundness_forms.proofs.Giving.{gives_all}
use Rattle.soundness_targets.proofs.Again.{CanMake, CanNote, made_there, stands_front}
use Rattle.soundness_targets.proofs.Named.{hole_made}

-- ---- facts that are still in force

abbrev pub Front : List Fact → List Fact → Type 0
Front earlier facts = (more : List Fact) × (facts ≡ earlier ++ more)

pub front_more : (earlier facts more : List Fact) → Front earlier facts → Front earlier (facts ++ more)
front_more earlier facts more h = (h.0 ++ more, ap (λ fs. fs ++ more) h.1 ∙ append_assoc earlier h.0 more)

pub front_on : {A : Type 0} (earlier facts : List Fact) (n : ℕ) (w : Walk A) → Grows w → Front earlier facts → Front earlier (w facts n).facts
front_on earlier facts n w g h = subst (Front earlier) (sym (g.extends facts n)) (front_more earlier facts (g.more facts n) h)

pub stands_before : (q : Scene) {noted : Noted} {n : ℕ} {f : Point n} (earlier facts : List Fact) → Front earlier facts → Stands q.set q.work noted f facts
    → Stands q.set q.work noted f earlier
stands_before q {noted} {n} {f} earlier facts h s = stands_front earlier h.0 (subst (Stands q.set q.work noted f) h.1 s)

-- ---- at a moment

-- how a piece ends beside a walk, where these numbers are noted
pub record At (q : Scene) (n : ℕ) (f : Point n) (facts : List Fact) {A B : Type 0} (walk : Walk A) (noted : Noted) (e : Ended Item B)
    (Holds : (m : ℕ) → Point m → A → B → Type 0) : Type 0 where
  pub go : Stands q.set q.work noted f facts → AllMet q (walk facts n).notes
      → EndsWell q f (walk facts n).next (walk facts n).facts (λ p x. Holds (walk facts n).next p (walk facts n).value x) e

module _ {q : Scene} {n : ℕ} {f : Point n} {facts : List Fact} {noted : Noted} where
  -- a walk alone
  pub at_walks : {A B C : Type 0} {w : Walk A} (k : A → Walk C) {e : Ended Item B} {Holds : (m : ℕ) → Point m → A → Type 0}
      {Then : (m : ℕ) → Point m → C → B → Type 0} → Walks q n f facts w Holds
      → ((g : Point (w facts n).next) → Later f g → Holds (w facts n).next g (w facts n).value
      → At q (w facts n).next g (w facts n).facts (k (w facts n).value) noted e Then)
      → At q n f facts (bind w k) noted e Then
  unfolding bind
  at_walks {w = w} k b next = record {
    go = λ stands met.
        let r = b.go noted stands (met_front q (w facts n).notes _ met) in
        well_on r.later ((next r.point r.later r.holds).go r.stands (met_behind q (w facts n).notes _ met));
  }

  pub at_regrouped : {A B C D : Type 0} (w : Walk A) (k : A → Walk B) (l : B → Walk C) {e : Ended Item D} {Holds : (m : ℕ) → Point m → C → D → Type 0}
      → At q n f facts (bind w (λ a. bind (k a) l)) noted e Holds → At q n f facts (bind (bind w k) l) noted e Holds
  unfolding bind
  at_regrouped w k l b = record {
    go = λ stands met.
        let first = w facts n in
        let second = k first.value first.facts first.next in
        let third = l second.value second.facts second.next in
        b.go stands (subst (AllMet q) (append_assoc first.notes second.notes third.notes) met);
  }

  -- what is given goes on
  pub at_give : {A B C : Type 0} (a : A) (k : A → Walk C) {e : Ended Item B} {Then : (m : ℕ) → Point m → C → B → Type 0} → At q n f facts (k a) noted e Then
      → At q n f facts (bind (give a) k) noted e Then
  unfolding bind give
  at_give a k b = record { go = b.go }

  -- a piece that ends alike
  pub at_as : {A B : Type 0} {w : Walk A} {e d : Ended Item B} {Holds : (m : ℕ) → Point m → A → B → Type 0} → e ≡ d → At q n f facts w noted e Holds
      → At q n f facts w noted d Holds
  at_as {w = w} {Holds = Holds} same_end b = record {
    go = λ stands met.
        subst (EndsWell q f (w facts n).next (w facts n).facts (λ p x. Holds (w facts n).next p (w facts n).value x)) same_end (b.go stands met);
  }

  -- behind a walk that is known as a whole
  pub at_exact : {A B C : Type 0} (w : Walk A) (k : A → Walk C) {e : Ended Item B} {Then : (m : ℕ) → Point m → C → B → Type 0} (r : Went A) → w facts n ≡ r
      → (Stands q.set q.work noted f facts → AllMet q r.notes → AllMet q (k r.value r.facts r.next).notes
      → EndsWell q f (k r.value r.facts r.next).next (k r.value r.facts r.next).facts
      (λ p x. Then (k r.value r.facts r.next).next p (k r.value r.facts r.next).value x) e)
      → At q n f facts (bind w k) noted e Then
  unfolding bind
  at_exact w k {e} {Then} r is next = record {
    go = λ stands.
        subst (λ (s : Went _). AllMet q (s.notes ++ (k s.value s.facts s.next).notes)
        → EndsWell q f (k s.value s.facts s.next).next (k s.value s.facts s.next).facts
        (λ p x. Then (k s.value s.facts s.next).next p (k s.value s.facts s.next).value x) e) (sym is) (λ met.
        next stands (met_front q r.notes _ met) (met_behind q r.notes _ met));
  }

-- ---- a value that a node gets, and gives

-- the notes of what a name gets
pub put_is : (n : ℕ) (facts : List Fact) (k : ℕ) (i : Indices) (r : Reading) → has_hole r ≡ false → put k (i ∷ []) r i facts n
    ≡ went tt (with_given facts (variables_given i)) n (made_note facts k (i ∷ []) (Makes.ByType r) ∷ given_note facts (By.Node k) i ∷ [])
unfolding bind note
put_is n facts k i r whole =
    ap (λ (w : Went (Unit {0})). went w.value w.facts w.next (made_note facts k (i ∷ []) (form_made (out-Reading r) r i) ∷ given_note facts (By.Node k) i ∷
    w.notes))
    (gives_all i facts n)
    ∙ ap (λ m. went tt (with_given facts (variables_given i)) n (made_note facts k (i ∷ []) m ∷ given_note facts (By.Node k) i ∷ []))
    (hole_made r i (out-Reading r) refl whole)

pub noted_is : (n : ℕ) (facts : List Fact) (k : ℕ) (i : Indices)
    → numbers_noted k i facts n ≡ went tt (with_given facts (variables_given i)) n (given_note facts (By.Node k) i ∷ [])
unfolding bind note
noted_is n facts k i = ap (λ (w : Went (Unit {0})). went w.value w.facts w.next (given_note facts (By.Node k) i ∷ w.notes)) (gives_all i facts n)

-- what is made goes on with it
goes : (q : Scene) {B : Type 0} (d : Item → Run Item B) (now : Now Item) (k : ℕ) (xs : List Item) (v : Value) (value : Item) (more : Noted)
    → made (checked q.set.around.types q.cases) k xs v now ≡ R.Gives value (record now { opened = more })
    → d value (record now { opened = more }) ≡ goes_on (made (checked q.set.around.types q.cases) k xs v now) d
goes q d now k xs v value more is = ap (λ c. goes_on c d) (sym is)

module _ {q : Scene} {n : ℕ} {f : Point n} {facts : List Fact} where
  module _ {B C : Type 0} (rest : Walk C) (d : Item → Run Item B) {Then : (m : ℕ) → Point m → C → B → Type 0} (now : Now Item) where
    pub at_put : (k : ℕ) (i : Indices) (r : Reading) (y : Item) → has_hole r ≡ false → Is q.set q.work f i y → Belongs q.set q.work f r y.val
        → ((more : Noted) (u : Item) → u.val ≡ y.val → At q n f (with_given facts (variables_given i)) rest more (d u (record now { opened = more })) Then)
        → At q n f facts (bind (put k (i ∷ []) r i) (λ t. rest)) now.opened (goes_on (made (checked q.set.around.types q.cases) k (y ∷ []) y.val now) d) Then
    at_put k i r y whole is belongs next =
        at_exact (put k (i ∷ []) r i) (λ t. rest) _ (put_is n facts k i r whole) (λ stands notes met.
        let m = made_there q k (i ∷ []) (Makes.ByType r) i (y ∷ []) y.val now facts facts notes.0 notes.1.0 stands stands (is.typ, tt) belongs is.has in
        subst (EndsWell q f (rest (with_given facts (variables_given i)) n).next (rest (with_given facts (variables_given i)) n).facts
        (λ p x. Then (rest (with_given facts (variables_given i)) n).next p (rest (with_given facts (variables_given i)) n).value x))
        (goes q d now k (y ∷ []) y.val m.value m.noted m.is_there) ((next m.noted m.value m.is_v).go m.stands met))

    -- one that was noted before makes a value, the numbers of which are noted here
    pub at_given : (k : ℕ) (i : Indices) (r : Reading) (v : Value) (earlier : List Fact) → CanMake q earlier k [] (Makes.ByType r) → Front earlier facts
        → Has q.set q.work f i v → Belongs q.set q.work f r v
        → ((more : Noted) (u : Item) → u.val ≡ v → CanNote q facts k i
        → At q n f (with_given facts (variables_given i)) rest more (d u (record now { opened = more })) Then)
        → At q n f facts (bind (numbers_noted k i) (λ t. rest)) now.opened (goes_on (made (checked q.set.around.types q.cases) k [] v now) d) Then
    at_given k i r v earlier makes front has_it belongs next =
        at_exact (numbers_noted k i) (λ t. rest) _ (noted_is n facts k i) (λ stands notes met.
        let m = made_there q k [] (Makes.ByType r) i [] v now earlier facts makes notes.0
        (stands_before q earlier facts front stands) stands tt belongs has_it in
        subst (EndsWell q f (rest (with_given facts (variables_given i)) n).next (rest (with_given facts (variables_given i)) n).facts
        (λ p x. Then (rest (with_given facts (variables_given i)) n).next p (rest (with_given facts (variables_given i)) n).value x))
        (goes q d now k [] v m.value m.noted m.is_there) ((next m.noted m.value m.is_v notes.0).go m.stands met))

    -- and another one, with the same numbers
    pub at_again : (k : ℕ) (i : Indices) (r : Reading) (v : Value) (earlier : List Fact) → CanMake q earlier k [] (Makes.ByType r) → Front earlier facts
        → CanNote q facts k i → Has q.set q.work f i v → Belongs q.set q.work f r v
        → ((more : Noted) (u : Item) → u.val ≡ v → At q n f (with_given facts (variables_given i)) rest more (d u (record now { opened = more })) Then)
        → At q n f (with_given facts (variables_given i)) rest now.opened (goes_on (made (checked q.set.around.types q.cases) k [] v now) d) Then
    at_again k i r v earlier makes front notes has_it belongs next = record {
      go = λ stands met.
          let here_so = stands_front facts (map Y.IsGiven (variables_given i)) stands in
          let m = made_there q k [] (Makes.ByType r) i [] v now earlier facts makes notes
          (stands_before q earlier facts front here_so) here_so tt belongs has_it in
          subst (EndsWell q f (rest (with_given facts (variables_given i)) n).next (rest (with_given facts (variables_given i)) n).facts
          (λ p x. Then (rest (with_given facts (variables_given i)) n).next p (rest (with_given facts (variables_given i)) n).value x))
          (goes q d now k [] v m.value m.noted m.is_there) ((next m.noted m.value m.is_v).go m.stands met);
    }

-- a piece that ends well beside the walk at any moment
pub at_last : {q : Scene} {n : ℕ} {f : Point n} {facts : List Fact} {A B : Type 0} {w : Walk A} {c : Run Item B} {Holds : (m : ℕ) → Point m → A → B → Type 0}
    (now : Now Item) → Beside q n f facts w c Holds → Sound q now → At q n f facts w now.opened (c now) Holds
at_last now b ok = record { go = λ stands met. b.run now stands met ok }

pub front_owed : (earlier facts : List Fact) (n : ℕ) (place : Place) (made_of : ℕ → Fitted) → Front earlier facts
    → Front earlier (owe_fit place made_of facts n).facts
unfolding owe_fit owe_made
front_owed earlier facts n place made_of h = front_more earlier facts (made_of n).facts h

pub front_given : (earlier facts : List Fact) (vs : List ℕ) → Front earlier facts → Front earlier (with_given facts vs)
front_given earlier facts vs h = front_more earlier facts (map Y.IsGiven vs) h
