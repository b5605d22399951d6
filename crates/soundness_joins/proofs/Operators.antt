-- `&` and `|`, beside their runs.
use Rattle.std.proofs.Common.{◌≡◌, ℕ, Bool, true, false, not, ◌&&◌, ◌||◌, List, [], ◌∷◌, Option, Some, None, refl, sym, ap, ◌∙◌}
use Rattle.sail_base.specs.declared.place.Place.{Place}
use Rattle.sail_types.specs.Numbers.{Assignment, form_true, true_in}
use Rattle.sail_types.specs.declared.numbers.Con.{Con, fold-roll-Con}
use Rattle.sail_types.specs.declared.numbers.Con.TheOpen as F
use Rattle.sail_types.specs.declared.numbers.Con.TheVariants as C
use Rattle.sail_types.specs.declared.types.Typ.TheVariants as U
use Rattle.sail_core.specs.Making.{Making, World, truth}
use Rattle.sail_core.specs.Meaning.{kind_meaning, truly}
use Rattle.sail_core.specs.Run.{Now, Run, gives, goes_on, if_so, leaving, needs, stuck, ◌then◌}
use Rattle.sail_core.specs.Values.{truth_in}
use Rattle.sail_core.specs.declared.tree.Kind.TheVariants as K
use Rattle.value_indices.specs.declared.indices.Indices.{Indices, out-Indices, roll-Indices}
use Rattle.value_indices.specs.declared.indices.Indices.TheOpen as W
use Rattle.value_indices.specs.declared.indices.Indices.TheOpen.{Indices-F}
use Rattle.value_indices.specs.declared.indices.Indices.TheVariants as I
use Rattle.value_indices.specs.declared.indices.Indices.TheViews.{roll-out-Indices}
use Rattle.value_indices.specs.declared.indices.Reading.{Reading}
use Rattle.value_indices.specs.declared.notes.Fact.{Fact}
use Rattle.value_indices.specs.Steps.{Walk, bind}
use Rattle.pattern_leaves.specs.Settings.{Scope}
use Rattle.call_arguments.specs.declared.aims.Aim.{Aim}
use Rattle.call_arguments.specs.declared.aims.Aim.TheVariants as Aims
use Rattle.expression_forms.specs.Truths.{both, either, right_form, then_truth, truth_form, truth_of}
use Rattle.expression_steps.specs.Expressions.{kind_walk}
use Rattle.expression_steps.specs.Parts.{Part, given_that, under}
use Rattle.expression_steps.specs.Statements.{and_under, or_under}
use Rattle.checked_meaning.specs.Checked.{checked}
use Rattle.checked_meaning.specs.Items.{Item}
use Rattle.value_laws.specs.Belonging.{Integers, meant, standing}
use Rattle.value_laws.specs.Known.{Point, Agree}
use Rattle.value_laws.proofs.Knowing.{truth_means}
use Rattle.value_laws.proofs.Numbers.{truth_is}
use Rattle.soundness_steps.proofs.Points.{agree_on, later_on}
use Rattle.soundness_steps.specs.Works.{Scene, here}
use Rattle.soundness_steps.specs.Noted.{sized}
use Rattle.soundness_steps.specs.Steps.{Beside, Walks}
use Rattle.soundness_steps.specs.Values.{AimSteady, Comes, Is, IsTrue}
use Rattle.soundness_steps.proofs.Steps.{binds, given_back, passes_over, rests, runs_as, scopes, walks_mean}
use Rattle.soundness_forms.specs.Forms.{Fine, FitsSuffice}
use Rattle.soundness_forms.specs.Worlds.{Surrounds}
use Rattle.soundness_forms.proofs.Basics.{is_on, wrong_alone, wrong_walks, wrongs}
use Rattle.soundness_forms.proofs.Branches.{not_is, under_grows, under_runs}
use Rattle.soundness_forms.proofs.Casts.{comes_is, no_guard}
use Rattle.soundness_forms.proofs.Tests.{TruthIs, never_value, truth_tested}
use Rattle.soundness_forms.proofs.Worlds.{surrounds_on}
use Rattle.soundness_joins.proofs.Pieces.{leaves_then, settled_so, truth_sized, walk_regrouped}

all_is : (nu : Assignment) (c d : Con) → true_in nu (both c d) ≡ (true_in nu c && (true_in nu d && true))
all_is nu c d = ap (true_in nu) (sym (C.rolls-All (c ∷ d ∷ []))) ∙ fold-roll-Con Bool (form_true nu) (F.All (c ∷ d ∷ []))

any_is : (nu : Assignment) (c d : Con) → true_in nu (either c d) ≡ (true_in nu c || (true_in nu d || false))
any_is nu c d = ap (true_in nu) (sym (C.rolls-Any (c ∷ d ∷ []))) ∙ fold-roll-Con Bool (form_true nu) (F.Any (c ∷ d ∷ []))

with_true : (b : Bool) → (b && true) ≡ b
with_true true = refl
with_true false = refl

with_false : (b : Bool) → (b || false) ≡ b
with_false true = refl
with_false false = refl

both_right : (nu : Assignment) (c d : Con) (s : Bool) → true_in nu c ≡ true → true_in nu d ≡ s → true_in nu (both c d) ≡ s
both_right nu c d s h k = all_is nu c d ∙ ap (λ b. b && (true_in nu d && true)) h ∙ with_true (true_in nu d) ∙ k

both_left : (nu : Assignment) (c d : Con) → true_in nu c ≡ false → true_in nu (both c d) ≡ false
both_left nu c d h = all_is nu c d ∙ ap (λ b. b && (true_in nu d && true)) h

either_right : (nu : Assignment) (c d : Con) (s : Bool) → true_in nu c ≡ false → true_in nu d ≡ s → true_in nu (either c d) ≡ s
either_right nu c d s h k = any_is nu c d ∙ ap (λ b. b || (true_in nu d || false)) h ∙ with_false (true_in nu d) ∙ k

either_left : (nu : Assignment) (c d : Con) → true_in nu c ≡ true → true_in nu (either c d) ≡ true
either_left nu c d h = any_is nu c d ∙ ap (λ b. b || (true_in nu d || false)) h

-- a truth that is tested and given on, before names are put back or behind it
truly_leaves : (change : Now Item → Now Item) (o : Option Bool) (b : Bool) (x : Item) (now : Now Item)
    → leaving change (goes_on (if_so (needs o) stuck b now) (λ t. gives x)) ≡ goes_on (if_so (needs o) stuck b (change now)) (λ t. gives x)
truly_leaves change None true x now = refl
truly_leaves change (Some t) true x now = refl
truly_leaves change o false x now = refl

module _ (q : Scene) where
  abbrev z : Making Item
  z = checked q.set.around.types q.cases

  inside_truly : (r : Run Item Item) (now : Now Item) → ((z).inside r then truly z) now ≡ (z).inside (r then truly z) now
  inside_truly r now = sym (leaves_then (λ after. record after { opened = now.opened }) (r now) (truly z) (λ x after.
      truly_leaves (λ u. record u { opened = now.opened }) (truth_in x.val) ((z).is U.Bool x) x after))

  -- an item that is this truth, wherever another condition says the same
  says_so : {n : ℕ} {f : Point n} (i : Indices) (c d : Con) (b : Bool) (x : Item) → Is q.set q.work f i x → i ≡ I.Truth c
      → ((g : Integers) → Agree f g → true_in (standing q.set.past g) c ≡ b) → ((g : Integers) → Agree f g → true_in (standing q.set.past g) d ≡ b)
      → Is q.set q.work f (I.Truth d) x
  says_so {n} {f} i c d b x h e one other =
      let types = q.set.around.types in
      let past = q.set.past in
      let own = q.work.types in record {
        has = record {
          meaning = h.has.meaning;
          is_so = h.has.is_so;
          steady = λ g a. truth_means types past own d b g (other g a) ∙ sym (truth_means types past own c b g (one g a))
              ∙ ap (meant types (standing past g) own) (sym e) ∙ h.has.steady g a;
        };
        typ = λ exact g a. h.typ exact g a ∙ ap (sized types q.work.own g) e ∙ truth_sized types q.work.own g c ∙ sym (truth_sized types q.work.own g d);
      }

  -- ---- the left one

  -- the condition that indices are
  abbrev Told : Indices → Option Con → Type 0
  Told i None = ⊥
  Told i (Some c) = i ≡ I.Truth c

  tested_by : {n : ℕ} {f : Point n} {facts : List Fact} (place : Place) (i : Indices) (x : Item) → Is q.set q.work f i x
      → (y : Indices-F Indices Reading) → out-Indices i ≡ y
      → Beside q n f facts (truth_form place y) (truth z x) (λ m p o b. Told i o × TruthIs q p o b)
  tested_by place i x h (W.Truth c) e =
      let is : i ≡ I.Truth c = sym (roll-out-Indices i) ∙ ap roll-Indices e ∙ I.rolls-Truth c in
      let t = truth_tested q i x h c is in
      runs_as t.1 (rests t.0 (given_back (Some c) (is, t.2)))
  tested_by place i x h W.Never e = absurd (never_value q i x h e)
  tested_by place i x h W.Unit e = wrong_alone place _
  tested_by place i x h W.Bit e = wrong_alone place _
  tested_by place i x h (W.Bits t) e = wrong_alone place _
  tested_by place i x h (W.Integer t) e = wrong_alone place _
  tested_by place i x h W.String e = wrong_alone place _
  tested_by place i x h (W.List r) e = wrong_alone place _
  tested_by place i x h (W.Vector t r) e = wrong_alone place _
  tested_by place i x h (W.Tuple is) e = wrong_alone place _
  tested_by place i x h (W.Named u is rs) e = wrong_alone place _
  tested_by place i x h (W.Variable j) e = wrong_alone place _

  -- ---- the right one, where it is evaluated

  module _ (join : Con → Con → Con) (alone c : Con) where
    abbrev Right : Bool → Type 0
    Right left = (nu : Assignment) (d : Con) (s : Bool) → true_in nu c ≡ left → true_in nu d ≡ s → true_in nu (join c d) ≡ s

    joined_by : (left : Bool) → Right left → {n : ℕ} {f : Point n} {facts : List Fact} (place : Place) (j : Indices) (x : Item)
        → ((g : Integers) → Agree f g → true_in (standing q.set.past g) c ≡ left) → Is q.set q.work f j x
        → (y : Indices-F Indices Reading) → out-Indices j ≡ y
        → Beside q n f facts (right_form place join alone c y) (truly z x) (λ m p i v. Is q.set q.work p i v)
    joined_by left right place j x told h (W.Truth d) e =
        let is : j ≡ I.Truth d = sym (roll-out-Indices j) ∙ ap roll-Indices e ∙ I.rolls-Truth d in
        let t = truth_tested q j x h d is in
        runs_as (λ now. ap (λ u. goes_on u (λ b. gives x)) (t.1 now)) (rests x (given_back (I.Truth (join c d))
        (says_so j d (join c d) t.0 x h is t.2 (λ g a. right (standing q.set.past g) d t.0 (told g a) (t.2 g a)))))
    joined_by left right place j x told h W.Never e = absurd (never_value q j x h e)
    joined_by left right place j x told h W.Unit e = wrongs place _
    joined_by left right place j x told h W.Bit e = wrongs place _
    joined_by left right place j x told h (W.Bits t) e = wrongs place _
    joined_by left right place j x told h (W.Integer t) e = wrongs place _
    joined_by left right place j x told h W.String e = wrongs place _
    joined_by left right place j x told h (W.List r) e = wrongs place _
    joined_by left right place j x told h (W.Vector t r) e = wrongs place _
    joined_by left right place j x told h (W.Tuple is) e = wrongs place _
    joined_by left right place j x told h (W.Named u is rs) e = wrongs place _
    joined_by left right place j x told h (W.Variable k) e = wrongs place _

    -- where it isn't
    abbrev Left : Bool → Type 0
    Left left = ((nu : Assignment) (d : Con) → true_in nu c ≡ left → true_in nu (join c d) ≡ left)
        × ((nu : Assignment) → true_in nu alone ≡ left)

    left_by : (left : Bool) → Left left → {n : ℕ} {f : Point n} {facts : List Fact} (place : Place) (i : Indices) (x : Item)
        → ((g : Integers) → Agree f g → true_in (standing q.set.past g) c ≡ left) → Is q.set q.work f i x → i ≡ I.Truth c
        → (y : Indices-F Indices Reading) → Walks q n f facts (right_form place join alone c y) (λ m p j. Is q.set q.work p j x)
    left_by left k place i x told h is (W.Truth d) = given_back (I.Truth (join c d))
        (says_so i c (join c d) left x h is told (λ g a. k.0 (standing q.set.past g) d (told g a)))
    left_by left k place i x told h is W.Never = given_back (I.Truth alone) (says_so i c alone left x h is told (λ g a. k.1 (standing q.set.past g)))
    left_by left k place i x told h is form = walks_mean (λ m g j b. absurd b) (wrong_walks place)

module _ (q : Scene) (w : World Item) (scope : Scope) (a b : Part) (ra rb : Run Item Item)
    (ha : Fine q w false false a ra) (hb : Fine q w false false b rb) where
  abbrev behind : (Con → Con → Con) → Con → Con → Con → Walk Indices
  behind join alone c u = bind (given_that u b (here q) scope Aims.Free) (λ j. right_form b.place join alone c (out-Indices j))

  right_runs : (join : Con → Con → Con) (alone c u : Con) (left : Bool) → Right q join alone c left → {n : ℕ} {f : Point n} {facts : List Fact}
      → Surrounds q w f scope → ((g : Integers) → Agree f g → true_in (standing q.set.past g) c ≡ left) → IsTrue q.set q.work f u
      → Beside q n f facts (behind join alone c u) ((z q).inside (rb then truly (z q))) (λ m p i x. Is q.set q.work p i x)
  right_runs join alone c u left right there told is = runs_as (inside_truly q rb)
      (binds (λ j. right_form b.place join alone c (out-Indices j)) (truly (z q))
      (scopes (under_runs q w scope b rb false hb u Aims.Free there tt is)) (λ m g fs j x l d.
      joined_by q join alone c left right b.place j x (λ k e. told k (agree_on l e)) (comes_is b.is_nested b.never_ends Aims.Free j x d) (out-Indices j) refl))

  left_runs : (join : Con → Con → Con) (alone c u : Con) (left : Bool) → Left q join alone c left → {n : ℕ} {f : Point n} {facts : List Fact}
      (i : Indices) (x : Item) → ((g : Integers) → Agree f g → true_in (standing q.set.past g) c ≡ left) → Is q.set q.work f i x → i ≡ I.Truth c
      → Beside q n f facts (behind join alone c u) (gives x) (λ m p j y. Is q.set q.work p j y)
  left_runs join alone c u left k i x told h is =
      passes_over (λ j. right_form b.place join alone c (out-Indices j)) {d = gives x} (under u b (here q) scope Aims.Free)
      (under_grows q w scope b rb false hb u Aims.Free)
      (λ m g j l. rests x (left_by q join alone c left k b.place i x (λ p e. told p (agree_on l e)) (is_on l h) is (out-Indices j)))

  and_runs : {n : ℕ} {f : Point n} {facts : List Fact} (o : Option Con) (t : Bool) (i : Indices) (x : Item) → Surrounds q w f scope
      → Is q.set q.work f i x → Told q i o → TruthIs q f o t
      → Beside q n f facts (then_truth (and_under b (here q) scope) o) (if_so ((z q).inside (rb then truly (z q))) (gives x) t)
      (λ m p j y. Is q.set q.work p j y)
  and_runs None t i x there h e told = absurd e
  and_runs (Some c) true i x there h e told =
      right_runs both (C.Truth false) c c true (λ nu d s. both_right nu c d s) there told told
  and_runs (Some c) false i x there h e told =
      left_runs both (C.Truth false) c c false ((λ nu d. both_left nu c d), (λ nu. truth_is nu false)) i x told h e

  or_runs : {n : ℕ} {f : Point n} {facts : List Fact} (o : Option Con) (t : Bool) (i : Indices) (x : Item) → Surrounds q w f scope
      → Is q.set q.work f i x → Told q i o → TruthIs q f o t
      → Beside q n f facts (then_truth (or_under b (here q) scope) o) (if_so (gives x) ((z q).inside (rb then truly (z q))) t)
      (λ m p j y. Is q.set q.work p j y)
  or_runs None t i x there h e told = absurd e
  or_runs (Some c) true i x there h e told =
      left_runs either (C.Truth true) c (C.Not c) true ((λ nu d. either_left nu c d), (λ nu. truth_is nu true)) i x told h e
  or_runs (Some c) false i x there h e told =
      right_runs either (C.Truth true) c (C.Not c) false (λ nu d s. either_right nu c d s) there told
      (λ g d. not_is (standing q.set.past g) c ∙ ap not (told g d))

  -- the left one, and what is done with it
  led : {n : ℕ} {f : Point n} {facts : List Fact} (next : Con → Walk Indices) (go : Item → Bool → Run Item Item) → Surrounds q w f scope
      → ((m : ℕ) (g : Point m) (fs : List Fact) (o : Option Con) (t : Bool) (i : Indices) (x : Item)
      → Surrounds q w g scope → Is q.set q.work g i x → Told q i o
      → TruthIs q g o t → Beside q m g fs (then_truth next o) (go x t) (λ j p d y. Is q.set q.work p d y))
      → Beside q n f facts (bind (bind (a.walk (here q) scope Aims.Free) (truth_of a.place)) (then_truth next))
      (ra then λ x. truth (z q) x then go x) (λ m p i x. Is q.set q.work p i x)
  led {n} {f} {facts} next go there k = walk_regrouped (a.walk (here q) scope Aims.Free) (truth_of a.place) (then_truth next)
      (binds (λ i. bind (truth_of a.place i) (then_truth next)) (λ x. truth (z q) x then go x)
      (ha.walks q.names q.may_fall no_guard n f facts scope Aims.Free there tt) (λ m g fs i x l c.
      let e = comes_is a.is_nested a.never_ends Aims.Free i x c in
      binds (then_truth next) (go x) (tested_by q a.place i x e (out-Indices i) refl) (λ j p gs o t l2 d.
      k j p gs o t i x (surrounds_on q w scope (later_on l l2) there) (is_on l2 e) d.0 d.1)))

  module _ (fit : FitsSuffice) (place : Place) (k : ℕ) (aim : Aim) {n : ℕ} {f : Point n} {facts : List Fact} (there : Surrounds q w f scope)
      (st : AimSteady q.set q.work f aim) where
    pub and_fine : Beside q n f facts (kind_walk place k K.And (a ∷ b ∷ []) (here q) scope aim) (kind_meaning (z q) w place k K.And (ra ∷ rb ∷ []))
        (λ m g i x. Comes q.set q.work g false false false aim i x)
    and_fine = settled_so fit place aim st (led (and_under b (here q) scope) (λ x. if_so ((z q).inside (rb then truly (z q))) (gives x)) there
        (λ m g fs o t i x s h e d.
        and_runs o t i x s h e d))

    pub or_fine : Beside q n f facts (kind_walk place k K.Or (a ∷ b ∷ []) (here q) scope aim) (kind_meaning (z q) w place k K.Or (ra ∷ rb ∷ []))
        (λ m g i x. Comes q.set q.work g false false false aim i x)
    or_fine = settled_so fit place aim st (led (or_under b (here q) scope) (λ x. if_so (gives x) ((z q).inside (rb then truly (z q)))) there
        (λ m g fs o t i x s h e d.
        or_runs o t i x s h e d))
