-- `throw` and `assert`, beside their runs.
use Rattle.std.proofs.Common.{◌≡◌, ℕ, Bool, true, false, List, [], ◌∷◌, Option, Some, None, refl, sym, ap, ◌∙◌, subst}
use Rattle.std.proofs.lemmas.Bool.{and_parts}
use Rattle.sail_base.specs.declared.place.Place.{Place}
use Rattle.sail_base.specs.declared.text.Text.{Text}
use Rattle.sail_types.specs.Belongs.{belongs}
use Rattle.sail_types.specs.declared.numbers.Con.{Con}
use Rattle.sail_types.specs.declared.numbers.Con.TheVariants as C
use Rattle.sail_types.specs.declared.types.Typ.TheVariants as U
use Rattle.sail_types.specs.declared.values.Value.{Value}
use Rattle.model_state.specs.declared.cause.Cause.TheVariants.{Assertion}
use Rattle.sail_core.specs.Making.{World, nothing, truth}
use Rattle.sail_core.specs.Run.{Run, gives, if_so, stops, throws, ◌then◌}
use Rattle.sail_core.specs.declared.patterns.Literal.TheVariants as L
use Rattle.sail_core.specs.declared.tree.Kind.TheVariants as K
use Rattle.value_indices.specs.declared.indices.Indices.{Indices, out-Indices}
use Rattle.value_indices.specs.declared.indices.Indices.TheFolds.{fold-roll-Indices, fold-roll-Reading}
use Rattle.value_indices.specs.declared.indices.Indices.TheOpen as W
use Rattle.value_indices.specs.declared.indices.Indices.TheOpen.{Indices-F}
use Rattle.value_indices.specs.declared.indices.Indices.TheVariants as I
use Rattle.value_indices.specs.declared.indices.Reading.{Reading}
use Rattle.value_indices.specs.declared.indices.Reading.TheVariants as R
use Rattle.value_indices.specs.declared.notes.Fact.{Fact}
use Rattle.value_indices.specs.Steps.{Walk, bind, give, wrong}
use Rattle.pattern_leaves.specs.Settings.{Around, Scope}
use Rattle.call_arguments.specs.Holes.{has_hole, type_holed, value_has_hole, value_holed}
use Rattle.call_arguments.specs.declared.aims.Aim.{Aim}
use Rattle.call_arguments.specs.declared.aims.Aim.TheVariants as Aims
use Rattle.call_notes.specs.Calls.{part_owed}
use Rattle.call_notes.specs.Ends.{never_value, settled, wrong_value}
use Rattle.expression_forms.specs.Truths.{truth_form, truth_of}
use Rattle.expression_steps.specs.Expressions.{assert_walk, asserted, kind_state, kind_walk, node_end, throw_walk, thrown_owed, thrown_type}
use Rattle.expression_steps.specs.Parts.{Part, truth_walk}
use Rattle.expression_steps.specs.Statements.{wrong_state}
use Rattle.checked_meaning.specs.Items.{Item}
use Rattle.value_laws.specs.Belonging.{Integers, closed, plain, standing}
use Rattle.value_laws.specs.Known.{Point}
use Rattle.value_laws.proofs.Steps.{same}
use Rattle.value_laws.proofs.Values.{closed_is, meant_is}
use Rattle.soundness_steps.specs.Works.{Scene, Setting, Work, here}
use Rattle.soundness_steps.specs.States.{IsThrown, nothing_stands}
use Rattle.soundness_steps.specs.Steps.{Beside, Grows, well_stopped, well_thrown}
use Rattle.soundness_steps.specs.Values.{AimSteady, Claims, Comes, Is, IsWanted}
use Rattle.soundness_steps.proofs.Steps.{binds, given_back, rests, runs_on, walks_on, walks_then}
use Rattle.soundness_forms.specs.EachKind.{KindFine, node}
use Rattle.soundness_forms.specs.Forms.{Fine, FitsSuffice, at, z}
use Rattle.soundness_forms.specs.Standing.{is_bound, is_value}
use Rattle.soundness_forms.specs.Worlds.{Surrounds}
use Rattle.soundness_forms.proofs.Basics.{aim_on, settles, then_walks, wrong_walks, wrongs}
use Rattle.soundness_forms.proofs.Casts.{comes_is, no_guard}
use Rattle.soundness_forms.proofs.Constants.{literal_has, literal_sized}
use Rattle.soundness_forms.proofs.Growth.{grows_bind, grows_give, grows_owe, grows_wrong}
use Rattle.soundness_forms.proofs.Leaves.{wrong_node}
use Rattle.soundness_forms.proofs.Leaving.{leaves, part_belongs}
use Rattle.soundness_forms.proofs.LeavingKinds.{bound_fine, leaving_grows}
use Rattle.soundness_forms.proofs.PlainKinds.{fine_at, fine_by, part_grows, value_fine, wrong_fine}
use Rattle.soundness_forms.proofs.Tests.{TruthIs, truths}

-- ---- the union that is thrown

module _ (set : Setting) (work : Work) where
  exception_is : (u : ℕ) (g : Integers)
      → closed set.around.types (standing set.past g) work.types (thrown_type u) ≡ plain (nothing_stands set.past) (U.Named u [] []) []
  exception_is u g =
      closed_is set.around.types (standing set.past g) work.types (thrown_type u) (W.Widened (I.Named u [] [])) (R.rolls-Widened (I.Named u [] []))
      ∙ ap (λ m. m.wide) (meant_is set.around.types (standing set.past g) work.types (I.Named u [] []) (W.Named u [] []) (I.rolls-Named u [] []))

  exception_wanted : {n : ℕ} (f : Point n) (u : ℕ) → IsWanted set work f (thrown_type u)
  exception_wanted f u = (
    λ g a. exception_is u g ∙ sym (exception_is u f.integers),
    ap has_hole (sym (R.rolls-Widened (I.Named u [] []))) ∙ fold-roll-Reading Bool Bool value_holed type_holed (W.Widened (I.Named u [] []))
        ∙ ap value_has_hole (sym (I.rolls-Named u [] [])) ∙ fold-roll-Indices Bool Bool value_holed type_holed (W.Named u [] []),
  )

-- ---- `throw`

module _ (fit : FitsSuffice) (q : Scene) (w : World Item) (scope : Scope) (place : Place) (k : ℕ) (aim : Aim) (p : Part) (ra : Run Item Item) (cast : Bool)
    (h : Fine q w cast false p ra) where
  throws_well : {m : ℕ} {g : Point m} {fs : List Fact} {A : Type 0} (walk : Walk A) (v : Value) (u : ℕ) → q.set.around.exception ≡ Some u
      → IsThrown q.set (Some u) v → Beside q m g fs walk (throws v) (λ j d a (x : Item). ⊥)
  throws_well walk v u e b = record { run = λ now stands met ok. well_thrown v now (subst (λ o. IsThrown q.set o v) (sym e) b) ok }

  thrown_by : (o : Option ℕ) {n : ℕ} {f : Point n} {facts : List Fact} → q.set.around.exception ≡ o → Surrounds q w f scope
      → Beside q n f facts (throw_walk place p (here q) scope o) (ra then λ x. throws x.val) (λ m g i (x : Item). ⊥)
  thrown_by None {n} {f} {facts} e there = binds (thrown_owed (here q) place p.is_nested None) (λ x. throws x.val)
      (h.walks q.names q.may_fall no_guard n f facts scope Aims.Free there tt) (λ m g fs i x l c. wrongs place (throws x.val))
  thrown_by (Some u) {n} {f} {facts} e there =
      let wanted = exception_wanted q.set q.work f u in
      binds (thrown_owed (here q) place p.is_nested (Some u)) (λ x. throws x.val)
      (h.walks q.names q.may_fall no_guard n f facts scope (Aims.Given (thrown_type u)) there wanted) (λ m g fs i x l c.
      walks_then (λ t. never_value) (part_belongs fit q p.is_nested place i (thrown_type u) x.val c.has (exception_wanted q.set q.work g u) c.met)
      (λ m2 g2 fs2 t l2 b. throws_well never_value x.val u e
      (ap (belongs q.set.around.types x.val) (sym (exception_is q.set q.work u g2.integers)) ∙ b g2.integers (same g2))))

throw_grows : (around : Around) (scope : Scope) (place : Place) (p : Part) → ((aim : Aim) → Grows (p.walk around scope aim)) → (o : Option ℕ)
    → Grows (throw_walk place p around scope o)
throw_grows around scope place p h None = grows_bind (p.walk around scope Aims.Free) (thrown_owed around place p.is_nested None) (h Aims.Free)
    (λ i. grows_wrong place)
throw_grows around scope place p h (Some u) =
    grows_bind (p.walk around scope (Aims.Given (thrown_type u))) (thrown_owed around place p.is_nested (Some u)) (h (Aims.Given (thrown_type u))) (λ i.
    grows_bind (part_owed around p.is_nested place i (thrown_type u)) (λ t. never_value) (part_grows around p.is_nested place i (thrown_type u))
    (λ t. grows_give _))

module _ (fit : FitsSuffice) (q : Scene) (w : World Item) where
  pub throw_kind : KindFine q w K.Throw
  throw_kind place k (s ∷ []) (p ∷ []) (r ∷ []) h right =
      let f = bound_fine q w s p r (and_parts (is_bound s) true right).0 h.0 in
      fine_by q w false false (node q w place k K.Throw (p ∷ [])) _ (λ around scope. refl)
      (λ names falls g n f0 facts scope aim there st.
      let d = fine_at q w names falls f in
      leaves fit (at q w names falls) w scope place k aim p r s.cast d true
      (thrown_by fit (at q w names falls) w scope place k aim p r s.cast d q.set.around.exception refl there))
      (λ around scope aim. leaving_grows around place k aim (throw_walk place p around scope around.exception)
      (throw_grows around scope place p (f.grows around scope) around.exception))
  throw_kind place k [] [] [] h right =
      wrong_fine q w false false false place k (node q w place k K.Throw []) _ (λ around scope. refl) (λ around scope aim. refl)
  throw_kind place k (s ∷ s2 ∷ ss) (p ∷ p2 ∷ ps) (r ∷ r2 ∷ rs) h right =
      wrong_fine q w false false false place k (node q w place k K.Throw (p ∷ p2 ∷ ps)) _ (λ around scope. refl) (λ around scope aim. refl)
  throw_kind place k [] [] (r ∷ rs) h right = absurd h
  throw_kind place k [] (p ∷ ps) rs h right = absurd h
  throw_kind place k (s ∷ ss) [] rs h right = absurd h
  throw_kind place k (s ∷ ss) (p ∷ ps) [] h right = absurd h
  throw_kind place k (s ∷ []) (p ∷ []) (r ∷ r2 ∷ rs) h right = absurd h.1
  throw_kind place k (s ∷ []) (p ∷ p2 ∷ ps) (r ∷ rs) h right = absurd h.1
  throw_kind place k (s ∷ s2 ∷ ss) (p ∷ []) (r ∷ rs) h right = absurd h.1
  throw_kind place k (s ∷ s2 ∷ ss) (p ∷ p2 ∷ ps) (r ∷ []) h right = absurd h.1

-- ---- `assert`: behind it, as a statement, its condition is true

module _ (fit : FitsSuffice) (q : Scene) (w : World Item) (scope : Scope) (place : Place) (text : Option Text) (p : Part) (ra : Run Item Item)
    (h : Fine q w false false p ra) where
  -- `()` where it is true
  abbrev asserts : Run Item Item
  asserts = ra then λ x. truth (z q w) x then if_so (gives (nothing (z q w))) (stops (Assertion place text))

  unit_is : {n : ℕ} (f : Point n) → Is q.set q.work f I.Unit (nothing (z q w))
  unit_is f = record { has = literal_has q.set q.work f L.Unit refl; typ = λ exact g a. literal_sized q.set.around.types q.work.own g L.Unit }

  held_by : {A : Type 0} {m : ℕ} {g : Point m} {fs : List Fact} (a : A) (o : Option Con) (t : Bool) → TruthIs q g o t
      → {Holds : (j : ℕ) → Point j → A → Item → Type 0} → (t ≡ true → Holds m g a (nothing (z q w)))
      → Beside q m g fs (give a) (if_so (gives (nothing (z q w))) (stops (Assertion place text)) t) Holds
  held_by a o true is holds = rests (nothing (z q w)) (given_back a (holds refl))
  held_by a o false is holds = record { run = λ now stands met ok. well_stopped (Assertion place text) now }

  assert_runs : {n : ℕ} {f : Point n} {facts : List Fact} → Surrounds q w f scope
      → Beside q n f facts (assert_walk p (here q) scope) asserts (λ m g i x. Is q.set q.work g i x)
  assert_runs {n} {f} {facts} there =
      binds (asserted p.place) (λ x. truth (z q w) x then if_so (gives (nothing (z q w))) (stops (Assertion place text)))
      (h.walks q.names q.may_fall no_guard n f facts scope Aims.Free there tt) (λ m g fs i x l c.
      binds (λ o. give I.Unit) (if_so (gives (nothing (z q w))) (stops (Assertion place text)))
      (truths q p.place i x (comes_is p.is_nested p.never_ends Aims.Free i x c)) (λ m2 g2 fs2 o t l2 is.
      held_by I.Unit o t is (λ e. unit_is g2)))

  -- as a statement
  claim_by : {m : ℕ} (g : Point m) (o : Option Con) → TruthIs q g o true → Claims q.set q.work g o
  claim_by g None is = tt
  claim_by g (Some c) is = is

  assert_states : {n : ℕ} {f : Point n} {facts : List Fact} → Surrounds q w f scope
      → Beside q n f facts (truth_walk p (here q) scope) asserts (λ m g o x. Claims q.set q.work g o × (false ≡ false))
  assert_states {n} {f} {facts} there =
      binds (truth_of p.place) (λ x. truth (z q w) x then if_so (gives (nothing (z q w))) (stops (Assertion place text)))
      (h.walks q.names q.may_fall no_guard n f facts scope Aims.Free there tt) (λ m g fs i x l c.
      runs_on (if_so (gives (nothing (z q w))) (stops (Assertion place text))) (truths q p.place i x (comes_is p.is_nested p.never_ends Aims.Free i x c))
      (λ m2 g2 fs2 o t l2 is. held_by o o t is (λ e. (claim_by g2 o (subst (TruthIs q g2 o) e is), refl))))

  assert_walks : (k : ℕ) (aim : Aim) {n : ℕ} {f : Point n} {facts : List Fact} → Surrounds q w f scope → AimSteady q.set q.work f aim
      → Beside q n f facts (bind (bind (assert_walk p (here q) scope) (settled (here q) place aim)) (node_end k false)) asserts
      (λ m g i x. Comes q.set q.work g false false false aim i x)
  assert_walks k aim there st = then_walks (node_end k false)
      (then_walks (settled (here q) place aim) (assert_runs there) (λ m g fs i x l e. settles fit place aim i x (aim_on q.set q.work aim l st) e))
      (λ m g fs i x l e. given_back i e)

no_truth : {A : Type 0} (place : Place) → Grows (bind (wrong place) (λ t. give {A = Option A} None))
no_truth place = grows_bind (wrong place) (λ t. give None) (grows_owe place (Some (C.Truth false) ∷ [])) (λ t. grows_give None)

pub truth_grows : (place : Place) (i : Indices) (x : Indices-F Indices Reading) → Grows (truth_form place x)
truth_grows place i (W.Truth c) = grows_give (Some c)
truth_grows place i W.Never = grows_give None
truth_grows place i W.Unit = no_truth place
truth_grows place i W.Bit = no_truth place
truth_grows place i (W.Bits t) = no_truth place
truth_grows place i (W.Integer t) = no_truth place
truth_grows place i W.String = no_truth place
truth_grows place i (W.List r) = no_truth place
truth_grows place i (W.Vector t r) = no_truth place
truth_grows place i (W.Tuple is) = no_truth place
truth_grows place i (W.Named u is rs) = no_truth place
truth_grows place i (W.Variable j) = no_truth place

module _ (fit : FitsSuffice) (q : Scene) (w : World Item) where
  -- another number of parts is wrong
  asserts_wrong : (text : Option Text) (place : Place) (k : ℕ) (ps : List Part) (r : Run Item Item)
      → ((around : Around) (scope : Scope) (aim : Aim)
      → bind (bind (wrong_value place) (settled around place aim)) (node_end k false) ≡ kind_walk place k (K.Assert text) ps around scope aim)
      → ((around : Around) (scope : Scope) → wrong_state place ≡ kind_state place k (K.Assert text) ps around scope)
      → Fine q w false false (node q w place k (K.Assert text) ps) r
  asserts_wrong text place k ps r is state = record {
    walks = λ names falls g n f facts scope aim there st.
        subst (λ v. Beside (at q w names falls) n f facts v r (λ m d i x. Comes q.set q.work d false false false aim i x)) (is (here q) scope aim)
        (wrong_node (node_end k false) r (walks_on (settled (here q) place aim) (wrong_walks place) (λ m d fs a l e. absurd e)));
    states = λ names falls g n f facts scope there.
        subst (λ v. Beside (at q w names falls) n f facts v r (λ m d c x. Claims q.set q.work d c × (false ≡ false))) (state (here q) scope)
        (wrong_node (λ i. give None) r (wrong_walks place));
    grows = λ around scope aim. subst (λ v. Grows v) (is around scope aim) (leaving_grows around place k aim (wrong_value place) (grows_wrong place));
    state_grows = λ around scope. subst (λ v. Grows v) (state around scope) (grows_bind (wrong_value place) (λ i. give None) (grows_wrong place)
        (λ i. grows_give None));
  }

  pub assert_kind : (text : Option Text) → KindFine q w (K.Assert text)
  assert_kind text place k (s ∷ []) (p ∷ []) (r ∷ []) h right =
      let f = value_fine q w s p r (and_parts (is_value s) true right).0 h.0 in
      record {
        walks = λ names falls g n f0 facts scope aim there st.
            assert_walks fit (at q w names falls) w scope place text p r (fine_at q w names falls f) k aim there st;
        states = λ names falls g n f0 facts scope there.
            assert_states fit (at q w names falls) w scope place text p r (fine_at q w names falls f) there;
        grows = λ around scope aim. leaving_grows around place k aim (assert_walk p around scope)
            (grows_bind (p.walk around scope Aims.Free) (asserted p.place) (f.grows around scope Aims.Free) (λ i.
            grows_bind (truth_of p.place i) (λ o. give I.Unit) (truth_grows p.place i (out-Indices i)) (λ o. grows_give I.Unit)));
        state_grows = λ around scope. grows_bind (p.walk around scope Aims.Free) (truth_of p.place) (f.grows around scope Aims.Free) (λ i.
            truth_grows p.place i (out-Indices i));
      }
  assert_kind text place k [] [] [] h right = asserts_wrong text place k [] _ (λ around scope aim. refl) (λ around scope. refl)
  assert_kind text place k (s ∷ s2 ∷ ss) (p ∷ p2 ∷ ps) (r ∷ r2 ∷ rs) h right =
      asserts_wrong text place k (p ∷ p2 ∷ ps) _ (λ around scope aim. refl) (λ around scope. refl)
  assert_kind text place k [] [] (r ∷ rs) h right = absurd h
  assert_kind text place k [] (p ∷ ps) rs h right = absurd h
  assert_kind text place k (s ∷ ss) [] rs h right = absurd h
  assert_kind text place k (s ∷ ss) (p ∷ ps) [] h right = absurd h
  assert_kind text place k (s ∷ []) (p ∷ []) (r ∷ r2 ∷ rs) h right = absurd h.1
  assert_kind text place k (s ∷ []) (p ∷ p2 ∷ ps) (r ∷ rs) h right = absurd h.1
  assert_kind text place k (s ∷ s2 ∷ ss) (p ∷ []) (r ∷ rs) h right = absurd h.1
  assert_kind text place k (s ∷ s2 ∷ ss) (p ∷ p2 ∷ ps) (r ∷ []) h right = absurd h.1
