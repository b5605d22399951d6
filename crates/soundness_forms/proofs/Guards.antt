-- Guards, and kinds that stand nowhere in an expression.
use Rattle.std.proofs.Common.{◌≡◌, ℕ, Bool, true, false, ◌&&◌, not, List, [], ◌∷◌, Option, Some, None, refl, subst}
use Rattle.std.proofs.lemmas.Bool.{and_parts}
use Rattle.sail_base.specs.declared.place.Place.{Place}
use Rattle.sail_types.specs.declared.numbers.Con.{Con}
use Rattle.sail_types.specs.declared.types.Typ.{Typ}
use Rattle.sail_core.specs.Making.{World, truth}
use Rattle.sail_core.specs.Meaning.{kind_meaning}
use Rattle.sail_core.specs.Run.{Run, falls, if_so, ◌then◌}
use Rattle.sail_core.specs.declared.patterns.Arm.{Arm}
use Rattle.sail_core.specs.declared.tree.Callee.TheVariants as C
use Rattle.sail_core.specs.declared.tree.Kind.TheVariants as K
use Rattle.value_indices.specs.declared.indices.Indices.{out-Indices}
use Rattle.value_indices.specs.declared.notes.Fact.{Fact}
use Rattle.value_indices.specs.Steps.{assume, give}
use Rattle.pattern_leaves.specs.Settings.{Around, Scope}
use Rattle.call_arguments.specs.declared.aims.Aim.{Aim}
use Rattle.call_arguments.specs.declared.aims.Aim.TheVariants as Aims
use Rattle.expression_forms.specs.Truths.{then_truth, truth_of}
use Rattle.expression_steps.specs.Expressions.{node_end}
use Rattle.expression_steps.specs.Parts.{Part, truth_walk, under}
use Rattle.expression_steps.specs.Statements.{guarded}
use Rattle.checked_meaning.specs.Items.{Item}
use Rattle.value_laws.proofs.Basics.{no}
use Rattle.value_laws.specs.Known.{Point}
use Rattle.soundness_steps.specs.Steps.{Beside, Grows, well_no}
use Rattle.soundness_steps.specs.Values.{AimSteady, Comes}
use Rattle.soundness_steps.specs.Works.{Scene, here}
use Rattle.soundness_steps.proofs.Steps.{binds, given_back, regrouped}
use Rattle.soundness_forms.specs.EachKind.{KindFine, node}
use Rattle.soundness_forms.specs.Forms.{Fine, at, z}
use Rattle.soundness_forms.specs.Standing.{Standing, is_branch, is_value}
use Rattle.soundness_forms.specs.Worlds.{Surrounds}
use Rattle.soundness_forms.proofs.Basics.{aim_on, then_walks}
use Rattle.soundness_forms.proofs.Branches.{truth_runs, under_runs}
use Rattle.soundness_forms.proofs.Growth.{grows_assume, grows_bind, grows_end, grows_give}
use Rattle.soundness_forms.proofs.PlainKinds.{fine_at, fine_by, value_fine, wrong_fine, wrong_inward}
use Rattle.soundness_forms.proofs.Tests.{TruthIs}
use Rattle.soundness_forms.proofs.Throwing.{truth_grows}
use Rattle.soundness_forms.proofs.Worlds.{surrounds_on}

-- a branch: a cast, no guard
branch_parts : (s : Standing) → is_branch s ≡ true → (s.right ≡ true) × (s.cast ≡ true) × (s.guard ≡ false)
branch_parts s h =
    let both = and_parts (s.right && s.cast) (not s.guard) h in
    let first = and_parts s.right s.cast both.0 in
    (first.0, first.1, off s.guard both.1)
  where
    off : (b : Bool) → not b ≡ true → b ≡ false
    off true h = absurd (cc)
    off false h = refl

pub branch_fine : (q : Scene) (w : World Item) (s : Standing) (p : Part) (r : Run Item Item) → is_branch s ≡ true
    → (s.right ≡ true → Fine q w s.cast s.guard p r) → Fine q w true false p r
branch_fine q w s p r h k =
    let t = branch_parts s h in
    subst (λ b. Fine q w true b p r) t.2 (subst (λ b. Fine q w b s.guard p r) t.1 (k t.0))

module _ (q : Scene) (w : World Item) (scope : Scope) (place : Place) (a b : Part) (ra rb : Run Item Item) (ha : Fine q w false false a ra)
    (hb : Fine q w true false b rb) (may : q.may_fall ≡ true) where
  -- a guard that is false says No
  guarded_by : {n : ℕ} {f : Point n} {facts : List Fact} (aim : Aim) (o : Option Con) (t : Bool) → Surrounds q w f scope → AimSteady q.set q.work f aim
      → TruthIs q f o t
      → Beside q n f facts (then_truth (λ c. under c b (here q) scope aim) o) (if_so rb falls t)
      (λ m g i x. Comes q.set q.work g true b.is_nested b.never_ends aim i x)
  guarded_by aim None t there st is = absurd is
  guarded_by aim (Some c) true there st is = under_runs q w scope b rb true hb c aim there st is
  guarded_by aim (Some c) false there st is = record { run = λ now stands met ok. well_no now may ok }

  guarded_runs : {n : ℕ} {f : Point n} {facts : List Fact} (aim : Aim) → Surrounds q w f scope → AimSteady q.set q.work f aim
      → Beside q n f facts (guarded a b (here q) scope aim) (ra then λ x. truth (z q w) x then if_so rb falls)
      (λ m g i x. Comes q.set q.work g true b.is_nested b.never_ends aim i x)
  guarded_runs aim there st =
      regrouped ra (truth (z q w)) (if_so rb falls)
      (binds (then_truth (λ c. under c b (here q) scope aim)) (if_so rb falls) (truth_runs q w scope a ra ha there) (λ m g fs o t l is.
      guarded_by aim o t (surrounds_on q w scope l there) (aim_on q.set q.work aim l st) is))

under_all_grow : (around : Around) (scope : Scope) (aim : Aim) (b : Part) → Grows (b.walk around scope aim) → (o : Option Con)
    → Grows (then_truth (λ c. under c b around scope aim) o)
under_all_grow around scope aim b h None = grows_give _
under_all_grow around scope aim b h (Some c) = grows_bind (assume c) (λ t. b.walk around scope aim) (grows_assume c) (λ t. h)

module _ (q : Scene) (w : World Item) where
  pub when_kind : KindFine q w K.When
  when_kind place k (s ∷ t ∷ []) (a ∷ b ∷ []) (ra ∷ rb ∷ []) h right =
      let both = and_parts (is_value s) (is_branch t) right in
      let ha = value_fine q w s a ra both.0 h.0 in
      let hb = branch_fine q w t b rb both.1 h.1.0 in
      fine_by q w true true (node q w place k K.When (a ∷ b ∷ [])) (kind_meaning (z q w) w place k K.When (ra ∷ rb ∷ [])) (λ around scope. refl)
      (λ names falls g n f facts scope aim there st. then_walks (λ i. give i)
      (guarded_runs (at q w names falls) w scope place a b ra rb (fine_at q w names falls ha) (fine_at q w names falls hb) (g refl) aim there st)
      (λ m d fs i x l c. given_back i c))
      (λ around scope aim. grows_bind (guarded a b around scope aim) (node_end k false)
      (grows_bind (truth_walk a around scope) (then_truth (λ c. under c b around scope aim))
      (grows_bind (a.walk around scope Aims.Free) (truth_of a.place) (ha.grows around scope Aims.Free) (λ i. truth_grows a.place i (out-Indices i)))
      (λ o. under_all_grow around scope aim b (hb.grows around scope aim) o)) (grows_end k false))
  when_kind place k [] [] [] h right =
      wrong_inward q w true true false place k (node q w place k K.When []) _ (λ around scope. refl) (λ around scope aim. refl)
  when_kind place k (s ∷ []) (a ∷ []) (ra ∷ []) h right =
      wrong_inward q w true true false place k (node q w place k K.When (a ∷ [])) _ (λ around scope. refl) (λ around scope aim. refl)
  when_kind place k (s ∷ t ∷ u ∷ ss) (a ∷ b ∷ c ∷ ps) (ra ∷ rb ∷ rc ∷ rs) h right =
      wrong_inward q w true true false place k (node q w place k K.When (a ∷ b ∷ c ∷ ps)) _ (λ around scope. refl) (λ around scope aim. refl)
  when_kind place k [] [] (r ∷ rs) h right = absurd h
  when_kind place k [] (p ∷ ps) rs h right = absurd h
  when_kind place k (s ∷ ss) [] rs h right = absurd h
  when_kind place k (s ∷ ss) (p ∷ ps) [] h right = absurd h
  when_kind place k (s ∷ []) (p ∷ []) (r ∷ r2 ∷ rs) h right = absurd h.1
  when_kind place k (s ∷ []) (p ∷ p2 ∷ ps) (r ∷ rs) h right = absurd h.1
  when_kind place k (s ∷ s2 ∷ ss) (p ∷ []) (r ∷ rs) h right = absurd h.1
  when_kind place k (s ∷ s2 ∷ ss) (p ∷ p2 ∷ ps) (r ∷ []) h right = absurd h.1
  when_kind place k (s ∷ t ∷ []) (p ∷ p2 ∷ []) (r ∷ r2 ∷ r3 ∷ rs) h right = absurd h.1.1
  when_kind place k (s ∷ t ∷ []) (p ∷ p2 ∷ p3 ∷ ps) (r ∷ r2 ∷ rs) h right = absurd h.1.1
  when_kind place k (s ∷ t ∷ u ∷ ss) (p ∷ p2 ∷ []) (r ∷ r2 ∷ rs) h right = absurd h.1.1
  when_kind place k (s ∷ t ∷ u ∷ ss) (p ∷ p2 ∷ p3 ∷ ps) (r ∷ r2 ∷ []) h right = absurd h.1.1

  -- the clauses of a function are no expression, and options and what is applied to one are of later trees
  pub clauses_kind : (arms : List Arm) → KindFine q w (K.Clauses arms)
  clauses_kind arms place k ss [] rs h right =
      wrong_fine q w false false false place k (node q w place k (K.Clauses arms) []) _ (λ around scope. refl) (λ around scope aim. refl)
  clauses_kind arms place k ss (p ∷ ps) rs h right =
      wrong_fine q w false false false place k (node q w place k (K.Clauses arms) (p ∷ ps)) _ (λ around scope. refl) (λ around scope aim. refl)

  pub optional_kind : (t : Typ) → KindFine q w (K.Optional t)
  optional_kind t place k ss ps rs h right = no right

  pub applies_kind : (d : ℕ) → KindFine q w (K.Call (C.Applies d))
  applies_kind d place k ss ps rs h right = no right
