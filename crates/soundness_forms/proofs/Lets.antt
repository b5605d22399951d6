-- Names that are bound: `let` and `var`.
use Rattle.std.proofs.Common.{ℕ, true, List, [], ◌∷◌, ◌++◌}
use Rattle.sail_base.specs.declared.place.Place.{Place}
use Rattle.model_state.specs.declared.cause.Cause.TheVariants.{MatchFailure}
use Rattle.sail_core.specs.Making.{World}
use Rattle.sail_core.specs.Meaning.{arm_taken, let_in, names_noted, or_then}
use Rattle.sail_core.specs.Run.{Run, stops, within, ◌then◌}
use Rattle.sail_core.specs.declared.patterns.Arm.{Arm}
use Rattle.sail_core.specs.declared.tree.Giver.{Giver}
use Rattle.value_indices.specs.declared.indices.Indices.{Indices}
use Rattle.value_indices.specs.declared.notes.Fact.{Fact}
use Rattle.value_indices.specs.Steps.{Walk, bind}
use Rattle.pattern_leaves.specs.Settings.{Scope}
use Rattle.pattern_leaves.specs.declared.names.Bound.{Bound}
use Rattle.pattern_notes.specs.Patterns.{arm_written, looks, one_match}
use Rattle.pattern_notes.specs.declared.matching.Matching.{Matching}
use Rattle.call_notes.specs.Noted.{names_given}
use Rattle.checked_meaning.specs.Checked.{checked}
use Rattle.checked_meaning.specs.Items.{Item}
use Rattle.value_laws.specs.Known.{Point}
use Rattle.soundness_steps.specs.Points.{Later}
use Rattle.soundness_steps.specs.Works.{Kept, Scene, here}
use Rattle.soundness_steps.specs.Steps.{Beside, well_stopped}
use Rattle.soundness_steps.specs.Values.{Is}
use Rattle.soundness_steps.proofs.Points.{later_on}
use Rattle.soundness_steps.proofs.Scenes.{falling, naming, or_well}
use Rattle.soundness_steps.proofs.Steps.{binds}
use Rattle.soundness_forms.specs.Patterns.{LetMatches, Owes}
use Rattle.soundness_forms.specs.Worlds.{Surrounds}
use Rattle.soundness_forms.proofs.Basics.{is_on}
use Rattle.soundness_forms.proofs.NamesGiven.{names_run, nests}
use Rattle.soundness_forms.proofs.Worlds.{scope_on, surrounds_falling, surrounds_more, surrounds_on}

-- where a piece says No the run stops
pub stopping : {q : Scene} {n : ℕ} {f : Point n} {facts : List Fact} {A : Type 0} {w : Walk A} (place : Place) (c : Run Item Item)
    {Holds : (m : ℕ) → Point m → A → Item → Type 0} → Beside (falling q) n f facts w c Holds
    → Beside q n f facts w (or_then (checked q.set.around.types q.cases) c (stops (MatchFailure place))) Holds
stopping {q} place c b = record {
  run = λ now stands met ok.
      or_well (λ after. stops (MatchFailure place) (record after { opened = now.opened }))
      (b.run now stands met (record { state = ok.state; names = ok.names }))
      (λ after ok2. well_stopped (MatchFailure place) (record after { opened = now.opened }));
}

module _ (q : Scene) (w : World Item) (arm : Arm) (matches : LetMatches (falling q) w arm) (scope : Scope) (place : Place) (how : Matching) (i : Indices)
    (x : Item) where
  -- names that a pattern binds, with the numbers that they give, and a walk under them
  pub let_runs : (giver : Giver) {A : Type 0} {n : ℕ} {f : Point n} {facts : List Fact} (k : List Bound → Walk A) (r : Run Item Item)
      {Holds : (m : ℕ) → Point m → A → Item → Type 0} → Surrounds q w f scope → Is q.set q.work f i x
      → Owes q f (arm_written arm) how.is_owed x
      → ((m : ℕ) (g : Point m) (fs : List Fact) (found : List Bound) (ks : List Kept) → Later f g → Surrounds (naming ks (falling q)) w g (found ++ scope)
      → Beside (naming ks (falling q)) m g fs (k found) r Holds)
      → Beside q n f facts (bind (bind (one_match place (looks arm) (here q) how i) (names_given giver (i ∷ []))) k)
      (let_in (checked q.set.around.types q.cases) w giver place arm x r) Holds
  let_runs giver k r {Holds} there is owes next =
      let z = checked q.set.around.types q.cases in
      stopping place (arm_taken z w giver arm r (x ∷ []))
      (nests (one_match place (looks arm) (here q) how i) (names_given giver (i ∷ [])) k
      (binds (λ found. bind (names_given giver (i ∷ []) found) k) (λ found. names_noted z giver (x ∷ []) found then λ t. within found r)
      (matches _ _ _ scope place how i x (surrounds_falling q w _ scope true there) is owes) (λ m g fs found ls l b.
      names_run giver (i ∷ []) (x ∷ []) (is_on l is, tt) found ls k r b (λ m2 g2 fs2 l2.
      next m2 g2 fs2 found b.names (later_on l l2)
      (surrounds_more (falling q) w g2 scope found b.names (scope_on q.set q.work l2 found b.names b.in_scope)
      (surrounds_falling q w g2 scope true (surrounds_on q w scope (later_on l l2) there)))))))
