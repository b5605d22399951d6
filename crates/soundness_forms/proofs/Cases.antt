-- `match` and `try`, beside their runs.
use Rattle.std.proofs.Common.{◌≡◌, ◌≤◌, ℕ, Bool, true, false, List, [], ◌∷◌, ◌++◌, length, Option, None, refl, arith}
use Rattle.std.specs.Prelude.{is_none}
use Rattle.sail_base.specs.declared.place.Place.{Place}
use Rattle.sail_types.specs.declared.shapes.Shape.{Shape}
use Rattle.model_state.specs.declared.cause.Cause.TheVariants.{MatchFailure}
use Rattle.sail_core.specs.Making.{World}
use Rattle.sail_core.specs.Meaning.{arm_taken, first_of, kind_meaning, met_at, names_noted}
use Rattle.sail_core.specs.Run.{Now, Run, stops, within, ◌then◌}
use Rattle.sail_core.specs.declared.patterns.Arm.{Arm}
use Rattle.sail_core.specs.declared.tree.Giver.{Giver}
use Rattle.sail_core.specs.declared.tree.Giver.TheVariants as By
use Rattle.sail_core.specs.declared.tree.Kind.TheVariants as K
use Rattle.value_indices.specs.declared.indices.Indices.{Indices}
use Rattle.value_indices.specs.declared.notes.Fact.{Fact}
use Rattle.value_indices.specs.Steps.{bind, give, scoped}
use Rattle.pattern_leaves.specs.Settings.{Scope}
use Rattle.pattern_leaves.specs.declared.names.Bound.{Bound}
use Rattle.pattern_notes.specs.Patterns.{arm_match}
use Rattle.pattern_notes.specs.declared.matching.Matching.{Matching}
use Rattle.call_arguments.specs.Aims.{branch_aim, wanted}
use Rattle.call_arguments.specs.declared.aims.Aim.{Aim}
use Rattle.call_arguments.specs.declared.aims.Aim.TheVariants as Aims
use Rattle.call_notes.specs.Noted.{names_given}
use Rattle.expression_steps.specs.Expressions.{kind_walk}
use Rattle.expression_steps.specs.Parts.{Part}
use Rattle.expression_steps.specs.Statements.{case_names, case_walk, case_way, case_ways, each_way, match_under, way_behind}
use Rattle.checked_meaning.specs.Checked.{checked}
use Rattle.checked_meaning.specs.Items.{Item}
use Rattle.value_laws.specs.Known.{Point}
use Rattle.soundness_steps.specs.Works.{Scene, here}
use Rattle.soundness_steps.specs.Steps.{Beside, EndsWell, Grows, well_stopped}
use Rattle.soundness_steps.specs.States.{Sound}
use Rattle.soundness_steps.specs.Values.{AimSteady, Comes, Is}
use Rattle.soundness_steps.proofs.Points.{later_on}
use Rattle.soundness_steps.proofs.Scenes.{falling, or_well}
use Rattle.soundness_steps.proofs.Steps.{binds, given_back, means}
use Rattle.soundness_forms.specs.Forms.{Fine}
use Rattle.soundness_forms.specs.Joins.{AllGrow, FreeJoining, Joining}
use Rattle.soundness_forms.specs.Patterns.{AllMatch, ArmMatches}
use Rattle.soundness_forms.specs.Worlds.{Surrounds}
use Rattle.soundness_forms.proofs.Basics.{aim_on, is_on, then_walks}
use Rattle.soundness_forms.proofs.Branches.{branch_steady}
use Rattle.soundness_forms.proofs.Casts.{free_is, no_guard}
use Rattle.soundness_forms.proofs.Growth.{grows_bind}
use Rattle.soundness_forms.proofs.Joins.{joined, joining, met_behind_all, runs_past, z}
use Rattle.soundness_forms.proofs.NamesGiven.{names_grow, names_run, nests}
use Rattle.soundness_forms.proofs.Worlds.{scope_on, surrounds_falling, surrounds_more, surrounds_on}

module _ (q : Scene) (w : World Item) where
  -- an arm's body: a cast, maybe behind a guard
  abbrev pub Bodies : List Arm → List Part → List (Run Item Item) → Type 0
  Bodies [] [] [] = Unit {0}
  Bodies (arm ∷ arms) (p ∷ ps) (r ∷ rs) = ((guard : Bool) × Fine q w true guard p r) × Bodies arms ps rs
  Bodies arms ps rs = ⊥

  -- walks of arms, behind which what was in force still is
  abbrev pub ArmsGrow : Type 0
  ArmsGrow = (place : Place) (arm : Arm) (i : Indices) → Grows (arm_match place arm (here q) (record { in_case = true; is_owed = false }) (i ∷ []))

module _ (q : Scene) (w : World Item) (grows : ArmsGrow q w) (scope : Scope) (place : Place) (number : ℕ) (i : Indices) (x : Item) (aim : Aim) where
  case_grows : (giver : Giver) (arm : Arm) (p : Part) (r : Run Item Item) (cast guard : Bool) → Fine q w cast guard p r
      → Grows (case_walk giver place arm p (here q) scope aim i)
  case_grows giver arm p r cast guard h =
      grows_bind (case_names giver place arm (here q) i) (λ found. p.walk (here q) (found ++ scope) (branch_aim aim))
      (grows_bind (arm_match place arm (here q) (record { in_case = true; is_owed = false }) (i ∷ [])) (names_given giver (i ∷ []))
      (grows place arm i) (names_grow giver (i ∷ []))) (λ found. h.grows (here q) (found ++ scope) (branch_aim aim))

  cases_grow : (arms : List Arm) (ps : List Part) (rs : List (Run Item Item)) → Bodies q w arms ps rs
      → AllGrow (case_ways place number arms ps (here q) scope aim i)
  cases_grow [] [] [] h = tt
  cases_grow (arm ∷ arms) (p ∷ ps) (r ∷ rs) h = (case_grows (By.Arm number (length arms)) arm p r true h.0.0 h.0.1, cases_grow arms ps rs h.1)
  cases_grow [] [] (r ∷ rs) h = absurd h
  cases_grow [] (p ∷ ps) rs h = absurd h
  cases_grow (arm ∷ arms) [] rs h = absurd h
  cases_grow (arm ∷ arms) (p ∷ ps) [] h = absurd h

  -- one case, which may say No
  case_runs : (giver : Giver) (arm : Arm) (p : Part) (r : Run Item Item) (guard : Bool) → ArmMatches (falling q) w arm → Fine q w true guard p r
      → {n : ℕ} {f : Point n} {facts : List Fact}
      → Surrounds q w f scope → AimSteady q.set q.work f aim → Is q.set q.work f i x
      → Beside (falling q) n f facts (case_walk giver place arm p (here q) scope aim i)
      (arm_taken (checked q.set.around.types q.cases) w giver arm r (x ∷ []))
      (λ j g d y. Comes q.set q.work g true p.is_nested p.never_ends (branch_aim aim) d y)
  case_runs giver arm p r guard matches h {n} {f} {facts} there st is =
      let how : Matching = record { in_case = true; is_owed = false } in
      let body = λ (found : List Bound). p.walk (here q) (found ++ scope) (branch_aim aim) in
      nests (arm_match place arm (here q) how (i ∷ [])) (names_given giver (i ∷ [])) body
      (binds (λ found. bind (names_given giver (i ∷ []) found) body)
      (λ found. names_noted (checked q.set.around.types q.cases) giver (x ∷ []) found then λ t. within found r)
      (matches n f facts scope place how (i ∷ []) (x ∷ []) (surrounds_falling q w f scope true there) (is, tt))
      (λ m g fs found ls l b.
      names_run giver (i ∷ []) (x ∷ []) (is_on l is, tt) found ls body r b (λ m2 g2 fs2 l2.
      h.walks (b.names ++ q.names) true (λ e. refl) m2 g2 fs2 (found ++ scope) (branch_aim aim)
      (surrounds_more (falling q) w g2 scope found b.names (scope_on q.set q.work l2 found b.names b.in_scope)
      (surrounds_falling q w g2 scope true (surrounds_on q w scope (later_on l l2) there)))
      (aim_on q.set q.work (branch_aim aim) (later_on l l2) (branch_steady q f aim st)))))

  -- ends, where no case is taken
  abbrev pub NoneEnds : Run Item Item → Type 1
  NoneEnds none = (now : Now Item) → Sound q now → (n : ℕ) (f : Point n) (m : ℕ) (fs : List Fact) (Holds : Point m → Item → Type 0)
      → EndsWell q f m fs Holds (none now)

  -- the first case that is taken
  pub cases_run : (m : ℕ) (shape : Shape) (k : Joining q m shape aim) (none : Run Item Item) → NoneEnds none
      → (arms : List Arm) (ps : List Part) (rs : List (Run Item Item)) → AllMatch (falling q) w arms → Bodies q w arms ps rs
      → {n : ℕ} {f : Point n} {facts : List Fact} (first : Option Indices) → m ≤ n
      → Surrounds q w f scope → AimSteady q.set q.work f aim → Is q.set q.work f i x
      → Beside q n f facts (each_way (here q) (is_none (wanted aim)) m shape (case_ways place number arms ps (here q) scope aim i) first)
      (first_of (checked q.set.around.types q.cases) w number arms rs none (x ∷ [])) (λ j g o y. k.Met j g o y × (false ≡ false))
  unfolding bind scoped give
  cases_run m shape k none ends [] [] [] ms h {n} {f} {facts} first le there st is =
      record { run = λ now stands met ok. ends now ok n f _ _ _ }
  cases_run m shape k none ends (arm ∷ arms) (p ∷ ps) (r ∷ rs) ms h {n} {f} {facts} first le there st is =
      let z = checked q.set.around.types q.cases in
      let giver = By.Arm number (length arms) in
      let one = k.taken true p.is_nested (case_way giver place arm p (here q) scope aim i) (case_ways place number arms ps (here q) scope aim i)
      (arm_taken z w giver arm r (x ∷ [])) first n f facts le (cases_grow arms ps rs h.1) (case_runs giver arm p r h.0.0 ms.0 h.0.1 there st is) in
      let more = runs_past {q = q} (each_way (here q) (is_none (wanted aim)) m shape (case_ways place number arms ps (here q) scope aim i))
      (way_behind (here q) (is_none (wanted aim)) m shape (case_way giver place arm p (here q) scope aim i) first)
      (k.grows (case_way giver place arm p (here q) scope aim i) first (case_grows giver arm p r true h.0.0 h.0.1))
      (λ g l. cases_run m shape k none ends arms ps rs ms.1 h.1
      (way_behind (here q) (is_none (wanted aim)) m shape (case_way giver place arm p (here q) scope aim i) first facts n).value
      (let on = l.onward in omega (arith, le, on)) (surrounds_on q w scope l there) (aim_on q.set q.work aim l st) (is_on l is)) in
      record {
        run = λ now stands met ok.
            or_well (λ after. first_of z w number arms rs none (x ∷ []) (record after { opened = now.opened }))
            ((means {Then = λ j g o y. k.Met j g o y × (false ≡ false)} (λ j g o y l e. (e.0, refl)) one).run now stands met (record
            { state = ok.state; names = ok.names }))
            (λ after ok2. more.run (record after { opened = now.opened }) stands met (record { state = ok2.state; names = ok2.names }));
      }
  cases_run m shape k none ends [] [] (r ∷ rs) ms h first le there st is = absurd h
  cases_run m shape k none ends [] (p ∷ ps) rs ms h first le there st is = absurd h
  cases_run m shape k none ends (arm ∷ arms) [] rs ms h first le there st is = absurd h
  cases_run m shape k none ends (arm ∷ arms) (p ∷ ps) [] ms h first le there st is = absurd h

-- ---- `match`

module _ (free : FreeJoining) (q : Scene) (w : World Item) (grows : ArmsGrow q w) (scope : Scope) (place : Place) (shape : Shape) where
  pub match_fine : {n : ℕ} {f : Point n} {facts : List Fact} (k : ℕ) (aim : Aim) (arms : List Arm) (a : Part) (ra : Run Item Item) (ps : List Part)
      (rs : List (Run Item Item)) (cast : Bool) → Fine q w cast false a ra → AllMatch (falling q) w arms → Bodies q w arms ps rs
      → Surrounds q w f scope → AimSteady q.set q.work f aim
      → Beside q n f facts (kind_walk place k (K.Match arms shape) (a ∷ ps) (here q) scope aim)
      (kind_meaning (z q) w place k (K.Match arms shape) (ra ∷ rs))
      (λ m g i x. Comes q.set q.work g false true false aim i x)
  match_fine {n} {f} {facts} k aim arms a ra ps rs cast ha ms hs there st =
      then_walks (λ i. give i)
      (met_behind_all k ra (λ x. first_of (z q) w k arms rs (stops (MatchFailure place)) (x ∷ []))
      (binds (match_under place k shape arms ps (here q) scope aim)
      (λ x. met_at (z q) k (first_of (z q) w k arms rs (stops (MatchFailure place)) (x ∷ [])))
      (ha.walks q.names q.may_fall no_guard n f facts scope Aims.Free there tt)
      (λ m g fs i x l c. joined q aim shape (joining free q m shape aim) place k (case_ways place k arms ps (here q) scope aim i)
      (first_of (z q) w k arms rs (stops (MatchFailure place)) (x ∷ [])) false (aim_on q.set q.work aim l st)
      (cases_run q w grows scope place k i x aim m shape (joining free q m shape aim) (stops (MatchFailure place)) (λ now ok j h d es holds.
      well_stopped (MatchFailure place) now) arms ps rs ms hs None (omega arith) (surrounds_on q w scope l there) (aim_on q.set q.work aim l st)
      (free_is cast a.is_nested a.never_ends i x c)))))
      (λ m g fs i x l d. given_back i d)
