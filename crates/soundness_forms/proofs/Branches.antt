-- `if`, beside its run.
use Rattle.std.proofs.Common.{◌≡◌, ℕ, Bool, true, false, not, ◌&&◌, List, [], ◌∷◌, Option, Some, None, refl, sym, ap, ◌∙◌, arith}
use Rattle.sail_base.specs.declared.place.Place.{Place}
use Rattle.sail_types.specs.Numbers.{Assignment, form_true, true_in}
use Rattle.sail_types.specs.declared.numbers.Con.{Con, fold-roll-Con}
use Rattle.sail_types.specs.declared.numbers.Con.TheOpen as F
use Rattle.sail_types.specs.declared.numbers.Con.TheVariants as C
use Rattle.sail_types.specs.declared.shapes.Shape.{Shape}
use Rattle.sail_core.specs.Making.{World, made, nothing, truth}
use Rattle.sail_core.specs.Meaning.{kind_meaning, met_at}
use Rattle.sail_core.specs.Run.{Run, goes_on, if_so, ◌then◌}
use Rattle.sail_core.specs.declared.tree.Kind.TheVariants as K
use Rattle.value_indices.specs.declared.indices.Indices.{Indices}
use Rattle.value_indices.specs.declared.notes.Fact.{Fact}
use Rattle.value_indices.specs.Steps.{Walk, assume, give}
use Rattle.pattern_leaves.specs.Settings.{Scope}
use Rattle.call_arguments.specs.Aims.{branch_aim}
use Rattle.call_arguments.specs.declared.aims.Aim.{Aim}
use Rattle.call_arguments.specs.declared.aims.Aim.TheVariants as Aims
use Rattle.expression_forms.specs.Truths.{truth_of}
use Rattle.expression_steps.specs.Expressions.{kind_walk}
use Rattle.expression_steps.specs.Parts.{Part, truth_walk, under}
use Rattle.expression_steps.specs.Statements.{either_met, if_under, if_ways, value_met, way_of}
use Rattle.checked_meaning.specs.Checked.{checked}
use Rattle.checked_meaning.specs.Items.{Item}
use Rattle.value_laws.specs.Belonging.{standing}
use Rattle.value_laws.specs.Known.{Point}
use Rattle.soundness_steps.proofs.Points.{agree_on}
use Rattle.soundness_steps.specs.Works.{Scene, here}
use Rattle.soundness_steps.specs.Steps.{Beside, Grows}
use Rattle.soundness_steps.specs.Values.{AimSteady, Comes, IsTrue}
use Rattle.soundness_steps.proofs.Steps.{assumes, binds, given_back, means, runs_as, walks_then}
use Rattle.soundness_forms.specs.Forms.{Fine}
use Rattle.soundness_forms.specs.Joins.{FreeJoining}
use Rattle.soundness_forms.specs.Worlds.{Surrounds}
use Rattle.soundness_forms.proofs.Basics.{aim_on, then_walks}
use Rattle.soundness_forms.proofs.Casts.{comes_is, no_guard}
use Rattle.soundness_forms.proofs.Growth.{grows_assume, grows_bind}
use Rattle.soundness_forms.proofs.Joins.{behind_others, joined, joining, met_behind_all, then_then, z}
use Rattle.soundness_forms.proofs.Tests.{TruthIs, truths}
use Rattle.soundness_forms.proofs.Worlds.{surrounds_on}

pub not_is : (nu : Assignment) (c : Con) → true_in nu (C.Not c) ≡ not (true_in nu c)
not_is nu c = ap (true_in nu) (sym (C.rolls-Not c)) ∙ fold-roll-Con Bool (form_true nu) (F.Not c)

module _ (q : Scene) (w : World Item) (scope : Scope) where
  -- ---- conditions

  pub truth_runs : (p : Part) (r : Run Item Item) → Fine q w false false p r → {n : ℕ} {f : Point n} {facts : List Fact} → Surrounds q w f scope
      → Beside q n f facts (truth_walk p (here q) scope) (r then truth (checked q.set.around.types q.cases)) (λ m g o b. TruthIs q g o b)
  truth_runs p r h {n} {f} {facts} there =
      binds (truth_of p.place) (truth (checked q.set.around.types q.cases)) (h.walks q.names q.may_fall no_guard n f facts scope Aims.Free there tt)
      (λ m g fs i x l c. truths q p.place i x (comes_is p.is_nested p.never_ends Aims.Free i x c))

  -- a part under a condition that is true
  pub under_runs : (p : Part) (r : Run Item Item) (cast : Bool) → Fine q w cast false p r → (c : Con) (aim : Aim) {n : ℕ} {f : Point n} {facts : List Fact}
      → Surrounds q w f scope → AimSteady q.set q.work f aim → IsTrue q.set q.work f c
      → Beside q n f facts (under c p (here q) scope aim) r (λ m g i x. Comes q.set q.work g cast p.is_nested p.never_ends aim i x)
  under_runs p r cast h c aim there st is = walks_then (λ t. p.walk (here q) scope aim) (assumes c is) (λ m g fs t l e.
      h.walks q.names q.may_fall no_guard m g fs scope aim (surrounds_on q w scope l there) (aim_on q.set q.work aim l st))

  pub under_grows : (p : Part) (r : Run Item Item) (cast : Bool) → Fine q w cast false p r → (c : Con) (aim : Aim) → Grows (under c p (here q) scope aim)
  under_grows p r cast h c aim = grows_bind (assume c) (λ t. p.walk (here q) scope aim) (grows_assume c) (λ t. h.grows (here q) scope aim)

pub branch_steady : (q : Scene) {n : ℕ} (f : Point n) (aim : Aim) → AimSteady q.set q.work f aim → AimSteady q.set q.work f (branch_aim aim)
branch_steady q f Aims.Free st = st
branch_steady q f (Aims.Given r) st = st
branch_steady q f (Aims.PartOf r) st = st
branch_steady q f (Aims.Due r) st = st

and_first : (a b : Bool) → a ≡ false → (a && b) ≡ false
and_first a b e = ap (λ c. c && b) e

and_second : (a b : Bool) → b ≡ false → (a && b) ≡ false
and_second true b e = e
and_second false b e = refl

-- the way that is taken
abbrev pub sides : Scene → Run Item Item → Run Item Item → Bool → Run Item Item
sides q ra rb = if_so ((z q).inside ra) ((z q).inside rb)

-- behind a condition
pub tested_first : {q : Scene} {n : ℕ} {f : Point n} {facts : List Fact} {A : Type 0} {v : Walk A} (k : ℕ) (rc ra rb : Run Item Item)
    {Holds : (m : ℕ) → Point m → A → Item → Type 0}
    → Beside q n f facts v ((rc then truth (z q)) then λ t. met_at (z q) k (sides q ra rb t)) Holds
    → Beside q n f facts v (met_at (z q) k (rc then λ x. truth (z q) x then sides q ra rb)) Holds
tested_first {q} k rc ra rb b =
    runs_as (λ now. ap (λ d. goes_on d (λ x. made (z q) k (nothing (z q) ∷ []) x.val)) (then_then (rc now) (truth (z q)) (sides q ra rb)))
    (met_behind_all k (rc then truth (z q)) (sides q ra rb) b)

module _ (free : FreeJoining) (q : Scene) (w : World Item) (scope : Scope) (place : Place) (k : ℕ) (shape : Shape) (a b : Part) (ra rb : Run Item Item)
    (ha : Fine q w true false a ra) (hb : Fine q w true false b rb) (aim : Aim) where
  pub then_runs : {n : ℕ} {f : Point n} {facts : List Fact} (c : Con) → Surrounds q w f scope → AimSteady q.set q.work f aim → TruthIs q f (Some c) true
      → Beside q n f facts (if_under place k shape a b (here q) scope aim c) (met_at (z q) k ((z q).inside ra))
      (λ m g i x. Comes q.set q.work g false true a.never_ends aim i x)
  then_runs {n} {f} {facts} c there st is =
      let join = joining free q n shape aim in
      joined q aim shape join place k (if_ways a b (here q) scope aim c) ((z q).inside ra) a.never_ends st
      (behind_others q n shape aim join a.is_nested [] (way_of a (here q) scope aim c) (way_of b (here q) scope aim (C.Not c) ∷ []) ra None (omega arith) tt
      (under_grows q w scope b rb true hb (C.Not c) (branch_aim aim), tt) (λ j g l.
      under_runs q w scope a ra true ha c (branch_aim aim) (surrounds_on q w scope l there) (aim_on q.set q.work (branch_aim aim) l (branch_steady q f aim st))
      (λ h d. is h (agree_on l d))))

  pub else_runs : {n : ℕ} {f : Point n} {facts : List Fact} (c : Con) → Surrounds q w f scope → AimSteady q.set q.work f aim → TruthIs q f (Some c) false
      → Beside q n f facts (if_under place k shape a b (here q) scope aim c) (met_at (z q) k ((z q).inside rb))
      (λ m g i x. Comes q.set q.work g false true b.never_ends aim i x)
  else_runs {n} {f} {facts} c there st is =
      let join = joining free q n shape aim in
      joined q aim shape join place k (if_ways a b (here q) scope aim c) ((z q).inside rb) b.never_ends st
      (behind_others q n shape aim join b.is_nested (way_of a (here q) scope aim c ∷ []) (way_of b (here q) scope aim (C.Not c)) [] rb None (omega arith)
      (under_grows q w scope a ra true ha c (branch_aim aim), tt) tt (λ j g l.
      under_runs q w scope b rb true hb (C.Not c) (branch_aim aim) (surrounds_on q w scope l there)
      (aim_on q.set q.work (branch_aim aim) l (branch_steady q f aim st)) (λ h d. not_is (standing q.set.past h) c ∙ ap not (is h (agree_on l d)))))

  -- the node ends where a branch does
  ends_so : {n : ℕ} {f : Point n} (one both : Bool) (i : Indices) (x : Item) → Comes q.set q.work f false true one aim i x → both ≡ false
      → Comes q.set q.work f false true both aim i x
  ends_so one both i x e h = record { has = e.has; typ = e.typ; met = e.met; ends = h }

  branches : {n : ℕ} {f : Point n} {facts : List Fact} (c : Con) (t : Bool) → Surrounds q w f scope → AimSteady q.set q.work f aim
      → TruthIs q f (Some c) t → Beside q n f facts (if_under place k shape a b (here q) scope aim c) (met_at (z q) k (sides q ra rb t))
      (λ m g i x. Comes q.set q.work g false true (a.never_ends && b.never_ends) aim i x)
  branches c true there st is = means (λ m g i x l e. ends_so a.never_ends (a.never_ends && b.never_ends) i x e (and_first a.never_ends b.never_ends e.ends))
      (then_runs c there st is)
  branches c false there st is = means (λ m g i x l e. ends_so b.never_ends (a.never_ends && b.never_ends) i x e (and_second a.never_ends b.never_ends e.ends))
      (else_runs c there st is)

  either_runs : {n : ℕ} {f : Point n} {facts : List Fact} (o : Option Con) (t : Bool) → Surrounds q w f scope → AimSteady q.set q.work f aim
      → TruthIs q f o t
      → Beside q n f facts (either_met place k shape a b (here q) scope aim o) (met_at (z q) k (sides q ra rb t))
      (λ m g e x. Comes q.set q.work g false true (a.never_ends && b.never_ends) aim (value_met e) x)
  either_runs None t there st is = absurd is
  either_runs (Some c) t there st is = then_walks (λ i. give (Some (c, i))) (branches c t there st is) (λ m g fs i x l e.
      given_back (Some (c, i)) e)

  pub if_fine : {n : ℕ} {f : Point n} {facts : List Fact} (c : Part) (rc : Run Item Item) → Fine q w false false c rc
      → Surrounds q w f scope → AimSteady q.set q.work f aim
      → Beside q n f facts (kind_walk place k (K.If shape) (c ∷ a ∷ b ∷ []) (here q) scope aim)
      (kind_meaning (z q) w place k (K.If shape) (rc ∷ ra ∷ rb ∷ []))
      (λ m g i x. Comes q.set q.work g false true (a.never_ends && b.never_ends) aim i x)
  if_fine c rc hc there st =
      then_walks (λ i. give i)
      (then_walks (λ e. give (value_met e))
      (tested_first k rc ra rb
      (binds (either_met place k shape a b (here q) scope aim) (λ t. met_at (z q) k (sides q ra rb t)) (truth_runs q w scope c rc hc there)
      (λ m g fs o t l is. either_runs o t (surrounds_on q w scope l there) (aim_on q.set q.work aim l st) is)))
      (λ m g fs e x l d. given_back (value_met e) d))
      (λ m g fs i x l d. given_back i d)
