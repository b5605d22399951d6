-- What stands on the right of a target: a value, or what further targets give.
use Rattle.std.proofs.Common.{◌≡◌, ℕ, Bool, true, false, List, [], ◌∷◌, if◌then◌else◌, Option, Some, None, refl, sym}
use Rattle.std.proofs.lemmas.List.{append-nil}
use Rattle.sail_base.specs.declared.place.Place.{Place}
use Rattle.sail_core.specs.Making.{World}
use Rattle.sail_core.specs.Run.{Run}
use Rattle.sail_core.specs.Targets as Runs
use Rattle.value_indices.specs.Steps.{Walk, bind, give, went}
use Rattle.value_indices.specs.declared.indices.Indices.{Indices}
use Rattle.value_indices.specs.declared.notes.Fact.{Fact}
use Rattle.pattern_leaves.specs.Settings.{Scope}
use Rattle.call_arguments.specs.Aims.{aimed, is_hole}
use Rattle.call_arguments.specs.declared.aims.Aim.TheVariants as Aims
use Rattle.call_notes.specs.Ends.{never_value, wrong_value}
use Rattle.expression_forms.specs.Spots.{Spot, written_by}
use Rattle.expression_steps.specs.Parts.{Part}
use Rattle.expression_steps.specs.Targets.{Spotted, Spotting, assigned, assigned_to, then_assigned}
use Rattle.checked_meaning.specs.Items.{Item}
use Rattle.value_laws.specs.Known.{Point}
use Rattle.soundness_steps.specs.Works.{Scene, here}
use Rattle.soundness_steps.specs.Steps.{Beside, Grows}
use Rattle.soundness_steps.specs.Values.{AimSteady, Is, IsMet}
use Rattle.soundness_steps.proofs.Steps.{means}
use Rattle.soundness_forms.specs.Forms.{AllFine}
use Rattle.soundness_forms.specs.Worlds.{Surrounds}
use Rattle.soundness_forms.proofs.Basics.{wrongs}
use Rattle.soundness_forms.proofs.Casts.{comes_is, no_guard}
use Rattle.soundness_forms.proofs.Growth.{grows_wrong}
use Rattle.soundness_targets.proofs.TargetGrowth.{AnyGrow}

-- the walk over it, of which a spot says what is wanted, and what is written then
pub record Right : Type 0 where
  pub first : Spot → List Part → Walk Indices
  pub last : Spot → List Part → Indices → Walk Indices
  pub run : List (Run Item Item) → Run Item Item
  -- whether what is owed of it is owed further in
  pub nested : List Part → Bool

module _ (q : Scene) (w : World Item) (place : Place) (scope : Scope) where
  abbrev pub IsWritten : Right → {n : ℕ} → Point n → Spot → List Part → Indices → Item → Type 0
  IsWritten right f s ps i y = (nested : Bool) × (right.last s ps i ≡ written_by place s nested i) × Is q.set q.work f i y
      × IsMet q.set q.work f (aimed Aims.Given s.typ) nested y.val × (nested ≡ right.nested ps)

  -- it ends well, and is written to the spot
  pub record RightFine (right : Right) : Type 0 where
    pub goes : (n : ℕ) (f : Point n) (facts : List Fact) (s : Spot) (ps : List Part) (us : List (Run Item Item)) → AllFine q w ps us → Surrounds q w f scope
        → AimSteady q.set q.work f (aimed Aims.Given s.typ)
        → Beside q n f facts (right.first s ps) (right.run us) (λ m g i y. IsWritten right g s ps i y)
    pub grows : (s : Spot) (ps : List Part) → AnyGrow (here q) scope ps → Grows (right.first s ps)

  -- ---- a value

  abbrev value_first : Spot → List Part → Walk Indices
  value_first s (a ∷ []) = a.walk (here q) scope (aimed Aims.Given s.typ)
  value_first s ps = wrong_value place

  abbrev value_last : Spot → List Part → Indices → Walk Indices
  value_last s (a ∷ []) i = written_by place s a.is_nested i
  value_last s ps i = give i

  abbrev value_nested : List Part → Bool
  value_nested (a ∷ []) = a.is_nested
  value_nested ps = false

  abbrev pub value_right : Right
  value_right = record { first = value_first; last = value_last; run = Runs.assigned []; nested = value_nested }

  value_goes : (n : ℕ) (f : Point n) (facts : List Fact) (s : Spot) (ps : List Part) (us : List (Run Item Item)) → AllFine q w ps us → Surrounds q w f scope
      → AimSteady q.set q.work f (aimed Aims.Given s.typ)
      → Beside q n f facts (value_first s ps) (Runs.assigned [] us) (λ m g i y. IsWritten value_right g s ps i y)
  value_goes n f facts s [] us fine there st = wrongs place _
  value_goes n f facts s (p ∷ c ∷ ps) us fine there st = wrongs place _
  value_goes n f facts s (p ∷ []) (u ∷ []) fine there st =
      means (λ m g i y l c. (p.is_nested, refl, comes_is p.is_nested p.never_ends (aimed Aims.Given s.typ) i y c, c.met, refl))
      (fine.0.walks q.names q.may_fall no_guard n f facts scope (aimed Aims.Given s.typ) there st)
  value_goes n f facts s (p ∷ []) [] fine there st = absurd fine
  value_goes n f facts s (p ∷ []) (u ∷ d ∷ us) fine there st = absurd fine.1

  value_grows : (s : Spot) (ps : List Part) → AnyGrow (here q) scope ps → Grows (value_first s ps)
  value_grows s [] h = grows_wrong place
  value_grows s (p ∷ []) h = h.0 (aimed Aims.Given s.typ)
  value_grows s (p ∷ c ∷ ps) h = grows_wrong place

  pub value_fine : RightFine value_right
  value_fine = record { goes = value_goes; grows = value_grows }

  -- ---- what further targets give

  abbrev pub chain_right : (List Part → Walk Indices) → (List (Run Item Item) → Run Item Item) → Right
  chain_right walk run = record { first = λ s ps. walk ps; last = λ s ps i. written_by place s false i; run = run; nested = λ ps. false }

  -- nothing is owed of what is given
  not_met : {n : ℕ} (f : Point n) (s : Spot) (y : Item) → IsMet q.set q.work f (aimed Aims.Given s.typ) false y.val
  not_met f s y = by (is_hole s.typ)
    where
      by : (b : Bool) → IsMet q.set q.work f (if b then Aims.Free else Aims.Given s.typ) false y.val
      by true = tt
      by false = tt

  pub chain_fine : (walk : List Part → Walk Indices) (run : List (Run Item Item) → Run Item Item)
      → ((n : ℕ) (f : Point n) (facts : List Fact) (ps : List Part) (us : List (Run Item Item)) → AllFine q w ps us → Surrounds q w f scope
      → Beside q n f facts (walk ps) (run us) (λ m g i y. Is q.set q.work g i y))
      → ((ps : List Part) → AnyGrow (here q) scope ps → Grows (walk ps)) → RightFine (chain_right walk run)
  chain_fine walk run goes grows = record {
    goes = λ n f facts s ps us fine there st. means (λ m g i y l h. (false, refl, h, not_met g s y, refl)) (goes n f facts ps us fine there);
    grows = λ s ps h. grows ps h;
  }

-- ---- as the walk has it

module _ (right : Right) where
  abbrev pub spot_first : Option Spotted → Walk Indices
  spot_first None = never_value
  spot_first (Some s) = right.first s.spot s.left

  abbrev pub spot_last : Option Spotted → Indices → Walk Indices
  spot_last None i = give i
  spot_last (Some s) i = right.last s.spot s.left i

pub last_given : (w : Walk Indices) → bind w (λ i. give i) ≡ w
unfolding bind give
last_given w = λ j. λ facts n. went (w facts n).value (w facts n).facts (w facts n).next (append-nil (w facts n).notes j)

-- a target's walk goes on so
abbrev pub Splits : (Spot → List Part → Walk Indices) → Right → Type 0
Splits further right = (s : Spot) (ps : List Part) → further s ps ≡ bind (right.first s ps) (right.last s ps)

pub spot_same : (further : Spot → List Part → Walk Indices) (right : Right) → Splits further right → (o : Option Spotted)
    → then_assigned further o ≡ bind (spot_first right o) (spot_last right o)
spot_same further right splits None = sym (last_given never_value)
spot_same further right splits (Some s) = splits s.spot s.left

module _ (q : Scene) (w : World Item) (place : Place) (scope : Scope) where
  value_by : (further : List Part → Walk Indices) (s : Spot) (ps : List Part) → assigned_to place [] further (here q) scope s ps
      ≡ bind ((value_right q w place scope).first s ps) ((value_right q w place scope).last s ps)
  value_by further s (a ∷ []) = refl
  value_by further s [] = sym (last_given (wrong_value place))
  value_by further s (a ∷ b ∷ ps) = sym (last_given (wrong_value place))

  pub value_splits : Splits (assigned_to place [] (assigned place [] (here q) scope) (here q) scope) (value_right q w place scope)
  value_splits s ps = value_by (assigned place [] (here q) scope) s ps

  pub chain_splits : (t : Spotting) (ts : List Spotting) (run : List (Run Item Item) → Run Item Item)
      → Splits (assigned_to place (t ∷ ts) (assigned place (t ∷ ts) (here q) scope) (here q) scope)
      (chain_right q w place scope (assigned place (t ∷ ts) (here q) scope) run)
  chain_splits t ts run s ps = refl
