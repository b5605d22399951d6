-- Functions and mappings of a model that passes the test, one by one.
use Rattle.std.proofs.Common.{◌≡◌, ℕ, zero, suc, Bool, true, List, [], ◌∷◌, slice_get, Some, sym, ap, ◌∙◌, subst}
use Rattle.std.specs.List.{list_all}
use Rattle.std.proofs.lemmas.Bool.{and_parts}
use Rattle.sail_types.specs.Numbers.{Positive}
use Rattle.sail_types.proofs.SumNumbers.{some_same}
use Rattle.sail_core.specs.declared.model.CoreModel.{CoreModel}
use Rattle.sail_core.specs.declared.model.Direction.{Direction}
use Rattle.sail_core.specs.declared.model.Function.{Function}
use Rattle.constraint_gen.specs.Models.{around_of}
use Rattle.checked_meaning.specs.Checked.{Checks}
use Rattle.soundness_steps.specs.Works.{Coverage, Setting, Work}
use Rattle.soundness_calls.specs.Premises.{own_of}
use Rattle.soundness_calls.specs.Laws.{scene_of}
use Rattle.soundness_calls.specs.Directions.{Side, is_ahead, is_back, scene_across}
use Rattle.safe_models.specs.CoreTests.{clauses_fit, direction_fits}
use Rattle.safe_models.proofs.Cores.{clauses, ways}
use Rattle.met_notes.specs.Covers.{side_at}
use Rattle.whole_runs.specs.Never.{DirectionStands, FunctionStands, setting_in}
use Rattle.safe_models.specs.ModelLaws.{ModelKnown, TestedModelsStand}
use Rattle.safe_models.specs.ModelTests.{function_fits, measure_fits, model_fits}

-- ---- one of many

each : {A : Type 0} (p : A → Bool) (xs : List A) (i : ℕ) (x : A) → list_all p xs ≡ true → slice_get xs i ≡ Some x → p x ≡ true
each p [] i x h is = absurd (cc)
each p (y ∷ ys) zero x h is = ap p (sym (some_same y x is)) ∙ (and_parts (p y) (list_all p ys) h).0
each p (y ∷ ys) (suc i) x h is = each p ys i x (and_parts (p y) (list_all p ys) h).1 is

-- ---- the other direction of a mapping

abbrev other : Side → Direction
other (is_ahead n) = n
other (is_back n) = n

-- it is one of them
other_at : (ds : List Direction) (d : ℕ) (n : Direction) (side : Side) → slice_get ds d ≡ Some n → side_at ds d ≡ Some side
    → (e : ℕ) × (slice_get ds e ≡ Some (other side))
other_at [] d n side e k = absurd (cc)
other_at (a ∷ []) d n side e k = absurd (cc)
other_at (a ∷ b ∷ ds) zero n side e k = (1, λ j. Some (other (some_same (is_ahead b) side k j)))
other_at (a ∷ b ∷ ds) (suc zero) n side e k = (0, λ j. Some (other (some_same (is_back a) side k j)))
other_at (a ∷ b ∷ ds) (suc (suc d)) n side e k =
    let more = other_at ds d n side e k in
    (suc (suc more.0), more.1)

-- ---- all of a model

module _ (m : CoreModel) (past : Positive) (hart : ℕ) (covered : Coverage) (k : Checks) (rank : ℕ → ℕ) (fits : model_fits m ≡ true)
    (known : ModelKnown (setting_in m past hart covered)) where
  abbrev set : Setting
  set = setting_in m past hart covered

  both : (list_all (function_fits (around_of m)) m.functions ≡ true) × (list_all (direction_fits (around_of m) []) m.directions ≡ true)
  both = and_parts (list_all (function_fits (around_of m)) m.functions) (list_all (direction_fits (around_of m) []) m.directions) fits

  function : (x : Work) (f : Function) → covered.function x ≡ true → slice_get m.functions x.function ≡ Some f → FunctionStands set k x f
  function x f is there =
      let its = and_parts (clauses_fit (around_of m) (own_of f) f.is_declared f.body) (measure_fits (around_of m) (own_of f) f.measure)
      (each (function_fits (around_of m)) m.functions x.function f both.0 there) in
      record {
        model = known.tables x is;
        body = λ h nu w. clauses (scene_of set x f h (k.function x.function x.instance.place nu)) w f.is_declared f.body its.0;
        measure = λ h nu w core has.
            clauses (scene_of set x f h (k.function x.function x.instance.place nu)) w true core
            (subst (λ o. measure_fits (around_of m) (own_of f) o ≡ true) has its.1);
      }

  of_side : (d e : ℕ) (n : Direction) (side : Side) → slice_get m.directions d ≡ Some n → slice_get m.directions e ≡ Some (other side)
      → DirectionStands set rank k d n side
  of_side d e n (is_ahead o) there back =
      let both_ways = ways (scene_across set k rank d) n o (each (direction_fits (around_of m) []) m.directions d n both.1 there)
      (each (direction_fits (around_of m) []) m.directions e o both.1 back) in
      record { model = known.nowhere; ways = both_ways.0; patterns = both_ways.1 }
  of_side d e n (is_back o) there back =
      let both_ways = ways (scene_across set k rank d) o n (each (direction_fits (around_of m) []) m.directions e o both.1 back)
      (each (direction_fits (around_of m) []) m.directions d n both.1 there) in
      record { model = known.nowhere; ways = both_ways.0; patterns = both_ways.2 }

  direction : (d : ℕ) (n : Direction) (side : Side) → slice_get m.directions d ≡ Some n → side_at m.directions d ≡ Some side
      → DirectionStands set rank k d n side
  direction d n side there beside =
      let back = other_at m.directions d n side there beside in
      of_side d back.0 n side there back.1

pub tested : TestedModelsStand
tested m past hart covered k rank fits known =
    (function m past hart covered k rank fits known, direction m past hart covered k rank fits known)
