-- A chain of assignments, target by target: what is written to the targets before, once what stands behind them has its value.
use Rattle.std.proofs.Common.{◌≡◌, ◌∙◌, ◌≤◌, ◌<◌, ◌+◌, ◌-◌, ap, sym, refl, ℕ, zero, suc, List, [], ◌∷◌, ◌++◌, length, drop, take, get_or, map}
use Rattle.std.proofs.Common.{Option, None, false, arith}
use Rattle.sail_base.specs.declared.place.Place.{Place}
use Rattle.sail_core.specs.declared.targets.Target.{Target}
use Rattle.value_indices.specs.Steps.{Walk, bind, give}
use Rattle.value_indices.specs.Walking.{Written, got, run}
use Rattle.value_indices.specs.declared.indices.Indices.{Indices}
use Rattle.value_indices.specs.declared.indices.Indices.TheVariants as I
use Rattle.value_indices.proofs.Walks.{got_bind, got_give, run_bind, run_give}
use Rattle.pattern_leaves.specs.Settings.{Around, Scope}
use Rattle.pattern_leaves.proofs.Rests.{all_behind, rest_is}
use Rattle.pattern_leaves.proofs.Walked.{then_got, then_run}
use Rattle.expression_forms.specs.Spots.{Spot, written_by}
use Rattle.expression_steps.specs.Parts.{Part}
use Rattle.expression_steps.specs.Targets.{Spotted, assigned, assigned_one, assigned_to, spotted, spotting, then_assigned}
use Rattle.expression_notes.specs.Chains.{written_back}
use Rattle.expression_notes.proofs.Alike.{Alike}

module _ (place : Place) where
  abbrev writes : Spot → Indices → Walk Indices
  writes s i = written_by place s false i

  -- what is written to the targets before, once a walk has given its value
  abbrev backed : List Spot → Walk Indices → Written → Indices
  backed ss a w = got (written_back place ss (got a w)) (run a w)

  abbrev backed_run : List Spot → Walk Indices → Written → Written
  backed_run ss a w = run (written_back place ss (got a w)) (run a w)

  -- one target more
  back_more : (ss : List Spot) (s : Spot) (i : Indices) (w : Written)
      → Alike (backed ss (writes s i) w) (got (written_back place (ss ++ s ∷ []) i) w) (backed_run ss (writes s i) w)
      (run (written_back place (ss ++ s ∷ []) i) w)
  back_more [] s i w = record {
    value = got_give (got (writes s i) w) (run (writes s i) w) ∙ (λ j. got (writes s (sym (got_give i w) j)) (sym (run_give i w) j))
        ∙ sym (got_bind (give i) (writes s) w);
    walked = run_give (got (writes s i) w) (run (writes s i) w) ∙ (λ j. run (writes s (sym (got_give i w) j)) (sym (run_give i w) j))
        ∙ sym (run_bind (give i) (writes s) w);
  }
  back_more (t ∷ ts) s i w =
      let h = back_more ts s i w in
      let x = got (writes s i) w in
      let v = run (writes s i) w in
      record {
        value = got_bind (written_back place ts x) (writes t) v ∙ (λ j. got (writes t (h.value j)) (h.walked j))
            ∙ sym (got_bind (written_back place (ts ++ s ∷ []) i) (writes t) w);
        walked = run_bind (written_back place ts x) (writes t) v ∙ (λ j. run (writes t (h.value j)) (h.walked j))
            ∙ sym (run_bind (written_back place (ts ++ s ∷ []) i) (writes t) w);
      }

  -- the last of some targets
  pub last_back : (ss all : List Spot) (s : Spot) (i j : Indices) (w v : Written) → all ≡ ss ++ s ∷ [] → j ≡ got (writes s i) w
      → v ≡ run (writes s i) w
      → Alike (got (written_back place ss j) v) (got (written_back place all i) w) (run (written_back place ss j) v)
      (run (written_back place all i) w)
  last_back ss all s i j w v parted is was =
      let h = back_more ss s i w in
      record {
        value = (λ n. got (written_back place ss (is n)) (was n)) ∙ h.value ∙ (λ n. got (written_back place (sym parted n) i) w);
        walked = (λ n. run (written_back place ss (is n)) (was n)) ∙ h.walked ∙ (λ n. run (written_back place (sym parted n) i) w);
      }

  -- behind a walk that writes to one target more
  behind_more : (ss now : List Spot) (s : Spot) (whole inner : Walk Indices) (i : Indices) (w u : Written) → now ≡ ss ++ s ∷ []
      → whole ≡ bind inner (writes s) → i ≡ got inner w → u ≡ run inner w
      → Alike (got (written_back place now i) u) (backed ss whole w) (run (written_back place now i) u) (backed_run ss whole w)
  behind_more ss now s whole inner i w u grown opens is was =
      let h = back_more ss s i u in
      let known = then_got inner (writes s) w u i is was ∙ (λ j. got (sym opens j) w) in
      let wrote = then_run inner (writes s) w u i is was ∙ (λ j. run (sym opens j) w) in
      record {
        value = (λ j. got (written_back place (grown j) i) u) ∙ sym h.value ∙ (λ j. got (written_back place ss (known j)) (wrote j));
        walked = (λ j. run (written_back place (grown j) i) u) ∙ sym h.walked ∙ (λ j. run (written_back place ss (known j)) (wrote j));
      }

  module _ (around : Around) (scope : Scope) (targets : List Target) where
    abbrev further : ℕ → List Part → Walk Indices
    further k parts = assigned place (map spotting (drop k targets)) around scope parts

    -- what stands behind a target, once it is known which it is
    abbrev rest : ℕ → Spot → List Part → Walk Indices
    rest k s parts = assigned_to place (map spotting (drop k targets)) (further k) around scope s parts

    module _ (k : ℕ) (t : Target) (more : k < length targets) (is_there : t ≡ get_or targets k t) (s : Spot) (parts : List Part)
        (before now : List Spot) (grown : now ≡ before ++ s ∷ []) (w v : Written) (was : v ≡ run (spotting t around scope parts) w) where
      abbrev spots : Walk (Option Spotted)
      spots = spotting t around scope parts

      abbrev next : Option Spotted → Walk Indices
      next = then_assigned (rest (k + 1))

      opened : rest k s parts ≡ bind (bind spots next) (writes s)
      opened =
          λ j. assigned_to place (map spotting (rest_is targets k t more is_there j))
          (assigned place (map spotting (rest_is targets k t more is_there j)) around scope) around scope s parts

      -- one target more
      pub onward_alike : (inner : Spot) (left : List Part) → spotted inner left ≡ got spots w
          → Alike (backed now (rest (k + 1) inner left) v) (backed before (rest k s parts) w) (backed_run now (rest (k + 1) inner left) v)
          (backed_run before (rest k s parts) w)
      onward_alike inner left found =
          behind_more before now s (rest k s parts) (bind spots next) (got (rest (k + 1) inner left) v) w (run (rest (k + 1) inner left) v) grown
          opened (then_got spots next w v (spotted inner left) found was) (then_run spots next w v (spotted inner left) found was)

      abbrev nothing : Option Spotted
      nothing = None

      -- one that isn't there
      pub gone_alike : nothing ≡ got spots w
          → Alike (got (written_back place now I.Never) v) (backed before (rest k s parts) w) (run (written_back place now I.Never) v)
          (backed_run before (rest k s parts) w)
      gone_alike found =
          behind_more before now s (rest k s parts) (bind spots next) I.Never w v grown opened
          (sym (got_give I.Never v) ∙ then_got spots next w v None found was) (sym (run_give {A = Indices} I.Never v) ∙ then_run spots next w v None found was)

    -- behind the last target
    pub last_alike : (k : ℕ) (s : Spot) (parts : List Part) (before : List Spot) (i : Indices) (w u : Written) → length targets ≤ k
        → i ≡ got (assigned_one place around scope s parts) w → u ≡ run (assigned_one place around scope s parts) w
        → Alike (got (written_back place before i) u) (backed before (rest k s parts) w) (run (written_back place before i) u)
        (backed_run before (rest k s parts) w)
    last_alike k s parts before i w u past is was =
        let opens : rest k s parts ≡ assigned_one place around scope s parts =
        (λ j. assigned_to place (map spotting (all_behind targets k past j)) (assigned place (map spotting (all_behind targets k past j)) around scope)
        around scope s parts) in
        let known = is ∙ (λ j. got (sym opens j) w) in
        let wrote = was ∙ (λ j. run (sym opens j) w) in
        record {
          value = λ j. got (written_back place before (known j)) (wrote j);
          walked = λ j. run (written_back place before (known j)) (wrote j);
        }

-- ---- the targets before one

taken_suc : {A B : Type 0} (f : A → B) (xs : List A) (m : ℕ) (x : A) → m < length xs → x ≡ get_or xs m x
    → map f (take (suc m) xs) ≡ map f (take m xs) ++ f x ∷ []
taken_suc f [] m x within is = absurd (omega (arith, within))
taken_suc f (y ∷ ys) zero x within is = ap (λ z. f z ∷ []) (sym is)
taken_suc f (y ∷ ys) (suc m) x within is = ap (λ l. f y ∷ l) (taken_suc f ys m x (omega (arith, within)) is)

pub taken_less : {A B : Type 0} (f : A → B) (xs : List A) (n : ℕ) (x : A) → 0 < n → n ≤ length xs → x ≡ get_or xs (n - 1) x
    → map f (take n xs) ≡ map f (take (n - 1) xs) ++ f x ∷ []
taken_less f xs n x some within is =
    let e : n ≡ suc (n - 1) = omega (arith, some) in
    ap (λ m. map f (take m xs)) e ∙ taken_suc f xs (n - 1) x (omega (arith, some, within)) is

pub taken_none : {A B : Type 0} (f : A → B) (xs : List A) (n : ℕ) → n ≤ 0 → map f (take n xs) ≡ []
taken_none f xs zero few = refl
taken_none f xs (suc n) few = absurd (omega (arith, few))
