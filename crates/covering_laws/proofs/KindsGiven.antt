-- Each size variable of a function that is called gets a number, where what arguments give is of the kinds of its variables: no Bool variable is one.
use Rattle.std.proofs.Common.{◌≡◌, ◌∙◌, ap, refl, subst, sym, ℕ, zero, suc, ◌+◌, ◌<◌, ◌≤◌, Bool, true, false, ◌&&◌, ◌||◌, List, [], ◌∷◌, ◌++◌, length, map}
use Rattle.std.proofs.Common.{Some, if◌then◌else◌, arith, length-append, length-set, nat_lt, slice_get, slice_set}
use Rattle.std.specs.List.{list_any}
use Rattle.std.specs.Prelude.{option_map}
use Rattle.std.proofs.lemmas.Bool.{ltb-false, ltb-true}
use Rattle.std.proofs.lemmas.Option.{slice_get-map}
use Rattle.sail_types.specs.declared.numbers.Index.{Index}
use Rattle.sail_types.specs.declared.numbers.Index.TheVariants as N
use Rattle.sail_types.specs.declared.table.Parameter.{Parameter}
use Rattle.sail_types.specs.declared.table.Types.{Types}
use Rattle.sail_core.specs.declared.model.CoreModel.{CoreModel}
use Rattle.sail_core.specs.declared.model.Function.{Function}
use Rattle.sail_core.specs.declared.tree.Callee.TheVariants as D
use Rattle.value_indices.specs.Steps.{Note, call_note}
use Rattle.value_indices.specs.declared.indices.Indices.{Indices}
use Rattle.value_laws.proofs.Basics.{no, two}
use Rattle.call_arguments.specs.Callees.{numbers_from}
use Rattle.constraint_gen.specs.Models.{around_of}
use Rattle.size_splits.specs.Bodies.{Body}
use Rattle.size_splits.specs.Sizing.{Sizing, count_variables, flags, flags_of, in_body, in_signature, is_size, is_truth_kind, is_truth_of, sizes_from}
use Rattle.size_splits.specs.Sizing.{sizing_again, sizing_behind, sizing_for, sizing_of, with_sizes}
use Rattle.size_notes.specs.Bodies.{bodies_of, function_bodies}
use Rattle.told_sizes.specs.Exact.{only_if}
use Rattle.exact_sizes.proofs.Known.{none}
use Rattle.covering_laws.specs.Apart.{AreOfKinds, GivesKinds, is_truth_index}

-- ---- what is given to size variables is a number

abbrev pub is_num : Index → Bool
is_num (N.Number t) = true
is_num (N.Truth c) = false

abbrev pub are_nums : List Bool → List Index → Bool
are_nums [] [] = true
are_nums (b ∷ bs) (j ∷ js) = only_if b (is_num j) && are_nums bs js
are_nums bs js = false

-- so it is of the calls of a walk
abbrev pub GivesNumbers : Sizing → Note → Type 0
GivesNumbers sizing (call_note facts place k operands (D.Function g) js qs) = are_nums (flags_of sizing g) js ≡ true
GivesNumbers sizing note = Unit {0}

-- ---- which variables of a function are size variables

module _ (types : Types) (f : Function) (bs : List Body) where
  one_given : (b : Bool) (j : Index) → (is_truth_index j ≡ true → b ≡ false) → only_if b (is_num j) ≡ true
  one_given true (N.Number t) h = refl
  one_given true (N.Truth c) h = no (sym (h refl))
  one_given false j h = refl

  truth_is_none : (sizing : Sizing) (v : ℕ) (p : Parameter) → slice_get f.variables v ≡ Some p → is_truth_kind p.kind ≡ true
      → is_size types sizing f bs v ≡ false
  truth_is_none sizing v p e h =
      let is : is_truth_of (slice_get f.variables v) ≡ true = ap is_truth_of e ∙ h in
      by (is_truth_of (slice_get f.variables v)) (in_signature types f v || list_any (in_body types sizing v) bs) is
    where
      by : (b c : Bool) → b ≡ true → (if b then false else c) ≡ false
      by true c h = refl
      by false c h = no h

  -- those from a variable on
  each_given : (sizing : Sizing) (v : ℕ) (ps : List Parameter) (js : List Index)
      → ((i : ℕ) (p : Parameter) → slice_get ps i ≡ Some p → slice_get f.variables (v + i) ≡ Some p) → AreOfKinds ps js
      → are_nums (sizes_from types sizing f bs (length ps) v) js ≡ true
  each_given sizing v [] [] there h = refl
  each_given sizing v [] (j ∷ js) there h = absurd h
  each_given sizing v (p ∷ ps) [] there h = absurd h
  each_given sizing v (p ∷ ps) (j ∷ js) there h =
      let here : v + 0 ≡ v = omega arith in
      let own : slice_get f.variables v ≡ Some p = subst (λ (i : ℕ). slice_get f.variables i ≡ Some p) here (there 0 p refl) in
      two (only_if (is_size types sizing f bs v) (is_num j)) (are_nums (sizes_from types sizing f bs (length ps) (suc v)) js)
      (one_given (is_size types sizing f bs v) j (λ truth. truth_is_none sizing v p own (sym h.0 ∙ truth)))
      (each_given sizing (suc v) ps js
      (λ i q e. subst (λ (k : ℕ). slice_get f.variables k ≡ Some q) (further v i) (there (suc i) q e)) h.1)
    where
      further : (v i : ℕ) → v + suc i ≡ suc v + i
      further v i = omega arith

-- ---- those of all functions

-- what is put at a place is there, and what stood before it stays
set_there : (ss : Sizing) (k : ℕ) (s : List Bool) → k < length ss → slice_get (slice_set ss k s) k ≡ Some s
set_there [] k s low = absurd (omega (arith, low))
set_there (x ∷ ss) zero s low = refl
set_there (x ∷ ss) (suc k) s low = set_there ss k s (omega (arith, low))

last_there : (ss : Sizing) (s : List Bool) → slice_get (ss ++ s ∷ []) (length ss) ≡ Some s
last_there [] s = refl
last_there (x ∷ ss) s = last_there ss s

set_kept : (ss : Sizing) (k i : ℕ) (s : List Bool) → i < k → slice_get (slice_set ss k s) i ≡ slice_get ss i
set_kept [] k i s low = refl
set_kept (x ∷ ss) zero i s low = absurd (omega (arith, low))
set_kept (x ∷ ss) (suc k) zero s low = refl
set_kept (x ∷ ss) (suc k) (suc i) s low = set_kept ss k i s (omega (arith, low))

last_kept : (ss : Sizing) (i : ℕ) (s : List Bool) → i < length ss → slice_get (ss ++ s ∷ []) i ≡ slice_get ss i
last_kept [] i s low = absurd (omega (arith, low))
last_kept (x ∷ ss) zero s low = refl
last_kept (x ∷ ss) (suc i) s low = last_kept ss i s (omega (arith, low))

module _ (ss : Sizing) (k : ℕ) (s : List Bool) (within : k ≤ length ss) where
  there_by : (b : Bool) → nat_lt k (length ss) ≡ b → slice_get (if b then slice_set ss k s else ss ++ s ∷ []) k ≡ Some s
  there_by true e = let low : k < length ss = ltb-true k (length ss) e in set_there ss k s low
  there_by false e =
      let past : length ss ≤ k = ltb-false k (length ss) e in
      let at : length ss ≡ k = omega (arith, within, past) in
      subst (λ (i : ℕ). slice_get (ss ++ s ∷ []) i ≡ Some s) at (last_there ss s)

  put_there : slice_get (with_sizes ss k s) k ≡ Some s
  put_there = there_by (nat_lt k (length ss)) refl

  kept_by : (i : ℕ) → i < k → (b : Bool) → slice_get (if b then slice_set ss k s else ss ++ s ∷ []) i ≡ slice_get ss i
  kept_by i low true = set_kept ss k i s low
  kept_by i low false = last_kept ss i s (omega (arith, low, within))

  put_kept : (i : ℕ) → i < k → slice_get (with_sizes ss k s) i ≡ slice_get ss i
  put_kept i low = kept_by i low (nat_lt k (length ss))

  longer_by : (b : Bool) → nat_lt k (length ss) ≡ b → k + 1 ≤ length (if b then slice_set ss k s else ss ++ s ∷ [])
  longer_by true e =
      let low : k < length ss = ltb-true k (length ss) e in
      let long : length (slice_set ss k s) ≡ length ss = length-set ss k s in
      omega (arith, low, long)
  longer_by false e =
      let long : length (ss ++ s ∷ []) ≡ length ss + 1 = length-append ss (s ∷ []) in
      omega (arith, within, long)

  put_longer : k + 1 ≤ length (with_sizes ss k s)
  put_longer = longer_by (nat_lt k (length ss)) refl

behind_kept : (types : Types) (sizing : Sizing) (k i : ℕ) (fs : List Function) (bss : List (List Body)) → k ≤ length sizing → i < k
    → slice_get (sizing_behind types sizing k fs bss) i ≡ slice_get sizing i
behind_kept types sizing k i [] bss within low = refl
behind_kept types sizing k i (f ∷ fs) [] within low = refl
behind_kept types sizing k i (f ∷ fs) (bs ∷ bss) within low =
    let here = sizes_from types sizing f bs (length f.variables) 0 in
    behind_kept types (with_sizes sizing k here) (k + 1) i fs bss (put_longer sizing k here within) (omega (arith, low))
    ∙ put_kept sizing k here within i low

-- so each function has its size variables, where those of callees are some
behind_there : (types : Types) (sizing : Sizing) (k : ℕ) (fs : List Function) (bss : List (List Body)) (g : ℕ) (f : Function) (bs : List Body)
    → k ≤ length sizing → slice_get fs g ≡ Some f → slice_get bss g ≡ Some bs
    → (last : Sizing) × (slice_get (sizing_behind types sizing k fs bss) (k + g) ≡ Some (sizes_from types last f bs (length f.variables) 0))
behind_there types sizing k [] bss g f bs within e h = none e
behind_there types sizing k (x ∷ fs) [] g f bs within e h = none h
behind_there types sizing k (x ∷ fs) (y ∷ bss) zero f bs within e h =
    let same : x ≡ f = cc e in
    let its : y ≡ bs = cc h in
    let here = sizes_from types sizing x y (length x.variables) 0 in
    let at : k + 0 ≡ k = omega arith in (
      sizing,
      behind_kept types (with_sizes sizing k here) (k + 1) (k + 0) fs bss (put_longer sizing k here within) (omega arith)
          ∙ (ap (slice_get (with_sizes sizing k here)) at
          ∙ (put_there sizing k here within ∙ (λ i. Some (sizes_from types sizing (same i) (its i) (length (same i).variables) 0)))),
    )
behind_there types sizing k (x ∷ fs) (y ∷ bss) (suc g) f bs within e h =
    let here = sizes_from types sizing x y (length x.variables) 0 in
    let put = with_sizes sizing k here in
    let later = behind_there types put (k + 1) fs bss g f bs (put_longer sizing k here within) e h in
    let at : k + 1 + g ≡ k + suc g = omega arith in (
      later.0,
      subst (λ (i : ℕ). slice_get (sizing_behind types put (k + 1) fs bss) i ≡ Some (sizes_from types later.0 f bs (length f.variables) 0)) at
          later.1,
    )

again_there : (types : Types) (sizing : Sizing) (fs : List Function) (bss : List (List Body)) (g : ℕ) (f : Function) (bs : List Body)
    → slice_get fs g ≡ Some f → slice_get bss g ≡ Some bs
    → (last : Sizing) × (slice_get (sizing_again types sizing fs bss) g ≡ Some (sizes_from types last f bs (length f.variables) 0))
again_there types sizing fs bss g f bs e h =
    let found = behind_there types sizing 0 fs bss g f bs (omega arith) e h in
    let at : 0 + g ≡ g = omega arith in
    (found.0, subst (λ (i : ℕ). slice_get (sizing_again types sizing fs bss) i ≡ Some (sizes_from types found.0 f bs (length f.variables) 0)) at found.1)

sizing_there : (times : ℕ) (types : Types) (sizing : Sizing) (fs : List Function) (bss : List (List Body)) (g : ℕ) (f : Function) (bs : List Body)
    → slice_get fs g ≡ Some f → slice_get bss g ≡ Some bs
    → (last : Sizing) × (slice_get (sizing_for (suc times) types sizing fs bss) g ≡ Some (sizes_from types last f bs (length f.variables) 0))
sizing_there zero types sizing fs bss g f bs e h = again_there types sizing fs bss g f bs e h
sizing_there (suc times) types sizing fs bss g f bs e h = sizing_there times types (sizing_again types sizing fs bss) fs bss g f bs e h

module _ (core : CoreModel) (kinds : GivesKinds core) where
  pub numbers_given : (g : ℕ) (f : Function) → slice_get core.functions g ≡ Some f → (is : List Indices)
      → are_nums (flags_of (sizing_of core (bodies_of core).functions) g) (numbers_from 0 f.variables f.parameters is) ≡ true
  numbers_given g f e is =
      let around = around_of core in
      let bodies : slice_get (map (function_bodies around) core.functions) g ≡ Some (function_bodies around f) =
      slice_get-map (function_bodies around) core.functions g ∙ ap (option_map (function_bodies around)) e in
      let last = sizing_there (count_variables core.functions) core.types [] core.functions (bodies_of core).functions g f (function_bodies around f) e
      bodies in
      subst (λ (bs : List Bool). are_nums bs (numbers_from 0 f.variables f.parameters is) ≡ true) (sym (ap flags last.1))
      (each_given core.types f (function_bodies around f) last.0 0 f.variables (numbers_from 0 f.variables f.parameters is)
      (λ i p h. subst (λ (k : ℕ). slice_get f.variables k ≡ Some p) (from_first i) h) (kinds g f e is))
    where
      from_first : (i : ℕ) → i ≡ 0 + i
      from_first i = omega arith
