-- Types that others fill, one by one.
use Rattle.std.proofs.Common.{◌≡◌, ◌∙◌, ap, refl, sym, ℕ, zero, suc, ◌+◌, List, [], ◌∷◌, drop, slice_get, add-one}
use Rattle.sail_base.specs.declared.place.Place.{Place}
use Rattle.sail_types.specs.declared.numbers.Index.{Index}
use Rattle.sail_types.specs.declared.types.Typ.{Typ}
use Rattle.value_indices.specs.Steps.{Walk, next_variable}
use Rattle.value_indices.specs.Walking.{got, run, Written}
use Rattle.value_indices.specs.declared.indices.Indices.{Indices, out-Indices}
use Rattle.value_indices.specs.declared.indices.Indices.TheOpen as W
use Rattle.value_indices.specs.declared.indices.Indices.TheOpen.{Indices-F}
use Rattle.value_indices.specs.declared.indices.Reading.{Reading}
use Rattle.value_indices.proofs.Walks.{got_next, run_next}
use Rattle.pattern_leaves.specs.Settings.{Around}
use Rattle.pattern_leaves.proofs.Walked.{then_got, then_run}
use Rattle.expression_steps.specs.Filling.{each_filled, filled_at, refilled, types_behind, with_filled}

filled_behind : (r : Reading) (rs qs : List Reading) (i : ℕ)
    → each_filled (r ∷ rs) (drop i qs) ≡ filled_at r (slice_get qs i) ∷ each_filled rs (drop (suc i) qs)
filled_behind r rs [] zero = refl
filled_behind r rs [] (suc i) = refl
filled_behind r rs (q ∷ qs) zero = refl
filled_behind r rs (q ∷ qs) (suc i) = filled_behind r rs qs i

pub filled_more : (r : Reading) (rs qs : List Reading) (i : ℕ)
    → each_filled (r ∷ rs) (drop i qs) ≡ filled_at r (slice_get qs i) ∷ each_filled rs (drop (i + 1) qs)
filled_more r rs qs i =
    filled_behind r rs qs i ∙ ap (λ (n : ℕ). filled_at r (slice_get qs i) ∷ each_filled rs (drop n qs)) (sym (add-one i))

-- ---- a struct whose types are those that were found behind it

module _ (around : Around) (place : Place) (ts : List Typ) (i : Indices) (u : ℕ) (js : List Index) (rs qs : List Reading) (is : List Indices) (w : Written)
    (named : out-Indices i ≡ W.Named u js rs) (found : qs ≡ types_behind w.next ts rs is) where
  abbrev behind : ℕ → Walk Indices
  behind m = refilled around place ts i u js (types_behind m ts rs is) is

  pub filled_got : got (refilled around place ts i u js qs is) w ≡ got (with_filled around place ts i is (out-Indices i)) w
  filled_got =
      ap (λ (q : List Reading). got (refilled around place ts i u js q is) w) found
      ∙ then_got next_variable behind w w w.next (sym (got_next w)) (sym (run_next w))
      ∙ ap (λ (form : Indices-F Indices Reading). got (with_filled around place ts i is form) w) (sym named)

  pub filled_run : run (refilled around place ts i u js qs is) w ≡ run (with_filled around place ts i is (out-Indices i)) w
  filled_run =
      ap (λ (q : List Reading). run (refilled around place ts i u js q is) w) found
      ∙ then_run next_variable behind w w w.next (sym (got_next w)) (sym (run_next w))
      ∙ ap (λ (form : Indices-F Indices Reading). run (with_filled around place ts i is form) w) (sym named)
