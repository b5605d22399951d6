-- What the parts of a value owe, one by one.
use Rattle.std.proofs.Common.{◌≡◌, ◌∙◌, ap, sym, refl, ℕ, zero, suc, ◌+◌, ◌<◌, min, List, [], ◌∷◌, length, drop, get_or, arith}
use Rattle.std.specs.Prelude.{Option}
use Rattle.sail_base.specs.declared.place.Place.{Place}
use Rattle.sail_types.specs.declared.numbers.Index.{Index}
use Rattle.sail_types.specs.declared.types.Typ.{Typ}
use Rattle.value_indices.specs.Steps.{Walk, give}
use Rattle.value_indices.specs.Walking.{Written, run}
use Rattle.value_indices.specs.declared.indices.Indices.{Indices}
use Rattle.value_indices.specs.declared.indices.Reading.{Reading}
use Rattle.value_indices.proofs.Walks.{run_bind, run_give}
use Rattle.pattern_leaves.specs.Settings.{Around}
use Rattle.call_notes.specs.Calls.{one_owed, parts_owed}
use Rattle.call_arguments.proofs.Lists.{rest_is, drop_none}

module _ (around : Around) (known : Option (List Reading)) (js : List Index) (qs : List Reading) where
  abbrev owed : List Place → List Typ → List Indices → Walk (Unit {0})
  owed ps ts is = parts_owed around ps known ts is js qs

  pub parts_more : (ps : List Place) (ts : List Typ) (is : List Indices) (k : ℕ) (p : Place) (t : Typ) (i : Indices) (w v : Written)
      → k < length ps → k < length ts → k < length is → p ≡ get_or ps k p → t ≡ get_or ts k t → i ≡ get_or is k i
      → v ≡ run (one_owed around p known t i js qs) w
      → run (owed (drop (k + 1) ps) (drop (k + 1) ts) (drop (k + 1) is)) v ≡ run (owed (drop k ps) (drop k ts) (drop k is)) w
  parts_more ps ts is k p t i w v below_ps below_ts below_is p_is t_is i_is walked =
      let rest = owed (drop (k + 1) ps) (drop (k + 1) ts) (drop (k + 1) is) in
      ap (run rest) walked
      ∙ sym (run_bind (one_owed around p known t i js qs) (λ x. rest) w)
      ∙ sym (λ j. run (owed (rest_is ps k p below_ps p_is j) (rest_is ts k t below_ts t_is j) (rest_is is k i below_is i_is j)) w)

  abbrev nothing : Walk (Unit {0})
  nothing = give tt

  no_place : (k : ℕ) (ts : List Typ) (is : List Indices) → owed (drop k []) ts is ≡ nothing
  no_place k ts is = λ i. owed (drop_none Place k i) ts is

  no_typ : (p : Place) (ps : List Place) (k : ℕ) (is : List Indices) → k ≡ 0 → owed (drop k (p ∷ ps)) (drop k []) is ≡ nothing
  no_typ p ps zero is h = refl
  no_typ p ps (suc k) is h = absurd (omega (arith, h))

  no_part : (p : Place) (ps : List Place) (t : Typ) (ts : List Typ) (k : ℕ) → k ≡ 0 → owed (drop k (p ∷ ps)) (drop k (t ∷ ts)) (drop k []) ≡ nothing
  no_part p ps t ts zero h = refl
  no_part p ps t ts (suc k) h = absurd (omega (arith, h))

  parts_ended : (ps : List Place) (ts : List Typ) (is : List Indices) (k : ℕ) → k ≡ min (length ps) (min (length ts) (length is))
      → owed (drop k ps) (drop k ts) (drop k is) ≡ nothing
  parts_ended [] ts is k h = no_place k (drop k ts) (drop k is)
  parts_ended (p ∷ ps) [] is k h = no_typ p ps k (drop k is) (omega (arith, h))
  parts_ended (p ∷ ps) (t ∷ ts) [] k h = no_part p ps t ts k (omega (arith, h))
  parts_ended (p ∷ ps) (t ∷ ts) (i ∷ is) zero h = absurd (omega (arith, h))
  parts_ended (p ∷ ps) (t ∷ ts) (i ∷ is) (suc k) h = parts_ended ps ts is k (omega (arith, h))

  pub parts_all : (ps : List Place) (ts : List Typ) (is : List Indices) (k : ℕ) (w : Written) → k ≡ min (length ps) (min (length ts) (length is))
      → run (owed (drop k ps) (drop k ts) (drop k is)) w ≡ w
  parts_all ps ts is k w end = ap (λ (a : Walk (Unit {0})). run a w) (parts_ended ps ts is k end) ∙ run_give tt w
