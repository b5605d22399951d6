-- What is assigned to, form by form, and one after the other.
use Rattle.std.proofs.Common.{◌≡◌, ◌∙◌, ◌<◌, ◌≤◌, ◌+◌, ap, sym, refl, Bool, ℕ, List, [], map, length, drop, get_or, Option}
use Rattle.std.specs.Prelude.{IfOk, Result, Ok, Err}
use Rattle.sail_base.specs.declared.place.Place.{Place}
use Rattle.sail_core.specs.declared.targets.Caller.{Caller}
use Rattle.sail_core.specs.declared.targets.Way.{Way}
use Rattle.value_indices.specs.Steps.{give}
use Rattle.value_indices.specs.declared.indices.Indices.{Indices, out-Indices, roll-Indices}
use Rattle.value_indices.specs.declared.indices.Indices.TheOpen as W
use Rattle.value_indices.specs.declared.indices.Indices.TheOpen.{Indices-F}
use Rattle.value_indices.specs.declared.indices.Indices.TheVariants as I
use Rattle.value_indices.specs.declared.indices.Indices.TheViews.{roll-out-Indices}
use Rattle.value_indices.specs.declared.indices.Reading.{Reading}
use Rattle.pattern_leaves.specs.Settings.{Around}
use Rattle.pattern_leaves.proofs.Opened.{out_tuple}
use Rattle.pattern_leaves.proofs.Walked.{consed}
use Rattle.expression_forms.specs.Spots.{Spot, Wrote, call_spot, each_read, each_written, late_spot, named_spot, parts_nested, reached_spot}
use Rattle.expression_forms.specs.Spots.{spot_form, spot_of, tuple_spot, tuple_write, wrong_spot, wrong_write, wrote_of}
use Rattle.expression_forms.specs.declared.pending.Wrote as written
use Rattle.expression_forms.specs.declared.spots.Known.{Known}
use Rattle.expression_forms.specs.declared.spots.Spot as code
use Rattle.expression_forms.specs.declared.spots.Spot.TheOpen as S
use Rattle.expression_forms.specs.declared.spots.Spot.TheVariants as V
use Rattle.expression_forms.specs.declared.ways.Reached.{Reached}
use Rattle.expression_forms.proofs.Rests.{all_behind, rest_is}

pub wrong_is : (around : Around) (s : code.Spot) (place : Place) → s ≡ V.Wrong place → spot_of around s ≡ wrong_spot place
wrong_is around s place is = ap (spot_of around) (is ∙ sym (V.rolls-Wrong place)) ∙ code.fold-roll-Spot Spot (spot_form around) (S.Wrong place)

pub named_is : (around : Around) (s : code.Spot) (place : Place) (k : ℕ) (name : List ℕ) (r : Reading) → s ≡ V.Named place k name r
    → spot_of around s ≡ named_spot around place k name r
named_is around s place k name r is =
    ap (spot_of around) (is ∙ sym (V.rolls-Named place k name r)) ∙ code.fold-roll-Spot Spot (spot_form around) (S.Named place k name r)

pub part_is : (around : Around) (s : code.Spot) (place : Place) (k : ℕ) (way : Way) (base : code.Spot) (held : Indices) (x : Reached)
    → s ≡ V.Part place k way base held x → spot_of around s ≡ reached_spot around place k way (spot_of around base) held x
part_is around s place k way base held x is =
    ap (spot_of around) (is ∙ sym (V.rolls-Part place k way base held x))
    ∙ code.fold-roll-Spot Spot (spot_form around) (S.Part place k way base held x)

pub call_is : (around : Around) (s : code.Spot) (place : Place) (k : ℕ) (reader : Option Caller) (writer : Caller) (bs cs : List Bool)
    (is js : List Indices) → s ≡ V.Call place k reader writer bs is → cs ≡ bs → js ≡ is
    → spot_of around s ≡ call_spot around place k reader writer cs js
call_is around s place k reader writer bs cs is js at same like =
    ap (spot_of around) (at ∙ sym (V.rolls-Call place k reader writer bs is))
    ∙ code.fold-roll-Spot Spot (spot_form around) (S.Call place k reader writer bs is)
    ∙ (λ j. call_spot around place k reader writer (sym same j) (sym like j))

pub late_is : (around : Around) (s : code.Spot) (place : Place) (k : ℕ) (base : code.Spot) (held : Indices) (x : Reached) (known : Known)
    → s ≡ V.Late place k base held x known → spot_of around s ≡ late_spot around place k (spot_of around base) held x known
late_is around s place k base held x known is =
    ap (spot_of around) (is ∙ sym (V.rolls-Late place k base held x known))
    ∙ code.fold-roll-Spot Spot (spot_form around) (S.Late place k base held x known)

pub tuple_is : (around : Around) (s : code.Spot) (place : Place) (k : ℕ) (ss ts : List code.Spot) → s ≡ V.Tuple place k ss → ts ≡ ss
    → spot_of around s ≡ tuple_spot place k (map (spot_of around) ts)
tuple_is around s place k ss ts is same =
    ap (spot_of around) (is ∙ sym (V.rolls-Tuple place k ss)) ∙ code.fold-roll-Spot Spot (spot_form around) (S.Tuple place k ss)
    ∙ (λ j. tuple_spot place k (map (spot_of around) (sym same j)))

-- ---- several, read in order

pub read_more : (around : Around) (ss : List code.Spot) (k : ℕ) (s : code.Spot) → k < length ss → s ≡ get_or ss k s
    → each_read (map (spot_of around) (drop k ss)) ≡ consed ((spot_of around s).read) (each_read (map (spot_of around) (drop (k + 1) ss)))
read_more around ss k s within is = (λ j. each_read (map (spot_of around) (rest_is ss k s within is j)))

pub read_end : (around : Around) (ss : List code.Spot) (k : ℕ) → length ss ≤ k → each_read (map (spot_of around) (drop k ss)) ≡ give []
read_end around ss k past = (λ j. each_read (map (spot_of around) (all_behind ss k past j)))

-- ---- what isn't written

other_form : (place : Place) (ss : List Spot) (b : Bool) (i : Indices) (f : Indices-F Indices Reading) → i ≡ roll-Indices f
    → ((is : List Indices) → i ≡ I.Tuple is → ⊥) → (i ≡ I.Never → ⊥) → tuple_write place ss b f ≡ wrong_write place
other_form place ss b i (W.Tuple is) at some never = absurd (some is (at ∙ I.rolls-Tuple is))
other_form place ss b i W.Never at some never = absurd (never (at ∙ I.rolls-Never))
other_form place ss b i f at some never = refl

-- a value that is no tuple
pub no_tuple : (place : Place) (ss : List Spot) (b : Bool) (i : Indices) → ((is : List Indices) → i ≡ I.Tuple is → ⊥) → (i ≡ I.Never → ⊥)
    → tuple_write place ss b (out-Indices i) ≡ wrong_write place
no_tuple place ss b i some never = other_form place ss b i (out-Indices i) (sym (roll-out-Indices i)) some never

-- a tuple is written part by part
pub tuple_written : (place : Place) (ss : List Spot) (b nested : Bool) → nested ≡ parts_nested ss b → (i : Indices) (is js : List Indices) → i ≡ I.Tuple is
    → js ≡ is → each_written place ss nested js ≡ tuple_write place ss b (out-Indices i)
tuple_written place ss b nested within i is js at same =
    (λ j. each_written place ss (within j) (same j)) ∙ ap (tuple_write place ss b) (sym (out_tuple i is at))

-- ---- what a call gives, where it gives the same wherever it stands

pub wrote_in : {E : Type 0} (r : Result written.Wrote E) (around : Around) (x : Around → Wrote) (y : Wrote)
    → IfOk r (λ made. (a : Around) → wrote_of a made ≡ x a) → x around ≡ y → IfOk r (λ made. wrote_of around made ≡ y)
wrote_in (Ok made) around x y h is = h around ∙ is
wrote_in (Err e) around x y h is = tt

pub wrote_as : {E : Type 0} (r : Result written.Wrote E) (around : Around) (x y : Wrote) → IfOk r (λ made. wrote_of around made ≡ x) → x ≡ y
    → IfOk r (λ made. wrote_of around made ≡ y)
wrote_as (Ok made) around x y h is = h ∙ is
wrote_as (Err e) around x y h is = tt
