-- Values by their forms: truths, values that never end, and fields.
use Rattle.std.proofs.Common.{◌≡◌, ◌∙◌, ◌+◌, ◌-◌, ◌<◌, ap, sym, refl, arith, zero, suc, length, Bool, true, false, if◌then◌else◌, ℕ, List, [], ◌∷◌, ◌++◌, Some, None, slice_get, append-nil}
use Rattle.sail_base.specs.declared.place.Place.{Place}
use Rattle.sail_types.specs.declared.numbers.Con.{Con}
use Rattle.sail_types.specs.declared.table.Field.{Field}
use Rattle.sail_types.specs.declared.types.Typ.{Typ}
use Rattle.value_indices.specs.Walking.{Written, got, run}
use Rattle.value_indices.specs.declared.indices.Indices.{Indices, out-Indices}
use Rattle.value_indices.specs.declared.indices.Indices.TheOpen as W
use Rattle.value_indices.specs.declared.indices.Indices.TheVariants as I
use Rattle.value_indices.specs.declared.indices.Indices.TheViews.{out-roll-Indices}
use Rattle.value_indices.specs.declared.indices.Reading.TheVariants as R
use Rattle.value_indices.proofs.Walks.{got_give, run_give}
use Rattle.call_notes.specs.Ends.{is_never, never_value, wrong_value}
use Rattle.expression_forms.specs.Spots.{closed_type, last_type}
use Rattle.expression_forms.specs.Truths.{right_form, truth_form, truth_of}
use Rattle.expression_forms.specs.Ways.{field_typ, if_never_value, one_typ}

-- ---- truths

truth_is : (i : Indices) (c : Con) → i ≡ I.Truth c → out-Indices i ≡ W.Truth c
truth_is i c is = ap out-Indices (is ∙ sym (I.rolls-Truth c)) ∙ out-roll-Indices (W.Truth c)

pub own_truth : (place : Place) (i : Indices) (c d : Con) (w : Written) → i ≡ I.Truth c → d ≡ c → Some d ≡ got (truth_of place i) w
own_truth place i c d w is same =
    ap Some same ∙ sym (ap (λ f. got (truth_form place f) w) (truth_is i c is) ∙ got_give (Some c) w)

pub right_truth : (place : Place) (join : Con → Con → Con) (alone c d m : Con) (j : Indices) (w : Written) → j ≡ I.Truth d → m ≡ join c d
    → I.Truth m ≡ got (right_form place join alone c (out-Indices j)) w
right_truth place join alone c d m j w is same =
    ap I.Truth same ∙ sym (ap (λ f. got (right_form place join alone c f) w) (truth_is j d is) ∙ got_give (I.Truth (join c d)) w)

-- ---- what never ends normally

never_if : (place : Place) (b : Bool) (w : Written) → b ≡ true → I.Never ≡ got (if b then never_value else wrong_value place) w
never_if place true w is = sym (got_give I.Never w)
never_if place false w is = absurd (cc)

never_run_if : (place : Place) (b : Bool) (w : Written) → b ≡ true → w ≡ run (if b then never_value else wrong_value place) w
never_run_if place true w is = sym (run_give {A = Indices} I.Never w)
never_run_if place false w is = absurd (cc)

pub never_got : (place : Place) (i : Indices) (w : Written) → is_never i ≡ true → I.Never ≡ got (if_never_value place i) w
never_got place i w is = never_if place (is_never i) w is

pub never_run : (place : Place) (i : Indices) (w : Written) → is_never i ≡ true → w ≡ run (if_never_value place i) w
never_run place i w is = never_run_if place (is_never i) w is

-- ---- fields

pub no_field : (k : ℕ) (fs : List Field) (ts : List Typ) → slice_get fs k ≡ None → ts ≡ ts ++ field_typ k fs
no_field k fs ts none = sym (append-nil ts) ∙ ap (λ o. ts ++ one_typ o) (sym none)

pub one_field : (k : ℕ) (fs : List Field) (f : Field) (t : Typ) → slice_get fs k ≡ Some f → t ≡ f.typ → t ∷ [] ≡ field_typ k fs
one_field k fs f t some is = ap (λ u. u ∷ []) is ∙ ap one_typ (sym some)

-- ---- the last of some types

none_within : {A : Type 0} (xs : List A) (k : ℕ) → k < length xs → slice_get xs k ≡ None → ⊥
none_within [] k within is = absurd (omega arith)
none_within (x ∷ xs) zero within is = absurd (cc)
none_within (x ∷ xs) (suc k) within is = none_within xs k (omega arith) is

last_at : (ts : List Typ) (k : ℕ) (t : Typ) → k + 1 ≡ length ts → slice_get ts k ≡ Some t → last_type ts ≡ closed_type t
last_at [] k t count is = absurd (omega (arith, count))
last_at (u ∷ []) zero t count is = let same : u ≡ t = cc in ap closed_type same
last_at (u ∷ []) (suc k) t count is = absurd (omega (arith, count))
last_at (u ∷ v ∷ ts) zero t count is = absurd (omega (arith, count))
last_at (u ∷ v ∷ ts) (suc k) t count is = last_at (v ∷ ts) k t (omega (arith, count)) is

pub last_some : (ts : List Typ) (t : Typ) → slice_get ts (length ts - 1) ≡ Some t → last_type ts ≡ closed_type t
last_some [] t is = absurd (cc)
last_some (u ∷ ts) t is = last_at (u ∷ ts) (length (u ∷ ts) - 1) t (omega arith) is

pub last_none : (ts : List Typ) → slice_get ts (length ts - 1) ≡ None → last_type ts ≡ R.Hole
last_none [] is = refl
last_none (u ∷ ts) is = absurd (none_within (u ∷ ts) (length (u ∷ ts) - 1) (omega arith) is)
