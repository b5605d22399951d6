-- An integer's number, and what is done with it.
use Rattle.std.proofs.Common.{◌≡◌, ◌∙◌, ap, sym, Option, Some, None}
use Rattle.sail_base.specs.declared.place.Place.{Place}
use Rattle.sail_types.specs.declared.numbers.Num.{Num}
use Rattle.value_indices.specs.Steps.{Walk, bind, give, wrong}
use Rattle.value_indices.specs.Walking.{Written, got, run}
use Rattle.value_indices.specs.declared.indices.Indices.{Indices, out-Indices}
use Rattle.value_indices.specs.declared.indices.Indices.TheOpen as W
use Rattle.value_indices.specs.declared.indices.Indices.TheOpen.{Indices-F}
use Rattle.value_indices.specs.declared.indices.Indices.TheVariants as I
use Rattle.value_indices.specs.declared.indices.Indices.TheViews.{out-roll-Indices}
use Rattle.value_indices.specs.declared.indices.Reading.{Reading}
use Rattle.value_indices.proofs.Walks.{got_bind, run_bind, got_give, run_give}
use Rattle.call_notes.specs.Ends.{with_form, with_integer, number_form, integer_number, then_integer, never_value}

-- ---- two walks, of which the first gives a number or none

known_got : (n : Num) (next : Num → Walk Indices) (w : Written)
    → got (next n) w ≡ got (then_integer next (got (give (Some n)) w)) (run (give (Some n)) w)
known_got n next w = sym (λ i. got (then_integer next (got_give (Some n) w i)) (run_give (Some n) w i))

known_run : (n : Num) (next : Num → Walk Indices) (w : Written)
    → run (next n) w ≡ run (then_integer next (got (give (Some n)) w)) (run (give (Some n)) w)
known_run n next w = sym (λ i. run (then_integer next (got_give (Some n) w i)) (run_give (Some n) w i))

abbrev nothing : Walk (Option Num)
nothing = give None

never_got : (next : Num → Walk Indices) (w : Written) → got never_value w ≡ got (then_integer next (got nothing w)) (run nothing w)
never_got next w = sym (λ i. got (then_integer next (got_give {A = Option Num} None w i)) (run_give {A = Option Num} None w i))

never_run : (next : Num → Walk Indices) (w : Written) → run never_value w ≡ run (then_integer next (got nothing w)) (run nothing w)
never_run next w = sym (λ i. run (then_integer next (got_give {A = Option Num} None w i)) (run_give {A = Option Num} None w i))

abbrev wrong_number : Place → Walk (Option Num)
wrong_number place = bind (wrong place) (λ t. give None)

abbrev wrong_here : Place → Walk Indices
wrong_here place = bind (wrong place) (λ t. give I.Never)

wrong_got : (place : Place) (next : Num → Walk Indices) (w : Written)
    → got (wrong_here place) w ≡ got (then_integer next (got (wrong_number place) w)) (run (wrong_number place) w)
wrong_got place next w =
    got_bind (wrong place) (λ t. give I.Never) w
    ∙ never_got next (run (wrong place) w)
    ∙ sym (λ i. got (then_integer next (got_bind (wrong place) (λ t. nothing) w i)) (run_bind (wrong place) (λ t. nothing) w i))

wrong_run : (place : Place) (next : Num → Walk Indices) (w : Written)
    → run (wrong_here place) w ≡ run (then_integer next (got (wrong_number place) w)) (run (wrong_number place) w)
wrong_run place next w =
    run_bind (wrong place) (λ t. give I.Never) w
    ∙ never_run next (run (wrong place) w)
    ∙ sym (λ i. run (then_integer next (got_bind (wrong place) (λ t. nothing) w i)) (run_bind (wrong place) (λ t. nothing) w i))

form_got : (place : Place) (i : Indices-F Indices Reading) (next : Num → Walk Indices) (w : Written)
    → got (with_form place i next) w ≡ got (then_integer next (got (number_form place i) w)) (run (number_form place i) w)
form_got place W.Never next w = never_got next w
form_got place W.Unit next w = wrong_got place next w
form_got place (W.Truth c) next w = wrong_got place next w
form_got place W.Bit next w = wrong_got place next w
form_got place (W.Bits t) next w = wrong_got place next w
form_got place (W.Integer n) next w = known_got n next w
form_got place W.String next w = wrong_got place next w
form_got place (W.List r) next w = wrong_got place next w
form_got place (W.Vector n r) next w = wrong_got place next w
form_got place (W.Tuple is) next w = wrong_got place next w
form_got place (W.Named u is rs) next w = wrong_got place next w
form_got place (W.Variable i) next w = wrong_got place next w

form_run : (place : Place) (i : Indices-F Indices Reading) (next : Num → Walk Indices) (w : Written)
    → run (with_form place i next) w ≡ run (then_integer next (got (number_form place i) w)) (run (number_form place i) w)
form_run place W.Never next w = never_run next w
form_run place W.Unit next w = wrong_run place next w
form_run place (W.Truth c) next w = wrong_run place next w
form_run place W.Bit next w = wrong_run place next w
form_run place (W.Bits t) next w = wrong_run place next w
form_run place (W.Integer n) next w = known_run n next w
form_run place W.String next w = wrong_run place next w
form_run place (W.List r) next w = wrong_run place next w
form_run place (W.Vector n r) next w = wrong_run place next w
form_run place (W.Tuple is) next w = wrong_run place next w
form_run place (W.Named u is rs) next w = wrong_run place next w
form_run place (W.Variable i) next w = wrong_run place next w

-- an integer's number, then what is done with it, is what is done with the number of an integer
pub got_integer : (place : Place) (i : Indices) (next : Num → Walk Indices) (w : Written)
    → got (with_integer place i next) w ≡ got (then_integer next (got (integer_number place i) w)) (run (integer_number place i) w)
got_integer place i next w = form_got place (out-Indices i) next w

pub run_integer : (place : Place) (i : Indices) (next : Num → Walk Indices) (w : Written)
    → run (with_integer place i next) w ≡ run (then_integer next (got (integer_number place i) w)) (run (integer_number place i) w)
run_integer place i next w = form_run place (out-Indices i) next w

-- the number of an integer itself
pub own_got : (place : Place) (i : Indices) (n m : Num) (w : Written) → i ≡ I.Integer n → m ≡ n → Some m ≡ got (integer_number place i) w
own_got place i n m w is same =
    let form : out-Indices i ≡ W.Integer n = ap out-Indices (is ∙ sym (I.rolls-Integer n)) ∙ out-roll-Indices (W.Integer n) in
    ap Some same ∙ sym (ap (λ f. got (number_form place f) w) form ∙ got_give (Some n) w)

pub ruleset integers = (got_integer, run_integer)
