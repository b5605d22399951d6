-- What is read as a number counts variables on, and leaves what is in force.
use Rattle.std.proofs.Common.{false, [], ◌∷◌, Option, Some, None}
use Rattle.sail_base.specs.declared.place.Place.{Place}
use Rattle.sail_types.specs.declared.numbers.Con.TheVariants as C
use Rattle.sail_types.specs.declared.numbers.Num.{Num}
use Rattle.value_indices.specs.Steps.{bind, give, wrong}
use Rattle.value_indices.specs.declared.indices.Indices.{Indices}
use Rattle.value_indices.specs.declared.indices.Indices.TheOpen as W
use Rattle.value_indices.specs.declared.indices.Indices.TheOpen.{Indices-F}
use Rattle.value_indices.specs.declared.indices.Reading.{Reading}
use Rattle.call_notes.specs.Ends.{number_form}
use Rattle.soundness_steps.specs.Steps.{Grows}
use Rattle.soundness_forms.proofs.Growth.{grows_bind, grows_give, grows_owe}

wrong_grows : (place : Place) → Grows (bind (wrong place) (λ t. give {A = Option Num} None))
wrong_grows place = grows_bind (wrong place) (λ t. give None) (grows_owe place (Some (C.Truth false) ∷ [])) (λ t. grows_give None)

pub number_grows : (place : Place) (x : Indices-F Indices Reading) → Grows (number_form place x)
number_grows place (W.Integer t) = grows_give (Some t)
number_grows place W.Never = grows_give None
number_grows place W.Unit = wrong_grows place
number_grows place W.Bit = wrong_grows place
number_grows place (W.Bits t) = wrong_grows place
number_grows place (W.Truth c) = wrong_grows place
number_grows place W.String = wrong_grows place
number_grows place (W.List r) = wrong_grows place
number_grows place (W.Vector t r) = wrong_grows place
number_grows place (W.Tuple is) = wrong_grows place
number_grows place (W.Named u is rs) = wrong_grows place
number_grows place (W.Variable k) = wrong_grows place
