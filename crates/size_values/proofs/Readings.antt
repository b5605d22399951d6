-- What a value of a type is, by the type and what its variables stand for.
use Rattle.std.proofs.Common.{◌≡◌, ◌∙◌, ℕ, List, ap, map, sym}
use Rattle.sail_types.specs.declared.numbers.Index.{Index}
use Rattle.sail_types.specs.declared.table.Types.{Types}
use Rattle.sail_types.specs.declared.types.Typ.{Typ}
use Rattle.value_indices.specs.declared.indices.Indices.TheFolds.{fold-roll-Reading}
use Rattle.value_indices.specs.declared.indices.Indices.TheOpen as W
use Rattle.value_indices.specs.declared.indices.Reading.{Reading}
use Rattle.value_indices.specs.declared.indices.Reading.TheVariants as R
use Rattle.size_values.specs.declared.constants.Constant.{Constant}
use Rattle.size_values.specs.declared.sized.Sized.{Sized}
use Rattle.size_values.specs.Numbers.{index_under}
use Rattle.size_values.specs.Sized.{form_reading_sized, indices_sized, reading_sized, typ_sized, types_or_own}

module _ (types : Types) (own : List Sized) (of : ℕ → Constant) where
  abbrev each : List Reading → List Sized
  each rs = map (reading_sized types own of) rs

  of_type : (t : Typ) (is : List Index) (rs : List Reading)
      → reading_sized types own of (R.Of t is rs) ≡ typ_sized types (types_or_own (each rs) own) t (map (index_under of) is)
  of_type t is rs =
      ap (reading_sized types own of) (sym (R.rolls-Of t is rs))
      ∙ fold-roll-Reading Sized Sized (indices_sized types own of) (form_reading_sized types own of) (W.Of t is rs)

  -- where the lists are lent
  pub typ_is : (reading : Reading) (t : Typ) (is js : List Index) (rs qs : List Reading) (cs ds : List Constant) (ss us : List Sized)
      → reading ≡ R.Of t is rs → js ≡ is → cs ≡ map (index_under of) js → qs ≡ rs → ss ≡ each qs → us ≡ ss → ds ≡ cs
      → typ_sized types (types_or_own us own) t ds ≡ reading_sized types own of reading
  typ_is reading t is js rs qs cs ds ss us whole lent numbers parts made slice constants =
      let first : us ≡ each rs = slice ∙ made ∙ ap each parts in
      let second : ds ≡ map (index_under of) is = constants ∙ numbers ∙ ap (map (index_under of)) lent in
      ap (λ (vs : List Sized). typ_sized types (types_or_own vs own) t ds) first
      ∙ ap (typ_sized types (types_or_own (each rs) own) t) second
      ∙ sym (of_type t is rs)
      ∙ sym (ap (reading_sized types own of) whole)
