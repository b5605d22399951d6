-- The types that every model has.
use Rattle.std.proofs.Common.{◌≡◌, ◌∙◌, sym, ap, []}
use Rattle.sail_types.specs.Sums.{constant}
use Rattle.row_types.specs.Formulas.{least, most}
use Rattle.sail_core.specs.Values.{int_typ}
use Rattle.sail_types.specs.declared.table.Types.{Types}
use Rattle.sail_types.specs.declared.types.Typ.TheFolds.{fold-roll-Typ}
use Rattle.sail_types.specs.declared.types.Typ.TheOpen as T
use Rattle.sail_types.specs.declared.types.Typ.TheVariants as Y
use Rattle.size_values.specs.declared.sized.Sized.TheVariants as S
use Rattle.size_values.specs.Sized.{UnderConstants, form_sized, typ_sized}
use Rattle.checked_meaning.specs.Items.{fixed_typ}

module _ (types : Types) where
  pub nothing_typ : fixed_typ types Y.Unit ≡ S.Unit
  nothing_typ =
      ap (λ t. typ_sized types [] t []) (sym Y.rolls-Unit) ∙ ap (λ (f : UnderConstants). f []) (fold-roll-Typ UnderConstants (form_sized types []) T.Unit)

  pub truth_typ : fixed_typ types Y.Bool ≡ S.Bool
  truth_typ =
      ap (λ t. typ_sized types [] t []) (sym Y.rolls-Bool) ∙ ap (λ (f : UnderConstants). f []) (fold-roll-Typ UnderConstants (form_sized types []) T.Bool)

  pub integer_typ : fixed_typ types int_typ ≡ S.Int
  integer_typ =
      ap (λ t. typ_sized types [] t []) (sym (Y.rolls-Range (constant least) (constant most)))
      ∙ ap (λ (f : UnderConstants). f []) (fold-roll-Typ UnderConstants (form_sized types []) (T.Range (constant least) (constant most)))

-- ---- as rules

pub ruleset fixed = (nothing_typ, truth_typ, integer_typ)
