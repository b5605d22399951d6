-- A part of a type stands where its text does.
use Rattle.std.proofs.Common.{◌≡◌, refl, ap, ◌∙◌}
use Rattle.sail_syntax.specs.Places.{type_place, type_form_place}
use Rattle.sail_syntax.specs.declared.types.TyExp.{TyExp, TyExp-F, out-TyExp, fold_out-TyExp, map-TyExp}
use Rattle.sail_syntax.specs.declared.types.TyExp.TheOpen as X
use Rattle.sail_kinds.specs.Normal.{Part, part, form_part, form_place}

form_same : (form : TyExp-F TyExp) → form_place (map-TyExp TyExp Part part form) ≡ type_form_place form
form_same (X.Named name parts) = refl
form_same (X.Variable name) = refl
form_same (X.Number place n) = refl
form_same (X.Truth place b) = refl
form_same (X.Prefix place prefix t) = refl
form_same (X.Infix place operator t u) = refl
form_same (X.OneOf place t ns) = refl
form_same (X.Tuple place ts) = refl
form_same (X.Exists place names c t) = refl

pub place_is : (typ : TyExp) → (part typ).place ≡ type_place typ
place_is typ = ap (λ (p : Part). p.place) (fold_out-TyExp Part form_part typ) ∙ form_same (out-TyExp typ)
