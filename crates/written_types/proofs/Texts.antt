-- A piece of a written type has the text that it is found of.
use Rattle.std.proofs.Common.{◌≡◌, List, [], ◌∷◌, map, refl, ap, ◌∙◌, subst, Some, None}
use Rattle.sail_syntax.specs.declared.types.TyExp.{TyExp, TyExp-F, roll-TyExp, fold-roll-TyExp, map-TyExp, ind-TyExp}
use Rattle.sail_syntax.specs.declared.types.TyExp.TheOpen as X
use Rattle.shape_rules.specs.Written.{Piece, piece, form_piece, form_text}

abbrev IsText : TyExp → Type 0
IsText t = (piece t).text ≡ t

abbrev Such : Type 0
Such = (t : TyExp) × IsText t

abbrev texts : List Such → List TyExp
texts ps = map (λ (p : Such). p.0) ps

abbrev form : TyExp-F Such → TyExp-F TyExp
form y = map-TyExp Such TyExp (λ p. p.0) y

each : (ps : List Such) → map (λ (p : Piece). p.text) (map piece (texts ps)) ≡ texts ps
each [] = refl
each (p ∷ ps) = λ i. p.1 i ∷ each ps i

again : (y : TyExp-F Such) → form_text (map-TyExp TyExp Piece piece (form y)) ≡ roll-TyExp (form y)
again (X.Named name ps) = ap (λ (ts : List TyExp). roll-TyExp (X.Named name ts)) (each ps)
again (X.Variable name) = refl
again (X.Number place n) = refl
again (X.Truth place b) = refl
again (X.Prefix place prefix p) = λ i. roll-TyExp (X.Prefix place prefix (p.1 i))
again (X.Infix place operator p q) = λ i. roll-TyExp (X.Infix place operator (p.1 i) (q.1 i))
again (X.OneOf place p choices) = λ i. roll-TyExp (X.OneOf place (p.1 i) choices)
again (X.Tuple place ps) = ap (λ (ts : List TyExp). roll-TyExp (X.Tuple place ts)) (each ps)
again (X.Exists place names None p) = λ i. roll-TyExp (X.Exists place names None (p.1 i))
again (X.Exists place names (Some c) p) = λ i. roll-TyExp (X.Exists place names (Some (c.1 i)) (p.1 i))

rolled : (y : TyExp-F Such) → IsText (roll-TyExp (form y))
rolled y = ap (λ (p : Piece). p.text) (fold-roll-TyExp Piece form_piece (form y)) ∙ again y

pub text_is : (t : TyExp) → (piece t).text ≡ t
text_is = ind-TyExp IsText (λ e y is. subst (λ d. IsText (roll-TyExp d)) is (rolled y))
