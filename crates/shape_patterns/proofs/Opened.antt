-- The forms of a pattern, of what is found of their parts.
use Rattle.std.proofs.Common.{◌≡◌, ℤ, List, map, sym, ap, ◌∙◌}
use Rattle.sail_base.specs.declared.place.Place.{Place}
use Rattle.sail_syntax.specs.declared.name.Name.{Name}
use Rattle.sail_syntax.specs.declared.name.Literal.{Literal}
use Rattle.sail_syntax.specs.declared.types.TyExp.{TyExp}
use Rattle.sail_syntax.specs.declared.words.Brackets.{Brackets}
use Rattle.sail_syntax.specs.declared.patterns.Pat.{Pat}
use Rattle.sail_syntax.specs.declared.patterns.Joined.{Joined}
use Rattle.sail_syntax.specs.declared.patterns.Pat.TheOpen as P
use Rattle.sail_syntax.specs.declared.patterns.Pat.TheVariants as V
use Rattle.sail_syntax.specs.declared.patterns.Pat.TheFolds.{fold-roll-Pat}
use Rattle.shape_rules.specs.Patterns.{Piece, piece, form_piece, joined_piece}
use Rattle.shape_widths.specs.Parts.{further}

pub of_Wildcard : (place : Place) → piece (V.Wildcard place) ≡ form_piece (P.Wildcard place)
of_Wildcard place = ap piece (sym (V.rolls-Wildcard place)) ∙ fold-roll-Pat Piece Piece form_piece joined_piece (P.Wildcard place)

pub of_Constant : (place : Place) (literal : Literal) → piece (V.Constant place literal) ≡ form_piece (P.Constant place literal)
of_Constant place literal = ap piece (sym (V.rolls-Constant place literal)) ∙ fold-roll-Pat Piece Piece form_piece joined_piece (P.Constant place literal)

pub of_Negative : (place : Place) (n : ℤ) → piece (V.Negative place n) ≡ form_piece (P.Negative place n)
of_Negative place n = ap piece (sym (V.rolls-Negative place n)) ∙ fold-roll-Pat Piece Piece form_piece joined_piece (P.Negative place n)

pub of_Bind : (name : Name) → piece (V.Bind name) ≡ form_piece (P.Bind name)
of_Bind name = ap piece (sym (V.rolls-Bind name)) ∙ fold-roll-Pat Piece Piece form_piece joined_piece (P.Bind name)

pub of_Construct : (name : Name) (ps : List Pat) → piece (V.Construct name ps) ≡ form_piece (P.Construct name (map piece ps))
of_Construct name ps = ap piece (sym (V.rolls-Construct name ps)) ∙ fold-roll-Pat Piece Piece form_piece joined_piece (P.Construct name ps)

pub of_Group : (place : Place) (brackets : Brackets) (ps : List Pat) → piece (V.Group place brackets ps) ≡ form_piece (P.Group place brackets (map piece ps))
of_Group place brackets ps = ap piece (sym (V.rolls-Group place brackets ps)) ∙ fold-roll-Pat Piece Piece form_piece joined_piece (P.Group place brackets ps)

pub of_Concat : (place : Place) (p q : Pat) (more : List Joined) → piece (V.Concat place p q more)
    ≡ form_piece (P.Concat place (piece p) (piece q) (map further more))
of_Concat place p q more = ap piece (sym (V.rolls-Concat place p q more)) ∙ fold-roll-Pat Piece Piece form_piece joined_piece (P.Concat place p q more)

pub of_Cons : (place : Place) (p q : Pat) → piece (V.Cons place p q) ≡ form_piece (P.Cons place (piece p) (piece q))
of_Cons place p q = ap piece (sym (V.rolls-Cons place p q)) ∙ fold-roll-Pat Piece Piece form_piece joined_piece (P.Cons place p q)

pub of_As : (place : Place) (p : Pat) (name : Name) → piece (V.As place p name) ≡ form_piece (P.As place (piece p) name)
of_As place p name = ap piece (sym (V.rolls-As place p name)) ∙ fold-roll-Pat Piece Piece form_piece joined_piece (P.As place p name)

pub of_Typed : (place : Place) (p : Pat) (typ : TyExp) → piece (V.Typed place p typ) ≡ form_piece (P.Typed place (piece p) typ)
of_Typed place p typ = ap piece (sym (V.rolls-Typed place p typ)) ∙ fold-roll-Pat Piece Piece form_piece joined_piece (P.Typed place p typ)
