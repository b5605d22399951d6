-- The failures and the sizes of some forms of written types.
use Rattle.std.proofs.Common.{◌≡◌, ℕ, ◌<◌, cond, List, [], ◌∷◌, length, get_or, arith, map, ◌++◌, sym, ap, ◌∙◌, Option, Some, None, ℤ}
use Rattle.std.proofs.lemmas.List.{append_assoc}
use Rattle.std.specs.Prelude.{option_map}
use Rattle.sail_base.specs.declared.place.Place.{Place}
use Rattle.sail_syntax.specs.declared.name.Name.{Name}
use Rattle.sail_syntax.specs.declared.types.TyExp.{TyExp, fold-roll-TyExp}
use Rattle.sail_syntax.specs.declared.types.TyExp.TheOpen as X
use Rattle.sail_syntax.specs.declared.types.TyExp.TheVariants as V
use Rattle.sail_syntax.specs.Places.{type_place}
use Rattle.sail_syntax.specs.declared.words.TypePrefix.{TypePrefix}
use Rattle.sail_syntax.specs.declared.words.TypeOperator.{TypeOperator}
use Rattle.sail_kinds.specs.Scopes.{Within, inside_binder}
use Rattle.shape_rules.specs.declared.error.ShapeError.{ShapeError}
use Rattle.shape_rules.specs.Written.{Piece, piece, form_piece, form_text, form_numbers, typ_in, number_in, written_faults, numbers_in}
use Rattle.shape_rules.specs.Written.{is_alias, own_role, own_size, sizes_if, exponent, exponents_in, sized_if, side, side_of, joined, untold, is_told}
use Rattle.shape_rules.specs.Written.{pieces_numbers, piece_numbers_if}
use Rattle.written_types.specs.Parts.{untold_among}
use Rattle.written_types.proofs.BoundNames.{bound_alone}
use Rattle.written_types.proofs.Texts.{text_is}

-- ---- names

named : (name : Name) (ts : List TyExp) → piece (V.Named name ts) ≡ form_piece (X.Named name (map piece ts))
named name ts = ap piece (sym (V.rolls-Named name ts)) ∙ fold-roll-TyExp Piece form_piece (X.Named name ts)

named_text : (name : Name) (ts : List TyExp) → form_text (X.Named name (map piece ts)) ≡ V.Named name ts
named_text name ts = ap (λ (p : Piece). p.text) (sym (named name ts)) ∙ text_is (V.Named name ts)

pub named_numbers : (name : Name) (ts : List TyExp) (w : Within)
    → numbers_in w (V.Named name ts)
    ≡ cond (is_alias name.text w) (exponents_in (pieces_numbers (map piece ts) w) ++ sizes_if name.place (typ_in w (V.Named name ts)))
    (own_size name.text w (map piece ts) ++ pieces_numbers (map piece ts) w)
named_numbers name ts w =
    ap (λ (p : Piece). p.numbers w) (named name ts)
    ∙ ap (λ (text : TyExp). form_numbers text (X.Named name (map piece ts)) w) (named_text name ts)

-- ---- exponents and operators

prefixed : (place : Place) (prefix : TypePrefix) (t : TyExp) → piece (V.Prefix place prefix t) ≡ form_piece (X.Prefix place prefix (piece t))
prefixed place prefix t = ap piece (sym (V.rolls-Prefix place prefix t)) ∙ fold-roll-TyExp Piece form_piece (X.Prefix place prefix t)

pub prefix_numbers : (place : Place) (prefix : TypePrefix) (t : TyExp) (w : Within)
    → numbers_in w (V.Prefix place prefix t) ≡ exponent prefix place (number_in w t) ++ numbers_in w t
prefix_numbers place prefix t w =
    ap (λ (p : Piece). p.numbers w) (prefixed place prefix t)
    ∙ ap (λ (text : TyExp). exponent prefix place (number_in w text) ++ numbers_in w t) (text_is t)

pub infix_numbers : (place : Place) (operator : TypeOperator) (a b : TyExp) (w : Within)
    → numbers_in w (V.Infix place operator a b)
    ≡ (numbers_in w a ++ side_of operator (piece a) w) ++ (numbers_in w b ++ side_of operator (piece b) w)
infix_numbers place operator a b w =
    ap (λ (p : Piece). p.numbers w) (ap piece (sym (V.rolls-Infix place operator a b)) ∙ fold-roll-TyExp Piece form_piece (X.Infix place operator a b))
    ∙ append_assoc (numbers_in w a ++ side_of operator (piece a) w) (numbers_in w b) (side_of operator (piece b) w)

pub one_of_numbers : (place : Place) (t : TyExp) (choices : List ℤ) (w : Within)
    → numbers_in w (V.OneOf place t choices) ≡ numbers_in w t ++ side (piece t) w
one_of_numbers place t choices w =
    ap (λ (p : Piece). p.numbers w) (ap piece (sym (V.rolls-OneOf place t choices)) ∙ fold-roll-TyExp Piece form_piece (X.OneOf place t choices))

-- ---- existential types

exists : (place : Place) (names : List Name) (c : Option TyExp) (t : TyExp)
    → piece (V.Exists place names c t) ≡ form_piece (X.Exists place names (option_map piece c) (piece t))
exists place names None t = ap piece (sym (V.rolls-Exists place names None t)) ∙ fold-roll-TyExp Piece form_piece (X.Exists place names None t)
exists place names (Some c) t =
    ap piece (sym (V.rolls-Exists place names (Some c) t)) ∙ fold-roll-TyExp Piece form_piece (X.Exists place names (Some c) t)

pub exists_numbers : (place : Place) (names : List Name) (c : Option TyExp) (t : TyExp) (w : Within)
    → numbers_in w (V.Exists place names c t) ≡ piece_numbers_if (option_map piece c) (inside_binder names w) ++ numbers_in (inside_binder names w) t
exists_numbers place names c t w = ap (λ (p : Piece). p.numbers w) (exists place names c t)

pub exists_faults : (place : Place) (names : List Name) (c : Option TyExp) (t : TyExp) (w : Within)
    → written_faults w (V.Exists place names c t)
    ≡ untold_among names (typ_in (inside_binder names w) t) names ++ written_faults (inside_binder names w) t
exists_faults place names c t w =
    let v = inside_binder names w in
    ap (λ (p : Piece). p.faults w) (exists place names c t)
    ∙ ap (λ (text : TyExp). joined (map (λ name. untold name (is_told v (typ_in v text) name)) names) ++ written_faults v t) (text_is t)
    ∙ ap (λ (es : List ShapeError). es ++ written_faults v t) (bound_alone names w (typ_in v t))

-- ---- the size that the first argument is

pub own_size_at : (name : List ℕ) (w : Within) (ts : List TyExp) (d : TyExp) → 0 < length ts
    → own_size name w (map piece ts) ≡ sized_if (own_role name) (type_place (get_or ts 0 d)) (number_in w (get_or ts 0 d))
own_size_at name w [] d h = absurd (omega arith)
own_size_at name w (t ∷ ts) d h = ap (λ (text : TyExp). sized_if (own_role name) (type_place text) (number_in w text)) (text_is t)
