-- Widths of parts of words: the core and the source know the same ones.
use Rattle.std.proofs.Common.{◌≡◌, ap, sym, ◌∙◌, refl, Bool, true, false, Option, Some, None, is_some}
use Rattle.std.specs.Option.{option_or}
use Rattle.sail_types.specs.Shapes.{shape, form_shape, shares, form_shares}
use Rattle.sail_types.specs.declared.numbers.Num.{Num}
use Rattle.sail_types.specs.declared.shapes.Shape.{Shape, out-Shape}
use Rattle.sail_types.specs.declared.shapes.Shape.TheFolds.{fold-roll-Shape}
use Rattle.sail_types.specs.declared.shapes.Shape.TheOpen as S
use Rattle.sail_types.specs.declared.shapes.Shape.TheVariants as V
use Rattle.sail_types.specs.declared.shapes.Shape.TheViews.{out-roll-Shape}
use Rattle.sail_types.specs.declared.types.Typ.{Typ, Typ-F, out-Typ, roll-Typ}
use Rattle.sail_types.specs.declared.types.Typ.TheFolds.{fold-roll-Typ}
use Rattle.sail_types.specs.declared.types.Typ.TheViews.{roll-out-Typ}
use Rattle.sail_types.specs.declared.types.Typ.TheOpen as T
use Rattle.shape_joins.specs.Joins.{join}
use Rattle.shape_joins.proofs.Order.{no}
use Rattle.shape_joins.proofs.JoinsLeast.{joins_are_above, none}
use Rattle.sail_meaning.specs.World as Source
use Rattle.shape_rules.specs.Patterns.{width_form, width_of}
use Rattle.shape_meanings.specs.Whole.{closed}
use Rattle.shape_meanings.proofs.Orders.{exact}
use Rattle.shape_meanings.proofs.Updates.{bits_exact}

-- ---- types of bits

same_form : (form : Typ-F Typ) → Source.form_width form ≡ width_form form
same_form (T.Bits n) = refl
same_form form = refl

pub same_width : (t : Typ) → Source.width_of t ≡ width_of t
same_width t = same_form (out-Typ t)

-- a type that has a width has the shape of bits
bits_form : (t : Typ) (form : Typ-F Typ) (n : Num) → out-Typ t ≡ form → width_form form ≡ Some n → shape t ≡ V.Bits
bits_form t (T.Bits m) n is h = ap shape (sym (roll-out-Typ t) ∙ ap roll-Typ is) ∙ fold-roll-Typ Shape form_shape (T.Bits m)
bits_form t form n is h = none h

has_width : (t : Typ) (o : Option Num) → width_of t ≡ o → is_some o ≡ true → shape t ≡ V.Bits
has_width t None is h = no h
has_width t (Some n) is h = bits_form t (out-Typ t) n refl is

-- ---- a mapping's side that is bits

-- of a closed shape that is joined with bits
joined_bits : (s : Shape) → closed s ≡ true → is_some (join s V.Bits) ≡ true → s ≡ V.Bits
joined_bits s whole h = by_join (join s V.Bits) refl h
  where
    by_join : (o : Option Shape) → join s V.Bits ≡ o → is_some o ≡ true → s ≡ V.Bits
    by_join None is h = no h
    by_join (Some t) is h =
        let above = joins_are_above s V.Bits t is in
        sym (exact s t 0 above.0 whole) ∙ bits_exact t above.1

bits_share : shares V.Bits V.Bits ≡ true
bits_share =
    ap (λ s. shares s V.Bits) (sym V.rolls-Bits)
    ∙ ap (λ f. f V.Bits) (fold-roll-Shape (Shape → Bool) (λ f s. form_shares f (out-Shape s)) S.Bits)
    ∙ ap (form_shares S.Bits) (ap out-Shape (sym V.rolls-Bits) ∙ out-roll-Shape S.Bits)

not_both_bits : {A : Type 0} (left right : Typ) → shape left ≡ V.Bits → shape right ≡ V.Bits → shares (shape left) (shape right) ≡ false → A
not_both_bits left right l r apart = no (sym (sym bits_share ∙ ap (λ s. shares s V.Bits) (sym l) ∙ ap (shares (shape left)) (sym r) ∙ apart))

-- the first width that is there, of two
abbrev pub first_width : Typ → Typ → Option Num
first_width left right = option_or (Source.width_of left) (option_or (Source.width_of right) None)

left_width : (left right : Typ) (o p : Option Num) → width_of left ≡ o → width_of right ≡ p → shape left ≡ V.Bits → shares (shape left) (shape right) ≡ false
    → option_or o (option_or p None) ≡ o
left_width left right (Some n) p is isp bits apart = refl
left_width left right None None is isp bits apart = refl
left_width left right None (Some n) is isp bits apart = not_both_bits left right bits (has_width right (Some n) isp refl) apart

right_width : (left right : Typ) (o p : Option Num) → width_of left ≡ o → width_of right ≡ p → shape right ≡ V.Bits → shares (shape left) (shape right) ≡ false
    → option_or o (option_or p None) ≡ p
right_width left right None None is isp bits apart = refl
right_width left right None (Some n) is isp bits apart = refl
right_width left right (Some n) p is isp bits apart = not_both_bits left right (has_width left (Some n) is refl) bits apart

first_same : (left right : Typ) → first_width left right ≡ option_or (width_of left) (option_or (width_of right) None)
first_same left right = λ i. option_or (same_width left i) (option_or (same_width right i) None)

pub width_ahead : (left right : Typ) → closed (shape left) ≡ true → shares (shape left) (shape right) ≡ false → is_some (join (shape left) V.Bits) ≡ true
    → first_width left right ≡ width_of left
width_ahead left right whole apart joined =
    first_same left right ∙ left_width left right (width_of left) (width_of right) refl refl (joined_bits (shape left) whole joined) apart

pub width_back : (left right : Typ) → closed (shape right) ≡ true → shares (shape left) (shape right) ≡ false → is_some (join (shape right) V.Bits) ≡ true
    → first_width left right ≡ width_of right
width_back left right whole apart joined =
    first_same left right ∙ right_width left right (width_of left) (width_of right) refl refl (joined_bits (shape right) whole joined) apart
