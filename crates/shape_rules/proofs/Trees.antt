-- What is found of some forms of patterns, sides and expressions.
use Rattle.std.proofs.Common.{◌≡◌, ℕ, [], ◌∷◌, refl, sym, ap, ◌∙◌, Option, Some, None}
use Rattle.sail_base.specs.declared.place.Place.{Place}
use Rattle.sail_base.specs.declared.operators.Operator.{Operator}
use Rattle.sail_base.specs.declared.operators.Operator.TheVariants as O
use Rattle.sail_syntax.specs.declared.name.Literal.{Literal}
use Rattle.sail_syntax.specs.declared.name.Name.{Name}
use Rattle.sail_syntax.specs.declared.patterns.Pat.{Pat}
use Rattle.sail_syntax.specs.declared.patterns.Pat.TheFolds.{fold-roll-Pat}
use Rattle.sail_syntax.specs.declared.patterns.Pat.TheOpen as P
use Rattle.sail_syntax.specs.declared.patterns.Pat.TheVariants as V
use Rattle.sail_syntax.specs.declared.expressions.Exp.{Exp, fold-roll-Exp}
use Rattle.sail_syntax.specs.declared.expressions.Exp.TheOpen as E
use Rattle.sail_syntax.specs.declared.expressions.Exp.TheVariants as W
use Rattle.sail_types.specs.declared.shapes.Shape.{Shape}
use Rattle.shape_rules.specs.declared.callees.Meant.{Meant}
use Rattle.shape_rules.specs.declared.callees.Meant.TheVariants as M
use Rattle.shape_rules.specs.Scopes.{Setting, constant}
use Rattle.shape_rules.specs.Patterns.{Piece, Widths, form_piece, joined_piece, piece, name_look}
use Rattle.shape_rules.specs.Targets.{Part, TargetPart, SuffixPart, IndexPart}
use Rattle.shape_rules.specs.Values.{FieldPart}
use Rattle.shape_rules.specs.Statements.{StatementPart, CasePart, RangePart, FurtherPart}
use Rattle.shape_rules.specs.Expressions.{part, exp_form, target_form, statement_form, suffix_form, case_form, field_form, index_form, range_form, further_form}
use Rattle.shape_rules.specs.Sides.{FurtherSide, Gives, read_side, side_part, further_side, gives, gives_form, gives_joined}
use Rattle.shape_rules.specs.Sentences.{WildcardsTakeAll, NamesBind, SidesAreExpressions, TypesGiveWidths}

-- ---- patterns

wildcard : (place : Place) → piece (V.Wildcard place) ≡ form_piece (P.Wildcard place)
wildcard place = ap piece (sym (V.rolls-Wildcard place)) ∙ fold-roll-Pat Piece Piece form_piece joined_piece (P.Wildcard place)

pub wildcards_take_all : WildcardsTakeAll
wildcards_take_all place setting widths subject = (
  ap (λ (p : Piece). (p.look setting widths subject).binds) (wildcard place),
  ap (λ (p : Piece). (p.look setting widths subject).faults) (wildcard place),
)

bind : (name : Name) → piece (V.Bind name) ≡ form_piece (P.Bind name)
bind name = ap piece (sym (V.rolls-Bind name)) ∙ fold-roll-Pat Piece Piece form_piece joined_piece (P.Bind name)

name_binds : (name : Name) (meant : Option Meant) (setting : Setting) (widths : Widths) (subject : Shape)
    → ((i k : ℕ) → meant ≡ Some (M.Member i k) → ⊥)
    → ((name_look name meant setting widths subject).binds ≡ constant name.text subject ∷ [])
    × ((name_look name meant setting widths subject).faults ≡ [])
name_binds name None setting widths subject h = (refl, refl)
name_binds name (Some (M.Register r s)) setting widths subject h = (refl, refl)
name_binds name (Some (M.Let i s)) setting widths subject h = (refl, refl)
name_binds name (Some (M.Member i k)) setting widths subject h = absurd (h i k refl)
name_binds name (Some (M.Callee f)) setting widths subject h = (refl, refl)
name_binds name (Some (M.Row row)) setting widths subject h = (refl, refl)
name_binds name (Some (M.Mapping m)) setting widths subject h = (refl, refl)
name_binds name (Some (M.Overload fs)) setting widths subject h = (refl, refl)

pub names_bind : NamesBind
names_bind name setting widths subject h =
    let found = name_binds name (setting.value name.text) setting widths subject h in (
      ap (λ (p : Piece). (p.look setting widths subject).binds) (bind name) ∙ found.0,
      ap (λ (p : Piece). (p.look setting widths subject).faults) (bind name) ∙ found.1,
    )

-- ---- sides and expressions

side_name : (name : Name) → read_side (V.Bind name) ≡ side_part (P.Bind name)
side_name name = ap read_side (sym (V.rolls-Bind name)) ∙ fold-roll-Pat Part FurtherSide side_part further_side (P.Bind name)

side_constant : (place : Place) (literal : Literal) → read_side (V.Constant place literal) ≡ side_part (P.Constant place literal)
side_constant place literal =
    ap read_side (sym (V.rolls-Constant place literal)) ∙ fold-roll-Pat Part FurtherSide side_part further_side (P.Constant place literal)

side_cons : (place : Place) (head tail : Pat) → read_side (V.Cons place head tail) ≡ side_part (P.Cons place (read_side head) (read_side tail))
side_cons place head tail =
    ap read_side (sym (V.rolls-Cons place head tail)) ∙ fold-roll-Pat Part FurtherSide side_part further_side (P.Cons place head tail)

part_name : (name : Name) → part (W.Variable name) ≡ exp_form (E.Variable name)
part_name name =
    ap part (sym (W.rolls-Variable name))
    ∙ fold-roll-Exp Part TargetPart StatementPart SuffixPart CasePart FieldPart IndexPart RangePart FurtherPart
    exp_form target_form statement_form suffix_form case_form field_form index_form range_form further_form (E.Variable name)

part_constant : (place : Place) (literal : Literal) → part (W.Constant place literal) ≡ exp_form (E.Constant place literal)
part_constant place literal =
    ap part (sym (W.rolls-Constant place literal))
    ∙ fold-roll-Exp Part TargetPart StatementPart SuffixPart CasePart FieldPart IndexPart RangePart FurtherPart
    exp_form target_form statement_form suffix_form case_form field_form index_form range_form further_form (E.Constant place literal)

part_infix : (place : Place) (operator : Operator) (a b : Exp) → part (W.Infix place operator a b) ≡ exp_form (E.Infix place operator (part a) (part b))
part_infix place operator a b =
    ap part (sym (W.rolls-Infix place operator a b))
    ∙ fold-roll-Exp Part TargetPart StatementPart SuffixPart CasePart FieldPart IndexPart RangePart FurtherPart
    exp_form target_form statement_form suffix_form case_form field_form index_form range_form further_form (E.Infix place operator a b)

pub sides_are_expressions : SidesAreExpressions
sides_are_expressions = (
  (λ name. side_name name ∙ sym (part_name name)),
  (λ place literal. side_constant place literal ∙ sym (part_constant place literal)),
  (λ place head tail a b h k. side_cons place head tail ∙ (λ i. side_part (P.Cons place (h i) (k i))) ∙ sym (part_infix place O.Cons a b)),
)

pub types_give_widths : TypesGiveWidths
types_give_widths place side typ setting t =
    ap (λ (p : Pat). gives p setting t) (sym (V.rolls-Typed place side typ))
    ∙ ap (λ (f : Gives). f setting t) (fold-roll-Pat Gives Gives gives_form gives_joined (P.Typed place side typ))
