-- Forms of patterns: `_`, literals, names, `as`, types at patterns, tuples, vectors, lists, and `p :: q`.
use Rattle.std.proofs.Common.{◌≡◌, ℕ, ℤ, pos, ◌-ℤ◌, zero, suc, List, [], ◌∷◌, ◌++◌, length, replicate, ap, sym, refl, subst, true, Option, Some}
use Rattle.sail_base.specs.declared.place.Place.{Place}
use Rattle.sail_syntax.specs.declared.name.Literal.{Literal}
use Rattle.sail_syntax.specs.declared.name.Literal.TheVariants as N
use Rattle.sail_syntax.specs.declared.name.Name.{Name}
use Rattle.sail_syntax.specs.declared.types.TyExp.{TyExp}
use Rattle.sail_syntax.specs.declared.words.Brackets.TheVariants as B
use Rattle.sail_types.specs.declared.shapes.Shape.{Shape, out-Shape}
use Rattle.sail_types.specs.declared.shapes.Shape.TheOpen as S
use Rattle.sail_types.specs.declared.shapes.Shape.TheVariants as V
use Rattle.sail_types.specs.declared.table.Types.{Types}
use Rattle.sail_types.specs.declared.values.Value.{Value}
use Rattle.sail_core.specs.declared.patterns.Form.TheVariants as F
use Rattle.sail_core.specs.declared.patterns.Head.TheVariants as H
use Rattle.sail_core.specs.declared.patterns.Literal.{Literal as CoreLiteral}
use Rattle.sail_core.specs.declared.patterns.Literal.TheVariants as L
use Rattle.sail_core.specs.declared.written.Written.{Written}
use Rattle.sail_core.specs.Making.{World}
use Rattle.shape_joins.proofs.Order.{fills_itself}
use Rattle.shape_rules.specs.declared.callees.Meant.{Meant}
use Rattle.shape_rules.specs.declared.callees.Meant.TheVariants as M
use Rattle.shape_rules.specs.Patterns.{Looked, Piece, Widths, as_look, as_one, cons_look, core_literal, each_looked, group_look, is_found, list_item}
use Rattle.shape_rules.specs.Patterns.{literal_shape, looked, name_look, opened, pattern, seen_as, shape_faults, tuple_parts, typed_form, typed_look}
use Rattle.shape_rules.specs.Patterns.{vector_item}
use Rattle.shape_rules.specs.Scopes.{constant}
use Rattle.shape_rules.specs.Written.{shape_in, written, written_faults}
use Rattle.shape_meanings.specs.Keeping.{Reach, reach_of}
use Rattle.shape_meanings.specs.Whole.{Choice, below}
use Rattle.shape_meanings.proofs.Leaving.{named_below}
use Rattle.shape_meanings.proofs.Matching.{leaf_below}
use Rattle.shape_meanings.proofs.Opening.{replicated}
use Rattle.shape_progress.specs.PatternRules.{IsOf, PatternBinds}
use Rattle.shape_stands.specs.Inside.{Inside, Position}
use Rattle.shape_stands.specs.Stands.{LooksShaped, PieceStands, PiecesStand}
use Rattle.shape_stands.proofs.Standing.{both_empty}
use Rattle.pattern_stands.proofs.Binding.{form_binds, opens}
use Rattle.pattern_stands.proofs.Seen.{comes_as, list_seen, out_of, seen, tuple_of, tuple_seen, vector_seen}

pub any_stands : (here : Position) (widths : Widths) (subject : Shape) (place : Place) → LooksShaped here widths subject (looked place F.Any)
any_stands here widths subject place registers c w inside given slots =
    (suc zero, form_binds zero (reach_of here.setting registers c slots) w subject subject [] place F.Any [] (fills_itself subject) refl)

-- ---- one value

-- a value of a shape of its own, which leaves nothing open
is_stands : (here : Position) (widths : Widths) (subject own : Shape) (place : Place) (literal : CoreLiteral) (n : ℕ) → below n own ≡ true
    → ((registers : List Shape) (c : Choice) (w : World Value) → Inside here registers c w → IsOf here.setting.types literal (out-Shape own))
    → (is_found place own literal here.setting widths subject).faults ≡ []
    → LooksShaped here widths subject (is_found place own literal here.setting widths subject)
is_stands here widths subject own place literal n whole of e registers c w inside given slots =
    let reach : Reach = reach_of here.setting registers c slots in (
      suc zero,
      form_binds zero reach w subject own [] place (F.Opens (H.Is literal)) [] (comes_as place subject own n whole e)
          ([], (of registers c w inside, refl), refl),
    )

literal_below : (literal : Literal) → below 0 (literal_shape literal) ≡ true
literal_below (N.Number k) = leaf_below 0 S.Int V.Int V.rolls-Int refl
literal_below (N.Bits bs) = leaf_below 0 S.Bits V.Bits V.rolls-Bits refl
literal_below (N.String s) = leaf_below 0 S.String V.String V.rolls-String refl
literal_below (N.Bool b) = leaf_below 0 S.Bool V.Bool V.rolls-Bool refl
literal_below (N.Bit b) = leaf_below 0 S.Bit V.Bit V.rolls-Bit refl

literal_of : (types : Types) (literal : Literal) → IsOf types (core_literal literal) (out-Shape (literal_shape literal))
literal_of types (N.Number k) = out_of S.Int V.Int V.rolls-Int
literal_of types (N.Bits bs) = out_of S.Bits V.Bits V.rolls-Bits
literal_of types (N.String s) = out_of S.String V.String V.rolls-String
literal_of types (N.Bool b) = out_of S.Bool V.Bool V.rolls-Bool
literal_of types (N.Bit b) = out_of S.Bit V.Bit V.rolls-Bit

pub literal_stands : (here : Position) (widths : Widths) (subject : Shape) (place : Place) (literal : Literal)
    → (is_found place (literal_shape literal) (core_literal literal) here.setting widths subject).faults ≡ []
    → LooksShaped here widths subject (is_found place (literal_shape literal) (core_literal literal) here.setting widths subject)
literal_stands here widths subject place literal e =
    is_stands here widths subject (literal_shape literal) place (core_literal literal) 0 (literal_below literal)
    (λ registers c w inside. literal_of here.setting.types literal) e

pub negative_stands : (here : Position) (widths : Widths) (subject : Shape) (place : Place) (n : ℤ)
    → (is_found place V.Int (L.Integer (pos 0 -ℤ n)) here.setting widths subject).faults ≡ []
    → LooksShaped here widths subject (is_found place V.Int (L.Integer (pos 0 -ℤ n)) here.setting widths subject)
negative_stands here widths subject place n e =
    is_stands here widths subject V.Int place (L.Integer (pos 0 -ℤ n)) 0 (leaf_below 0 S.Int V.Int V.rolls-Int refl)
    (λ registers c w inside. out_of S.Int V.Int V.rolls-Int) e

-- `()`
pub unit_stands : (here : Position) (widths : Widths) (subject : Shape) (place : Place)
    → (is_found place V.Unit L.Unit here.setting widths subject).faults ≡ []
    → LooksShaped here widths subject (is_found place V.Unit L.Unit here.setting widths subject)
unit_stands here widths subject place e =
    is_stands here widths subject V.Unit place L.Unit 0 (leaf_below 0 S.Unit V.Unit V.rolls-Unit refl)
    (λ registers c w inside. out_of S.Unit V.Unit V.rolls-Unit) e

-- ---- names: a member where an enum has the name, else it binds

pub name_stands : (here : Position) (widths : Widths) (subject : Shape) (name : Name) (meant : Option Meant) → here.setting.value name.text ≡ meant
    → (name_look name meant here.setting widths subject).faults ≡ []
    → LooksShaped here widths subject (name_look name meant here.setting widths subject)
name_stands here widths subject name (Some (M.Member i k)) is e =
    is_stands here widths subject (V.Named i []) name.place (L.Member i k) 0 (named_below 0 i)
    (λ registers c w inside. ((inside.members name.text i k is).0, ([], out_of (S.Named i []) (V.Named i []) (V.rolls-Named i [])))) e
name_stands here widths subject name meant is e = λ registers c w inside given slots. (
  suc zero,
  form_binds zero (reach_of here.setting registers c slots) w subject subject (constant name.text subject ∷ []) name.place (F.Binds name.text) []
      (fills_itself subject) refl,
)

pub as_stands : (here : Position) (widths : Widths) (subject : Shape) (place : Place) (p : Piece) (name : Name) → PieceStands here widths p
    → (as_look place p name here.setting widths subject).faults ≡ []
    → LooksShaped here widths subject (as_look place p name here.setting widths subject)
as_stands here widths subject place p name stand e registers c w inside given slots =
    let reach : Reach = reach_of here.setting registers c slots in
    let all : Looked = as_look place p name here.setting widths subject in
    let part : Looked = p.look here.setting widths subject in
    let inner = stand subject e registers c w inside given slots in (
      suc inner.0,
      form_binds inner.0 reach w subject subject all.binds place (F.As name.text) (part.pattern ∷ []) (fills_itself subject) (part.binds, inner.1, refl),
    )

-- ---- `p : T`

pub typed_stands : (here : Position) (widths : Widths) (subject : Shape) (place : Place) (p : Piece) (typ : TyExp) (t : Written)
    → written here.setting.within typ ≡ Some t → PieceStands here widths p → (typed_look place p typ here.setting widths subject).faults ≡ []
    → LooksShaped here widths subject (typed_look place p typ here.setting widths subject)
typed_stands here widths subject place p typ t is stand e registers c w inside given slots =
    let reach : Reach = reach_of here.setting registers c slots in
    let own : Shape = shape_in here.setting.within typ in
    let s : Shape = seen_as subject own in
    let part : Looked = p.look here.setting widths s in
    let h = both_empty (written_faults here.setting.within typ ++ shape_faults place subject own) part.faults e in
    let k = both_empty (written_faults here.setting.within typ) (shape_faults place subject own) h.0 in
    let inner = stand s h.1 registers c w inside given slots in (
      suc inner.0,
      subst (λ o. PatternBinds (suc inner.0) reach w subject part.binds (pattern place (typed_form o) (part.pattern ∷ []))) (sym is)
          (form_binds inner.0 reach w subject subject part.binds place (F.Typed t) (part.pattern ∷ []) (fills_itself subject)
          (s, (seen place subject own k.1).1, inner.1)),
    )

-- ---- several parts

abbrev pub tuple_look : Place → List Piece → Position → Widths → Shape → Looked
tuple_look place ps here widths subject =
    opened place H.Tuple (shape_faults place subject (tuple_of (length ps)))
    (each_looked ps here.setting widths (tuple_parts (out-Shape (seen_as subject (tuple_of (length ps))))))

pub tuple_stands : (here : Position) (widths : Widths) (subject : Shape) (place : Place) (ps : List Piece) → PiecesStand here widths ps
    → (tuple_look place ps here widths subject).faults ≡ [] → LooksShaped here widths subject (tuple_look place ps here widths subject)
tuple_stands here widths subject place ps stand e =
    let own : Shape = tuple_of (length ps) in
    let h = both_empty (shape_faults place subject own) _ e in
    let t = tuple_seen place subject (length ps) h.0 in
    opens here widths subject (seen_as subject own) place H.Tuple (shape_faults place subject own) ps (tuple_parts (out-Shape (seen_as subject own))) stand
    (sym t.1) h.1 (λ registers c w inside given. ((seen place subject own h.0).1, t.0))

-- what stands in brackets, against one value
pub as_one_stands : (here : Position) (widths : Widths) (subject : Shape) (place : Place) (ps : List Piece) → PiecesStand here widths ps
    → (as_one place ps here.setting widths subject).faults ≡ [] → LooksShaped here widths subject (as_one place ps here.setting widths subject)
as_one_stands here widths subject place [] stand e = unit_stands here widths subject place e
as_one_stands here widths subject place (p ∷ []) stand e = stand.0 subject e
as_one_stands here widths subject place (p ∷ q ∷ ps) stand e = tuple_stands here widths subject place (p ∷ q ∷ ps) stand e

same_items : (n : ℕ) (s : Shape) → replicate n s ≡ replicate (length (replicate n s)) s
same_items n s = ap (λ k. replicate k s) (sym (replicated n s))

pub vector_stands : (here : Position) (widths : Widths) (subject : Shape) (place : Place) (ps : List Piece) → PiecesStand here widths ps
    → (group_look place B.Vector ps here.setting widths subject).faults ≡ []
    → LooksShaped here widths subject (group_look place B.Vector ps here.setting widths subject)
vector_stands here widths subject place ps stand e =
    let s : Shape = vector_item (out-Shape subject) in
    let h = both_empty (shape_faults place subject (V.Vector V.Never)) _ e in
    opens here widths subject (V.Vector s) place H.Vector (shape_faults place subject (V.Vector V.Never)) ps (replicate (length ps) s) stand
    (sym (replicated (length ps) s)) h.1
    (λ registers c w inside given. (vector_seen place subject h.0, (s, out_of (S.Vector s) (V.Vector s) (V.rolls-Vector s), same_items (length ps) s)))

pub list_stands : (here : Position) (widths : Widths) (subject : Shape) (place : Place) (ps : List Piece) → PiecesStand here widths ps
    → (group_look place B.List ps here.setting widths subject).faults ≡ []
    → LooksShaped here widths subject (group_look place B.List ps here.setting widths subject)
list_stands here widths subject place ps stand e =
    let s : Shape = list_item (out-Shape subject) in
    let h = both_empty (shape_faults place subject (V.List V.Never)) _ e in
    opens here widths subject (V.List s) place H.List (shape_faults place subject (V.List V.Never)) ps (replicate (length ps) s) stand
    (sym (replicated (length ps) s)) h.1
    (λ registers c w inside given. (list_seen place subject h.0, (s, out_of (S.List s) (V.List s) (V.rolls-List s), same_items (length ps) s)))

pub cons_stands : (here : Position) (widths : Widths) (subject : Shape) (place : Place) (head tail : Piece) → PieceStands here widths head
    → PieceStands here widths tail → (cons_look place head tail here.setting widths subject).faults ≡ []
    → LooksShaped here widths subject (cons_look place head tail here.setting widths subject)
cons_stands here widths subject place head tail first others e =
    let s : Shape = list_item (out-Shape subject) in
    let h = both_empty (shape_faults place subject (V.List V.Never)) _ e in
    opens here widths subject (V.List s) place H.Cons (shape_faults place subject (V.List V.Never)) (head ∷ tail ∷ []) (s ∷ V.List s ∷ [])
    (first, (others, tt)) refl h.1
    (λ registers c w inside given. (list_seen place subject h.0, (s, out_of (S.List s) (V.List s) (V.rolls-List s), refl)))
