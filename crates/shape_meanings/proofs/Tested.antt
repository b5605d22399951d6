-- Patterns that test one value: members of enums, `()`, and negative numbers; and names that bind.
use Rattle.std.proofs.Common.{◌≡◌, ℕ, ℤ, pos, ◌-ℤ◌, List, [], ◌∷◌, ap, sym, ◌∙◌, refl, subst, Bool, true, false, Option, Some, None, if◌then◌else◌}
use Rattle.std.proofs.Common.{nat_eq, inl, inr, arith}
use Rattle.std.specs.Option.{option_or}
use Rattle.std.specs.Prelude.{neg_ℤ}
use Rattle.std.specs.Ordering.{int_eq}
use Rattle.sail_base.specs.declared.place.Place.{Place}
use Rattle.sail_types.specs.Shapes.{fits, form_fits, Asked}
use Rattle.sail_types.specs.declared.shapes.Shape.{Shape}
use Rattle.sail_types.specs.declared.shapes.Shape.TheOpen as S
use Rattle.sail_types.specs.declared.shapes.Shape.TheVariants as V
use Rattle.sail_types.specs.declared.table.Types.{Types}
use Rattle.sail_types.specs.declared.values.Value.{Value, Value-F, out-Value}
use Rattle.sail_types.specs.declared.values.Value.TheFolds.{map-Value}
use Rattle.sail_types.specs.declared.values.Value.TheViews.{out-roll-Value}
use Rattle.sail_types.specs.declared.values.Value.TheOpen as W
use Rattle.sail_types.specs.declared.values.Value.TheVariants as Val
use Rattle.sail_syntax.specs.declared.name.Name.{Name}
use Rattle.sail_core.specs.declared.patterns.Literal.{Literal as CoreLiteral}
use Rattle.sail_core.specs.declared.patterns.Literal.TheVariants as L
use Rattle.sail_core.specs.declared.patterns.Form.TheVariants as F
use Rattle.sail_core.specs.Run.{Now, stuck, held_in}
use Rattle.sail_core.specs.Making as Core
use Rattle.sail_core.specs.Making.{plainly}
use Rattle.sail_core.specs.Patterns as Steps
use Rattle.sail_core.specs.Patterns.{literal_seen, Wrong}
use Rattle.shape_joins.proofs.Order.{no}
use Rattle.shape_joins.proofs.JoinsLeast.{none}
use Rattle.sail_meaning.specs.World as Source
use Rattle.sail_meaning.specs.Named.{member_named}
use Rattle.sail_meaning.specs.Patterns.{tested, integer_matches, unit_matches, member_matches, identifier_matches}
use Rattle.shape_rules.specs.declared.callees.Meant.{Meant}
use Rattle.shape_rules.specs.declared.callees.Meant.TheVariants as M
use Rattle.shape_rules.specs.Scopes.{Setting, constant}
use Rattle.shape_rules.specs.Patterns.{Looked, Widths, pattern, is_found, name_look}
use Rattle.shape_meanings.specs.Whole.{below}
use Rattle.shape_meanings.specs.Keeping.{Fits, Suits, reach_of, Agree}
use Rattle.shape_meanings.specs.Worlds.{Describes, ValueAs}
use Rattle.shape_meanings.specs.Matching.{Match, with_widths, LooksRight}
use Rattle.shape_meanings.specs.PatternForms.{IsNoMember}
use Rattle.shape_meanings.proofs.Matching.{Same, test_keeps, tested_same, is_means, comes_to, form_given, leaf_out, leaf_below, rolled_pattern}
use Rattle.shape_meanings.proofs.Leaving.{named_below}

-- a test of one value, which does the same in both worlds on values of its shape
pub is_right : (setting : Setting) (widths : Widths) (subject own : Shape) (place : Place) (literal : CoreLiteral) (m : Match) (n : ℕ) → below n own ≡ true
    → ((registers : List Shape) (wc : Core.World Value) (ws : Source.World) → Describes setting registers wc ws → (c : ℕ → Shape) (v : Value) (now : Now Value)
    → Fits setting.types c own v → Same now (literal_seen literal (out-Value v)) (m (with_widths widths ws) v))
    → (is_found place own literal setting widths subject).faults ≡ []
    → LooksRight setting widths subject (is_found place own literal setting widths subject) m
is_right setting widths subject own place literal m n whole same e = record {
  runs = λ registers c wc ws d slots v h now good.
      let r = same registers wc ws d c v now (comes_to setting.types c place subject own n v whole e h) in (
        is_means wc place literal v now ∙ r.0,
        test_keeps (reach_of setting registers c slots) now (m (with_widths widths ws) v now) good r.1,
      );
}

-- ---- `()`

unit_same : (types : Types) (x : Value-F Value) (now : Now Value) → form_fits types (map-Value Value Asked (fits types) x) S.Unit ≡ true
    → Same now (literal_seen L.Unit x) (unit_matches x)
unit_same types W.Unit now h = (refl, inl refl)
unit_same types x now h = no h

pub unit_pattern_right : (setting : Setting) (widths : Widths) (subject : Shape) (place : Place)
    → (is_found place V.Unit L.Unit setting widths subject).faults ≡ []
    → LooksRight setting widths subject (is_found place V.Unit L.Unit setting widths subject) (λ w v. unit_matches (out-Value v))
unit_pattern_right setting widths subject place e =
    is_right setting widths subject V.Unit place L.Unit (λ w v. unit_matches (out-Value v)) 0 (leaf_below 0 S.Unit V.Unit V.rolls-Unit refl)
    (λ registers wc ws d c v now h.
    unit_same setting.types (out-Value v) now (form_given setting.types c V.Unit S.Unit v (leaf_out c S.Unit V.Unit V.rolls-Unit refl) h)) e

-- ---- a negative number

integer_same : (types : Types) (n m : ℤ) (x : Value-F Value) (now : Now Value) → n ≡ m
    → form_fits types (map-Value Value Asked (fits types) x) S.Int ≡ true → Same now (literal_seen (L.Integer n) x) (integer_matches m x)
integer_same types n m (W.Integer z) now is h =
    subst (λ k. Same now (literal_seen (L.Integer n) (W.Integer z)) (integer_matches k (W.Integer z))) is (tested_same (int_eq n z) now)
integer_same types n m x now is h = no h

less : (n : ℤ) → (pos 0 -ℤ n) ≡ neg_ℤ n
less n = grind arith

pub negative_right : (setting : Setting) (widths : Widths) (subject : Shape) (place : Place) (n : ℤ)
    → (is_found place V.Int (L.Integer (pos 0 -ℤ n)) setting widths subject).faults ≡ []
    → LooksRight setting widths subject (is_found place V.Int (L.Integer (pos 0 -ℤ n)) setting widths subject)
    (λ w v. integer_matches (neg_ℤ n) (out-Value v))
negative_right setting widths subject place n e =
    is_right setting widths subject V.Int place (L.Integer (pos 0 -ℤ n)) (λ w v. integer_matches (neg_ℤ n) (out-Value v)) 0
    (leaf_below 0 S.Int V.Int V.rolls-Int refl)
    (λ registers wc ws d c v now h.
    integer_same setting.types (pos 0 -ℤ n) (neg_ℤ n) (out-Value v) now (less n)
    (form_given setting.types c V.Int S.Int v (leaf_out c S.Int V.Int V.rolls-Int refl) h)) e

-- ---- a bare identifier

member_same : (i k : ℕ) (x : Value-F Value) (now : Now Value) → Same now (literal_seen (L.Member i k) x) (member_matches (W.Member i k) x)
member_same i k (W.Member j l) now = by_enum (nat_eq i j)
  where
    by_enum : (b : Bool) → Same now (if b then Steps.tested (nat_eq k l) else Wrong) (if b then tested (nat_eq k l) else stuck)
    by_enum true = tested_same (nat_eq k l) now
    by_enum false = (refl, inr (inr refl))
member_same i k x now = (refl, inr (inr refl))

-- a member where an enum has the name
pub member_right : (setting : Setting) (widths : Widths) (subject : Shape) (name : Name) (i k : ℕ) → setting.value name.text ≡ Some (M.Member i k)
    → (name_look name (Some (M.Member i k)) setting widths subject).faults ≡ []
    → LooksRight setting widths subject (name_look name (Some (M.Member i k)) setting widths subject)
    (λ w v. identifier_matches (member_named w.text.types name.text) name.text v)
member_right setting widths subject name i k meant e =
    is_right setting widths subject (V.Named i []) name.place (L.Member i k) (λ w v. identifier_matches (member_named w.text.types name.text) name.text v) 0
    (named_below 0 i)
    (λ registers wc ws d c v now h.
    let kept = subst (ValueAs setting registers wc ws name.text) meant (d.values name.text) in
    let is : member_named ws.text.types name.text ≡ Some (Val.Member i k) = ap (λ t. member_named t name.text) d.types ∙ kept.0 in
    let out : out-Value (Val.Member i k) ≡ W.Member i k = ap out-Value (sym (Val.rolls-Member i k)) ∙ out-roll-Value (W.Member i k) in
    subst (λ o. Same now (literal_seen (L.Member i k) (out-Value v)) (identifier_matches o name.text v)) (sym is)
    (subst (λ x. Same now (literal_seen (L.Member i k) (out-Value v)) (member_matches x (out-Value v))) (sym out) (member_same i k (out-Value v) now))) e

-- a name that no enum has binds
none_first : (o p : Option Value) → option_or o p ≡ None → o ≡ None
none_first None p h = refl
none_first (Some v) p h = none (sym h)

no_member_named : (setting : Setting) (registers : List Shape) (wc : Core.World Value) (ws : Source.World) (name : List ℕ) (meant : Option Meant)
    → ws.text.types ≡ setting.types → IsNoMember meant → ValueAs setting registers wc ws name meant → member_named ws.text.types name ≡ None
no_member_named setting registers wc ws name (Some (M.Register r s)) same none_of h = none_first (member_named ws.text.types name) (held_in name ws.lets) h.0
no_member_named setting registers wc ws name (Some (M.Let i s)) same none_of h = ap (λ t. member_named t name) same ∙ h.0
no_member_named setting registers wc ws name (Some (M.Member i k)) same none_of h = absurd none_of
no_member_named setting registers wc ws name meant same none_of h = ap (λ t. member_named t name) same ∙ h

abbrev bound_look : Name → Shape → Looked
bound_look name subject = record { pattern = pattern name.place (F.Binds name.text) []; binds = constant name.text subject ∷ []; faults = [] }

binds_as : (name : Name) (meant : Option Meant) (setting : Setting) (widths : Widths) (subject : Shape) → IsNoMember meant
    → name_look name meant setting widths subject ≡ bound_look name subject
binds_as name (Some (M.Member i k)) setting widths subject none_of = absurd none_of
binds_as name meant setting widths subject none_of = refl

pub name_binds_right : (setting : Setting) (widths : Widths) (subject : Shape) (name : Name) (meant : Option Meant) → setting.value name.text ≡ meant
    → IsNoMember meant
    → LooksRight setting widths subject (name_look name meant setting widths subject)
    (λ w v. identifier_matches (member_named w.text.types name.text) name.text v)
name_binds_right setting widths subject name meant is none_of =
    subst (λ (p : Looked). LooksRight setting widths subject p (λ w v. identifier_matches (member_named w.text.types name.text) name.text v))
    (sym (binds_as name meant setting widths subject none_of)) (record {
      runs = λ registers c wc ws d slots v h now good.
          let absent = no_member_named setting registers wc ws name.text meant d.types none_of (subst (ValueAs setting registers wc ws name.text) is
          (d.values name.text)) in
          subst (λ o. Agree (reach_of setting registers c slots) (Suits setting.types c (constant name.text subject ∷ []))
          (Steps.matcher plainly wc (pattern name.place (F.Binds name.text) []) v now) (identifier_matches o name.text v now)) (sym absent)
          ((λ i. rolled_pattern wc name.place (F.Binds name.text) [] i v now), ((refl, h, tt), good));
    })
