-- Patterns: `_`, names, literals, `as`, and types at patterns.
use Rattle.std.proofs.Common.{◌≡◌, ℕ, List, [], ◌∷◌, map, length, ap, sym, ◌∙◌, refl, subst, Bool, true, false, Option, Some, None, if◌then◌else◌}
use Rattle.std.proofs.Common.{nat_eq, ◌⊎◌, inl, inr}
use Rattle.std.specs.Bool.{beq}
use Rattle.std.specs.Ordering.{int_eq}
use Rattle.std.specs.Str.{bytes_eq}
use Rattle.sail_base.specs.Bits.{eq_bits}
use Rattle.sail_base.specs.declared.place.Place.{Place}
use Rattle.sail_types.specs.Shapes.{fits, form_fits, put, Asked}
use Rattle.sail_types.specs.declared.shapes.Shape.{Shape, Shape-F, out-Shape, roll-Shape}
use Rattle.sail_types.specs.declared.shapes.Shape.TheFolds.{fold-roll-Shape, map-Shape}
use Rattle.sail_types.specs.declared.shapes.Shape.TheViews.{out-roll-Shape}
use Rattle.sail_types.specs.declared.shapes.Shape.TheOpen as S
use Rattle.sail_types.specs.declared.shapes.Shape.TheVariants as V
use Rattle.sail_types.specs.declared.table.Types.{Types}
use Rattle.sail_types.specs.declared.values.Value.{Value, Value-F, out-Value}
use Rattle.sail_types.specs.declared.values.Value.TheFolds.{map-Value}
use Rattle.sail_types.specs.declared.values.Value.TheViews.{roll-out-Value}
use Rattle.sail_types.specs.declared.values.Value.TheOpen as W
use Rattle.sail_syntax.specs.declared.name.Literal.{Literal}
use Rattle.sail_syntax.specs.declared.name.Literal.TheVariants as N
use Rattle.sail_core.specs.declared.patterns.Literal.{Literal as CoreLiteral}
use Rattle.sail_core.specs.declared.patterns.Form.{Form}
use Rattle.sail_core.specs.declared.patterns.Form.TheVariants as F
use Rattle.sail_core.specs.declared.patterns.Head.TheVariants as H
use Rattle.sail_core.specs.declared.patterns.Pattern.{Pattern, fold-roll-Pattern}
use Rattle.sail_core.specs.Run as R
use Rattle.sail_core.specs.Run.{Now, Ended, gives, stuck, goes_on, local, ◌then◌}
use Rattle.sail_core.specs.Making as Core
use Rattle.sail_core.specs.Making.{plainly}
use Rattle.sail_core.specs.Patterns as Steps
use Rattle.sail_core.specs.Patterns.{pattern_meaning, as_run, so_many, literal_seen, Seen, Wrong}
use Rattle.shape_joins.specs.Joins.{join}
use Rattle.shape_joins.proofs.Order.{no}
use Rattle.shape_joins.proofs.JoinsLeast.{joins_are_above}
use Rattle.sail_meaning.specs.World.{Piece, Bindings}
use Rattle.sail_meaning.specs.Patterns.{literal_matches, tested}
use Rattle.shape_rules.specs.Scopes.{Setting, constant}
use Rattle.shape_rules.specs.Patterns.{Widths, pattern, looked, core_literal, literal_shape, is_found, shape_faults, unless_joined}
use Rattle.shape_meanings.specs.Whole.{Choice, below, below_form}
use Rattle.shape_meanings.specs.Keeping.{Fits, Suits, Reach, Good, reach_of, Keeps}
use Rattle.shape_meanings.specs.Matching.{LooksRight}
use Rattle.shape_meanings.proofs.Orders.{exact}
use Rattle.shape_meanings.proofs.Values.{widens, fits_form, opened_at, out_put}

-- what a pattern of the core does: its form, over what its parts do
pub rolled_pattern : (wc : Core.World Value) (place : Place) (form : Form) (parts : List Pattern)
    → Steps.matcher plainly wc (pattern place form parts) ≡ pattern_meaning plainly wc form (map (Steps.matcher plainly wc) parts)
rolled_pattern wc place form parts =
    fold-roll-Pattern (Steps.Matcher Value) (λ p. pattern_meaning plainly wc p.form p.parts) (record { place = place; form = form; parts = parts })

pub any_right : (setting : Setting) (widths : Widths) (subject : Shape) (place : Place)
    → LooksRight setting widths subject (looked place F.Any) (λ w v. gives [])
any_right setting widths subject place = record {
  runs = λ registers c wc ws d slots v h now good. (λ i. rolled_pattern wc place F.Any [] i v now, (tt, good));
}

-- ---- literals

-- a test gives no name, says No, or is stuck
abbrev pub IsTest : Now Value → Ended Value Bindings → Type 0
IsTest now e = (e ≡ R.Gives [] now) ⊎ ((e ≡ R.No now) ⊎ (e ≡ R.Stuck))

pub test_keeps : (reach : Reach) (now : Now Value) (e : Ended Value Bindings) → Good reach now → IsTest now e
    → Keeps reach (Suits reach.types reach.choice []) e
test_keeps reach now e good (inl is) = subst (Keeps reach (Suits reach.types reach.choice [])) (sym is) (tt, good)
test_keeps reach now e good (inr (inl is)) = subst (Keeps reach (Suits reach.types reach.choice [])) (sym is) good
test_keeps reach now e good (inr (inr is)) = subst (Keeps reach (Suits reach.types reach.choice [])) (sym is) tt

-- what the core's test comes to
abbrev seen_run : Seen Value → Now Value → Ended Value Bindings
seen_run seen now = goes_on (as_run (so_many 0 seen) now) (Steps.parts_match [])

abbrev pub Same : Now Value → Seen Value → Piece Bindings → Type 0
Same now seen piece = (seen_run seen now ≡ piece now) × IsTest now (piece now)

pub tested_same : (b : Bool) (now : Now Value) → Same now (Steps.tested b) (tested b)
tested_same true now = (refl, inl refl)
tested_same false now = (refl, inr (inl refl))

if_wide : (a b : Bool) (now : Now Value) → Same now (if a then Steps.tested b else Wrong) (if a then tested b else stuck)
if_wide true b now = tested_same b now
if_wide false b now = (refl, inr (inr refl))

abbrev literal_form : Literal → Shape-F Shape
literal_form (N.Number n) = S.Int
literal_form (N.Bits bs) = S.Bits
literal_form (N.String s) = S.String
literal_form (N.Bool b) = S.Bool
literal_form (N.Bit b) = S.Bit

literal_same : (types : Types) (literal : Literal) (x : Value-F Value) (now : Now Value)
    → form_fits types (map-Value Value Asked (fits types) x) (literal_form literal) ≡ true
    → Same now (literal_seen (core_literal literal) x) (literal_matches literal x)
literal_same types (N.Number n) (W.Integer m) now h = tested_same (int_eq n m) now
literal_same types (N.Bits bs) (W.Bits cs) now h = if_wide (nat_eq (length bs) (length cs)) (eq_bits bs cs) now
literal_same types (N.String s) (W.String t) now h = tested_same (bytes_eq s t) now
literal_same types (N.Bool a) (W.Truth b) now h = tested_same (beq a b) now
literal_same types (N.Bit a) (W.Bit b) now h = tested_same (beq a b) now
literal_same types literal x now h = no h

pub leaf_out : (c : Choice) (x : Shape-F Shape) (s : Shape) → roll-Shape x ≡ s → opened_at c x ≡ x → out-Shape (put c s) ≡ x
leaf_out c x s e same = ap (λ t. out-Shape (put c t)) (sym e) ∙ out_put c (roll-Shape x) ∙ ap (opened_at c) (out-roll-Shape x) ∙ same

out_literal : (c : Choice) (literal : Literal) → out-Shape (put c (literal_shape literal)) ≡ literal_form literal
out_literal c (N.Number n) = leaf_out c S.Int V.Int V.rolls-Int refl
out_literal c (N.Bits bs) = leaf_out c S.Bits V.Bits V.rolls-Bits refl
out_literal c (N.String s) = leaf_out c S.String V.String V.rolls-String refl
out_literal c (N.Bool b) = leaf_out c S.Bool V.Bool V.rolls-Bool refl
out_literal c (N.Bit b) = leaf_out c S.Bit V.Bit V.rolls-Bit refl

-- what a value is that has a shape, by forms
pub form_given : (types : Types) (c : Choice) (s : Shape) (x : Shape-F Shape) (v : Value) → out-Shape (put c s) ≡ x → Fits types c s v
    → form_fits types (map-Value Value Asked (fits types) (out-Value v)) x ≡ true
form_given types c s x v e h =
    sym (ap (λ u. fits types u (put c s)) (sym (roll-out-Value v)) ∙ fits_form types (out-Value v) (put c s)
    ∙ ap (form_fits types (map-Value Value Asked (fits types) (out-Value v))) e) ∙ h

pub leaf_below : (n : ℕ) (x : Shape-F Shape) (s : Shape) → roll-Shape x ≡ s → below_form n (map-Shape Shape Bool (below n) x) ≡ true → below n s ≡ true
leaf_below n x s e h = ap (below n) (sym e) ∙ fold-roll-Shape Bool (below_form n) x ∙ h

literal_below : (n : ℕ) (literal : Literal) → below n (literal_shape literal) ≡ true
literal_below n (N.Number k) = leaf_below n S.Int V.Int V.rolls-Int refl
literal_below n (N.Bits bs) = leaf_below n S.Bits V.Bits V.rolls-Bits refl
literal_below n (N.String s) = leaf_below n S.String V.String V.rolls-String refl
literal_below n (N.Bool b) = leaf_below n S.Bool V.Bool V.rolls-Bool refl
literal_below n (N.Bit b) = leaf_below n S.Bit V.Bit V.rolls-Bit refl

-- a value that comes to a pattern of its own shape, which leaves nothing open, has that shape
joined_step : (types : Types) (c : Choice) (place : Place) (subject own : Shape) (n : ℕ) (v : Value) (o : Option Shape) → join own subject ≡ o
    → below n own ≡ true → unless_joined place subject own o ≡ [] → Fits types c subject v → Fits types c own v
joined_step types c place subject own n v None is whole e h = absurd (not_none e)
  where
    not_none : {A : Type 0} {x : A} → (x ∷ []) ≡ [] → ⊥
    not_none e = cc
joined_step types c place subject own n v (Some t) is whole e h =
    let above = joins_are_above own subject t is in
    subst (λ s. Fits types c s v) (exact own t n above.0 whole) (widens types v c subject t above.1 h)

pub comes_to : (types : Types) (c : Choice) (place : Place) (subject own : Shape) (n : ℕ) (v : Value) → below n own ≡ true
    → shape_faults place subject own ≡ [] → Fits types c subject v → Fits types c own v
comes_to types c place subject own n v whole e h = joined_step types c place subject own n v (join own subject) refl whole e h

-- the core of a test of one value
pub is_means : (wc : Core.World Value) (place : Place) (literal : CoreLiteral) (v : Value) (now : Now Value)
    → Steps.matcher plainly wc (pattern place (F.Opens (H.Is literal)) []) v now ≡ seen_run (literal_seen literal (out-Value v)) now
is_means wc place literal v now = λ i. rolled_pattern wc place (F.Opens (H.Is literal)) [] i v now

pub literal_right : (setting : Setting) (widths : Widths) (subject : Shape) (place : Place) (literal : Literal)
    → (is_found place (literal_shape literal) (core_literal literal) setting widths subject).faults ≡ []
    → LooksRight setting widths subject (is_found place (literal_shape literal) (core_literal literal) setting widths subject)
    (λ w v. literal_matches literal (out-Value v))
literal_right setting widths subject place literal e = record {
  runs = λ registers c wc ws d slots v h now good.
      let own = comes_to setting.types c place subject (literal_shape literal) 0 v (literal_below 0 literal) e h in
      let r = literal_same setting.types literal (out-Value v) now
      (form_given setting.types c (literal_shape literal) (literal_form literal) v (out_literal c literal) own) in (
        is_means wc place (core_literal literal) v now ∙ r.0,
        test_keeps (reach_of setting registers c slots) now (literal_matches literal (out-Value v) now) good r.1,
      );
}

-- ---- names

pub binds_right : (setting : Setting) (widths : Widths) (subject : Shape) (place : Place) (name : List ℕ)
    → LooksRight setting widths subject (record { pattern = pattern place (F.Binds name) []; binds = constant name subject ∷ []; faults = [] })
    (λ w v. gives (local name v ∷ []))
binds_right setting widths subject place name = record {
  runs = λ registers c wc ws d slots v h now good. (λ i. rolled_pattern wc place (F.Binds name) [] i v now, ((refl, h, tt), good));
}
