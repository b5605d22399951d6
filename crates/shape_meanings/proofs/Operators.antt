-- Operators.
use Rattle.std.proofs.Common.{◌≡◌, ℕ, List, [], ◌∷◌, ap, sym, ◌∙◌, refl, subst, Bool, true, false, Option, Some, None, if◌then◌else◌}
use Rattle.std.proofs.Common.{zero, suc, length, arith}
use Rattle.sail_base.specs.declared.place.Place.{Place}
use Rattle.sail_base.specs.declared.operators.Operator.{Operator}
use Rattle.sail_base.specs.declared.operators.Operator.TheVariants as O
use Rattle.sail_base.specs.declared.operators.Prefix.{Prefix}
use Rattle.sail_types.specs.Rows.{members_of, prefix_rows}
use Rattle.sail_types.specs.declared.members.Member.{Member as RowMember}
use Rattle.sail_types.specs.declared.shapes.Shape.{Shape}
use Rattle.sail_types.specs.declared.table.Types.{Types}
use Rattle.sail_types.specs.declared.values.Value.{Value, Value-F, out-Value}
use Rattle.sail_core.specs.Run as R
use Rattle.sail_core.specs.Run.{Now, Ended, needs, gives, goes_on, in_turn, ◌then◌}
use Rattle.sail_core.specs.Making as Core
use Rattle.sail_meaning.specs.Text.{Callee, builtin}
use Rattle.sail_meaning.specs.Choice.{accepts, first_fitting, builtins, prefix_builtins}
use Rattle.sail_meaning.specs.World as Source
use Rattle.sail_meaning.specs.World.{Piece, apply_builtin, apply_first, apply_prefix}
use Rattle.sail_meaning.specs.Expressions.{each, infix_of}
use Rattle.shape_rules.specs.Findings.{Found}
use Rattle.shape_rules.specs.Scopes.{Setting, Locals}
use Rattle.shape_rules.specs.Targets.{Part}
use Rattle.shape_rules.specs.Calls.{several_called, operator_members, operator_text, prefix_members, prefix_text}
use Rattle.shape_rules.specs.Values.{infix_as, infix_found, logical_kind, prefix_found}
use Rattle.shape_meanings.specs.Worlds.{Describes, Apply, is_builtin}
use Rattle.shape_meanings.specs.Parts.{IsRight}
use Rattle.shape_meanings.specs.Sound.{Right}
use Rattle.shape_meanings.proofs.Arguments.{several_right}

-- ---- one or two operands in turn

pub one_turn : (e : Ended Value Value) (g : List Value → Piece Value)
    → goes_on e (λ v. g (v ∷ [])) ≡ goes_on (goes_on e (λ x. in_turn {X = Value} {A = Value} [] then λ xs. gives (x ∷ xs))) g
one_turn (R.Gives x now) g = refl
one_turn (R.No now) g = refl
one_turn (R.Returns v now) g = refl
one_turn (R.Throws v now) g = refl
one_turn (R.Stops cause now) g = refl
one_turn R.Stuck g = refl

next_turn : (x : Value) (e : Ended Value Value) (g : List Value → Piece Value)
    → goes_on e (λ u. g (x ∷ u ∷ []))
    ≡ goes_on (goes_on (goes_on e (λ u. in_turn {X = Value} {A = Value} [] then λ us. gives (u ∷ us))) (λ xs. gives (x ∷ xs))) g
next_turn x (R.Gives u now) g = refl
next_turn x (R.No now) g = refl
next_turn x (R.Returns v now) g = refl
next_turn x (R.Throws v now) g = refl
next_turn x (R.Stops cause now) g = refl
next_turn x R.Stuck g = refl

pub two_turns : (e : Ended Value Value) (b : Piece Value) (g : List Value → Piece Value)
    → goes_on e (λ v. b then λ u. g (v ∷ u ∷ [])) ≡ goes_on (goes_on e (λ x. in_turn (b ∷ []) then λ xs. gives (x ∷ xs))) g
two_turns (R.Gives x now) b g = next_turn x (b now) g
two_turns (R.No now) b g = refl
two_turns (R.Returns v now) b g = refl
two_turns (R.Throws v now) b g = refl
two_turns (R.Stops cause now) b g = refl
two_turns R.Stuck b g = refl

-- what is right stays so for a meaning that is the same in each world
pub right_via : (setting : Setting) (locals : Locals) (want : Shape) (found : Found) (m n : Source.Meaning) → m ≡ n → Right setting locals want found m
    → Right setting locals want found n
right_via setting locals want found m n e r = subst (Right setting locals want found) e r

-- ---- an operator before its operand

builtin_if : (apply : Apply) (hart : ℕ) (place : Place) (vs : List Value) (b : Bool) (callee : Callee) (o : Option Callee) (now : Now Value)
    → apply place callee vs ≡ apply_builtin hart callee vs
    → (needs o then λ callee. apply_builtin hart callee vs) now ≡ (needs o then λ callee. apply place callee vs) now
    → (needs (if b then Some callee else o) then λ callee. apply_builtin hart callee vs) now
    ≡ (needs (if b then Some callee else o) then λ callee. apply place callee vs) now
builtin_if apply hart place vs true callee o now same later = λ i. sym same i now
builtin_if apply hart place vs false callee o now same later = later

pub builtins_applied : (types : Types) (apply : Apply) (hart : ℕ) (place : Place) (vs : List Value) (ms : List RowMember) (now : Now Value)
    → ((callee : Callee) → is_builtin callee ≡ true → apply place callee vs ≡ apply_builtin hart callee vs)
    → (needs (first_fitting types (builtins ms) vs) then λ callee. apply_builtin hart callee vs) now
    ≡ (needs (first_fitting types (builtins ms) vs) then λ callee. apply place callee vs) now
builtins_applied types apply hart place vs [] now same = refl
builtins_applied types apply hart place vs (m ∷ ms) now same =
    builtin_if apply hart place vs (accepts types vs (builtin m.row m.params)) (builtin m.row m.params) (first_fitting types (builtins ms) vs) now
    (same (builtin m.row m.params) refl) (builtins_applied types apply hart place vs ms now same)

pub prefix_right : (setting : Setting) (locals : Locals) (place : Place) (prefix : Prefix) (a : Part) (m : Source.Meaning)
    → IsRight setting locals a.elaborate m → IsRight setting locals (prefix_found place prefix a) (λ w. m w then apply_prefix w prefix)
prefix_right setting locals place prefix a m right want e =
    let goes : Source.World → List Value → Piece Value = λ w vs. apply_first w (prefix_builtins w.text.types prefix) vs in
    right_via setting locals want (prefix_found place prefix a setting locals want) (λ w. in_turn (each (m ∷ []) w) then goes w)
    (λ w. m w then apply_prefix w prefix) (λ i w now. sym (one_turn (m w now) (goes w)) i)
    (several_right setting locals want place (prefix_text prefix) (prefix_members setting prefix) (a.elaborate ∷ []) (m ∷ []) goes (right, tt)
    (λ registers wc ws d. (
      prefix_builtins setting.types prefix,
      (d.prefixes_stand prefix).0,
      (d.prefixes_stand prefix).1,
      λ vs now count.
          ap (λ t. (needs (first_fitting t (prefix_builtins t prefix) vs) then λ callee. apply_builtin ws.hart callee vs) now) d.types
          ∙ builtins_applied setting.types d.apply ws.hart place vs (members_of setting.types (prefix_rows prefix)) now
          (λ callee is. d.builtins_apply place callee vs is),
    )) e)

-- ---- an operator between its operands

plain_infix : (operator : Operator) (w : Source.World) (place : Place) (v : Value) (form : Value-F Value) (right : Piece Value) → logical_kind operator ≡ None
    → infix_of w place operator v form right ≡ (right then λ u. w.operator place operator (v ∷ u ∷ []))
plain_infix O.And w place v form right h = absurd (some_none h)
  where
    some_none : {A : Type 0} {x : A} → Some x ≡ None → ⊥
    some_none h = cc
plain_infix O.Or w place v form right h = absurd (some_none h)
  where
    some_none : {A : Type 0} {x : A} → Some x ≡ None → ⊥
    some_none h = cc
plain_infix operator w place v form right h = refl

-- an operator on its operands
abbrev pub two_of : Source.World → Place → Operator → List Value → Piece Value
two_of w place operator vs = w.operator place operator vs

two_are : (setting : Setting) (registers : List Shape) (wc : Core.World Value) (ws : Source.World) (d : Describes setting registers wc ws) (place : Place)
    (operator : Operator) (vs : List Value) (now : Now Value) → length vs ≡ 2
    → two_of ws place operator vs now ≡ (needs (first_fitting setting.types (d.members operator) vs) then λ callee. d.apply place callee vs) now
two_are setting registers wc ws d place operator (v ∷ u ∷ []) now h = λ i. d.operators place operator v u i now
two_are setting registers wc ws d place operator [] now h = absurd (too_few h)
  where
    too_few : zero ≡ suc (suc zero) → ⊥
    too_few h = grind (arith, h)
two_are setting registers wc ws d place operator (v ∷ []) now h = absurd (too_few h)
  where
    too_few : suc zero ≡ suc (suc zero) → ⊥
    too_few h = grind (arith, h)
two_are setting registers wc ws d place operator (v ∷ u ∷ x ∷ xs) now h = absurd (too_many (length xs) h)
  where
    too_many : (n : ℕ) → suc (suc (suc n)) ≡ suc (suc zero) → ⊥
    too_many n h = grind (arith, h)

-- both operands are evaluated, and the operator means the first member that they fit
pub members_right : (setting : Setting) (locals : Locals) (place : Place) (operator : Operator) (a b : Part) (ma mb : Source.Meaning) (want : Shape)
    → IsRight setting locals a.elaborate ma → IsRight setting locals b.elaborate mb
    → (several_called place (operator_text operator) (operator_members setting operator) (a.elaborate ∷ b.elaborate ∷ []) setting locals want).faults ≡ []
    → Right setting locals want
    (several_called place (operator_text operator) (operator_members setting operator) (a.elaborate ∷ b.elaborate ∷ []) setting locals want)
    (λ w. in_turn (each (ma ∷ mb ∷ []) w) then two_of w place operator)
members_right setting locals place operator a b ma mb want ra rb e =
    several_right setting locals want place (operator_text operator) (operator_members setting operator) (a.elaborate ∷ b.elaborate ∷ []) (ma ∷ mb ∷ [])
    (λ w. two_of w place operator) (ra, (rb, tt))
    (λ registers wc ws d. (
      d.members operator,
      (d.members_stand operator).0,
      (d.members_stand operator).1,
      λ vs now count. two_are setting registers wc ws d place operator vs now count,
    )) e

-- an operator that isn't `&` or `|`
pub infix_right : (setting : Setting) (locals : Locals) (place : Place) (operator : Operator) (a b : Part) (ma mb : Source.Meaning)
    → logical_kind operator ≡ None → IsRight setting locals a.elaborate ma → IsRight setting locals b.elaborate mb
    → IsRight setting locals (infix_found place operator a b) (λ w. ma w then λ v. infix_of w place operator v (out-Value v) (mb w))
infix_right setting locals place operator a b ma mb plain ra rb want e =
    subst (λ k. Right setting locals want (infix_as place operator a b k setting locals want)
    (λ w. ma w then λ v. infix_of w place operator v (out-Value v) (mb w))) (sym plain)
    (right_via setting locals want
    (several_called place (operator_text operator) (operator_members setting operator) (a.elaborate ∷ b.elaborate ∷ []) setting locals want)
    (λ w. in_turn (each (ma ∷ mb ∷ []) w) then two_of w place operator) (λ w. ma w then λ v. infix_of w place operator v (out-Value v) (mb w))
    (λ i w now. (sym (two_turns (ma w now) (mb w) (two_of w place operator))
    ∙ (λ j. goes_on (ma w now) (λ v. sym (plain_infix operator w place v (out-Value v) (mb w) plain) j))) i)
    (members_right setting locals place operator a b ma mb want ra rb
    (subst (λ k. (infix_as place operator a b k setting locals want).faults ≡ []) plain e)))
