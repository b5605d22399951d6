-- `&` and `|`, whatever their left operand is: on a truth they look at it first, else they are operators of several members.
use Rattle.std.proofs.Common.{◌≡◌, [], ◌∷◌, ◌++◌, sym, ◌∙◌, refl, subst, Bool, true, false, if◌then◌else◌}
use Rattle.sail_base.specs.declared.place.Place.{Place}
use Rattle.sail_base.specs.declared.operators.Operator.TheVariants as O
use Rattle.sail_types.specs.Shapes.{fits, form_fits, Asked}
use Rattle.sail_types.specs.declared.shapes.Shape.{Shape, Shape-F, out-Shape}
use Rattle.sail_types.specs.declared.shapes.Shape.TheOpen as S
use Rattle.sail_types.specs.declared.shapes.Shape.TheVariants as V
use Rattle.sail_types.specs.declared.table.Types.{Types}
use Rattle.sail_types.specs.declared.values.Value.{Value, Value-F, out-Value}
use Rattle.sail_types.specs.declared.values.Value.TheFolds.{map-Value}
use Rattle.sail_types.specs.declared.values.Value.TheOpen as W
use Rattle.sail_core.specs.Run as R
use Rattle.sail_core.specs.Run.{Now, Ended, Run, goes_on, in_turn, ◌then◌}
use Rattle.shape_joins.proofs.Order.{no}
use Rattle.sail_meaning.specs.World as Source
use Rattle.sail_meaning.specs.World.{Piece}
use Rattle.sail_meaning.specs.Expressions.{each, infix_of}
use Rattle.shape_rules.specs.Findings.{Found}
use Rattle.shape_rules.specs.Scopes.{Setting, Locals}
use Rattle.shape_rules.specs.Targets.{Part}
use Rattle.shape_rules.specs.Calls.{operator_members, operator_text, several_called}
use Rattle.shape_rules.specs.Values.{infix_found, logical_found, undecided, is_truth_form, is_variable_form}
use Rattle.shape_meanings.specs.Whole.{Choice}
use Rattle.shape_meanings.specs.Keeping.{Fits, Reach, reach_of, Keeps}
use Rattle.shape_meanings.specs.Parts.{IsRight, operator_of, kind_of}
use Rattle.shape_meanings.specs.Sound.{Right}
use Rattle.shape_meanings.proofs.Values.{opened_at, out_put}
use Rattle.shape_meanings.proofs.Settling.{both_empty}
use Rattle.shape_meanings.proofs.Matching.{form_given}
use Rattle.shape_meanings.proofs.Operators.{members_right, two_turns, two_of}
use Rattle.shape_meanings.proofs.Logical.{logicals_right}

-- ---- what is no truth

not_truth : (types : Types) (c : Choice) (x : Value-F Value) (y : Shape-F Shape) (b : Bool) → is_truth_form y ≡ false → is_variable_form y ≡ false
    → form_fits types (map-Value Value Asked (fits types) x) (opened_at c y) ≡ true → x ≡ W.Truth b → ⊥
not_truth types c x S.Bool b h k fit is = true_false h
  where
    true_false : true ≡ false → ⊥
    true_false h = cc
not_truth types c x S.Never b h k fit is = true_false h
  where
    true_false : true ≡ false → ⊥
    true_false h = cc
not_truth types c x (S.Variable i) b h k fit is = true_false k
  where
    true_false : true ≡ false → ⊥
    true_false h = cc
not_truth types c x y b h k fit is = no (subst (λ z. form_fits types (map-Value Value Asked (fits types) z) (opened_at c y) ≡ true) is fit)

-- an operand that is no truth goes to the members
plain_if : (is_and : Bool) (w : Source.World) (place : Place) (v : Value) (x : Value-F Value) (right : Piece Value) → ((b : Bool) → x ≡ W.Truth b → ⊥)
    → infix_of w place (operator_of is_and) v x right ≡ (right then λ u. w.operator place (operator_of is_and) (v ∷ u ∷ []))
plain_if true w place v (W.Truth b) right none_of = absurd (none_of b refl)
plain_if false w place v (W.Truth b) right none_of = absurd (none_of b refl)
plain_if true w place v x right none_of = refl
plain_if false w place v x right none_of = refl

-- two ways to go on that are the same for what is given
same_behind : {A B : Type 0} (reach : Reach) (P : A → Type 0) (m : Ended Value A) (f g : A → Run Value B) → Keeps reach P m
    → ((x : A) (now : Now Value) → P x → f x now ≡ g x now) → goes_on m f ≡ goes_on m g
same_behind reach P (R.Gives x now) f g k same = same x now k.0
same_behind reach P (R.No now) f g k same = refl
same_behind reach P (R.Returns v now) f g k same = refl
same_behind reach P (R.Throws v now) f g k same = refl
same_behind reach P (R.Stops cause now) f g k same = refl
same_behind reach P R.Stuck f g k same = refl

abbrev logical_meant : Bool → Place → Source.Meaning → Source.Meaning → Source.Meaning
logical_meant is_and place ma mb w = ma w then λ v. infix_of w place (operator_of is_and) v (out-Value v) (mb w)

-- the members of the operator, where the left operand is neither a truth nor of a variable
selected_right : (setting : Setting) (locals : Locals) (place : Place) (is_and : Bool) (a b : Part) (ma mb : Source.Meaning) (want : Shape)
    → is_truth_form (out-Shape (a.elaborate setting locals V.Never).shape) ≡ false
    → is_variable_form (out-Shape (a.elaborate setting locals V.Never).shape) ≡ false
    → (a.elaborate setting locals V.Never).faults ≡ [] → IsRight setting locals a.elaborate ma → IsRight setting locals b.elaborate mb
    → (several_called place (operator_text (operator_of is_and)) (operator_members setting (operator_of is_and)) (a.elaborate ∷ b.elaborate ∷ []) setting locals
    want).faults ≡ []
    → Right setting locals want (several_called place (operator_text (operator_of is_and)) (operator_members setting (operator_of is_and))
    (a.elaborate ∷ b.elaborate ∷ []) setting locals want) (logical_meant is_and place ma mb)
selected_right setting locals place is_and a b ma mb want no_truth no_variable fine ra rb e =
    let r = members_right setting locals place (operator_of is_and) a b ma mb want ra rb e in
    let s : Shape = (a.elaborate setting locals V.Never).shape in
    record {
      above = r.above;
      runs = λ registers c wc ws d slots seen now good.
          let reach : Reach = reach_of setting registers c slots in
          let q = r.runs registers c wc ws d slots seen now good in
          let left = (ra V.Never fine).runs registers c wc ws d slots seen now good in
          let source : logical_meant is_and place ma mb ws now ≡ (in_turn (each (ma ∷ mb ∷ []) ws) then two_of ws place (operator_of is_and)) now =
          same_behind reach (Fits setting.types c s) (ma ws now) (λ v. infix_of ws place (operator_of is_and) v (out-Value v) (mb ws))
          (λ v. mb ws then λ u. two_of ws place (operator_of is_and) (v ∷ u ∷ [])) left.1
          (λ v later fit i. plain_if is_and ws place v (out-Value v) (mb ws)
          (λ x is. not_truth setting.types c (out-Value v) (out-Shape s) x no_truth no_variable
          (form_given setting.types c s (opened_at c (out-Shape s)) v (out_put c s) fit) is) i later)
          ∙ two_turns (ma ws now) (mb ws) (two_of ws place (operator_of is_and)) in
          (q.0 ∙ sym source, subst (Keeps reach (Fits setting.types c _)) (sym source) q.1);
    }

pub not_none : {A B : Type 0} {x : A} → (x ∷ []) ≡ [] → B
not_none e = absurd (empty e)
  where
    empty : {A : Type 0} {x : A} → (x ∷ []) ≡ [] → ⊥
    empty e = cc

-- by what is found of the left operand
by_left : (setting : Setting) (locals : Locals) (place : Place) (is_and : Bool) (a b : Part) (ma mb : Source.Meaning) (want : Shape) (truth variable : Bool)
    → is_truth_form (out-Shape (a.elaborate setting locals V.Never).shape) ≡ truth
    → is_variable_form (out-Shape (a.elaborate setting locals V.Never).shape) ≡ variable
    → IsRight setting locals a.elaborate ma → IsRight setting locals b.elaborate mb
    → (if truth then logical_found place (kind_of is_and) want (a.elaborate setting locals V.Never) (b.elaborate setting locals V.Bool)
    else (if variable then undecided place (operator_of is_and) (a.elaborate setting locals V.Never) (b.elaborate setting locals V.Never)
    else several_called place (operator_text (operator_of is_and)) (operator_members setting (operator_of is_and))
    (a.elaborate ∷ b.elaborate ∷ []) setting locals
    want)).faults ≡ []
    → Right setting locals want (if truth then logical_found place (kind_of is_and) want (a.elaborate setting locals V.Never)
    (b.elaborate setting locals V.Bool)
    else (if variable then undecided place (operator_of is_and) (a.elaborate setting locals V.Never) (b.elaborate setting locals V.Never)
    else several_called place (operator_text (operator_of is_and)) (operator_members setting (operator_of is_and))
    (a.elaborate ∷ b.elaborate ∷ []) setting locals
    want)) (logical_meant is_and place ma mb)
by_left setting locals place is_and a b ma mb want true variable is isv ra rb e =
    let x : Found = a.elaborate setting locals V.Never in
    let y : Found = b.elaborate setting locals V.Bool in
    let h = both_empty (x.faults ++ y.faults) _ e in
    let h2 = both_empty x.faults y.faults h.0 in
    logicals_right setting locals want place is_and x y ma mb is (ra V.Never h2.0) (rb V.Bool h2.1) e
by_left setting locals place is_and a b ma mb want false true is isv ra rb e =
    not_none (both_empty ((a.elaborate setting locals V.Never).faults ++ (b.elaborate setting locals V.Never).faults) _ e).1
by_left setting locals place is_and a b ma mb want false false is isv ra rb e =
    let x : Found = a.elaborate setting locals V.Never in
    let y : Found = b.elaborate setting locals V.Never in
    let h = both_empty (x.faults ++ (y.faults ++ [])) _ e in
    selected_right setting locals place is_and a b ma mb want is isv (both_empty x.faults (y.faults ++ []) h.0).0 ra rb e

pub and_right : (setting : Setting) (locals : Locals) (place : Place) (a b : Part) (ma mb : Source.Meaning) → IsRight setting locals a.elaborate ma
    → IsRight setting locals b.elaborate mb
    → IsRight setting locals (infix_found place O.And a b) (λ w. ma w then λ v. infix_of w place O.And v (out-Value v) (mb w))
and_right setting locals place a b ma mb ra rb want e =
    by_left setting locals place true a b ma mb want (is_truth_form (out-Shape (a.elaborate setting locals V.Never).shape))
    (is_variable_form (out-Shape (a.elaborate setting locals V.Never).shape)) refl refl ra rb e

pub or_right : (setting : Setting) (locals : Locals) (place : Place) (a b : Part) (ma mb : Source.Meaning) → IsRight setting locals a.elaborate ma
    → IsRight setting locals b.elaborate mb
    → IsRight setting locals (infix_found place O.Or a b) (λ w. ma w then λ v. infix_of w place O.Or v (out-Value v) (mb w))
or_right setting locals place a b ma mb ra rb want e =
    by_left setting locals place false a b ma mb want (is_truth_form (out-Shape (a.elaborate setting locals V.Never).shape))
    (is_variable_form (out-Shape (a.elaborate setting locals V.Never).shape)) refl refl ra rb e
