-- `&` and `|`: on truths, or by their members.
use Rattle.std.proofs.Common.{◌≡◌, Bool, true, false, [], ◌∷◌, ◌++◌, ap, sym, ◌∙◌, refl, if◌then◌else◌}
use Rattle.sail_base.specs.declared.operators.Operator.{Operator}
use Rattle.sail_base.specs.declared.operators.Operator.TheVariants as O
use Rattle.sail_base.specs.declared.place.Place.{Place}
use Rattle.sail_types.specs.declared.shapes.Shape.{Shape, Shape-F, out-Shape, roll-Shape}
use Rattle.sail_types.specs.declared.shapes.Shape.TheOpen as S
use Rattle.sail_types.specs.declared.shapes.Shape.TheVariants as V
use Rattle.sail_types.specs.declared.shapes.Shape.TheViews.{roll-out-Shape}
use Rattle.sail_types.specs.declared.values.Value.{Value}
use Rattle.sail_core.specs.declared.tree.Core.{Core}
use Rattle.sail_core.specs.declared.tree.Kind.{Kind}
use Rattle.sail_core.specs.declared.tree.Kind.TheVariants as K
use Rattle.sail_core.specs.Making.{World}
use Rattle.shape_joins.specs.Filling.{fills}
use Rattle.shape_joins.proofs.Order.{no, opens}
use Rattle.shape_rules.specs.Calls.{operator_members, operator_text, several_called}
use Rattle.shape_rules.specs.Findings.{Found}
use Rattle.shape_rules.specs.Scopes.{Locals}
use Rattle.shape_rules.specs.Targets.{Part}
use Rattle.shape_rules.specs.Values.{infix_found, is_truth_form, is_variable_form, logical_found, undecided}
use Rattle.shape_meanings.specs.Keeping.{Reach, reach_of}
use Rattle.shape_meanings.proofs.Bases.{not_none}
use Rattle.shape_progress.specs.Rules.{KindHas}
use Rattle.shape_stands.specs.Inside.{Position}
use Rattle.shape_stands.specs.Stands.{FoundShaped, HasShape, IsShapedAt, StandsAt}
use Rattle.shape_stands.proofs.Standing.{both_empty, filled, settled_node}
use Rattle.form_stands.proofs.Branches.{truth_shaped}
use Rattle.form_stands.proofs.Calls.{members_shaped}

-- a truth's shape, or one that nothing has, is a truth's, once filled
form_fills : (y : Shape-F Shape) → is_truth_form y ≡ true → fills (roll-Shape y) (roll-Shape S.Bool) ≡ true
form_fills S.Bool h = opens S.Bool S.Bool
form_fills S.Never h = opens S.Never S.Bool
form_fills y h = no h

truth_fills : (s : Shape) → is_truth_form (out-Shape s) ≡ true → fills s V.Bool ≡ true
truth_fills s h =
    ap (fills s) (sym V.rolls-Bool) ∙ ap (λ t. fills t (roll-Shape S.Bool)) (sym (roll-out-Shape s)) ∙ form_fills (out-Shape s) h

-- a kind over two truths is a truth
abbrev OnTruths : Kind → Type 0
OnTruths kind =
    (w : World Value) (reach : Reach) (x y : Core) → HasShape w reach V.Bool x → HasShape w reach V.Bool y
    → KindHas (HasShape w) w reach V.Bool kind (x ∷ y ∷ [])

logical_by : (here : Position) (locals : Locals) (want : Shape) (place : Place) (operator : Operator) (kind : Kind) (a b : Part) (t v : Bool)
    → OnTruths kind → StandsAt here locals a.elaborate → StandsAt here locals b.elaborate
    → is_truth_form (out-Shape (a.elaborate here.setting locals V.Never).shape) ≡ t
    → FoundShaped here locals
    (if t then logical_found place kind want (a.elaborate here.setting locals V.Never) (b.elaborate here.setting locals V.Bool)
    else if v then undecided place operator (a.elaborate here.setting locals V.Never) (b.elaborate here.setting locals V.Never)
    else several_called place (operator_text operator) (operator_members here.setting operator) (a.elaborate ∷ b.elaborate ∷ []) here.setting locals want)
logical_by here locals want place operator kind a b true v rule one two is e =
    let left : Found = a.elaborate here.setting locals V.Never in
    let right : Found = b.elaborate here.setting locals V.Bool in
    let h = both_empty (left.faults ++ right.faults) _ e in
    let k = both_empty left.faults right.faults h.0 in
    let first = filled here locals left.shape V.Bool left.core (truth_fills left.shape is) (one V.Never k.0).1 in
    let second = truth_shaped here locals right (two V.Bool k.1) in
    settled_node here locals place place want V.Bool (λ s. kind) (left.core ∷ right.core ∷ []) h.1
    (λ t registers c w inside slots seen.
    rule w (reach_of here.setting registers c slots) left.core right.core (first registers c w inside slots seen) (second registers c w inside slots seen))
logical_by here locals want place operator kind a b false true rule one two is e =
    let left : Found = a.elaborate here.setting locals V.Never in
    let right : Found = b.elaborate here.setting locals V.Never in
    not_none (both_empty (left.faults ++ right.faults) _ e).1
logical_by here locals want place operator kind a b false false rule one two is e = members_shaped here locals want place operator a b one two e

pub and_shaped : (here : Position) (locals : Locals) (place : Place) (a b : Part) → StandsAt here locals a.elaborate → StandsAt here locals b.elaborate
    → IsShapedAt here locals (infix_found place O.And a b)
and_shaped here locals place a b one two want =
    let form : Shape-F Shape = out-Shape (a.elaborate here.setting locals V.Never).shape in
    logical_by here locals want place O.And K.And a b (is_truth_form form) (is_variable_form form) (λ w reach x y p q. (refl, p, q)) one two refl

pub or_shaped : (here : Position) (locals : Locals) (place : Place) (a b : Part) → StandsAt here locals a.elaborate → StandsAt here locals b.elaborate
    → IsShapedAt here locals (infix_found place O.Or a b)
or_shaped here locals place a b one two want =
    let form : Shape-F Shape = out-Shape (a.elaborate here.setting locals V.Never).shape in
    logical_by here locals want place O.Or K.Or a b (is_truth_form form) (is_variable_form form) (λ w reach x y p q. (refl, p, q)) one two refl
