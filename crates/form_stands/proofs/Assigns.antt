-- Assignments: a target and what is on its right, from target to target.
use Rattle.std.proofs.Common.{◌≡◌, ◌⊎◌, inl, inr, ℕ, List, [], ◌∷◌, ◌++◌, refl, subst, true, false, Option, Some, None}
use Rattle.sail_base.specs.declared.place.Place.{Place}
use Rattle.sail_types.specs.declared.shapes.Shape.{Shape}
use Rattle.sail_types.specs.declared.values.Value.{Value}
use Rattle.sail_core.specs.declared.targets.Target.{Target}
use Rattle.sail_core.specs.declared.tree.Core.{Core}
use Rattle.sail_core.specs.declared.tree.Kind.TheVariants as K
use Rattle.sail_core.specs.Making.{World}
use Rattle.shape_joins.specs.Filling.{fills}
use Rattle.shape_joins.specs.Joins.{join}
use Rattle.shape_joins.proofs.JoinsLeast.{joins_are_above}
use Rattle.shape_joins.proofs.Order.{fills_itself}
use Rattle.shape_rules.specs.declared.locals.Local.{Local}
use Rattle.shape_rules.specs.Findings.{missing, over, settled, settled_as}
use Rattle.shape_rules.specs.Scopes.{Locals}
use Rattle.shape_rules.specs.Statements.{FurtherPart, Righted, assign_to, chained_faults, inner_faults, righted}
use Rattle.shape_rules.specs.Targets.{Aimed, Part}
use Rattle.shape_meanings.specs.Keeping.{Reach, SeenAs, reach_of}
use Rattle.shape_meanings.specs.Whole.{Choice}
use Rattle.shape_meanings.proofs.Bases.{chained_known}
use Rattle.shape_meanings.proofs.Orders.{exact}
use Rattle.shape_progress.specs.Rules.{IsUnreached}
use Rattle.shape_progress.specs.TargetRules.{AssignHas, TargetHas}
use Rattle.shape_stands.specs.Inside.{Inside, Position}
use Rattle.shape_stands.specs.Stands.{AimStands, FurtherStand, HasShape, IsShapedAt, StandsAt}
use Rattle.shape_stands.proofs.Standing.{both_empty, node_has, settled_shaped, unreached_has}

-- targets with the cores in them and the value behind, which give what has this shape, wherever they are reached
abbrev Assigns : Position → Locals → Shape → List Target → List Core → Type 0
Assigns here locals s targets cores =
    (registers : List Shape) (c : Choice) (w : World Value) → Inside here registers c w → (slots : List Local) → SeenAs slots locals
    → IsUnreached (reach_of here.setting registers c slots)
    ⊎ AssignHas (HasShape w (reach_of here.setting registers c slots)) w (reach_of here.setting registers c slots) s targets cores

-- what is on the right of a target that wants this shape: it has it, once filled
abbrev RightStands : Position → Locals → Shape → Righted → Type 0
RightStands here locals want right = (t : Shape) × (fills want t ≡ true) × Assigns here locals t right.targets right.parts

-- a target and what is on its right
target_assigns : (here : Position) (locals : Locals) (a : Aimed) (right : Righted) → AimStands here locals a → RightStands here locals a.shape right
    → Assigns here locals a.answer (a.target ∷ right.targets) (a.parts ++ right.parts)
target_assigns here locals a right aim is registers c w inside slots seen =
    both (aim is.0 is.1 registers c w inside slots seen right.parts) (is.2 registers c w inside slots seen)
  where
    reach : Reach
    reach = reach_of here.setting registers c slots

    both : IsUnreached reach
        ⊎ ((n : ℕ) × TargetHas n (HasShape w reach) w reach false is.0 (Some a.answer) a.target (a.parts ++ right.parts) right.parts)
        → IsUnreached reach ⊎ AssignHas (HasShape w reach) w reach is.0 right.targets right.parts
        → IsUnreached reach ⊎ AssignHas (HasShape w reach) w reach a.answer (a.target ∷ right.targets) (a.parts ++ right.parts)
    both (inl u) others = inl u
    both (inr h) (inl u) = inl u
    both (inr h) (inr k) = inr (h.0, is.0, is.0, right.parts, h.1, fills_itself is.0, k)

-- what a further target gives, which is known in each part, is what is wanted of it
answer_is : (here : Position) (place : Place) (want : Shape) (a : Aimed) → inner_faults place want a.answer ≡ [] → chained_faults place a ≡ []
    → fills want a.answer ≡ true
answer_is here place want a e f = by_join (join a.answer want) refl e
  where
    no_faults : {A : Type 0} {x : A} {xs : List A} → (x ∷ xs) ≡ [] → ⊥
    no_faults e = cc

    by_join : (o : Option Shape) → join a.answer want ≡ o → (settled_as place want a.answer (λ x. missing place) o).faults ≡ []
        → fills want a.answer ≡ true
    by_join None is e = absurd (no_faults e)
    by_join (Some t) is e =
        let above = joins_are_above a.answer want t is in
        let known = (chained_known here.setting.types place a f).1 in
        subst (λ s. fills want s ≡ true) (exact a.answer t known.0 above.0 known.1) above.1

right_stands : (fs : List FurtherPart) (value : Part) (here : Position) (locals : Locals) (want : Shape) → FurtherStand here locals fs
    → StandsAt here locals value.elaborate → (righted fs value here.setting locals want).faults ≡ []
    → RightStands here locals want (righted fs value here.setting locals want)
right_stands [] value here locals want further stand e =
    let one = stand want e in
    ((value.elaborate here.setting locals want).shape, one.0, λ registers c w inside slots seen. inr (one.1 registers c w inside slots seen))
right_stands (f ∷ fs) value here locals want further stand e =
    let a : Aimed = f.to.aim here.setting locals in
    let more : Righted = righted fs value here.setting locals a.shape in
    let h = both_empty (inner_faults f.place want a.answer ++ chained_faults f.place a) more.faults e in
    let k = both_empty (inner_faults f.place want a.answer) (chained_faults f.place a) h.0 in (
      a.answer,
      answer_is here f.place want a k.0 k.1,
      target_assigns here locals a more (further.0 k.1) (right_stands fs value here locals a.shape further.1 stand h.1),
    )

pub assign_shaped : (here : Position) (locals : Locals) (place : Place) (a : Aimed) (more : List FurtherPart) (value : Part)
    → (chained_faults place a ≡ [] → AimStands here locals a) → FurtherStand here locals more → StandsAt here locals value.elaborate
    → IsShapedAt here locals (assign_to place a more value)
assign_shaped here locals place a more value aim further stand want e =
    let right : Righted = righted more value here.setting locals a.shape in
    let core : Shape → Core = λ s. over place (K.Assign (a.target ∷ right.targets)) (a.parts ++ right.parts) in
    let h = both_empty (chained_faults place a ++ right.faults) (settled place want a.answer core).faults e in
    let k = both_empty (chained_faults place a) right.faults h.0 in
    let assigns = target_assigns here locals a right (aim k.0) (right_stands more value here locals a.shape further stand k.1) in
    settled_shaped here locals place want a.answer core h.1 (λ t registers c w inside slots seen.
    reached registers c w slots a.answer (a.target ∷ right.targets) (a.parts ++ right.parts) (assigns registers c w inside slots seen))
  where
    reached : (registers : List Shape) (c : Choice) (w : World Value) (slots : List Local) (s : Shape) (targets : List Target) (cores : List Core)
        → IsUnreached (reach_of here.setting registers c slots)
        ⊎ AssignHas (HasShape w (reach_of here.setting registers c slots)) w (reach_of here.setting registers c slots) s targets cores
        → HasShape w (reach_of here.setting registers c slots) s (over place (K.Assign targets) cores)
    reached registers c w slots s targets cores (inl u) =
        unreached_has w (reach_of here.setting registers c slots) s (over place (K.Assign targets) cores) u
    reached registers c w slots s targets cores (inr h) =
        node_has w (reach_of here.setting registers c slots) s s place (K.Assign targets) cores (fills_itself s) h
