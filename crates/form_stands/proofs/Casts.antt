-- `e : T`.
use Rattle.std.proofs.Common.{◌≡◌, ℕ, true, [], ◌∷◌, ◌++◌, ap, ◌∙◌, Some}
use Rattle.sail_base.specs.declared.place.Place.{Place}
use Rattle.sail_syntax.specs.declared.types.TyExp.{TyExp}
use Rattle.sail_types.specs.Shapes.{shape}
use Rattle.sail_types.specs.declared.shapes.Shape.{Shape}
use Rattle.sail_types.specs.declared.types.Typ.{Typ}
use Rattle.sail_core.specs.declared.tree.Kind.TheVariants as K
use Rattle.shape_rules.specs.Findings.{Found}
use Rattle.shape_rules.specs.Scopes.{Locals}
use Rattle.shape_rules.specs.Targets.{Part}
use Rattle.shape_rules.specs.Values.{typed_found}
use Rattle.shape_rules.specs.Written.{shape_in, shape_or_never, typ_in, written, written_faults}
use Rattle.shape_meanings.specs.Whole.{below}
use Rattle.shape_meanings.proofs.Orders.{exact}
use Rattle.shape_stands.specs.Inside.{Position}
use Rattle.shape_stands.specs.Stands.{IsShapedAt, StandsAt}
use Rattle.shape_stands.proofs.Standing.{both_empty, has_wanted, settled_node}

pub typed_shaped : (here : Position) (locals : Locals) (place : Place) (a : Part) (typ : TyExp) (t : Typ) (n : ℕ) → typ_in here.setting.within typ ≡ Some t
    → below n (shape t) ≡ true → StandsAt here locals a.elaborate → IsShapedAt here locals (typed_found place a typ)
typed_shaped here locals place a typ t n is whole one want e =
    let s : Shape = shape_in here.setting.within typ in
    let found : Found = a.elaborate here.setting locals s in
    let h = both_empty (found.faults ++ written_faults here.setting.within typ) _ e in
    let k = both_empty found.faults (written_faults here.setting.within typ) h.0 in
    let has = has_wanted here locals s s found (λ above. exact s found.shape n above (ap (below n) (ap shape_or_never is) ∙ whole)) (one s k.0) in
    settled_node here locals place place want s (λ x. K.Cast (written here.setting.within typ)) (found.core ∷ []) h.1
    (λ x registers c w inside slots seen. has registers c w inside slots seen)
