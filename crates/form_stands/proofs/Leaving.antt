-- `return`, `throw` and `exit`.
use Rattle.std.proofs.Common.{◌≡◌, ℕ, true, [], ◌∷◌, ap, sym, ◌∙◌, subst, Some}
use Rattle.sail_base.specs.declared.place.Place.{Place}
use Rattle.sail_types.specs.Shapes.{put}
use Rattle.sail_types.specs.declared.shapes.Shape.{Shape}
use Rattle.sail_types.specs.declared.shapes.Shape.TheVariants as V
use Rattle.sail_syntax.specs.declared.words.Leaving.TheVariants as Leave
use Rattle.sail_core.specs.declared.tree.Kind.TheVariants as K
use Rattle.shape_rules.specs.Findings.{Found, cast}
use Rattle.shape_rules.specs.Scopes.{Locals, thrown_as, thrown_shape}
use Rattle.shape_rules.specs.Targets.{Part}
use Rattle.shape_rules.specs.Values.{leave_found, left_found, return_found}
use Rattle.shape_meanings.specs.Whole.{below}
use Rattle.shape_meanings.proofs.Leaving.{named_below}
use Rattle.shape_meanings.proofs.Naming.{named_put}
use Rattle.shape_meanings.proofs.Orders.{exact}
use Rattle.shape_stands.specs.Inside.{Position}
use Rattle.shape_stands.specs.Stands.{FoundShaped, IsShapedAt, StandsAt}
use Rattle.shape_stands.proofs.Standing.{both_empty, cast_shaped, has_wanted, settled_node}

pub exit_shaped : (here : Position) (locals : Locals) (place : Place) (a : Part) → StandsAt here locals a.elaborate
    → IsShapedAt here locals (leave_found place Leave.Exit a)
exit_shaped here locals place a one want e =
    let found : Found = a.elaborate here.setting locals V.Unit in
    let h = both_empty found.faults _ e in
    let has = cast_shaped here locals found.shape found.core a.place (one V.Unit h.0).1 in
    settled_node here locals place place want V.Never (λ s. K.Exit) (cast found.core a.place ∷ []) h.1
    (λ t registers c w inside slots seen. (found.shape, has registers c w inside slots seen))

pub throw_shaped : (here : Position) (locals : Locals) (place : Place) (a : Part) (i : ℕ) → here.setting.exception ≡ Some i → StandsAt here locals a.elaborate
    → IsShapedAt here locals (leave_found place Leave.Throw a)
throw_shaped here locals place a i is one want e =
    let s : Shape = thrown_shape here.setting in
    let named : s ≡ V.Named i [] = ap thrown_as is in
    let found : Found = a.elaborate here.setting locals s in
    let h = both_empty found.faults _ e in
    let has = cast_shaped here locals s found.core a.place
    (has_wanted here locals s s found (λ above. exact s found.shape 0 above (ap (below 0) named ∙ named_below 0 i)) (one s h.0)) in
    settled_node here locals place place want V.Never (λ t. K.Throw) (cast found.core a.place ∷ []) h.1
    (λ t registers c w inside slots seen. (s, ap (put c) named ∙ named_put i c ∙ sym named, has registers c w inside slots seen))

pub return_shaped : (here : Position) (locals : Locals) (place : Place) (a : Part) (s : Shape) (n : ℕ) → here.setting.answer ≡ Some s → below n s ≡ true
    → StandsAt here locals a.elaborate → IsShapedAt here locals (leave_found place Leave.Return a)
return_shaped here locals place a s n is whole one want =
    subst (λ o. FoundShaped here locals (return_found place a o here.setting locals want)) (sym is) returned
  where
    returned : FoundShaped here locals (left_found place K.Return want a.place (a.elaborate here.setting locals s))
    returned e =
        let found : Found = a.elaborate here.setting locals s in
        let h = both_empty found.faults _ e in
        let has = cast_shaped here locals s found.core a.place
        (has_wanted here locals s s found (λ above. exact s found.shape n above whole) (one s h.0)) in
        settled_node here locals place place want V.Never (λ t. K.Return) (cast found.core a.place ∷ []) h.1
        (λ t registers c w inside slots seen. (s, is, has registers c w inside slots seen))
