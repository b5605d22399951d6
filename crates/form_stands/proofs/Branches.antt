-- `if` and `assert`.
use Rattle.std.proofs.Common.{ℕ, List, [], ◌∷◌, ◌++◌, refl, Option, Some, None}
use Rattle.sail_base.specs.declared.place.Place.{Place}
use Rattle.sail_types.specs.declared.shapes.Shape.{Shape}
use Rattle.sail_types.specs.declared.shapes.Shape.TheVariants as V
use Rattle.sail_core.specs.declared.tree.Kind.TheVariants as K
use Rattle.shape_joins.proofs.Order.{fills_twice}
use Rattle.shape_rules.specs.Findings.{Found, given_on}
use Rattle.shape_rules.specs.Scopes.{Locals}
use Rattle.shape_rules.specs.Statements.{assert_found, branch, if_found}
use Rattle.shape_rules.specs.Targets.{Part}
use Rattle.shape_meanings.proofs.Branches.{bool_exact, given_over}
use Rattle.shape_meanings.proofs.Tests.{unit_exact}
use Rattle.shape_stands.specs.Inside.{Position}
use Rattle.shape_stands.specs.Stands.{IsShapedAt, Shaped, Stands, StandsAt}
use Rattle.shape_stands.proofs.Standing.{both_empty, cast_shaped, filled, has_wanted, ruled, settled_node}

-- ---- what is wanted as a truth, and as `()`

pub truth_shaped : (here : Position) (locals : Locals) (found : Found) → Stands here locals V.Bool found → Shaped here locals V.Bool found.core
truth_shaped here locals found h = has_wanted here locals V.Bool V.Bool found (bool_exact found.shape) h

pub nothing_shaped : (here : Position) (locals : Locals) (found : Found) → Stands here locals V.Unit found → Shaped here locals V.Unit found.core
nothing_shaped here locals found h = has_wanted here locals V.Unit V.Unit found (unit_exact found.shape) h

-- ---- `if`

pub if_shaped : (here : Position) (locals : Locals) (place : Place) (c a b : Part) → StandsAt here locals c.elaborate → StandsAt here locals a.elaborate
    → StandsAt here locals b.elaborate → IsShapedAt here locals (if_found place c a (Some b))
if_shaped here locals place c a b rc ra rb want e =
    let test : Found = c.elaborate here.setting locals V.Bool in
    let one : Found = a.elaborate here.setting locals want in
    let next : Shape = given_on want one.shape in
    let two : Found = b.elaborate here.setting locals next in
    let t : Shape = given_on next two.shape in
    let h = both_empty (test.faults ++ one.faults) two.faults e in
    let k = both_empty test.faults one.faults h.0 in
    let sa = ra want k.1 in
    let sb = rb next h.1 in
    let first = given_over want one.shape sa.0 in
    let both = given_over next two.shape sb.0 in
    let tested = truth_shaped here locals test (rc V.Bool k.0) in
    let then_has = cast_shaped here locals t one.core a.place
    (filled here locals one.shape t one.core (fills_twice one.shape next t first.1 both.0) sa.1) in
    let else_has = cast_shaped here locals t two.core b.place (filled here locals two.shape t two.core both.1 sb.1) in
    ruled here locals t place (K.If t) (test.core ∷ branch one a ∷ branch two b ∷ [])
    (λ registers choice w inside slots seen.
    (tested registers choice w inside slots seen, then_has registers choice w inside slots seen, else_has registers choice w inside slots seen))

-- without `else`
pub short_if_shaped : (here : Position) (locals : Locals) (place : Place) (c a : Part) → StandsAt here locals c.elaborate → StandsAt here locals a.elaborate
    → IsShapedAt here locals (if_found place c a None)
short_if_shaped here locals place c a rc ra want e =
    let test : Found = c.elaborate here.setting locals V.Bool in
    let one : Found = a.elaborate here.setting locals V.Unit in
    let h = both_empty (test.faults ++ one.faults) _ e in
    let k = both_empty test.faults one.faults h.0 in
    let tested = truth_shaped here locals test (rc V.Bool k.0) in
    let then_has = cast_shaped here locals V.Unit one.core a.place (nothing_shaped here locals one (ra V.Unit k.1)) in
    settled_node here locals place place want V.Unit (λ s. K.If V.Unit) (test.core ∷ branch one a ∷ []) h.1
    (λ t registers choice w inside slots seen.
    (refl, tested registers choice w inside slots seen, then_has registers choice w inside slots seen))

-- ---- `assert`

pub assert_shaped : (here : Position) (locals : Locals) (place : Place) (a : Part) (text : Option (List ℕ)) → StandsAt here locals a.elaborate
    → IsShapedAt here locals (assert_found place a text)
assert_shaped here locals place a text one want e =
    let found : Found = a.elaborate here.setting locals V.Bool in
    let h = both_empty found.faults _ e in
    let tested = truth_shaped here locals found (one V.Bool h.0) in
    settled_node here locals place place want V.Unit (λ s. K.Assert text) (found.core ∷ []) h.1
    (λ t registers c w inside slots seen. (refl, tested registers c w inside slots seen))
