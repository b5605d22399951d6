-- Calls of names and of operators.
use Rattle.std.proofs.Common.{◌≡◌, ℕ, suc, ◌*◌, Bool, true, false, ◌&&◌, List, [], ◌∷◌, map, ap, sym, ◌∙◌, refl, subst, is_some, Option}
use Rattle.std.proofs.Common.{Some, None}
use Rattle.std.proofs.Common.{if◌then◌else◌}
use Rattle.sail_base.specs.declared.operators.Operator.{Operator}
use Rattle.sail_base.specs.declared.operators.Prefix.{Prefix}
use Rattle.sail_base.specs.declared.place.Place.{Place}
use Rattle.sail_syntax.specs.declared.name.Name.{Name}
use Rattle.sail_types.specs.Rows.{row_members}
use Rattle.sail_types.specs.Shapes.{shape, shares}
use Rattle.sail_types.specs.declared.shapes.Shape.{Shape}
use Rattle.sail_types.specs.declared.shapes.Shape.TheVariants as V
use Rattle.sail_types.specs.declared.values.Value.{Value}
use Rattle.sail_core.specs.declared.tree.Callee.TheVariants as C
use Rattle.sail_core.specs.declared.tree.Kind.TheVariants as K
use Rattle.sail_core.specs.Making.{World}
use Rattle.sail_names.specs.declared.names.Global.{Global}
use Rattle.sail_names.specs.declared.names.Global.TheVariants as G
use Rattle.sail_names.specs.Known.{is_callee, is_global_callee}
use Rattle.shape_joins.specs.Filling.{fills}
use Rattle.shape_joins.specs.Joins.{join}
use Rattle.shape_joins.proofs.JoinsLeast.{joins_are_above}
use Rattle.shape_joins.proofs.Order.{no}
use Rattle.shape_rules.specs.declared.callees.Candidate.{Candidate}
use Rattle.shape_rules.specs.declared.callees.Mapping.{Mapping}
use Rattle.shape_rules.specs.declared.callees.Meant.{Meant}
use Rattle.shape_rules.specs.declared.callees.Meant.TheVariants as M
use Rattle.shape_rules.specs.Calls.{Elaborate, arguments_for, has_never, has_some, is_unsure_of, member_candidate, one_called, operator_members}
use Rattle.shape_rules.specs.Calls.{operator_text, or_unit, prefix_members, prefix_text, row_called, several_called, takes_unit}
use Rattle.shape_rules.specs.Findings.{Found, behind, unknown}
use Rattle.shape_rules.specs.Patterns.{Which, forwards, backwards, neither, either, which_side}
use Rattle.shape_rules.specs.Scopes.{Locals}
use Rattle.shape_rules.specs.Targets.{Part, elaborations}
use Rattle.shape_rules.specs.Values.{as_one, call_named, direction_found, does_convert, infix_as, infix_found, logical_kind}
use Rattle.shape_rules.specs.Values.{mapping_found, name_called, prefix_found, unit_found}
use Rattle.shape_meanings.specs.Keeping.{Fits, Reach, reach_of}
use Rattle.shape_meanings.specs.Naming.{AreKnown, MeantAs}
use Rattle.shape_meanings.specs.Whole.{Choice, closed}
use Rattle.shape_meanings.proofs.Mappings.{SideIs, side_facts}
use Rattle.shape_meanings.proofs.Orders.{exact}
use Rattle.shape_meanings.proofs.Bases.{not_none}
use Rattle.shape_stands.specs.Inside.{EachCalled, GoesTo, Inside, MeantCalled, Position}
use Rattle.shape_stands.specs.Stands.{AllStandAt, FoundShaped, IsShapedAt, Shaped, StandsAt}
use Rattle.shape_stands.proofs.Standing.{both_empty, has_filled, settled_node}
use Rattle.form_stands.proofs.Arguments.{one_shaped, several_shaped}
use Rattle.form_stands.proofs.Groups.{tuple_stands, unit_stands}

-- ---- arguments

unit_if : (here : Position) (locals : Locals) (place : Place) (b : Bool) → AllStandAt here locals (if b then unit_found place ∷ [] else [])
unit_if here locals place true = (unit_stands here locals place, tt)
unit_if here locals place false = tt

arguments_stand : (here : Position) (locals : Locals) (place : Place) (params : List Shape) (es : List Elaborate) → AllStandAt here locals es
    → AllStandAt here locals (arguments_for (unit_found place) params es)
arguments_stand here locals place params [] stand = unit_if here locals place (takes_unit params)
arguments_stand here locals place params (e ∷ es) stand = stand

or_unit_stand : (here : Position) (locals : Locals) (place : Place) (es : List Elaborate) → AllStandAt here locals es
    → AllStandAt here locals (or_unit (unit_found place) es)
or_unit_stand here locals place [] stand = (unit_stands here locals place, tt)
or_unit_stand here locals place (e ∷ es) stand = stand

as_one_stands : (here : Position) (locals : Locals) (place : Place) (args : List Part) → AllStandAt here locals (elaborations args)
    → StandsAt here locals (as_one place args).elaborate
as_one_stands here locals place [] stand = unit_stands here locals place
as_one_stands here locals place (a ∷ []) stand = stand.0
as_one_stands here locals place (a ∷ b ∷ more) stand = tuple_stands here locals place a.elaborate b.elaborate (elaborations more) stand

-- ---- one callee, a builtin, an overload

abbrev MeantIn : Position → Option Meant → Type 0
MeantIn here meant = (registers : List Shape) (c : Choice) (w : World Value) → Inside here registers c w → MeantCalled here registers c w meant

callee_by : (here : Position) (locals : Locals) (want : Shape) (name : Name) (f : Candidate) (args : List Part) (b : Bool)
    → MeantIn here (Some (M.Callee f)) → AllStandAt here locals (elaborations args)
    → FoundShaped here locals ((if b then one_called name.place f ((as_one name.place args).elaborate ∷ [])
    else one_called name.place f (arguments_for (unit_found name.place) f.params (elaborations args))) here.setting locals want)
callee_by here locals want name f args true called stand =
    one_shaped here locals want name.place f ((as_one name.place args).elaborate ∷ []) called (as_one_stands here locals name.place args stand, tt)
callee_by here locals want name f args false called stand =
    one_shaped here locals want name.place f (arguments_for (unit_found name.place) f.params (elaborations args)) called
    (arguments_stand here locals name.place f.params (elaborations args) stand)

overload_shaped : (here : Position) (locals : Locals) (want : Shape) (name : Name) (fs : List Candidate) (args : List Part)
    → MeantIn here (Some (M.Overload fs)) → AllStandAt here locals (elaborations args)
    → FoundShaped here locals (name_called name (Some (M.Overload fs)) args here.setting locals want)
overload_shaped here locals want name fs args called stand =
    several_shaped here locals want name.place name.text fs (or_unit (unit_found name.place) (elaborations args)) called
    (or_unit_stand here locals name.place (elaborations args) stand)

row_by : (here : Position) (locals : Locals) (want : Shape) (name : Name) (fs : List Candidate) (es : List Elaborate)
    → ((registers : List Shape) (c : Choice) (w : World Value) → Inside here registers c w → EachCalled here registers c w fs) → AllStandAt here locals es
    → FoundShaped here locals (row_called name.place name.text fs (unit_found name.place) es here.setting locals want)
row_by here locals want name [] es called stand =
    several_shaped here locals want name.place name.text [] (or_unit (unit_found name.place) es) called (or_unit_stand here locals name.place es stand)
row_by here locals want name (f ∷ []) es called stand =
    one_shaped here locals want name.place f (arguments_for (unit_found name.place) f.params es)
    (λ registers c w inside. (called registers c w inside).0) (arguments_stand here locals name.place f.params es stand)
row_by here locals want name (f ∷ g ∷ fs) es called stand =
    several_shaped here locals want name.place name.text (f ∷ g ∷ fs) (or_unit (unit_found name.place) es) called
    (or_unit_stand here locals name.place es stand)

-- ---- a mapping

sure_of : (a : Found) → a.faults ≡ [] → is_unsure_of a ≡ false
sure_of a h = ap (λ fs. has_some fs && has_never a.shape) h

-- what comes to a side of a closed shape has it
comes_to : (side s : Shape) → closed side ≡ true → is_some (join side s) ≡ true → fills s side ≡ true
comes_to side s whole h = by_join (join side s) refl h
  where
    by_join : (o : Option Shape) → join side s ≡ o → is_some o ≡ true → fills s side ≡ true
    by_join None is h = no h
    by_join (Some t) is h =
        let above = joins_are_above side s t is in
        subst (λ x. fills s x ≡ true) (exact side t 0 above.0 whole) above.1

way_shaped : (here : Position) (locals : Locals) (place : Place) (want from to : Shape) (number : ℕ) (a : Found)
    → ((registers : List Shape) (c : Choice) (w : World Value) → Inside here registers c w → (closed from ≡ true)
    × ((v : Value) → Fits here.setting.types c from v → GoesTo here registers c w c to (w.enter number v)))
    → is_some (join from a.shape) ≡ true → Shaped here locals a.shape a.core → a.faults ≡ []
    → (b : Bool) → is_unsure_of a ≡ b
    → FoundShaped here locals (if b then behind a.faults (unknown place) else direction_found place want number to a)
way_shaped here locals place want from to number a goes joined h fine true unsure e = absurd (true_false (sym unsure ∙ sure_of a fine))
  where
    true_false : true ≡ false → ⊥
    true_false h = cc
way_shaped here locals place want from to number a goes joined h fine false sure e =
    settled_node here locals place place want to (λ s. K.Call (C.Converts number)) (a.core ∷ []) (both_empty a.faults _ e).1
    (λ t registers c w inside slots seen.
    let reach : Reach = reach_of here.setting registers c slots in
    let k = goes registers c w inside in (
      from ∷ [],
      (has_filled w reach a.shape from a.core (comes_to from a.shape k.0 joined) (h registers c w inside slots seen), tt),
      (from, refl, λ v fit. k.1 v fit slots),
    ))

mapping_shaped : (here : Position) (locals : Locals) (want : Shape) (name : Name) (m : Mapping) (args : List Part) → MeantIn here (Some (M.Mapping m))
    → AllStandAt here locals (elaborations args) → FoundShaped here locals (name_called name (Some (M.Mapping m)) args here.setting locals want)
mapping_shaped here locals want name m args called stand e =
    by_side (which_side m a.shape)
    (side_facts (shares (shape m.left) (shape m.right)) (is_some (join (shape m.left) a.shape)) (is_some (join (shape m.right) a.shape))) e
  where
    a : Found
    a = (as_one name.place args).elaborate here.setting locals V.Never

    one : a.faults ≡ [] → Shaped here locals a.shape a.core
    one h = (as_one_stands here locals name.place args stand V.Never h).1

    by_side : (w : Which)
        → SideIs (shares (shape m.left) (shape m.right)) (is_some (join (shape m.left) a.shape)) (is_some (join (shape m.right) a.shape)) w
        → FoundShaped here locals (mapping_found name.place (as_one name.place args).place want m a w)
    by_side forwards side e =
        way_shaped here locals name.place want (shape m.left) (shape m.right) (2 * m.number) a
        (λ registers c w inside. ((called registers c w inside).left, (called registers c w inside).ahead)) side.1 (one (fine e)) (fine e) (is_unsure_of a)
        refl e
      where
        fine : (mapping_found name.place (as_one name.place args).place want m a forwards).faults ≡ [] → a.faults ≡ []
        fine e = by_sure (is_unsure_of a) e
          where
            by_sure : (b : Bool)
                → (if b then behind a.faults (unknown name.place) else direction_found name.place want (2 * m.number) (shape m.right) a).faults ≡ []
                → a.faults ≡ []
            by_sure true e = (both_empty a.faults [] e).0
            by_sure false e = (both_empty a.faults _ e).0
    by_side backwards side e =
        way_shaped here locals name.place want (shape m.right) (shape m.left) (suc (2 * m.number)) a
        (λ registers c w inside. ((called registers c w inside).right, (called registers c w inside).back)) side.1 (one (fine e)) (fine e) (is_unsure_of a)
        refl e
      where
        fine : (mapping_found name.place (as_one name.place args).place want m a backwards).faults ≡ [] → a.faults ≡ []
        fine e = by_sure (is_unsure_of a) e
          where
            by_sure : (b : Bool)
                → (if b then behind a.faults (unknown name.place) else direction_found name.place want (suc (2 * m.number)) (shape m.left) a).faults ≡ []
                → a.faults ≡ []
            by_sure true e = (both_empty a.faults [] e).0
            by_sure false e = (both_empty a.faults _ e).0
    by_side neither side e = not_none (both_empty a.faults _ e).1
    by_side either side e = not_none (both_empty a.faults _ e).1

-- ---- a name, whatever it means

name_by : (here : Position) (locals : Locals) (want : Shape) (name : Name) (args : List Part) (g : Option Global) (meant : Option Meant)
    → MeantAs here.names g meant → is_global_callee here.names.allowed g ≡ true → MeantIn here meant → AllStandAt here locals (elaborations args)
    → FoundShaped here locals (name_called name meant args here.setting locals want)
name_by here locals want name args (Some G.Constructor) meant m h called stand =
    subst (λ o. MeantIn here o → FoundShaped here locals (name_called name o args here.setting locals want)) (sym m.1)
    (λ k. callee_by here locals want name m.0 args (does_convert m.0.doing) k stand) called
name_by here locals want name args (Some (G.Function n)) meant m h called stand =
    let f = m h in
    subst (λ o. MeantIn here o → FoundShaped here locals (name_called name o args here.setting locals want)) (sym f.1)
    (λ k. callee_by here locals want name f.0 args (does_convert f.0.doing) k stand) called
name_by here locals want name args (Some (G.Direction n)) meant m h called stand =
    let f = m h in
    subst (λ o. MeantIn here o → FoundShaped here locals (name_called name o args here.setting locals want)) (sym f.1)
    (λ k. callee_by here locals want name f.0 args (does_convert f.0.doing) k stand) called
name_by here locals want name args (Some G.Builtin) meant m h called stand =
    subst (λ o. MeantIn here o → FoundShaped here locals (name_called name o args here.setting locals want)) (sym m.1)
    (λ k. row_by here locals want name (map member_candidate (row_members here.setting.types m.0)) (elaborations args) k stand) called
name_by here locals want name args (Some G.StateBuiltin) meant m h called stand =
    subst (λ o. MeantIn here o → FoundShaped here locals (name_called name o args here.setting locals want)) (sym m.1)
    (λ k. row_by here locals want name (map member_candidate (row_members here.setting.types m.0)) (elaborations args) k stand) called
name_by here locals want name args (Some (G.Mapping n)) meant m h called stand =
    let f = m h in
    subst (λ o. MeantIn here o → FoundShaped here locals (name_called name o args here.setting locals want)) (sym f.1)
    (λ k. mapping_shaped here locals want name f.0 args k stand) called
name_by here locals want name args (Some (G.Overload ns)) meant m h called stand =
    let f = m h in
    subst (λ o. MeantIn here o → FoundShaped here locals (name_called name o args here.setting locals want)) (sym f.1)
    (λ k. overload_shaped here locals want name f.0 args k stand) called
name_by here locals want name args g meant m h called stand = no h

-- a call of a name that the tables know as a callee
pub call_shaped : (here : Position) → AreKnown here.setting here.names → (locals : Locals) (name : Name) (args : List Part)
    → is_callee here.names name.text ≡ true → AllStandAt here locals (elaborations args) → IsShapedAt here locals (call_named name args)
call_shaped here known locals name args h stand want =
    name_by here locals want name args (here.names.known.value name.text) (here.setting.value name.text) (known.values name.text) h
    (λ registers c w inside. inside.callees name.text h) stand

-- ---- operators

pub prefix_shaped : (here : Position) (locals : Locals) (place : Place) (prefix : Prefix) (a : Part) → StandsAt here locals a.elaborate
    → IsShapedAt here locals (prefix_found place prefix a)
prefix_shaped here locals place prefix a stand want =
    several_shaped here locals want place (prefix_text prefix) (prefix_members here.setting prefix) (a.elaborate ∷ [])
    (λ registers c w inside. inside.prefixes prefix) (stand, tt)

-- an operator by its members
pub members_shaped : (here : Position) (locals : Locals) (want : Shape) (place : Place) (operator : Operator) (a b : Part)
    → StandsAt here locals a.elaborate → StandsAt here locals b.elaborate
    → FoundShaped here locals (several_called place (operator_text operator) (operator_members here.setting operator) (a.elaborate ∷ b.elaborate ∷ [])
    here.setting locals want)
members_shaped here locals want place operator a b one two =
    several_shaped here locals want place (operator_text operator) (operator_members here.setting operator) (a.elaborate ∷ b.elaborate ∷ [])
    (λ registers c w inside. inside.operators operator) (one, (two, tt))

-- one that isn't `&` or `|`
pub infix_shaped : (here : Position) (locals : Locals) (place : Place) (operator : Operator) (a b : Part) → logical_kind operator ≡ None
    → StandsAt here locals a.elaborate → StandsAt here locals b.elaborate → IsShapedAt here locals (infix_found place operator a b)
infix_shaped here locals place operator a b plain one two want =
    subst (λ o. FoundShaped here locals (infix_as place operator a b o here.setting locals want)) (sym plain)
    (members_shaped here locals want place operator a b one two)
