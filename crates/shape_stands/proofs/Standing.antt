-- How a form stands by its rule: over parts that stand, behind what is wanted of it, and where a part is brought to the type that is wanted.
use Rattle.std.proofs.Common.{◌≡◌, inl, inr, ℕ, zero, suc, Bool, true, List, [], ◌∷◌, ◌++◌, refl, sym, subst, Option, Some, None}
use Rattle.sail_base.specs.declared.place.Place.{Place}
use Rattle.sail_types.specs.declared.shapes.Shape.{Shape}
use Rattle.sail_types.specs.declared.values.Value.{Value}
use Rattle.sail_core.specs.declared.targets.Target.{Target, Target-F}
use Rattle.sail_core.specs.declared.targets.Target.TheViews.{out-roll-Target}
use Rattle.sail_core.specs.declared.targets.TargetKind.{TargetKind}
use Rattle.sail_core.specs.declared.tree.Core.{Core, Core-F}
use Rattle.sail_core.specs.declared.tree.Core.TheViews.{out-roll-Core}
use Rattle.sail_core.specs.declared.tree.Kind.{Kind}
use Rattle.sail_core.specs.declared.tree.Kind.TheVariants as K
use Rattle.sail_core.specs.Making.{World}
use Rattle.shape_joins.specs.Filling.{fills}
use Rattle.shape_joins.specs.Joins.{join}
use Rattle.shape_joins.proofs.JoinsLeast.{joins_are_above}
use Rattle.shape_joins.proofs.Order.{fills_itself, fills_twice}
use Rattle.shape_rules.specs.declared.locals.Local.{Local}
use Rattle.shape_rules.specs.Findings.{Found, cast, over, settled, settled_as}
use Rattle.shape_rules.specs.Scopes.{Locals}
use Rattle.shape_rules.specs.Targets.{target}
use Rattle.shape_meanings.specs.Keeping.{Reach, SeenAs, reach_of}
use Rattle.shape_meanings.specs.Whole.{Choice}
use Rattle.shape_progress.specs.Rules.{IsShaped, IsUnreached, KindHas}
use Rattle.shape_progress.specs.TargetRules.{AllHave, TargetHas, TargetKindHas}
use Rattle.shape_stands.specs.Inside.{Inside, Position}
use Rattle.shape_stands.specs.Stands.{HasShape, Shaped, Stands}
use Rattle.shape_stands.proofs.Together.{kind_together}

-- ---- in one world

-- a node by its rule, also where its shape is filled
pub node_has : (w : World Value) (reach : Reach) (t s : Shape) (place : Place) (kind : Kind) (parts : List Core) → fills t s ≡ true
    → KindHas (HasShape w) w reach t kind parts → HasShape w reach s (over place kind parts)
node_has w reach t s place kind parts above h =
    let x = kind_together w reach t kind parts h in (
      suc x.0,
      inr (
        t,
        above,
        subst (λ (c : Core-F Core). KindHas (λ r q d. IsShaped x.0 w r q d) w reach t c.kind c.parts)
            (sym (out-roll-Core (record { place = place; number = 0; kind = kind; parts = parts }))) x.1,
      ),
    )

pub has_filled : (w : World Value) (reach : Reach) (t s : Shape) (c : Core) → fills t s ≡ true → HasShape w reach t c → HasShape w reach s c
has_filled w reach t s c above (zero, h) = absurd h
has_filled w reach t s c above (suc n, inl u) = (suc n, inl u)
has_filled w reach t s c above (suc n, inr h) = (suc n, inr (h.0, fills_twice h.0 t s h.1 above, h.2))

pub cast_has : (w : World Value) (reach : Reach) (s : Shape) (c : Core) (place : Place) → HasShape w reach s c → HasShape w reach s (cast c place)
cast_has w reach s c place h = node_has w reach s s place (K.Cast None) (c ∷ []) (fills_itself s) h

-- what isn't reached has each shape
pub unreached_has : (w : World Value) (reach : Reach) (s : Shape) (c : Core) → IsUnreached reach → HasShape w reach s c
unreached_has w reach s c u = (suc zero, inl u)

-- a target by the rule of its kind, over targets that are no deeper than this
pub target_has : (w : World Value) (reach : Reach) (P : Shape → Core → Type 0) (n : ℕ) (place : Place) (kind : TargetKind) (targets : List Target)
    (is_base : Bool) (s : Shape) (answer : Option Shape) (cs rest : List Core)
    → TargetKindHas (TargetHas n P w reach) P w reach kind targets is_base s answer cs rest
    → TargetHas (suc n) P w reach is_base s answer (target place kind targets) cs rest
target_has w reach P n place kind targets is_base s answer cs rest h =
    subst (λ (t : Target-F Target). TargetKindHas (TargetHas n P w reach) P w reach t.kind t.parts is_base s answer cs rest)
    (sym (out-roll-Target (record { place = place; number = 0; kind = kind; parts = targets }))) h

-- ---- in each world

pub filled : (here : Position) (locals : Locals) (t s : Shape) (c : Core) → fills t s ≡ true → Shaped here locals t c → Shaped here locals s c
filled here locals t s c above h registers choice w inside slots seen =
    has_filled w (reach_of here.setting registers choice slots) t s c above (h registers choice w inside slots seen)

pub cast_shaped : (here : Position) (locals : Locals) (s : Shape) (c : Core) (place : Place) → Shaped here locals s c → Shaped here locals s (cast c place)
cast_shaped here locals s c place h registers choice w inside slots seen =
    cast_has w (reach_of here.setting registers choice slots) s c place (h registers choice w inside slots seen)

-- a kind over its parts, by its rule
abbrev pub Ruled : Position → Locals → Shape → Kind → List Core → Type 0
Ruled here locals s kind parts =
    (registers : List Shape) (c : Choice) (w : World Value) → Inside here registers c w → (slots : List Local) → SeenAs slots locals
    → KindHas (HasShape w) w (reach_of here.setting registers c slots) s kind parts

pub ruled : (here : Position) (locals : Locals) (s : Shape) (place : Place) (kind : Kind) (parts : List Core) → Ruled here locals s kind parts
    → Shaped here locals s (over place kind parts)
ruled here locals s place kind parts h registers c w inside slots seen =
    node_has w (reach_of here.setting registers c slots) s s place kind parts (fills_itself s) (h registers c w inside slots seen)

no_faults : {A : Type 0} {x : A} {xs : List A} → (x ∷ xs) ≡ [] → ⊥
no_faults h = cc

settled_step : (here : Position) (locals : Locals) (place : Place) (want s : Shape) (core : Shape → Core) (o : Option Shape) → join s want ≡ o
    → (settled_as place want s core o).faults ≡ [] → ((t : Shape) → Shaped here locals s (core t))
    → Shaped here locals (settled_as place want s core o).shape (settled_as place want s core o).core
settled_step here locals place want s core None is e h = absurd (no_faults e)
settled_step here locals place want s core (Some t) is e h = filled here locals s t (core t) (joins_are_above s want t is).0 (h t)

-- what is settled to what is wanted of it
pub settled_shaped : (here : Position) (locals : Locals) (place : Place) (want s : Shape) (core : Shape → Core)
    → (settled place want s core).faults ≡ [] → ((t : Shape) → Shaped here locals s (core t))
    → Shaped here locals (settled place want s core).shape (settled place want s core).core
settled_shaped here locals place want s core e h = settled_step here locals place want s core (join s want) refl e h

above_step : (place : Place) (want s : Shape) (core : Shape → Core) (o : Option Shape) → join s want ≡ o → (settled_as place want s core o).faults ≡ []
    → fills want (settled_as place want s core o).shape ≡ true
above_step place want s core None is e = absurd (no_faults e)
above_step place want s core (Some t) is e = (joins_are_above s want t is).1

-- its shape is the wanted one, once filled
pub settled_above : (place : Place) (want s : Shape) (core : Shape → Core) → (settled place want s core).faults ≡ []
    → fills want (settled place want s core).shape ≡ true
settled_above place want s core e = above_step place want s core (join s want) refl e

-- a node that is settled so
pub settled_node : (here : Position) (locals : Locals) (place at_node : Place) (want s : Shape) (kind : Shape → Kind) (parts : List Core)
    → (settled place want s (λ t. over at_node (kind t) parts)).faults ≡ [] → ((t : Shape) → Ruled here locals s (kind t) parts)
    → Shaped here locals (settled place want s (λ t. over at_node (kind t) parts)).shape (settled place want s (λ t. over at_node (kind t) parts)).core
settled_node here locals place at_node want s kind parts e h =
    settled_shaped here locals place want s (λ t. over at_node (kind t) parts) e (λ t. ruled here locals s at_node (kind t) parts (h t))

-- ---- wanted shapes

-- what is found where an exact shape is wanted has it
pub has_wanted : (here : Position) (locals : Locals) (want s : Shape) (found : Found) → (fills want found.shape ≡ true → found.shape ≡ s)
    → Stands here locals want found → Shaped here locals s found.core
has_wanted here locals want s found exact h = subst (λ t. Shaped here locals t found.core) (exact h.0) h.1

-- several parts of their shapes
abbrev pub AllShaped : Position → Locals → List Shape → List Core → Type 0
AllShaped here locals ss cores =
    (registers : List Shape) (c : Choice) (w : World Value) → Inside here registers c w → (slots : List Local) → SeenAs slots locals
    → AllHave (HasShape w (reach_of here.setting registers c slots)) ss cores

pub more_shaped : (here : Position) (locals : Locals) (s : Shape) (ss : List Shape) (c : Core) (cs : List Core) → Shaped here locals s c
    → AllShaped here locals ss cs → AllShaped here locals (s ∷ ss) (c ∷ cs)
more_shaped here locals s ss c cs one others registers choice w inside slots seen =
    (one registers choice w inside slots seen, others registers choice w inside slots seen)

-- two lists that are empty together are each empty
pub both_empty : {A : Type 0} (xs ys : List A) → (xs ++ ys) ≡ [] → (xs ≡ []) × (ys ≡ [])
both_empty [] ys h = (refl, h)
both_empty (x ∷ xs) ys h = absurd (no_faults h)
