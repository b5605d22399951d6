-- Assignments by what stands on their left.
use Rattle.std.proofs.Common.{◌≡◌, ◌<◌, List, [], ◌∷◌, ◌++◌, length, Option, Some, None, refl, ap, arith}
use Rattle.sail_base.specs.declared.place.Place.{Place}
use Rattle.sail_syntax.specs.declared.name.Name.{Name}
use Rattle.sail_types.specs.declared.shapes.Shape.{Shape}
use Rattle.shape_rules.specs.Scopes.{Setting, Locals}
use Rattle.shape_rules.specs.Targets.{Part, TargetPart}
use Rattle.shape_rules.specs.Values.{call_named}
use Rattle.shape_rules.specs.Statements.{FurtherPart, assign_to, assign_as}

pub assigned_call : (place : Place) (t : TargetPart) (more : List FurtherPart) (value : Part) (call : Option (Name × List Part)) (name : Name)
    (args : List Part) (setting : Setting) (locals : Locals) (want : Shape) → length more < 1 → call ≡ Some (name, args)
    → assign_as place t more value call setting locals want ≡ call_named name (args ++ value ∷ []) setting locals want
assigned_call place t [] value call name args setting locals want none is =
    ap (λ (c : Option (Name × List Part)). assign_as place t [] value c setting locals want) is
assigned_call place t (f ∷ more) value call name args setting locals want none is = absurd (omega arith)

pub assigned_chain : (place : Place) (t : TargetPart) (more : List FurtherPart) (value : Part) (call : Option (Name × List Part))
    (setting : Setting) (locals : Locals) (want : Shape) → 0 < length more
    → assign_as place t more value call setting locals want ≡ assign_to place (t.aim setting locals) more value setting locals want
assigned_chain place t [] value call setting locals want some = absurd (omega arith)
assigned_chain place t (f ∷ more) value None setting locals want some = refl
assigned_chain place t (f ∷ more) value (Some call) setting locals want some = refl

pub assigned_plain : (place : Place) (t : TargetPart) (more : List FurtherPart) (value : Part) (call : Option (Name × List Part))
    (setting : Setting) (locals : Locals) (want : Shape) → call ≡ None
    → assign_as place t more value call setting locals want ≡ assign_to place (t.aim setting locals) more value setting locals want
assigned_plain place t [] value call setting locals want none =
    ap (λ (c : Option (Name × List Part)). assign_as place t [] value c setting locals want) none
assigned_plain place t (f ∷ more) value None setting locals want none = refl
assigned_plain place t (f ∷ more) value (Some call) setting locals want none = refl
