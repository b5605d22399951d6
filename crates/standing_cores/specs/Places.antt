-- Where casts and guards stand in an expression, whatever its literals are; and what its kinds ask by themselves.
use Rattle.std.specs.Prelude.{◌≡◌, Bool, true, false, ◌&&◌, length}
use Rattle.std.specs.List.{list_all}
use Rattle.sail_core.specs.declared.tree.Core.{Core, Core-F, fold-Core}
use Rattle.pattern_leaves.specs.Settings.{Around}
use Rattle.shape_rules.specs.Calls.{Elaborate}
use Rattle.shape_rules.specs.Scopes.{Locals, Setting}
use Rattle.sail_kinds.specs.Scopes.{Within}
use Rattle.sail_types.specs.declared.shapes.Shape.{Shape}
use Rattle.soundness_forms.specs.Standing.{Standing, is_cast, is_guard, kind_stands, parts_right}

abbrev pub node_places : Core-F Standing → Standing
node_places c = record { cast = is_cast c.kind; guard = is_guard c.kind; right = parts_right c.kind c.parts }

abbrev pub places : Core → Standing
places = fold-Core Standing node_places

abbrev pub node_kinds : Around → Core-F Bool → Bool
node_kinds around c = kind_stands around c.kind (length c.parts) && list_all (λ b. b) c.parts

-- literals are within their limits, nodes have as many parts as their definitions ask, and nothing is of later trees
abbrev pub kinds_stand : Around → Core → Bool
kinds_stand around = fold-Core Bool (node_kinds around)

-- a value that another node may be made of
pub record IsPlain (s : Standing) : Type 0 where
  pub right : s.right ≡ true
  pub cast : s.cast ≡ false
  pub guard : s.guard ≡ false

-- what is found stands so in settings whose types are read thus, whatever is wanted of it
abbrev pub Reads : Within → Setting → Type 0
Reads within setting = setting.within ≡ within

abbrev pub StandsRight : Within → Elaborate → Type 0
StandsRight within e = (setting : Setting) → Reads within setting → (locals : Locals) (want : Shape) → IsPlain (places (e setting locals want).core)
