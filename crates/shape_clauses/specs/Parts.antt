-- What the contracts of private functions say.
use Rattle.std.specs.Prelude.{List, [], ◌∷◌, ◌++◌, Option, Some, None}
use Rattle.sail_base.specs.declared.place.Place.{Place}
use Rattle.sail_types.specs.declared.shapes.Shape.TheVariants as V
use Rattle.sail_core.specs.declared.tree.Kind.TheVariants as K
use Rattle.sail_core.specs.declared.tree.Core.{Core}
use Rattle.shape_rules.specs.Findings.{over}
use Rattle.shape_rules.specs.Scopes.{Setting, Locals}
use Rattle.shape_rules.specs.Targets.{Part}

-- a guard's core, where there is one
abbrev pub guard_cores : Option Part → Setting → Locals → List Core
guard_cores None setting locals = []
guard_cores (Some guard) setting locals = (guard.elaborate setting locals V.Bool).core ∷ []

-- what a guard that stands here guards, behind the guard's core
abbrev pub guarded_at : Option Place → List Core → Core → Core
guarded_at None cores core = core
guarded_at (Some place) cores core = over place K.When (cores ++ core ∷ [])
