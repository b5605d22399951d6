-- How a core can end: one that decides ends neither by saying No nor by throwing. Only guards and clauses say No, and arms hand it on no further, so an
-- expression that has none but in arms says none (Sail language manual, "Pattern matching", "Exceptions"). It assigns nothing, as plain expressions do.
use Rattle.std.specs.Prelude.{◌≡◌, Bool, true, false, ◌&&◌, ◌||◌, List, [], ◌∷◌}
use Rattle.sail_types.specs.declared.shapes.Shape.{Shape}
use Rattle.sail_core.specs.declared.tree.Core.{Core, fold-Core}
use Rattle.sail_core.specs.declared.tree.Kind.{Kind}
use Rattle.sail_core.specs.declared.tree.Kind.TheVariants as K
use Rattle.shape_rules.specs.Calls.{Elaborate}
use Rattle.shape_rules.specs.Scopes.{Locals, Setting}

pub record Ends : Type 0 where
  -- neither with No, nor with what is thrown
  pub alone : Bool
  -- not with what is thrown
  pub as_arm : Bool

abbrev pub all_alone : List Ends → Bool
all_alone [] = true
all_alone (e ∷ es) = e.alone && all_alone es

abbrev pub all_arms : List Ends → Bool
all_arms [] = true
all_arms (e ∷ es) = e.as_arm && all_arms es

abbrev pub alone_kind : Kind → List Ends → Bool
alone_kind K.When es = false
alone_kind (K.Clauses arms) es = false
alone_kind K.Throw es = false
alone_kind (K.Try arms s) es = false
alone_kind (K.Assign targets) es = false
alone_kind (K.Match arms s) (e ∷ es) = e.alone && all_arms es
alone_kind kind es = all_alone es

abbrev pub is_guarded : Kind → Bool
is_guarded K.When = true
is_guarded kind = false

abbrev pub ends_kind : Kind → List Ends → Ends
ends_kind kind es =
    record { alone = alone_kind kind es; as_arm = alone_kind kind es || (is_guarded kind && all_alone es) }

abbrev pub ends : Core → Ends
ends = fold-Core Ends (λ c. ends_kind c.kind c.parts)

abbrev pub decides : Core → Bool
decides c = (ends c).alone

-- what is found decides, whatever is wanted of it
abbrev pub IsFine : Elaborate → Type 0
IsFine e = (setting : Setting) (locals : Locals) (want : Shape) → decides (e setting locals want).core ≡ true
