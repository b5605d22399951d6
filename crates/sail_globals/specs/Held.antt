-- What maps of names hold: the members of enums, and in which roles a name is taken.
use Rattle.std.specs.Prelude.{◌≡◌, ℕ, Bool, true, ◌&&◌, List, [], ◌∷◌, bytes_eq, is_some, unwrap_or}
use Rattle.std.specs.Borrow.{Bor}
use Rattle.std.specs.HashMap.{HashMap, get_by}
use Rattle.std.specs.List.{list_all}
use Rattle.sail_globals.specs.declared.members.Members.{Members}
use Rattle.sail_globals.specs.declared.naming.Space.{Space}
use Rattle.sail_globals.specs.declared.naming.Space.TheVariants.{Types, Values, Measures}
use Rattle.sail_globals.specs.declared.naming.Role.{Role}
use Rattle.sail_globals.specs.declared.naming.Naming.{Naming}
use Rattle.sail_globals.specs.declared.held.Held.{Held}
use Rattle.sail_globals.specs.declared.held.Held.TheVariants.{Free, Once, Often}
use Rattle.sail_globals.specs.declared.held.Spaces.{Spaces}
use Rattle.sail_globals.specs.Clashes.{is_other_half, is_overloaded, taken}

-- whether one of the members has this name
abbrev pub has_member : Members → List ℕ → Bool
has_member members name = is_some (get_by (λ key. bytes_eq name key.now) members.names)

-- what is held of a name that is taken in these roles
abbrev pub held : List Role → Held
held [] = Free
held (role ∷ []) = Once role
held roles = Often (list_all is_overloaded roles)

-- what is held of a name once it is taken in one more
abbrev pub held_with : Held → Role → Held
held_with Free role = Once role
held_with (Once one) role = Often (is_overloaded one && is_overloaded role)
held_with (Often all) role = Often (all && is_overloaded role)

-- whether a name of which this is held may be taken in one more
abbrev pub admits : Held → Role → Bool
admits Free role = true
admits (Once one) role = is_other_half one role
admits (Often all) role = all && is_overloaded role

abbrev pub nothing_held : Spaces
nothing_held = record { types = Free; values = Free; measures = Free }

abbrev pub in_space : Spaces → Space → Held
in_space both Types = both.types
in_space both Values = both.values
in_space both Measures = both.measures

abbrev pub spaces_with : Spaces → Space → Role → Spaces
spaces_with both Types role = record both { types = held_with both.types role }
spaces_with both Values role = record both { values = held_with both.values role }
spaces_with both Measures role = record both { measures = held_with both.measures role }

-- what a map holds of a name
abbrev pub spaces_at : {S : Type 0} → HashMap (Bor (List ℕ)) Spaces S → List ℕ → Spaces
spaces_at names name = unwrap_or (get_by (λ key. bytes_eq name key.now) names) nothing_held

-- a map, read by name, holds of each name the roles in which these take it
abbrev pub AreHeld : List Naming → (List ℕ → Spaces) → Type 0
AreHeld earlier names = (space : Space) (name : List ℕ) → in_space (names name) space ≡ held (taken earlier space name)
