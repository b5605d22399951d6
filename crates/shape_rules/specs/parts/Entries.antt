-- How the local names are kept: a map from each name to the place of its innermost local among the names in scope, the outermost
-- first, and for each local the place of the one that it hides.
use Rattle.std.specs.Prelude.{◌≡◌, ℕ, List, [], ◌∷◌, length, bytes_eq, Option, Some, None, unwrap_or, option_map, slice_get, String, if◌then◌else◌}
use Rattle.std.specs.HashMap.{HashMap, get_by_text}
use Rattle.shape_rules.specs.declared.locals.Entered.{Entered}
use Rattle.shape_rules.specs.declared.locals.Local.{Local}

abbrev pub entered_local : Entered → Local
entered_local entered = entered.local

-- what stands at a place of some names, the outermost first
abbrev pub local_at : List Entered → ℕ → Option Local
local_at entered i = option_map entered_local (slice_get entered i)

-- the place of a name's innermost local among these, the innermost first
abbrev pub place_of : List ℕ → List Entered → Option ℕ
place_of name [] = None
place_of name (inner ∷ outer) = if bytes_eq inner.local.name name then Some (length outer) else place_of name outer

-- the place that a map has of a name
abbrev pub place_in : {Y S : Type 0} → HashMap (String Y) (Option ℕ) S → List ℕ → Option ℕ
place_in places name = unwrap_or (get_by_text places name) None

-- each of these, the innermost first, has the place of the one that it hides
abbrev pub AreHidden : List Entered → Type 0
AreHidden [] = Unit {0}
AreHidden (entered ∷ outer) = (entered.hidden ≡ place_of entered.local.name outer) × AreHidden outer

-- and the map has the place of each name
pub record AreKept {Y S : Type 0} (places : HashMap (String Y) (Option ℕ) S) (entered : List Entered) : Type 0 where
  pub found : (name : List ℕ) → place_in places name ≡ place_of name entered
  pub hidden : AreHidden entered
