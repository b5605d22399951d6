-- How the local names are kept: a map from each name to how its innermost local is bound, and for each local how its name was
-- bound before.
use Rattle.std.specs.Prelude.{◌≡◌, ℕ, List, [], ◌∷◌, map, bytes_eq, Option, None, unwrap_or}
use Rattle.std.specs.Borrow.{Bor}
use Rattle.std.specs.HashMap.{HashMap, get_by}
use Rattle.sail_names.specs.declared.locals.Binding.{Binding}
use Rattle.sail_names.specs.declared.locals.Entered.{Entered}
use Rattle.sail_names.specs.Locals.{Local, binding_of}

abbrev pub local_of : Entered → Local
local_of entered = record { name = entered.name.now; binding = entered.binding }

-- how a name is bound by a map
abbrev pub bound_in : {S : Type 0} → HashMap (Bor (List ℕ)) (Option Binding) S → List ℕ → Option Binding
bound_in bindings name = unwrap_or (get_by (λ key. bytes_eq name key.now) bindings) None

-- each of these, the innermost first, has how its name was bound before
abbrev pub AreHidden : List Entered → Type 0
AreHidden [] = Unit {0}
AreHidden (entered ∷ outer) = (entered.hidden ≡ binding_of entered.name.now (map local_of outer)) × AreHidden outer

-- and the map has how each name is bound
pub record AreKept {S : Type 0} (bindings : HashMap (Bor (List ℕ)) (Option Binding) S) (entered : List Entered) : Type 0 where
  pub bound : (name : List ℕ) → bound_in bindings name ≡ binding_of name (map local_of entered)
  pub hidden : AreHidden entered
