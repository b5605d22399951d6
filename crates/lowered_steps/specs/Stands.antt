-- Where a form stands, as the code that makes its code holds it.
use Rattle.std.specs.Prelude.{ℕ, List, [], ◌∷◌, ◌++◌, map, Option, Some, None, if◌then◌else◌}
use Rattle.std.specs.Str.{bytes_eq}
use Rattle.lowered_pieces.specs.Places.{Place}
use Rattle.lowered_pieces.specs.Forms.{Depths, Named, Stand, deeper}
use Rattle.lowered_steps.specs.declared.stands.Named.{Named as Held}
use Rattle.lowered_steps.specs.declared.stands.Scope.{Scope}
use Rattle.lowered_steps.specs.declared.stands.Scope.{Empty, Inside'}
use Rattle.lowered_steps.specs.declared.stands.Levels.{Levels}
use Rattle.lowered_steps.specs.declared.stands.Levels.{Outside, Within'}
use Rattle.lowered_steps.specs.declared.stands.Stand.{Stand as Standing}

abbrev pub named_of : Held → Named
named_of h = record { name = h.name.now; place = h.place }

-- the place of the first that has this name
abbrev pub place_found : List Named → List ℕ → Option Place
place_found [] name = None
place_found (x ∷ xs) name = if bytes_eq x.name name then Some x.place else place_found xs name

-- the names in scope, the newest first
abbrev pub scope_of : Scope → List Named
scope_of Empty = []
scope_of (Inside' names p outer) = map named_of names.now ++ scope_of outer

-- how deep the number of each variable stands
abbrev pub depths_of : Levels → Depths
depths_of Outside = record { here = 0; of = λ x. 0 }
depths_of (Within' notes p outer) = deeper notes.now (depths_of outer)

abbrev pub stand_of : Standing → Stand
stand_of s = record {
  scope = scope_of s.scope.now;
  temp = s.temp;
  on_throw = s.on_throw;
  on_no = s.on_no;
  depths = depths_of s.levels.now;
}
