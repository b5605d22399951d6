-- Gathered definitions have one first failure of their tables, or none.
use Rattle.std.proofs.Common.{◌≡◌, ℕ, Bool, List, Option, None, refl}
use Rattle.sail_base.specs.declared.place.Place.{Place}
use Rattle.sail_cycles.specs.Cycles.{call_graph, pattern_graph}
use Rattle.sail_kinds.specs.Failures.{first_failure}
use Rattle.sail_kinds.specs.declared.error.TableError.{TableError}
use Rattle.known_names.specs.Meanings.{known_in}
use Rattle.sail_syntax.specs.declared.definitions.Def.{Def}
use Rattle.sail_tables.specs.Refused.{failures, IsFirstFailure}
use Rattle.sail_tables.proofs.OneFailure.{one_first_failure}
use Rattle.sail_compile.proofs.Reaching.{is_in_cycle, tells_cycles}

is_cyclic : List Def → ℕ → Bool
is_cyclic whole = is_in_cycle (call_graph (known_in whole) whole)

is_pattern_cyclic : List Def → ℕ → Bool
is_pattern_cyclic whole = is_in_cycle (pattern_graph (known_in whole) whole)

-- the first failure of definitions that end here
pub failure_of : List Def → Place → Option TableError
failure_of whole end = first_failure None (failures whole end (is_cyclic whole) (is_pattern_cyclic whole))

pub has_failure : (whole : List Def) (end : Place) → IsFirstFailure whole end (failure_of whole end)
unfolding failure_of is_cyclic is_pattern_cyclic
has_failure whole end = record {
  is_cyclic = is_cyclic whole;
  is_pattern_cyclic = is_pattern_cyclic whole;
  calls = tells_cycles (call_graph (known_in whole) whole);
  patterns = tells_cycles (pattern_graph (known_in whole) whole);
  first = refl;
}

pub failure_is : (whole : List Def) (end : Place) (failure : Option TableError) → IsFirstFailure whole end failure → failure_of whole end ≡ failure
failure_is whole end failure is = one_first_failure whole end (failure_of whole end) failure (has_failure whole end) is
