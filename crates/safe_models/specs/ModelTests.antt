-- The test of a model: its functions and the directions of its mappings pass those of their cores.
use Rattle.std.specs.List.{list_all}
use Rattle.std.specs.Prelude.{◌&&◌, Bool, true, List, [], Option, Some, None}
use Rattle.sail_types.specs.declared.numbers.Index.{Index}
use Rattle.sail_core.specs.declared.model.CoreModel.{CoreModel}
use Rattle.sail_core.specs.declared.model.Function.{Function}
use Rattle.sail_core.specs.declared.tree.Core.{Core}
use Rattle.pattern_leaves.specs.Settings.{Around}
use Rattle.constraint_gen.specs.Models.{around_of}
use Rattle.soundness_calls.specs.Premises.{own_of}
use Rattle.safe_models.specs.CoreTests.{clauses_fit, direction_fits}

abbrev pub measure_fits : Around → List Index → Option Core → Bool
measure_fits around numbers None = true
measure_fits around numbers (Some core) = clauses_fit around numbers true core

abbrev pub function_fits : Around → Function → Bool
function_fits around f = clauses_fit around (own_of f) f.is_declared f.body && measure_fits around (own_of f) f.measure

abbrev pub model_fits : CoreModel → Bool
model_fits m = list_all (function_fits (around_of m)) m.functions && list_all (direction_fits (around_of m) []) m.directions
