-- Cores without the numbers of their cycles of calls.
use Rattle.std.specs.Prelude.{map, None}
use Rattle.sail_core.specs.declared.model.CoreModel.{CoreModel}
use Rattle.sail_core.specs.declared.model.Function.{Function}

abbrev pub without_cycle : Function → Function
without_cycle f = record f { cycle = None }

abbrev pub without_cycles : CoreModel → CoreModel
without_cycles core = record core { functions = map without_cycle core.functions }
