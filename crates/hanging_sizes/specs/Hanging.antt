-- Tables of types in which payloads of unions without Type variables name none (Sail language manual, "Type variables").
use Rattle.std.specs.Prelude.{nat_lt, Bool, ◌||◌}
use Rattle.std.specs.List.{list_all}
use Rattle.sail_types.specs.Named.{form_constructors}
use Rattle.sail_types.specs.declared.table.Definition.{Definition}
use Rattle.sail_types.specs.declared.table.Types.{Types}
use Rattle.call_arguments.specs.Callees.{is_typeless, type_parameters}

-- payloads of a union without Type variables name none
abbrev pub is_alone : Definition → Bool
is_alone d = nat_lt 0 (type_parameters d.parameters) || list_all (λ f. is_typeless f.typ) (form_constructors d.form)

abbrev pub payloads_alone : Types → Bool
payloads_alone types = list_all is_alone types.definitions
