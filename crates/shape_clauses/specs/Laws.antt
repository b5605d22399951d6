-- What the numbers of a mapping's nodes are for: each tells one node of both directions.
use Rattle.std.specs.Prelude.{◌++◌, List}
use Rattle.sail_base.specs.declared.place.Place.{Place}
use Rattle.sail_syntax.specs.declared.definitions.MappingClause.{MappingClause}
use Rattle.sail_core.specs.Nodes.{AllDiffer, numbers}
use Rattle.shape_rules.specs.declared.callees.Mapping.{Mapping}
use Rattle.shape_rules.specs.Scopes.{Setting}
use Rattle.shape_clauses.specs.Mappings.{forwards_core, backwards_core}

-- in a mapping no number stands twice
abbrev pub DirectionsDiffer : Type 0
DirectionsDiffer = (setting : Setting) (place : Place) (m : Mapping) (cs : List MappingClause)
    → AllDiffer (numbers (forwards_core setting place m cs).body ++ numbers (backwards_core setting place m cs).body)
