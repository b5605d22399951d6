-- Lists so far, with what is read behind them.
use Rattle.std.specs.Prelude.{List, ◌++◌}
use Rattle.sail_syntax.specs.declared.definitions.MappingClause.{MappingClause}
use Rattle.sail_syntax.specs.declared.definitions.Def.{Def}
use Rattle.sail_grammar.specs.Form.{Tree}
use Rattle.sail_grammar.specs.DefTrees.{mapping_clauses_tail, defs_of}

-- clauses of a mapping
abbrev pub clauses_behind : List MappingClause → Tree → List MappingClause
clauses_behind list t = list ++ mapping_clauses_tail t

-- definitions
abbrev pub defs_behind : List Def → Tree → List Def
defs_behind list t = list ++ defs_of t
