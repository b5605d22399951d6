-- What stands behind the first word of a definition.
use Rattle.sail_syntax.specs.declared.definitions.Def.{Def}
use Rattle.sail_grammar.specs.Symbol.{Sign}
use Rattle.sail_grammar.specs.Form.{Tree, Leaf, Pair, Left, Right}
use Rattle.sail_grammar.specs.DefTrees.{union_of, scattered_of}

abbrev pub union_clause_behind : Sign → Tree → Def
union_clause_behind word t = union_of (Pair (Leaf word) (Left t))

abbrev pub union_whole_behind : Sign → Tree → Def
union_whole_behind word t = union_of (Pair (Leaf word) (Right t))

abbrev pub scattered_union_behind : Sign → Tree → Def
scattered_union_behind word t = scattered_of (Pair (Leaf word) (Left t))

abbrev pub scattered_function_behind : Sign → Tree → Def
scattered_function_behind word t = scattered_of (Pair (Leaf word) (Right (Left t)))

abbrev pub scattered_mapping_behind : Sign → Tree → Def
scattered_mapping_behind word t = scattered_of (Pair (Leaf word) (Right (Right t)))
