-- What the parts of definitions stand for.
use Rattle.std.specs.Prelude.{Bool, true, false, [], ◌∷◌}
use Rattle.sail_base.specs.declared.place.Place.{Place}
use Rattle.sail_syntax.specs.declared.name.Name.{Name}
use Rattle.sail_syntax.specs.declared.words.Extent.TheVariants.{Whole}
use Rattle.sail_syntax.specs.declared.definitions.Def.{Def}
use Rattle.sail_syntax.specs.declared.definitions.Def.TheVariants as V
use Rattle.sail_syntax.specs.declared.definitions.FunctionClause.{FunctionClause}
use Rattle.sail_grammar.specs.Symbol.{Sign}
use Rattle.sail_lex.specs.declared.kind.TokenKind.TheVariants as K
use Rattle.sail_grammar.specs.declared.mode.Mode.TheVariants.{Full}
use Rattle.sail_grammar.specs.RowName.{Typ}
use Rattle.sail_grammar.specs.Table.{word, nothing}
use Rattle.sail_grammar.specs.Form.{Form, Row, ◌or◌, ◌then◌, Tree, Leaf, Pair, Left, Right}
use Rattle.sail_grammar.specs.DefTrees.{mapping_of}

-- the types of a mapping's sides, or nothing
abbrev pub typed_sides : Form
typed_sides = word K.Colon then Row (Typ Full) then word K.DoubleArrow then Row (Typ Full) or nothing

-- whether a part that may be left out is there
abbrev pub is_there : Tree → Bool
is_there (Left t) = true
is_there t = false

-- a clause of a scattered function, or a function of one clause
abbrev pub function_made : Bool → Place → Name → FunctionClause → Def
function_made true place name clause = V.FunctionClause name clause
function_made false place name clause = V.Function place Whole name (clause ∷ [])

-- what stands behind the first word of a definition
abbrev pub mapping_clause_behind : Sign → Tree → Def
mapping_clause_behind word t = mapping_of (Pair (Leaf word) (Left t))

abbrev pub mapping_whole_behind : Sign → Tree → Def
mapping_whole_behind word t = mapping_of (Pair (Leaf word) (Right t))
