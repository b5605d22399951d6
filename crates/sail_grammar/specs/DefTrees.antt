-- What the trees of definitions stand for.
use Rattle.std.specs.Prelude.{ℕ, List, [], ◌∷◌, Option, Some, None, bytes_eq, codes, if◌then◌else◌}
use Rattle.sail_base.specs.declared.kind.Kind.{Kind}
use Rattle.sail_base.specs.declared.kind.Kind.TheVariants as N
use Rattle.sail_lex.specs.declared.kind.TokenKind.{TokenKind}
use Rattle.sail_lex.specs.declared.kind.TokenKind.TheVariants as K
use Rattle.sail_syntax.specs.declared.name.Name.{Name}
use Rattle.sail_syntax.specs.declared.words.Arrow.{Arrow}
use Rattle.sail_syntax.specs.declared.words.Arrow.TheVariants as A
use Rattle.sail_syntax.specs.declared.words.Extent.TheVariants.{Whole}
use Rattle.sail_syntax.specs.declared.definitions.Def.{Def}
use Rattle.sail_syntax.specs.declared.definitions.Def.TheVariants as V
use Rattle.sail_syntax.specs.declared.definitions.Param.{Param}
use Rattle.sail_syntax.specs.declared.definitions.Quantifier.{Quantifier}
use Rattle.sail_syntax.specs.declared.definitions.Member.{Member}
use Rattle.sail_syntax.specs.declared.definitions.Sides.{Sides}
use Rattle.sail_syntax.specs.declared.definitions.Side.{Side}
use Rattle.sail_syntax.specs.declared.definitions.FunctionClause.{FunctionClause}
use Rattle.sail_syntax.specs.declared.definitions.MappingClause.{MappingClause}
use Rattle.sail_syntax.specs.declared.definitions.Overloaded.{Overloaded}
use Rattle.sail_syntax.specs.declared.definitions.Overloaded.TheVariants as O
use Rattle.sail_grammar.specs.Form.{Tree, Pair, Left, Right}
use Rattle.sail_grammar.specs.Leaves.{nowhere, first_place, place_at, kind_at, text_at, name_at}
use Rattle.sail_grammar.specs.TypeTrees.{typ_of}
use Rattle.sail_grammar.specs.PatternTrees.{pattern_of, pattern_list_of}
use Rattle.sail_grammar.specs.ExpTrees.{exp_of, behind_word, typ_if, operator_of}

-- what a tree of no definition stands for
abbrev pub no_def : Def
no_def = V.Order nowhere

-- the kind that is spelled so
abbrev pub kind_of_text : List ℕ → Kind
kind_of_text text = if bytes_eq text (codes "Bool") then N.Bool else (if bytes_eq text (codes "Type") then N.Type else N.Int)

-- row KindMark: the kind that is written, if one is
abbrev pub kind_if : Tree → Option Kind
kind_if (Left (Pair colon t)) = Some (kind_of_text (text_at t))
kind_if t = None

-- without one it is `Int`
abbrev pub kind_or : Option Kind → Kind
kind_or None = N.Int
kind_or (Some kind) = kind

-- row Names and its tails
abbrev pub names_tail : Tree → List Name
names_tail (Left (Pair comma (Left (Pair next more)))) = name_at next ∷ names_tail more
names_tail t = []

abbrev pub names_of : Tree → List Name
names_of (Pair first more) = name_at first ∷ names_tail more
names_of t = []

-- row Member
abbrev pub member_of : Tree → Member
member_of (Pair name (Pair colon typ)) = record { name = name_at name; typ = typ_of typ }
member_of t = record { name = name_at t; typ = typ_of t }

-- row Members and its tails
abbrev pub members_tail : Tree → List Member
members_tail (Left (Pair comma (Left (Pair next more)))) = member_of next ∷ members_tail more
members_tail t = []

abbrev pub members_of : Tree → List Member
members_of (Pair first more) = member_of first ∷ members_tail more
members_of t = []

-- row Parameter
abbrev pub parameter_of : Tree → Param
parameter_of (Pair variable kind) = record { name = name_at variable; kind = kind_or (kind_if kind) }
parameter_of t = record { name = name_at t; kind = N.Int }

-- row Parameters and its tail
abbrev pub parameters_tail : Tree → List Param
parameters_tail (Left (Pair comma (Pair next more))) = parameter_of next ∷ parameters_tail more
parameters_tail t = []

abbrev pub parameters_of : Tree → List Param
parameters_of (Left (Pair bracket (Pair first (Pair more close)))) = parameter_of first ∷ parameters_tail more
parameters_of t = []

-- row QuantifiedVariable
abbrev pub variable_of : Tree → Param
variable_of (Right (Pair bracket (Pair variable (Pair colon (Pair kind close))))) = record { name = name_at variable; kind = kind_of_text (text_at kind) }
variable_of (Left variable) = record { name = name_at variable; kind = N.Int }
variable_of t = record { name = name_at t; kind = N.Int }

-- row QuantifiedVariables
abbrev pub variables_of : Tree → List Param
variables_of (Left (Pair first more)) = variable_of first ∷ variables_of more
variables_of t = []

-- row Quantifier, if it is there
abbrev pub quantifier_if : Tree → Quantifier
quantifier_if (Left (Pair word (Pair variables (Pair constraint dot)))) = record { variables = variables_of variables; constraint = typ_if constraint }
quantifier_if t = record { variables = []; constraint = None }

-- row EnumBars
abbrev pub bars_of : Tree → List Name
bars_of (Left (Pair bar (Pair next more))) = name_at next ∷ bars_of more
bars_of t = []

-- the members of an enum, in braces or between `|`
abbrev pub enum_members_of : Tree → List Name
enum_members_of (Left (Pair bracket (Pair names close))) = names_of names
enum_members_of (Right (Pair first more)) = name_at first ∷ bars_of more
enum_members_of t = []

-- the types of a mapping's sides, if they are there
abbrev pub sides_if : Tree → Option Sides
sides_if (Left (Pair colon (Pair left (Pair arrow right)))) = Some (record { left = typ_of left; right = typ_of right })
sides_if t = None

-- row MappingSide
abbrev pub side_of : Tree → Side
side_of (Pair pattern guard) = record { pattern = pattern_of pattern; guard = behind_word guard }
side_of t = record { pattern = pattern_of t; guard = None }

-- row MappingClause
abbrev pub mapping_clause_of : Tree → MappingClause
mapping_clause_of (Pair left (Pair arrow right)) = record { place = first_place left; left = side_of left; right = side_of right }
mapping_clause_of t = record { place = nowhere; left = side_of t; right = side_of t }

-- row MappingClauses and its tails
abbrev pub mapping_clauses_tail : Tree → List MappingClause
mapping_clauses_tail (Left (Pair comma (Right (Pair next more)))) = mapping_clause_of next ∷ mapping_clauses_tail more
mapping_clauses_tail t = []

abbrev pub mapping_clauses_of : Tree → List MappingClause
mapping_clauses_of (Pair first more) = mapping_clause_of first ∷ mapping_clauses_tail more
mapping_clauses_of t = []

abbrev pub arrow_of : TokenKind → Arrow
arrow_of K.DoubleArrow = A.Mapping
arrow_of kind = A.Function

-- what an `overload` gives members to
abbrev pub overloaded_of : Tree → Overloaded
overloaded_of (Right (Pair word operator)) = O.Operator (place_at operator) (operator_of (kind_at operator))
overloaded_of (Left name) = O.Named (name_at name)
overloaded_of t = O.Named (name_at t)

-- a function's definition, in one piece or as one clause of a scattered one
abbrev pub function_as : Tree → Tree → Name → FunctionClause → Def
function_as word (Left clause_word) name clause = V.FunctionClause name clause
function_as word t name clause = V.Function (place_at word) Whole name (clause ∷ [])

-- row OrderDefinition
abbrev pub order_of : Tree → Def
order_of (Pair word t) = V.Order (place_at word)
order_of t = no_def

-- row TypeDefinition
abbrev pub alias_of : Tree → Def
alias_of (Pair word (Pair name (Pair parameters (Pair kind (Pair equal typ))))) =
    V.Alias (place_at word) (name_at name) (parameters_of parameters) (kind_if kind) (typ_of typ)
alias_of t = no_def

-- row EnumDefinition
abbrev pub enum_of : Tree → Def
enum_of (Pair word (Pair name (Pair equal members))) = V.Enum (place_at word) (name_at name) (enum_members_of members)
enum_of t = no_def

-- row StructDefinition
abbrev pub struct_definition_of : Tree → Def
struct_definition_of (Pair word (Pair name (Pair parameters (Pair equal (Pair bracket (Pair members close)))))) =
    V.Struct (place_at word) (name_at name) (parameters_of parameters) (members_of members)
struct_definition_of t = no_def

-- row UnionDefinition
abbrev pub union_of : Tree → Def
union_of (Pair word (Left (Pair clause_word (Pair name (Pair equal member))))) = V.UnionClause (place_at word) (name_at name) (member_of member)
union_of (Pair word (Right (Pair name (Pair parameters (Pair equal (Pair bracket (Pair members close))))))) =
    V.Union (place_at word) (name_at name) (parameters_of parameters) (members_of members)
union_of t = no_def

-- row ValDefinition
abbrev pub val_of : Tree → Def
val_of (Pair word (Pair name (Pair colon (Pair quantifier (Pair from (Pair arrow to)))))) =
    V.Val (place_at word) (name_at name) (quantifier_if quantifier) (typ_of from) (arrow_of (kind_at arrow)) (typ_of to)
val_of t = no_def

-- row FunctionDefinition
abbrev pub function_of : Tree → Def
function_of (Pair word (Pair clause_word (Pair name (Pair parameters (Pair result (Pair equal body)))))) =
    function_as word clause_word (name_at name)
    (record { place = place_at word; parameters = pattern_list_of parameters; result = typ_if result; body = exp_of body })
function_of t = no_def

-- row MeasureDefinition
abbrev pub measure_definition_of : Tree → Def
measure_definition_of (Pair word (Pair name (Pair parameters (Pair equal value)))) =
    V.Measure (place_at word) (name_at name) (pattern_list_of parameters) (exp_of value)
measure_definition_of t = no_def

-- row MappingDefinition
abbrev pub mapping_of : Tree → Def
mapping_of (Pair word (Left (Pair clause_word (Pair name (Pair equal clause))))) = V.MappingClause (place_at word) (name_at name) (mapping_clause_of clause)
mapping_of (Pair word (Right (Pair name (Pair sides (Pair equal (Pair bracket clauses)))))) =
    V.Mapping (place_at word) (name_at name) (sides_if sides) (mapping_clauses_of clauses)
mapping_of t = no_def

-- row LetDefinition
abbrev pub let_definition_of : Tree → Def
let_definition_of (Pair word (Pair pattern (Pair equal value))) = V.Let (place_at word) (pattern_of pattern) (exp_of value)
let_definition_of t = no_def

-- row RegisterDefinition
abbrev pub register_of : Tree → Def
register_of (Pair word (Pair name (Pair colon (Pair typ initial)))) = V.Register (place_at word) (name_at name) (typ_of typ) (behind_word initial)
register_of t = no_def

-- row OverloadDefinition
abbrev pub overload_of : Tree → Def
overload_of (Pair word (Pair what (Pair equal (Pair bracket (Pair names close))))) = V.Overload (place_at word) (overloaded_of what) (names_of names)
overload_of t = no_def

-- row ScatteredDefinition
abbrev pub scattered_of : Tree → Def
scattered_of (Pair word (Left (Pair union_word (Pair name parameters)))) = V.ScatteredUnion (place_at word) (name_at name) (parameters_of parameters)
scattered_of (Pair word (Right (Left (Pair function_word name)))) = V.ScatteredFunction (place_at word) (name_at name)
scattered_of (Pair word (Right (Right (Pair mapping_word name)))) = V.ScatteredMapping (place_at word) (name_at name)
scattered_of t = no_def

-- row EndDefinition
abbrev pub end_of : Tree → Def
end_of (Pair word name) = V.End (place_at word) (name_at name)
end_of t = no_def

-- row Definition
abbrev pub def_of : Tree → Def
def_of (Left t) = order_of t
def_of (Right (Left t)) = alias_of t
def_of (Right (Right (Left t))) = enum_of t
def_of (Right (Right (Right (Left t)))) = struct_definition_of t
def_of (Right (Right (Right (Right (Left t))))) = union_of t
def_of (Right (Right (Right (Right (Right (Left t)))))) = val_of t
def_of (Right (Right (Right (Right (Right (Right (Left t))))))) = function_of t
def_of (Right (Right (Right (Right (Right (Right (Right (Left t)))))))) = measure_definition_of t
def_of (Right (Right (Right (Right (Right (Right (Right (Right (Left t))))))))) = mapping_of t
def_of (Right (Right (Right (Right (Right (Right (Right (Right (Right (Left t)))))))))) = let_definition_of t
def_of (Right (Right (Right (Right (Right (Right (Right (Right (Right (Right (Left t))))))))))) = register_of t
def_of (Right (Right (Right (Right (Right (Right (Right (Right (Right (Right (Right (Left t)))))))))))) = overload_of t
def_of (Right (Right (Right (Right (Right (Right (Right (Right (Right (Right (Right (Right (Left t))))))))))))) = scattered_of t
def_of (Right (Right (Right (Right (Right (Right (Right (Right (Right (Right (Right (Right (Right t))))))))))))) = end_of t
def_of t = no_def

-- row Definitions
abbrev pub defs_of : Tree → List Def
defs_of (Left (Pair first more)) = def_of first ∷ defs_of more
defs_of t = []
