-- Where a form stands: at its first token, an operator form at its operator, an index or a slice at its bracket.
use Rattle.std.specs.Prelude.{◌-◌, List, length, slice_get, Option, Some, None}
use Rattle.sail_base.specs.declared.place.Place.{Place}
use Rattle.sail_syntax.specs.declared.types.TyExp.{TyExp, out-TyExp}
use Rattle.sail_syntax.specs.declared.types.TyExp.TheOpen as T
use Rattle.sail_syntax.specs.declared.types.TyExp.TheOpen.{TyExp-F}
use Rattle.sail_syntax.specs.declared.patterns.Pat.{Pat, out-Pat}
use Rattle.sail_syntax.specs.declared.patterns.Pat.TheOpen as P
use Rattle.sail_syntax.specs.declared.patterns.Pat.TheOpen.{Pat-F}
use Rattle.sail_syntax.specs.declared.patterns.Joined.{Joined}
use Rattle.sail_syntax.specs.declared.expressions.Exp.{Exp, out-Exp}
use Rattle.sail_syntax.specs.declared.expressions.Exp.TheOpen as E
use Rattle.sail_syntax.specs.declared.expressions.Exp.TheOpen.{Exp-F, LExp-F, Stmt-F, Suffix-F}
use Rattle.sail_syntax.specs.declared.expressions.LExp.{LExp, out-LExp}
use Rattle.sail_syntax.specs.declared.expressions.Stmt.{Stmt, out-Stmt}
use Rattle.sail_syntax.specs.declared.expressions.Suffix.{Suffix, out-Suffix}
use Rattle.sail_syntax.specs.declared.expressions.Case.{Case}
use Rattle.sail_syntax.specs.declared.expressions.FieldValue.{FieldValue}
use Rattle.sail_syntax.specs.declared.expressions.Index.{Index}
use Rattle.sail_syntax.specs.declared.expressions.Range.{Range}
use Rattle.sail_syntax.specs.declared.expressions.Target.{Target}
use Rattle.sail_syntax.specs.declared.definitions.Def.{Def}
use Rattle.sail_syntax.specs.declared.definitions.Def.TheVariants as D

-- a type's place, by its form
abbrev pub type_form_place : TyExp-F TyExp → Place
type_form_place (T.Named name args) = name.place
type_form_place (T.Variable name) = name.place
type_form_place (T.Number place n) = place
type_form_place (T.Truth place b) = place
type_form_place (T.Prefix place prefix t) = place
type_form_place (T.Infix place operator t u) = place
type_form_place (T.OneOf place t ns) = place
type_form_place (T.Tuple place ts) = place
type_form_place (T.Exists place names c t) = place

-- a type's place
abbrev pub type_place : TyExp → Place
type_place t = type_form_place (out-TyExp t)

-- a pattern's place, by its form
abbrev pub pattern_form_place : Pat-F Pat Joined → Place
pattern_form_place (P.Wildcard place) = place
pattern_form_place (P.Constant place literal) = place
pattern_form_place (P.Negative place n) = place
pattern_form_place (P.Bind name) = name.place
pattern_form_place (P.Construct name ps) = name.place
pattern_form_place (P.Group place brackets ps) = place
pattern_form_place (P.Concat place p q more) = place
pattern_form_place (P.Cons place p q) = place
pattern_form_place (P.As place p name) = place
pattern_form_place (P.Typed place p t) = place

-- a pattern's place
abbrev pub pattern_place : Pat → Place
pattern_place p = pattern_form_place (out-Pat p)

-- what ends with this suffix, the first token being at `first`
abbrev pub suffix_form_place : Place → Suffix-F Exp LExp Stmt Suffix Case FieldValue Index Range Target → Place
suffix_form_place first (E.Field name) = first
suffix_form_place first (E.At place index) = place

-- the same, where there may be no suffix
abbrev pub suffix_place : Place → Option Suffix → Place
suffix_place first None = first
suffix_place first (Some s) = suffix_form_place first (out-Suffix s)

-- a base with its suffixes, by the last of them
abbrev pub part_place : Place → List Suffix → Place
part_place first suffixes = suffix_place first (slice_get suffixes (length suffixes - 1))

-- an expression's place, by its form
abbrev pub expression_form_place : Exp-F Exp LExp Stmt Suffix Case FieldValue Index Range Target → Place
expression_form_place (E.Constant place literal) = place
expression_form_place (E.Variable name) = name.place
expression_form_place (E.Call name args) = name.place
expression_form_place (E.Prefixed place prefix a) = place
expression_form_place (E.Infix place operator a b) = place
expression_form_place (E.Leave place leaving a) = place
expression_form_place (E.Group place brackets items) = place
expression_form_place (E.Part first base suffixes) = part_place first suffixes
expression_form_place (E.Typed place a t) = place
expression_form_place (E.Assign place target more a) = place
expression_form_place (E.Block place stmts a) = place
expression_form_place (E.Let place p a b) = place
expression_form_place (E.Var place name t a b) = place
expression_form_place (E.If place a b c) = place
expression_form_place (E.Choose place choosing a cases) = place
expression_form_place (E.Foreach place name range a) = place
expression_form_place (E.Loop place looping measure a b) = place
expression_form_place (E.Update place base index a) = place
expression_form_place (E.Struct place name fields) = place
expression_form_place (E.With place base fields) = place
expression_form_place (E.OfType place asking t) = place
expression_form_place (E.Assert place a text) = place

-- an expression's place
abbrev pub expression_place : Exp → Place
expression_place e = expression_form_place (out-Exp e)

-- a target's place, by its form
abbrev pub target_form_place : LExp-F Exp LExp Stmt Suffix Case FieldValue Index Range Target → Place
target_form_place (E.ToName name) = name.place
target_form_place (E.ToCall name args) = name.place
target_form_place (E.ToTuple place targets) = place
target_form_place (E.ToPart first base suffixes) = part_place first suffixes

-- a target's place
abbrev pub target_place : LExp → Place
target_place l = target_form_place (out-LExp l)

-- a statement's place, by its form
abbrev pub statement_form_place : Stmt-F Exp LExp Stmt Suffix Case FieldValue Index Range Target → Place
statement_form_place (E.Evaluate e) = expression_place e
statement_form_place (E.Define place p e) = place
statement_form_place (E.Declare place name t e) = place

-- a statement's place
abbrev pub statement_place : Stmt → Place
statement_place s = statement_form_place (out-Stmt s)

-- a definition's place, its first word
abbrev pub definition_place : Def → Place
definition_place (D.Order place) = place
definition_place (D.Alias place name variables kind t) = place
definition_place (D.Enum place name members) = place
definition_place (D.Struct place name variables fields) = place
definition_place (D.Union place name variables constructors) = place
definition_place (D.Val place name quantifier t arrow u) = place
definition_place (D.Function place extent name clauses) = place
definition_place (D.Measure place name params e) = place
definition_place (D.Mapping place name sides clauses) = place
definition_place (D.Let place p e) = place
definition_place (D.Register place name t e) = place
definition_place (D.Overload place overloaded members) = place
definition_place (D.ScatteredUnion place name variables) = place
definition_place (D.ScatteredFunction place name) = place
definition_place (D.ScatteredMapping place name) = place
definition_place (D.UnionClause place name member) = place
definition_place (D.FunctionClause name clause) = clause.place
definition_place (D.MappingClause place name clause) = place
definition_place (D.End place name) = place
