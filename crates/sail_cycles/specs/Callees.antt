-- What an expression or a pattern can enter: the numbers of the functions and mappings that it names in calls and in patterns
-- (Sail language manual, "Functions", "Mappings", "Overloading").
use Rattle.std.specs.Prelude.{ℕ, List, [], ◌∷◌, ◌++◌, Option, Some, None}
use Rattle.sail_base.specs.declared.operators.Operator.{Operator}
use Rattle.sail_syntax.specs.declared.name.Name.{Name}
use Rattle.sail_syntax.specs.declared.patterns.Pat.{Pat}
use Rattle.sail_syntax.specs.declared.patterns.Joined.{Joined}
use Rattle.sail_syntax.specs.declared.patterns.Pat.TheOpen as P
use Rattle.sail_syntax.specs.declared.patterns.Pat.TheOpen.{Pat-F, Joined-F}
use Rattle.sail_syntax.specs.declared.patterns.Pat.TheFolds.{fold-Pat, fold-Joined}
use Rattle.sail_syntax.specs.declared.expressions.Exp.{Exp, fold-Exp}
use Rattle.sail_syntax.specs.declared.expressions.Exp.TheOpen as E
use Rattle.sail_syntax.specs.declared.expressions.Exp.TheOpen.{Exp-F, LExp-F, Stmt-F, Suffix-F, Case-F, FieldValue-F, Index-F, Range-F, Target-F}
use Rattle.sail_syntax.specs.declared.expressions.Exp.TheFolds.{fold-LExp, fold-Stmt, fold-Suffix, fold-Case, fold-FieldValue}
use Rattle.sail_syntax.specs.declared.expressions.Exp.TheFolds.{fold-Index, fold-Range, fold-Target}
use Rattle.sail_syntax.specs.declared.expressions.LExp.{LExp}
use Rattle.sail_syntax.specs.declared.expressions.Stmt.{Stmt}
use Rattle.sail_syntax.specs.declared.expressions.Suffix.{Suffix}
use Rattle.sail_syntax.specs.declared.expressions.Case.{Case}
use Rattle.sail_syntax.specs.declared.expressions.FieldValue.{FieldValue}
use Rattle.sail_syntax.specs.declared.expressions.Index.{Index}
use Rattle.sail_syntax.specs.declared.expressions.Range.{Range}
use Rattle.sail_syntax.specs.declared.expressions.Target.{Target}
use Rattle.sail_names.specs.declared.names.Global.{Global}
use Rattle.sail_names.specs.declared.names.Global.TheVariants as G
use Rattle.sail_cycles.specs.declared.expressions.Which.{Which}
use Rattle.sail_cycles.specs.declared.expressions.Which.TheVariants.{CallsAndPatterns, Patterns}
use Rattle.sail_names.specs.Known.{Known}
use Rattle.sail_names.specs.Patterns.{joined}

-- a direction stands for its mapping, an overload for all its members that are functions or mappings
abbrev pub callees_of_global : Option Global → List ℕ
callees_of_global (Some (G.Function number)) = number ∷ []
callees_of_global (Some (G.Mapping number)) = number ∷ []
callees_of_global (Some (G.Direction number)) = number ∷ []
callees_of_global (Some (G.Overload members)) = members
callees_of_global global = []

abbrev pub called : Which → Known → Name → List ℕ
called CallsAndPatterns known name = callees_of_global (known.value name.text)
called Patterns known name = []

abbrev pub operated : Which → Known → Operator → List ℕ
operated CallsAndPatterns known operator = known.overload operator
operated Patterns known operator = []

-- ---- patterns: a mapping, or a direction of one

abbrev pub mappings_of_global : Option Global → List ℕ
mappings_of_global (Some (G.Mapping number)) = number ∷ []
mappings_of_global (Some (G.Direction number)) = number ∷ []
mappings_of_global global = []

abbrev pub pattern_form : Known → Pat-F (List ℕ) (List ℕ) → List ℕ
pattern_form known (P.Construct name parts) = mappings_of_global (known.value name.text) ++ joined parts
pattern_form known (P.Group place brackets parts) = joined parts
pattern_form known (P.Concat place first second more) = (first ++ second) ++ joined more
pattern_form known (P.Cons place head tail) = head ++ tail
pattern_form known (P.As place part name) = part
pattern_form known (P.Typed place part typ) = part
pattern_form known form = []

abbrev pub joined_form : Joined-F (List ℕ) (List ℕ) → List ℕ
joined_form further = further.part

abbrev pub pattern_callees : Known → Pat → List ℕ
pattern_callees known = fold-Pat (List ℕ) (List ℕ) (pattern_form known) joined_form

abbrev pub joined_callees : Known → Joined → List ℕ
joined_callees known = fold-Joined (List ℕ) (List ℕ) (pattern_form known) joined_form

-- ---- expressions: calls, overloaded operators and patterns; a loop's measure can enter nothing

abbrev pub maybe : Option (List ℕ) → List ℕ
maybe None = []
maybe (Some part) = part

abbrev pub expression_form : Which → Known → Exp-F (List ℕ) (List ℕ) (List ℕ) (List ℕ) (List ℕ) (List ℕ) (List ℕ) (List ℕ) (List ℕ) → List ℕ
expression_form which known (E.Constant place literal) = []
expression_form which known (E.Variable name) = []
expression_form which known (E.Call name arguments) = called which known name ++ joined arguments
expression_form which known (E.Prefixed place prefix a) = a
expression_form which known (E.Infix place operator a b) = (a ++ b) ++ operated which known operator
expression_form which known (E.Leave place leaving a) = a
expression_form which known (E.Group place brackets items) = joined items
expression_form which known (E.Part place base suffixes) = base ++ joined suffixes
expression_form which known (E.Typed place a typ) = a
expression_form which known (E.Assign place target more a) = (target ++ joined more) ++ a
expression_form which known (E.Block place statements value) = joined statements ++ maybe value
expression_form which known (E.Let place pattern a b) = (a ++ pattern_callees known pattern) ++ b
expression_form which known (E.Var place name typ a b) = a ++ b
expression_form which known (E.If place a b c) = (a ++ b) ++ maybe c
expression_form which known (E.Choose place choosing a cases) = a ++ joined cases
expression_form which known (E.Foreach place name range a) = range ++ a
expression_form which known (E.Loop place looping measure a b) = a ++ b
expression_form which known (E.Update place base index a) = (base ++ index) ++ a
expression_form which known (E.Struct place name fields) = joined fields
expression_form which known (E.With place base fields) = base ++ joined fields
expression_form which known (E.OfType place asking typ) = []
expression_form which known (E.Assert place a text) = a

abbrev pub target_form : Which → Known → LExp-F (List ℕ) (List ℕ) (List ℕ) (List ℕ) (List ℕ) (List ℕ) (List ℕ) (List ℕ) (List ℕ) → List ℕ
target_form which known (E.ToName name) = []
target_form which known (E.ToCall name arguments) = called which known name ++ joined arguments
target_form which known (E.ToTuple place targets) = joined targets
target_form which known (E.ToPart place base suffixes) = base ++ joined suffixes

abbrev pub statement_form : Known → Stmt-F (List ℕ) (List ℕ) (List ℕ) (List ℕ) (List ℕ) (List ℕ) (List ℕ) (List ℕ) (List ℕ) → List ℕ
statement_form known (E.Evaluate a) = a
statement_form known (E.Define place pattern a) = a ++ pattern_callees known pattern
statement_form known (E.Declare place name typ a) = a

abbrev pub suffix_form : Suffix-F (List ℕ) (List ℕ) (List ℕ) (List ℕ) (List ℕ) (List ℕ) (List ℕ) (List ℕ) (List ℕ) → List ℕ
suffix_form (E.Field name) = []
suffix_form (E.At place index) = index

abbrev pub case_form : Known → Case-F (List ℕ) (List ℕ) (List ℕ) (List ℕ) (List ℕ) (List ℕ) (List ℕ) (List ℕ) (List ℕ) → List ℕ
case_form known part = (pattern_callees known part.pattern ++ maybe part.guard) ++ part.body

abbrev pub field_form : FieldValue-F (List ℕ) (List ℕ) (List ℕ) (List ℕ) (List ℕ) (List ℕ) (List ℕ) (List ℕ) (List ℕ) → List ℕ
field_form field = field.value

abbrev pub index_form : Index-F (List ℕ) (List ℕ) (List ℕ) (List ℕ) (List ℕ) (List ℕ) (List ℕ) (List ℕ) (List ℕ) → List ℕ
index_form index = index.first ++ maybe index.last

abbrev pub range_form : Range-F (List ℕ) (List ℕ) (List ℕ) (List ℕ) (List ℕ) (List ℕ) (List ℕ) (List ℕ) (List ℕ) → List ℕ
range_form range = (range.from ++ range.to) ++ maybe range.by

abbrev pub further_form : Target-F (List ℕ) (List ℕ) (List ℕ) (List ℕ) (List ℕ) (List ℕ) (List ℕ) (List ℕ) (List ℕ) → List ℕ
further_form further = further.to

abbrev pub expression_callees : Which → Known → Exp → List ℕ
expression_callees which known = fold-Exp (List ℕ) (List ℕ) (List ℕ) (List ℕ) (List ℕ) (List ℕ) (List ℕ) (List ℕ) (List ℕ)
    (expression_form which known) (target_form which known) (statement_form known) suffix_form (case_form known) field_form index_form range_form further_form

abbrev pub target_callees : Which → Known → LExp → List ℕ
target_callees which known = fold-LExp (List ℕ) (List ℕ) (List ℕ) (List ℕ) (List ℕ) (List ℕ) (List ℕ) (List ℕ) (List ℕ)
    (expression_form which known) (target_form which known) (statement_form known) suffix_form (case_form known) field_form index_form range_form further_form

abbrev pub statement_callees : Which → Known → Stmt → List ℕ
statement_callees which known = fold-Stmt (List ℕ) (List ℕ) (List ℕ) (List ℕ) (List ℕ) (List ℕ) (List ℕ) (List ℕ) (List ℕ)
    (expression_form which known) (target_form which known) (statement_form known) suffix_form (case_form known) field_form index_form range_form further_form

abbrev pub suffix_callees : Which → Known → Suffix → List ℕ
suffix_callees which known = fold-Suffix (List ℕ) (List ℕ) (List ℕ) (List ℕ) (List ℕ) (List ℕ) (List ℕ) (List ℕ) (List ℕ)
    (expression_form which known) (target_form which known) (statement_form known) suffix_form (case_form known) field_form index_form range_form further_form

abbrev pub case_callees : Which → Known → Case → List ℕ
case_callees which known = fold-Case (List ℕ) (List ℕ) (List ℕ) (List ℕ) (List ℕ) (List ℕ) (List ℕ) (List ℕ) (List ℕ)
    (expression_form which known) (target_form which known) (statement_form known) suffix_form (case_form known) field_form index_form range_form further_form

abbrev pub field_callees : Which → Known → FieldValue → List ℕ
field_callees which known = fold-FieldValue (List ℕ) (List ℕ) (List ℕ) (List ℕ) (List ℕ) (List ℕ) (List ℕ) (List ℕ) (List ℕ)
    (expression_form which known) (target_form which known) (statement_form known) suffix_form (case_form known) field_form index_form range_form further_form

abbrev pub index_callees : Which → Known → Index → List ℕ
index_callees which known = fold-Index (List ℕ) (List ℕ) (List ℕ) (List ℕ) (List ℕ) (List ℕ) (List ℕ) (List ℕ) (List ℕ)
    (expression_form which known) (target_form which known) (statement_form known) suffix_form (case_form known) field_form index_form range_form further_form

abbrev pub range_callees : Which → Known → Range → List ℕ
range_callees which known = fold-Range (List ℕ) (List ℕ) (List ℕ) (List ℕ) (List ℕ) (List ℕ) (List ℕ) (List ℕ) (List ℕ)
    (expression_form which known) (target_form which known) (statement_form known) suffix_form (case_form known) field_form index_form range_form further_form

abbrev pub further_callees : Which → Known → Target → List ℕ
further_callees which known = fold-Target (List ℕ) (List ℕ) (List ℕ) (List ℕ) (List ℕ) (List ℕ) (List ℕ) (List ℕ) (List ℕ)
    (expression_form which known) (target_form which known) (statement_form known) suffix_form (case_form known) field_form index_form range_form further_form
