-- The failures of the names, types, fields and loops of an expression, by the form of each part and the names in scope there
-- (Sail language manual, "Variables and assignment", "Pattern matching", "Functions", "Structs", "Loops", "Exceptions").
use Rattle.std.specs.Prelude.{ℕ, Bool, true, false, List, [], ◌∷◌, ◌++◌, map, codes, Option, Some, None}
use Rattle.sail_base.specs.declared.kind.Kind.{Kind}
use Rattle.sail_base.specs.declared.kind.Kind.TheVariants as K
use Rattle.sail_base.specs.declared.place.Place.{Place}
use Rattle.sail_kinds.specs.declared.error.TableError.{TableError}
use Rattle.sail_kinds.specs.declared.error.TableError.TheVariants as error
use Rattle.sail_syntax.specs.declared.name.Name.{Name}
use Rattle.sail_syntax.specs.declared.types.TyExp.{TyExp}
use Rattle.sail_syntax.specs.declared.words.Asking.{Asking}
use Rattle.sail_syntax.specs.declared.words.Asking.TheVariants.{Sizeof, Constraint}
use Rattle.sail_syntax.specs.declared.words.Leaving.{Leaving}
use Rattle.sail_syntax.specs.declared.words.Leaving.TheVariants.{Throw}
use Rattle.sail_syntax.specs.declared.words.Looping.{Looping}
use Rattle.sail_syntax.specs.declared.words.Looping.TheVariants.{While, Repeat}
use Rattle.sail_syntax.specs.declared.expressions.Exp.{Exp, fold-Exp}
use Rattle.sail_syntax.specs.declared.expressions.Exp.TheOpen as E
use Rattle.sail_syntax.specs.declared.expressions.Exp.TheOpen.{Exp-F, LExp-F, Stmt-F, Suffix-F, Case-F, FieldValue-F, Index-F, Range-F, Target-F}
use Rattle.sail_syntax.specs.declared.expressions.Exp.TheFolds.{fold-LExp, fold-Stmt, fold-Suffix, fold-Case, fold-FieldValue}
use Rattle.sail_syntax.specs.declared.expressions.Exp.TheFolds.{fold-Index, fold-Range, fold-Target}
use Rattle.sail_syntax.specs.declared.expressions.LExp.{LExp}
use Rattle.sail_syntax.specs.declared.expressions.Stmt.{Stmt}
use Rattle.sail_syntax.specs.declared.expressions.Suffix.{Suffix}
use Rattle.sail_syntax.specs.declared.expressions.Case.{Case}
use Rattle.sail_syntax.specs.declared.expressions.FieldValue.{FieldValue}
use Rattle.sail_syntax.specs.declared.expressions.Index.{Index}
use Rattle.sail_syntax.specs.declared.expressions.Range.{Range}
use Rattle.sail_syntax.specs.declared.expressions.Target.{Target}
use Rattle.sail_names.specs.Known.{Setting, in_measure, is_value, is_callee, is_assigned}
use Rattle.sail_names.specs.Locals.{Locals, constant, variable, behind}
use Rattle.sail_names.specs.Patterns.{type_failures, unless, binds, clashes, pattern_failures}

-- the failures of a part, where it stands and with these local names in scope
abbrev pub Failures : Type 0
Failures = Setting → Locals → List TableError

-- a statement's failures, and the local names in scope behind it
pub record Step : Type 0 where
  pub failures : List TableError
  pub locals : Locals

abbrev pub Statement : Type 0
Statement = Setting → Locals → Step

-- a field with its name, and the failures of its value
pub record Field : Type 0 where
  pub name : Name
  pub value : Failures

-- ---- parts

abbrev pub each : List Failures → Failures
each [] setting locals = []
each (part ∷ parts) setting locals = part setting locals ++ each parts setting locals

abbrev pub maybe : Option Failures → Failures
maybe None setting locals = []
maybe (Some part) setting locals = part setting locals

abbrev pub maybe_type : Option TyExp → Setting → List TableError
maybe_type None setting = []
maybe_type (Some typ) setting = type_failures K.Type typ setting

abbrev pub asked_kind : Asking → Kind
asked_kind Sizeof = K.Int
asked_kind Constraint = K.Bool

-- `throw` needs the union `exception`
abbrev pub throw_failures : Bool → Place → List TableError
throw_failures true place = []
throw_failures false place = error.NoName place (codes "exception") ∷ []

abbrev pub leave_failures : Setting → Place → Leaving → List TableError
leave_failures setting place Throw = throw_failures setting.known.has_exception place
leave_failures setting place leaving = []

-- a field that some struct has
abbrev pub field_failures : Setting → Name → List TableError
field_failures setting name = unless (setting.known.is_field name.text) name

abbrev pub fields_failures : List Field → Failures
fields_failures [] setting locals = []
fields_failures (field ∷ fields) setting locals =
    (field_failures setting field.name ++ field.value setting locals) ++ fields_failures fields setting locals

abbrev pub struct_failures : Setting → Option Name → List TableError
struct_failures setting None = []
struct_failures setting (Some name) = unless (setting.known.is_struct name.text) name

abbrev pub named : List Field → List Name
named fields = map (λ field. field.name) fields

-- a loop has a measure (M12): a plain expression, which may also name the local names in scope and registers
abbrev pub loop_word : Looping → List ℕ
loop_word While = codes "while"
loop_word Repeat = codes "repeat"

abbrev pub measure_failures : Place → Looping → Option Failures → Failures
measure_failures place looping None setting locals = error.MeasureMissing place (loop_word looping) ∷ []
measure_failures place looping (Some measure) setting locals = measure (in_measure setting) locals

-- statements one after the other, each with what those before it have bound in scope
abbrev pub steps : List Statement → Statement
steps [] setting locals = record { failures = []; locals = locals }
steps (statement ∷ statements) setting locals =
    record {
      failures = (statement setting locals).failures ++ (steps statements setting (statement setting locals).locals).failures;
      locals = (steps statements setting (statement setting locals).locals).locals;
    }

-- ---- the forms

abbrev pub expression_form : Exp-F Failures Failures Statement Failures Failures Field Failures Failures Failures → Failures
expression_form (E.Constant place literal) setting locals = []
expression_form (E.Variable name) setting locals = unless (is_value setting locals name.text) name
expression_form (E.Call name arguments) setting locals = unless (is_callee setting name.text) name ++ each arguments setting locals
expression_form (E.Prefixed place prefix a) setting locals = a setting locals
expression_form (E.Infix place operator a b) setting locals = a setting locals ++ b setting locals
expression_form (E.Leave place leaving a) setting locals = leave_failures setting place leaving ++ a setting locals
expression_form (E.Group place brackets items) setting locals = each items setting locals
expression_form (E.Part place base suffixes) setting locals = base setting locals ++ each suffixes setting locals
expression_form (E.Typed place a typ) setting locals = a setting locals ++ type_failures K.Type typ setting
expression_form (E.Assign place target more a) setting locals = (target setting locals ++ each more setting locals) ++ a setting locals
expression_form (E.Block place statements value) setting locals =
    (steps statements setting locals).failures ++ maybe value setting (steps statements setting locals).locals
expression_form (E.Let place pattern a b) setting locals =
    (a setting locals ++ pattern_failures setting pattern) ++ b setting (behind (binds setting.known pattern) locals)
expression_form (E.Var place name typ a b) setting locals =
    (maybe_type typ setting ++ a setting locals) ++ b setting (variable name ∷ locals)
expression_form (E.If place a b c) setting locals = (a setting locals ++ b setting locals) ++ maybe c setting locals
expression_form (E.Choose place choosing a cases) setting locals = a setting locals ++ each cases setting locals
expression_form (E.Foreach place name range a) setting locals = range setting locals ++ a setting (constant name ∷ locals)
expression_form (E.Loop place looping measure a b) setting locals =
    (measure_failures place looping measure setting locals ++ a setting locals) ++ b setting locals
expression_form (E.Update place base index a) setting locals = (base setting locals ++ index setting locals) ++ a setting locals
expression_form (E.Struct place name fields) setting locals =
    (struct_failures setting name ++ clashes (named fields)) ++ fields_failures fields setting locals
expression_form (E.With place base fields) setting locals =
    (base setting locals ++ clashes (named fields)) ++ fields_failures fields setting locals
expression_form (E.OfType place asking typ) setting locals = type_failures (asked_kind asking) typ setting
expression_form (E.Assert place a text) setting locals = a setting locals

-- an assigned name is a `var` or a register; `f(a) = e` is a call of f
abbrev pub target_form : LExp-F Failures Failures Statement Failures Failures Field Failures Failures Failures → Failures
target_form (E.ToName name) setting locals = unless (is_assigned setting locals name.text) name
target_form (E.ToCall name arguments) setting locals = unless (is_callee setting name.text) name ++ each arguments setting locals
target_form (E.ToTuple place targets) setting locals = each targets setting locals
target_form (E.ToPart place base suffixes) setting locals = base setting locals ++ each suffixes setting locals

-- what a `let` or a `var` binds is in scope behind it, to the end of its block
abbrev pub statement_form : Stmt-F Failures Failures Statement Failures Failures Field Failures Failures Failures → Statement
statement_form (E.Evaluate a) setting locals = record { failures = a setting locals; locals = locals }
statement_form (E.Define place pattern a) setting locals =
    record { failures = a setting locals ++ pattern_failures setting pattern; locals = behind (binds setting.known pattern) locals }
statement_form (E.Declare place name typ a) setting locals =
    record { failures = maybe_type typ setting ++ a setting locals; locals = variable name ∷ locals }

abbrev pub suffix_form : Suffix-F Failures Failures Statement Failures Failures Field Failures Failures Failures → Failures
suffix_form (E.Field name) setting locals = field_failures setting name
suffix_form (E.At place index) setting locals = index setting locals

abbrev pub case_form : Case-F Failures Failures Statement Failures Failures Field Failures Failures Failures → Failures
case_form part setting locals =
    (pattern_failures setting part.pattern ++ maybe part.guard setting (behind (binds setting.known part.pattern) locals))
    ++ part.body setting (behind (binds setting.known part.pattern) locals)

abbrev pub field_form : FieldValue-F Failures Failures Statement Failures Failures Field Failures Failures Failures → Field
field_form field = record { name = field.name; value = field.value }

abbrev pub index_form : Index-F Failures Failures Statement Failures Failures Field Failures Failures Failures → Failures
index_form index setting locals = index.first setting locals ++ maybe index.last setting locals

abbrev pub range_form : Range-F Failures Failures Statement Failures Failures Field Failures Failures Failures → Failures
range_form range setting locals = (range.from setting locals ++ range.to setting locals) ++ maybe range.by setting locals

abbrev pub further_form : Target-F Failures Failures Statement Failures Failures Field Failures Failures Failures → Failures
further_form further setting locals = further.to setting locals

-- ---- the trees

abbrev pub expression_failures : Exp → Failures
expression_failures = fold-Exp Failures Failures Statement Failures Failures Field Failures Failures Failures
    expression_form target_form statement_form suffix_form case_form field_form index_form range_form further_form

abbrev pub target_failures : LExp → Failures
target_failures = fold-LExp Failures Failures Statement Failures Failures Field Failures Failures Failures
    expression_form target_form statement_form suffix_form case_form field_form index_form range_form further_form

abbrev pub statement_step : Stmt → Statement
statement_step = fold-Stmt Failures Failures Statement Failures Failures Field Failures Failures Failures
    expression_form target_form statement_form suffix_form case_form field_form index_form range_form further_form

abbrev pub suffix_failures : Suffix → Failures
suffix_failures = fold-Suffix Failures Failures Statement Failures Failures Field Failures Failures Failures
    expression_form target_form statement_form suffix_form case_form field_form index_form range_form further_form

abbrev pub case_failures : Case → Failures
case_failures = fold-Case Failures Failures Statement Failures Failures Field Failures Failures Failures
    expression_form target_form statement_form suffix_form case_form field_form index_form range_form further_form

abbrev pub field_of : FieldValue → Field
field_of = fold-FieldValue Failures Failures Statement Failures Failures Field Failures Failures Failures
    expression_form target_form statement_form suffix_form case_form field_form index_form range_form further_form

abbrev pub index_failures : Index → Failures
index_failures = fold-Index Failures Failures Statement Failures Failures Field Failures Failures Failures
    expression_form target_form statement_form suffix_form case_form field_form index_form range_form further_form

abbrev pub range_failures : Range → Failures
range_failures = fold-Range Failures Failures Statement Failures Failures Field Failures Failures Failures
    expression_form target_form statement_form suffix_form case_form field_form index_form range_form further_form

abbrev pub further_failures : Target → Failures
further_failures = fold-Target Failures Failures Statement Failures Failures Field Failures Failures Failures
    expression_form target_form statement_form suffix_form case_form field_form index_form range_form further_form
