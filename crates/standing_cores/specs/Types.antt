-- Where each type that is written of an expression (`e : T`) reads.
use Rattle.std.specs.Prelude.{Bool, true, ◌&&◌, List, [], ◌∷◌, Option, Some, None, is_some}
use Rattle.sail_syntax.specs.declared.expressions.Exp.{Exp, fold-Exp}
use Rattle.sail_syntax.specs.declared.expressions.Exp.TheOpen as E
use Rattle.sail_syntax.specs.declared.expressions.Exp.TheOpen.{Case-F, Exp-F, FieldValue-F, Index-F, LExp-F, Range-F, Stmt-F, Suffix-F, Target-F}
use Rattle.sail_kinds.specs.Scopes.{Within}
use Rattle.shape_rules.specs.Written.{typ_in}

abbrev pub every : List Bool → Bool
every [] = true
every (m ∷ ms) = m && every ms

abbrev pub maybe : Option Bool → Bool
maybe None = true
maybe (Some m) = m

abbrev pub Form : (Type 0 → Type 0 → Type 0 → Type 0 → Type 0 → Type 0 → Type 0 → Type 0 → Type 0 → Type 0) → Type 0
Form F = F Bool Bool Bool Bool Bool Bool Bool Bool Bool

abbrev pub expression_form : Within → Form Exp-F → Bool
expression_form within (E.Constant place literal) = true
expression_form within (E.Variable name) = true
expression_form within (E.Call name ms) = every ms
expression_form within (E.Prefixed place prefix a) = a
expression_form within (E.Infix place operator a b) = a && b
expression_form within (E.Leave place leaving a) = a
expression_form within (E.Group place brackets ms) = every ms
expression_form within (E.Part place a ms) = a && every ms
expression_form within (E.Typed place a typ) = is_some (typ_in within typ) && a
expression_form within (E.Assign place t ts a) = (t && every ts) && a
expression_form within (E.Block place ms a) = every ms && maybe a
expression_form within (E.Let place pattern a b) = a && b
expression_form within (E.Var place name typ a b) = a && b
expression_form within (E.If place a b c) = (a && b) && maybe c
expression_form within (E.Choose place choosing a ms) = a && every ms
expression_form within (E.Foreach place name range a) = range && a
expression_form within (E.Loop place looping m a b) = (maybe m && a) && b
expression_form within (E.Update place a i b) = (a && i) && b
expression_form within (E.Struct place name ms) = every ms
expression_form within (E.With place a ms) = a && every ms
expression_form within (E.OfType place asking typ) = true
expression_form within (E.Assert place a text) = a

abbrev pub target_form : Form LExp-F → Bool
target_form (E.ToName name) = true
target_form (E.ToCall name ms) = every ms
target_form (E.ToTuple place ms) = every ms
target_form (E.ToPart place a ms) = a && every ms

abbrev pub statement_form : Form Stmt-F → Bool
statement_form (E.Evaluate a) = a
statement_form (E.Define place pattern a) = a
statement_form (E.Declare place name typ a) = a

abbrev pub suffix_form : Form Suffix-F → Bool
suffix_form (E.Field name) = true
suffix_form (E.At place i) = i

abbrev pub case_form : Form Case-F → Bool
case_form c = maybe c.guard && c.body

abbrev pub field_form : Form FieldValue-F → Bool
field_form f = f.value

abbrev pub index_form : Form Index-F → Bool
index_form i = i.first && maybe i.last

abbrev pub range_form : Form Range-F → Bool
range_form r = (r.from && r.to) && maybe r.by

abbrev pub further_form : Form Target-F → Bool
further_form t = t.to

abbrev pub types_read : Within → Exp → Bool
types_read within = fold-Exp Bool Bool Bool Bool Bool Bool Bool Bool Bool
    (expression_form within) target_form statement_form suffix_form case_form field_form index_form range_form further_form
