-- What the grammar has of expressions: plain ones, which top-level lets, initial values of registers and measures are, have no statement, loop,
-- assignment, `return`, `throw`, `exit`, `assert` or `try`; and each `with` has a field (Sail language manual, "Let bindings", "Registers",
-- "Termination measures", "Structs").
use Rattle.std.specs.Prelude.{◌≡◌, ◌⊎◌, Bool, true, false, ◌&&◌, List, [], ◌∷◌, Option, Some, None}
use Rattle.sail_syntax.specs.declared.words.Choosing.TheVariants.{Match}
use Rattle.sail_syntax.specs.declared.expressions.Exp.{Exp, fold-Exp}
use Rattle.sail_syntax.specs.declared.expressions.Exp.TheOpen as E
use Rattle.sail_syntax.specs.declared.expressions.Exp.TheOpen.{Exp-F, LExp-F, Stmt-F, Suffix-F, Case-F, FieldValue-F, Index-F, Range-F, Target-F}
use Rattle.sail_names.specs.Known.{is_register_seen}
use Rattle.shape_stands.specs.Inside.{Position}

pub record Manner : Type 0 where
  pub is_plain : Bool
  -- each `with` has a field
  pub is_full : Bool

abbrev pub leaf : Manner
leaf = record { is_plain = true; is_full = true }

abbrev pub both : Manner → Manner → Manner
both a b = record { is_plain = a.is_plain && b.is_plain; is_full = a.is_full && b.is_full }

abbrev pub every : List Manner → Manner
every [] = leaf
every (m ∷ ms) = both m (every ms)

abbrev pub maybe : Option Manner → Manner
maybe None = leaf
maybe (Some m) = m

-- a form that isn't plain
abbrev pub aside : Manner → Manner
aside m = record { is_plain = false; is_full = m.is_full }

-- fields of a `with`
abbrev pub fields_form : List Manner → Manner
fields_form [] = record { is_plain = true; is_full = false }
fields_form (m ∷ ms) = every (m ∷ ms)

abbrev pub Form : (Type 0 → Type 0 → Type 0 → Type 0 → Type 0 → Type 0 → Type 0 → Type 0 → Type 0 → Type 0) → Type 0
Form F = F Manner Manner Manner Manner Manner Manner Manner Manner Manner

abbrev pub expression_form : Form Exp-F → Manner
expression_form (E.Constant place literal) = leaf
expression_form (E.Variable name) = leaf
expression_form (E.Call name ms) = every ms
expression_form (E.Prefixed place prefix a) = a
expression_form (E.Infix place operator a b) = both a b
expression_form (E.Leave place leaving a) = aside a
expression_form (E.Group place brackets ms) = every ms
expression_form (E.Part place a ms) = both a (every ms)
expression_form (E.Typed place a typ) = a
expression_form (E.Assign place t ts a) = aside (both (both t (every ts)) a)
expression_form (E.Block place ms a) = aside (both (every ms) (maybe a))
expression_form (E.Let place pattern a b) = both a b
expression_form (E.Var place name typ a b) = both a b
expression_form (E.If place a b c) = both (both a b) (maybe c)
expression_form (E.Choose place Match a ms) = both a (every ms)
expression_form (E.Choose place choosing a ms) = aside (both a (every ms))
expression_form (E.Foreach place name range a) = aside (both range a)
expression_form (E.Loop place looping m a b) = aside (both (both (maybe m) a) b)
expression_form (E.Update place a i b) = both (both a i) b
expression_form (E.Struct place name ms) = every ms
expression_form (E.With place a ms) = both a (fields_form ms)
expression_form (E.OfType place asking typ) = leaf
expression_form (E.Assert place a text) = aside a

abbrev pub target_form : Form LExp-F → Manner
target_form (E.ToName name) = aside leaf
target_form (E.ToCall name ms) = every ms
target_form (E.ToTuple place ms) = every ms
target_form (E.ToPart place a ms) = both a (every ms)

abbrev pub statement_form : Form Stmt-F → Manner
statement_form (E.Evaluate a) = a
statement_form (E.Define place pattern a) = a
statement_form (E.Declare place name typ a) = a

abbrev pub suffix_form : Form Suffix-F → Manner
suffix_form (E.Field name) = leaf
suffix_form (E.At place i) = i

abbrev pub case_form : Form Case-F → Manner
case_form c = both (maybe c.guard) c.body

abbrev pub field_form : Form FieldValue-F → Manner
field_form f = f.value

abbrev pub index_form : Form Index-F → Manner
index_form i = both i.first (maybe i.last)

abbrev pub range_form : Form Range-F → Manner
range_form r = both (both r.from r.to) (maybe r.by)

abbrev pub further_form : Form Target-F → Manner
further_form t = t.to

abbrev pub manner : Exp → Manner
manner = fold-Exp Manner Manner Manner Manner Manner Manner Manner Manner Manner
    expression_form target_form statement_form suffix_form case_form field_form index_form range_form further_form

-- each `with` has a field; and registers can be named where an expression stands, or it is plain
abbrev pub Quiet : Position → Manner → Type 0
Quiet here m = ((is_register_seen here.names.allowed ≡ true) ⊎ (m.is_plain ≡ true)) × (m.is_full ≡ true)
