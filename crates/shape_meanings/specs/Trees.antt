-- What the grammar leaves out though the trees have it: a tuple of one part, a part of a target without an index or a field, a literal that is past its
-- limits, and `_` and `as` in a side of a mapping that is read as an expression.
use Rattle.std.specs.Prelude.{Bool, true, false, ◌&&◌, List, [], ◌∷◌, length, Option, Some, None}
use Rattle.sail_types.specs.Limits.{is_small, is_width}
use Rattle.sail_syntax.specs.declared.name.Literal.{Literal}
use Rattle.sail_syntax.specs.declared.name.Literal.TheVariants as L
use Rattle.sail_syntax.specs.declared.words.Brackets.{Brackets}
use Rattle.sail_syntax.specs.declared.words.Brackets.TheVariants as B
use Rattle.sail_syntax.specs.declared.patterns.Pat.{Pat, Pat-F, fold-Pat}
use Rattle.sail_syntax.specs.declared.patterns.Pat.TheOpen as P
use Rattle.sail_syntax.specs.declared.patterns.Pat.TheOpen.{Joined-F}
use Rattle.sail_syntax.specs.declared.expressions.Exp.{Exp, fold-Exp}
use Rattle.sail_syntax.specs.declared.expressions.Exp.TheOpen as E
use Rattle.sail_syntax.specs.declared.expressions.Exp.TheOpen.{Exp-F, LExp-F, Stmt-F, Suffix-F, Case-F, FieldValue-F, Index-F, Range-F, Target-F}
use Rattle.shape_meanings.specs.Whole.{all_of}

abbrev pub all_if : Option Bool → Bool
all_if None = true
all_if (Some b) = b

-- a tuple has no part or several
abbrev pub group_written : Brackets → List Bool → Bool
group_written B.Tuple (b ∷ []) = false
group_written brackets bs = all_of bs

-- a number is at most the 126th power of two, and a word has at most 128 bits (Sail language manual, "Literals")
abbrev pub literal_written : Literal → Bool
literal_written (L.Number z) = is_small z
literal_written (L.Bits bits) = is_width (length bits)
literal_written literal = true

-- ---- patterns

abbrev pub pattern_form : Pat-F Bool Bool → Bool
pattern_form (P.Constant place literal) = literal_written literal
pattern_form (P.Negative place z) = is_small z
pattern_form (P.Construct name bs) = all_of bs
pattern_form (P.Group place brackets bs) = group_written brackets bs
pattern_form (P.Concat place a b bs) = a && b && all_of bs
pattern_form (P.Cons place a b) = a && b
pattern_form (P.As place a name) = a
pattern_form (P.Typed place a typ) = a
pattern_form form = true

abbrev pub joined_form : Joined-F Bool Bool → Bool
joined_form further = further.part

abbrev pub pattern_written : Pat → Bool
pattern_written = fold-Pat Bool Bool pattern_form joined_form

-- a side of a mapping
abbrev pub side_form : Pat-F Bool Bool → Bool
side_form (P.Wildcard place) = false
side_form (P.As place a name) = false
side_form form = pattern_form form

abbrev pub side_written : Pat → Bool
side_written = fold-Pat Bool Bool side_form joined_form

-- ---- expressions

abbrev pub Form : (Type 0 → Type 0 → Type 0 → Type 0 → Type 0 → Type 0 → Type 0 → Type 0 → Type 0 → Type 0) → Type 0
Form F = F Bool Bool Bool Bool Bool Bool Bool Bool Bool

abbrev pub expression_form : Form Exp-F → Bool
expression_form (E.Constant place literal) = literal_written literal
expression_form (E.Call name bs) = all_of bs
expression_form (E.Prefixed place prefix a) = a
expression_form (E.Infix place operator a b) = a && b
expression_form (E.Leave place leaving a) = a
expression_form (E.Group place brackets bs) = group_written brackets bs
expression_form (E.Part place a bs) = a && all_of bs
expression_form (E.Typed place a typ) = a
expression_form (E.Assign place t ts a) = t && all_of ts && a
expression_form (E.Block place bs a) = all_of bs && all_if a
expression_form (E.Let place pattern a b) = pattern_written pattern && a && b
expression_form (E.Var place name typ a b) = a && b
expression_form (E.If place a b c) = a && b && all_if c
expression_form (E.Choose place choosing a bs) = a && all_of bs
expression_form (E.Foreach place name range a) = range && a
expression_form (E.Loop place looping m a b) = all_if m && a && b
expression_form (E.Update place a i b) = a && i && b
expression_form (E.Struct place name bs) = all_of bs
expression_form (E.With place a bs) = a && all_of bs
expression_form (E.Assert place a text) = a
expression_form form = true

-- a part of a target has an index or a field
abbrev pub is_part : List Bool → Bool
is_part [] = false
is_part (b ∷ bs) = true

abbrev pub target_form : Form LExp-F → Bool
target_form (E.ToName name) = true
target_form (E.ToCall name bs) = all_of bs
target_form (E.ToTuple place bs) = all_of bs
target_form (E.ToPart place a bs) = a && all_of bs && is_part bs

abbrev pub statement_form : Form Stmt-F → Bool
statement_form (E.Evaluate a) = a
statement_form (E.Define place pattern a) = pattern_written pattern && a
statement_form (E.Declare place name typ a) = a

abbrev pub suffix_form : Form Suffix-F → Bool
suffix_form (E.Field name) = true
suffix_form (E.At place i) = i

abbrev pub case_form : Form Case-F → Bool
case_form c = pattern_written c.pattern && all_if c.guard && c.body

abbrev pub field_form : Form FieldValue-F → Bool
field_form f = f.value

abbrev pub index_form : Form Index-F → Bool
index_form i = i.first && all_if i.last

abbrev pub range_form : Form Range-F → Bool
range_form r = r.from && r.to && all_if r.by

abbrev pub further_form : Form Target-F → Bool
further_form t = t.to

abbrev pub written : Exp → Bool
written = fold-Exp Bool Bool Bool Bool Bool Bool Bool Bool Bool
    expression_form target_form statement_form suffix_form case_form field_form index_form range_form further_form
