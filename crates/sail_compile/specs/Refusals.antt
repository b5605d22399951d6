-- The refusals of a model, by the phase that refuses it.
use Rattle.std.specs.Prelude.{ℕ, pos, List, [], ◌∷◌, ◌++◌, codes, Option, Some, None}
use Rattle.std.specs.Fmt.{decimal, signed_decimal}
use Rattle.hex.specs.Hex.{encode_lower}
use Rattle.bidir_check.specs.declared.error.CheckError.{CheckError}
use Rattle.bidir_check.specs.declared.error.CheckError.TheVariants as check
use Rattle.monomorph.specs.declared.error.MonoError.{MonoError}
use Rattle.monomorph.specs.declared.error.MonoError.TheVariants as mono
use Rattle.obligations.specs.Texts.{point_text, limit_text}
use Rattle.sail_base.specs.declared.kind.Kind.{Kind}
use Rattle.sail_base.specs.declared.kind.Kind.TheVariants as kind
use Rattle.sail_base.specs.declared.place.Place.{Place}
use Rattle.sail_base.specs.declared.refusal.Refusal.{Refusal}
use Rattle.sail_grammar.specs.declared.error.ParseError.{ParseError}
use Rattle.sail_grammar.specs.declared.error.ParseError.TheVariants as parse
use Rattle.sail_kinds.specs.declared.error.Mismatch.{Mismatch}
use Rattle.sail_kinds.specs.declared.error.Mismatch.TheVariants as mismatch
use Rattle.sail_kinds.specs.declared.error.TableError.{TableError}
use Rattle.sail_kinds.specs.declared.error.TableError.TheVariants as table
use Rattle.sail_lex.specs.declared.token.LexError.{LexError}
use Rattle.sail_lex.specs.declared.token.LexError.TheVariants as error
use Rattle.scattered.specs.declared.error.ScatterError.{ScatterError}
use Rattle.scattered.specs.declared.error.ScatterError.TheVariants as scatter
use Rattle.shape_rules.specs.declared.error.Mismatch.{Mismatch as ShapeMismatch}
use Rattle.shape_rules.specs.declared.error.ShapeError.{ShapeError}
use Rattle.shape_rules.specs.declared.error.ShapeError.TheVariants as shape
use Rattle.sail_types.specs.Texts.{shape_text}
use Rattle.sail_types.specs.declared.table.Types.{Types}

abbrev pub refusal : ℕ → Place → List ℕ → Refusal
refusal number place detail = record { number = number; place = place; detail = detail }

-- the refusal of a model that is accepted and that the engine leaves
abbrev pub outside : Refusal
outside = refusal 5 (record { file = 1; line = 1; column = 1 }) []

-- the refusal of a text that has no tokens: a byte that begins none is told in two hexadecimal digits; want of memory
-- refuses no text
abbrev pub token_refusal : LexError → Refusal
token_refusal (error.BadByte place byte) = refusal 1 place (encode_lower (byte ∷ []))
token_refusal (error.BadLiteral place) = refusal 2 place []
token_refusal (error.Unclosed place) = refusal 3 place []
token_refusal (error.NumberTooLarge place) = refusal 4 place []
token_refusal (error.TokenLimit place) = refusal 8 place []
token_refusal error.OutOfMemory = outside

-- the refusal of tokens that are no model: a token is told by its spelling, the end as `end`; want of memory refuses no
-- tokens
abbrev pub parse_refusal : ParseError → Refusal
parse_refusal (parse.Outside place text) = refusal 5 place text
parse_refusal (parse.Syntax place (Some text)) = refusal 6 place text
parse_refusal (parse.Syntax place None) = refusal 6 place (codes "end")
parse_refusal (parse.TooDeep place) = refusal 7 place []
parse_refusal parse.OutOfMemory = outside

-- the refusal of definitions that can't be gathered: a part that belongs to no opening, and an opening that isn't ended, are
-- told by their name; want of memory refuses no definitions
abbrev pub gather_refusal : ScatterError → Refusal
gather_refusal (scatter.NoOpening place name) = refusal 22 place name
gather_refusal (scatter.Unended place name) = refusal 23 place name
gather_refusal scatter.OutOfMemory = outside

abbrev pub kind_text : Kind → List ℕ
kind_text kind.Int = codes "Int"
kind_text kind.Bool = codes "Bool"
kind_text kind.Type = codes "Type"

abbrev pub found_text : List ℕ → List ℕ → List ℕ
found_text wanted found = codes "wanted " ++ wanted ++ codes " found " ++ found

-- what was wanted and what was found, two kinds or two counts of arguments; nothing where no one thing was wanted
abbrev pub mismatch_text : Option Mismatch → List ℕ
mismatch_text None = []
mismatch_text (Some (mismatch.Kinds wanted found)) = found_text (kind_text wanted) (kind_text found)
mismatch_text (Some (mismatch.Counts wanted found)) = found_text (decimal wanted) (decimal found)

-- the refusal of gathered definitions that have no tables: by the name that it is about, a type of the wrong kind by what was
-- wanted; want of memory refuses no definitions
abbrev pub table_refusal : TableError → Refusal
table_refusal (table.Clash place name) = refusal 9 place name
table_refusal (table.NoName place name) = refusal 10 place name
table_refusal (table.IllKinded place found) = refusal 11 place (mismatch_text found)
table_refusal (table.MeasureMissing place name) = refusal 12 place name
table_refusal (table.EntryMissing place name) = refusal 19 place name
table_refusal (table.MappingCycle place name) = refusal 24 place name
table_refusal table.OutOfMemory = outside

-- what was wanted and what was found, two shapes; nothing where no one shape was wanted
abbrev pub shapes_text : Types → List (List ℕ) → Option ShapeMismatch → List ℕ
shapes_text types names None = []
shapes_text types names (Some m) = found_text (shape_text types names m.wanted) (shape_text types names m.found)

-- the refusal of definitions whose shapes fail, by the table of types and the names of Type variables: by both members, by what was
-- wanted and found, or by the name that it is about; want of memory refuses no definitions
abbrev pub shape_refusal : Types → List (List ℕ) → ShapeError → Refusal
shape_refusal types names (shape.Overlap place first second) = refusal 13 place (first ++ codes " " ++ second)
shape_refusal types names (shape.IllShaped place found) = refusal 14 place (shapes_text types names found)
shape_refusal types names (shape.Arity place wanted found) = refusal 15 place (found_text (decimal wanted) (decimal found))
shape_refusal types names (shape.NoMember place name) = refusal 16 place name
shape_refusal types names (shape.NoNumber place name) = refusal 17 place name
shape_refusal types names (shape.WidthUnknown place) = refusal 18 place []
shape_refusal types names shape.OutOfMemory = outside

-- the refusal of a model of which an obligation isn't closed: by the point at which it doesn't hold, as far as elimination tells, or by
-- the limit that elimination passes; want of memory refuses no model
abbrev pub check_refusal : CheckError → Refusal
check_refusal (check.Open place names point) = refusal 20 place (point_text names point)
check_refusal (check.Limit place names limit) = refusal 21 place (limit_text names limit)
check_refusal check.OutOfMemory = outside

-- the refusal of a model of which a size isn't constant, by its first free variable, or passes its limit, by the size, or which has too many
-- instances, by their count; want of memory refuses no model
abbrev pub size_refusal : MonoError → Refusal
size_refusal (mono.SizeOpen place name) = refusal 25 place name
size_refusal (mono.WidthLimit place size) = refusal 26 place (signed_decimal size)
size_refusal (mono.InstanceLimit place count) = refusal 27 place (signed_decimal (pos count))
size_refusal mono.OutOfMemory = outside
