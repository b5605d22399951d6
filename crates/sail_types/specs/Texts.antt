-- Shapes, numbers and values as refusals and the report print them.
use Rattle.std.specs.Prelude.{ℕ, zero, suc, ◌/◌, ◌%◌, ◌==◌, ℤ, pos, Bool, not, ◌&&◌, List, [], ◌∷◌, ◌++◌, length, take, drop, slice_index}
use Rattle.std.specs.Prelude.{slice_index_or, slice_get, codes, Option, Some, None, if◌then◌else◌}
use Rattle.std.specs.Fmt.{signed_decimal}
use Rattle.std.specs.Ordering.{int_eq}
use Rattle.sail_base.specs.Bits.{value_of}
use Rattle.sail_types.specs.Named.{constructors, fields, members}
use Rattle.sail_types.specs.declared.numbers.Num.{Num}
use Rattle.sail_types.specs.declared.numbers.Atom.{Atom}
use Rattle.sail_types.specs.declared.numbers.Term.{Term}
use Rattle.sail_types.specs.declared.numbers.Atom.TheOpen as N
use Rattle.sail_types.specs.declared.numbers.Atom.TheOpen.{Atom-F, Num-F, Term-F}
use Rattle.sail_types.specs.declared.numbers.Atom.TheFolds.{fold-Num, fold-Atom, fold-Term}
use Rattle.sail_types.specs.declared.shapes.Shape.{Shape, Shape-F, fold-Shape}
use Rattle.sail_types.specs.declared.shapes.Shape.TheOpen as S
use Rattle.sail_types.specs.declared.table.Definition.{Definition}
use Rattle.sail_types.specs.declared.table.Field.{Field}
use Rattle.sail_types.specs.declared.table.Types.{Types}
use Rattle.sail_types.specs.declared.values.Value.{Value, Value-F, fold-Value}
use Rattle.sail_types.specs.declared.values.Value.TheOpen as W

-- the text at an index, and no text past the end
abbrev pub text_at : List (List ℕ) → ℕ → List ℕ
text_at texts i = slice_index_or texts i []

-- texts with another between them
abbrev pub behind : List ℕ → List (List ℕ) → List ℕ
behind separator [] = []
behind separator (t ∷ ts) = separator ++ t ++ behind separator ts

abbrev pub joined : List ℕ → List (List ℕ) → List ℕ
joined separator [] = []
joined separator (t ∷ ts) = t ++ behind separator ts

-- the texts that are left, where one came before and where none did
abbrev pub rest_joined : Bool → List ℕ → List (List ℕ) → List ℕ
rest_joined first separator ts = if first then joined separator ts else behind separator ts

abbrev pub listed : List (List ℕ) → List ℕ
listed texts = joined (codes ", ") texts

abbrev pub bracketed : List ℕ → List ℕ
bracketed text = codes "(" ++ text ++ codes ")"

-- arguments in brackets, and nothing where there are none
abbrev pub arguments_text : List (List ℕ) → List ℕ
arguments_text [] = []
arguments_text (t ∷ ts) = bracketed (listed (t ∷ ts))

abbrev pub definition_name : Option Definition → List ℕ
definition_name None = []
definition_name (Some definition) = definition.name

-- the name of a named type
abbrev pub name_text : Types → ℕ → List ℕ
name_text types i = definition_name (slice_get types.definitions i)

-- ---- shapes, the Type variables printing as these names

abbrev pub form_shape_text : Types → List (List ℕ) → Shape-F (List ℕ) → List ℕ
form_shape_text types names S.Unit = codes "unit"
form_shape_text types names S.Bool = codes "bool"
form_shape_text types names S.Bit = codes "bit"
form_shape_text types names S.Bits = codes "bits"
form_shape_text types names S.Int = codes "int"
form_shape_text types names S.String = codes "string"
form_shape_text types names (S.List s) = codes "list" ++ bracketed s
form_shape_text types names (S.Vector s) = codes "vector" ++ bracketed s
form_shape_text types names (S.Tuple ss) = bracketed (listed ss)
form_shape_text types names (S.Named i ss) = name_text types i ++ arguments_text ss
form_shape_text types names (S.Variable i) = text_at names i
form_shape_text types names S.Hole = codes "_"
form_shape_text types names S.Never = codes "_"

abbrev pub shape_text : Types → List (List ℕ) → Shape → List ℕ
shape_text types names = fold-Shape (List ℕ) (form_shape_text types names)

-- ---- numbers, the variables printing as these names

abbrev pub atom_form_text : List (List ℕ) → Atom-F (List ℕ) (List ℕ) (List ℕ) → List ℕ
atom_form_text names (N.Variable i) = text_at names i
atom_form_text names (N.Power t) = codes "2 ^ " ++ bracketed t

-- a coefficient of 1 is left out
abbrev pub coefficient_text : ℤ → List ℕ
coefficient_text z = if int_eq z (pos 1) then [] else signed_decimal z ++ codes " * "

abbrev pub term_form_text : Term-F (List ℕ) (List ℕ) (List ℕ) → List ℕ
term_form_text term = coefficient_text term.coefficient ++ term.atom

-- a constant of 0 is left out behind terms
abbrev pub constant_text : ℤ → List ℕ
constant_text z = if int_eq z (pos 0) then [] else codes " + " ++ signed_decimal z

abbrev pub sum_text : List (List ℕ) → ℤ → List ℕ
sum_text [] z = signed_decimal z
sum_text (t ∷ ts) z = joined (codes " + ") (t ∷ ts) ++ constant_text z

abbrev pub sum_form_text : Num-F (List ℕ) (List ℕ) (List ℕ) → List ℕ
sum_form_text n = sum_text n.terms n.constant

abbrev pub num_text : List (List ℕ) → Num → List ℕ
num_text names = fold-Num (List ℕ) (List ℕ) (List ℕ) (atom_form_text names) sum_form_text term_form_text

abbrev pub atom_text : List (List ℕ) → Atom → List ℕ
atom_text names = fold-Atom (List ℕ) (List ℕ) (List ℕ) (atom_form_text names) sum_form_text term_form_text

abbrev pub term_text : List (List ℕ) → Term → List ℕ
term_text names = fold-Term (List ℕ) (List ℕ) (List ℕ) (atom_form_text names) sum_form_text term_form_text

-- ---- values

-- the sixteen digits
abbrev pub digit : ℕ → ℕ
digit n = slice_index (codes "0123456789abcdef") n

-- that many digits of as many bits each, the highest first
abbrev pub digits : ℕ → ℕ → List Bool → List ℕ
digits bits_each zero bits = []
digits bits_each (suc count) bits = digits bits_each count (drop bits_each bits) ++ digit (value_of (take bits_each bits)) ∷ []

-- bits: in hexadecimal where their number is a positive multiple of 4, else in binary
abbrev pub bits_text : List Bool → List ℕ
bits_text bits =
    if not (length bits == 0) && (length bits % 4 == 0) then codes "0x" ++ digits 4 (length bits / 4) bits
    else codes "0b" ++ digits 1 (length bits) bits

abbrev pub quoted : List ℕ → List ℕ
quoted text = codes "\"" ++ text ++ codes "\""

-- each field as `f = a`
abbrev pub fields_text : List (List ℕ) → List Field → List (List ℕ)
fields_text [] fs = []
fields_text (t ∷ ts) [] = []
fields_text (t ∷ ts) (f ∷ fs) = (f.name ++ codes " = " ++ t) ∷ fields_text ts fs

abbrev pub struct_text : Option (List Field) → List (List ℕ) → List ℕ
struct_text None ts = []
struct_text (Some fs) ts = codes "{" ++ listed (fields_text ts fs) ++ codes "}"

abbrev pub field_name : Option Field → List ℕ
field_name None = []
field_name (Some field) = field.name

abbrev pub form_value_text : Types → Value-F (List ℕ) → List ℕ
form_value_text types W.Unit = codes "()"
form_value_text types (W.Integer z) = signed_decimal z
form_value_text types (W.Truth b) = if b then codes "true" else codes "false"
form_value_text types (W.Bit b) = if b then codes "bitone" else codes "bitzero"
form_value_text types (W.Bits bits) = bits_text bits
form_value_text types (W.String text) = quoted text
form_value_text types (W.Member i k) = text_at (members types i) k
form_value_text types (W.Tuple vs) = bracketed (listed vs)
form_value_text types (W.Struct i vs) = struct_text (fields types i) vs
form_value_text types (W.Union i k v) = field_name (slice_get (constructors types i) k) ++ bracketed v
form_value_text types (W.List vs) = codes "[|" ++ listed vs ++ codes "|]"
form_value_text types (W.Vector vs) = codes "[" ++ listed vs ++ codes "]"

abbrev pub value_text : Types → Value → List ℕ
value_text types = fold-Value (List ℕ) (form_value_text types)
