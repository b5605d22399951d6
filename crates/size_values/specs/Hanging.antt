-- On which of its arguments the sizes of a named type hang: those in its fields and payloads, and in the named types there, itself among them (Sail
-- language manual, "Type variables").
use Rattle.std.specs.Prelude.{ℕ, zero, suc, Bool, true, false, not, ◌&&◌, ◌||◌, List, [], ◌∷◌, ◌++◌, length, map, slice_get}
use Rattle.std.specs.Prelude.{Option, Some, None, if◌then◌else◌}
use Rattle.sail_types.specs.Named.{field_types}
use Rattle.sail_types.specs.declared.table.Definition.{Definition}
use Rattle.sail_types.specs.declared.table.Field.{Field}
use Rattle.sail_types.specs.declared.table.Types.{Types}
use Rattle.sail_types.specs.declared.types.Typ.{Typ, Typ-F, fold-Typ}
use Rattle.sail_types.specs.declared.types.Typ.TheOpen as T
use Rattle.size_values.specs.declared.constants.Constant.{Constant}
use Rattle.size_values.specs.declared.constants.Constant.TheVariants as C
use Rattle.size_values.specs.Numbers.{argument_of, constant_under, index_under, is_free}
use Rattle.size_values.specs.Sizes.{form_fields, only_open}

-- for each definition in order, which of its parameters are marked: on those a size hangs
abbrev pub Marks : Type 0
Marks = List (List Bool)

-- an argument past the parameters is
abbrev pub or_marked : Option Bool → Bool
or_marked None = true
or_marked (Some b) = b

abbrev pub marked_in : Option (List Bool) → ℕ → Bool
marked_in None i = false
marked_in (Some flags) i = or_marked (slice_get flags i)

abbrev pub is_marked : Marks → ℕ → ℕ → Bool
is_marked marks u i = marked_in (slice_get marks u) i

-- ---- whether a size isn't constant, where the Int and Bool variables of a type are these

abbrev pub OpenUnder : Type 0
OpenUnder = List Constant → Bool

abbrev pub one_open : List OpenUnder → OpenUnder
one_open [] cs = false
one_open (f ∷ fs) cs = f cs || one_open fs cs

-- of a named type's arguments from one on, one that is marked
abbrev pub arguments_open : Marks → ℕ → ℕ → OpenUnder
arguments_open marks u i [] = false
arguments_open marks u i (c ∷ cs) = (is_marked marks u i && is_free c) || arguments_open marks u (suc i) cs

abbrev pub form_open : Marks → Typ-F OpenUnder → OpenUnder
form_open marks (T.Bits t) cs = is_free (constant_under (argument_of cs) t)
form_open marks (T.List f) cs = f cs
form_open marks (T.Vector t f) cs = is_free (constant_under (argument_of cs) t) || f cs
form_open marks (T.Tuple fs) cs = one_open fs cs
form_open marks (T.Named u is fs) cs = arguments_open marks u 0 (map (index_under (argument_of cs)) is) || one_open fs cs
form_open marks (T.Exists name c f) cs = f (C.Bound name ∷ cs)
form_open marks form cs = false

abbrev pub typ_open : Marks → Typ → OpenUnder
typ_open marks = fold-Typ OpenUnder (form_open marks)

abbrev pub fields_open : Marks → List Field → OpenUnder
fields_open marks fs cs = one_open (map (typ_open marks) (field_types fs)) cs

-- ---- what is marked next: each parameter on which a size hangs by what is marked before; none more at the end

-- those below an index, of so many
abbrev pub parameters_marked : Marks → List Field → ℕ → ℕ → List Bool
parameters_marked marks fs n zero = []
parameters_marked marks fs n (suc i) = parameters_marked marks fs n i ++ fields_open marks fs (only_open i n) ∷ []

abbrev pub definition_marked : Marks → Definition → List Bool
definition_marked marks d = parameters_marked marks (form_fields d.form) (length d.parameters) (length d.parameters)

abbrev pub marked_next : List Definition → Marks → Marks
marked_next ds marks = map (definition_marked marks) ds

abbrev pub flag_eq : Bool → Bool → Bool
flag_eq true c = c
flag_eq false c = not c

abbrev pub flags_eq : List Bool → List Bool → Bool
flags_eq [] [] = true
flags_eq (b ∷ bs) (c ∷ cs) = flag_eq b c && flags_eq bs cs
flags_eq bs cs = false

abbrev pub marks_eq : Marks → Marks → Bool
marks_eq [] [] = true
marks_eq (x ∷ xs) (y ∷ ys) = flags_eq x y && marks_eq xs ys
marks_eq xs ys = false

-- within so many steps
abbrev pub settled : List Definition → ℕ → Marks → Option Marks
settled ds zero marks = None
settled ds (suc steps) marks = if marks_eq (marked_next ds marks) marks then Some marks else settled ds steps (marked_next ds marks)

abbrev pub open_under : Option Marks → List Field → OpenUnder
open_under None fs cs = true
open_under (Some marks) fs cs = fields_open marks fs cs
