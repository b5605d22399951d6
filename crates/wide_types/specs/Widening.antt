-- Widened types, and the type where ways meet of which no type is wanted: that of the first way, in which a number that names a variable of
-- the way alone is a fresh one.
use Rattle.std.specs.Prelude.{ℕ, zero, suc, nat_eq, nat_lt, Bool, true, false, ◌&&◌, List, [], ◌∷◌, ◌++◌, length, map, slice_get}
use Rattle.std.specs.Prelude.{Option, Some, None, if◌then◌else◌}
use Rattle.std.specs.List.{list_all}
use Rattle.sail_base.specs.declared.kind.Kind.{Kind}
use Rattle.sail_base.specs.declared.kind.Kind.TheVariants as K
use Rattle.sail_types.specs.Places.{first, only}
use Rattle.sail_types.specs.Readings.{read_indices}
use Rattle.sail_types.specs.Sums.{read, variable}
use Rattle.sail_types.specs.declared.numbers.Atom.TheOpen as A
use Rattle.sail_types.specs.declared.numbers.Atom.TheOpen.{Atom-F, Num-F, Term-F}
use Rattle.sail_types.specs.declared.numbers.Atom.{Atom}
use Rattle.sail_types.specs.declared.numbers.Atom.TheFolds.{fold-Num, fold-Atom, fold-Term}
use Rattle.sail_types.specs.declared.numbers.Num.{Num}
use Rattle.sail_types.specs.declared.numbers.Term.{Term}
use Rattle.sail_types.specs.declared.numbers.Con.{Con, Con-F, fold-Con}
use Rattle.sail_types.specs.declared.numbers.Con.TheVariants as C
use Rattle.sail_types.specs.declared.numbers.Con.TheOpen as E
use Rattle.sail_types.specs.declared.numbers.Index.{Index}
use Rattle.sail_types.specs.declared.numbers.Index.TheVariants as N
use Rattle.sail_types.specs.declared.shapes.Shape.{Shape, Shape-F, out-Shape, fold-Shape}
use Rattle.sail_types.specs.declared.shapes.Shape.TheOpen as S
use Rattle.sail_types.specs.declared.shapes.Shape.TheVariants as V
use Rattle.sail_types.specs.declared.table.Definition.{Definition}
use Rattle.sail_types.specs.declared.table.Parameter.{Parameter}
use Rattle.sail_types.specs.declared.table.Types.{Types}
use Rattle.sail_types.specs.declared.types.Typ.{Typ, Typ-F, roll-Typ, fold-Typ}
use Rattle.sail_types.specs.declared.types.Typ.TheFolds.{map-Typ, para-Typ}
use Rattle.sail_types.specs.declared.types.Typ.TheOpen as T
use Rattle.sail_types.specs.declared.types.Typ.TheVariants as Y
use Rattle.value_indices.specs.declared.indices.Indices.{Indices, roll-Indices, out-Indices, fold-Indices}
use Rattle.value_indices.specs.declared.indices.Indices.TheVariants as I
use Rattle.value_indices.specs.declared.indices.Indices.TheOpen as W
use Rattle.value_indices.specs.declared.indices.Indices.TheOpen.{Indices-F, Reading-F}
use Rattle.value_indices.specs.declared.indices.Reading.{Reading, roll-Reading, fold-Reading}
use Rattle.value_indices.specs.declared.indices.Reading.TheVariants as R
use Rattle.value_indices.specs.declared.indices.Naming.TheVariants as M
use Rattle.value_indices.specs.Steps.{Walk, bind, give, fresh, each, Conditions}
use Rattle.value_indices.specs.Opening.{any_integer, any_truth, largest_num, least_num, zero_num, equal, opened}

-- ---- widened types: `int` for every integer, `bool` for every truth

-- a type `{'n, C. T}` stays as it is: where T is widened, no value tells what 'n is
abbrev pub wide_form : Typ-F (Typ × Typ) → Typ
wide_form (T.Int t) = Y.Range least_num largest_num
wide_form (T.Range t u) = Y.Range least_num largest_num
wide_form (T.Truth c) = Y.Bool
wide_form (T.Exists name c t) = Y.Exists name c t.0
wide_form t = roll-Typ (map-Typ (Typ × Typ) Typ (λ part. part.1) t)

-- of each form, with its parts and their widened types
unfoldable pub wide_typ : Typ → Typ
wide_typ = para-Typ Typ wide_form

abbrev pub wide_indices : Indices-F Indices Reading → Indices
wide_indices i = roll-Indices i

abbrev pub wide_reading : Reading-F Indices Reading → Reading
wide_reading (W.Of t is rs) = R.Of (wide_typ t) is rs
wide_reading r = roll-Reading r

-- the indices, with the types in them widened
abbrev pub wide_value : Indices → Indices
wide_value = fold-Indices Indices Reading wide_indices wide_reading

-- the widened type of a value of these indices, and of a type
abbrev pub widened : Indices → Reading
widened i = R.Widened (wide_value i)

abbrev pub widened_type : Reading → Reading
widened_type = fold-Reading Indices Reading wide_indices wide_reading

-- ---- a type spelled out and widened: each width, each length and each argument in it stands by itself. A type that binds a variable is left as
-- it is, and so is one with a number that can't be said

abbrev pub bits_spelled : Reading → Option Num → Reading
bits_spelled left None = left
bits_spelled left (Some t) = R.Widened (I.Bits t)

abbrev pub vector_spelled : Reading → Reading → Option Num → Reading
vector_spelled left item None = left
vector_spelled left item (Some n) = R.Widened (I.Vector n item)

abbrev pub named_spelled : Reading → ℕ → List Reading → Option (List Index) → Reading
named_spelled left u rs None = left
named_spelled left u rs (Some is) = R.Widened (I.Named u is rs)

abbrev pub variable_spelled : ℕ → Option Reading → Reading
variable_spelled i None = R.Widened (I.Variable i)
variable_spelled i (Some r) = r

-- of each form, with its parts and how they are spelled
abbrev pub form_spelled : List Index → List Reading → Typ-F (Typ × Reading) → Reading
form_spelled is rs T.Unit = R.Widened I.Unit
form_spelled is rs T.Bool = R.Widened (I.Truth (C.Truth true))
form_spelled is rs (T.Truth c) = R.Widened (I.Truth (C.Truth true))
form_spelled is rs T.Bit = R.Widened I.Bit
form_spelled is rs (T.Bits t) = bits_spelled (R.Of (Y.Bits t) is rs) (read is t)
form_spelled is rs (T.Int t) = R.Widened (I.Integer zero_num)
form_spelled is rs (T.Range t u) = R.Widened (I.Integer zero_num)
form_spelled is rs T.String = R.Widened I.String
form_spelled is rs (T.List t) = R.Widened (I.List t.1)
form_spelled is rs (T.Vector n t) = vector_spelled (R.Of (Y.Vector n t.0) is rs) t.1 (read is n)
form_spelled is rs (T.Tuple ts) = R.Parts (map (λ t. t.1) ts)
form_spelled is rs (T.Named u js ts) = named_spelled (R.Of (Y.Named u js (map (λ t. t.0) ts)) is rs) u (map (λ t. t.1) ts) (read_indices is js)
form_spelled is rs (T.Variable i) = variable_spelled i (slice_get rs i)
form_spelled is rs (T.Exists name c t) = R.Of (Y.Exists name c t.0) is rs

unfoldable pub typ_spelled : List Index → List Reading → Typ → Reading
typ_spelled is rs = para-Typ Reading (form_spelled is rs)

abbrev pub reading_spelled : Reading-F Indices Reading → Reading
reading_spelled (W.Of t is rs) = typ_spelled is rs t
reading_spelled r = roll-Reading r

-- the types in a value, and a type
abbrev pub value_spelled : Indices → Indices
value_spelled = fold-Indices Indices Reading wide_indices reading_spelled

abbrev pub type_spelled : Reading → Reading
type_spelled = fold-Reading Indices Reading wide_indices reading_spelled

-- ---- numbers over the variables before one

abbrev pub atom_below : ℕ → Atom-F Bool Bool Bool → Bool
atom_below m (A.Variable i) = nat_lt i m
atom_below m (A.Power t) = t

abbrev pub sum_below : Num-F Bool Bool Bool → Bool
sum_below n = list_all (λ t. t) n.terms

abbrev pub term_below : Term-F Bool Bool Bool → Bool
term_below t = t.atom

abbrev pub is_below : ℕ → Num → Bool
is_below m = fold-Num Bool Bool Bool (atom_below m) sum_below term_below

abbrev pub is_atom_below : ℕ → Atom → Bool
is_atom_below m = fold-Atom Bool Bool Bool (atom_below m) sum_below term_below

abbrev pub is_term_below : ℕ → Term → Bool
is_term_below m = fold-Term Bool Bool Bool (atom_below m) sum_below term_below

abbrev pub form_below : ℕ → Con-F Bool → Bool
form_below m (E.Truth b) = true
form_below m (E.Holds p) = nat_lt p m
form_below m (E.Compare how t u) = is_below m t && is_below m u
form_below m (E.OneOf t zs) = is_below m t
form_below m (E.Not b) = b
form_below m (E.All bs) = list_all (λ b. b) bs
form_below m (E.Any bs) = list_all (λ b. b) bs

abbrev pub is_con_below : ℕ → Con → Bool
is_con_below m = fold-Con Bool (form_below m)

-- ---- where ways meet

-- a number of the first way, as it is or fresh; of a fresh one no more is known
unfoldable pub kept_num : ℕ → Num → Walk Num
kept_num m t = if is_below m t then give t else bind fresh (λ v. give (variable v))

unfoldable pub kept_con : ℕ → Con → Walk Con
kept_con m c = if is_con_below m c then give c else bind fresh (λ p. give (C.Holds p))

abbrev pub kept_index : ℕ → Index → Walk Index
kept_index m (N.Number t) = bind (kept_num m t) (λ u. give (N.Number u))
kept_index m (N.Truth c) = bind (kept_con m c) (λ d. give (N.Truth d))

unfoldable pub kept_each : ℕ → List Index → Walk (List Index)
kept_each m = each (kept_index m)

-- the widest type of a shape: any integer, any truth, fresh numbers
abbrev pub fresh_index : Parameter → Kind → Walk (List Index)
fresh_index p K.Int = bind fresh (λ v. give (N.Number (variable v) ∷ []))
fresh_index p K.Bool = bind fresh (λ v. give (N.Truth (C.Holds v) ∷ []))
fresh_index p K.Type = give []

abbrev pub fresh_indices : List Parameter → Walk (List Index)
fresh_indices [] = give []
fresh_indices (p ∷ ps) = bind (fresh_index p p.kind) (λ i. bind (fresh_indices ps) (λ is. give (i ++ is)))

abbrev pub parameters_of : Option Definition → List Parameter
parameters_of None = []
parameters_of (Some d) = d.parameters

abbrev pub in_turn : {A : Type 0} → List (Walk A) → Walk (List A)
in_turn [] = give []
in_turn (w ∷ ws) = bind w (λ x. bind (in_turn ws) (λ xs. give (x ∷ xs)))

abbrev pub widest_form : Types → Shape-F (Walk Reading) → Walk Reading
widest_form types S.Unit = give (R.Widened I.Unit)
widest_form types S.Bool = give (R.Widened (I.Truth (C.Truth true)))
widest_form types S.Bit = give (R.Widened I.Bit)
widest_form types S.Bits = bind fresh (λ v. give (R.Widened (I.Bits (variable v))))
widest_form types S.Int = give (R.Widened (I.Integer zero_num))
widest_form types S.String = give (R.Widened I.String)
widest_form types (S.List s) = bind s (λ r. give (R.Widened (I.List r)))
widest_form types (S.Vector s) = bind fresh (λ v. bind s (λ r. give (R.Widened (I.Vector (variable v) r))))
widest_form types (S.Tuple ss) = bind (in_turn ss) (λ rs. give (R.Parts rs))
widest_form types (S.Named u ss) =
    bind (fresh_indices (parameters_of (slice_get types.definitions u))) (λ is. bind (in_turn ss) (λ rs. give (R.Widened (I.Named u is rs))))
widest_form types (S.Variable i) = give (R.Widened (I.Variable i))
widest_form types S.Hole = give R.Hole
widest_form types S.Never = give R.Hole

unfoldable pub widest_of : Types → Shape → Walk Reading
widest_of types = fold-Shape (Walk Reading) (widest_form types)

-- the shapes of parts, holes where there are none
abbrev pub item_form : Shape-F Shape → Shape
item_form (S.List s) = s
item_form (S.Vector s) = s
item_form form = V.Hole

abbrev pub item_shape : Shape → Shape
item_shape s = item_form (out-Shape s)

abbrev pub parts_form : Shape-F Shape → List Shape
parts_form (S.Tuple ss) = ss
parts_form (S.Named i ss) = ss
parts_form form = []

abbrev pub part_shapes : Shape → List Shape
part_shapes s = parts_form (out-Shape s)

abbrev pub shape_or_hole : Option Shape → Shape
shape_or_hole None = V.Hole
shape_or_hole (Some s) = s

-- ---- the shape that a type of this shape gives to its Type variables: each that at the first place of the variable

abbrev pub Shaped : Type 0
Shaped = ℕ → Shape → Option Shape

abbrev pub inside_shaped : Shaped → ℕ → Shape-F Shape → Option Shape
inside_shaped f k (S.List s) = f k s
inside_shaped f k (S.Vector s) = f k s
inside_shaped f k form = None

abbrev pub shaped_among : List Shaped → ℕ → List Shape → Option Shape
shaped_among (f ∷ fs) k (s ∷ ss) = first (f k s) (shaped_among fs k ss)
shaped_among fs k ss = None

abbrev pub form_shaped : Typ-F Shaped → Shaped
form_shaped (T.List f) k s = inside_shaped f k (out-Shape s)
form_shaped (T.Vector n f) k s = inside_shaped f k (out-Shape s)
form_shaped (T.Tuple fs) k s = shaped_among fs k (part_shapes s)
form_shaped (T.Named u is fs) k s = shaped_among fs k (part_shapes s)
form_shaped (T.Variable i) k s = only (nat_eq i k) s
form_shaped (T.Exists name c f) k s = f k s
form_shaped t k s = None

abbrev pub shaped : Typ → Shaped
shaped = fold-Typ Shaped form_shaped

-- so many of them, from that variable on; holes where there is no place
abbrev pub variable_shapes : ℕ → ℕ → Typ → Shape → List Shape
variable_shapes k zero t s = []
variable_shapes k (suc count) t s = shape_or_hole (shaped t k s) ∷ variable_shapes (suc k) count t s

-- what is kept: of a value, which is opened, or of a type; by its shape, which fills its holes
abbrev pub Keep : Type 0 → Type 0
Keep A = Shape → Walk A

abbrev pub each_kept : {A : Type 0} → List (Keep A) → List Shape → Walk (List A)
each_kept [] ss = give []
each_kept (f ∷ fs) [] = bind (f V.Hole) (λ x. bind (each_kept fs []) (λ xs. give (x ∷ xs)))
each_kept (f ∷ fs) (s ∷ ss) = bind (f s) (λ x. bind (each_kept fs ss) (λ xs. give (x ∷ xs)))

abbrev pub KeepIndices : Type 0
KeepIndices = Bool → Keep Indices

abbrev pub opened_or_not : Bool → List KeepIndices → List (Keep Indices)
opened_or_not opens parts = map (λ p. p opens) parts

unfoldable pub kept_integer : Bool → Walk Indices
kept_integer true = any_integer M.Unnamed
kept_integer false = give (I.Integer zero_num)

unfoldable pub kept_truth : Bool → Walk Indices
kept_truth true = any_truth M.Unnamed
kept_truth false = give (I.Truth (C.Truth true))

abbrev pub kept_indices : ℕ → Indices-F KeepIndices (Keep Reading) → KeepIndices
kept_indices m W.Never opens s = give I.Never
kept_indices m W.Unit opens s = give I.Unit
kept_indices m (W.Truth c) opens s = kept_truth opens
kept_indices m W.Bit opens s = give I.Bit
kept_indices m (W.Bits t) opens s = bind (kept_num m t) (λ u. give (I.Bits u))
kept_indices m (W.Integer t) opens s = kept_integer opens
kept_indices m W.String opens s = give I.String
kept_indices m (W.List r) opens s = bind (r (item_shape s)) (λ q. give (I.List q))
kept_indices m (W.Vector n r) opens s = bind (kept_num m n) (λ k. bind (r (item_shape s)) (λ q. give (I.Vector k q)))
kept_indices m (W.Tuple parts) opens s = bind (each_kept (opened_or_not opens parts) (part_shapes s)) (λ is. give (I.Tuple is))
kept_indices m (W.Named u arguments rs) opens s =
    bind (kept_each m arguments) (λ is. bind (each_kept rs (part_shapes s)) (λ qs. give (I.Named u is qs)))
kept_indices m (W.Variable i) opens s = give (I.Variable i)

abbrev pub kept_reading : Types → ℕ → Reading-F KeepIndices (Keep Reading) → Keep Reading
kept_reading types m (W.Of t is rs) s =
    bind (kept_each m is) (λ js. bind (each_kept rs (variable_shapes 0 (length rs) t s)) (λ qs. give (R.Of (wide_typ t) js qs)))
kept_reading types m (W.Widened i) s = bind (i false s) (λ j. give (R.Widened j))
kept_reading types m (W.Parts rs) s = bind (each_kept rs (part_shapes s)) (λ qs. give (R.Parts qs))
kept_reading types m W.Hole s = widest_of types s

unfoldable pub kept_value : Types → ℕ → Indices → KeepIndices
kept_value types m = fold-Indices KeepIndices (Keep Reading) (kept_indices m) (kept_reading types m)

unfoldable pub kept_type : Types → ℕ → Reading → Keep Reading
kept_type types m = fold-Reading KeepIndices (Keep Reading) (kept_indices m) (kept_reading types m)

-- the widened type of a first way of this shape, opened; numbers that only name variables before m are kept. It is spelled out, so that each
-- number that isn't kept is a fresh one by itself
abbrev pub met : Types → ℕ → Shape → Indices → Walk Indices
met types m s i = kept_value types m (value_spelled i) true s

-- the widened type itself
abbrev pub filled : Types → ℕ → Shape → Indices → Walk Reading
filled types m s i = bind (kept_value types m i false s) (λ j. give (R.Widened j))

-- ---- what another way owes: the numbers that are kept of the first, its own number first

abbrev pub same_num : ℕ → Num → Num → Conditions
same_num m first other = if is_below m first then Some (equal other first) ∷ [] else []

abbrev pub implies : Con → Con → Con
implies c d = C.Any (C.Not c ∷ d ∷ [])

abbrev pub same_truth : ℕ → Con → Con → Conditions
same_truth m c d = if is_con_below m c then Some (implies d c) ∷ Some (implies c d) ∷ [] else []

-- what differs in its form doesn't agree
abbrev pub differs : Conditions
differs = Some (C.Truth false) ∷ []

abbrev pub same_index : ℕ → Index → Index → Conditions
same_index m (N.Number t) (N.Number u) = same_num m t u
same_index m (N.Truth c) (N.Truth d) = same_truth m c d
same_index m i j = differs

abbrev pub same_indices : ℕ → List Index → List Index → Conditions
same_indices m (i ∷ is) (j ∷ js) = same_index m i j ++ same_indices m is js
same_indices m is js = []

abbrev pub Agree : Type 0
Agree = Indices → Indices → Conditions

abbrev pub each_agrees : Agree → List Indices → List Indices → Conditions
each_agrees agree (i ∷ is) (j ∷ js) = agree i j ++ each_agrees agree is js
each_agrees agree is js = []

-- types agree where values of them do, of which no more is known
abbrev pub value_of_type : ℕ → Reading → Indices
value_of_type m r = (opened r [] m).value

abbrev pub types_agree : Agree → ℕ → Reading → Reading → Conditions
types_agree agree m r q = agree (value_of_type m r) (value_of_type m q)

abbrev pub each_type_agrees : Agree → ℕ → List Reading → List Reading → Conditions
each_type_agrees agree m (r ∷ rs) (q ∷ qs) = types_agree agree m r q ++ each_type_agrees agree m rs qs
each_type_agrees agree m rs qs = []

abbrev pub form_agrees : Agree → ℕ → Indices-F Indices Reading → Indices-F Indices Reading → Conditions
form_agrees agree m (W.Bits t) (W.Bits u) = same_num m t u
form_agrees agree m (W.List r) (W.List q) = types_agree agree m r q
form_agrees agree m (W.Vector n r) (W.Vector k q) = same_num m n k ++ types_agree agree m r q
form_agrees agree m (W.Tuple is) (W.Tuple js) = each_agrees agree is js
form_agrees agree m (W.Named u is rs) (W.Named v js qs) = same_indices m is js ++ each_type_agrees agree m rs qs
form_agrees agree m i j = []

-- whether two values are of one form: another that never ends is of each, and of what never ends there is no other
abbrev pub alike : Indices-F Indices Reading → Indices-F Indices Reading → Bool
alike W.Never W.Never = true
alike W.Never j = false
alike i W.Never = true
alike W.Unit W.Unit = true
alike (W.Truth c) (W.Truth d) = true
alike W.Bit W.Bit = true
alike (W.Bits t) (W.Bits u) = true
alike (W.Integer t) (W.Integer u) = true
alike W.String W.String = true
alike (W.List r) (W.List q) = true
alike (W.Vector n r) (W.Vector k q) = true
alike (W.Tuple is) (W.Tuple js) = nat_eq (length is) (length js)
alike (W.Named u is rs) (W.Named v js qs) = (nat_eq u v && nat_eq (length is) (length js)) && nat_eq (length rs) (length qs)
alike (W.Variable i) (W.Variable j) = nat_eq i j
alike i j = false

abbrev pub if_alike : Bool → Conditions → Conditions
if_alike true cs = cs
if_alike false cs = differs

-- through types inside types to this depth
abbrev pub agrees_within : ℕ → ℕ → Agree
agrees_within zero m i j = differs
agrees_within (suc depth) m i j = if_alike (alike (out-Indices i) (out-Indices j)) (form_agrees (agrees_within depth m) m (out-Indices i) (out-Indices j))
