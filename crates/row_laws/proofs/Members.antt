-- The member of a builtin that takes the arguments, and what the table of builtins says of it.
use Rattle.std.proofs.Common.{◌≡◌, ℕ, suc, ◌≤◌, nat_le, Bool, true, false, ◌&&◌, ◌||◌, if◌then◌else◌, List, [], ◌∷◌, map, length, ap, sym, refl, subst, arith}
use Rattle.std.proofs.Common.{inl, inr}
use Rattle.std.specs.Prelude.{Contains}
use Rattle.std.proofs.lemmas.Bool.{and_parts, leb-true}
use Rattle.sail_types.specs.Rows.{row_members, comparison, comparable, member, lengths, enums_from, is_enum}
use Rattle.sail_types.specs.declared.members.Member.{Member}
use Rattle.sail_types.specs.declared.numbers.Comparison.{Comparison}
use Rattle.sail_types.specs.declared.numbers.Comparison.TheVariants as Is
use Rattle.sail_types.specs.declared.rows.Row.{Row}
use Rattle.sail_types.specs.declared.rows.Row.TheVariants as R
use Rattle.sail_types.specs.declared.shapes.Shape.{Shape, Shape-F, out-Shape}
use Rattle.sail_types.specs.declared.shapes.Shape.TheOpen as S
use Rattle.sail_types.specs.declared.shapes.Shape.TheVariants as V
use Rattle.sail_types.specs.declared.table.Definition.{Definition}
use Rattle.sail_types.specs.declared.table.Types.{Types}
use Rattle.row_types.specs.declared.kinds.Outcome.TheVariants as O
use Rattle.row_types.specs.RowTypes.{row_type, compared, under}
use Rattle.row_types.specs.Calls as Of
use Rattle.row_types.specs.laws.Shapes.{int_is, bits_is, bit_is, bool_is, string_is, unit_is, vector_is, named_is, only_member, first_or_more}
use Rattle.value_indices.specs.declared.indices.Indices.{Indices, out-Indices}
use Rattle.value_indices.specs.declared.indices.Indices.TheOpen as W
use Rattle.value_laws.proofs.Basics.{no}
use Rattle.call_notes.specs.Rows.{form_shape, argument_shape, first_shape}
use Rattle.call_notes.specs.Taken.{Form, is_unit, is_truth, is_bit, is_bits, is_integer, is_string, is_vector, is_member_of, is_any}
use Rattle.call_notes.specs.Taken.{form_suits, suits, each_suits, any_suits, takes}

-- ---- which member

-- the one builtin of which a parameter may have any shape
abbrev pub is_filling : Row → Bool
is_filling R.VectorInit = true
is_filling row = false

behind : (f : Member → Bool) (m : Member) (ms : List Member) → (x : Member) × Contains ms x × (f x ≡ true)
    → (x : Member) × Contains (m ∷ ms) x × (f x ≡ true)
behind f m ms (x, (k, l, e), h) = (x, (suc k, omega (arith, l), e), h)

here_or : (f : Member → Bool) (m : Member) (ms : List Member) (b c : Bool) → f m ≡ b
    → (c ≡ true → (x : Member) × Contains ms x × (f x ≡ true)) → (b || c) ≡ true
    → (x : Member) × Contains (m ∷ ms) x × (f x ≡ true)
here_or f m ms true c e rest h = (m, (0, omega arith, refl), e)
here_or f m ms false c e rest h = behind f m ms (rest h)

any_there : (types : Types) (is : List Indices) (ms : List Member) → any_suits types is ms ≡ true
    → (x : Member) × Contains ms x × (each_suits types x.params is ≡ true)
any_there types is [] h = no h
any_there types is (m ∷ ms) h =
    here_or (λ x. each_suits types x.params is) m ms (each_suits types m.params is) (any_suits types is ms) refl (any_there types is ms) h

pub member_of : (types : Types) (r : Row) (is : List Indices) → takes types r is ≡ true
    → (m : Member) × Contains (row_members types r) m × (each_suits types m.params is ≡ true)
member_of types r is h = any_there types is (row_members types r) h

-- ---- each of its parameters

abbrev pub AllSuit : Types → List Shape → List Indices → Type 0
AllSuit types [] [] = Unit {0}
AllSuit types [] (i ∷ is) = ⊥
AllSuit types (s ∷ ss) [] = ⊥
AllSuit types (s ∷ ss) (i ∷ is) = (suits types s i ≡ true) × AllSuit types ss is

pub all_suit : (types : Types) (ss : List Shape) (is : List Indices) → each_suits types ss is ≡ true → AllSuit types ss is
all_suit types (s ∷ []) (i ∷ []) h = (h, tt)
all_suit types (s ∷ t ∷ []) (i ∷ j ∷ []) h = let p = and_parts (suits types s i) (suits types t j) h in (p.0, (p.1, tt))
all_suit types (s ∷ t ∷ u ∷ []) (i ∷ j ∷ k ∷ []) h =
    let p = and_parts (suits types s i) (suits types t j && suits types u k) h in
    let q = and_parts (suits types t j) (suits types u k) p.1 in (p.0, (q.0, (q.1, tt)))
all_suit types ss is h = no h

is_short : (types : Types) (ss : List Shape) (is : List Indices) → each_suits types ss is ≡ true → nat_le (length ss) 3 ≡ true
is_short types (s ∷ []) (i ∷ []) h = refl
is_short types (s ∷ t ∷ []) (i ∷ j ∷ []) h = refl
is_short types (s ∷ t ∷ u ∷ []) (i ∷ j ∷ k ∷ []) h = refl
is_short types ss is h = no h

pub few_params : (types : Types) (ss : List Shape) (is : List Indices) → each_suits types ss is ≡ true → length ss ≤ 3
few_params types ss is h = leb-true (length ss) 3 (is_short types ss is h)

-- ---- but of the one builtin none is of any shape

abbrev pub IsPlain : Shape → Type 0
IsPlain s = is_any (out-Shape s) ≡ false

abbrev pub AllPlain : List Shape → Type 0
AllPlain [] = Unit {0}
AllPlain (s ∷ ss) = IsPlain s × AllPlain ss

pub int : IsPlain V.Int
int = ap is_any int_is

bits : IsPlain V.Bits
bits = ap is_any bits_is

bit : IsPlain V.Bit
bit = ap is_any bit_is

bool : IsPlain V.Bool
bool = ap is_any bool_is

string : IsPlain V.String
string = ap is_any string_is

unit : IsPlain V.Unit
unit = ap is_any unit_is

vector : (s : Shape) → IsPlain (V.Vector s)
vector s = ap is_any (vector_is s)

named : (i : ℕ) (ss : List Shape) → IsPlain (V.Named i ss)
named i ss = ap is_any (named_is i ss)

enums_plain : (i : ℕ) (ds : List Definition) → AllPlain (enums_from i ds)
enums_plain i [] = tt
enums_plain i (d ∷ ds) = by_enum (is_enum d) (enums_plain (suc i) ds)
  where
    by_enum : (b : Bool) → AllPlain (enums_from (suc i) ds) → AllPlain (if b then V.Named i [] ∷ enums_from (suc i) ds else enums_from (suc i) ds)
    by_enum true rest = (named i [], rest)
    by_enum false rest = rest

compared_plain : (r : Row) (ss : List Shape) (m : Member) → AllPlain ss → Contains (map (comparison r) ss) m → AllPlain m.params
compared_plain r [] m h (k, l, e) = absurd (omega (arith, l))
compared_plain r (s ∷ ss) m h c =
    elim (first_or_more (comparison r s) (map (comparison r) ss) m c) [
      | inl e ↦ subst (λ x. AllPlain x.params) e (h.0, (h.0, tt))
      | inr d ↦ compared_plain r ss m h.1 d
    ]

comparable_plain : (types : Types) → AllPlain (comparable types)
comparable_plain types = (int, (bits, (bit, (bool, (string, (unit, enums_plain 0 types.definitions))))))

length_plain : (m : Member) → Contains lengths m → AllPlain m.params
length_plain m c =
    elim (first_or_more (member R.Length (V.Bits ∷ []) V.Int) (member R.Length (V.Vector (V.Variable 0) ∷ []) V.Int ∷ []) m c) [
      | inl e ↦ subst (λ x. AllPlain x.params) e (bits, tt)
      | inr d ↦ subst (λ x. AllPlain x.params) (only_member (member R.Length (V.Vector (V.Variable 0) ∷ []) V.Int) m d) (vector (V.Variable 0), tt)
    ]

only_plain : (x m : Member) → Contains (x ∷ []) m → AllPlain x.params → AllPlain m.params
only_plain x m c h = subst (λ y. AllPlain y.params) (only_member x m c) h

pub row_plain : (types : Types) (r : Row) (m : Member) → is_filling r ≡ false → Contains (row_members types r) m → AllPlain m.params
row_plain types R.AddInt m n c = only_plain _ m c (int, (int, tt))
row_plain types R.SubInt m n c = only_plain _ m c (int, (int, tt))
row_plain types R.MultInt m n c = only_plain _ m c (int, (int, tt))
row_plain types R.NegInt m n c = only_plain _ m c (int, tt)
row_plain types R.Pow2 m n c = only_plain _ m c (int, tt)
row_plain types R.AbsInt m n c = only_plain _ m c (int, tt)
row_plain types R.MinInt m n c = only_plain _ m c (int, (int, tt))
row_plain types R.MaxInt m n c = only_plain _ m c (int, (int, tt))
row_plain types R.EdivInt m n c = only_plain _ m c (int, (int, tt))
row_plain types R.EmodInt m n c = only_plain _ m c (int, (int, tt))
row_plain types R.TdivInt m n c = only_plain _ m c (int, (int, tt))
row_plain types R.TmodInt m n c = only_plain _ m c (int, (int, tt))
row_plain types R.LtInt m n c = only_plain _ m c (int, (int, tt))
row_plain types R.LteqInt m n c = only_plain _ m c (int, (int, tt))
row_plain types R.GtInt m n c = only_plain _ m c (int, (int, tt))
row_plain types R.GteqInt m n c = only_plain _ m c (int, (int, tt))
row_plain types R.Eq m n c = compared_plain R.Eq (comparable types) m (comparable_plain types) c
row_plain types R.Neq m n c = compared_plain R.Neq (comparable types) m (comparable_plain types) c
row_plain types R.NotBool m n c = only_plain _ m c (bool, tt)
row_plain types R.AddBits m n c = only_plain _ m c (bits, (bits, tt))
row_plain types R.SubBits m n c = only_plain _ m c (bits, (bits, tt))
row_plain types R.MultBits m n c = only_plain _ m c (bits, (bits, tt))
row_plain types R.AddBitsInt m n c = only_plain _ m c (bits, (int, tt))
row_plain types R.SubBitsInt m n c = only_plain _ m c (bits, (int, tt))
row_plain types R.AndBits m n c = only_plain _ m c (bits, (bits, tt))
row_plain types R.OrBits m n c = only_plain _ m c (bits, (bits, tt))
row_plain types R.XorBits m n c = only_plain _ m c (bits, (bits, tt))
row_plain types R.NotBits m n c = only_plain _ m c (bits, tt)
row_plain types R.Shiftl m n c = only_plain _ m c (bits, (int, tt))
row_plain types R.Shiftr m n c = only_plain _ m c (bits, (int, tt))
row_plain types R.ArithShiftr m n c = only_plain _ m c (bits, (int, tt))
row_plain types R.ShiftlBits m n c = only_plain _ m c (bits, (bits, tt))
row_plain types R.ShiftrBits m n c = only_plain _ m c (bits, (bits, tt))
row_plain types R.ArithShiftrBits m n c = only_plain _ m c (bits, (bits, tt))
row_plain types R.LtU m n c = only_plain _ m c (bits, (bits, tt))
row_plain types R.LteqU m n c = only_plain _ m c (bits, (bits, tt))
row_plain types R.GtU m n c = only_plain _ m c (bits, (bits, tt))
row_plain types R.GteqU m n c = only_plain _ m c (bits, (bits, tt))
row_plain types R.LtS m n c = only_plain _ m c (bits, (bits, tt))
row_plain types R.LteqS m n c = only_plain _ m c (bits, (bits, tt))
row_plain types R.GtS m n c = only_plain _ m c (bits, (bits, tt))
row_plain types R.GteqS m n c = only_plain _ m c (bits, (bits, tt))
row_plain types R.Append m n c = only_plain _ m c (bits, (bits, tt))
row_plain types R.ZeroExtend m n c = only_plain _ m c (int, (bits, tt))
row_plain types R.SignExtend m n c = only_plain _ m c (int, (bits, tt))
row_plain types R.Truncate m n c = only_plain _ m c (bits, (int, tt))
row_plain types R.Zeros m n c = only_plain _ m c (int, tt)
row_plain types R.Ones m n c = only_plain _ m c (int, tt)
row_plain types R.ReplicateBits m n c = only_plain _ m c (bits, (int, tt))
row_plain types R.Unsigned m n c = only_plain _ m c (bits, tt)
row_plain types R.Signed m n c = only_plain _ m c (bits, tt)
row_plain types R.ToBits m n c = only_plain _ m c (int, (int, tt))
row_plain types R.Length m n c = length_plain m c
row_plain types R.MulWideUu m n c = only_plain _ m c (bits, (bits, tt))
row_plain types R.MulWideSs m n c = only_plain _ m c (bits, (bits, tt))
row_plain types R.MulWideSu m n c = only_plain _ m c (bits, (bits, tt))
row_plain types R.CountLeadingZeros m n c = only_plain _ m c (bits, tt)
row_plain types R.BoolToBits m n c = only_plain _ m c (bool, tt)
row_plain types R.VectorInit m n c = no (sym n)
row_plain types R.ConcatStr m n c = only_plain _ m c (string, (string, tt))
row_plain types R.DecStr m n c = only_plain _ m c (int, tt)
row_plain types R.BitsStr m n c = only_plain _ m c (bits, tt)
row_plain types R.MemRead m n c = only_plain _ m c (int, (bits, tt))
row_plain types R.MemReserve m n c = only_plain _ m c (int, (bits, tt))
row_plain types R.MemWrite m n c = only_plain _ m c (int, (bits, (bits, tt)))
row_plain types R.MemWriteCond m n c = only_plain _ m c (int, (bits, (bits, tt)))
row_plain types R.MemMapped m n c = only_plain _ m c (int, (bits, tt))
row_plain types R.Print m n c = only_plain _ m c (string, tt)
row_plain types R.PrintEndline m n c = only_plain _ m c (string, tt)
row_plain types R.ConsolePut m n c = only_plain _ m c (bits, tt)

-- ---- the shape by which a row of the table is chosen

module _ (types : Types) (how : Comparison) where
  -- neither integers nor bits
  others : compared how (out-Shape V.Unit) ≡ under [] O.Bool
  others = ap (compared how) unit_is

  of_unit : (x : Form) → is_unit x ≡ true → compared how (out-Shape (form_shape x)) ≡ under [] O.Bool
  of_unit W.Unit h = others
  of_unit x h = no h

  of_truth : (x : Form) → is_truth x ≡ true → compared how (out-Shape (form_shape x)) ≡ under [] O.Bool
  of_truth (W.Truth c) h = others
  of_truth x h = no h

  of_bit : (x : Form) → is_bit x ≡ true → compared how (out-Shape (form_shape x)) ≡ under [] O.Bool
  of_bit W.Bit h = others
  of_bit x h = no h

  of_bits : (x : Form) → is_bits x ≡ true → compared how (out-Shape (form_shape x)) ≡ compared how S.Bits
  of_bits (W.Bits t) h = ap (compared how) bits_is
  of_bits x h = no h

  of_integer : (x : Form) → is_integer x ≡ true → compared how (out-Shape (form_shape x)) ≡ compared how S.Int
  of_integer (W.Integer t) h = ap (compared how) int_is
  of_integer x h = no h

  of_string : (x : Form) → is_string x ≡ true → compared how (out-Shape (form_shape x)) ≡ under [] O.Bool
  of_string W.String h = others
  of_string x h = no h

  of_vector : (x : Form) → is_vector x ≡ true → compared how (out-Shape (form_shape x)) ≡ under [] O.Bool
  of_vector (W.Vector t r) h = others
  of_vector x h = no h

  of_member : (u : ℕ) (x : Form) → is_member_of types u x ≡ true → compared how (out-Shape (form_shape x)) ≡ under [] O.Bool
  of_member u (W.Named v is rs) h = others
  of_member u x h = no h

  compared_same : (y : Shape-F Shape) (x : Form) → is_any y ≡ false → form_suits types y x ≡ true → compared how (out-Shape (form_shape x)) ≡ compared how y
  compared_same S.Unit x e h = of_unit x h
  compared_same S.Bool x e h = of_truth x h
  compared_same S.Bit x e h = of_bit x h
  compared_same S.Bits x e h = of_bits x h
  compared_same S.Int x e h = of_integer x h
  compared_same S.String x e h = of_string x h
  compared_same (S.Vector s) x e h = of_vector x (and_parts (is_any (out-Shape s)) (is_vector x) h).1
  compared_same (S.Named u ss) x e h = of_member u x h
  compared_same (S.Variable j) x e h = no (sym e)
  compared_same y x e h = no h

type_by : (r : Row) (s t : Shape) → ((how : Comparison) → compared how (out-Shape s) ≡ compared how (out-Shape t)) → row_type r s ≡ row_type r t
type_by R.Eq s t h = h Is.Equal
type_by R.Neq s t h = h Is.NotEqual
type_by r s t h = refl

-- the form of the first argument tells the same row as the shape of the first parameter
pub type_same : (types : Types) (r : Row) (ss : List Shape) (is : List Indices) → AllPlain ss → AllSuit types ss is
    → row_type r (first_shape is) ≡ row_type r (Of.first_shape ss)
type_same types r [] [] e h = refl
type_same types r [] (i ∷ is) e h = absurd h
type_same types r (s ∷ ss) [] e h = absurd h
type_same types r (s ∷ ss) (i ∷ is) e h =
    type_by r (argument_shape i) s (λ how. compared_same types how (out-Shape s) (out-Indices i) e.0 h.0)
