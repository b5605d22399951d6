-- The conditions on sizes and numbers that a step of the core needs beside the shapes of its operands (Sail language manual, "Bitvectors",
-- "Vectors", "Pattern matching", "Loops"). Each is true of a value of another form than it speaks of, and of numbers over a type variable that
-- stands for nothing: none of them excuses a wrong shape or a name without a value.
use Rattle.std.specs.Prelude.{ℕ, suc, ◌-◌, nat_eq, nat_lt, ℤ, pos, negsuc, int_le, Bool, true, false, not, ◌&&◌, ◌||◌}
use Rattle.std.specs.Prelude.{List, [], ◌∷◌, map, length, slice_get, Option, Some, None}
use Rattle.std.specs.List.{list_all}
use Rattle.sail_types.specs.Numbers.{Positive}
use Rattle.sail_types.specs.Rows.{row_members}
use Rattle.sail_types.specs.Shapes.{fits, each_fits}
use Rattle.sail_types.specs.Sums.{and_then}
use Rattle.sail_types.specs.declared.members.Member.{Member}
use Rattle.sail_types.specs.declared.numbers.Atom.TheFolds.{fold-Num}
use Rattle.sail_types.specs.declared.numbers.Atom.TheOpen as N
use Rattle.sail_types.specs.declared.numbers.Atom.TheOpen.{Atom-F}
use Rattle.sail_types.specs.declared.numbers.Con.{Con, Con-F, fold-Con}
use Rattle.sail_types.specs.declared.numbers.Con.TheOpen as C
use Rattle.sail_types.specs.declared.numbers.Num.{Num}
use Rattle.sail_types.specs.declared.rows.Row.{Row}
use Rattle.sail_types.specs.declared.table.Types.{Types}
use Rattle.sail_types.specs.declared.values.Value.{Value, Value-F, out-Value}
use Rattle.sail_types.specs.declared.values.Value.TheOpen as W
use Rattle.row_types.specs.RowTypes.{row_type}
use Rattle.row_types.specs.Calls.{is_sized, is_met, has_space, first_shape}
use Rattle.sail_core.specs.declared.patterns.Literal.{Literal}
use Rattle.sail_core.specs.declared.patterns.Literal.TheVariants as L
use Rattle.sail_core.specs.declared.patterns.Head.{Head}
use Rattle.sail_core.specs.declared.patterns.Head.TheVariants as H
use Rattle.sail_core.specs.Making.{plainly}
use Rattle.sail_core.specs.Numbers.{Givens, given_int, given_bool, known, known_truth}
use Rattle.sail_core.specs.Patterns.{widths_of, cut_by}
use Rattle.sail_core.specs.Values.{is_slice}

abbrev pub is_there : {A : Type 0} → Option A → Bool
is_there None = false
is_there (Some x) = true

-- ---- indexes and slices

abbrev pub is_index : ℤ → ℕ → Bool
is_index (pos i) n = nat_lt i n
is_index (negsuc i) n = false

-- an index isn't outside of bits or of a vector
abbrev pub index_met : Value-F Value → Value-F Value → Bool
index_met (W.Integer i) (W.Bits bs) = is_index i (length bs)
index_met (W.Integer i) (W.Vector vs) = is_index i (length vs)
index_met i v = true

abbrev pub spans : ℤ → ℤ → List Bool → Bool
spans (pos hi) (pos lo) bs = is_slice hi lo bs
spans hi lo bs = false

-- a slice isn't outside
abbrev pub slice_met : Value-F Value → Value-F Value → Value-F Value → Bool
slice_met (W.Integer hi) (W.Integer lo) (W.Bits bs) = spans hi lo bs
slice_met hi lo v = true

-- what is put into a slice is as wide
abbrev pub width_met : Value-F Value → Value-F Value → Value-F Value → Bool
width_met (W.Integer (pos hi)) (W.Integer (pos lo)) (W.Bits cs) = nat_eq (length cs) (suc hi - lo)
width_met hi lo v = true

-- ---- numbers

abbrev pub atom_given : Givens → Atom-F Bool Bool Bool → Bool
atom_given nu (N.Variable i) = is_there (given_int (slice_get nu i))
atom_given nu (N.Power t) = t

-- each type variable in a number stands for one
abbrev pub given_in : Givens → Num → Bool
given_in nu = fold-Num Bool Bool Bool (atom_given nu) (λ n. list_all (λ b. b) n.terms) (λ term. term.atom)

abbrev pub con_given : Givens → Con-F Bool → Bool
con_given nu (C.Truth b) = true
con_given nu (C.Holds i) = is_there (given_bool (slice_get nu i))
con_given nu (C.Compare how t u) = given_in nu t && given_in nu u
con_given nu (C.OneOf t zs) = given_in nu t
con_given nu (C.Not b) = b
con_given nu (C.All bs) = list_all (λ b. b) bs
con_given nu (C.Any bs) = list_all (λ b. b) bs

-- each type variable in a constraint stands for a number or a truth
abbrev pub truth_given : Givens → Con → Bool
truth_given nu = fold-Con Bool (con_given nu)

-- exponents of a number over such variables are from 0 to 126, and no number on the way is past the limit of integers
abbrev pub number_met : Givens → Num → Bool
number_met nu t = not (given_in nu t) || is_there (known nu t)

abbrev pub truth_met : Givens → Con → Bool
truth_met nu c = not (truth_given nu c) || is_there (known_truth nu c)

-- ---- patterns

-- widths are numbers over such variables, but for one part at most, which takes the rest
abbrev pub width_given : Givens → Option Num → Bool
width_given nu None = true
width_given nu (Some t) = given_in nu t

abbrev pub one_open : List (Option Num) → Bool
one_open [] = true
one_open (None ∷ ws) = list_all is_there ws
one_open (Some t ∷ ws) = one_open ws

abbrev pub widths_given : Givens → List (Option Num) → Bool
widths_given nu ws = list_all (width_given nu) ws && one_open ws

-- bits are as wide as those that they are compared with
abbrev pub literal_met : Literal → Value-F Value → Bool
literal_met (L.Bits bs) (W.Bits cs) = nat_eq (length bs) (length cs)
literal_met literal v = true

-- a vector has so many items; the widths of the parts of a word aren't negative and use it up
abbrev pub head_met : Givens → Head → ℕ → Value-F Value → Bool
head_met nu (H.Is literal) k v = literal_met literal v
head_met nu H.Vector k (W.Vector vs) = nat_eq (length vs) k
head_met nu (H.Cut ws) k (W.Bits bs) = not (widths_given nu ws) || is_there (and_then (widths_of nu ws) (cut_by plainly bs))
head_met nu head k v = true

-- ---- loops

-- the step of a `foreach` is 1 at least
abbrev pub step_met : Value-F Value → Bool
step_met (W.Integer z) = int_le (pos 1) z
step_met v = true

-- a measure isn't negative
abbrev pub measure_met : Value-F Value → Bool
measure_met (W.Integer (negsuc i)) = false
measure_met v = true

-- ---- builtins

-- what the table of builtins says of a member that takes these values: all are within the limits, what the call owes is true of their numbers,
-- and the width or length of the result is within its limit
abbrev pub member_met : Types → (Num → Positive) → Row → List Value → Member → Bool
member_met types beyond row vs m =
    not (each_fits (map (fits types) vs) m.params) || ((list_all is_sized (map out-Value vs)
    && is_met beyond (row_type row (first_shape m.params)) (map out-Value vs)) && has_space beyond (row_type row (first_shape m.params)) (map out-Value vs))

abbrev pub row_met : Types → (Num → Positive) → Row → List Value → Bool
row_met types beyond row vs = list_all (member_met types beyond row vs) (row_members types row)
