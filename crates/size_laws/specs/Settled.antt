-- Types whose sizes stay what they are where a value is opened (Sail language manual, "Type variables", "Bitvectors").
use Rattle.std.specs.Prelude.{◌≡◌, ℕ, suc, ℤ, Bool, true, false, List, [], ◌∷◌, map, length, slice_get, Some, None}
use Rattle.sail_types.specs.Limits.{is_small}
use Rattle.sail_types.specs.Readings.{read_index}
use Rattle.sail_types.specs.Sums.{read, variable}
use Rattle.sail_types.specs.declared.numbers.Con.{Con}
use Rattle.sail_types.specs.declared.numbers.Index.{Index}
use Rattle.sail_types.specs.declared.numbers.Index.TheVariants as N
use Rattle.sail_types.specs.declared.numbers.Num.{Num}
use Rattle.sail_types.specs.declared.table.Types.{Types}
use Rattle.sail_types.specs.declared.types.Typ.{Typ, Typ-F, out-Typ}
use Rattle.sail_types.specs.declared.types.Typ.TheOpen as T
use Rattle.sail_types.specs.declared.types.Typ.TheVariants as U
use Rattle.value_indices.specs.declared.indices.Reading.{Reading}
use Rattle.value_indices.specs.declared.indices.Reading.TheVariants as R
use Rattle.value_indices.specs.declared.indices.Indices.{Indices}
use Rattle.size_values.specs.declared.constants.Constant.{Constant}
use Rattle.size_values.specs.declared.constants.Constant.TheVariants as C
use Rattle.size_values.specs.declared.sized.Sized.{Sized}
use Rattle.size_values.specs.Numbers.{argument_of, constant_under, index_under}
use Rattle.size_values.specs.Sized.{hangs_on, integer_of, reading_sized, sized_at, typ_sized, types_or_own}
use Rattle.size_laws.specs.Known.{all_numbers}

-- what is opened: a type, or types in order, under what their variables stand for and under constants for these; types of the walk
pub data Piece : Type 0 where
  of_type : List Reading → List Index → List Constant → Typ → Piece
  of_types : List Reading → List Index → List Constant → List Typ → Piece
  of_reading : Reading → Piece
  of_readings : List Reading → Piece

module _ (types : Types) (own : List Sized) (of : ℕ → Constant) where
  -- what the first Type variables stand for
  abbrev pub stood : List Reading → List Sized
  stood rs = types_or_own (map (reading_sized types own of) rs) own

  abbrev pub constants : List Index → List Constant
  constants is = map (index_under of) is

  -- a size can be said under what its variables stand for, and it is one integer both ways
  pub record Says (is : List Index) (cs : List Constant) (t : Num) : Type 0 where
    pub said : Num
    pub is_said : read is t ≡ Some said
    pub same : integer_of (constant_under of said) ≡ integer_of (constant_under (argument_of cs) t)

  -- so can an argument of a named type
  pub record SaysArgument (is : List Index) (cs : List Constant) (a : Index) : Type 0 where
    pub said : Index
    pub is_said : read_index is a ≡ Some said
    pub same : integer_of (index_under of said) ≡ integer_of (index_under (argument_of cs) a)

  -- each of so many on which a size hangs, from this one on
  abbrev pub SaysArguments : ℕ → ℕ → ℕ → List Index → List Constant → List Index → Type 0
  SaysArguments u n k is cs [] = Unit {0}
  SaysArguments u n k is cs (a ∷ args) = (hangs_on types u n k ≡ true → SaysArgument is cs a) × SaysArguments u n (suc k) is cs args

  -- a type that isn't opened is the same under what its variables stand for: no size in it hangs on what `{'n, C. T}` binds around it
  abbrev pub IsAlike : List Reading → List Index → List Constant → Typ → Type 0
  IsAlike rs is cs t = typ_sized types (stood rs) t cs ≡ typ_sized types (stood rs) t (constants is)

  abbrev pub AreAlike : List Reading → List Index → List Constant → List Typ → Type 0
  AreAlike rs is cs [] = Unit {0}
  AreAlike rs is cs (t ∷ ts) = IsAlike rs is cs t × AreAlike rs is cs ts

-- all sizes that opening says are such, whatever variables are opened for what a type binds
pub data Settled (types : Types) (own : List Sized) (of : ℕ → Constant) : Piece → Type 0 where
  unit : (rs : List Reading) (is : List Index) (cs : List Constant) → Settled types own of (of_type rs is cs U.Unit)
  bool : (rs : List Reading) (is : List Index) (cs : List Constant) → Settled types own of (of_type rs is cs U.Bool)
  truth : (rs : List Reading) (is : List Index) (cs : List Constant) (c : Con) → Settled types own of (of_type rs is cs (U.Truth c))
  bit : (rs : List Reading) (is : List Index) (cs : List Constant) → Settled types own of (of_type rs is cs U.Bit)
  -- each size of a type that is opened; the types of items and arguments aren't
  bits : (rs : List Reading) (is : List Index) (cs : List Constant) (t : Num) → Says types own of is cs t → Settled types own of (of_type rs is cs (U.Bits t))
  int : (rs : List Reading) (is : List Index) (cs : List Constant) (t : Num) → Settled types own of (of_type rs is cs (U.Int t))
  range : (rs : List Reading) (is : List Index) (cs : List Constant) (t u : Num) → Settled types own of (of_type rs is cs (U.Range t u))
  string : (rs : List Reading) (is : List Index) (cs : List Constant) → Settled types own of (of_type rs is cs U.String)
  list : (rs : List Reading) (is : List Index) (cs : List Constant) (t : Typ) → IsAlike types own of rs is cs t
      → Settled types own of (of_type rs is cs (U.List t))
  vector : (rs : List Reading) (is : List Index) (cs : List Constant) (n : Num) (t : Typ) → Says types own of is cs n → IsAlike types own of rs is cs t
      → Settled types own of (of_type rs is cs (U.Vector n t))
  -- the parts of a tuple are opened with it
  tuple : (rs : List Reading) (is : List Index) (cs : List Constant) (ts : List Typ) → Settled types own of (of_types rs is cs ts)
      → Settled types own of (of_type rs is cs (U.Tuple ts))
  -- the arguments of a named type on which a size hangs
  named : (rs : List Reading) (is : List Index) (cs : List Constant) (u : ℕ) (args : List Index) (ts : List Typ)
      → SaysArguments types own of u (length args) 0 is cs args → AreAlike types own of rs is cs ts
      → Settled types own of (of_type rs is cs (U.Named u args ts))
  -- what a Type variable stands for; one of the function at work
  found : (rs : List Reading) (is : List Index) (cs : List Constant) (i : ℕ) (r : Reading) → slice_get rs i ≡ Some r → Settled types own of (of_reading r)
      → Settled types own of (of_type rs is cs (U.Variable i))
  own_variable : (rs : List Reading) (is : List Index) (cs : List Constant) (i : ℕ) → slice_get rs i ≡ None
      → sized_at (stood types own of rs) i ≡ sized_at own i → Settled types own of (of_type rs is cs (U.Variable i))
  -- what a type binds, for each variable that it is opened to: no constant is known for it
  exists : (rs : List Reading) (is : List Index) (cs : List Constant) (name : List ℕ) (c : Con) (t : Typ)
      → ((v : ℕ) → Settled types own of (of_type rs (N.Number (variable v) ∷ is) (C.Bound name ∷ cs) t))
      → Settled types own of (of_type rs is cs (U.Exists name c t))
  no_types : (rs : List Reading) (is : List Index) (cs : List Constant) → Settled types own of (of_types rs is cs [])
  more_types : (rs : List Reading) (is : List Index) (cs : List Constant) (t : Typ) (ts : List Typ) → Settled types own of (of_type rs is cs t)
      → Settled types own of (of_types rs is cs ts) → Settled types own of (of_types rs is cs (t ∷ ts))
  -- a type of the walk, where the constants are those of what its variables stand for
  typ_of : (t : Typ) (is : List Index) (rs : List Reading) → Settled types own of (of_type rs is (constants types own of is) t)
      → Settled types own of (of_reading (R.Of t is rs))
  widened : (i : Indices) → Settled types own of (of_reading (R.Widened i))
  parts : (rs : List Reading) → Settled types own of (of_readings rs) → Settled types own of (of_reading (R.Parts rs))
  hole : Settled types own of (of_reading R.Hole)
  no_readings : Settled types own of (of_readings [])
  more_readings : (r : Reading) (rs : List Reading) → Settled types own of (of_reading r) → Settled types own of (of_readings rs)
      → Settled types own of (of_readings (r ∷ rs))

-- ---- what a value of a type tells

abbrev pub form_binds : Typ-F Typ → Bool
form_binds (T.Exists name c t) = true
form_binds form = false

-- whether a type binds a variable at its front
abbrev pub binds : Typ → Bool
binds t = form_binds (out-Typ t)

-- whatever integers of a model the variables are that are opened for what a type binds at its front, the sizes behind them are settled
pub data Tells (types : Types) (own : List Sized) (f : ℕ → ℤ) (rs : List Reading) : List Index → Typ → Type 0 where
  tells_plain : (is : List Index) (t : Typ) → binds t ≡ false
      → Settled types own (all_numbers f) (of_type rs is (constants types own (all_numbers f) is) t) → Tells types own f rs is t
  tells_bound : (is : List Index) (name : List ℕ) (c : Con) (t : Typ)
      → ((v : ℕ) → is_small (f v) ≡ true → Tells types own f rs (N.Number (variable v) ∷ is) t) → Tells types own f rs is (U.Exists name c t)
