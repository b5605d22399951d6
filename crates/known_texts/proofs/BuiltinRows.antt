-- The builtins: each has a member, which calls it and takes something; its shapes have as many arguments as their types have parameters, where enums have
-- none.
use Rattle.std.proofs.Common.{◌≡◌, ℕ, suc, ◌+◌, List, [], ◌∷◌, ◌++◌, map, refl, sym, ap, ◌∙◌, Bool, true, false, ◌&&◌, if◌then◌else◌, nat_eq}
use Rattle.std.proofs.Common.{arith, Some}
use Rattle.std.specs.Prelude.{slice_get}
use Rattle.sail_types.specs.Rows.{comparable, comparison, enums_from, is_enum, row_members}
use Rattle.sail_types.specs.declared.rows.Row.{Row}
use Rattle.sail_types.specs.declared.rows.Row.TheVariants as R
use Rattle.sail_types.specs.declared.shapes.Shape.{Shape}
use Rattle.sail_types.specs.declared.shapes.Shape.TheVariants as V
use Rattle.sail_types.specs.declared.table.Definition.{Definition}
use Rattle.sail_types.specs.declared.table.Types.{Types}
use Rattle.shape_joins.proofs.Order.{two}
use Rattle.shape_rules.specs.Calls.{member_candidate}
use Rattle.shape_rules.specs.Values.{type_parameters, variables_if}
use Rattle.shape_rules.specs.declared.callees.Candidate.{Candidate}
use Rattle.shape_meanings.specs.Counted.{all_counted, counted}
use Rattle.shape_meanings.specs.Naming.{IsCallee}
use Rattle.shape_meanings.proofs.Counting.{bit_counted, bits_counted, bool_counted, int_counted, named_counted, string_counted, unit_counted}
use Rattle.shape_meanings.proofs.Counting.{variable_counted, vector_counted}

-- a candidate calls a callee that takes something, of such shapes
abbrev pub IsFine : Types → Candidate → Type 0
IsFine types f = IsCallee f × (all_counted types f.params ≡ true) × (counted types f.answer ≡ true)

abbrev pub AllFine : Types → List Candidate → Type 0
AllFine types [] = Unit {0}
AllFine types (f ∷ fs) = IsFine types f × AllFine types fs

pub both_fine : (types : Types) (xs ys : List Candidate) → AllFine types xs → AllFine types ys → AllFine types (xs ++ ys)
both_fine types [] ys h k = k
both_fine types (x ∷ xs) ys h k = (h.0, both_fine types xs ys h.1 k)

-- ---- enums have no parameters

abbrev pub ArePlain : List Definition → Type 0
ArePlain [] = Unit {0}
ArePlain (d ∷ ds) = (is_enum d ≡ true → d.parameters ≡ []) × ArePlain ds

module _ (types : Types) where
  one : (s : Shape) → counted types s ≡ true → all_counted types (s ∷ []) ≡ true
  one s h = two (counted types s) true h refl

  pair : (s t : Shape) → counted types s ≡ true → counted types t ≡ true → all_counted types (s ∷ t ∷ []) ≡ true
  pair s t h k = two (counted types s) (counted types t && true) h (one t k)

  triple : (s t u : Shape) → counted types s ≡ true → counted types t ≡ true → counted types u ≡ true → all_counted types (s ∷ t ∷ u ∷ []) ≡ true
  triple s t u h k l = two (counted types s) (counted types t && (counted types u && true)) h (pair t u k l)

  further : (i k : ℕ) → (suc i + k) ≡ (i + suc k)
  further i k = omega arith

  from_none : (i : ℕ) → (i + 0) ≡ i
  from_none i = omega arith

  none_and : (k : ℕ) → (0 + k) ≡ k
  none_and k = omega arith

  -- an enum of the table
  enum_counted : (i : ℕ) (d : Definition) → slice_get types.definitions i ≡ Some d → d.parameters ≡ [] → counted types (V.Named i []) ≡ true
  enum_counted i d there plain =
      named_counted types i [] (ap (nat_eq 0) (ap variables_if there ∙ ap type_parameters plain)) refl

  if_counted : (b : Bool) (s : Shape) (ss : List Shape) → (b ≡ true → counted types s ≡ true) → all_counted types ss ≡ true
      → all_counted types (if b then s ∷ ss else ss) ≡ true
  if_counted true s ss h k = two (counted types s) (all_counted types ss) (h refl) k
  if_counted false s ss h k = k

  enums_counted : (i : ℕ) (ds : List Definition) → ((k : ℕ) (d : Definition) → slice_get ds k ≡ Some d → slice_get types.definitions (i + k) ≡ Some d)
      → ArePlain ds → all_counted types (enums_from i ds) ≡ true
  enums_counted i [] f plain = refl
  enums_counted i (d ∷ ds) f plain =
      if_counted (is_enum d) (V.Named i []) (enums_from (suc i) ds)
      (λ h. enum_counted i d (ap (slice_get types.definitions) (sym (from_none i)) ∙ f 0 d refl) (plain.0 h))
      (enums_counted (suc i) ds (λ k e h. ap (slice_get types.definitions) (further i k) ∙ f (suc k) e h) plain.1)

  comparables_counted : ArePlain types.definitions → all_counted types (comparable types) ≡ true
  comparables_counted plain =
      let enums : List Shape = enums_from 0 types.definitions in
      two (counted types V.Int) (all_counted types (V.Bits ∷ V.Bit ∷ V.Bool ∷ V.String ∷ V.Unit ∷ enums)) (int_counted types)
      (two (counted types V.Bits) (all_counted types (V.Bit ∷ V.Bool ∷ V.String ∷ V.Unit ∷ enums)) (bits_counted types)
      (two (counted types V.Bit) (all_counted types (V.Bool ∷ V.String ∷ V.Unit ∷ enums)) (bit_counted types)
      (two (counted types V.Bool) (all_counted types (V.String ∷ V.Unit ∷ enums)) (bool_counted types)
      (two (counted types V.String) (all_counted types (V.Unit ∷ enums)) (string_counted types)
      (two (counted types V.Unit) (all_counted types enums) (unit_counted types)
      (enums_counted 0 types.definitions (λ k d h. ap (slice_get types.definitions) (none_and k) ∙ h) plain))))))

  compared : (row : Row) (ss : List Shape) → all_counted types ss ≡ true → AllFine types (map member_candidate (map (comparison row) ss))
  compared row [] h = tt
  compared row (s ∷ ss) h =
      let k = first_of (counted types s) (all_counted types ss) h in
      ((((_, refl), (s, s ∷ [], refl)), pair s s k.0 k.0, bool_counted types), compared row ss k.1)
    where
      first_of : (a b : Bool) → (a && b) ≡ true → (a ≡ true) × (b ≡ true)
      first_of true b e = (refl, e)
      first_of false b e = absurd (cc)

  pub rows_fine : ArePlain types.definitions → (row : Row) → AllFine types (map member_candidate (row_members types row))
  rows_fine plain R.AddInt = ((((_, refl), (_, _, refl)), pair V.Int V.Int (int_counted types) (int_counted types), int_counted types), tt)
  rows_fine plain R.SubInt = ((((_, refl), (_, _, refl)), pair V.Int V.Int (int_counted types) (int_counted types), int_counted types), tt)
  rows_fine plain R.MultInt = ((((_, refl), (_, _, refl)), pair V.Int V.Int (int_counted types) (int_counted types), int_counted types), tt)
  rows_fine plain R.NegInt = ((((_, refl), (_, _, refl)), one V.Int (int_counted types), int_counted types), tt)
  rows_fine plain R.Pow2 = ((((_, refl), (_, _, refl)), one V.Int (int_counted types), int_counted types), tt)
  rows_fine plain R.AbsInt = ((((_, refl), (_, _, refl)), one V.Int (int_counted types), int_counted types), tt)
  rows_fine plain R.MinInt = ((((_, refl), (_, _, refl)), pair V.Int V.Int (int_counted types) (int_counted types), int_counted types), tt)
  rows_fine plain R.MaxInt = ((((_, refl), (_, _, refl)), pair V.Int V.Int (int_counted types) (int_counted types), int_counted types), tt)
  rows_fine plain R.EdivInt = ((((_, refl), (_, _, refl)), pair V.Int V.Int (int_counted types) (int_counted types), int_counted types), tt)
  rows_fine plain R.EmodInt = ((((_, refl), (_, _, refl)), pair V.Int V.Int (int_counted types) (int_counted types), int_counted types), tt)
  rows_fine plain R.TdivInt = ((((_, refl), (_, _, refl)), pair V.Int V.Int (int_counted types) (int_counted types), int_counted types), tt)
  rows_fine plain R.TmodInt = ((((_, refl), (_, _, refl)), pair V.Int V.Int (int_counted types) (int_counted types), int_counted types), tt)
  rows_fine plain R.LtInt = ((((_, refl), (_, _, refl)), pair V.Int V.Int (int_counted types) (int_counted types), bool_counted types), tt)
  rows_fine plain R.LteqInt = ((((_, refl), (_, _, refl)), pair V.Int V.Int (int_counted types) (int_counted types), bool_counted types), tt)
  rows_fine plain R.GtInt = ((((_, refl), (_, _, refl)), pair V.Int V.Int (int_counted types) (int_counted types), bool_counted types), tt)
  rows_fine plain R.GteqInt = ((((_, refl), (_, _, refl)), pair V.Int V.Int (int_counted types) (int_counted types), bool_counted types), tt)
  rows_fine plain R.Eq = compared R.Eq (comparable types) (comparables_counted plain)
  rows_fine plain R.Neq = compared R.Neq (comparable types) (comparables_counted plain)
  rows_fine plain R.NotBool = ((((_, refl), (_, _, refl)), one V.Bool (bool_counted types), bool_counted types), tt)
  rows_fine plain R.AddBits = ((((_, refl), (_, _, refl)), pair V.Bits V.Bits (bits_counted types) (bits_counted types), bits_counted types), tt)
  rows_fine plain R.SubBits = ((((_, refl), (_, _, refl)), pair V.Bits V.Bits (bits_counted types) (bits_counted types), bits_counted types), tt)
  rows_fine plain R.MultBits = ((((_, refl), (_, _, refl)), pair V.Bits V.Bits (bits_counted types) (bits_counted types), bits_counted types), tt)
  rows_fine plain R.AddBitsInt = ((((_, refl), (_, _, refl)), pair V.Bits V.Int (bits_counted types) (int_counted types), bits_counted types), tt)
  rows_fine plain R.SubBitsInt = ((((_, refl), (_, _, refl)), pair V.Bits V.Int (bits_counted types) (int_counted types), bits_counted types), tt)
  rows_fine plain R.AndBits = ((((_, refl), (_, _, refl)), pair V.Bits V.Bits (bits_counted types) (bits_counted types), bits_counted types), tt)
  rows_fine plain R.OrBits = ((((_, refl), (_, _, refl)), pair V.Bits V.Bits (bits_counted types) (bits_counted types), bits_counted types), tt)
  rows_fine plain R.XorBits = ((((_, refl), (_, _, refl)), pair V.Bits V.Bits (bits_counted types) (bits_counted types), bits_counted types), tt)
  rows_fine plain R.NotBits = ((((_, refl), (_, _, refl)), one V.Bits (bits_counted types), bits_counted types), tt)
  rows_fine plain R.Shiftl = ((((_, refl), (_, _, refl)), pair V.Bits V.Int (bits_counted types) (int_counted types), bits_counted types), tt)
  rows_fine plain R.Shiftr = ((((_, refl), (_, _, refl)), pair V.Bits V.Int (bits_counted types) (int_counted types), bits_counted types), tt)
  rows_fine plain R.ArithShiftr = ((((_, refl), (_, _, refl)), pair V.Bits V.Int (bits_counted types) (int_counted types), bits_counted types), tt)
  rows_fine plain R.ShiftlBits = ((((_, refl), (_, _, refl)), pair V.Bits V.Bits (bits_counted types) (bits_counted types), bits_counted types), tt)
  rows_fine plain R.ShiftrBits = ((((_, refl), (_, _, refl)), pair V.Bits V.Bits (bits_counted types) (bits_counted types), bits_counted types), tt)
  rows_fine plain R.ArithShiftrBits = ((((_, refl), (_, _, refl)), pair V.Bits V.Bits (bits_counted types) (bits_counted types), bits_counted types), tt)
  rows_fine plain R.LtU = ((((_, refl), (_, _, refl)), pair V.Bits V.Bits (bits_counted types) (bits_counted types), bool_counted types), tt)
  rows_fine plain R.LteqU = ((((_, refl), (_, _, refl)), pair V.Bits V.Bits (bits_counted types) (bits_counted types), bool_counted types), tt)
  rows_fine plain R.GtU = ((((_, refl), (_, _, refl)), pair V.Bits V.Bits (bits_counted types) (bits_counted types), bool_counted types), tt)
  rows_fine plain R.GteqU = ((((_, refl), (_, _, refl)), pair V.Bits V.Bits (bits_counted types) (bits_counted types), bool_counted types), tt)
  rows_fine plain R.LtS = ((((_, refl), (_, _, refl)), pair V.Bits V.Bits (bits_counted types) (bits_counted types), bool_counted types), tt)
  rows_fine plain R.LteqS = ((((_, refl), (_, _, refl)), pair V.Bits V.Bits (bits_counted types) (bits_counted types), bool_counted types), tt)
  rows_fine plain R.GtS = ((((_, refl), (_, _, refl)), pair V.Bits V.Bits (bits_counted types) (bits_counted types), bool_counted types), tt)
  rows_fine plain R.GteqS = ((((_, refl), (_, _, refl)), pair V.Bits V.Bits (bits_counted types) (bits_counted types), bool_counted types), tt)
  rows_fine plain R.Append = ((((_, refl), (_, _, refl)), pair V.Bits V.Bits (bits_counted types) (bits_counted types), bits_counted types), tt)
  rows_fine plain R.ZeroExtend = ((((_, refl), (_, _, refl)), pair V.Int V.Bits (int_counted types) (bits_counted types), bits_counted types), tt)
  rows_fine plain R.SignExtend = ((((_, refl), (_, _, refl)), pair V.Int V.Bits (int_counted types) (bits_counted types), bits_counted types), tt)
  rows_fine plain R.Truncate = ((((_, refl), (_, _, refl)), pair V.Bits V.Int (bits_counted types) (int_counted types), bits_counted types), tt)
  rows_fine plain R.Zeros = ((((_, refl), (_, _, refl)), one V.Int (int_counted types), bits_counted types), tt)
  rows_fine plain R.Ones = ((((_, refl), (_, _, refl)), one V.Int (int_counted types), bits_counted types), tt)
  rows_fine plain R.ReplicateBits = ((((_, refl), (_, _, refl)), pair V.Bits V.Int (bits_counted types) (int_counted types), bits_counted types), tt)
  rows_fine plain R.Unsigned = ((((_, refl), (_, _, refl)), one V.Bits (bits_counted types), int_counted types), tt)
  rows_fine plain R.Signed = ((((_, refl), (_, _, refl)), one V.Bits (bits_counted types), int_counted types), tt)
  rows_fine plain R.ToBits = ((((_, refl), (_, _, refl)), pair V.Int V.Int (int_counted types) (int_counted types), bits_counted types), tt)
  rows_fine plain R.Length =
      let vector = vector_counted types (V.Variable 0) (variable_counted types 0) in (
        (((_, refl), (_, _, refl)), one V.Bits (bits_counted types), int_counted types),
        ((((_, refl), (_, _, refl)), one (V.Vector (V.Variable 0)) vector, int_counted types), tt),
      )
  rows_fine plain R.MulWideUu = ((((_, refl), (_, _, refl)), pair V.Bits V.Bits (bits_counted types) (bits_counted types), bits_counted types), tt)
  rows_fine plain R.MulWideSs = ((((_, refl), (_, _, refl)), pair V.Bits V.Bits (bits_counted types) (bits_counted types), bits_counted types), tt)
  rows_fine plain R.MulWideSu = ((((_, refl), (_, _, refl)), pair V.Bits V.Bits (bits_counted types) (bits_counted types), bits_counted types), tt)
  rows_fine plain R.CountLeadingZeros = ((((_, refl), (_, _, refl)), one V.Bits (bits_counted types), int_counted types), tt)
  rows_fine plain R.BoolToBits = ((((_, refl), (_, _, refl)), one V.Bool (bool_counted types), bits_counted types), tt)
  rows_fine plain R.VectorInit =
      let item = variable_counted types 0 in
      ((((_, refl), (_, _, refl)), pair V.Int (V.Variable 0) (int_counted types) item, vector_counted types (V.Variable 0) item), tt)
  rows_fine plain R.ConcatStr = ((((_, refl), (_, _, refl)), pair V.String V.String (string_counted types) (string_counted types), string_counted types), tt)
  rows_fine plain R.DecStr = ((((_, refl), (_, _, refl)), one V.Int (int_counted types), string_counted types), tt)
  rows_fine plain R.BitsStr = ((((_, refl), (_, _, refl)), one V.Bits (bits_counted types), string_counted types), tt)
  rows_fine plain R.MemRead = ((((_, refl), (_, _, refl)), pair V.Int V.Bits (int_counted types) (bits_counted types), bits_counted types), tt)
  rows_fine plain R.MemReserve = ((((_, refl), (_, _, refl)), pair V.Int V.Bits (int_counted types) (bits_counted types), bits_counted types), tt)
  rows_fine plain R.MemWrite =
      let word = bits_counted types in
      ((((_, refl), (_, _, refl)), triple V.Int V.Bits V.Bits (int_counted types) word word, unit_counted types), tt)
  rows_fine plain R.MemWriteCond =
      let word = bits_counted types in
      ((((_, refl), (_, _, refl)), triple V.Int V.Bits V.Bits (int_counted types) word word, bool_counted types), tt)
  rows_fine plain R.MemMapped = ((((_, refl), (_, _, refl)), pair V.Int V.Bits (int_counted types) (bits_counted types), bool_counted types), tt)
  rows_fine plain R.Print = ((((_, refl), (_, _, refl)), one V.String (string_counted types), unit_counted types), tt)
  rows_fine plain R.PrintEndline = ((((_, refl), (_, _, refl)), one V.String (string_counted types), unit_counted types), tt)
  rows_fine plain R.ConsolePut = ((((_, refl), (_, _, refl)), one V.Bits (bits_counted types), unit_counted types), tt)
