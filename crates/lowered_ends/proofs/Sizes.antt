-- The types of literals, and which literals have them.
use Rattle.std.proofs.Common.{◌≡◌, ◌∙◌, ◌≤◌, ℕ, ◌^◌, ℤ, pos, nat_eq, nat_lt, Bool, true, ◌&&◌, None, Some, List, [], ◌∷◌, length, sym, ap, arith}
use Rattle.std.proofs.lemmas.Bool.{le-leb}
use Rattle.std.proofs.lemmas.Int.{ints}
use Rattle.std.specs.Ordering.{int_eq}
use Rattle.std.specs.Prelude.{◌+ℤ◌, if◌then◌else◌, Option}
use Rattle.sail_types.specs.Limits.{is_small, largest}
use Rattle.sail_types.specs.Named.{members}
use Rattle.sail_types.specs.Sums.{constant}
use Rattle.sail_types.specs.declared.numbers.Atom.TheFolds.{fold-roll-Num}
use Rattle.sail_types.specs.declared.table.Types.{Types}
use Rattle.sail_types.specs.declared.types.Typ.{Typ, Typ-F, roll-Typ}
use Rattle.sail_types.specs.declared.types.Typ.TheFolds.{fold-roll-Typ, map-Typ}
use Rattle.sail_types.specs.declared.types.Typ.TheOpen as T
use Rattle.sail_types.specs.declared.types.Typ.TheVariants as Y
use Rattle.sail_types.specs.declared.values.Value.{Value, Value-F, roll-Value}
use Rattle.sail_types.specs.declared.values.Value.TheFolds.{fold-roll-Value, map-Value}
use Rattle.sail_types.specs.declared.values.Value.TheOpen as E
use Rattle.sail_types.specs.declared.values.Value.TheVariants as V
use Rattle.row_types.specs.Formulas.{least, most}
use Rattle.sail_core.specs.Meaning.{option_typ}
use Rattle.sail_core.specs.Values.{bits_typ, int_typ}
use Rattle.size_values.specs.Numbers.{argument_of, atom_free, atom_value, constant_under, small, sum_free, sum_value, term_free, term_value, unless_free}
use Rattle.size_values.specs.Sized.{UnderConstants, form_sized, integer_of, typ_sized}
use Rattle.size_values.specs.declared.constants.Constant.{Constant}
use Rattle.size_values.specs.declared.constants.Constant.TheVariants as C
use Rattle.size_values.specs.declared.sized.Sized.{Sized, Sized-F, out-Sized}
use Rattle.size_values.specs.declared.sized.Sized.TheOpen as Z
use Rattle.size_values.specs.declared.sized.Sized.TheVariants as S
use Rattle.size_values.specs.declared.sized.Sized.TheViews.{out-roll-Sized}
use Rattle.checked_meaning.specs.Fits.{Fits, fits_step, form_fits, has_sizes}
use Rattle.checked_meaning.specs.Items.{fixed_typ}

-- ---- types without a variable

small_width : (n : ℕ) → n ≤ 128 → is_small (pos n) ≡ true
unfolding largest
small_width n few = le-leb n (2 ^ 126) (omega (arith, few))

plus_zero : (z : ℤ) → pos 0 +ℤ z ≡ z
plus_zero z = omega (arith, ints)

constant_is : (n : ℕ) → n ≤ 128 → constant_under (argument_of []) (constant (pos n)) ≡ C.Number (pos n)
constant_is n few =
    (λ i. unless_free (argument_of [])
    (fold-roll-Num (Option ℕ) (Option ℕ) (Option ℕ) (atom_free (argument_of [])) sum_free term_free (record { terms = []; constant = pos n }) i)
    (fold-roll-Num (Option ℤ) (Option ℤ) (Option ℤ) (atom_value (argument_of [])) sum_value term_value (record { terms = []; constant = pos n }) i))
    ∙ ap (λ z. unless_free (argument_of []) None (small z)) (plus_zero (pos n))
    ∙ ap (λ (b : Bool). unless_free (argument_of []) None (if b then Some (pos n) else None)) (small_width n few)

same_int : (z : ℤ) → int_eq z z ≡ true
same_int z = grind (arith, ints)

module _ (types : Types) where
  form_typ : (x : Typ-F Typ) (t : Typ) → roll-Typ x ≡ t → fixed_typ types t ≡ form_sized types [] (map-Typ Typ UnderConstants (typ_sized types []) x) []
  form_typ x t is =
      ap (λ u. typ_sized types [] u []) (sym is) ∙ ap (λ (f : UnderConstants). f []) (fold-roll-Typ UnderConstants (form_sized types []) x)

  pub unit_typ : fixed_typ types Y.Unit ≡ S.Unit
  unit_typ = form_typ T.Unit Y.Unit Y.rolls-Unit

  pub bool_typ : fixed_typ types Y.Bool ≡ S.Bool
  bool_typ = form_typ T.Bool Y.Bool Y.rolls-Bool

  pub bit_typ : fixed_typ types Y.Bit ≡ S.Bit
  bit_typ = form_typ T.Bit Y.Bit Y.rolls-Bit

  pub string_typ : fixed_typ types Y.String ≡ S.String
  string_typ = form_typ T.String Y.String Y.rolls-String

  pub integer_typ : fixed_typ types int_typ ≡ S.Int
  integer_typ = form_typ (T.Range (constant least) (constant most)) int_typ (Y.rolls-Range (constant least) (constant most))

  pub word_typ : (n : ℕ) → n ≤ 128 → fixed_typ types (bits_typ n) ≡ S.Bits (pos n)
  word_typ n few =
      form_typ (T.Bits (constant (pos n))) (bits_typ n) (Y.rolls-Bits (constant (pos n))) ∙ ap (λ (c : Constant). S.Bits (integer_of c)) (constant_is n few)

  pub enum_typ : (e : ℕ) → fixed_typ types (Y.Named e [] []) ≡ S.Named e [] []
  enum_typ e = form_typ (T.Named e [] []) (Y.Named e [] []) (Y.rolls-Named e [] [])

  pub option_is : (t : Typ) → fixed_typ types (option_typ t) ≡ S.Named 0 [] (fixed_typ types t ∷ [])
  option_is t = form_typ (T.Named 0 [] (t ∷ [])) (option_typ t) (Y.rolls-Named 0 [] (t ∷ []))

  -- ---- values of them

  form_has : (v : Value) (x : Value-F Value) (s : Sized) (z : Sized-F Sized) → roll-Value x ≡ v → out-Sized s ≡ z
      → has_sizes types v s ≡ form_fits types (map-Value Value Fits (has_sizes types) x) z
  form_has v x s z is opens =
      ap (λ w. has_sizes types w s) (sym is) ∙ ap (λ (f : Fits). f s) (fold-roll-Value Fits (fits_step types) x)
      ∙ ap (form_fits types (map-Value Value Fits (has_sizes types) x)) opens

  pub unit_has : has_sizes types V.Unit (fixed_typ types Y.Unit) ≡ true
  unit_has =
      ap (λ s. has_sizes types V.Unit s) unit_typ
      ∙ form_has V.Unit E.Unit S.Unit Z.Unit V.rolls-Unit (ap out-Sized (sym S.rolls-Unit) ∙ out-roll-Sized Z.Unit)

  pub truth_has : (b : Bool) → has_sizes types (V.Truth b) (fixed_typ types Y.Bool) ≡ true
  truth_has b =
      ap (λ s. has_sizes types (V.Truth b) s) bool_typ
      ∙ form_has (V.Truth b) (E.Truth b) S.Bool Z.Bool (V.rolls-Truth b) (ap out-Sized (sym S.rolls-Bool) ∙ out-roll-Sized Z.Bool)

  pub bit_has : (b : Bool) → has_sizes types (V.Bit b) (fixed_typ types Y.Bit) ≡ true
  bit_has b =
      ap (λ s. has_sizes types (V.Bit b) s) bit_typ
      ∙ form_has (V.Bit b) (E.Bit b) S.Bit Z.Bit (V.rolls-Bit b) (ap out-Sized (sym S.rolls-Bit) ∙ out-roll-Sized Z.Bit)

  pub string_has : (text : List ℕ) → has_sizes types (V.String text) (fixed_typ types Y.String) ≡ true
  string_has text =
      ap (λ s. has_sizes types (V.String text) s) string_typ
      ∙ form_has (V.String text) (E.String text) S.String Z.String (V.rolls-String text) (ap out-Sized (sym S.rolls-String) ∙ out-roll-Sized Z.String)

  pub integer_has : (z : ℤ) → has_sizes types (V.Integer z) (fixed_typ types int_typ) ≡ is_small z
  integer_has z =
      ap (λ s. has_sizes types (V.Integer z) s) integer_typ
      ∙ form_has (V.Integer z) (E.Integer z) S.Int Z.Int (V.rolls-Integer z) (ap out-Sized (sym S.rolls-Int) ∙ out-roll-Sized Z.Int)

  pub member_has : (e k : ℕ) → has_sizes types (V.Member e k) (fixed_typ types (Y.Named e [] [])) ≡ (nat_eq e e && nat_lt k (length (members types e)))
  member_has e k =
      ap (λ s. has_sizes types (V.Member e k) s) (enum_typ e)
      ∙ form_has (V.Member e k) (E.Member e k) (S.Named e [] []) (Z.Named e [] []) (V.rolls-Member e k)
      (ap out-Sized (sym (S.rolls-Named e [] [])) ∙ out-roll-Sized (Z.Named e [] []))

  pub word_has : (bits : List Bool) → length bits ≤ 128 → has_sizes types (V.Bits bits) (fixed_typ types (bits_typ (length bits))) ≡ true
  word_has bits few =
      ap (λ s. has_sizes types (V.Bits bits) s) (word_typ (length bits) few)
      ∙ form_has (V.Bits bits) (E.Bits bits) (S.Bits (pos (length bits))) (Z.Bits (pos (length bits))) (V.rolls-Bits bits)
      (ap out-Sized (sym (S.rolls-Bits (pos (length bits)))) ∙ out-roll-Sized (Z.Bits (pos (length bits)))) ∙ same_int (pos (length bits))
