-- What tokens stand for is within the limits of literals.
use Rattle.std.proofs.Common.{◌≡◌, ℕ, Bool, true, false, List, [], length, refl, subst, sym, arith}
use Rattle.std.specs.Prelude.{◌^◌, nat_lt, pos, if◌then◌else◌}
use Rattle.std.proofs.lemmas.Bool.{le-leb, ltb-false}
use Rattle.sail_base.specs.Bits.{bits_of}
use Rattle.sail_base.specs.laws.BitLaws.{length-bits_of}
use Rattle.sail_types.specs.Limits.{is_small, is_width, largest}
use Rattle.sail_lex.specs.declared.kind.TokenKind.{TokenKind}
use Rattle.sail_lex.specs.declared.kind.TokenKind.TheVariants as K
use Rattle.sail_lex.specs.Literal.{decimal_value, literal_bits, literal_width}
use Rattle.sail_grammar.specs.Leaves.{bits_at, literal_of, number_of}
use Rattle.shape_meanings.specs.Trees.{literal_written}

-- ---- numbers

number_by : (b : Bool) (v : ℕ) → nat_lt (2 ^ 126) v ≡ b → is_small (if b then pos 0 else pos v) ≡ true
unfolding largest
number_by true v e = le-leb 0 (2 ^ 126) (omega arith)
number_by false v e = le-leb v (2 ^ 126) (ltb-false (2 ^ 126) v e)

pub number_within : (text : List ℕ) → is_small (number_of text) ≡ true
number_within text = number_by (nat_lt (2 ^ 126) (decimal_value text)) (decimal_value text) refl

-- ---- words

abbrev bits_if : Bool → Bool → ℕ → ℕ → List Bool
bits_if short wide n v = if short then [] else (if wide then [] else bits_of n v)

bits_by : (short wide : Bool) (n v : ℕ) → nat_lt 128 n ≡ wide → is_width (length (bits_if short wide n v)) ≡ true
bits_by true wide n v e = refl
bits_by false true n v e = refl
bits_by false false n v e = subst (λ k. is_width k ≡ true) (sym (length-bits_of n v)) (le-leb n 128 (ltb-false 128 n e))

bits_within : (text : List ℕ) → is_width (length (bits_at text)) ≡ true
bits_within text = bits_by (nat_lt (length text) 2) (nat_lt 128 (literal_width text)) (literal_width text) (literal_bits text) refl

-- ---- literals

pub literal_within : (kind : TokenKind) (text : List ℕ) → literal_written (literal_of kind text) ≡ true
literal_within K.Hexadecimal text = bits_within text
literal_within K.Binary text = bits_within text
literal_within K.StringLiteral text = refl
literal_within K.True text = refl
literal_within K.False text = refl
literal_within K.Bitone text = refl
literal_within K.Bitzero text = refl
literal_within kind text = number_within text
