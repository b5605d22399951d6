-- The text of bits is ASCII.
use Rattle.std.proofs.Common.{◌≡◌, refl, ℕ, zero, suc, Bool, true, false, cond, List, [], ◌∷◌, ◌++◌, take, drop, IsAscii}
use Rattle.std.specs.Prelude.{codes, length, nat_lt, not, ◌==◌, ◌&&◌, ◌%◌, ◌/◌}
use Rattle.std.proofs.lemmas.Str.{IsAscii-append}
use Rattle.std.specs.List.{list_all}
use Rattle.std.proofs.lemmas.Bool.{and_parts, ltb-true}
use Rattle.std.proofs.lemmas.Str.Ascii.{IsAscii-nil, IsAscii-cons, IsAscii-push}
use Rattle.sail_base.specs.Bits.{value_of}
use Rattle.sail_types.specs.Texts.{bits_text, digit, digits}

ascii_if : (text : List ℕ) → list_all (λ b. nat_lt b 128) text ≡ true → IsAscii text
ascii_if [] h = IsAscii-nil
ascii_if (b ∷ text) h =
    let both = and_parts (nat_lt b 128) (list_all (λ c. nat_lt c 128) text) h in
    IsAscii-cons b text (ltb-true b 128 both.0) (ascii_if text both.1)

ascii_table : IsAscii (codes "0123456789abcdef")
ascii_table = ascii_if (codes "0123456789abcdef") refl

ascii_digits : (each count : ℕ) (bits : List Bool) → IsAscii (digits each count bits)
ascii_digits each zero bits = IsAscii-nil
ascii_digits each (suc count) bits =
    IsAscii-push (digits each count (drop each bits)) (digit (value_of (take each bits))) (ascii_digits each count (drop each bits))
    (ascii_table (value_of (take each bits)))

either : (b : Bool) (s t : List ℕ) → IsAscii s → IsAscii t → IsAscii (cond b s t)
either true s t h k = h
either false s t h k = k

ascii_hex : IsAscii (codes "0x")
ascii_hex = ascii_if (codes "0x") refl

ascii_binary : IsAscii (codes "0b")
ascii_binary = ascii_if (codes "0b") refl

pub ascii_bits : (bits : List Bool) → IsAscii (bits_text bits)
ascii_bits bits =
    either (not (length bits == 0) && (length bits % 4 == 0)) (codes "0x" ++ digits 4 (length bits / 4) bits) (codes "0b" ++ digits 1 (length bits) bits)
    (IsAscii-append (codes "0x") (digits 4 (length bits / 4) bits) ascii_hex (ascii_digits 4 (length bits / 4) bits))
    (IsAscii-append (codes "0b") (digits 1 (length bits) bits) ascii_binary (ascii_digits 1 (length bits) bits))
