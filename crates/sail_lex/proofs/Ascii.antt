-- The bytes of each spelling are ASCII.
use Rattle.std.proofs.Common.{◌≡◌, ℕ, zero, suc, ◌+◌, ◌<◌, Bool, true, false, cond, eqb, ◌==◌, nat_lt, List, [], ◌∷◌, length, take, drop, get_or}
use Rattle.std.proofs.Common.{refl, sym, ap, subst, arith, eqb-true, ltb-true, add-one, ◌∙◌, ◌⊎◌, inl, inr, IsAscii}
use Rattle.std.specs.Prelude.{◌&&◌}
use Rattle.std.specs.List.{list_all}
use Rattle.std.proofs.lemmas.Bool.{and_parts, cases_order}
use Rattle.std.proofs.lemmas.Bool.Decides.{nat_tests}
use Rattle.std.proofs.lemmas.List.{get_or_past}
use Rattle.std.proofs.lemmas.Str.Ascii.{IsAscii-nil, IsAscii-cons}
use Rattle.sail_lex.specs.declared.kind.TokenKind.{TokenKind}
use Rattle.sail_lex.specs.declared.front.Front.TheVariants.{Token}
use Rattle.sail_lex.specs.Bytes.{begins_name, in_name, in_decimal, in_hexadecimal, in_binary, in_directive, first}
use Rattle.sail_lex.specs.Front.{front}
use Rattle.sail_lex.specs.Literal.{Part, Escape, Byte, is_end, is_good, inside, parts, size_of, string_parts}
use Rattle.sail_lex.specs.Spellings.{IsSpelling, is_name, is_string, StandsIn, named, type_variable, decimal, hexadecimal, binary, string, directive, symbol}
use Rattle.sail_lex.specs.Tables.{symbols}
use Rattle.sail_lex.proofs.Longest.{stands_passes}
use Rattle.sail_lex.proofs.Spelled.{spelling_of}

module _ (p : ℕ → Bool) (small : (b : ℕ) → p b ≡ true → b < 128) where
  all_ascii : (text : List ℕ) → list_all p text ≡ true → IsAscii text
  all_ascii [] h = IsAscii-nil
  all_ascii (b ∷ text) h =
      let both = and_parts (p b) (list_all p text) h in
      IsAscii-cons b text (small b both.0) (all_ascii text both.1)

name_small : (b : ℕ) → in_name b ≡ true → b < 128
name_small b h = grind (arith, nat_tests)

decimal_small : (b : ℕ) → in_decimal b ≡ true → b < 128
decimal_small b h = grind (arith, nat_tests)

hexadecimal_small : (b : ℕ) → in_hexadecimal b ≡ true → b < 128
hexadecimal_small b h = grind (arith, nat_tests)

binary_small : (b : ℕ) → in_binary b ≡ true → b < 128
binary_small b h = grind (arith, nat_tests)

directive_small : (b : ℕ) → in_directive b ≡ true → b < 128
directive_small b h = grind (arith, nat_tests)

escape_small : (c : ℕ) → is_good (Escape c) ≡ true → c < 128
escape_small c h = grind (arith, nat_tests)

byte_small : (b : ℕ) → is_good (Byte b) ≡ true → b < 128
byte_small b h = grind (arith, nat_tests)

name_ascii : (text : List ℕ) → is_name text ≡ true → IsAscii text
name_ascii text h = all_ascii in_name name_small text (and_parts (begins_name (first text)) (list_all in_name text) h).1

-- ---- strings

-- the bytes of good parts
abbrev AreSmall : List Part → List ℕ → Type 0
AreSmall ps text = (i : ℕ) → list_all is_good ps ≡ true → i < size_of ps → get_or text i 0 < 128

byte_inside : (b : ℕ) (text : List ℕ) → AreSmall (inside (parts text)) text → (t : Bool) → AreSmall (cond t [] (Byte b ∷ inside (parts text))) (b ∷ text)
unfolding size_of
byte_inside b text more true i good lt = absurd (omega arith)
byte_inside b text more false zero good lt = byte_small b (and_parts (is_good (Byte b)) (list_all is_good (inside (parts text))) good).0
byte_inside b text more false (suc i) good lt = more i (and_parts (is_good (Byte b)) (list_all is_good (inside (parts text))) good).1 (omega arith)

escape_inside : (b c : ℕ) (text : List ℕ) → b ≡ 92 → AreSmall (inside (parts text)) text → AreSmall (Escape c ∷ inside (parts text)) (b ∷ c ∷ text)
unfolding size_of
escape_inside b c text e more zero good lt = omega arith
escape_inside b c text e more (suc zero) good lt = escape_small c (and_parts (is_good (Escape c)) (list_all is_good (inside (parts text))) good).0
escape_inside b c text e more (suc (suc i)) good lt = more i (and_parts (is_good (Escape c)) (list_all is_good (inside (parts text))) good).1 (omega arith)

pair_inside : (b c : ℕ) (text : List ℕ) → AreSmall (inside (parts text)) text → AreSmall (inside (parts (c ∷ text))) (c ∷ text) → (t : Bool) → eqb b 92 ≡ t →
    AreSmall (inside (cond t (Escape c ∷ parts text) (Byte b ∷ parts (c ∷ text)))) (b ∷ c ∷ text)
unfolding inside
pair_inside b c text less more true e = escape_inside b c text (eqb-true b 92 e) less
pair_inside b c text less more false e = byte_inside b (c ∷ text) more (is_end (Byte b))

inside_small : (text : List ℕ) → AreSmall (inside (parts text)) text
unfolding parts inside size_of
inside_small [] = λ i good lt. absurd (omega arith)
inside_small (b ∷ []) = byte_inside b [] (λ i good lt. absurd (omega arith)) (is_end (Byte b))
inside_small (b ∷ c ∷ text) = pair_inside b c text (inside_small text) (inside_small (c ∷ text)) (eqb b 92) refl

first_of_drop : (text : List ℕ) (n : ℕ) → first (drop n text) ≡ get_or text n 0
first_of_drop [] zero = refl
first_of_drop [] (suc n) = refl
first_of_drop (b ∷ text) zero = refl
first_of_drop (b ∷ text) (suc n) = first_of_drop text n

-- a byte, so many small ones, a byte, and no more
quoted_ascii : (b : ℕ) (text : List ℕ) (size : ℕ) → b ≡ 34 → ((j : ℕ) → j < size → get_or text j 0 < 128) → get_or text size 0 ≡ 34 →
    length text ≡ size + 1 → IsAscii (b ∷ text)
quoted_ascii b text size quote small last long zero = omega arith
quoted_ascii b text size quote small last long (suc i) = by_order (cases_order i size) where
  by_order : (i ≡ size) ⊎ ((i < size) ⊎ (size < i)) → get_or text i 0 < 128
  by_order (inl e) = subst (λ (k : ℕ). get_or text k 0 < 128) (sym e) (omega arith)
  by_order (inr (inl lt)) = small i lt
  by_order (inr (inr gt)) = omega (arith, get_or_past text i 0 (omega arith))

string_ascii : (text : List ℕ) → is_string text ≡ true → IsAscii text
string_ascii [] h = IsAscii-nil
string_ascii (b ∷ text) h =
    let size = size_of (inside (parts text)) in
    let word = b ∷ text in
    let both = and_parts (first word == 34 && list_all is_good (string_parts word)) (first (drop (size + 1) word) == 34 && length word == size + 2) h in
    let front = and_parts (first word == 34) (list_all is_good (string_parts word)) both.0 in
    let back = and_parts (first (drop (size + 1) word) == 34) (length word == size + 2) both.1 in
    let last : get_or text size 0 ≡ 34 = sym (first_of_drop text size) ∙
    (ap (λ k. first (drop k word)) (sym (add-one size)) ∙ eqb-true (first (drop (size + 1) word)) 34 back.0) in
    let long = eqb-true (length word) (size + 2) back.1 in
    quoted_ascii b text size (eqb-true b 34 front.0) (λ j lt. inside_small text j front.1 lt) last (omega (arith, long))

-- ---- symbols

is_small : ℕ → Bool
is_small b = nat_lt b 128

small : (b : ℕ) → is_small b ≡ true → b < 128
unfolding is_small
small b h = ltb-true b 128 h

symbol_ascii : (word : List ℕ) (kind : TokenKind) → StandsIn symbols word kind → IsAscii word
unfolding symbols is_small
symbol_ascii word kind s =
    let found = stands_passes (λ e. list_all is_small e.0) symbols word kind refl s in
    subst IsAscii found.1 (all_ascii is_small small found.0.0 found.2)

-- ---- any token

spelling_ascii : (kind : TokenKind) (text : List ℕ) → IsSpelling kind text → IsAscii text
spelling_ascii kind text (named h) = name_ascii text h
spelling_ascii kind text (type_variable {text = name} h) = IsAscii-cons 39 name (omega arith) (name_ascii name h)
spelling_ascii kind text (decimal d h) = all_ascii in_decimal decimal_small text h
spelling_ascii kind text (hexadecimal {text = digits} h some) =
    IsAscii-cons 48 (120 ∷ digits) (omega arith) (IsAscii-cons 120 digits (omega arith) (all_ascii in_hexadecimal hexadecimal_small digits h))
spelling_ascii kind text (binary {text = digits} h some) =
    IsAscii-cons 48 (98 ∷ digits) (omega arith) (IsAscii-cons 98 digits (omega arith) (all_ascii in_binary binary_small digits h))
spelling_ascii kind text (string h) = string_ascii text h
spelling_ascii kind text (directive d h i) = all_ascii in_directive directive_small text h
spelling_ascii kind text (symbol s) = symbol_ascii text kind s

-- the bytes of the token that begins a text are ASCII
pub token_ascii : (text : List ℕ) (kind : TokenKind) (n : ℕ) → 0 < length text → front text ≡ Token kind n → IsAscii (take n text)
token_ascii text kind n some h = spelling_ascii kind (take n text) (spelling_of text kind n some h)
