-- Where no spelling begins.
use Rattle.std.proofs.Common.{◌≡◌, ℕ, zero, suc, ◌+◌, ◌<◌, ◌≤◌, Bool, true, false, cond, eqb, ◌==◌, List, [], ◌∷◌, length, take, drop, Option, Some, None}
use Rattle.std.proofs.Common.{sym, refl, ap, ◌∙◌, subst, arith, inl, inr, ◌⊎◌, eqb-true}
use Rattle.std.specs.Prelude.{◌&&◌, ◌||◌, not, nat_eq, nat_lt, codes}
use Rattle.std.specs.List.{prefix_len, list_all, starts_with}
use Rattle.std.specs.Char.{is_ascii_digit}
use Rattle.std.proofs.lemmas.Bool.{true≢false, and_parts, cases_order}
use Rattle.std.proofs.lemmas.Bool.Decides.{nat_tests}
use Rattle.sail_lex.specs.declared.kind.TokenKind.{TokenKind}
use Rattle.sail_lex.specs.declared.kind.TokenKind.TheVariants.{TypeVariable, StringLiteral, LeftOut}
use Rattle.sail_lex.specs.declared.literal.Radix.TheVariants.{Base2, Base16}
use Rattle.sail_lex.specs.declared.front.Fault.TheVariants.{BadByte, BadLiteral, Unclosed, NumberTooLarge}
use Rattle.sail_lex.specs.declared.front.Front.{Front}
use Rattle.sail_lex.specs.declared.front.Front.TheVariants.{Skip, Comment, Token, Refused}
use Rattle.sail_lex.specs.Bytes.{is_blank, begins_name, in_name, in_line, in_directive, first}
use Rattle.sail_lex.specs.Front.{front, name_front, number_front, type_variable_front, string_front, directive_front, other_front, symbol_front}
use Rattle.sail_lex.specs.Front.{decimal_front, bits_front}
use Rattle.sail_lex.specs.Front.{front_of_symbol, is_include}
use Rattle.sail_lex.specs.Literal.{string_parts, size_of, is_good}
use Rattle.sail_lex.specs.Lookup.{longest_in, kind_of_name}
use Rattle.sail_lex.specs.Spellings.{IsSpelling, BeginsNone, IsLonger, is_string, named, type_variable, decimal, hexadecimal, binary, string, directive, symbol}
use Rattle.sail_lex.specs.Tables.{symbols}
use Rattle.sail_lex.proofs.Longest.{bound, limit_at, limit_dollar, limit_other, length_of, length_none, stands_passes}
use Rattle.sail_lex.proofs.Prefixes.{run_some}
use Rattle.sail_lex.proofs.Spelled.{one_first, two_first, first_take}

-- the first byte of a spelling is no blank, no `/` and not 0
abbrev may_begin : ℕ → Bool
may_begin b = not (is_blank b) && (not (eqb b 47) && not (eqb b 0))

name_may : (b : ℕ) → begins_name b ≡ true → may_begin b ≡ true
name_may b h = grind (arith, nat_tests)

digit_may : (b : ℕ) → is_ascii_digit b ≡ true → may_begin b ≡ true
digit_may b h = grind (arith, nat_tests)

quote_first : (word : List ℕ) → is_string word ≡ true → first word ≡ 34
quote_first word h =
    let size = size_of (string_parts word) in
    let both = and_parts (first word == 34 && list_all is_good (string_parts word)) (first (drop (size + 1) word) == 34 && length word == size + 2) h in
    eqb-true (first word) 34 (and_parts (first word == 34) (list_all is_good (string_parts word)) both.0).0

begins : (kind : TokenKind) (word : List ℕ) → IsSpelling kind word → may_begin (first word) ≡ true
unfolding symbols
begins kind word (named h) = name_may (first word) (and_parts (begins_name (first word)) (list_all in_name word) h).0
begins kind word (type_variable h) = refl
begins kind word (decimal d h) = digit_may (first word) d
begins kind word (hexadecimal h some) = refl
begins kind word (binary h some) = refl
begins kind word (string h) = subst (λ (b : ℕ). may_begin b ≡ true) (sym (quote_first word h)) refl
begins kind word (directive d h i) = subst (λ (b : ℕ). may_begin b ≡ true) (sym d) refl
begins kind word (symbol s) =
    let found = stands_passes (λ e. may_begin (first e.0)) symbols word kind refl s in
    subst (λ (t : List ℕ). may_begin (first t) ≡ true) found.1 found.2

first_taken : (text : List ℕ) (m : ℕ) → first (take (suc m) text) ≡ first text
first_taken [] m = refl
first_taken (b ∷ text) m = refl

-- a text whose first byte isn't 0 has one
has_first : (text : List ℕ) → 0 < first text → 0 < length text
has_first [] h = absurd (omega arith)
has_first (b ∷ text) h = omega arith

-- no spelling is empty
empty : (text : List ℕ) → first (take 0 text) ≡ 0
empty [] = refl
empty (b ∷ text) = refl

pub no_empty : (kind : TokenKind) (text : List ℕ) → IsSpelling kind (take 0 text) → ⊥
no_empty kind text s = true≢false (sym (begins kind (take 0 text) s) ∙ ap may_begin (empty text))

none_begins : (text : List ℕ) → may_begin (first text) ≡ false → BeginsNone text
none_begins text h kind zero le s = no_empty kind text s
none_begins text h kind (suc m) le s = true≢false (sym (begins kind (take (suc m) text) s) ∙ (ap may_begin (first_taken text m) ∙ h))

longer_none : (text : List ℕ) (n : ℕ) → BeginsNone text → IsLonger text n
longer_none text n h kind m le s = absurd (h kind m le s)

-- ---- type variables and directives

-- a byte that passes a test isn't one that doesn't
apart : (p : ℕ → Bool) (b c : ℕ) → p b ≡ true → b ≡ c → p c ≡ false → ⊥
apart p b c h e k = true≢false (sym h ∙ (ap p e ∙ k))

after_tick : (kind : TokenKind) (word : List ℕ) → IsSpelling kind word → first word ≡ 39 → begins_name (first (drop 1 word)) ≡ true
unfolding symbols
after_tick kind word (named h) e = absurd (apart begins_name (first word) 39 (and_parts (begins_name (first word)) (list_all in_name word) h).0 e refl)
after_tick kind word (type_variable {text = name} h) e = (and_parts (begins_name (first name)) (list_all in_name name) h).0
after_tick kind word (decimal d h) e = absurd (apart is_ascii_digit (first word) 39 d e refl)
after_tick kind word (hexadecimal h some) e = absurd (omega arith)
after_tick kind word (binary h some) e = absurd (omega arith)
after_tick kind word (string h) e = absurd (omega (arith, quote_first word h))
after_tick kind word (directive d h i) e = absurd (omega arith)
after_tick kind word (symbol s) e =
    let found = stands_passes (λ e. not (eqb (first e.0) 39)) symbols word kind refl s in
    absurd (apart (λ b. not (eqb b 39)) (first found.0.0) 39 found.2 (ap first found.1 ∙ e) refl)

after_dollar : (kind : TokenKind) (word : List ℕ) → IsSpelling kind word → first word ≡ 36 → is_include word ≡ false
unfolding symbols
after_dollar kind word (named h) e = absurd (apart begins_name (first word) 36 (and_parts (begins_name (first word)) (list_all in_name word) h).0 e refl)
after_dollar kind word (type_variable h) e = absurd (omega arith)
after_dollar kind word (decimal d h) e = absurd (apart is_ascii_digit (first word) 36 d e refl)
after_dollar kind word (hexadecimal h some) e = absurd (omega arith)
after_dollar kind word (binary h some) e = absurd (omega arith)
after_dollar kind word (string h) e = absurd (omega (arith, quote_first word h))
after_dollar kind word (directive d h i) e = i
after_dollar kind word (symbol s) e =
    let found = stands_passes (λ e. not (eqb (first e.0) 36)) symbols word kind refl s in
    absurd (apart (λ b. not (eqb b 36)) (first found.0.0) 36 found.2 (ap first found.1 ∙ e) refl)

none_after_tick : (rest : List ℕ) → begins_name (first rest) ≡ false → BeginsNone (39 ∷ rest)
none_after_tick rest h kind zero le s = no_empty kind (39 ∷ rest) s
none_after_tick rest h kind (suc zero) le s = true≢false (sym (after_tick kind (take 1 (39 ∷ rest)) s refl) ∙ ap begins_name (empty rest))
none_after_tick rest h kind (suc (suc m)) le s =
    true≢false (sym (after_tick kind (take (suc (suc m)) (39 ∷ rest)) s refl) ∙ (ap begins_name (first_taken rest m) ∙ h))

-- an include is more than any directive there
include_longer : (text : List ℕ) → first text ≡ 36 → 0 < length text → is_include (take (prefix_len in_line text) text) ≡ true →
    IsLonger text (prefix_len in_line text)
include_longer text e some include kind m le s = by_order (cases_order m (prefix_len in_line text)) where
  within : m ≤ prefix_len in_line text
  within = subst (λ (k : ℕ). m ≤ k) (ap (λ b. limit_at b text) e ∙ limit_dollar text) (bound text (take m text) kind m le refl s)

  starts : (k : ℕ) → 0 < k → first (take k text) ≡ 36
  starts zero h = absurd (omega arith)
  starts (suc k) h = first_taken text k ∙ e

  by_order : (m ≡ prefix_len in_line text) ⊎ ((m < prefix_len in_line text) ⊎ (prefix_len in_line text < m)) → m < prefix_len in_line text
  by_order (inl same) =
      let run = run_some in_line text some (ap in_line e) in
      absurd (true≢false (sym include ∙ (ap (λ k. is_include (take k text)) (sym same) ∙ after_dollar kind (take m text) s (starts m (omega arith)))))
  by_order (inr (inl lt)) = lt
  by_order (inr (inr gt)) = absurd (omega (arith, within))

-- ---- any text

-- what is passed over has some bytes and is longer than any spelling there; where a comment, or a bad byte at the first place, stands there is none
unfoldable pub Unspelled : List ℕ → Front → Type 0
Unspelled text (Skip n) = (0 < n) × IsLonger text n
Unspelled text Comment = BeginsNone text
Unspelled text (Token kind n) = Unit {0}
Unspelled text (Refused (BadByte b) zero) = BeginsNone text
Unspelled text (Refused f n) = Unit {0}

late : (text : List ℕ) (b n : ℕ) → 0 < n → Unspelled text (Refused (BadByte b) n)
unfolding Unspelled
late text b zero h = absurd (omega arith)
late text b (suc n) h = tt

unspelled_name : (text : List ℕ) → Unspelled text (name_front text)
unfolding name_front Unspelled
unspelled_name text =
    elim (nat_lt 255 (prefix_len in_name text)) as
    (λ t. Unspelled text (cond t (Refused BadLiteral 0) (Token (kind_of_name (take (prefix_len in_name text) text)) (prefix_len in_name text))))
    [ true ↦ tt | false ↦ tt ]

two_tests : (text : List ℕ) (s t : Bool) (kind : TokenKind) (n : ℕ) →
    Unspelled text (cond s (Refused BadLiteral 0) (cond t (Refused NumberTooLarge 0) (Token kind n)))
unfolding Unspelled
two_tests text true t kind n = tt
two_tests text false true kind n = tt
two_tests text false false kind n = tt

unspelled_number : (text : List ℕ) → Unspelled text (number_front text)
unfolding number_front decimal_front bits_front
unspelled_number text = by_prefix (starts_with nat_eq text (codes "0x")) (starts_with nat_eq text (codes "0b")) where
  by_prefix : (s t : Bool) → Unspelled text (cond s (bits_front Base16 text) (cond t (bits_front Base2 text) (decimal_front text)))
  by_prefix true t = two_tests text _ _ _ _
  by_prefix false true = two_tests text _ _ _ _
  by_prefix false false = two_tests text _ _ _ _

unspelled_variable : (rest : List ℕ) → Unspelled (39 ∷ rest) (type_variable_front (39 ∷ rest))
unfolding type_variable_front Unspelled
unspelled_variable rest = by_name (begins_name (first rest)) refl (nat_lt 255 (prefix_len in_name rest)) where
  by_name : (t : Bool) → begins_name (first rest) ≡ t → (u : Bool) →
      Unspelled (39 ∷ rest) (cond (not t) (Refused (BadByte 39) 0) (cond u (Refused BadLiteral 0) (Token TypeVariable (prefix_len in_name rest + 1))))
  by_name false h u = none_after_tick rest h
  by_name true h true = tt
  by_name true h false = tt

unspelled_string : (text : List ℕ) → Unspelled text (string_front text)
unfolding string_front Unspelled
unspelled_string text =
    let n = size_of (string_parts text) in
    by_tests (not (list_all is_good (string_parts text)) || nat_lt 4096 n) (first (drop (n + 1) text) == 34) where
      by_tests : (s t : Bool) →
          Unspelled text (cond s (Refused BadLiteral 0) (cond t (Token StringLiteral (size_of (string_parts text) + 2)) (Refused Unclosed 0)))
      by_tests true t = tt
      by_tests false true = tt
      by_tests false false = tt

unspelled_directive : (text : List ℕ) → 0 < length text → first text ≡ 36 → Unspelled text (directive_front text)
unfolding directive_front Unspelled
unspelled_directive text some h =
    by_tests (nat_lt (prefix_len in_directive (take (prefix_len in_line text) text)) (prefix_len in_line text))
    (is_include (take (prefix_len in_line text) text)) refl where
      run : 0 < prefix_len in_line text
      run = run_some in_line text some (ap in_line h)

      line_first : first (take (prefix_len in_line text) text) ≡ 36
      line_first = first_take in_line text (ap in_line h) ∙ h

      line_some : 0 < length (take (prefix_len in_line text) text)
      line_some = has_first (take (prefix_len in_line text) text) (omega (arith, line_first))

      good : 0 < prefix_len in_directive (take (prefix_len in_line text) text)
      good = run_some in_directive (take (prefix_len in_line text) text) line_some (ap in_directive line_first)

      by_tests : (s t : Bool) → is_include (take (prefix_len in_line text) text) ≡ t →
          Unspelled text (cond s
          (Refused (BadByte (first (drop (prefix_len in_directive (take (prefix_len in_line text) text)) text)))
          (prefix_len in_directive (take (prefix_len in_line text) text)))
          (cond t (Skip (prefix_len in_line text)) (Token LeftOut (prefix_len in_line text))))
      by_tests true t f = late text (first (drop (prefix_len in_directive (take (prefix_len in_line text) text)) text))
          (prefix_len in_directive (take (prefix_len in_line text) text)) good
      by_tests false true f = (run, include_longer text h some f)
      by_tests false false f = tt

-- where no symbol begins a text that none of the other spellings may begin, there is none
unspelled_found : (text : List ℕ) (found : Option (List ℕ × TokenKind)) → limit_at (first text) text ≡ length_of found →
    Unspelled text (front_of_symbol text found)
unfolding Unspelled
unspelled_found text (Some e) h = tt
unspelled_found text None h = none where
  none : BeginsNone text
  none kind zero le s = no_empty kind text s
  none kind (suc m) le s = absurd (omega (arith, bound text (take (suc m) text) kind (suc m) le refl s, h, length_none))

unspelled_other : (text : List ℕ) → limit_at (first text) text ≡ length_of (longest_in symbols text) → Unspelled text (other_front text)
unfolding other_front symbol_front Unspelled
unspelled_other text limit = by_test (starts_with nat_eq text (codes "//")) refl (starts_with nat_eq text (codes "/*")) refl where
  by_test : (s : Bool) → starts_with nat_eq text (codes "//") ≡ s → (t : Bool) → starts_with nat_eq text (codes "/*") ≡ t →
      Unspelled text (cond s (Skip (prefix_len in_line text)) (cond t Comment (front_of_symbol text (longest_in symbols text))))
  by_test true e t f = two_first 47 47 text (λ w. (0 < prefix_len in_line w) × IsLonger w (prefix_len in_line w)) e
      (λ rest. (
        run_some in_line (47 ∷ 47 ∷ rest) (omega arith) refl,
        longer_none (47 ∷ 47 ∷ rest) (prefix_len in_line (47 ∷ 47 ∷ rest))
            (none_begins (47 ∷ 47 ∷ rest) refl),
      ))
  by_test false e true f = two_first 47 42 text BeginsNone f (λ rest. none_begins (47 ∷ 42 ∷ rest) refl)
  by_test false e false f = unspelled_found text (longest_in symbols text) limit

unspelled_blank : (text : List ℕ) → 0 < length text → is_blank (first text) ≡ true → Unspelled text (Skip (prefix_len is_blank text))
unfolding Unspelled
unspelled_blank text some h = (
  run_some is_blank text some h,
  longer_none text (prefix_len is_blank text) (none_begins text (ap (λ t. not t && (not (eqb (first text) 47) && not (eqb (first text) 0))) h)),
)

pub unspelled : (text : List ℕ) → 0 < length text → Unspelled text (front text)
unfolding front
unspelled text some = by_byte (is_blank (first text)) refl (begins_name (first text)) refl (is_ascii_digit (first text)) refl
    (eqb (first text) 39) refl (eqb (first text) 34) refl (eqb (first text) 36) refl where
      by_byte : (t : Bool) → is_blank (first text) ≡ t → (u : Bool) → begins_name (first text) ≡ u → (v : Bool) → is_ascii_digit (first text) ≡ v →
          (w : Bool) → eqb (first text) 39 ≡ w → (x : Bool) → eqb (first text) 34 ≡ x → (y : Bool) → eqb (first text) 36 ≡ y →
          Unspelled text (cond t (Skip (prefix_len is_blank text))
          (cond u (name_front text)
          (cond v (number_front text) (cond w (type_variable_front text) (cond x (string_front text) (cond y (directive_front text) (other_front text)))))))
      by_byte true et u eu v ev w ew x ex y ey = unspelled_blank text some et
      by_byte false et true eu v ev w ew x ex y ey = unspelled_name text
      by_byte false et false eu true ev w ew x ex y ey = unspelled_number text
      by_byte false et false eu false ev true ew x ex y ey = one_first 39 text (λ t. Unspelled t (type_variable_front t)) some ew unspelled_variable
      by_byte false et false eu false ev false ew true ex y ey = unspelled_string text
      by_byte false et false eu false ev false ew false ex true ey = unspelled_directive text some (eqb-true (first text) 36 ey)
      by_byte false et false eu false ev false ew false ex false ey = unspelled_other text (limit_other (first text) text et eu ev ew ex ey)
