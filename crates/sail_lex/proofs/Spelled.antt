-- The token at a place is spelled as its kind is.
use Rattle.std.proofs.Common.{◌≡◌, ℕ, zero, suc, ◌+◌, ◌*◌, ◌^◌, ◌<◌, ◌≤◌, Bool, true, false, cond, eqb, ◌==◌, ◌||◌, List, [], ◌∷◌, length, take, drop}
use Rattle.std.proofs.Common.{Option, Some, None, sym, refl, ap, ◌∙◌, subst, arith, inl, inr, eqb-true, eq-eqb, one-add, add-one, length-take-le}
use Rattle.std.proofs.Common.{length-take, ltb-false}
use Rattle.std.specs.Prelude.{◌&&◌, not, nat_eq, nat_lt, codes, count_by, IfSome}
use Rattle.std.specs.List.{prefix_len, list_all, starts_with}
use Rattle.std.specs.Char.{is_ascii_digit, is_ascii_alphabetic, is_ascii_hexdigit}
use Rattle.std.proofs.lemmas.Bool.{false≢true, true≢false, and_parts, and_from}
use Rattle.std.proofs.lemmas.List.{take_all}
use Rattle.std.proofs.lemmas.Slice.Eq.{bytes_eq-Decides}
use Rattle.sail_lex.specs.declared.kind.TokenKind.{TokenKind}
use Rattle.sail_lex.specs.declared.kind.TokenKind.TheVariants.{TypeVariable, Decimal, Hexadecimal, Binary, StringLiteral, LeftOut}
use Rattle.sail_lex.specs.declared.literal.Radix.TheVariants.{Base2, Base16}
use Rattle.sail_lex.specs.declared.front.Fault.TheVariants.{BadByte, BadLiteral, Unclosed, NumberTooLarge}
use Rattle.sail_lex.specs.declared.front.Front.{Front}
use Rattle.sail_lex.specs.declared.front.Front.TheVariants.{Skip, Comment, Token, Refused}
use Rattle.sail_lex.specs.Bytes.{is_blank, begins_name, in_name, in_decimal, in_hexadecimal, in_binary, is_binary_digit, in_line, in_directive, first}
use Rattle.sail_lex.specs.Front.{front, name_front, number_front, type_variable_front, string_front, directive_front, other_front, symbol_front}
use Rattle.sail_lex.specs.Front.{decimal_front, bits_front, front_of_symbol, is_include}
use Rattle.sail_lex.specs.Literal.{Part, Escape, Byte, string_parts, size_of, parts, inside, is_good, is_end, part_size, decimal_value}
use Rattle.sail_lex.specs.Lookup.{longest_in, if_begins, kind_of_name}
use Rattle.sail_lex.specs.Spellings.{IsLongest, IsSpelling, is_name, is_string, StandsIn, named, type_variable, decimal, hexadecimal, binary, string}
use Rattle.sail_lex.specs.Spellings.{directive, symbol}
use Rattle.sail_lex.specs.Tables.{symbols}
use Rattle.sail_lex.proofs.Symbols.{longer_keeps}
use Rattle.sail_lex.proofs.Longest.{longest_of}

-- each byte of a run passes
run_more : (p : ℕ → Bool) (b : ℕ) (text : List ℕ) → list_all p (take (prefix_len p text) text) ≡ true → (t : Bool) → p b ≡ t →
    list_all p (take (cond t (1 + prefix_len p text) 0) (b ∷ text)) ≡ true
run_more p b text h true e =
    subst (λ (k : ℕ). list_all p (take k (b ∷ text)) ≡ true) (sym (one-add (prefix_len p text)))
    (and_from (p b) (list_all p (take (prefix_len p text) text)) e h)
run_more p b text h false e = refl

run_all : (p : ℕ → Bool) (text : List ℕ) → list_all p (take (prefix_len p text) text) ≡ true
run_all p [] = refl
run_all p (b ∷ text) = run_more p b text (run_all p text) (p b) refl

-- a run that isn't empty begins with the text's first byte
pub first_take : (p : ℕ → Bool) (text : List ℕ) → p (first text) ≡ true → first (take (prefix_len p text) text) ≡ first text
first_take p [] h = refl
first_take p (b ∷ text) h =
    subst (λ (t : Bool). first (take (cond t (1 + prefix_len p text) 0) (b ∷ text)) ≡ b) (sym h)
    (subst (λ (k : ℕ). first (take k (b ∷ text)) ≡ b) (sym (one-add (prefix_len p text))) refl)

-- a token's first bytes are spelled so
Spelled : List ℕ → Front → Type 0
Spelled text (Token kind n) = IsSpelling kind (take n text)
Spelled text (Skip n) = Unit {0}
Spelled text Comment = Unit {0}
Spelled text (Refused f n) = Unit {0}

name_run : (text : List ℕ) → begins_name (first text) ≡ true → is_name (take (prefix_len in_name text) text) ≡ true
name_run text h =
    let run = take (prefix_len in_name text) text in
    let same : first run ≡ first text = first_take in_name text (ap (λ b. b || is_ascii_digit (first text)) h) in
    and_from (begins_name (first run)) (list_all in_name run) (subst (λ (b : ℕ). begins_name b ≡ true) (sym same) h) (run_all in_name text)

spelled_name : (text : List ℕ) → begins_name (first text) ≡ true → Spelled text (name_front text)
unfolding name_front Spelled
spelled_name text h =
    elim (nat_lt 255 (prefix_len in_name text)) as
    (λ t. Spelled text (cond t (Refused BadLiteral 0) (Token (kind_of_name (take (prefix_len in_name text) text)) (prefix_len in_name text))))
    [ true ↦ tt | false ↦ named (name_run text h) ]

spelled_variable : (rest : List ℕ) → Spelled (39 ∷ rest) (type_variable_front (39 ∷ rest))
unfolding type_variable_front Spelled
spelled_variable rest = by_name (begins_name (first rest)) refl (nat_lt 255 (prefix_len in_name rest)) where
  by_name : (t : Bool) → begins_name (first rest) ≡ t → (u : Bool) →
      Spelled (39 ∷ rest) (cond (not t) (Refused (BadByte 39) 0) (cond u (Refused BadLiteral 0) (Token TypeVariable (prefix_len in_name rest + 1))))
  by_name false h u = tt
  by_name true h true = tt
  by_name true h false = subst (λ (k : ℕ). IsSpelling TypeVariable (take k (39 ∷ rest))) (sym (add-one (prefix_len in_name rest)))
      (type_variable (name_run rest h))

spelled_decimal : (text : List ℕ) → is_ascii_digit (first text) ≡ true → Spelled text (decimal_front text)
unfolding decimal_front Spelled
spelled_decimal text h =
    by_tests (is_ascii_alphabetic (first (drop (prefix_len in_decimal text) text)))
    (nat_lt (2 ^ 126) (decimal_value (take (prefix_len in_decimal text) text))) where
      by_tests : (s t : Bool) → Spelled text (cond s (Refused BadLiteral 0) (cond t (Refused NumberTooLarge 0) (Token Decimal (prefix_len in_decimal text))))
      by_tests true t = tt
      by_tests false true = tt
      by_tests false false =
          let same : first (take (prefix_len in_decimal text) text) ≡ first text = first_take in_decimal text (ap (λ b. b || (first text == 95)) h) in
          decimal (subst (λ (b : ℕ). is_ascii_digit b ≡ true) (sym same) h) (run_all in_decimal text)

some_digits : (n : ℕ) (b : Bool) → (n == 0 || b) ≡ false → 0 < n
some_digits zero b h = absurd (true≢false h)
some_digits (suc n) b h = omega arith

spelled_hexadecimal : (rest : List ℕ) → Spelled (48 ∷ 120 ∷ rest) (bits_front Base16 (48 ∷ 120 ∷ rest))
unfolding bits_front Spelled
spelled_hexadecimal rest =
    by_tests (count_by is_ascii_hexdigit (take (prefix_len in_hexadecimal rest) rest) ==
    0 || is_ascii_alphabetic (first (drop (prefix_len in_hexadecimal rest) rest))) refl
    (nat_lt 128 (4 * count_by is_ascii_hexdigit (take (prefix_len in_hexadecimal rest) rest))) where
      by_tests : (s : Bool) →
          (count_by is_ascii_hexdigit (take (prefix_len in_hexadecimal rest) rest) ==
          0 || is_ascii_alphabetic (first (drop (prefix_len in_hexadecimal rest) rest))) ≡ s → (t : Bool) →
          Spelled (48 ∷ 120 ∷ rest)
          (cond s (Refused BadLiteral 0) (cond t (Refused NumberTooLarge 0) (Token Hexadecimal (prefix_len in_hexadecimal rest + 2))))
      by_tests true e t = tt
      by_tests false e true = tt
      by_tests false e false =
          let two : suc (suc (prefix_len in_hexadecimal rest)) ≡ prefix_len in_hexadecimal rest + 2 = omega arith in
          subst (λ (k : ℕ). IsSpelling Hexadecimal (take k (48 ∷ 120 ∷ rest))) two
          (hexadecimal (run_all in_hexadecimal rest)
          (some_digits (count_by is_ascii_hexdigit (take (prefix_len in_hexadecimal rest) rest))
          (is_ascii_alphabetic (first (drop (prefix_len in_hexadecimal rest) rest))) e))

spelled_binary : (rest : List ℕ) → Spelled (48 ∷ 98 ∷ rest) (bits_front Base2 (48 ∷ 98 ∷ rest))
unfolding bits_front Spelled
spelled_binary rest =
    by_tests (count_by is_binary_digit (take (prefix_len in_binary rest) rest) ==
    0 || is_ascii_alphabetic (first (drop (prefix_len in_binary rest) rest))) refl
    (nat_lt 128 (1 * count_by is_binary_digit (take (prefix_len in_binary rest) rest))) where
      by_tests : (s : Bool) →
          (count_by is_binary_digit (take (prefix_len in_binary rest) rest) == 0 || is_ascii_alphabetic (first (drop (prefix_len in_binary rest) rest)))
          ≡ s → (t : Bool) → Spelled (48 ∷ 98 ∷ rest)
          (cond s (Refused BadLiteral 0) (cond t (Refused NumberTooLarge 0) (Token Binary (prefix_len in_binary rest + 2))))
      by_tests true e t = tt
      by_tests false e true = tt
      by_tests false e false =
          let two : suc (suc (prefix_len in_binary rest)) ≡ prefix_len in_binary rest + 2 = omega arith in
          subst (λ (k : ℕ). IsSpelling Binary (take k (48 ∷ 98 ∷ rest))) two
          (binary (run_all in_binary rest)
          (some_digits (count_by is_binary_digit (take (prefix_len in_binary rest) rest))
          (is_ascii_alphabetic (first (drop (prefix_len in_binary rest) rest))) e))

-- a text that begins with two bytes is those and its rest
and_false : (b : Bool) → (b && false) ≡ false
and_false true = refl
and_false false = refl

pub two_first : (x y : ℕ) (text : List ℕ) (P : List ℕ → Type 0) → starts_with nat_eq text (x ∷ y ∷ []) ≡ true → ((rest : List ℕ) → P (x ∷ y ∷ rest)) → P text
two_first x y [] P h f = absurd (false≢true h)
two_first x y (a ∷ []) P h f = absurd (false≢true (sym (and_false (eqb x a)) ∙ h))
two_first x y (a ∷ c ∷ rest) P h f =
    let both = and_parts (eqb x a) (eqb y c && true) h in
    let one : x ≡ a = eqb-true x a both.0 in
    let other : y ≡ c = eqb-true y c (and_parts (eqb y c) true both.1).0 in
    subst (λ (k : ℕ). P (k ∷ c ∷ rest)) one (subst (λ (k : ℕ). P (x ∷ k ∷ rest)) other (f rest))

spelled_number : (text : List ℕ) → is_ascii_digit (first text) ≡ true → Spelled text (number_front text)
unfolding number_front
spelled_number text h = by_prefix (starts_with nat_eq text (codes "0x")) refl (starts_with nat_eq text (codes "0b")) refl where
  by_prefix : (s : Bool) → starts_with nat_eq text (codes "0x") ≡ s → (t : Bool) → starts_with nat_eq text (codes "0b") ≡ t →
      Spelled text (cond s (bits_front Base16 text) (cond t (bits_front Base2 text) (decimal_front text)))
  by_prefix true e t f = two_first 48 120 text (λ w. Spelled w (bits_front Base16 w)) e spelled_hexadecimal
  by_prefix false e true f = two_first 48 98 text (λ w. Spelled w (bits_front Base2 w)) f spelled_binary
  by_prefix false e false f = spelled_decimal text h

-- ---- strings: no byte behind the end of what is inside matters

cons_exact : (p : Part) (xs ys : List Part) (m : ℕ) → part_size p + m ≤ part_size p + m → size_of (inside (p ∷ ys)) < part_size p + m →
    (size_of (inside ys) < m → inside xs ≡ inside ys) → inside (p ∷ xs) ≡ inside (p ∷ ys)
unfolding inside size_of
cons_exact p xs ys m same small h = by_end (is_end p) small where
  by_end : (t : Bool) → size_of (cond t [] (p ∷ inside ys)) < part_size p + m → cond t [] (p ∷ inside xs) ≡ cond t [] (p ∷ inside ys)
  by_end true s = refl
  by_end false s = ap (λ q. p ∷ q) (h (omega arith))

pair_exact : (b c : ℕ) (less text : List ℕ) (m : ℕ) → (size_of (inside (parts text)) < m → inside (parts less) ≡ inside (parts text)) →
    (size_of (inside (parts (c ∷ text))) < suc m → inside (parts (c ∷ less)) ≡ inside (parts (c ∷ text))) → (t : Bool) →
    size_of (inside (cond t (Escape c ∷ parts text) (Byte b ∷ parts (c ∷ text)))) < suc (suc m) →
    inside (cond t (Escape c ∷ parts less) (Byte b ∷ parts (c ∷ less))) ≡ inside (cond t (Escape c ∷ parts text) (Byte b ∷ parts (c ∷ text)))
pair_exact b c less text m h k true s = cons_exact (Escape c) (parts less) (parts text) m (omega arith) (omega arith) h
pair_exact b c less text m h k false s = cons_exact (Byte b) (parts (c ∷ less)) (parts (c ∷ text)) (suc m) (omega arith) (omega arith) k

lone_exact : (b c : ℕ) (text : List ℕ) (t : Bool) → size_of (inside (cond t (Escape c ∷ parts text) (Byte b ∷ parts (c ∷ text)))) < 1 →
    inside (Byte b ∷ []) ≡ inside (cond t (Escape c ∷ parts text) (Byte b ∷ parts (c ∷ text)))
unfolding inside size_of
lone_exact b c text true s = absurd (omega arith)
lone_exact b c text false s = cons_exact (Byte b) [] (parts (c ∷ text)) 0 (omega arith) s (λ none. absurd (omega arith))

take_exact : (text : List ℕ) (m : ℕ) → size_of (inside (parts text)) < m → inside (parts (take m text)) ≡ inside (parts text)
unfolding parts
take_exact [] zero s = refl
take_exact [] (suc m) s = refl
take_exact (b ∷ []) zero s = absurd (omega arith)
take_exact (b ∷ []) (suc zero) s = refl
take_exact (b ∷ []) (suc (suc m)) s = refl
take_exact (b ∷ c ∷ text) zero s = absurd (omega arith)
take_exact (b ∷ c ∷ text) (suc zero) s = lone_exact b c text (eqb b 92) s
take_exact (b ∷ c ∷ text) (suc (suc m)) s = pair_exact b c (take m text) text m (take_exact text m) (take_exact (c ∷ text) (suc m)) (eqb b 92) s

-- where a byte stands that isn't 0, the text reaches
reaches : (text : List ℕ) (n : ℕ) → (first (drop n text) == 34) ≡ true → n < length text
reaches [] zero h = absurd (false≢true h)
reaches [] (suc n) h = absurd (false≢true h)
reaches (b ∷ text) zero h = omega arith
reaches (b ∷ text) (suc n) h = omega (arith, reaches text n h)

first_of_taken : (text : List ℕ) (n : ℕ) → n < length text → first (drop n (take (suc n) text)) ≡ first (drop n text)
first_of_taken [] n h = absurd (omega arith)
first_of_taken (b ∷ text) zero h = refl
first_of_taken (b ∷ text) (suc n) h = first_of_taken text n (omega arith)

is_string_by : (rest word : List ℕ) (n : ℕ) → n ≡ size_of (inside (parts rest)) → word ≡ take (suc n) rest →
    list_all is_good (inside (parts rest)) ≡ true → (first (drop n rest) == 34) ≡ true → is_string (34 ∷ word) ≡ true
is_string_by rest word n en ew good quote =
    let long : n < length rest = reaches rest n quote in
    let exact : inside (parts word) ≡ inside (parts rest) = ap (λ t. inside (parts t)) ew ∙ take_exact rest (suc n) (omega arith) in
    let size : size_of (inside (parts word)) ≡ n = ap size_of exact ∙ sym en in
    let good_word : list_all is_good (inside (parts word)) ≡ true = ap (list_all is_good) exact ∙ good in
    let last : (first (drop (size_of (inside (parts word)) + 1) (34 ∷ word)) == 34) ≡ true =
    ap (λ k. first (drop k (34 ∷ word)) == 34) (ap (λ k. k + 1) size ∙ add-one n)
    ∙ (ap (λ t. first (drop n t) == 34) ew ∙ (ap (λ b. b == 34) (first_of_taken rest n long) ∙ quote)) in
    let count : (length (34 ∷ word) == size_of (inside (parts word)) + 2) ≡ true =
    eq-eqb (length (34 ∷ word)) (size_of (inside (parts word)) + 2) (omega (arith, ap length ew, length-take-le (suc n) rest long, size)) in
    and_from (first (34 ∷ word) == 34 && list_all is_good (string_parts (34 ∷ word)))
    (first (drop (size_of (string_parts (34 ∷ word)) + 1) (34 ∷ word)) == 34 && length (34 ∷ word) == size_of (string_parts (34 ∷ word)) + 2)
    good_word (and_from (first (drop (size_of (string_parts (34 ∷ word)) + 1) (34 ∷ word)) == 34)
    (length (34 ∷ word) == size_of (string_parts (34 ∷ word)) + 2) last count)

spelled_string : (rest : List ℕ) → Spelled (34 ∷ rest) (string_front (34 ∷ rest))
unfolding string_front Spelled
spelled_string rest =
    by_good (list_all is_good (inside (parts rest))) refl (nat_lt 4096 (size_of (inside (parts rest))))
    (first (drop (size_of (inside (parts rest)) + 1) (34 ∷ rest)) == 34) refl where
      by_good : (g : Bool) → list_all is_good (inside (parts rest)) ≡ g → (s q : Bool) →
          (first (drop (size_of (inside (parts rest)) + 1) (34 ∷ rest)) == 34) ≡ q →
          Spelled (34 ∷ rest) (cond (not g || s) (Refused BadLiteral 0) (cond q (Token StringLiteral (size_of (inside (parts rest)) + 2)) (Refused Unclosed 0)))
      by_good false good s q e = tt
      by_good true good true q e = tt
      by_good true good false false e = tt
      by_good true good false true e =
          let n = size_of (inside (parts rest)) in
          let two : suc (suc (size_of (inside (parts rest)))) ≡ size_of (inside (parts rest)) + 2 = omega arith in
          let quote : (first (drop (size_of (inside (parts rest))) rest) == 34) ≡ true =
          ap (λ k. first (drop k (34 ∷ rest)) == 34) (sym (add-one (size_of (inside (parts rest))))) ∙ e in
          subst (λ (k : ℕ). IsSpelling StringLiteral (take k (34 ∷ rest))) two
          (string (is_string_by rest (take (suc (size_of (inside (parts rest)))) rest) (size_of (inside (parts rest))) refl refl good quote))

-- ---- directives and symbols

spelled_directive : (text : List ℕ) → first text ≡ 36 → Spelled text (directive_front text)
unfolding directive_front Spelled
spelled_directive text h = by_tests (nat_lt (prefix_len in_directive (take (prefix_len in_line text) text)) (prefix_len in_line text)) refl
    (is_include (take (prefix_len in_line text) text)) refl where
      by_tests : (s : Bool) → nat_lt (prefix_len in_directive (take (prefix_len in_line text) text)) (prefix_len in_line text) ≡ s → (t : Bool) →
          is_include (take (prefix_len in_line text) text) ≡ t →
          Spelled text (cond s
          (Refused (BadByte (first (drop (prefix_len in_directive (take (prefix_len in_line text) text)) text)))
          (prefix_len in_directive (take (prefix_len in_line text) text)))
          (cond t (Skip (prefix_len in_line text)) (Token LeftOut (prefix_len in_line text))))
      by_tests true e t f = tt
      by_tests false e true f = tt
      by_tests false e false f =
          let line = take (prefix_len in_line text) text in
          let whole : take (prefix_len in_directive line) line ≡ line =
          take_all (prefix_len in_directive line) line
          (omega (arith, length-take (prefix_len in_line text) text, ltb-false (prefix_len in_directive line) (prefix_len in_line text) e)) in
          directive (first_take in_line text (subst (λ (b : ℕ). in_line b ≡ true) (sym h) refl) ∙ h)
          (subst (λ (t : List ℕ). list_all in_directive t ≡ true) whole (run_all in_directive line)) f

weaken : (e : List ℕ × TokenKind) (table : List (List ℕ × TokenKind)) (text : List ℕ) (found : Option (List ℕ × TokenKind)) →
    IfSome found (λ f. StandsIn table (take (length f.0) text) f.1) → IfSome found (λ f. StandsIn (e ∷ table) (take (length f.0) text) f.1)
unfolding StandsIn
weaken e table text None h = tt
weaken e table text (Some f) h = inr h

first_stands : (e : List ℕ × TokenKind) (table : List (List ℕ × TokenKind)) (text : List ℕ) (t : Bool) → starts_with nat_eq text e.0 ≡ t →
    IfSome (cond t (Some e) None) (λ f. StandsIn (e ∷ table) (take (length f.0) text) f.1)
unfolding StandsIn
first_stands e table text true h = inl ((bytes_eq-Decides e.0 (take (length e.0) text)).0 h, refl)
first_stands e table text false h = tt

found_stands : (table : List (List ℕ × TokenKind)) (text : List ℕ) → IfSome (longest_in table text) (λ f. StandsIn table (take (length f.0) text) f.1)
found_stands [] text = tt
found_stands (e ∷ table) text =
    longer_keeps (λ f. StandsIn (e ∷ table) (take (length f.0) text) f.1) (if_begins e text) (longest_in table text)
    (first_stands e table text (starts_with nat_eq text e.0) refl)
    (weaken e table text (longest_in table text) (found_stands table text))

spelled_found : (text : List ℕ) (found : Option (List ℕ × TokenKind)) → IfSome found (λ f. StandsIn symbols (take (length f.0) text) f.1) →
    Spelled text (front_of_symbol text found)
unfolding Spelled
spelled_found text None h = tt
spelled_found text (Some e) h = symbol h

spelled_other : (text : List ℕ) → Spelled text (other_front text)
unfolding other_front symbol_front Spelled
spelled_other text = by_test (starts_with nat_eq text (codes "//")) (starts_with nat_eq text (codes "/*")) where
  by_test : (s t : Bool) → Spelled text (cond s (Skip (prefix_len in_line text)) (cond t Comment (front_of_symbol text (longest_in symbols text))))
  by_test true t = tt
  by_test false true = tt
  by_test false false = spelled_found text (longest_in symbols text) (found_stands symbols text)

-- a text that begins with a byte is that and its rest
pub one_first : (x : ℕ) (text : List ℕ) (P : List ℕ → Type 0) → 0 < length text → (first text == x) ≡ true → ((rest : List ℕ) → P (x ∷ rest)) → P text
one_first x [] P some h f = absurd (omega arith)
one_first x (b ∷ rest) P some h f = subst (λ (k : ℕ). P (k ∷ rest)) (sym (eqb-true b x h)) (f rest)

spelled : (text : List ℕ) → 0 < length text → Spelled text (front text)
unfolding front Spelled
spelled text some = by_byte (is_blank (first text)) (begins_name (first text)) refl (is_ascii_digit (first text)) refl (eqb (first text) 39) refl
    (eqb (first text) 34) refl (eqb (first text) 36) refl where
      by_byte : (t u : Bool) → begins_name (first text) ≡ u → (v : Bool) → is_ascii_digit (first text) ≡ v → (w : Bool) → eqb (first text) 39 ≡ w →
          (x : Bool) → eqb (first text) 34 ≡ x → (y : Bool) → eqb (first text) 36 ≡ y →
          Spelled text (cond t (Skip (prefix_len is_blank text))
          (cond u (name_front text)
          (cond v (number_front text) (cond w (type_variable_front text) (cond x (string_front text) (cond y (directive_front text) (other_front text)))))))
      by_byte true u eu v ev w ew x ex y ey = tt
      by_byte false true eu v ev w ew x ex y ey = spelled_name text eu
      by_byte false false eu true ev w ew x ex y ey = spelled_number text ev
      by_byte false false eu false ev true ew x ex y ey = one_first 39 text (λ t. Spelled t (type_variable_front t)) some ew spelled_variable
      by_byte false false eu false ev false ew true ex y ey = one_first 34 text (λ t. Spelled t (string_front t)) some ex spelled_string
      by_byte false false eu false ev false ew false ex true ey = spelled_directive text (eqb-true (first text) 36 ey)
      by_byte false false eu false ev false ew false ex false ey = spelled_other text

pub spelling_of : (text : List ℕ) (kind : TokenKind) (n : ℕ) → 0 < length text → front text ≡ Token kind n → IsSpelling kind (take n text)
unfolding Spelled
spelling_of text kind n some h = subst (Spelled text) h (spelled text some)

pub law : (text : List ℕ) (kind : TokenKind) (n : ℕ) → 0 < length text → front text ≡ Token kind n → IsLongest text kind n
law text kind n some h = record { spelled = spelling_of text kind n some h; longest = longest_of text kind n h }
