-- The token at a place is the longest spelling there: how far any spelling reaches.
use Rattle.std.proofs.Common.{◌≡◌, ℕ, zero, suc, ◌+◌, ◌≤◌, Bool, true, false, cond, eqb, ◌==◌, List, [], ◌∷◌, length, take, drop, Option, Some, None}
use Rattle.std.proofs.Common.{sym, refl, ap, ◌∙◌, subst, arith, inl, inr, eqb-true, eq-eqb, length-take-le, ltb-true, ltb-false}
use Rattle.std.specs.Prelude.{◌&&◌, not, nat_eq, nat_lt, codes, if◌then◌else◌}
use Rattle.std.specs.List.{prefix_len, list_all, starts_with}
use Rattle.std.specs.Char.{is_ascii_digit}
use Rattle.std.specs.Cmp.Lexicographic.{pointwise}
use Rattle.std.proofs.lemmas.Bool.{and_parts, and_from, not-true}
use Rattle.std.proofs.lemmas.Bool.Decides.{nat_tests}
use Rattle.sail_lex.specs.declared.kind.TokenKind.{TokenKind}
use Rattle.sail_lex.specs.declared.literal.Radix.{Radix}
use Rattle.sail_lex.specs.declared.literal.Radix.TheVariants.{Base2, Base16}
use Rattle.sail_lex.specs.declared.front.Fault.{Fault}
use Rattle.sail_lex.specs.declared.front.Front.{Front}
use Rattle.sail_lex.specs.declared.front.Front.TheVariants.{Skip, Comment, Token, Refused}
use Rattle.sail_lex.specs.declared.front.Fault.TheVariants.{BadByte, BadLiteral, Unclosed, NumberTooLarge}
use Rattle.sail_lex.specs.declared.kind.TokenKind.TheVariants.{TypeVariable, Decimal, StringLiteral, LeftOut}
use Rattle.sail_lex.specs.Bytes.{is_blank, begins_name, in_name, in_decimal, in_hexadecimal, in_binary, in_line, in_directive, first}
use Rattle.sail_lex.specs.Front.{front, name_front, number_front, type_variable_front, string_front, directive_front, other_front, symbol_front}
use Rattle.sail_lex.specs.Front.{decimal_front, bits_front, front_of_symbol, kind_of_bits}
use Rattle.sail_lex.specs.Literal.{Part, Escape, Byte, string_parts, size_of, parts, inside, in_digits_of, is_good, is_end}
use Rattle.sail_lex.specs.Lookup.{longest_in, longer_of, if_begins, kind_of_name}
use Rattle.sail_lex.specs.Spellings.{IsSpelling, is_name, is_string, StandsIn, named, type_variable, decimal, hexadecimal, binary, string, directive, symbol}
use Rattle.sail_lex.specs.Tables.{symbols}

-- a front of which each byte passes is within the run
run_bound : (p : ℕ → Bool) (text : List ℕ) (m : ℕ) → m ≤ length text → list_all p (take m text) ≡ true → m ≤ prefix_len p text
run_bound p text zero le h = omega arith
run_bound p [] (suc m) le h = absurd (omega arith)
run_bound p (b ∷ text) (suc m) le h =
    let both = and_parts (p b) (list_all p (take m text)) h in
    let rest : m ≤ prefix_len p text = run_bound p text m (omega arith) both.1 in
    subst (λ (t : Bool). suc m ≤ cond t (1 + prefix_len p text) 0) (sym both.0) (omega arith)

choose : {A : Type 0} → Bool → Bool → Bool → Bool → Bool → Bool → A → A → A → A → A → A → A → A
choose blank letter digit tick quote dollar a b c d e f g =
    cond blank a (cond letter b (cond digit c (cond tick d (cond quote e (cond dollar f g)))))

pub length_of : Option (List ℕ × TokenKind) → ℕ
length_of None = 0
length_of (Some e) = length e.0

number_limit : List ℕ → ℕ
number_limit text =
    if starts_with nat_eq text (codes "0x") then prefix_len in_hexadecimal (drop 2 text) + 2
    else (if starts_with nat_eq text (codes "0b") then prefix_len in_binary (drop 2 text) + 2
    else prefix_len in_decimal text)

-- how many bytes a spelling that begins the text has at most, by the first byte
pub limit_at : ℕ → List ℕ → ℕ
limit_at b text =
    choose (is_blank b) (begins_name b) (is_ascii_digit b) (eqb b 39) (eqb b 34) (eqb b 36)
    0 (prefix_len in_name text) (number_limit text) (prefix_len in_name (drop 1 text) + 1) (size_of (string_parts text) + 2)
    (prefix_len in_line text) (length_of (longest_in symbols text))

name_not_blank : (b : ℕ) → begins_name b ≡ true → is_blank b ≡ false
name_not_blank b h = grind (arith, nat_tests)

digit_not_blank : (b : ℕ) → is_ascii_digit b ≡ true → is_blank b ≡ false
digit_not_blank b h = grind (arith, nat_tests)

digit_not_name : (b : ℕ) → is_ascii_digit b ≡ true → begins_name b ≡ false
digit_not_name b h = grind (arith, nat_tests)

module _ {A : Type 0} (t u v w x y : Bool) (a b c d e f g : A) where
  choose_name : t ≡ false → u ≡ true → choose t u v w x y a b c d e f g ≡ b
  unfolding choose
  choose_name p q = λ j. choose (p j) (q j) v w x y a b c d e f g

  choose_digit : t ≡ false → u ≡ false → v ≡ true → choose t u v w x y a b c d e f g ≡ c
  unfolding choose
  choose_digit p q r = λ j. choose (p j) (q j) (r j) w x y a b c d e f g

  choose_other : t ≡ false → u ≡ false → v ≡ false → w ≡ false → x ≡ false → y ≡ false → choose t u v w x y a b c d e f g ≡ g
  unfolding choose
  choose_other p q r s k l = λ j. choose (p j) (q j) (r j) (s j) (k j) (l j) a b c d e f g

-- ---- the limit by the first byte

module _ (b : ℕ) (text : List ℕ) where
  limit_name : begins_name b ≡ true → limit_at b text ≡ prefix_len in_name text
  unfolding limit_at
  limit_name h = choose_name (is_blank b) (begins_name b) (is_ascii_digit b) (eqb b 39) (eqb b 34) (eqb b 36) 0 (prefix_len in_name text)
      (number_limit text) (prefix_len in_name (drop 1 text) + 1) (size_of (string_parts text) + 2) (prefix_len in_line text)
      (length_of (longest_in symbols text)) (name_not_blank b h) h

  limit_digit : is_ascii_digit b ≡ true → limit_at b text ≡ number_limit text
  unfolding limit_at
  limit_digit h = choose_digit (is_blank b) (begins_name b) (is_ascii_digit b) (eqb b 39) (eqb b 34) (eqb b 36) 0 (prefix_len in_name text)
      (number_limit text) (prefix_len in_name (drop 1 text) + 1) (size_of (string_parts text) + 2) (prefix_len in_line text)
      (length_of (longest_in symbols text)) (digit_not_blank b h) (digit_not_name b h) h

limit_tick : (text : List ℕ) → limit_at 39 text ≡ prefix_len in_name (drop 1 text) + 1
unfolding limit_at choose
limit_tick text = refl

limit_quote : (text : List ℕ) → limit_at 34 text ≡ size_of (string_parts text) + 2
unfolding limit_at choose
limit_quote text = refl

pub limit_dollar : (text : List ℕ) → limit_at 36 text ≡ prefix_len in_line text
unfolding limit_at choose
limit_dollar text = refl

-- ---- how far each kind of spelling reaches

bound_name : (m : ℕ) (text : List ℕ) → m ≤ length text → is_name (take m text) ≡ true → m ≤ limit_at (first text) text
bound_name zero text le h = omega arith
bound_name (suc m) [] le h = absurd (omega arith)
bound_name (suc m) (b ∷ text) le h =
    let both = and_parts (begins_name b) (list_all in_name (take (suc m) (b ∷ text))) h in
    subst (λ (k : ℕ). suc m ≤ k) (sym (limit_name b (b ∷ text) both.0)) (run_bound in_name (b ∷ text) (suc m) le both.1)

bound_variable : (m : ℕ) (text rest : List ℕ) → m ≤ length text → is_name rest ≡ true → 39 ∷ rest ≡ take m text → m ≤ limit_at (first text) text
bound_variable zero text rest le h e = omega arith
bound_variable (suc m) [] rest le h e = absurd (omega arith)
bound_variable (suc m) (b ∷ text) rest le h e =
    let tick : 39 ≡ b = cc in
    let same : rest ≡ take m text = cc in
    let all = (and_parts (begins_name (first rest)) (list_all in_name rest) h).1 in
    let run : m ≤ prefix_len in_name text = run_bound in_name text m (omega arith) (subst (λ (t : List ℕ). list_all in_name t ≡ true) same all) in
    subst (λ (k : ℕ). suc m ≤ limit_at k (b ∷ text)) tick (subst (λ (k : ℕ). suc m ≤ k) (sym (limit_tick (b ∷ text))) (omega arith))

hexadecimal_limit : (text : List ℕ) → number_limit (48 ∷ 120 ∷ text) ≡ prefix_len in_hexadecimal text + 2
unfolding number_limit
hexadecimal_limit text = refl

binary_limit : (text : List ℕ) → number_limit (48 ∷ 98 ∷ text) ≡ prefix_len in_binary text + 2
unfolding number_limit
binary_limit text = refl

bound_hexadecimal : (m : ℕ) (text digits : List ℕ) → m ≤ length text → list_all in_hexadecimal digits ≡ true → 48 ∷ 120 ∷ digits ≡ take m text →
    m ≤ limit_at (first text) text
bound_hexadecimal zero text digits le h e = omega arith
bound_hexadecimal (suc m) [] digits le h e = absurd (omega arith)
bound_hexadecimal (suc zero) (b ∷ text) digits le h e = cc
bound_hexadecimal (suc (suc m)) (b ∷ []) digits le h e = absurd (omega arith)
bound_hexadecimal (suc (suc m)) (b ∷ c ∷ text) digits le h e =
    let zero_ : 48 ≡ b = cc in
    let letter : 120 ≡ c = cc in
    let same : digits ≡ take m text = cc in
    let run : m ≤ prefix_len in_hexadecimal text =
    run_bound in_hexadecimal text m (omega arith) (subst (λ (t : List ℕ). list_all in_hexadecimal t ≡ true) same h) in
    let limit = limit_digit 48 (48 ∷ 120 ∷ text) refl ∙ hexadecimal_limit text in
    let bound : suc (suc m) ≤ limit_at 48 (48 ∷ 120 ∷ text) = subst (λ (k : ℕ). suc (suc m) ≤ k) (sym limit) (omega arith) in
    subst (λ (k : ℕ). suc (suc m) ≤ limit_at k (k ∷ c ∷ text)) zero_ (subst (λ (k : ℕ). suc (suc m) ≤ limit_at 48 (48 ∷ k ∷ text)) letter bound)

bound_binary : (m : ℕ) (text digits : List ℕ) → m ≤ length text → list_all in_binary digits ≡ true → 48 ∷ 98 ∷ digits ≡ take m text →
    m ≤ limit_at (first text) text
bound_binary zero text digits le h e = omega arith
bound_binary (suc m) [] digits le h e = absurd (omega arith)
bound_binary (suc zero) (b ∷ text) digits le h e = cc
bound_binary (suc (suc m)) (b ∷ []) digits le h e = absurd (omega arith)
bound_binary (suc (suc m)) (b ∷ c ∷ text) digits le h e =
    let zero_ : 48 ≡ b = cc in
    let letter : 98 ≡ c = cc in
    let same : digits ≡ take m text = cc in
    let run : m ≤ prefix_len in_binary text = run_bound in_binary text m (omega arith) (subst (λ (t : List ℕ). list_all in_binary t ≡ true) same h) in
    let limit = limit_digit 48 (48 ∷ 98 ∷ text) refl ∙ binary_limit text in
    let bound : suc (suc m) ≤ limit_at 48 (48 ∷ 98 ∷ text) = subst (λ (k : ℕ). suc (suc m) ≤ k) (sym limit) (omega arith) in
    subst (λ (k : ℕ). suc (suc m) ≤ limit_at k (k ∷ c ∷ text)) zero_ (subst (λ (k : ℕ). suc (suc m) ≤ limit_at 48 (48 ∷ k ∷ text)) letter bound)

-- after `0` and a letter a decimal is at an end
decimal_short : (a c : ℕ) (text : List ℕ) → in_decimal c ≡ false → prefix_len in_decimal (a ∷ c ∷ text) ≤ 2
decimal_short a c text h = by_byte (in_decimal a) where
  by_byte : (t : Bool) → cond t (1 + cond (in_decimal c) (1 + prefix_len in_decimal text) 0) 0 ≤ 2
  by_byte true = subst (λ (u : Bool). 1 + cond u (1 + prefix_len in_decimal text) 0 ≤ 2) (sym h) (omega arith)
  by_byte false = omega arith

starts_short : (c : ℕ) (text : List ℕ) → in_decimal c ≡ false → starts_with nat_eq text (48 ∷ c ∷ []) ≡ true → prefix_len in_decimal text ≤ 2
starts_short c [] h s = omega arith
starts_short c (a ∷ []) h s = by_byte (in_decimal a) where
  by_byte : (t : Bool) → cond t (1 + 0) 0 ≤ 2
  by_byte true = omega arith
  by_byte false = omega arith
starts_short c (a ∷ d ∷ text) h s =
    let same : c ≡ d = eqb-true c d (and_parts (eqb c d) true (and_parts (eqb 48 a) (eqb c d && true) s).1).0 in
    decimal_short a d text (subst (λ (k : ℕ). in_decimal k ≡ false) same h)

decimal_within : (text : List ℕ) → prefix_len in_decimal text ≤ number_limit text
unfolding number_limit
decimal_within text = by_prefix (starts_with nat_eq text (codes "0x")) refl where
  by_binary : (t : Bool) → starts_with nat_eq text (codes "0b") ≡ t →
      prefix_len in_decimal text ≤ cond t (prefix_len in_binary (drop 2 text) + 2) (prefix_len in_decimal text)
  by_binary true s = omega (arith, starts_short 98 text refl s)
  by_binary false s = omega arith

  by_prefix : (t : Bool) → starts_with nat_eq text (codes "0x") ≡ t →
      prefix_len in_decimal text ≤ cond t (prefix_len in_hexadecimal (drop 2 text) + 2)
      (cond (starts_with nat_eq text (codes "0b")) (prefix_len in_binary (drop 2 text) + 2) (prefix_len in_decimal text))
  by_prefix true s = omega (arith, starts_short 120 text refl s)
  by_prefix false s = by_binary (starts_with nat_eq text (codes "0b")) refl

bound_decimal : (m : ℕ) (text : List ℕ) → m ≤ length text → is_ascii_digit (first (take m text)) ≡ true → list_all in_decimal (take m text) ≡ true →
    m ≤ limit_at (first text) text
bound_decimal zero text le d h = omega arith
bound_decimal (suc m) [] le d h = absurd (omega arith)
bound_decimal (suc m) (b ∷ text) le d h =
    subst (λ (k : ℕ). suc m ≤ k) (sym (limit_digit b (b ∷ text) d)) (omega (arith, run_bound in_decimal (b ∷ text) (suc m) le h, decimal_within (b ∷ text)))

directive_in_line : (b : ℕ) → in_directive b ≡ true → in_line b ≡ true
directive_in_line b h = grind (arith, nat_tests)

all_in_line : (text : List ℕ) → list_all in_directive text ≡ true → list_all in_line text ≡ true
all_in_line [] h = refl
all_in_line (b ∷ text) h =
    let both = and_parts (in_directive b) (list_all in_directive text) h in
    and_from (in_line b) (list_all in_line text) (directive_in_line b both.0) (all_in_line text both.1)

bound_directive : (m : ℕ) (text : List ℕ) → m ≤ length text → first (take m text) ≡ 36 → list_all in_directive (take m text) ≡ true →
    m ≤ limit_at (first text) text
bound_directive zero text le d h = omega arith
bound_directive (suc m) [] le d h = absurd (omega arith)
bound_directive (suc m) (b ∷ text) le d h =
    subst (λ (k : ℕ). suc m ≤ limit_at k (b ∷ text)) (sym d)
    (subst (λ (k : ℕ). suc m ≤ k) (sym (limit_dollar (b ∷ text))) (run_bound in_line (b ∷ text) (suc m) le (all_in_line (take (suc m) (b ∷ text)) h)))

-- ---- strings: of fewer bytes no more are inside

inside_cons : (p : Part) (xs ys : List Part) → size_of (inside xs) ≤ size_of (inside ys) → size_of (inside (p ∷ xs)) ≤ size_of (inside (p ∷ ys))
unfolding inside size_of
inside_cons p xs ys h = by_end (is_end p) where
  by_end : (t : Bool) → size_of (cond t [] (p ∷ inside xs)) ≤ size_of (cond t [] (p ∷ inside ys))
  by_end true = omega arith
  by_end false = omega arith

lone_small : (b : ℕ) → size_of (inside (Byte b ∷ [])) ≤ 1
unfolding inside size_of
lone_small b = by_end (is_end (Byte b)) where
  by_end : (t : Bool) → size_of (cond t [] (Byte b ∷ [])) ≤ 1
  by_end true = omega arith
  by_end false = omega arith

escape_large : (c : ℕ) (xs : List Part) → 1 ≤ size_of (inside (Escape c ∷ xs))
unfolding inside size_of
escape_large c xs = omega arith

none_small : (xs : List Part) → 0 ≤ size_of (inside xs)
none_small xs = omega arith

lone_by : (b c : ℕ) (text : List ℕ) (t : Bool) → size_of (inside (Byte b ∷ [])) ≤ size_of (inside (cond t (Escape c ∷ parts text) (Byte b ∷ parts (c ∷ text))))
unfolding inside size_of
lone_by b c text true = omega (arith, lone_small b, escape_large c (parts text))
lone_by b c text false = inside_cons (Byte b) [] (parts (c ∷ text)) (none_small (parts (c ∷ text)))

pair_by : (b c : ℕ) (less text : List ℕ) → size_of (inside (parts less)) ≤ size_of (inside (parts text)) →
    size_of (inside (parts (c ∷ less))) ≤ size_of (inside (parts (c ∷ text))) → (t : Bool) →
    size_of (inside (cond t (Escape c ∷ parts less) (Byte b ∷ parts (c ∷ less)))) ≤ size_of
    (inside (cond t (Escape c ∷ parts text) (Byte b ∷ parts (c ∷ text))))
pair_by b c less text h k true = inside_cons (Escape c) (parts less) (parts text) h
pair_by b c less text h k false = inside_cons (Byte b) (parts (c ∷ less)) (parts (c ∷ text)) k

take_inside : (text : List ℕ) (m : ℕ) → size_of (inside (parts (take m text))) ≤ size_of (inside (parts text))
unfolding parts inside size_of
take_inside [] zero = omega arith
take_inside [] (suc m) = omega arith
take_inside (b ∷ []) zero = none_small (parts (b ∷ []))
take_inside (b ∷ []) (suc zero) = omega arith
take_inside (b ∷ []) (suc (suc m)) = omega arith
take_inside (b ∷ c ∷ text) zero = none_small (parts (b ∷ c ∷ text))
take_inside (b ∷ c ∷ text) (suc zero) = lone_by b c text (eqb b 92)
take_inside (b ∷ c ∷ text) (suc (suc m)) = pair_by b c (take m text) text (take_inside text m) (take_inside (c ∷ text) (suc m)) (eqb b 92)

bound_string : (m : ℕ) (text : List ℕ) → m ≤ length text → is_string (take m text) ≡ true → m ≤ limit_at (first text) text
bound_string zero text le h = omega arith
bound_string (suc m) [] le h = absurd (omega arith)
bound_string (suc m) (b ∷ text) le h =
    let word = b ∷ take m text in
    let size = size_of (string_parts word) in
    let both = and_parts (first word == 34 && list_all is_good (string_parts word)) (first (drop (size + 1) word) == 34 && length word == size + 2) h in
    let quote = eqb-true b 34 (and_parts (first word == 34) (list_all is_good (string_parts word)) both.0).0 in
    let long = eqb-true (length word) (size + 2) (and_parts (first (drop (size + 1) word) == 34) (length word == size + 2) both.1).1 in
    let exact = length-take-le m text (omega arith) in
    subst (λ (k : ℕ). suc m ≤ limit_at k (b ∷ text)) (sym quote)
    (subst (λ (k : ℕ). suc m ≤ k) (sym (limit_quote (b ∷ text))) (omega (arith, long, exact, take_inside text m)))

-- ---- symbols

longer_left : (a b : Option (List ℕ × TokenKind)) → length_of a ≤ length_of (longer_of a b)
unfolding length_of
longer_left None b = omega arith
longer_left (Some a) None = omega arith
longer_left (Some a) (Some b) = by_length (nat_lt (length a.0) (length b.0)) refl where
  by_length : (t : Bool) → nat_lt (length a.0) (length b.0) ≡ t → length a.0 ≤ length_of (cond t (Some b) (Some a))
  by_length true e = omega (arith, ltb-true (length a.0) (length b.0) e)
  by_length false e = omega arith

longer_right : (a b : Option (List ℕ × TokenKind)) → length_of b ≤ length_of (longer_of a b)
unfolding length_of
longer_right None b = omega arith
longer_right (Some a) None = omega arith
longer_right (Some a) (Some b) = by_length (nat_lt (length a.0) (length b.0)) refl where
  by_length : (t : Bool) → nat_lt (length a.0) (length b.0) ≡ t → length b.0 ≤ length_of (cond t (Some b) (Some a))
  by_length true e = omega arith
  by_length false e = omega (arith, ltb-false (length a.0) (length b.0) e)

same_bytes : (xs : List ℕ) → pointwise nat_eq xs xs ≡ true
same_bytes [] = refl
same_bytes (x ∷ xs) = and_from (nat_eq x x) (pointwise nat_eq xs xs) (eq-eqb x x refl) (same_bytes xs)

begins_with : (e : List ℕ × TokenKind) (text : List ℕ) (m : ℕ) → m ≤ length text → e.0 ≡ take m text → starts_with nat_eq text e.0 ≡ true
begins_with e text m le h =
    let size : length e.0 ≡ m = ap length h ∙ length-take-le m text le in
    subst (λ (t : List ℕ). pointwise nat_eq e.0 t ≡ true) (h ∙ ap (λ k. take k text) (sym size)) (same_bytes e.0)

length_some : (e : List ℕ × TokenKind) → length_of (Some e) ≡ length e.0
unfolding length_of
length_some e = refl

stands_bound : (table : List (List ℕ × TokenKind)) (text word : List ℕ) (kind : TokenKind) (m : ℕ) → m ≤ length text → word ≡ take m text →
    StandsIn table word kind → m ≤ length_of (longest_in table text)
unfolding StandsIn
stands_bound [] text word kind m le h s = absurd s
stands_bound (e ∷ table) text word kind m le h (inl both) =
    let same = both.0 ∙ h in
    let found : if_begins e text ≡ Some e = ap (λ (t : Bool). cond t (Some e) None) (begins_with e text m le same) in
    let size : length e.0 ≡ m = ap length same ∙ length-take-le m text le in
    let left : length_of (Some e) ≤ length_of (longer_of (Some e) (longest_in table text)) = longer_left (Some e) (longest_in table text) in
    subst (λ (o : Option (List ℕ × TokenKind)). m ≤ length_of (longer_of o (longest_in table text))) (sym found) (omega (arith, length_some e, size, left))
stands_bound (e ∷ table) text word kind m le h (inr s) =
    omega (arith, stands_bound table text word kind m le h s, longer_right (if_begins e text) (longest_in table text))

-- bytes that begin a symbol begin nothing else
begins_symbol : ℕ → Bool
begins_symbol b = not (is_blank b) && (not (begins_name b) && (not (is_ascii_digit b) && (not (eqb b 39) && (not (eqb b 34) && not (eqb b 36)))))

pub stands_passes : (p : List ℕ × TokenKind → Bool) (table : List (List ℕ × TokenKind)) (word : List ℕ) (kind : TokenKind) →
    list_all p table ≡ true → StandsIn table word kind → (e : List ℕ × TokenKind) × (e.0 ≡ word) × (p e ≡ true)
unfolding StandsIn
stands_passes p [] word kind h s = absurd s
stands_passes p (e ∷ table) word kind h (inl both) = (e, both.0, (and_parts (p e) (list_all p table) h).0)
stands_passes p (e ∷ table) word kind h (inr s) = stands_passes p table word kind (and_parts (p e) (list_all p table) h).1 s

symbol_begins : (word : List ℕ) (kind : TokenKind) → StandsIn symbols word kind → begins_symbol (first word) ≡ true
unfolding symbols begins_symbol
symbol_begins word kind s =
    let found = stands_passes (λ e. begins_symbol (first e.0)) symbols word kind refl s in
    subst (λ (t : List ℕ). begins_symbol (first t) ≡ true) found.1 found.2

pub limit_other : (b : ℕ) (text : List ℕ) → is_blank b ≡ false → begins_name b ≡ false → is_ascii_digit b ≡ false → eqb b 39 ≡ false →
    eqb b 34 ≡ false → eqb b 36 ≡ false → limit_at b text ≡ length_of (longest_in symbols text)
unfolding limit_at
limit_other b text p q r s k l =
    choose_other (is_blank b) (begins_name b) (is_ascii_digit b) (eqb b 39) (eqb b 34) (eqb b 36) 0 (prefix_len in_name text) (number_limit text)
    (prefix_len in_name (drop 1 text) + 1) (size_of (string_parts text) + 2) (prefix_len in_line text) (length_of (longest_in symbols text)) p q r s k l

pub length_none : length_of None ≡ 0
unfolding length_of
length_none = refl

limit_symbol : (b : ℕ) (text : List ℕ) → begins_symbol b ≡ true → limit_at b text ≡ length_of (longest_in symbols text)
unfolding begins_symbol limit_at
limit_symbol b text h =
    let a1 = and_parts (not (is_blank b)) (not (begins_name b) && (not (is_ascii_digit b) && (not (eqb b 39) && (not (eqb b 34) && not (eqb b 36))))) h in
    let a2 = and_parts (not (begins_name b)) (not (is_ascii_digit b) && (not (eqb b 39) && (not (eqb b 34) && not (eqb b 36)))) a1.1 in
    let a3 = and_parts (not (is_ascii_digit b)) (not (eqb b 39) && (not (eqb b 34) && not (eqb b 36))) a2.1 in
    let a4 = and_parts (not (eqb b 39)) (not (eqb b 34) && not (eqb b 36)) a3.1 in
    let a5 = and_parts (not (eqb b 34)) (not (eqb b 36)) a4.1 in
    choose_other (is_blank b) (begins_name b) (is_ascii_digit b) (eqb b 39) (eqb b 34) (eqb b 36) 0 (prefix_len in_name text) (number_limit text)
    (prefix_len in_name (drop 1 text) + 1) (size_of (string_parts text) + 2) (prefix_len in_line text) (length_of (longest_in symbols text))
    (not-true (is_blank b) a1.0) (not-true (begins_name b) a2.0) (not-true (is_ascii_digit b) a3.0) (not-true (eqb b 39) a4.0)
    (not-true (eqb b 34) a5.0) (not-true (eqb b 36) a5.1)

bound_symbol : (m : ℕ) (text : List ℕ) (kind : TokenKind) → m ≤ length text → StandsIn symbols (take m text) kind → m ≤ limit_at (first text) text
bound_symbol zero text kind le s = omega arith
bound_symbol (suc m) [] kind le s = absurd (omega arith)
bound_symbol (suc m) (b ∷ text) kind le s =
    subst (λ (k : ℕ). suc m ≤ k) (sym (limit_symbol b (b ∷ text) (symbol_begins (take (suc m) (b ∷ text)) kind s)))
    (stands_bound symbols (b ∷ text) (take (suc m) (b ∷ text)) kind (suc m) le refl s)

-- any spelling that begins the text is within the limit
pub bound : (text word : List ℕ) (kind : TokenKind) (m : ℕ) → m ≤ length text → word ≡ take m text → IsSpelling kind word → m ≤ limit_at (first text) text
bound text word kind m le e (named h) = bound_name m text le (subst (λ (t : List ℕ). is_name t ≡ true) e h)
bound text word kind m le e (type_variable {text = rest} h) = bound_variable m text rest le h e
bound text word kind m le e (decimal d h) =
    bound_decimal m text le (subst (λ (t : List ℕ). is_ascii_digit (first t) ≡ true) e d) (subst (λ (t : List ℕ). list_all in_decimal t ≡ true) e h)
bound text word kind m le e (hexadecimal {text = rest} h some) = bound_hexadecimal m text rest le h e
bound text word kind m le e (binary {text = rest} h some) = bound_binary m text rest le h e
bound text word kind m le e (string h) = bound_string m text le (subst (λ (t : List ℕ). is_string t ≡ true) e h)
bound text word kind m le e (directive d h i) =
    bound_directive m text le (subst (λ (t : List ℕ). first t ≡ 36) e d) (subst (λ (t : List ℕ). list_all in_directive t ≡ true) e h)
bound text word kind m le e (symbol s) = bound_symbol m text kind le (subst (λ (t : List ℕ). StandsIn symbols t kind) e s)

-- ---- a token has as many bytes as the limit

-- a token is spelled so, and has as many bytes as this
Fits : ℕ → Front → Type 0
Fits limit (Token kind n) = limit ≡ n
Fits limit (Skip n) = Unit {0}
Fits limit Comment = Unit {0}
Fits limit (Refused f n) = Unit {0}

fits_name : (text : List ℕ) → Fits (prefix_len in_name text) (name_front text)
unfolding name_front Fits
fits_name text =
    elim (nat_lt 255 (prefix_len in_name text)) as
    (λ t. Fits (prefix_len in_name text)
    (cond t (Refused BadLiteral 0) (Token (kind_of_name (take (prefix_len in_name text) text)) (prefix_len in_name text)))) [ true ↦ tt | false ↦ refl ]

two_tests : (s t : Bool) (f g : Fault) (kind : TokenKind) (n : ℕ) → Fits n (cond s (Refused f 0) (cond t (Refused g 0) (Token kind n)))
unfolding Fits
two_tests true t f g kind n = tt
two_tests false true f g kind n = tt
two_tests false false f g kind n = refl

string_tests : (s t : Bool) (f g : Fault) (kind : TokenKind) (n : ℕ) → Fits n (cond s (Refused f 0) (cond t (Token kind n) (Refused g 0)))
unfolding Fits
string_tests true t f g kind n = tt
string_tests false true f g kind n = refl
string_tests false false f g kind n = tt

directive_tests : (s t : Bool) (f : Fault) (i : ℕ) (kind : TokenKind) (n : ℕ) → Fits n (cond s (Refused f i) (cond t (Skip n) (Token kind n)))
unfolding Fits
directive_tests true t f i kind n = tt
directive_tests false true f i kind n = tt
directive_tests false false f i kind n = refl

fits_bits : (radix : Radix) (text : List ℕ) → Fits (prefix_len (in_digits_of radix) (drop 2 text) + 2) (bits_front radix text)
unfolding bits_front
fits_bits radix text = two_tests _ _ BadLiteral NumberTooLarge (kind_of_bits radix) (prefix_len (in_digits_of radix) (drop 2 text) + 2)

fits_decimal : (text : List ℕ) → Fits (prefix_len in_decimal text) (decimal_front text)
unfolding decimal_front
fits_decimal text = two_tests _ _ BadLiteral NumberTooLarge Decimal (prefix_len in_decimal text)

fits_number : (text : List ℕ) → Fits (number_limit text) (number_front text)
unfolding number_front number_limit
fits_number text = by_prefix (starts_with nat_eq text (codes "0x")) (starts_with nat_eq text (codes "0b")) where
  by_prefix : (s t : Bool) →
      Fits (cond s (prefix_len in_hexadecimal (drop 2 text) + 2) (cond t (prefix_len in_binary (drop 2 text) + 2) (prefix_len in_decimal text)))
      (cond s (bits_front Base16 text) (cond t (bits_front Base2 text) (decimal_front text)))
  by_prefix true t = fits_bits Base16 text
  by_prefix false true = fits_bits Base2 text
  by_prefix false false = fits_decimal text

fits_variable : (text : List ℕ) → Fits (prefix_len in_name (drop 1 text) + 1) (type_variable_front text)
unfolding type_variable_front
fits_variable text = two_tests _ _ (BadByte (first text)) BadLiteral TypeVariable (prefix_len in_name (drop 1 text) + 1)

fits_string : (text : List ℕ) → Fits (size_of (string_parts text) + 2) (string_front text)
unfolding string_front
fits_string text = string_tests _ _ BadLiteral Unclosed StringLiteral (size_of (string_parts text) + 2)

fits_directive : (text : List ℕ) → Fits (prefix_len in_line text) (directive_front text)
unfolding directive_front
fits_directive text = directive_tests _ _ _ _ LeftOut (prefix_len in_line text)

fits_found : (text : List ℕ) (found : Option (List ℕ × TokenKind)) → Fits (length_of found) (front_of_symbol text found)
unfolding length_of Fits
fits_found text None = tt
fits_found text (Some e) = refl

fits_other : (text : List ℕ) → Fits (length_of (longest_in symbols text)) (other_front text)
unfolding other_front symbol_front Fits
fits_other text = by_test (starts_with nat_eq text (codes "//")) (starts_with nat_eq text (codes "/*")) where
  by_test : (s t : Bool) →
      Fits (length_of (longest_in symbols text)) (cond s (Skip (prefix_len in_line text)) (cond t Comment (front_of_symbol text (longest_in symbols text))))
  by_test true t = tt
  by_test false true = tt
  by_test false false = fits_found text (longest_in symbols text)

fits : (text : List ℕ) → Fits (limit_at (first text) text) (front text)
unfolding limit_at choose front Fits
fits text = by_byte (is_blank (first text)) (begins_name (first text)) (is_ascii_digit (first text)) (eqb (first text) 39) (eqb (first text) 34)
    (eqb (first text) 36) where
      by_byte : (t u v w x y : Bool) →
          Fits (choose t u v w x y 0 (prefix_len in_name text) (number_limit text) (prefix_len in_name (drop 1 text) + 1)
          (size_of (string_parts text) + 2) (prefix_len in_line text) (length_of (longest_in symbols text)))
          (choose t u v w x y (Skip (prefix_len is_blank text)) (name_front text) (number_front text) (type_variable_front text) (string_front text)
          (directive_front text) (other_front text))
      by_byte true u v w x y = tt
      by_byte false true v w x y = fits_name text
      by_byte false false true w x y = fits_number text
      by_byte false false false true x y = fits_variable text
      by_byte false false false false true y = fits_string text
      by_byte false false false false false true = fits_directive text
      by_byte false false false false false false = fits_other text

-- no more bytes than those of the token are a spelling
pub longest_of : (text : List ℕ) (kind : TokenKind) (n : ℕ) → front text ≡ Token kind n → (other : TokenKind) (m : ℕ) → m ≤ length text →
    IsSpelling other (take m text) → m ≤ n
unfolding Fits
longest_of text kind n h other m le s =
    let same : limit_at (first text) text ≡ n = subst (Fits (limit_at (first text) text)) h (fits text) in
    omega (arith, bound text (take m text) other m le refl s, same)
