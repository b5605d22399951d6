-- The parts of a string at a place in its text.
use Rattle.std.proofs.Common.{◌≡◌, ℕ, ◌+◌, ◌<◌, ◌≤◌, Bool, true, false, eqb, List, [], ◌∷◌, length, get_or, drop, sym, refl, ap, ◌∙◌, arith, inl, inr}
use Rattle.std.proofs.Common.{◌⊎◌, eqb-true}
use Rattle.std.proofs.lemmas.List.{drop_more, drop_all}
use Rattle.std.specs.Prelude.{◌&&◌, not}
use Rattle.std.specs.List.{list_all}
use Rattle.std.proofs.Common.{map, ◌||◌}
use Rattle.std.proofs.lemmas.Bool.{or_cases}
use Rattle.sail_lex.specs.Bytes.{is_printable}
use Rattle.sail_lex.specs.Literal.{Escape, Byte, parts, inside, is_good, size_of, byte_of}

-- a byte that is no `\` is a part
parts_byte : (b : ℕ) (text : List ℕ) → eqb b 92 ≡ false → parts (b ∷ text) ≡ Byte b ∷ parts text
unfolding parts
parts_byte b [] h = refl
parts_byte b (c ∷ text) h = rw h

parts_escape : (c : ℕ) (text : List ℕ) → parts (92 ∷ c ∷ text) ≡ Escape c ∷ parts text
unfolding parts
parts_escape c text = refl

both_true : (a b c : Bool) → a ≡ true → b ≡ false → ((a && not b) && c) ≡ c
both_true a b c h k = rw (h, k) refl

module _ (text : List ℕ) (i : ℕ) where
  -- a quote or a line feed ends what is inside
  pub inside_stop : i < length text → (eqb (get_or text i 0) 34 ≡ true) ⊎ (eqb (get_or text i 0) 10 ≡ true) → inside (parts (drop i text)) ≡ []
  unfolding inside
  inside_stop h (inl quote) =
      let b : get_or text i 0 ≡ 34 = eqb-true (get_or text i 0) 34 quote in
      rw (drop_more text i 0 h, b, parts_byte 34 (drop (i + 1) text) refl) refl
  inside_stop h (inr feed) =
      let b : get_or text i 0 ≡ 10 = eqb-true (get_or text i 0) 10 feed in
      rw (drop_more text i 0 h, b, parts_byte 10 (drop (i + 1) text) refl) refl

  pub inside_none : length text ≤ i → inside (parts (drop i text)) ≡ []
  unfolding parts inside
  inside_none h = rw (drop_all i text h) refl

  pub inside_byte : i < length text → eqb (get_or text i 0) 92 ≡ false → eqb (get_or text i 0) 34 ≡ false → eqb (get_or text i 0) 10 ≡ false →
      inside (parts (drop i text)) ≡ Byte (get_or text i 0) ∷ inside (parts (drop (i + 1) text))
  unfolding inside
  inside_byte h backslash quote feed = rw (drop_more text i 0 h, parts_byte (get_or text i 0) (drop (i + 1) text) backslash, quote, feed) refl

  pub inside_escape : i + 1 < length text → get_or text i 0 ≡ 92 →
      inside (parts (drop i text)) ≡ Escape (get_or text (i + 1) 0) ∷ inside (parts (drop (i + 2) text))
  unfolding inside
  inside_escape h e =
      rw (drop_more text i 0 (omega arith), e, drop_more text (i + 1) 0 h, parts_escape (get_or text (i + 1) 0) (drop (i + 1 + 1) text))
      (ap (λ k. Escape (get_or text (i + 1) 0) ∷ inside (parts (drop k text))) (omega arith))

  pub inside_lone : i + 1 ≡ length text → get_or text i 0 ≡ 92 → inside (parts (drop i text)) ≡ Byte 92 ∷ []
  unfolding parts inside
  inside_lone h e = rw (drop_more text i 0 (omega arith), drop_all (i + 1) text (omega arith), e) refl

  -- a good byte is passed over
  pub good_byte : i < length text → eqb (get_or text i 0) 92 ≡ false → eqb (get_or text i 0) 34 ≡ false → eqb (get_or text i 0) 10 ≡ false →
      is_printable (get_or text i 0) ≡ true → list_all is_good (inside (parts (drop (i + 1) text))) ≡ list_all is_good (inside (parts (drop i text)))
  good_byte h backslash quote feed good =
      sym (ap (list_all is_good) (inside_byte h backslash quote feed) ∙
      both_true (is_printable (get_or text i 0)) (eqb (get_or text i 0) 92) (list_all is_good (inside (parts (drop (i + 1) text)))) good backslash)

  pub size_byte : i < length text → eqb (get_or text i 0) 92 ≡ false → eqb (get_or text i 0) 34 ≡ false → eqb (get_or text i 0) 10 ≡ false →
      size_of (inside (parts (drop i text))) ≡ 1 + size_of (inside (parts (drop (i + 1) text)))
  unfolding size_of
  size_byte h backslash quote feed = ap size_of (inside_byte h backslash quote feed)

  -- what a part stands for comes before what the parts behind it stand for
  pub value_escape : i + 1 < length text → get_or text i 0 ≡ 92 →
      map byte_of (inside (parts (drop i text))) ≡ byte_of (Escape (get_or text (i + 1) 0)) ∷ map byte_of (inside (parts (drop (i + 2) text)))
  value_escape h e = ap (map byte_of) (inside_escape h e)

  pub value_byte : i < length text → eqb (get_or text i 0) 92 ≡ false → eqb (get_or text i 0) 34 ≡ false → eqb (get_or text i 0) 10 ≡ false →
      map byte_of (inside (parts (drop i text))) ≡ get_or text i 0 ∷ map byte_of (inside (parts (drop (i + 1) text)))
  value_byte h backslash quote feed = ap (map byte_of) (inside_byte h backslash quote feed)

  pub value_stop : i < length text → (eqb (get_or text i 0) 34 || eqb (get_or text i 0) 10) ≡ true → map byte_of (inside (parts (drop i text))) ≡ []
  value_stop h e = ap (map byte_of) (inside_stop h (or_cases (eqb (get_or text i 0) 34) (eqb (get_or text i 0) 10) e))

  pub value_none : length text ≤ i → map byte_of (inside (parts (drop i text))) ≡ []
  value_none h = ap (map byte_of) (inside_none h)

-- a `\` at the end stands for itself
pub value_lone : (text : List ℕ) (i : ℕ) → i + 1 ≡ length text → get_or text i 0 ≡ 92 →
    map byte_of (inside (parts (drop i text))) ≡ 92 ∷ map byte_of (inside (parts (drop (i + 1) text)))
value_lone text i h e = ap (map byte_of) (inside_lone text i h e) ∙ ap (λ t. 92 ∷ t) (sym (value_none text (i + 1) (omega arith)))

-- what is inside a string from the next part on
pub ruleset inside_next = (inside_stop, inside_none, inside_byte, inside_escape, inside_lone)
