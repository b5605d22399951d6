-- The place of the next byte.
use Rattle.std.proofs.Common.{◌≡◌, ℕ, ◌+◌, ◌<◌, ◌≤◌, true, false, eqb, List, [], ◌∷◌, length, get_or, take, reverse, refl, ap, ◌∙◌, arith, length-take}
use Rattle.std.proofs.lemmas.List.{take_more, reverse-append, length-reverse}
use Rattle.std.proofs.lemmas.List.Sums.{count_by_more_yes, count_by_more_no, count_by-le-length, prefix_len-le-length}
use Rattle.sail_lex.specs.Bytes.{in_line}
use Rattle.sail_lex.specs.Position.{line_at, column_at}

module _ (source : List ℕ) (i : ℕ) where
  pub line_small : line_at source i ≤ i + 1
  unfolding line_at
  line_small = omega (arith, count_by-le-length (λ b. eqb b 10) (take i source), length-take i source)

  pub column_small : column_at source i ≤ i + 1
  unfolding column_at
  column_small = omega (arith, prefix_len-le-length in_line (reverse (take i source)), length-reverse (take i source), length-take i source)

  pub line_feed : i < length source → eqb (get_or source i 0) 10 ≡ true → line_at source (i + 1) ≡ line_at source i + 1
  unfolding line_at
  line_feed h e = ap (λ n. n + 1) (count_by_more_yes (λ b. eqb b 10) source i 0 h e)

  pub line_same : i < length source → eqb (get_or source i 0) 10 ≡ false → line_at source (i + 1) ≡ line_at source i
  unfolding line_at
  line_same h e = ap (λ n. n + 1) (count_by_more_no (λ b. eqb b 10) source i 0 h e)

  -- the bytes before the next one, from the last
  back : i < length source → reverse (take (i + 1) source) ≡ get_or source i 0 ∷ reverse (take i source)
  back h = ap reverse (take_more source i 0 h) ∙ reverse-append (take i source) (get_or source i 0 ∷ [])

  pub column_first : i < length source → eqb (get_or source i 0) 10 ≡ true → column_at source (i + 1) ≡ 1
  unfolding column_at
  column_first h e = rw (back h, e) refl

  pub column_next : i < length source → eqb (get_or source i 0) 10 ≡ false → column_at source (i + 1) ≡ column_at source i + 1
  unfolding column_at
  column_next h e = rw (back h, e) (omega arith)

-- the line and the column of the next byte
pub ruleset next_byte = (line_small, column_small, line_feed, line_same, column_first, column_next)
