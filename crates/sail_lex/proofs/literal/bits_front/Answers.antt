use Rattle.std.proofs.Common.{◌≡◌, ℕ, ◌+◌, ◌*◌, ◌≤◌, take, drop, sym, ap, ◌∙◌, subst, arith, ltb-false, length, length-drop}
use Rattle.std.specs.Prelude.{count_by}
use Rattle.sail_lex.specs.declared.kind.TokenKind.{TokenKind}
use Rattle.sail_lex.specs.Literal.{digit_size, is_digit_of}
use Rattle.sail_lex.specs.Valued.{IsValued}
use Rattle.sail_lex.proofs.Prefixes.{bits_valued}
use Rattle.sail_lex.proofs.literal.bits_front.Goals as goal

-- the literal has its prefix, and no more than 128 bits
pub returns-clause-reaches : goal.returns-clause-reaches
returns-clause-reaches c =
    let radix = c.args.radix in
    let text = c.args.text.now in
    let n = c.run_length-length.result in
    let digits : c.digit_count-digits.result ≡ count_by (is_digit_of radix) (take n (drop 2 text)) =
    c.digit_count-digits.ensures.count ∙ ap (count_by (is_digit_of radix)) (c.leading.ensures ∙ ap (take n) c.rest_of-rest.ensures) in
    let small : digit_size radix * c.digit_count-digits.result ≤ 128 =
    ltb-false 128 (digit_size radix * c.digit_count-digits.result) (sym c.is_too_wide.ensures ∙ c.if-is_too_wide.false) in (
      omega arith,
      omega (arith, c.run_length-length.ensures.within, ap length c.rest_of-rest.ensures, length-drop 2 text),
      subst (λ (k : TokenKind). IsValued k (take (n + 2) text)) (sym c.bits_kind.ensures)
          (bits_valued radix text n c.requires.prefix c.requires.long (subst (λ (d : ℕ). digit_size radix * d ≤ 128) digits small)),
    )
