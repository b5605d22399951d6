use Rattle.std.proofs.Common.{ℕ, ◌+◌, ◌*◌, ◌^◌, ◌<◌, take, drop, sym, ap, ◌∙◌, subst, arith}
use Rattle.sail_base.specs.Bits.{bits_of}
use Rattle.std.specs.Prelude.{count_by}
use Rattle.std.proofs.lemmas.List.{take_all}
use Rattle.std.proofs.lemmas.List.Sums.{count_by_more_yes, count_by_more_no}
use Rattle.sail_lex.specs.Literal.{value_from, is_digit_of, base_of, digit_size}
use Rattle.sail_lex.proofs.Values.{value_digit, value_other, value_end, one_more}
use Rattle.sail_lex.proofs.value.digits_word.Goals as goal
use Rattle.sail_lex.proofs.value.digits_word.Goals.{then-is_digit_of+else-width-digit_size-gt128, else-is_digit_of}

pub loop-byte-preserved : goal.loop-byte-preserved
loop-byte-preserved c =
    let p = is_digit_of c.args.radix in
    let base = base_of c.args.radix in
    let text = c.args.text.now in
    let i = c.loop-byte.byte-index in
    elim c.if-is_digit_of.branch [
      | then-is_digit_of+else-width-digit_size-gt128 w ↦
          let digit = sym c.is_digit_of.ensures ∙ w.if-is_digit_of.true in
          let size = w.digit_size-width.ensures.size in
          record {
            narrow = omega (arith, w.width-is, size, w.digit_size.ensures.size, w.if-width-digit_size-gt128.false);
            below =
                subst (λ (v : ℕ). v < 2 ^ c.if-is_digit_of.width) (sym w.value-is)
                (subst (λ (k : ℕ). w.with_digit-value.result < 2 ^ k)
                (sym (w.width-is ∙ ap (λ s. c.loop-byte.width + s) size)) w.with_digit-value.ensures.below);
            width =
                w.width-is ∙ ((λ j. c.loop-byte.invariant.width j + size j)
                ∙ (one_more (digit_size c.args.radix) (count_by p (take i text)) ∙
                ap (λ n. digit_size c.args.radix * n) (sym (count_by_more_yes p text i 0 c.loop-byte-test.true digit))));
            same =
                ap (λ v. value_from p base v (drop (i + 1) text)) (w.value-is ∙ w.with_digit-value.ensures.value)
                ∙ (sym (value_digit p base c.loop-byte.value text i c.loop-byte-test.true digit) ∙ c.loop-byte.invariant.same);
          }
      | else-is_digit_of w ↦
          let other = sym c.is_digit_of.ensures ∙ w.if-is_digit_of.false in
          record {
            narrow = omega (arith, w.width-is, c.loop-byte.invariant.narrow);
            below =
                subst (λ (v : ℕ). v < 2 ^ c.if-is_digit_of.width) (sym w.value-is)
                (subst (λ (k : ℕ). c.loop-byte.value < 2 ^ k) (sym w.width-is) c.loop-byte.invariant.below);
            width = w.width-is ∙
                (c.loop-byte.invariant.width ∙ ap (λ n. digit_size c.args.radix * n) (sym (count_by_more_no p text i 0 c.loop-byte-test.true other)));
            same = ap (λ v. value_from p base v (drop (i + 1) text)) w.value-is ∙
                (sym (value_other p base c.loop-byte.value text i c.loop-byte-test.true other) ∙ c.loop-byte.invariant.same);
          }
    ]

pub returns-clause-some : goal.returns-clause-some
returns-clause-some c =
    let p = is_digit_of c.args.radix in
    let text = c.args.text.now in
    let all = c.loop-byte.invariant.width ∙ ap (λ t. digit_size c.args.radix * count_by p t) (take_all c.loop-byte.byte-index text c.loop-byte-test.false) in
    let value = sym (value_end p (base_of c.args.radix) c.loop-byte.value text c.loop-byte.byte-index c.loop-byte-test.false) ∙ c.loop-byte.invariant.same in
    c.new.ensures ∙ (λ j. bits_of (all j) (value j))
