use Rattle.std.proofs.Common.{◌++◌, ◌∷◌, [], ◌∙◌, ap, append_assoc, arith}
use Rattle.sail_types.proofs.Digits.{digits_more}
use Rattle.sail_types.proofs.value_texts.push_digits.Goals as goal

pub loop-left-preserved : goal.loop-left-preserved
loop-left-preserved c =
    let old = c.args.out.now.items in
    record {
      within = omega arith;
      so_far = c.in_ok-push.ensures.items
          ∙ (λ i. c.loop-left.invariant.so_far i ++ c.digit_at.ensures i ∷ [])
          ∙ append_assoc old _ _
          ∙ ap (λ t. old ++ t) (digits_more c.args.bits_each c.loop-left.left c.args.count c.args.word c.loop-left-test.true c.loop-left.invariant.within);
    }
