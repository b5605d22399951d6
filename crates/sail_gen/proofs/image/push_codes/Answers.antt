use Rattle.std.proofs.Common.{◌≡◌, ℕ, ◌++◌, ◌%◌, ap, sym, ◌∙◌, arith, append-nil}
use Rattle.sail_gen.specs.Draws.{next, draw}
use Rattle.sail_gen.specs.Image.{half}
use Rattle.sail_gen.proofs.Drawn.{numbers-more, after-one, after-nothing}
use Rattle.sail_gen.proofs.image.push_codes.Goals as goal

pub loop-number-init : goal.loop-number-init
loop-number-init c = record {
  text = sym (append-nil c.args.out.now.items);
  state = after-nothing c.args.draws.now.state;
  below = c.requires.state;
}

pub loop-number-preserved : goal.loop-number-preserved
loop-number-preserved c =
    let state = c.args.draws.now.state in
    let size = c.args.size in
    let number = c.loop-number._number in
    let out = c.loop-number.out.items in
    let so_far = c.loop-number.invariant in
    let drawn : c.draw-code.result ≡ draw state number size = c.draw-code.ensures.drawn ∙ ap (λ (s : ℕ). next s % size) so_far.state in
    record {
      text =
          c.in_ok-push_code.ensures ∙ ap (λ code. out ++ half code) drawn ∙ ap (λ text. text ++ half (draw state number size)) so_far.text
          ∙ numbers-more (λ k. half (draw state k size)) c.args.out.now.items number;
      state = c.draw-code.ensures.state ∙ ap next so_far.state ∙ after-one state number;
      below = omega (arith, c.draw-code.ensures.state);
    }
