use Rattle.std.proofs.Common.{◌≡◌, ℕ, ◌+◌, ◌*◌, ◌%◌, List, ◌++◌, ap, sym, ◌∙◌, arith, append-nil}
use Rattle.sail_gen.specs.Draws.{next, state_after, draw}
use Rattle.sail_gen.specs.Model.{function_text, drawn_function}
use Rattle.sail_gen.proofs.Drawn.{numbers-more, after-one, after-two, after-none}
use Rattle.sail_gen.proofs.model.push_functions.Goals as goal

pub loop-number-init : goal.loop-number-init
loop-number-init c = record {
  text = sym (append-nil c.args.out.now.items);
  state = after-none c.args.draws.now.state;
  below = c.requires.state;
}

pub loop-number-preserved : goal.loop-number-preserved
loop-number-preserved c =
    let seed = c.args.draws.now.state in
    let number = c.loop-number.number in
    let out = c.loop-number.out.items in
    let so_far = c.loop-number.invariant in
    let operator : c.draw-operator.result ≡ draw seed (2 * number) 4 =
    c.draw-operator.ensures.drawn ∙ ap (λ (s : ℕ). next s % 4) so_far.state in
    let once : c.draw-operator.new.self.state ≡ next (state_after seed (2 * number)) = c.draw-operator.ensures.state ∙ ap next so_far.state in
    let constant : c.draw-constant.result ≡ draw seed (2 * number + 1) 256 =
    c.draw-constant.ensures.drawn ∙ ap (λ (s : ℕ). next s % 256) (once ∙ after-one seed (2 * number)) in
    let text : out ++ function_text number c.draw-operator.result c.draw-constant.result ≡ out ++ drawn_function seed number =
    λ i. out ++ function_text number (operator i) (constant i) in
    record {
      text =
          c.in_ok-push_function.ensures ∙ text ∙ ap (λ (front : List ℕ). front ++ drawn_function seed number) so_far.text
          ∙ numbers-more (drawn_function seed) c.args.out.now.items number;
      state = c.draw-constant.ensures.state ∙ ap next once ∙ after-two seed number;
      below = omega (arith, c.draw-constant.ensures.state);
    }
