use Rattle.std.proofs.Common.{◌∙◌, ◌+◌, ◌++◌, ◌∷◌, [], ap, refl}
use Rattle.jib_lower.proofs.openings.push_opening.Goals as goal

pub returns : goal.returns
returns c = record {
  functions = c.in_ok-push-3.ensures.pushed;
  types = c.in_ok-push.ensures.pushed;
  names = refl;
  openings = c.in_ok-push-2.ensures.pushed
      ∙ ap (λ n. c.args.opened.now.openings ++ record { function = n; register = c.args.register } ∷ [])
      (c.in_ok-number.ensures ∙ ap (λ k. c.args.opened.now.before + k) (c.in_ok-place.ensures ∙ c.len-count.ensures));
  before = refl;
}
