use Rattle.std.proofs.Common.{◌≡◌, ◌∙◌, ◌∷◌, ◌++◌, ap, sym}
use Rattle.std.proofs.lemmas.Result.{on_ok_weaker}
use Rattle.lowered_steps.proofs.Lists.{head_of, none_of, others}
use Rattle.lowered_typed.proofs.Pushed.{none, pushed}
use Rattle.jib_lower.specs.Order.{made_in}
use Rattle.jib_lower.proofs.order.+push_made.Goals as goal

pub returns-in-empty : goal.returns-in-empty
returns-in-empty t c =
    none c.args.made.now (made_in c.args.direction c.args.turned.now) (ap (made_in c.args.direction) (none_of c.args.turned.now c.in-empty.len_below))

pub returns-in_ok-push-in-Some : goal.returns-in_ok-push-in-Some
returns-in_ok-push-in-Some t c =
    on_ok_weaker c.push_made.result
    (λ (e : c.push_made.new.made ≡ c.push.new.self ++ made_in c.in_ok-next-in-len1-up.next (others c.args.turned.now)).
    pushed c.args.made.now c.push.new.self c.push_made.new.made (made_in c.in_ok-next-in-len1-up.next (others c.args.turned.now))
    (made_in c.args.direction c.args.turned.now) c.args.direction c.in_ok-push-in-Some.ensures.pushed e
    (ap (made_in c.args.direction) (head_of c.args.turned.now _ c.in-len1-up.len_at_least ∙ ap (λ x. x ∷ others c.args.turned.now) c.in-Some.is)
    ∙ ap (λ n. c.args.direction ∷ made_in n (others c.args.turned.now)) (sym c.in_ok-next-in-len1-up.ensures)))
    c.push_made.ensures

pub returns-in-None : goal.returns-in-None
returns-in-None t c =
    on_ok_weaker c.push_made-in-None.result
    (λ (e : c.push_made-in-None.new.made ≡ c.args.made.now ++ made_in c.in_ok-next-in-len1-up.next (others c.args.turned.now)).
    e ∙ ap (λ ds. c.args.made.now ++ ds)
    (ap (λ n. made_in n (others c.args.turned.now)) c.in_ok-next-in-len1-up.ensures
    ∙ sym (ap (made_in c.args.direction) (head_of c.args.turned.now _ c.in-len1-up.len_at_least ∙ ap (λ x. x ∷ others c.args.turned.now) c.in-None.is))))
    c.push_made-in-None.ensures
