use Rattle.std.proofs.Common.{◌≡◌, ◌∙◌, ◌+◌, ◌++◌, ℕ, suc, ap, arith}
use Rattle.std.proofs.lemmas.Result.{on_ok_weaker}
use Rattle.jib.specs.declared.code.Source.TheVariants as R
use Rattle.lowered_steps.proofs.Lists.{head_of, none_of, others}
use Rattle.lowered_validity.specs.Typing.{operands}
use Rattle.lowered_typed.proofs.Pushed.{none, pushed}
use Rattle.lowered_typed.proofs.works.+push_operands.Goals as goal

next : (a n : ℕ) → a ≡ n + 1 → a ≡ suc n
next a n e = omega (arith, e)

pub returns-in-empty : goal.returns-in-empty
returns-in-empty t c =
    none c.args.sources.now (operands c.args.slot c.args.numbers.now)
    (ap (λ us. operands c.args.slot us) (none_of c.args.numbers.now c.in-empty.len_below))

pub returns-in_ok-next-in-len1-up : goal.returns-in_ok-next-in-len1-up
returns-in_ok-next-in-len1-up t c =
    on_ok_weaker c.push_operands.result
    (λ (e : c.push_operands.new.sources ≡ c.push.new.self ++ operands c.in_ok-next-in-len1-up.next (others c.args.numbers.now)).
    pushed c.args.sources.now c.push.new.self c.push_operands.new.sources (operands (suc c.args.slot) (others c.args.numbers.now))
    (operands c.args.slot c.args.numbers.now) (R.Slot c.args.slot) c.in_ok-push-in-len1-up.ensures.pushed
    (e ∙ ap (λ k. c.push.new.self ++ operands k (others c.args.numbers.now))
    (next c.in_ok-next-in-len1-up.next c.args.slot c.in_ok-next-in-len1-up.ensures))
    (ap (λ us. operands c.args.slot us) (head_of c.args.numbers.now 0 c.in-len1-up.len_at_least)))
    c.push_operands.ensures
