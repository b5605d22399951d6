use Rattle.std.proofs.Common.{◌≡◌, length, sym, subst, arith}
use Rattle.value_indices.specs.Force.{IsInForce}
use Rattle.value_indices.specs.Walking.{step_read}
use Rattle.value_indices.proofs.Forced.{assumed_step, marked_step, claimed_step}
use Rattle.value_indices.proofs.notes.Step.read.Goals as goal

pub returns-in_ok-push-in-Assumes : goal.returns-in_ok-push-in-Assumes
returns-in_ok-push-in-Assumes c = λ w h. assumed_step w _ _ _ c.args.self c.in-Assumes.fact c.in-Assumes.is c.in_ok-push-in-Assumes.ensures.items h

pub returns-in_ok-push-in-Remembers : goal.returns-in_ok-push-in-Remembers
returns-in_ok-push-in-Remembers c =
    let count : c.len.result ≡ length c.args.facts.now.items = omega arith in
    λ w h. marked_step w _ _ _ c.args.self c.len.result c.in-Remembers.is count c.in_ok-push-in-Remembers.ensures.pushed h

pub returns-in-Restores : goal.returns-in-Restores
returns-in-Restores c =
    λ w h. subst (λ s. IsInForce (step_read w s) c.restore.new.facts.items c.restore.new.marks) (sym c.in-Restores.is) (c.restore.ensures w h)

pub returns-in-Forgets : goal.returns-in-Forgets
returns-in-Forgets c =
    λ w h. subst (λ s. IsInForce (step_read w s) c.args.facts.now.items c.forget.new.marks) (sym c.in-Forgets.is) (c.forget.ensures w c.args.facts.now.items h)

pub returns-in_ok-push-in-Claims-2 : goal.returns-in_ok-push-in-Claims-2
returns-in_ok-push-in-Claims-2 c =
    let count : c.len-in-Claims.result ≡ length c.args.facts.now.items = omega arith in
    λ w h. claimed_step w _ _ _ _ c.args.self c.len-in-Claims.result c.in-Claims.con c.in-Claims.is count c.in_ok-push-in-Claims.ensures.pushed
    c.in_ok-push-in-Claims-2.ensures.items h

pub returns-in-Unclaims : goal.returns-in-Unclaims
returns-in-Unclaims c =
    λ w h. subst (λ s. IsInForce (step_read w s) c.unclaim.new.facts.items c.unclaim.new.marks) (sym c.in-Unclaims.is) (c.unclaim.ensures w h)
