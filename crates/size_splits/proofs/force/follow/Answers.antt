use Rattle.std.proofs.Common.{◌≡◌, ◌∙◌, ◌++◌, ◌∷◌, [], ap, length, sym, subst, arith}
use Rattle.value_indices.specs.Force.{IsInForce}
use Rattle.value_indices.specs.Walking.{step_read}
use Rattle.value_indices.specs.declared.notes.Fact.{Fact}
use Rattle.value_indices.specs.declared.notes.Fact.TheVariants as Y
use Rattle.value_indices.proofs.Forced.{assumed_step, marked_step, claimed_step}
use Rattle.size_splits.proofs.force.follow.Goals as goal

pub returns-in_ok-push-in-Assumes : goal.returns-in_ok-push-in-Assumes
returns-in_ok-push-in-Assumes c =
    let facts = c.args.facts.now.items in
    let put : c.push.new.self.items ≡ facts ++ c.in-Assumes.fact ∷ [] =
    c.in_ok-push-in-Assumes.ensures.items ∙ ap (λ (f : Fact). facts ++ f ∷ []) c.in_ok-copy_fact-in-Assumes.ensures in
    λ w h. assumed_step w facts c.push.new.self.items c.args.marks.now c.args.step.now c.in-Assumes.fact c.in-Assumes.is put h

pub returns-in_ok-push-in-Remembers : goal.returns-in_ok-push-in-Remembers
returns-in_ok-push-in-Remembers c =
    let count : c.len.result ≡ length c.args.facts.now.items = omega arith in
    λ w h. marked_step w _ _ _ c.args.step.now c.len.result c.in-Remembers.is count c.in_ok-push-in-Remembers.ensures.pushed h

pub returns-in-Restores : goal.returns-in-Restores
returns-in-Restores c =
    λ w h. subst (λ s. IsInForce (step_read w s) c.restore.new.facts.items c.restore.new.marks) (sym c.in-Restores.is) (c.restore.ensures w h)

pub returns-in-Forgets : goal.returns-in-Forgets
returns-in-Forgets c =
    λ w h. subst (λ s. IsInForce (step_read w s) c.args.facts.now.items c.forget.new.marks) (sym c.in-Forgets.is)
    (c.forget.ensures w c.args.facts.now.items h)

pub returns-in_ok-push-in-Claims-2 : goal.returns-in_ok-push-in-Claims-2
returns-in_ok-push-in-Claims-2 c =
    let facts = c.args.facts.now.items in
    let count : c.len-in-Claims.result ≡ length facts = omega arith in
    let put : c.push-in-Claims-2.new.self.items ≡ facts ++ Y.Holds c.in-Claims.con ∷ [] =
    c.in_ok-push-in-Claims-2.ensures.items ∙ ap (λ d. facts ++ Y.Holds d ∷ []) c.in_ok-con-in-Claims.ensures in
    λ w h. claimed_step w facts _ c.args.marks.now _ c.args.step.now c.len-in-Claims.result c.in-Claims.con c.in-Claims.is count
    c.in_ok-push-in-Claims.ensures.pushed put h

pub returns-in-Unclaims : goal.returns-in-Unclaims
returns-in-Unclaims c =
    λ w h. subst (λ s. IsInForce (step_read w s) c.unclaim.new.facts.items c.unclaim.new.marks) (sym c.in-Unclaims.is) (c.unclaim.ensures w h)
