use Rattle.std.proofs.Common.{sym, ap, ◌∙◌, map}
use Rattle.linear.specs.Choices.{all_of, choice_of}
use Rattle.linear.proofs.Counts.{each_more, all_chosen, any_chosen}
use Rattle.linear.proofs.choosing.+choosing.Goals as goal

pub choose-returns-in_ok-choose_each-in-All : goal.choose-returns-in_ok-choose_each-in-All
choose-returns-in_ok-choose_each-in-All t c =
    all_chosen c.args.atoms.now c.args.truth c.in-All.parts _ _ _ c.in-All.is (c.in_ok-choose_each-in-All.ensures ∙
    ap (λ cons. all_of (map (λ con. choice_of c.args.atoms.now con c.args.truth) cons)) c.as_slice-in-All.ensures) c.joined.ensures

pub choose-returns-in_ok-choose_each-in-Any : goal.choose-returns-in_ok-choose_each-in-Any
choose-returns-in_ok-choose_each-in-Any t c =
    any_chosen c.args.atoms.now c.args.truth c.in-Any.parts _ _ _ c.in-Any.is (c.in_ok-choose_each-in-Any.ensures ∙
    ap (λ cons. all_of (map (λ con. choice_of c.args.atoms.now con c.args.truth) cons)) c.as_slice-in-Any.ensures) c.joined-in-Any.ensures

pub choose_each-loop-con-preserved : goal.choose_each-loop-con-preserved
choose_each-loop-con-preserved t c =
    each_more (λ con. choice_of c.args.atoms.now con c.args.truth) c.args.cons.now c.loop-con.con-index c.con-item.result c.in-Some.choice
    c.loop-con.choices _ _ c.loop-con-test.true c.con-item.is (sym c.in-Some.is ∙
    c.in_ok-choose.ensures) c.in_ok-push-in-Some.ensures.pushed c.loop-con.invariant
