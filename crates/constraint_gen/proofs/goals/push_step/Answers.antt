use Rattle.constraint_gen.proofs.Owing.{owed_here, owed_earlier}
use Rattle.constraint_gen.proofs.goals.push_step.Goals as goal

pub returns-in_ok-known-in-Owes : goal.returns-in_ok-known-in-Owes
returns-in_ok-known-in-Owes c = λ w h filed.
    owed_here c.args.names.now c.args.made.now c.push_goal.new.made w c.args.facts.now c.args.marks.now c.in-Owes.place c.in-Owes.goal c.args.step.now h
    c.in_ok-known-in-Owes.known c.as_slice.result.now c.as_slice.ensures c.push_goal.result c.in-Owes.is (c.in_ok-known-in-Owes.ensures filed)
    c.push_goal.ensures

pub returns-in_ok-known-in-OwesEarlier : goal.returns-in_ok-known-in-OwesEarlier
returns-in_ok-known-in-OwesEarlier c = λ w h filed.
    owed_earlier c.args.names.now c.args.made.now c.push_goal-in-OwesEarlier.new.made w c.args.facts.now c.args.marks.now c.in-OwesEarlier.place
    c.in-OwesEarlier.goal c.args.step.now h c.in_ok-known-in-OwesEarlier.known c.as_slice-in-OwesEarlier.result.now c.as_slice-in-OwesEarlier.ensures
    c.push_goal-in-OwesEarlier.result c.remembered.result c.saturating_sub-since.result c.in-OwesEarlier.recent c.in-OwesEarlier.is
    (c.remembered.ensures w c.args.facts.now h) c.saturating_sub-since.ensures (c.in_ok-known-in-OwesEarlier.ensures filed)
    c.push_goal-in-OwesEarlier.ensures
