use Rattle.std.proofs.Common.{◌≡◌, ◌∙◌, ap, length, subst, sym, true}
use Rattle.std.specs.Prelude.{nat_lt}
use Rattle.std.proofs.lemmas.Result.{on_ok_weaker}
use Rattle.lowered_steps.proofs.Lists.{first_of, none_of, others}
use Rattle.jib_lower.specs.Cycles.{Joined, all_there, turns_fall}
use Rattle.jib_lower.proofs.Basics.{and_left, and_right}
use Rattle.jib_lower.proofs.Falling.{lt_true}
use Rattle.jib_lower.proofs.Passing.{no_turns, turns_more}
use Rattle.jib_lower.proofs.turns.+join_turns.Goals as goal

pub returns-in-empty : goal.returns-in-empty
returns-in-empty t c =
    no_turns c.args.instances.now c.args.mappings.now c.args.turns.now c.args.graph.now c.args.callers.now (none_of c.args.callers.now c.in-empty.len_below)

pub returns-in_ok-join_turn-in-len1-up : goal.returns-in_ok-join_turn-in-len1-up
returns-in_ok-join_turn-in-len1-up t c =
    on_ok_weaker c.join_turns.result
    (λ (more : Joined (λ ns. turns_fall ns c.args.instances.now c.args.mappings.now c.args.turns.now (others c.args.callers.now) ≡ true) c.join_turn.new.graph
    c.join_turns.new.graph).
    turns_more c.args.instances.now c.args.mappings.now c.args.turns.now c.first-item.result (others c.args.callers.now) c.args.callers.now c.args.graph.now
    c.join_turn.new.graph c.join_turns.new.graph
    (first_of c.args.callers.now c.first-item.result c.in-len1-up.len_at_least c.first-item.is) c.in_ok-join_turn-in-len1-up.ensures more)
    c.join_turns.ensures
