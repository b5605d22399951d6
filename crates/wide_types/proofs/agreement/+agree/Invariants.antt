use Rattle.std.proofs.Common.{◌≡◌, ◌+◌, ◌*◌, drop, ◌++◌}
use Rattle.wide_types.specs.Widening.{agrees_within, each_agrees, each_type_agrees}
use Rattle.wide_types.proofs.agreement.+agree.Given as goal

-- a depth counts four times, so that the calls between two depths count down too
abbrev pub decreases-push_agreement : goal.decreases-push_agreement
decreases-push_agreement l = 4 * l.depth

abbrev pub decreases-push_type_agreement : goal.decreases-push_type_agreement
decreases-push_type_agreement l = 4 * l.depth + 1

abbrev pub decreases-push_part_agreements : goal.decreases-push_part_agreements
decreases-push_part_agreements l = 4 * l.depth + 1

abbrev pub decreases-push_type_agreements : goal.decreases-push_type_agreements
decreases-push_type_agreements l = 4 * l.depth + 2

abbrev pub decreases-push_form_agreement : goal.decreases-push_form_agreement
decreases-push_form_agreement l = 4 * l.depth + 3

abbrev pub invariant-push_part_agreements-loop-index : goal.invariant-push_part_agreements-loop-index
invariant-push_part_agreements-loop-index l =
    l.conditions ++ each_agrees (agrees_within l.depth l.before) (drop l.index l.first) (drop l.index l.others)
    ≡ l.fn.conditions ++ each_agrees (agrees_within l.depth l.before) l.first l.others

abbrev pub invariant-push_type_agreements-loop-index : goal.invariant-push_type_agreements-loop-index
invariant-push_type_agreements-loop-index l =
    l.conditions ++ each_type_agrees (agrees_within l.depth l.before) l.before (drop l.index l.first) (drop l.index l.others)
    ≡ l.fn.conditions ++ each_type_agrees (agrees_within l.depth l.before) l.before l.first l.others
