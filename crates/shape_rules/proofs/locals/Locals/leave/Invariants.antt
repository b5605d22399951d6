use Rattle.std.proofs.Common.{◌≡◌, ◌≤◌, ◌-◌, length, drop}
use Rattle.shape_rules.proofs.locals.Locals.leave.Given as goal

-- what is left to be left out makes up what there was to leave out
abbrev pub invariant-loop-self : goal.invariant-loop-self
invariant-loop-self l = (l.count ≤ length l.self)
    × (drop (length l.self - l.count) l.self ≡ drop (length l.initial.self - l.count) l.initial.self)

abbrev pub decreases-loop-self : goal.decreases-loop-self
decreases-loop-self l = length l.self
