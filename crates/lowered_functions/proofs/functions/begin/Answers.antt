use Rattle.std.proofs.Common.{◌∙◌, ◌++◌, ap}
use Rattle.lowered_functions.specs.Made.{given_slots}
use Rattle.lowered_functions.proofs.Begun.{begun_slots, fresh_begun}
use Rattle.lowered_functions.proofs.functions.begin.Goals as goal

pub begin_given-requires : goal.begin_given-requires
begin_given-requires c =
    record {
      apart = fresh_begun c.slot.new.self c.args.walk.now.setting.now.exception
          (begun_slots c.slot.new.self c.new-coding.result.slots c.args.walk.now.setting.now.exception c.new-coding.ensures.slots c.in_ok-slot.ensures.slots);
    }

pub returns-clause-slots : goal.returns-clause-slots
returns-clause-slots c =
    c.in_ok-begin_given.ensures.slots
    ∙ ap (λ ss. ss ++ given_slots c.args.walk.now.setting.now 0 c.args.given.now)
    (begun_slots c.slot.new.self c.new-coding.result.slots c.args.walk.now.setting.now.exception c.new-coding.ensures.slots c.in_ok-slot.ensures.slots)

pub returns-clause-code : goal.returns-clause-code
returns-clause-code c = c.in_ok-begin_given.ensures.code ∙ c.in_ok-slot.ensures.grown.code ∙ c.new-coding.ensures.code

pub returns-clause-labels : goal.returns-clause-labels
returns-clause-labels c = c.in_ok-begin_given.ensures.labels ∙ c.in_ok-slot.ensures.grown.labels ∙ c.new-coding.ensures.labels
