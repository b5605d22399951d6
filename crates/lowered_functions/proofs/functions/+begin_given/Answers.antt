use Rattle.std.proofs.Common.{◌≡◌, ◌∙◌, rules}
use Rattle.std.proofs.lemmas.Result.{on_ok_weaker}
use Rattle.lowered_steps.proofs.Lists.{first_of, none_of, others}
use Rattle.lowered_functions.proofs.Begun.{fresh_next, given_more, given_none}
use Rattle.lowered_functions.proofs.functions.+begin_given.Goals as goal

pub begin_given-requires : goal.begin_given-requires
begin_given-requires t c = (
  search rules,
  fresh_next c.args.coding.now c.slot.new.self c.args.at c.in_ok-next-in-len1-up.next c.in_ok-typ-in-len1-up.typ c.requires.apart
      c.in_ok-slot-in-len1-up.ensures.slots c.in_ok-next-in-len1-up.ensures,
)

pub returns-in-empty-clause-slots : goal.returns-in-empty-clause-slots
returns-in-empty-clause-slots t c =
    given_none c.args.walk.now.setting.now c.args.coding.now.slots c.args.at c.args.given.now (none_of c.args.given.now c.in-empty.len_below)

pub returns-in_ok-next-in-len1-up-clause-slots : goal.returns-in_ok-next-in-len1-up-clause-slots
returns-in_ok-next-in-len1-up-clause-slots t c =
    given_more c.begin_given.result c.args.walk.now.setting.now c.args.coding.now c.slot.new.self c.begin_given.new.coding.slots c.args.at
    c.in_ok-next-in-len1-up.next c.in_ok-typ-in-len1-up.typ c.first-item.result (others c.args.given.now) c.args.given.now c.requires.apart
    (first_of c.args.given.now c.first-item.result c.in-len1-up.len_at_least c.first-item.is) c.in_ok-typ-in-len1-up.ensures
    c.in_ok-slot-in-len1-up.ensures.slots c.in_ok-next-in-len1-up.ensures c.begin_given.ensures.slots

pub returns-in_ok-next-in-len1-up-clause-code : goal.returns-in_ok-next-in-len1-up-clause-code
returns-in_ok-next-in-len1-up-clause-code t c =
    on_ok_weaker c.begin_given.result (λ (e : c.begin_given.new.coding.code ≡ c.slot.new.self.code). e ∙ c.in_ok-slot-in-len1-up.ensures.grown.code)
    c.begin_given.ensures.code

pub returns-in_ok-next-in-len1-up-clause-labels : goal.returns-in_ok-next-in-len1-up-clause-labels
returns-in_ok-next-in-len1-up-clause-labels t c =
    on_ok_weaker c.begin_given.result (λ (e : c.begin_given.new.coding.labels ≡ c.slot.new.self.labels). e ∙ c.in_ok-slot-in-len1-up.ensures.grown.labels)
    c.begin_given.ensures.labels
