use Rattle.std.proofs.Common.{◌∙◌, ap, sym}
use Rattle.std.proofs.lemmas.Result.{on_ok_weaker}
use Rattle.std.specs.Option.{option_copied}
use Rattle.jib_lower.specs.Openings.{KindAdded}
use Rattle.jib_lower.specs.Left.{no_sizes}
use Rattle.jib_lower.proofs.Growth.{kind_opens}
use Rattle.jib_lower.proofs.Unmade.{last_more, opening_kind}
use Rattle.jib_lower.proofs.openings.add_at.Goals as goal

pub returns-in-Some-clause-added : goal.returns-in-Some-clause-added
returns-in-Some-clause-added c =
    on_ok_weaker c.add_opening.result
    (λ (h : KindAdded c.args.model.now c.args.of.now c.from_ref.result.now c.args.opened.now c.add_opening.new.opened).
    kind_opens c.args.model.now c.args.at c.args.of.now c.in-Some.nodes.now c.from_ref.result.now c.args.opened.now c.add_opening.new.opened
    c.from_ref.ensures.value
    (sym c.get.ensures.item ∙ ap option_copied c.in-Some.is) h) c.add_opening.ensures.added

pub returns-in-Some-clause-left : goal.returns-in-Some-clause-left
returns-in-Some-clause-left c =
    last_more c.add_opening.result (opening_kind c.args.model.now c.args.at c.args.of.now c.in-Some.nodes.now c.from_ref.result.now
    c.args.opened.now.types c.args.opened.now.names c.from_ref.ensures.value (sym c.get.ensures.item ∙ ap option_copied c.in-Some.is))
    c.add_opening.ensures.left

pub returns-in-None-clause-left : goal.returns-in-None-clause-left
returns-in-None-clause-left c = no_sizes (sym c.get.ensures.item ∙ ap option_copied c.in-None.is)
