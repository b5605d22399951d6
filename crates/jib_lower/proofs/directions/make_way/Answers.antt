use Rattle.std.proofs.Common.{◌∙◌, ap, append-nil, sym}
use Rattle.std.specs.Option.{option_copied}
use Rattle.sized_meanings.specs.Sized.{joined_nodes}
use Rattle.jib_lower.specs.Instances.{leads_alone}
use Rattle.jib_lower.specs.Left.{no_nodes, some_return, way_by_left, way_calls_alike}
use Rattle.jib_lower.proofs.Taken.{ok_both}
use Rattle.jib_lower.proofs.Unmade.{last_more}
use Rattle.jib_lower.proofs.directions.make_way.Goals as goal

pub returns-then-alone-clause-made : goal.returns-then-alone-clause-made
returns-then-alone-clause-made c =
    ok_both c.way_by.result (λ made taken known. record {
      stay = c.requires.is c.if-stay.true;
      nodes = c.in-Some.nodes.now;
      sized = sym c.get.ensures.item ∙ ap option_copied c.in-Some.is;
      alone = ap leads_alone (sym (append-nil c.in-Some.nodes.now)) ∙ ap (λ bs. leads_alone (joined_nodes bs)) (sym c.from_ref.ensures.value)
          ∙ sym c.are_alone-alone.ensures ∙ c.if-alone.true;
      known = known;
      taken = taken;
    }) c.way_by.ensures.taken c.way_by.ensures.known

pub returns-then-alone-clause-left : goal.returns-then-alone-clause-left
returns-then-alone-clause-left c =
    last_more c.way_by.result
    (way_by_left (sym c.get.ensures.item ∙ ap option_copied c.in-Some.is))
    c.way_by.ensures.left

pub returns-else-alone-clause-left : goal.returns-else-alone-clause-left
returns-else-alone-clause-left c =
    way_calls_alike (sym c.get.ensures.item ∙ ap option_copied c.in-Some.is)
    (ap leads_alone (sym (append-nil c.in-Some.nodes.now)) ∙ ap (λ bs. leads_alone (joined_nodes bs)) (sym c.from_ref.ensures.value)
    ∙ sym c.are_alone-alone.ensures ∙ c.if-alone.false)

pub returns-else-stay-clause-left : goal.returns-else-stay-clause-left
returns-else-stay-clause-left c = some_return (c.requires.no c.if-stay.false)

pub returns-in-None-clause-left : goal.returns-in-None-clause-left
returns-in-None-clause-left c = no_nodes (sym c.get.ensures.item ∙ ap option_copied c.in-None.is)
