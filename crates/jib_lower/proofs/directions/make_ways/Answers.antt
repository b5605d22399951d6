use Rattle.std.proofs.Common.{◌∙◌, ◌++◌, ap, subst, sym}
use Rattle.jib_lower.specs.Crossings.{AllStay}
use Rattle.jib_lower.specs.Directions.{WaysMade}
use Rattle.jib_lower.proofs.directions.make_ways.Goals as goal

pub push_ways-requires : goal.push_ways-requires
push_ways-requires c = record {
  is = λ h. subst AllStay c.as_slice-directions.ensures (c.directions_stay-stay.ensures.is h);
  no = λ h s. c.directions_stay-stay.ensures.no h (subst AllStay (sym c.as_slice-directions.ensures) s);
}

pub returns-clause-made : goal.returns-clause-made
returns-clause-made c =
    let more = c.in_ok-push_ways.ensures.added in
    subst (λ ws. WaysMade c.args.model.now 0 c.args.model.now.order.now ws) (sym (more.is ∙ ap (λ ws. ws ++ more.added) c.new-ways.ensures)) more.made
