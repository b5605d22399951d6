use Rattle.std.proofs.Common.{◌≡◌, ◌∙◌, ◌+◌, ◌-◌, ◌<◌, ◌≤◌, [], None, ap, sym, subst, length, drop, take, arith}
use Rattle.std.proofs.lemmas.List.{length-replicate}
use Rattle.value_indices.specs.Force.{IsInForce}
use Rattle.value_indices.specs.Walking.{begun, steps_read}
use Rattle.value_indices.proofs.Forced.{none_in_force}
use Rattle.size_values.specs.Numbers.{meant}
use Rattle.size_splits.specs.Reading.{each_first, named_in, step_domains, steps_domains}
use Rattle.size_splits.proofs.Lists.{read_more, rest_whole}
use Rattle.size_splits.proofs.Tables.{known_end, known_length, known_next, length_steps_domains, none_each_first}
use Rattle.split_combinations.proofs.splitting.domains_of.Goals as goal

pub loop-at-init : goal.loop-at-init
loop-at-init c =
    let types = c.args.setting.now.types.now in
    let sizing = c.args.setting.now.sizing.now in
    let of = meant c.args.setting.now.variables in
    let steps = c.args.steps.now in
    let all = steps_domains types sizing c.args.variables of c.args.count c.args.from (begun 0) steps in
    let force : IsInForce (begun 0) c.new-facts.result.items c.new-marks.result =
    subst (λ fs. IsInForce (begun 0) fs c.new-marks.result) (sym c.new-facts.ensures.items)
    (subst (λ ms. IsInForce (begun 0) [] ms) (sym c.new-marks.ensures) none_in_force) in
    record {
      known = ap (λ l. each_first l all) c.in_ok-known.ensures
          ∙ none_each_first c.args.count all (length_steps_domains types sizing of c.args.variables c.args.count c.args.from (begun 0) steps);
      count = ap length c.in_ok-known.ensures ∙ length-replicate c.args.count None;
      force = force;
    }

pub loop-at-preserved : goal.loop-at-preserved
loop-at-preserved c =
    let types = c.args.setting.now.types.now in
    let sizing = c.args.setting.now.sizing.now in
    let of = meant c.args.setting.now.variables in
    let beyond = c.args.variables in
    let steps = c.args.steps.now in
    let l = c.loop-at in
    let s = c.index-steps-at.result in
    let facts = c.as_slice-force.result.now in
    let within : l.at < length steps = c.loop-at-test.true in
    let put : c.in_ok-next.next ≡ each_first l.known (step_domains types sizing beyond of (length l.known) c.args.from facts s
    (named_in (drop (l.at + 1) steps))) =
    c.in_ok-next.ensures ∙ ap (λ rest. each_first l.known (step_domains types sizing beyond of (length l.known) c.args.from facts s
    (named_in rest))) (rest_whole steps (l.at + 1)) in
    record {
      known = known_next types sizing of beyond steps l.at s within c.index-steps-at.is c.args.count c.args.from facts l.known c.in_ok-next.next
          (steps_domains types sizing beyond of c.args.count c.args.from (begun 0) steps)
          (l.invariant.force.in_force ∙ sym c.as_slice-force.ensures.value) l.invariant.count put l.invariant.known;
      count = known_length types sizing of beyond steps l.at s within c.index-steps-at.is c.args.count c.args.from facts l.known c.in_ok-next.next
          l.invariant.count put;
      force = subst (λ w. IsInForce w c.follow.new.facts.items c.follow.new.marks) (sym (read_more steps l.at s within c.index-steps-at.is))
          (c.in_ok-follow.ensures (steps_read (begun 0) (take l.at steps)) l.invariant.force);
    }

pub returns : goal.returns
returns c =
    let types = c.args.setting.now.types.now in
    let sizing = c.args.setting.now.sizing.now in
    let of = meant c.args.setting.now.variables in
    let steps = c.args.steps.now in
    let l = c.loop-at in
    let past : length steps ≤ l.at = omega arith in
    known_end types sizing of c.args.variables steps l.at c.args.count c.args.from l.known
    (steps_domains types sizing c.args.variables of c.args.count c.args.from (begun 0) steps) past l.invariant.count l.invariant.known
