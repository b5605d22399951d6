use Rattle.std.proofs.Common.{◌≡◌, ◌+◌, ◌<◌, ◌||◌, ◌&&◌, length, get_or, take, ◌≤◌, sym, ap, ◌∙◌, subst, arith, None}
use Rattle.std.specs.List.{zip}
use Rattle.std.proofs.lemmas.List.{take_all, get_or_default}
use Rattle.scattered.specs.Openings.{role}
use Rattle.scattered.specs.Gathered.{belongs_to}
use Rattle.scattered.specs.Refused.{is_end, is_ended}
use Rattle.scattered.specs.Latest.{IsWithin}
use Rattle.scattered.proofs.Failing.{more_at, ended_more, length-zip}
use Rattle.scattered.proofs.checking.find_ended.Goals as goal

pub mark_end-requires : goal.mark_end-requires
mark_end-requires c =
    let index = c.loop-index.index in
    let text = c.args.definitions.now in
    let less : index < length text = c.loop-index-test.true in
    let same = c.requires.aligned in
    let opening = get_or c.args.openings.now index None in
    subst (λ n. IsWithin n opening) (sym c.loop-index.invariant.count) (c.requires.within index None (omega arith))

pub loop-index-preserved : goal.loop-index-preserved
loop-index-preserved c =
    let index = c.loop-index.index in
    let text = c.args.definitions.now in
    let openings = c.args.openings.now in
    let d = c.index-definitions-index.result in
    let opening = get_or c.args.openings.now index None in
    let less : index < length text = c.loop-index-test.true in
    let same = c.requires.aligned in
    let more = more_at text openings index d opening c.requires.aligned less c.index-definitions-index.is (get_or_default openings index None opening (omega arith)) in record {
      count = c.mark_end.ensures.count ∙ c.loop-index.invariant.count;
      marks = λ number. c.mark_end.ensures.marks number
          ∙ ap (λ t. t || (is_end (role d) && belongs_to number (d, opening))) (c.loop-index.invariant.marks number)
          ∙ sym (ended_more (take index (zip text openings)) (d, opening) number)
          ∙ ap (λ all. is_ended all number) (sym more);
    }

pub returns : goal.returns
returns c =
    let text = c.args.definitions.now in
    let openings = c.args.openings.now in
    let past : length text ≤ c.loop-index.index = c.loop-index-test.false in
    let long = length-zip text openings c.requires.aligned in
    λ number. c.loop-index.invariant.marks number ∙ ap (λ all. is_ended all number) (take_all c.loop-index.index (zip text openings) (omega arith))
