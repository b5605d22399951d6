use Rattle.std.proofs.Common.{◌≡◌, ◌+◌, ◌<◌, ◌≤◌, ◌∷◌, length, get_or, drop, false, refl, sym, ap, ◌∙◌, subst, arith, rules, None}
use Rattle.std.specs.List.{zip}
use Rattle.std.proofs.lemmas.List.{drop_all, get_or_default}
use Rattle.sail_syntax.specs.Places.{definition_place}
use Rattle.scattered.specs.Openings.{role, next_number}
use Rattle.scattered.specs.Refused.{failure, is_ended, part_failure, first_failure, parts_failure, IsRefusal}
use Rattle.scattered.proofs.Failing.{rest_at, passed_on, failed_first, same_refusal, length-zip, next_small}
use Rattle.scattered.proofs.checking.check.Goals as goal

pub loop-index-preserved : goal.loop-index-preserved
loop-index-preserved c =
    let text = c.args.definitions.now in
    let openings = c.args.openings.now in
    let all = zip text openings in
    let index = c.loop-index.index in
    let number = c.loop-index.number in
    let d = c.index-definitions-index.result in
    let opening = get_or openings index None in
    let marked : c.unwrap_or-is_ended.result ≡ get_or c.in_ok-ended.ended.items number false = search rules in
    let known : c.unwrap_or-is_ended.result ≡ is_ended all number = marked ∙ c.in_ok-ended.ensures number in
    let fine : part_failure (is_ended all) number (d, opening) ≡ None =
    ap (failure (role d) (definition_place d) opening) (sym known) ∙ c.in-Ok.ensures.passed in
    let same = c.requires.aligned in
    let less : index < length text = c.loop-index-test.true in
    let rest = rest_at text openings index d opening c.requires.aligned c.loop-index-test.true c.index-definitions-index.is (get_or_default openings index None opening (omega arith)) in record {
      few =
          let low = c.loop-index.invariant.few in
          let next = next_small (role d) number in
          let is = c.next_number-number.ensures in
          omega arith;
      onward = ap (λ n. first_failure (is_ended all) n (drop (index + 1) all)) c.next_number-number.ensures
          ∙ sym (passed_on (is_ended all) number (d, opening) (drop (index + 1) all) fine)
          ∙ ap (first_failure (is_ended all) number) (sym rest) ∙ c.loop-index.invariant.onward;
    }

pub returns-in-Err-clause-failed : goal.returns-in-Err-clause-failed
returns-in-Err-clause-failed c =
    let text = c.args.definitions.now in
    let openings = c.args.openings.now in
    let all = zip text openings in
    let index = c.loop-index.index in
    let number = c.loop-index.number in
    let d = c.index-definitions-index.result in
    let opening = get_or openings index None in
    let marked : c.unwrap_or-is_ended.result ≡ get_or c.in_ok-ended.ended.items number false = search rules in
    let known : c.unwrap_or-is_ended.result ≡ is_ended all number = marked ∙ c.in_ok-ended.ensures number in
    let same = c.requires.aligned in
    let less : index < length text = c.loop-index-test.true in
    let rest = rest_at text openings index d opening c.requires.aligned c.loop-index-test.true c.index-definitions-index.is (get_or_default openings index None opening (omega arith)) in
    same_refusal _ _ c.in-Err.error (ap (first_failure (is_ended all) number) (sym rest) ∙ c.loop-index.invariant.onward)
    (failed_first (is_ended all) number (d, opening) (drop (index + 1) all) c.in-Err.error
    (same_refusal _ _ c.in-Err.error (ap (failure (role d) (definition_place d) opening) known) c.in-Err.ensures.failed))

pub returns-clause-passed : goal.returns-clause-passed
returns-clause-passed c =
    let text = c.args.definitions.now in
    let openings = c.args.openings.now in
    let all = zip text openings in
    let index = c.loop-index.index in
    let past : length text ≤ index = c.loop-index-test.false in
    let long = length-zip text openings c.requires.aligned in
    sym c.loop-index.invariant.onward ∙ ap (first_failure (is_ended all) c.loop-index.number) (drop_all index all (omega arith))
