use Rattle.std.proofs.Common.{◌≡◌, ◌+◌, ◌∷◌, List, drop, sym, ap, ◌∙◌}
use Rattle.std.proofs.lemmas.List.{drop_more}
use Rattle.sail_syntax.specs.declared.patterns.Pat.{Pat}
use Rattle.shape_rules.specs.Around.{setting_of}
use Rattle.shape_rules.specs.Findings.{Found, first_failure}
use Rattle.shape_rules.specs.Sides.{read_side}
use Rattle.shape_rules.proofs.Firsts.{first_failure_append}
use Rattle.shape_walks.specs.declared.walks.Walk.{Walk}
use Rattle.shape_walks.specs.Walks.{want_of, took, one_faults, each_taken, each_faults}
use Rattle.shape_sides.specs.Trees.{elaborates}
use Rattle.shape_sides.proofs.sides.push_all.Goals as goal

pub loop-part-preserved : goal.loop-part-preserved
loop-part-preserved g c =
    let setting = setting_of c.args.around.now in
    let names = c.args.locals.now in
    let all = c.args.parts.now in
    let i = c.loop-part.part-index in
    let one = c.part-item.result in
    let walk = c.loop-part.walk in
    let old = c.loop-part.first.error in
    let found : Found = (read_side one).elaborate setting names (want_of walk) in
    let more = drop (i + 1) all in
    let rest : drop i all ≡ one ∷ drop (i + 1) all =
    drop_more all i one c.loop-part-test.true ∙ ap (λ x. x ∷ drop (i + 1) all) (sym c.part-item.is) in
    let next : c.in_ok-walk.walk ≡ took walk found = c.in_ok-walk.ensures.walk in
    let noted : c.push_one.new.first.error ≡ first_failure old (one_faults walk found) = c.in_ok-walk.ensures.failures in
    record {
      walk = ap (λ (w : Walk). each_taken (elaborates more) setting names w) next
          ∙ sym (ap (λ (ps : List Pat). each_taken (elaborates ps) setting names walk) rest) ∙ c.loop-part.invariant.walk;
      failures = ap (λ (w : Walk). first_failure c.push_one.new.first.error (each_faults (elaborates more) setting names w)) next
          ∙ (λ j. first_failure (noted j) (each_faults (elaborates more) setting names (took walk found)))
          ∙ sym (first_failure_append old (one_faults walk found) (each_faults (elaborates more) setting names (took walk found)))
          ∙ sym (ap (λ (ps : List Pat). first_failure old (each_faults (elaborates ps) setting names walk)) rest)
          ∙ c.loop-part.invariant.failures;
    }
