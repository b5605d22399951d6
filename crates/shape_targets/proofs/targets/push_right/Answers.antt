use Rattle.std.proofs.Common.{◌≡◌, ◌+◌, ◌++◌, ◌∷◌, List, map, drop, sym, ap, ◌∙◌, [], append_assoc}
use Rattle.std.proofs.lemmas.List.{drop_more}
use Rattle.shape_rules.specs.Around.{setting_of}
use Rattle.shape_rules.specs.Findings.{first_failure}
use Rattle.shape_rules.specs.Scopes.{Locals}
use Rattle.shape_rules.proofs.Firsts.{first_failure_append}
use Rattle.shape_rules.specs.Statements.{FurtherPart, Righted, righted, also_righted, inner_faults, chained_faults}
use Rattle.shape_walks.specs.Trees.{further_part}
use Rattle.shape_rules.specs.declared.error.ShapeError.{ShapeError}
use Rattle.shape_rules.specs.Expressions.{part}
use Rattle.shape_rules.specs.Targets.{Aimed}
use Rattle.sail_syntax.specs.declared.expressions.Target.{Target as Further}
use Rattle.shape_targets.proofs.targets.push_right.Goals as goal

pub loop-further-preserved : goal.loop-further-preserved
loop-further-preserved g c =
    let setting = setting_of c.args.around.now in
    let names = c.args.locals.now in
    let value = part c.args.value.now in
    let all = c.args.more.now in
    let i = c.loop-further.further-index in
    let one = c.further-item.result in
    let wanted = c.loop-further.wanted in
    let targets = c.loop-further.targets in
    let parts = c.loop-further.parts in
    let old = c.loop-further.first.error in
    let same : c.loop-further.locals ≡ names = c.loop-further.invariant.locals in
    let rest : drop i all ≡ one ∷ drop (i + 1) all =
    drop_more all i one c.loop-further-test.true ∙ ap (λ x. x ∷ drop (i + 1) all) (sym c.further-item.is) in
    let here : FurtherPart = further_part one in
    let found : Aimed = here.to.aim setting names in
    let inner : List ShapeError = inner_faults here.place wanted found.answer in
    let left = map further_part (drop (i + 1) all) in
    let more : Righted = righted left value setting names found.shape in
    let opened : righted (map further_part (drop i all)) value setting names wanted ≡ also_righted here.place wanted found more =
    ap (λ (fs : List Further). righted (map further_part fs) value setting names wanted) rest in
    let next : c.in_ok-wanted.wanted ≡ found.shape =
    c.in_ok-wanted.ensures.shape ∙ ap (λ (l : Locals). (here.to.aim setting l).shape) same in
    let targeted : c.push_further.new.targets ≡ targets ++ found.target ∷ [] =
    c.in_ok-wanted.ensures.targets ∙ ap (λ (l : Locals). targets ++ (here.to.aim setting l).target ∷ []) same in
    let parted : c.push_further.new.parts ≡ parts ++ found.parts =
    c.in_ok-wanted.ensures.parts ∙ ap (λ (l : Locals). parts ++ (here.to.aim setting l).parts) same in
    let apart : List ShapeError = chained_faults here.place found in
    let noted : c.push_further.new.first.error ≡ first_failure old (inner ++ apart) =
    c.in_ok-wanted.ensures.failures ∙ ap (λ (l : Locals). first_failure old
    (inner_faults here.place wanted (here.to.aim setting l).answer ++ chained_faults here.place (here.to.aim setting l))) same in
    record {
      locals = c.in_ok-wanted.ensures.locals ∙ same;
      targets = (λ j. targeted j ++ (righted left value setting names (next j)).targets) ∙ append_assoc targets (found.target ∷ []) more.targets
          ∙ ap (λ (x : Righted). targets ++ x.targets) (sym opened) ∙ c.loop-further.invariant.targets;
      parts = (λ j. parted j ++ (righted left value setting names (next j)).parts) ∙ append_assoc parts found.parts more.parts
          ∙ ap (λ (x : Righted). parts ++ x.parts) (sym opened) ∙ c.loop-further.invariant.parts;
      failures = (λ j. first_failure (noted j) (righted left value setting names (next j)).faults)
          ∙ sym (first_failure_append old (inner ++ apart) more.faults)
          ∙ ap (λ (x : Righted). first_failure old x.faults) (sym opened) ∙ c.loop-further.invariant.failures;
    }
