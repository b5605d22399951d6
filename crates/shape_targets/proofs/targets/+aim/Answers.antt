use Rattle.std.proofs.Common.{◌≡◌, ◌+◌, ◌++◌, ◌∷◌, List, map, drop, sym, ap, ◌∙◌, [], append_assoc, subst, IfOk, OnOk}
use Rattle.std.proofs.lemmas.List.{drop_more}
use Rattle.shape_rules.specs.Around.{setting_of}
use Rattle.shape_rules.specs.Findings.{first_failure}
use Rattle.shape_rules.specs.Scopes.{Locals}
use Rattle.shape_rules.proofs.Firsts.{first_failure_append}
use Rattle.sail_types.specs.declared.shapes.Shape.{Shape}
use Rattle.shape_walks.specs.Trees.{target_part}
use Rattle.shape_rules.specs.Expressions.{part}
use Rattle.shape_rules.specs.Targets.{Aimed, TargetPart, call_aim, AimedAll, each_aimed, also_aimed}
use Rattle.sail_syntax.specs.declared.expressions.Exp.{Exp}
use Rattle.shape_calls.specs.Ways.{aim_of}
use Rattle.shape_targets.proofs.CallTargets.{call_target}
use Rattle.sail_core.specs.declared.targets.Target.{Target}
use Rattle.sail_core.specs.declared.tree.Core.{Core}
use Rattle.sail_syntax.specs.declared.expressions.LExp.{LExp}
use Rattle.shape_targets.proofs.targets.+aim.Goals as goal

pub aim-returns-in-ToCall-clause-aim : goal.aim-returns-in-ToCall-clause-aim
aim-returns-in-ToCall-clause-aim g t c =
    let setting = setting_of c.args.around.now in
    let names = c.args.locals.now in
    let name = c.in-ToCall.name in
    subst (λ (p : TargetPart). IfOk c.aim_call.result (λ aim. aim ≡ aim_of (p.aim setting names)))
    (sym (call_target c.args.target.now name c.in-ToCall.args c.in-ToCall.is))
    (subst (λ (es : List Exp). IfOk c.aim_call.result (λ aim. aim ≡ aim_of (call_aim name (map part es) setting names))) c.as_slice.ensures
    c.aim_call.ensures.aim)

pub aim-returns-in-ToCall-clause-failures : goal.aim-returns-in-ToCall-clause-failures
aim-returns-in-ToCall-clause-failures g t c =
    let setting = setting_of c.args.around.now in
    let names = c.args.locals.now in
    let name = c.in-ToCall.name in
    let old = c.args.first.now.error in
    subst (λ (p : TargetPart). OnOk c.aim_call.result (c.aim_call.new.first.error ≡ first_failure old (p.aim setting names).faults))
    (sym (call_target c.args.target.now name c.in-ToCall.args c.in-ToCall.is))
    (subst (λ (es : List Exp). OnOk c.aim_call.result (c.aim_call.new.first.error ≡ first_failure old (call_aim name (map part es) setting names).faults))
    c.as_slice.ensures c.aim_call.ensures.failures)

pub aim_tuple-loop-target-preserved : goal.aim_tuple-loop-target-preserved
aim_tuple-loop-target-preserved g t c =
    let setting = setting_of c.args.around.now in
    let names = c.args.locals.now in
    let all = c.args.targets.now in
    let i = c.loop-target.target-index in
    let one = c.target-item.result in
    let shapes = c.loop-target.shapes in
    let inside = c.loop-target.inside in
    let parts = c.loop-target.parts in
    let old = c.loop-target.first.error in
    let same : c.loop-target.locals ≡ names = c.loop-target.invariant.locals in
    let rest : drop i all ≡ one ∷ drop (i + 1) all =
    drop_more all i one c.loop-target-test.true ∙ ap (λ x. x ∷ drop (i + 1) all) (sym c.target-item.is) in
    let found : Aimed = (target_part one).aim setting names in
    let left = map target_part (drop (i + 1) all) in
    let more : AimedAll = each_aimed left setting names in
    let opened : each_aimed (map target_part (drop i all)) setting names ≡ also_aimed found more =
    ap (λ (ts : List LExp). each_aimed (map target_part ts) setting names) rest in
    let shaped : c.in_ok-shape.shape ≡ found.shape =
    c.in_ok-shape.ensures.shape ∙ ap (λ (l : Locals). ((target_part one).aim setting l).shape) same in
    let pushed : c.push.new.self ≡ shapes ++ found.shape ∷ [] = c.in_ok-push.ensures.pushed ∙ ap (λ s. shapes ++ s ∷ []) shaped in
    let targeted : c.push_target.new.targets ≡ inside ++ found.target ∷ [] =
    c.in_ok-shape.ensures.targets ∙ ap (λ (l : Locals). inside ++ ((target_part one).aim setting l).target ∷ []) same in
    let parted : c.push_target.new.parts ≡ parts ++ found.parts =
    c.in_ok-shape.ensures.parts ∙ ap (λ (l : Locals). parts ++ ((target_part one).aim setting l).parts) same in
    let noted : c.push_target.new.first.error ≡ first_failure old found.faults =
    c.in_ok-shape.ensures.failures ∙ ap (λ (l : Locals). first_failure old ((target_part one).aim setting l).faults) same in
    record {
      locals = c.in_ok-shape.ensures.locals ∙ same;
      shapes = ap (λ (ss : List Shape). ss ++ more.shapes) pushed ∙ append_assoc shapes (found.shape ∷ []) more.shapes
          ∙ ap (λ (x : AimedAll). shapes ++ x.shapes) (sym opened) ∙ c.loop-target.invariant.shapes;
      targets = ap (λ (ts : List Target). ts ++ more.targets) targeted ∙ append_assoc inside (found.target ∷ []) more.targets
          ∙ ap (λ (x : AimedAll). inside ++ x.targets) (sym opened) ∙ c.loop-target.invariant.targets;
      parts = ap (λ (cs : List Core). cs ++ more.parts) parted ∙ append_assoc parts found.parts more.parts
          ∙ ap (λ (x : AimedAll). parts ++ x.parts) (sym opened) ∙ c.loop-target.invariant.parts;
      failures = (λ j. first_failure (noted j) more.faults)
          ∙ sym (first_failure_append old found.faults more.faults)
          ∙ ap (λ (x : AimedAll). first_failure old x.faults) (sym opened) ∙ c.loop-target.invariant.failures;
    }
