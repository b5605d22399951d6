use Rattle.std.proofs.Common.{◌≡◌, ◌<◌, ◌++◌, ◌∷◌, List, [], length, map, sym, ap, ◌∙◌, subst, IfOk, OnOk, arith}
use Rattle.shape_rules.specs.Around.{setting_of}
use Rattle.shape_rules.specs.Findings.{first_failure, Found}
use Rattle.shape_rules.specs.Statements.{assign_found, assign_to}
use Rattle.shape_walks.specs.Trees.{target_part, further_part}
use Rattle.shape_rules.specs.Expressions.{part}
use Rattle.shape_calls.specs.Made.{made_of}
use Rattle.shape_rules.specs.Targets.{TargetPart}
use Rattle.shape_rules.specs.Values.{call_named}
use Rattle.sail_syntax.specs.declared.expressions.Target.{Target}
use Rattle.shape_targets.proofs.Assigned.{assigned_call, assigned_plain}
use Rattle.shape_targets.proofs.CallTargets.{call_target, no_call}
use Rattle.shape_targets.proofs.targets.assign.Goals as goal

-- nothing stands on the right of a target alone
none_further : (ts : List Target) → length ts < 1 → length (map further_part ts) < 1
none_further [] none = none
none_further (t ∷ ts) none = absurd (omega (arith, none))

pub returns-in-empty-clause-made : goal.returns-in-empty-clause-made
returns-in-empty-clause-made g c =
    let setting = setting_of c.args.around.now in
    let names = c.args.locals.now in
    let want = c.args.want.now in
    let to = target_part c.args.target.now in
    let more = map further_part c.args.more.now in
    let value = part c.args.value.now in
    let args = map part c.in-ToCall.args in
    let called : call_named c.in-ToCall.name (map part c.as_slice.result.now ++ map part c.from_ref-back.result.now) setting names want
    ≡ assign_found c.args.place to more value setting names want =
    (λ j. call_named c.in-ToCall.name (map part (c.as_slice.ensures j) ++ map part (c.from_ref-back.ensures.value j)) setting names want)
    ∙ sym (assigned_call c.args.place to more value to.call c.in-ToCall.name args setting names want (none_further c.args.more.now c.in-empty.len_below)
    (ap (λ (p : TargetPart). p.call) (call_target c.args.target.now c.in-ToCall.name c.in-ToCall.args c.in-ToCall.is))) in
    subst (λ (f : Found). IfOk c.call_named.result (λ made. made ≡ made_of f)) called c.call_named.ensures.made

pub returns-in-empty-clause-failures : goal.returns-in-empty-clause-failures
returns-in-empty-clause-failures g c =
    let setting = setting_of c.args.around.now in
    let names = c.args.locals.now in
    let want = c.args.want.now in
    let to = target_part c.args.target.now in
    let more = map further_part c.args.more.now in
    let value = part c.args.value.now in
    let args = map part c.in-ToCall.args in
    let called : call_named c.in-ToCall.name (map part c.as_slice.result.now ++ map part c.from_ref-back.result.now) setting names want
    ≡ assign_found c.args.place to more value setting names want =
    (λ j. call_named c.in-ToCall.name (map part (c.as_slice.ensures j) ++ map part (c.from_ref-back.ensures.value j)) setting names want)
    ∙ sym (assigned_call c.args.place to more value to.call c.in-ToCall.name args setting names want (none_further c.args.more.now c.in-empty.len_below)
    (ap (λ (p : TargetPart). p.call) (call_target c.args.target.now c.in-ToCall.name c.in-ToCall.args c.in-ToCall.is))) in
    subst (λ (f : Found). OnOk c.call_named.result (c.call_named.new.first.error ≡ first_failure c.args.first.now.error f.faults)) called
    c.call_named.ensures.failures

pub returns-in_default : goal.returns-in_default
returns-in_default g c =
    let setting = setting_of c.args.around.now in
    let names = c.args.locals.now in
    let want = c.args.want.now in
    let to = target_part c.args.target.now in
    let more = map further_part c.args.more.now in
    let value = part c.args.value.now in
    let plain : assign_found c.args.place to more value setting names want ≡ assign_to c.args.place (to.aim setting names) more value setting names want =
    assigned_plain c.args.place to more value to.call setting names want (no_call c.args.target.now c.in_default.not-ToCall) in
    record {
      made = subst (λ (f : Found). IfOk c.assign_to-in_default.result (λ made. made ≡ made_of f)) (sym plain) c.assign_to-in_default.ensures.made;
      failures = subst (λ (f : Found). OnOk c.assign_to-in_default.result
          (c.assign_to-in_default.new.first.error ≡ first_failure c.args.first.now.error f.faults)) (sym plain) c.assign_to-in_default.ensures.failures;
      locals = c.assign_to-in_default.ensures.locals;
    }
