use Rattle.std.proofs.Common.{◌≡◌, ◌∙◌, ◌+◌, ◌-◌, ◌∷◌, ap, sym}
use Rattle.call_arguments.specs.Callees.{types_from}
use Rattle.call_arguments.proofs.Lists.{pushed_more, pushed_all}
use Rattle.call_arguments.proofs.TypeVariables.{types_more, types_end}
use Rattle.call_arguments.proofs.typed.types_from.Goals as goal

pub loop-variable-preserved : goal.loop-variable-preserved
loop-variable-preserved c =
    let k = c.loop-variable.variable in
    let m = c.args.from in
    let n = c.args.count in
    let ts = c.args.types.now in
    let is = c.args.arguments.now in
    let rest = types_from m (k + 1) (n - (k + 1)) ts is in
    let whole = types_from m k (n - k) ts is in
    let opens : whole ≡ c.in_ok-type_at.field-0 ∷ rest =
    types_more m k n ts is c.loop-variable-test.true ∙ ap (λ x. x ∷ rest) (sym c.in_ok-type_at.ensures) in
    pushed_more c.loop-variable.made c.push.new.self c.in_ok-type_at.field-0 rest whole (types_from m 0 n ts is)
    c.in_ok-push.ensures.pushed opens c.loop-variable.invariant

pub returns : goal.returns
returns c =
    let k = c.loop-variable.variable in
    let m = c.args.from in
    let n = c.args.count in
    let ts = c.args.types.now in
    let is = c.args.arguments.now in
    pushed_all c.loop-variable.made (types_from m k (n - k) ts is) (types_from m 0 n ts is) (types_end m k n ts is c.loop-variable-test.false)
    c.loop-variable.invariant
