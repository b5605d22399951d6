use Rattle.std.proofs.Common.{◌≡◌, ◌∙◌, ◌+◌, ◌∷◌, drop, ap, sym}
use Rattle.call_arguments.specs.Callees.{numbers_from}
use Rattle.call_arguments.proofs.Lists.{pushed_more, pushed_all}
use Rattle.call_arguments.proofs.Numbered.{numbers_more, numbers_end}
use Rattle.call_arguments.proofs.callees.numbers_from.Goals as goal

pub loop-position-preserved : goal.loop-position-preserved
loop-position-preserved c =
    let k = c.loop-position.position in
    let ps = c.args.variables.now in
    let ts = c.args.types.now in
    let is = c.args.arguments.now in
    let rest = numbers_from (k + 1) (drop (k + 1) ps) ts is in
    let whole = numbers_from k (drop k ps) ts is in
    let opens : whole ≡ c.in_ok-number_at.field-0 ∷ rest =
    numbers_more ps k c.index-variables-position.result ts is c.loop-position-test.true c.index-variables-position.is
    ∙ ap (λ x. x ∷ rest) (sym c.in_ok-number_at.ensures) in
    pushed_more c.loop-position.made c.push.new.self c.in_ok-number_at.field-0 rest whole (numbers_from 0 ps ts is)
    c.in_ok-push.ensures.pushed opens c.loop-position.invariant

pub returns : goal.returns
returns c =
    let k = c.loop-position.position in
    let ps = c.args.variables.now in
    let ts = c.args.types.now in
    let is = c.args.arguments.now in
    pushed_all c.loop-position.made (numbers_from k (drop k ps) ts is) (numbers_from 0 ps ts is) (numbers_end ps k ts is c.loop-position-test.false)
    c.loop-position.invariant
