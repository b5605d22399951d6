use Rattle.std.proofs.Common.{◌∙◌, ap, sym, Bool, List}
use Rattle.size_values.specs.declared.constants.Picked.{Picked}
use Rattle.monomorph.specs.Reading.{inside_of}
use Rattle.tabled_cores.specs.Notes.{has_lead}
use Rattle.tabled_cores.proofs.Rests.{all_false, all_true}
use Rattle.tabled_cores.proofs.calls.all_have_leads.Goals as goal

pub returns-then-not-branch : goal.returns-then-not-branch
returns-then-not-branch c =
    let call = c.args.call.now in
    let f : List Picked → Bool =
    λ ps. has_lead (inside_of c.args.inside.now) c.args.list.now call.operands.now call.function call.numbers.now call.types.now ps in
    all_false f c.args.combinations.now c.loop-picked.picked-index c.picked-item.result _ c.loop-picked-test.true c.picked-item.is c.loop-picked.invariant
    (sym (c.in_ok-has_lead.ensures ∙ ap f c.as_slice.ensures) ∙ c.if-not-branch.true)

pub loop-picked-preserved : goal.loop-picked-preserved
loop-picked-preserved c =
    let call = c.args.call.now in
    let f : List Picked → Bool =
    λ ps. has_lead (inside_of c.args.inside.now) c.args.list.now call.operands.now call.function call.numbers.now call.types.now ps in
    all_true f c.args.combinations.now c.loop-picked.picked-index c.picked-item.result _ c.loop-picked-test.true c.picked-item.is c.loop-picked.invariant
    (sym (c.in_ok-has_lead.ensures ∙ ap f c.as_slice.ensures) ∙ c.if-not-branch.false)
