use Rattle.std.proofs.Common.{◌∙◌, ap, refl, List, ◌++◌}
use Rattle.std.specs.Prelude.{Option}
use Rattle.size_values.specs.declared.constants.Picked.{Picked}
use Rattle.monomorph.specs.Reading.{inside_of}
use Rattle.sized_nodes.specs.declared.trees.Lead.{Lead}
use Rattle.sized_trees.specs.Cases.{lead_under, leads_under, one_or_none}
use Rattle.sized_trees.proofs.Noted.{rest_next}
use Rattle.sized_trees.proofs.leads.leads_under.Goals as goal

pub loop-picked-preserved : goal.loop-picked-preserved
loop-picked-preserved c =
    let l = c.loop-picked in
    let r = inside_of c.args.inside.now in
    let list = c.args.list.now in
    let call = c.args.call.now in
    let under : List Picked → Option Lead = λ ps. lead_under r list call.operands.now call.function call.numbers.now call.types.now ps in
    rest_next (λ ps. one_or_none (under ps)) (leads_under r list call.operands.now call.function call.numbers.now call.types.now) (λ ps more. refl)
    c.args.combinations.now l.picked-index c.picked-item.result l.leads c.push_lead.new.leads _ c.loop-picked-test.true c.picked-item.is
    (c.in_ok-push_lead.ensures
    ∙ ap (λ (o : Option Lead). l.leads ++ one_or_none o) (c.in_ok-lead.ensures ∙ ap (λ (ps : List Picked). under ps) c.as_slice.ensures))
    l.invariant
