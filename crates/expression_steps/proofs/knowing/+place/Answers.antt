use Rattle.std.proofs.Common.{◌∙◌, ap, sym}
use Rattle.sail_core.specs.declared.tree.Core.{out-Core}
use Rattle.sail_core.specs.declared.tree.Kind.{Kind}
use Rattle.expression_steps.specs.Coded.{each_part}
use Rattle.expression_steps.specs.Expressions.{kind_place}
use Rattle.expression_steps.proofs.Opened.{place_is}
use Rattle.expression_steps.proofs.knowing.+place.Goals as goal

pub place_of-returns-in-When : goal.place_of-returns-in-When
place_of-returns-in-When t c =
    let core = c.args.core.now in
    let ps = c.as_slice.result.now in
    c.guarded_place.ensures
    ∙ sym (place_is core ps c.as_slice.ensures ∙ ap (λ (k : Kind). kind_place (out-Core core).place k (each_part ps)) c.in-When.is)
