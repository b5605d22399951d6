use Rattle.std.proofs.Common.{◌≡◌, ◌∙◌, ap, sym, subst, Bool}
use Rattle.std.specs.Prelude.{IfOk}
use Rattle.value_indices.specs.Walking.{begun}
use Rattle.size_splits.specs.Reading.{in_steps}
use Rattle.size_splits.proofs.Notes.{notes_in}
use Rattle.size_splits.proofs.sizing.in_body.Goals as goal

pub returns : goal.returns
returns c =
    let types = c.args.types.now in
    let sizing = c.args.sizing.now in
    let b = c.args.body.now in
    subst (λ (is : Bool). IfOk c.in_steps.result (λ made. made ≡ is))
    (ap (in_steps types sizing b.variables c.args.variable) c.as_slice-steps.ensures
    ∙ sym (notes_in types sizing b.variables c.args.variable (begun 0) b.steps)) c.in_steps.ensures
