use Rattle.std.proofs.Common.{◌≡◌, ◌∙◌, ◌+◌, ◌-◌, ◌++◌, ◌∷◌, [], ap, sym, append_assoc, append-nil}
use Rattle.wide_types.specs.Widening.{shape_or_hole, variable_shapes}
use Rattle.wide_types.proofs.FirstPlaces.{shapes_end, shapes_more}
use Rattle.wide_types.proofs.shaped.variable_shapes.Goals as goal

pub loop-variable-preserved : goal.loop-variable-preserved
loop-variable-preserved c =
    let k = c.loop-variable.variable in
    let n = c.args.count in
    let t = c.args.typ.now in
    let s = c.args.shape.now in
    let rest = variable_shapes (k + 1) (n - (k + 1)) t s in
    let one = c.in_ok-shape_or_hole.ensures ∙ ap shape_or_hole c.shaped.ensures in
    let opens : variable_shapes k (n - k) t s ≡ c.in_ok-shape_or_hole.field-0 ∷ rest =
    shapes_more k n t s c.loop-variable-test.true ∙ ap (λ x. x ∷ rest) (sym one) in
    ap (λ l. l ++ rest) c.in_ok-push.ensures.pushed ∙ append_assoc c.loop-variable.made (c.in_ok-shape_or_hole.field-0 ∷ []) rest
    ∙ ap (λ l. c.loop-variable.made ++ l) (sym opens) ∙ c.loop-variable.invariant

pub returns : goal.returns
returns c =
    let k = c.loop-variable.variable in
    let n = c.args.count in
    let none = shapes_end k n c.args.typ.now c.args.shape.now c.loop-variable-test.false in
    sym (append-nil c.loop-variable.made) ∙ ap (λ l. c.loop-variable.made ++ l) (sym none) ∙ c.loop-variable.invariant
