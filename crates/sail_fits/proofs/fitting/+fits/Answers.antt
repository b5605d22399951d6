use Rattle.std.proofs.Common.{◌≡◌, ◌∙◌, ap, arith, get_or, map, subst, sym}
use Rattle.sail_types.specs.Shapes.{each_fits, fits}
use Rattle.sail_fits.proofs.HeadShapes.{listed_under}
use Rattle.sail_fits.proofs.Nexts.{next_fails, next_fits}
use Rattle.sail_fits.proofs.fitting.+fits.Goals as goal

pub parts_fit-returns-in-Types : goal.parts_fit-returns-in-Types
parts_fit-returns-in-Types t c =
    c.types_fit.ensures ∙ ap (each_fits (map (fits c.args.types.now) c.args.values.now)) (sym (listed_under _ _ _ c.in-Types.is))

pub types_fit-returns-then-not-head_fits : goal.types_fit-returns-then-not-head_fits
types_fit-returns-then-not-head_fits t c =
    let v = subst (λ i. c.value-item.result ≡ get_or c.args.values.now i c.value-item.result) (sym c.loop-value.invariant.here) c.value-item.is in
    sym (next_fails _ _ c.args.values.now c.args.parts.now c.loop-value.index _ _ _ _ (omega arith) (omega arith) v
    c.index-parts-index.is c.head_fits.ensures c.head_of_typ.ensures c.if-not-head_fits.true)
    ∙ c.loop-value.invariant.rest

pub types_fit-loop-value-preserved : goal.types_fit-loop-value-preserved
types_fit-loop-value-preserved t c =
    let v = subst (λ i. c.value-item.result ≡ get_or c.args.values.now i c.value-item.result) (sym c.loop-value.invariant.here) c.value-item.is in
    record {
      here = omega arith;
      lengths = c.loop-value.invariant.lengths;
      rest = next_fits _ _ c.args.values.now c.args.parts.now c.loop-value.index _ _ _ _ (omega arith) (omega arith) v
          c.index-parts-index.is c.head_fits.ensures c.head_of_typ.ensures c.if-not-head_fits.false ∙ c.loop-value.invariant.rest;
    }
