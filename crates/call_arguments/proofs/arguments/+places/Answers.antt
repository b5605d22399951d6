use Rattle.std.proofs.Common.{◌∙◌, ap, map, arith}
use Rattle.value_fits.specs.Fitting.{fits}
use Rattle.call_arguments.specs.Placing.{Placing, each_placing, parameter_fits}
use Rattle.call_arguments.proofs.Lists.{found, left}
use Rattle.call_arguments.proofs.Parameters.{bits_is, bool_is, int_is, items_are, no_parts, other_is, parts_are}
use Rattle.call_arguments.proofs.Placed.{each_more, each_all, first_placed}
use Rattle.call_arguments.proofs.arguments.+places.Goals as goal

pub parameter_fits-returns-in-Int : goal.parameter_fits-returns-in-Int
parameter_fits-returns-in-Int t c =
    let is = int_is (fits c.args.types.now) c.args.indices.now c.args.readings.now c.args.known.now c.args.value.now c.args.next c.args.typ.now
    c.in-Int.wanted c.in-Int.is in
    record {
      fitted = found c.int_fits.result _ _ c.int_fits.ensures.fitted (ap (λ (p : Placing). p.fitted) is);
      placed = left c.int_fits.result c.int_fits.new.known _ _ c.int_fits.ensures.placed (ap (λ (p : Placing). p.placed) is);
    }

pub parameter_fits-returns-in-Bits : goal.parameter_fits-returns-in-Bits
parameter_fits-returns-in-Bits t c =
    let is = bits_is (fits c.args.types.now) c.args.indices.now c.args.readings.now c.args.known.now c.args.value.now c.args.next c.args.typ.now
    c.in-Bits.wanted c.in-Bits.is in
    record {
      fitted = found c.bits_fits.result _ _ c.bits_fits.ensures.fitted (ap (λ (p : Placing). p.fitted) is);
      placed = left c.bits_fits.result c.bits_fits.new.known _ _ c.bits_fits.ensures.placed (ap (λ (p : Placing). p.placed) is);
    }

pub parameter_fits-returns-in-Truth : goal.parameter_fits-returns-in-Truth
parameter_fits-returns-in-Truth t c =
    let is = bool_is (fits c.args.types.now) c.args.indices.now c.args.readings.now c.args.known.now c.args.value.now c.args.next c.args.typ.now
    c.in-Truth.wanted c.in-Truth.is in
    record {
      fitted = found c.bool_fits.result _ _ c.bool_fits.ensures.fitted (ap (λ (p : Placing). p.fitted) is);
      placed = left c.bool_fits.result c.bool_fits.new.known _ _ c.bool_fits.ensures.placed (ap (λ (p : Placing). p.placed) is);
    }

pub parameter_fits-returns-in-Vector : goal.parameter_fits-returns-in-Vector
parameter_fits-returns-in-Vector t c =
    let is = items_are (fits c.args.types.now) c.args.indices.now c.args.readings.now c.args.known.now c.args.value.now c.args.next c.args.typ.now
    c.in-Vector.wanted c.in-Vector.item c.get.result.now c.in-Vector.is c.get.ensures in
    record {
      fitted = found c.items_fit.result _ _ c.items_fit.ensures.fitted (ap (λ (p : Placing). p.fitted) is);
      placed = left c.items_fit.result c.items_fit.new.known _ _ c.items_fit.ensures.placed (ap (λ (p : Placing). p.placed) is);
    }

pub parameter_fits-returns-in-Tuple-value : goal.parameter_fits-returns-in-Tuple-value
parameter_fits-returns-in-Tuple-value t c =
    let is = parts_are (fits c.args.types.now) c.args.indices.now c.args.readings.now c.args.known.now c.args.value.now c.args.next c.args.typ.now
    c.in-Tuple.parts c.as_slice.result.now c.in-Tuple-value.values c.as_slice-in-Tuple-value.result.now c.in-Tuple.is c.in-Tuple-value.is c.as_slice.ensures
    c.as_slice-in-Tuple-value.ensures in
    record {
      fitted = found c.tuple_fits.result _ _ c.tuple_fits.ensures.fitted (ap (λ (p : Placing). p.fitted) is);
      placed = left c.tuple_fits.result c.tuple_fits.new.known _ _ c.tuple_fits.ensures.placed (ap (λ (p : Placing). p.placed) is);
    }

pub parameter_fits-returns-in_default-value : goal.parameter_fits-returns-in_default-value
parameter_fits-returns-in_default-value t c =
    let is = no_parts (fits c.args.types.now) c.args.indices.now c.args.readings.now c.args.known.now c.args.value.now c.args.next c.args.typ.now
    c.in-Tuple.parts c.in-Tuple.is c.in_default-value.not-Tuple in
    record {
      fitted = found c.whole_fits.result _ _ c.whole_fits.ensures.fitted (ap (λ (p : Placing). p.fitted) is);
      placed = left c.whole_fits.result c.whole_fits.new.known _ _ c.whole_fits.ensures.placed (ap (λ (p : Placing). p.placed) is);
    }

pub parameter_fits-returns-in_default : goal.parameter_fits-returns-in_default
parameter_fits-returns-in_default t c =
    let is = other_is (fits c.args.types.now) c.args.indices.now c.args.readings.now c.args.known.now c.args.value.now c.args.next c.args.typ.now
    c.in_default.not-Int c.in_default.not-Bits c.in_default.not-Truth c.in_default.not-Vector c.in_default.not-Tuple in
    record {
      fitted = found c.whole_fits-in_default.result _ _ c.whole_fits-in_default.ensures.fitted (ap (λ (p : Placing). p.fitted) is);
      placed = left c.whole_fits-in_default.result c.whole_fits-in_default.new.known _ _ c.whole_fits-in_default.ensures.placed
          (ap (λ (p : Placing). p.placed) is);
    }

pub each_fits-loop-index-init : goal.each_fits-loop-index-init
each_fits-loop-index-init t c =
    first_placed c.args.known.now c.args.next _
    (each_placing (map (parameter_fits (fits c.args.types.now) c.args.indices.now c.args.readings.now) c.args.parts.now) c.args.values.now)
    c.nothing-made.ensures

pub each_fits-loop-index-preserved : goal.each_fits-loop-index-preserved
each_fits-loop-index-preserved t c =
    let one = parameter_fits (fits c.args.types.now) c.args.indices.now c.args.readings.now in
    each_more one c.args.parts.now c.args.values.now c.loop-index.index _ _ c.loop-index.known c.parameter_fits.new.known c.loop-index.made _ _
    (omega arith) (omega arith) c.index-parts-index.is c.index-values-index.is
    c.in_ok-more.ensures.fitted c.in_ok-more.ensures.placed c.in_ok-made.ensures
    ∙ c.loop-index.invariant

pub each_fits-returns : goal.each_fits-returns
each_fits-returns t c =
    let one = parameter_fits (fits c.args.types.now) c.args.indices.now c.args.readings.now in
    let whole = each_all one c.args.parts.now c.args.values.now c.loop-index.index c.loop-index.known c.loop-index.made _ (omega arith)
    c.loop-index.invariant in
    record { fitted = ap (λ (p : Placing). p.fitted) whole; placed = ap (λ (p : Placing). p.placed) whole }
