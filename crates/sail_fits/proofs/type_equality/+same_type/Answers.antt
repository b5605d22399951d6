use Rattle.std.proofs.Common.{◌≡◌, ◌∙◌, get_or, subst, sym, arith}
use Rattle.sail_fits.proofs.UnnamedTypes.{exists_same, list_same, named_same, same_at, same_more, tuple_same, vector_same}
use Rattle.sail_fits.proofs.type_equality.+same_type.Goals as goal

pub same_type-returns-in-List-List : goal.same_type-returns-in-List-List
same_type-returns-in-List-List t c =
    list_same _ _ _ _ _ _ _ c.in-List-List.is-0 c.in-List-List.is-1 c.get.ensures c.get-in-List-List.ensures c.same_type.ensures

pub same_type-returns-in-Vector-Vector : goal.same_type-returns-in-Vector-Vector
same_type-returns-in-Vector-Vector t c =
    vector_same _ _ _ _ _ _ _ _ _ _ _ c.in-Vector-Vector.is-0 c.in-Vector-Vector.is-1 c.get-in-Vector-Vector.ensures
    c.get-in-Vector-Vector-2.ensures c.both-in-Vector-Vector.ensures c.same_num-in-Vector-Vector.ensures c.same_type-in-Vector-Vector.ensures

pub same_type-returns-in-Tuple-Tuple : goal.same_type-returns-in-Tuple-Tuple
same_type-returns-in-Tuple-Tuple t c =
    tuple_same _ _ _ _ _ _ _ c.in-Tuple-Tuple.is-0 c.in-Tuple-Tuple.is-1 c.as_slice.ensures c.as_slice-in-Tuple-Tuple.ensures c.same_types.ensures

pub same_type-returns-in-Named-Named : goal.same_type-returns-in-Named-Named
same_type-returns-in-Named-Named t c =
    named_same _ _ _ _ _ _ _ _ _ _ _ _ _ _ _ _ _ c.in-Named-Named.is-0 c.in-Named-Named.is-1 c.as_slice-in-Named-Named.ensures
    c.as_slice-in-Named-Named-2.ensures c.as_slice-in-Named-Named-3.ensures c.as_slice-in-Named-Named-4.ensures c.both-in-Named-Named-2.ensures
    c.both-in-Named-Named.ensures c.same_place.ensures c.same_indices.ensures c.same_types-in-Named-Named.ensures

pub same_type-returns-in-Exists-Exists : goal.same_type-returns-in-Exists-Exists
same_type-returns-in-Exists-Exists t c =
    exists_same _ _ _ _ _ _ _ _ _ _ _ _ _ c.in-Exists-Exists.is-0 c.in-Exists-Exists.is-1 c.get-in-Exists-Exists.ensures
    c.get-in-Exists-Exists-2.ensures c.both-in-Exists-Exists.ensures c.same_con-in-Exists-Exists.ensures c.same_type-in-Exists-Exists.ensures

pub same_types-returns-then-not-same_type : goal.same_types-returns-then-not-same_type
same_types-returns-then-not-same_type t c =
    let here = c.loop-item.invariant.here in
    let a = subst (λ i. c.item-item.result ≡ get_or c.args.a.now i c.item-item.result) (sym here) c.item-item.is in (
      (λ h. absurd (cc)),
      (λ h. sym c.if-not-same_type.true ∙ c.same_type.ensures.1 (same_at _ _ c.loop-item.at _ _ (omega arith) a c.index-b-at.is h)),
    )

pub same_types-loop-item-preserved : goal.same_types-loop-item-preserved
same_types-loop-item-preserved t c =
    let here = c.loop-item.invariant.here in
    let a = subst (λ i. c.item-item.result ≡ get_or c.args.a.now i c.item-item.result) (sym here) c.item-item.is in
    record {
      here = omega arith;
      lengths = c.loop-item.invariant.lengths;
      before = same_more _ _ _ _ _ (omega arith) (omega arith) a c.index-b-at.is (c.same_type.ensures.0 c.if-not-same_type.false) c.loop-item.invariant.before;
    }
