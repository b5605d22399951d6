use Rattle.std.proofs.Common.{◌∙◌, ap, sym}
use Rattle.value_indices.specs.Steps.{Walk}
use Rattle.value_indices.specs.Walking.{run, seen}
use Rattle.call_arguments.proofs.Lists.{left}
use Rattle.call_notes.specs.Noted.{number_given}
use Rattle.call_notes.proofs.Givens.{bits_given, given_end, given_more, integer_given, none_given, tuple_given, vector_given}
use Rattle.call_notes.proofs.noted.+numbers_given.Goals as goal

pub give_numbers-returns-in-Integer : goal.give_numbers-returns-in-Integer
give_numbers-returns-in-Integer t c =
    let w = seen c.args.walking.now in
    left c.give_variable.result (seen c.give_variable.new.walking) _ _ c.give_variable.ensures
    ((λ j. run (number_given (c.number_variable.ensures j)) w)
    ∙ sym (ap (λ (a : Walk (Unit {0})). run a w) (integer_given c.args.value.now _ c.in-Integer.is)))

pub give_numbers-returns-in-Bits : goal.give_numbers-returns-in-Bits
give_numbers-returns-in-Bits t c =
    let w = seen c.args.walking.now in
    left c.give_variable-in-Bits.result (seen c.give_variable-in-Bits.new.walking) _ _ c.give_variable-in-Bits.ensures
    ((λ j. run (number_given (c.number_variable-in-Bits.ensures j)) w)
    ∙ sym (ap (λ (a : Walk (Unit {0})). run a w) (bits_given c.args.value.now _ c.in-Bits.is)))

pub give_numbers-returns-in-Vector : goal.give_numbers-returns-in-Vector
give_numbers-returns-in-Vector t c =
    let w = seen c.args.walking.now in
    left c.give_variable-in-Vector.result (seen c.give_variable-in-Vector.new.walking) _ _ c.give_variable-in-Vector.ensures
    ((λ j. run (number_given (c.number_variable-in-Vector.ensures j)) w)
    ∙ sym (ap (λ (a : Walk (Unit {0})). run a w) (vector_given c.args.value.now _ _ c.in-Vector.is)))

pub give_numbers-returns-in-Tuple : goal.give_numbers-returns-in-Tuple
give_numbers-returns-in-Tuple t c =
    let w = seen c.args.walking.now in
    left c.give_each.result (seen c.give_each.new.walking) _ _ c.give_each.ensures
    (sym (ap (λ (a : Walk (Unit {0})). run a w) (tuple_given c.args.value.now _ _ c.in-Tuple.is c.as_slice.ensures)))

pub give_numbers-returns-in_default : goal.give_numbers-returns-in_default
give_numbers-returns-in_default t c =
    none_given c.args.value.now (seen c.args.walking.now) c.in_default.not-Integer c.in_default.not-Bits c.in_default.not-Vector
    c.in_default.not-Tuple

pub give_each-loop-part-preserved : goal.give_each-loop-part-preserved
give_each-loop-part-preserved t c =
    given_more c.args.parts.now c.loop-part.part-index c.part-item.result (seen c.loop-part.walking) (seen c.give_numbers.new.walking)
    c.loop-part-test.true c.part-item.is c.in_ok-give_numbers.ensures
    ∙ c.loop-part.invariant

pub give_each-returns : goal.give_each-returns
give_each-returns t c =
    sym (given_end c.args.parts.now c.loop-part.part-index (seen c.loop-part.walking) c.loop-part-test.false) ∙ c.loop-part.invariant
