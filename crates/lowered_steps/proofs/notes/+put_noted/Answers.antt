use Rattle.std.proofs.Common.{◌∙◌, ◌+◌, [], ◌++◌, refl, sym, ap, arith, take}
use Rattle.lowered_pieces.proofs.Emitting.{emits_as, emits_next, emits_none, ok_same}
use Rattle.lowered_pieces.specs.Emitted.{no_labels}
use Rattle.lowered_pieces.specs.Forms.{kit_at, known_noted, number_noted, noter_of}
use Rattle.lowered_pieces.specs.Places.{Temp, from}
use Rattle.lowered_steps.specs.Setting.{kit_for, number_for}
use Rattle.lowered_steps.specs.Stands.{depths_of}
use Rattle.lowered_steps.proofs.Noting.{integer_noted, bits_noted, vector_noted, parts_are_noted, no_integer, no_bits, no_vector, no_tuple, no_form}
use Rattle.lowered_steps.proofs.Noting.{each_more, each_done, each_whole}
use Rattle.lowered_steps.specs.Noting.{each_noted, taken_where, is_noting}
use Rattle.call_arguments.specs.Placing.{variable_in}
use Rattle.size_values.specs.declared.sized.Sized.{out-Sized}
use Rattle.lowered_steps.proofs.Lists.{got_item, got_none}
use Rattle.lowered_steps.proofs.notes.+put_noted.Goals as goal

pub put_noted-returns-in-Int : goal.put_noted-returns-in-Int
put_noted-returns-in-Int t c =
    ok_same c.put_integer.result c.args.coding.now c.put_integer.new.coding (λ name l. number_noted
    (kit_at (kit_for c.args.setting.now name) (depths_of c.args.levels.now)) (number_for c.args.setting.now) (variable_in c.in-Integer.number)
    (out-Sized c.args.sized.now) (from (kit_for c.args.setting.now name) c.args.place ((number_for c.args.setting.now) c.args.sized.now)))
    (λ name l. noter_of (kit_at (kit_for c.args.setting.now name) (depths_of c.args.levels.now)) (number_for c.args.setting.now) c.args.indices.now
    (from (kit_for c.args.setting.now name) c.args.place ((number_for c.args.setting.now) c.args.sized.now)) c.args.sized.now c.args.free) no_labels
    (λ name. sym (integer_noted (kit_at (kit_for c.args.setting.now name) (depths_of c.args.levels.now)) (number_for c.args.setting.now) c.args.indices.now
    c.in-Integer.number c.in-Integer.is (from (kit_for c.args.setting.now name) c.args.place ((number_for c.args.setting.now) c.args.sized.now))
    c.args.sized.now c.args.free)) c.put_integer.ensures

pub put_noted-returns-in_default-sized : goal.put_noted-returns-in_default-sized
put_noted-returns-in_default-sized t c =
    emits_as c.args.coding.now c.args.coding.now (λ name l. []) (λ name l. noter_of (kit_at (kit_for c.args.setting.now name) (depths_of
    c.args.levels.now)) (number_for c.args.setting.now) c.args.indices.now (from (kit_for c.args.setting.now name) c.args.place
    ((number_for c.args.setting.now) c.args.sized.now)) c.args.sized.now c.args.free) no_labels no_labels
    (λ name. sym (integer_noted (kit_at (kit_for c.args.setting.now name) (depths_of c.args.levels.now)) (number_for c.args.setting.now) c.args.indices.now
    c.in-Integer.number c.in-Integer.is (from (kit_for c.args.setting.now name) c.args.place ((number_for c.args.setting.now) c.args.sized.now))
    c.args.sized.now c.args.free ∙ no_integer (kit_at (kit_for c.args.setting.now name) (depths_of c.args.levels.now)) (number_for c.args.setting.now)
    (variable_in c.in-Integer.number) c.args.sized.now c.in_default-sized.not-Int (from (kit_for c.args.setting.now name) c.args.place
    ((number_for c.args.setting.now) c.args.sized.now))))
    (λ name. refl) (emits_none c.args.coding.now)

pub put_noted-returns-in-Bits-sized : goal.put_noted-returns-in-Bits-sized
put_noted-returns-in-Bits-sized t c =
    ok_same c.put_known.result c.args.coding.now c.put_known.new.coding (λ name l. known_noted
    (kit_at (kit_for c.args.setting.now name) (depths_of c.args.levels.now)) (number_for c.args.setting.now) (variable_in c.in-Bits.width)
    c.in-Bits-sized.known) (λ name l. noter_of (kit_at (kit_for c.args.setting.now name) (depths_of c.args.levels.now)) (number_for c.args.setting.now)
    c.args.indices.now (from (kit_for c.args.setting.now name) c.args.place ((number_for c.args.setting.now) c.args.sized.now)) c.args.sized.now
    c.args.free) no_labels
    (λ name. sym (bits_noted (kit_at (kit_for c.args.setting.now name) (depths_of c.args.levels.now)) (number_for c.args.setting.now) c.args.indices.now
    c.in-Bits.width c.in-Bits.is (from (kit_for c.args.setting.now name) c.args.place ((number_for c.args.setting.now) c.args.sized.now)) c.args.sized.now
    c.in-Bits-sized.known c.in-Bits-sized.is c.args.free)) c.put_known.ensures

pub put_noted-returns-in_default-sized-2 : goal.put_noted-returns-in_default-sized-2
put_noted-returns-in_default-sized-2 t c =
    emits_as c.args.coding.now c.args.coding.now (λ name l. []) (λ name l. noter_of (kit_at (kit_for c.args.setting.now name) (depths_of
    c.args.levels.now)) (number_for c.args.setting.now) c.args.indices.now (from (kit_for c.args.setting.now name) c.args.place
    ((number_for c.args.setting.now) c.args.sized.now)) c.args.sized.now c.args.free) no_labels no_labels
    (λ name. sym (no_bits (kit_at (kit_for c.args.setting.now name) (depths_of c.args.levels.now)) (number_for c.args.setting.now) c.args.indices.now
    c.in-Bits.width c.in-Bits.is c.args.sized.now c.in_default-sized-2.not-Bits (from (kit_for c.args.setting.now name) c.args.place
    ((number_for c.args.setting.now) c.args.sized.now)) c.args.free))
    (λ name. refl) (emits_none c.args.coding.now)

pub put_noted-returns-in-Vector-sized : goal.put_noted-returns-in-Vector-sized
put_noted-returns-in-Vector-sized t c =
    ok_same c.put_known-in-Vector-sized.result c.args.coding.now c.put_known-in-Vector-sized.new.coding
    (λ name l. known_noted (kit_at (kit_for c.args.setting.now name) (depths_of c.args.levels.now)) (number_for c.args.setting.now)
    (variable_in c.in-Vector.length) c.in-Vector-sized.known) (λ name l. noter_of (kit_at (kit_for c.args.setting.now name) (depths_of c.args.levels.now))
    (number_for c.args.setting.now) c.args.indices.now (from (kit_for c.args.setting.now name) c.args.place
    ((number_for c.args.setting.now) c.args.sized.now)) c.args.sized.now c.args.free) no_labels
    (λ name. sym (vector_noted (kit_at (kit_for c.args.setting.now name) (depths_of c.args.levels.now)) (number_for c.args.setting.now) c.args.indices.now
    c.in-Vector.length _ c.in-Vector.is (from (kit_for c.args.setting.now name) c.args.place
    ((number_for c.args.setting.now) c.args.sized.now)) c.args.sized.now c.in-Vector-sized.known _ c.in-Vector-sized.is
    c.args.free)) c.put_known-in-Vector-sized.ensures

pub put_noted-returns-in_default-sized-3 : goal.put_noted-returns-in_default-sized-3
put_noted-returns-in_default-sized-3 t c =
    emits_as c.args.coding.now c.args.coding.now (λ name l. []) (λ name l. noter_of (kit_at (kit_for c.args.setting.now name) (depths_of
    c.args.levels.now)) (number_for c.args.setting.now) c.args.indices.now (from (kit_for c.args.setting.now name) c.args.place
    ((number_for c.args.setting.now) c.args.sized.now)) c.args.sized.now c.args.free) no_labels no_labels
    (λ name. sym (no_vector (kit_at (kit_for c.args.setting.now name) (depths_of c.args.levels.now)) (number_for c.args.setting.now) c.args.indices.now
    c.in-Vector.length _ c.in-Vector.is c.args.sized.now c.in_default-sized-3.not-Vector
    (from (kit_for c.args.setting.now name) c.args.place ((number_for c.args.setting.now) c.args.sized.now)) c.args.free))
    (λ name. refl) (emits_none c.args.coding.now)

pub put_noted-returns-in_default-sized-4 : goal.put_noted-returns-in_default-sized-4
put_noted-returns-in_default-sized-4 t c =
    emits_as c.args.coding.now c.args.coding.now (λ name l. []) (λ name l. noter_of (kit_at (kit_for c.args.setting.now name) (depths_of
    c.args.levels.now)) (number_for c.args.setting.now) c.args.indices.now (from (kit_for c.args.setting.now name) c.args.place
    ((number_for c.args.setting.now) c.args.sized.now)) c.args.sized.now c.args.free) no_labels no_labels
    (λ name. sym (no_tuple (kit_at (kit_for c.args.setting.now name) (depths_of c.args.levels.now)) (number_for c.args.setting.now) c.args.indices.now
    c.in-Tuple.parts c.in-Tuple.is c.args.sized.now c.in_default-sized-4.not-Tuple (from (kit_for c.args.setting.now name) c.args.place
    ((number_for c.args.setting.now) c.args.sized.now)) c.args.free))
    (λ name. refl) (emits_none c.args.coding.now)

pub put_noted-returns-in_default : goal.put_noted-returns-in_default
put_noted-returns-in_default t c =
    emits_as c.args.coding.now c.args.coding.now (λ name l. []) (λ name l. noter_of (kit_at (kit_for c.args.setting.now name) (depths_of
    c.args.levels.now)) (number_for c.args.setting.now) c.args.indices.now (from (kit_for c.args.setting.now name) c.args.place
    ((number_for c.args.setting.now) c.args.sized.now)) c.args.sized.now c.args.free) no_labels no_labels
    (λ name. sym (no_form (kit_at (kit_for c.args.setting.now name) (depths_of c.args.levels.now)) (number_for c.args.setting.now) c.args.indices.now
    c.in_default.not-Integer c.in_default.not-Bits c.in_default.not-Vector c.in_default.not-Tuple (from (kit_for c.args.setting.now name) c.args.place
    ((number_for c.args.setting.now) c.args.sized.now)) c.args.sized.now c.args.free))
    (λ name. refl) (emits_none c.args.coding.now)

pub put_parts_noted-loop-at-init : goal.put_parts_noted-loop-at-init
put_parts_noted-loop-at-init t c =
    emits_none c.args.coding.now

pub put_noted-returns-in_ok-typ-in-Tuple-sized : goal.put_noted-returns-in_ok-typ-in-Tuple-sized
put_noted-returns-in_ok-typ-in-Tuple-sized t c =
    ok_same c.put_parts_noted.result c.args.coding.now c.put_parts_noted.new.coding (λ name l. each_noted
    (kit_at (kit_for c.args.setting.now name) (depths_of c.args.levels.now)) (number_for c.args.setting.now) c.as_slice-parts.result.now
    c.as_slice-types.result.now (from (kit_for c.args.setting.now name) c.args.place c.in_ok-typ-in-Tuple-sized.typ) c.args.free)
    (λ name l. noter_of (kit_at (kit_for c.args.setting.now name) (depths_of c.args.levels.now)) (number_for c.args.setting.now) c.args.indices.now
    (from (kit_for c.args.setting.now name) c.args.place ((number_for c.args.setting.now) c.args.sized.now)) c.args.sized.now c.args.free) no_labels
    (λ name. ap (λ us. each_noted (kit_at (kit_for c.args.setting.now name) (depths_of c.args.levels.now)) (number_for c.args.setting.now) us
    c.as_slice-types.result.now (from (kit_for c.args.setting.now name) c.args.place c.in_ok-typ-in-Tuple-sized.typ) c.args.free) c.as_slice-parts.ensures
    ∙ ap (λ us. each_noted (kit_at (kit_for c.args.setting.now name) (depths_of c.args.levels.now)) (number_for c.args.setting.now) c.in-Tuple.parts us
    (from (kit_for c.args.setting.now name) c.args.place c.in_ok-typ-in-Tuple-sized.typ) c.args.free) c.as_slice-types.ensures
    ∙ ap (λ k. each_noted (kit_at (kit_for c.args.setting.now name) (depths_of c.args.levels.now)) (number_for c.args.setting.now) c.in-Tuple.parts
    c.in-Tuple-sized.types (from (kit_for c.args.setting.now name) c.args.place k) c.args.free) c.in_ok-typ-in-Tuple-sized.ensures
    ∙ sym (parts_are_noted (kit_at (kit_for c.args.setting.now name) (depths_of c.args.levels.now)) (number_for c.args.setting.now) c.args.indices.now
    c.in-Tuple.parts c.in-Tuple.is (from (kit_for c.args.setting.now name) c.args.place ((number_for c.args.setting.now) c.args.sized.now))
    c.args.sized.now c.in-Tuple-sized.types c.in-Tuple-sized.is c.args.free)) c.put_parts_noted.ensures

pub put_parts_noted-returns-in-None : goal.put_parts_noted-returns-in-None
put_parts_noted-returns-in-None t c =
    emits_as c.args.coding.now c.loop-at.coding (λ name l. each_noted (kit_at (kit_for c.args.setting.now name) (depths_of c.args.levels.now))
    (number_for c.args.setting.now) (take c.loop-at.at c.args.parts.now) c.args.types.now (from (kit_for c.args.setting.now name) c.args.place c.args.typ)
    c.args.free) (λ name l. each_noted (kit_at (kit_for c.args.setting.now name) (depths_of c.args.levels.now)) (number_for c.args.setting.now)
    c.args.parts.now c.args.types.now (from (kit_for c.args.setting.now name) c.args.place c.args.typ) c.args.free) no_labels no_labels
    (λ name. each_done (kit_at (kit_for c.args.setting.now name) (depths_of c.args.levels.now)) (number_for c.args.setting.now) c.args.parts.now
    c.args.types.now c.loop-at.at (from (kit_for c.args.setting.now name) c.args.place c.args.typ) c.args.free (omega (arith, c.loop-at-test.true))
    (got_none c.args.types.now c.loop-at.at c.in-None.ensures.lookup.0)) (λ name. refl) c.loop-at.invariant

pub put_parts_noted-returns : goal.put_parts_noted-returns
put_parts_noted-returns t c =
    emits_as c.args.coding.now c.loop-at.coding (λ name l. each_noted (kit_at (kit_for c.args.setting.now name) (depths_of c.args.levels.now))
    (number_for c.args.setting.now) (take c.loop-at.at c.args.parts.now) c.args.types.now (from (kit_for c.args.setting.now name) c.args.place c.args.typ)
    c.args.free) (λ name l. each_noted (kit_at (kit_for c.args.setting.now name) (depths_of c.args.levels.now)) (number_for c.args.setting.now)
    c.args.parts.now c.args.types.now (from (kit_for c.args.setting.now name) c.args.place c.args.typ) c.args.free) no_labels no_labels
    (λ name. each_whole (kit_at (kit_for c.args.setting.now name) (depths_of c.args.levels.now)) (number_for c.args.setting.now) c.args.parts.now
    c.args.types.now c.loop-at.at (from (kit_for c.args.setting.now name) c.args.place c.args.typ) c.args.free c.loop-at-test.false) (λ name. refl)
    c.loop-at.invariant

pub put_parts_noted-loop-at-preserved : goal.put_parts_noted-loop-at-preserved
put_parts_noted-loop-at-preserved t c =
    emits_as c.args.coding.now c.put_noted.new.coding (λ name l. each_noted (kit_at (kit_for c.args.setting.now name) (depths_of c.args.levels.now))
    (number_for c.args.setting.now) (take c.loop-at.at c.args.parts.now) c.args.types.now (from (kit_for c.args.setting.now name) c.args.place c.args.typ)
    c.args.free ++ (taken_where (kit_at (kit_for c.args.setting.now name) (depths_of c.args.levels.now)) (number_for c.args.setting.now)
    c.gives_number-gives.result c.in-Some.sized.now c.in_ok-field-in-Some.field (from (kit_for c.args.setting.now name) c.args.place c.args.typ)
    c.args.free ++ noter_of (kit_at (kit_for c.args.setting.now name) (depths_of c.args.levels.now)) (number_for c.args.setting.now)
    c.index-parts-at.result (from (kit_for c.args.setting.now name) (Temp c.args.free) ((number_for c.args.setting.now) c.in-Some.sized.now))
    c.in-Some.sized.now c.in_ok-next-in-Some.next)) (λ name l. each_noted (kit_at (kit_for c.args.setting.now name) (depths_of c.args.levels.now))
    (number_for c.args.setting.now) (take (c.loop-at.at + 1) c.args.parts.now) c.args.types.now (from (kit_for c.args.setting.now name) c.args.place
    c.args.typ) c.args.free) no_labels no_labels
    (λ name. ap (λ b. each_noted (kit_at (kit_for c.args.setting.now name) (depths_of c.args.levels.now)) (number_for c.args.setting.now)
    (take c.loop-at.at c.args.parts.now) c.args.types.now (from (kit_for c.args.setting.now name) c.args.place c.args.typ) c.args.free ++
    (taken_where (kit_at (kit_for c.args.setting.now name) (depths_of c.args.levels.now)) (number_for c.args.setting.now) b c.in-Some.sized.now
    c.in_ok-field-in-Some.field (from (kit_for c.args.setting.now name) c.args.place c.args.typ) c.args.free ++ noter_of
    (kit_at (kit_for c.args.setting.now name) (depths_of c.args.levels.now)) (number_for c.args.setting.now) c.index-parts-at.result
    (from (kit_for c.args.setting.now name) (Temp c.args.free) ((number_for c.args.setting.now) c.in-Some.sized.now)) c.in-Some.sized.now
    c.in_ok-next-in-Some.next)) c.gives_number-gives.ensures ∙ ap (λ j. each_noted (kit_at (kit_for c.args.setting.now name) (depths_of c.args.levels.now))
    (number_for c.args.setting.now) (take c.loop-at.at c.args.parts.now) c.args.types.now (from (kit_for c.args.setting.now name) c.args.place c.args.typ)
    c.args.free ++ (taken_where (kit_at (kit_for c.args.setting.now name) (depths_of c.args.levels.now)) (number_for c.args.setting.now)
    (is_noting c.index-parts-at.result c.in-Some.sized.now) c.in-Some.sized.now j (from (kit_for c.args.setting.now name) c.args.place c.args.typ)
    c.args.free ++ noter_of (kit_at (kit_for c.args.setting.now name) (depths_of c.args.levels.now)) (number_for c.args.setting.now)
    c.index-parts-at.result (from (kit_for c.args.setting.now name) (Temp c.args.free) ((number_for c.args.setting.now) c.in-Some.sized.now))
    c.in-Some.sized.now c.in_ok-next-in-Some.next)) c.in_ok-field-in-Some.ensures
    ∙ ap (λ p. each_noted (kit_at (kit_for c.args.setting.now name) (depths_of c.args.levels.now)) (number_for c.args.setting.now)
    (take c.loop-at.at c.args.parts.now) c.args.types.now (from (kit_for c.args.setting.now name) c.args.place c.args.typ) c.args.free ++
    (taken_where (kit_at (kit_for c.args.setting.now name) (depths_of c.args.levels.now)) (number_for c.args.setting.now)
    (is_noting c.index-parts-at.result c.in-Some.sized.now) c.in-Some.sized.now c.loop-at.at (from (kit_for c.args.setting.now name) c.args.place
    c.args.typ) c.args.free ++ noter_of (kit_at (kit_for c.args.setting.now name) (depths_of c.args.levels.now)) (number_for c.args.setting.now)
    c.index-parts-at.result (from (kit_for c.args.setting.now name) (Temp c.args.free) ((number_for c.args.setting.now) c.in-Some.sized.now))
    c.in-Some.sized.now p)) c.in_ok-next-in-Some.ensures
    ∙ sym (each_more (kit_at (kit_for c.args.setting.now name) (depths_of c.args.levels.now)) (number_for c.args.setting.now) c.args.parts.now
    c.args.types.now c.loop-at.at c.index-parts-at.result c.in-Some.sized.now (from (kit_for c.args.setting.now name) c.args.place c.args.typ) c.args.free
    c.loop-at-test.true c.index-parts-at.is (got_item c.args.types.now c.loop-at.at c.in-Some.sized.now c.in-Some.ensures.lookup.0
    c.in-Some.ensures.lookup.1))) (λ name. refl)
    (emits_next c.args.coding.now c.loop-at.coding c.put_noted.new.coding (λ name. each_noted
    (kit_at (kit_for c.args.setting.now name) (depths_of c.args.levels.now)) (number_for c.args.setting.now) (take c.loop-at.at c.args.parts.now)
    c.args.types.now (from (kit_for c.args.setting.now name) c.args.place c.args.typ) c.args.free) (λ name.
    (taken_where (kit_at (kit_for c.args.setting.now name) (depths_of c.args.levels.now)) (number_for c.args.setting.now) c.gives_number-gives.result
    c.in-Some.sized.now c.in_ok-field-in-Some.field (from (kit_for c.args.setting.now name) c.args.place c.args.typ) c.args.free ++ noter_of
    (kit_at (kit_for c.args.setting.now name) (depths_of c.args.levels.now)) (number_for c.args.setting.now) c.index-parts-at.result
    (from (kit_for c.args.setting.now name) (Temp c.args.free) ((number_for c.args.setting.now) c.in-Some.sized.now)) c.in-Some.sized.now
    c.in_ok-next-in-Some.next)) c.loop-at.invariant
    (emits_next c.loop-at.coding c.put_where.new.coding c.put_noted.new.coding (λ name. taken_where
    (kit_at (kit_for c.args.setting.now name) (depths_of c.args.levels.now)) (number_for c.args.setting.now) c.gives_number-gives.result
    c.in-Some.sized.now c.in_ok-field-in-Some.field (from (kit_for c.args.setting.now name) c.args.place c.args.typ) c.args.free)
    (λ name. noter_of (kit_at (kit_for c.args.setting.now name) (depths_of c.args.levels.now)) (number_for c.args.setting.now) c.index-parts-at.result
    (from (kit_for c.args.setting.now name) (Temp c.args.free) ((number_for c.args.setting.now) c.in-Some.sized.now)) c.in-Some.sized.now
    c.in_ok-next-in-Some.next) c.in_ok-put_where-in-Some.ensures c.in_ok-put_noted-in-Some.ensures))
