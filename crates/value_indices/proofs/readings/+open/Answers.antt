use Rattle.std.proofs.Common.{◌≡◌, ◌∙◌, ◌+◌, ◌*◌, ◌≤◌, ap, sym, refl, subst, length, slice_get, Some, None, IfOk, OnOk, arith}
use Rattle.std.proofs.lemmas.Option.{slice_get_read}
use Rattle.std.specs.Option.{option_copied}
use Rattle.sail_types.proofs.types.Typ.TheLaws.{the_size}
use Rattle.sail_types.specs.declared.types.Typ.{Typ}
use Rattle.value_indices.specs.Opening.{Opening, typ_opened, opening, with_openings, namings_of}
use Rattle.value_indices.specs.Walking.{got, run, seen}
use Rattle.value_indices.proofs.Openings.{free_value, free_walked, stood_for}
use Rattle.value_indices.proofs.Parts.{parts_value, parts_walked, parts_value_end, parts_walked_end}
use Rattle.value_indices.proofs.Weights.{weight, heaviest, heaviest_at}
use Rattle.value_indices.proofs.readings.+open.Goals as goal

-- ---- a tuple of readings

pub open_readings-open_reading-requires : goal.open_readings-open_reading-requires
open_readings-open_reading-requires t c =
    let rs = c.args.readings.now in
    let k = c.loop-reading.reading-index in
    let r = c.reading-item.result in
    let measure : heaviest rs + 1 ≡ t = c.decreases in
    let part : weight r ≤ heaviest rs =
    heaviest_at rs k r (slice_get_read rs (length rs) k r refl c.loop-reading-test.true c.reading-item.is) in
    (omega (arith, measure, part), tt)

pub open_readings-loop-reading-preserved : goal.open_readings-loop-reading-preserved
open_readings-loop-reading-preserved t c =
    let l = c.loop-reading in
    let tells = c.args.tells in
    let rs = c.args.readings.now in
    let ns = namings_of c.args.naming.now in
    let x = c.reading-item.result in
    let name = c.part_naming-name.result.now in
    let w = seen l.walked in
    let v = seen c.open_reading.new.walked in
    let found = c.in_ok-open_reading.ensures in
    record {
      here = ap (λ k. k + 1) l.invariant.here;
      value = parts_value tells opening rs ns l.reading-index x l.at name w v c.loop-reading-test.true c.reading-item.is l.invariant.here
          c.part_naming-name.ensures found.walked l.made c.push.new.self _ c.in_ok-open_reading.field-0 found.value c.in_ok-push.ensures.pushed
          l.invariant.value;
      walked = parts_walked tells opening rs ns l.reading-index x l.at name w v c.loop-reading-test.true c.reading-item.is l.invariant.here
          c.part_naming-name.ensures found.walked _ l.invariant.walked;
    }

pub open_readings-returns-clause-value : goal.open_readings-returns-clause-value
open_readings-returns-clause-value t c =
    let l = c.loop-reading in
    parts_value_end c.args.tells opening c.args.readings.now (namings_of c.args.naming.now) l.reading-index (seen l.walked) c.loop-reading-test.false
    l.made _ l.invariant.value

pub open_readings-returns-clause-walked : goal.open_readings-returns-clause-walked
open_readings-returns-clause-walked t c =
    let l = c.loop-reading in
    parts_walked_end c.args.tells opening c.args.readings.now (namings_of c.args.naming.now) l.reading-index (seen l.walked) c.loop-reading-test.false
    _ l.invariant.walked

-- ---- a tuple of types

pub open_types-loop-typ-preserved : goal.open_types-loop-typ-preserved
open_types-loop-typ-preserved t c =
    let l = c.loop-typ in
    let tells = c.args.tells in
    let f : Typ → Opening = λ typ. typ_opened (with_openings c.args.readings.now) typ c.args.indices.now in
    let ts = c.args.types.now in
    let ns = namings_of c.args.naming.now in
    let x = c.typ-item.result in
    let name = c.part_naming-name.result.now in
    let w = seen l.walked in
    let v = seen c.open_typ.new.walked in
    let found = c.in_ok-open_typ.ensures in
    record {
      here = ap (λ k. k + 1) l.invariant.here;
      value = parts_value tells f ts ns l.typ-index x l.at name w v c.loop-typ-test.true c.typ-item.is l.invariant.here
          c.part_naming-name.ensures found.walked l.made c.push.new.self _ c.in_ok-open_typ.field-0 found.value c.in_ok-push.ensures.pushed
          l.invariant.value;
      walked = parts_walked tells f ts ns l.typ-index x l.at name w v c.loop-typ-test.true c.typ-item.is l.invariant.here
          c.part_naming-name.ensures found.walked _ l.invariant.walked;
    }

pub open_types-returns-clause-value : goal.open_types-returns-clause-value
open_types-returns-clause-value t c =
    let l = c.loop-typ in
    let f : Typ → Opening = λ typ. typ_opened (with_openings c.args.readings.now) typ c.args.indices.now in
    parts_value_end c.args.tells f c.args.types.now (namings_of c.args.naming.now) l.typ-index (seen l.walked) c.loop-typ-test.false l.made _
    l.invariant.value

pub open_types-returns-clause-walked : goal.open_types-returns-clause-walked
open_types-returns-clause-walked t c =
    let l = c.loop-typ in
    let f : Typ → Opening = λ typ. typ_opened (with_openings c.args.readings.now) typ c.args.indices.now in
    parts_walked_end c.args.tells f c.args.types.now (namings_of c.args.naming.now) l.typ-index (seen l.walked) c.loop-typ-test.false _
    l.invariant.walked

-- ---- a Type variable

pub open_typ-open_reading-requires : goal.open_typ-open_reading-requires
open_typ-open_reading-requires t c =
    let rs = c.args.readings.now in
    let k = c.in-Variable.position in
    let r = c.in-Some.reading.now in
    let measure : 2 * the_size c.args.typ.now + heaviest rs + 1 ≡ t = c.decreases in
    let found : slice_get rs k ≡ Some r = sym c.reading_at.ensures ∙ ap option_copied c.in-Some.is in
    let part : weight r ≤ heaviest rs = heaviest_at rs k r found in
    (omega (arith, measure, part), tt)

pub open_typ-returns-in-None-clause-value : goal.open_typ-returns-in-None-clause-value
open_typ-returns-in-None-clause-value t c =
    let none : slice_get c.args.readings.now c.in-Variable.position ≡ None = sym c.reading_at.ensures ∙ ap option_copied c.in-None.is in
    free_value c.args.readings.now c.args.indices.now c.args.tells c.args.naming.now c.args.typ.now c.in-Variable.position (seen c.args.walked.now)
    c.in-Variable.is none

pub open_typ-returns-in-None-clause-walked : goal.open_typ-returns-in-None-clause-walked
open_typ-returns-in-None-clause-walked t c =
    let none : slice_get c.args.readings.now c.in-Variable.position ≡ None = sym c.reading_at.ensures ∙ ap option_copied c.in-None.is in
    free_walked c.args.readings.now c.args.indices.now c.args.tells c.args.naming.now c.args.typ.now c.in-Variable.position (seen c.args.walked.now)
    c.in-Variable.is none

pub open_typ-returns-in-Some-clause-value : goal.open_typ-returns-in-Some-clause-value
open_typ-returns-in-Some-clause-value t c =
    let found = sym c.reading_at.ensures ∙ ap option_copied c.in-Some.is in
    subst (λ f. IfOk c.open_reading.result (λ made. made ≡ got f (seen c.args.walked.now)))
    (stood_for c.args.readings.now c.args.indices.now c.args.tells c.args.naming.now c.args.typ.now c.in-Variable.position c.in-Some.reading.now
    c.in-Variable.is found)
    c.open_reading.ensures.value

pub open_typ-returns-in-Some-clause-walked : goal.open_typ-returns-in-Some-clause-walked
open_typ-returns-in-Some-clause-walked t c =
    let found = sym c.reading_at.ensures ∙ ap option_copied c.in-Some.is in
    subst (λ f. OnOk c.open_reading.result (seen c.open_reading.new.walked ≡ run f (seen c.args.walked.now)))
    (stood_for c.args.readings.now c.args.indices.now c.args.tells c.args.naming.now c.args.typ.now c.in-Variable.position c.in-Some.reading.now
    c.in-Variable.is found)
    c.open_reading.ensures.walked
