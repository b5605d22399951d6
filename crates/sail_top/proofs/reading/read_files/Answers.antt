use Rattle.std.proofs.Common.{◌≡◌, ◌+◌, ◌++◌, false, Result, Ok, OnOk, [], ◌∷◌, map, drop, get_or, Option, ◌∙◌, sym, ap, subst, arith, Err}
use Rattle.std.specs.Result.{is_err}
use Rattle.sail_outside.specs.Files.{Files, Lacks}
use Rattle.sail_outside.specs.Bytes.{ReadWhole, PassedLimit}
use Rattle.sail_top.specs.parts.Borrowed.{as_wanted}
use Rattle.sail_top.proofs.ReadingLemmas.{ReadSoFar, one_more, nothing_left, all_read, stops_at, next_wanted, none_wanted}
use Rattle.sail_top.proofs.reading.read_files.Goals as goal

-- what holds of a value that isn't an error
at_ok : {A E : Type 0} (r : Result A E) (P : Type 0) → OnOk r P → is_err r ≡ false → P
at_ok (Ok a) P holds good = holds
at_ok (Err e) P holds good = absurd (cc good)

pub returns-in-Err-clause-unread : goal.returns-in-Err-clause-unread
returns-in-Err-clause-unread g c =
    let held = g.S.Shelf.holds c.args.shelf.now in
    let files = c.args.wanted.now in
    let number = c.loop-number.number in
    let left = g.S.Shelf.left c.read_file.new.shelf in
    let file = get_or files number _ in
    let same = c.loop-number.invariant.same in
    let e = c.in-Err.ensures in
    let so_far : ReadSoFar held (map as_wanted files) c.loop-number.files number (as_wanted file ∷ map as_wanted (drop (number + 1) files)) =
    subst (ReadSoFar held (map as_wanted files) c.loop-number.files number)
    (next_wanted files number _ c.loop-number-test.true) c.loop-number.invariant.read in
    stops_at left (g.S.Shelf.faults c.args.shelf.now) (g.S.Shelf.faults c.loop-number.shelf)
    (g.S.Shelf.faults c.read_file.new.shelf) c.in-Err.error so_far c.loop-number.invariant.faults
    (record {
      missing = λ is. subst (λ (h : Option Files). Lacks h file.name.now) same (e.missing (ap Err is));
      unbegun = λ is. e.unbegun (ap Err is);
      asked = λ l is. e.asked l (ap Err is);
      long = λ l is. subst (λ (h : Option Files). PassedLimit h file.name.now file.limit left) same (e.long l (ap Err is));
      fault = λ is. e.fault (ap Err is);
    })

pub loop-number-preserved : goal.loop-number-preserved
loop-number-preserved g c =
    let held = g.S.Shelf.holds c.args.shelf.now in
    let files = c.args.wanted.now in
    let number = c.loop-number.number in
    let left = g.S.Shelf.left c.read_file.new.shelf in
    let file = get_or files number _ in
    let bytes = c.in-Ok.bytes.items in
    let read = c.in-Ok.ensures in
    let same = c.loop-number.invariant.same in
    let pushed : c.push.new.self ≡ c.loop-number.files ++ bytes ∷ [] =
    at_ok c.push.result _ c.push.ensures.pushed (sym c.is_err.ensures.value ∙ c.if-is_err.false)
    ∙ ap (λ last. c.loop-number.files ++ last ∷ []) c.from_vec.ensures in
    let so_far : ReadSoFar held (map as_wanted files) c.loop-number.files number (as_wanted file ∷ map as_wanted (drop (number + 1) files)) =
    subst (ReadSoFar held (map as_wanted files) c.loop-number.files number)
    (next_wanted files number _ c.loop-number-test.true) c.loop-number.invariant.read in
    let whole : ReadWhole held file.name.now bytes left = subst (λ (h : Option Files). ReadWhole h file.name.now bytes left) same read.whole in
    record {
      same = read.same ∙ same;
      faults = omega (arith, read.later, c.loop-number.invariant.faults);
      read = subst (λ fs. ReadSoFar held (map as_wanted files) fs (number + 1) (map as_wanted (drop (number + 1) files))) (sym pushed)
          (one_more bytes left so_far read.within whole);
      left = λ all is some. nothing_left held file.name.now bytes left whole all is;
    }

pub returns-clause-whole : goal.returns-clause-whole
returns-clause-whole g c =
    let held = g.S.Shelf.holds c.args.shelf.now in
    let files = c.args.wanted.now in
    let number = c.loop-number.number in
    let so_far : ReadSoFar held (map as_wanted files) c.loop-number.files number [] =
    subst (ReadSoFar held (map as_wanted files) c.loop-number.files number)
    (none_wanted files number c.loop-number-test.false) c.loop-number.invariant.read in
    all_read (g.S.Shelf.left c.loop-number.shelf) so_far (λ all is. c.loop-number.invariant.left all is
    (omega (arith, c.requires.some, c.loop-number-test.false)))

pub returns-clause-count : goal.returns-clause-count
returns-clause-count g c = omega (arith, c.loop-number.invariant.read.count, c.loop-number-test.false, c.loop-number.auto.number-end)
