use Rattle.std.proofs.Common.{◌∙◌, sym, refl, true}
use Rattle.lowered_tables.proofs.Growing.{known_at, known_next, known_whole, lacks}
use Rattle.lowered_tables.proofs.tables.have_numbers.Goals as goal

pub loop-typ-init : goal.loop-typ-init
loop-typ-init c = refl

pub loop-typ-preserved : goal.loop-typ-preserved
loop-typ-preserved c =
    let l = c.loop-typ in
    known_next c.args.numbered.now c.args.types.now l.typ-index c.typ-item.result l.invariant
    (known_at c.args.numbered.now c.typ-item.result (sym c.has_number.ensures ∙ c.if-not-has_number.false)) c.loop-typ-test.true c.typ-item.is

pub returns-clause-known : goal.returns-clause-known
returns-clause-known c = let l = c.loop-typ in λ h. known_whole c.args.numbered.now c.args.types.now l.typ-index c.loop-typ-test.false l.invariant

pub returns-then-not-has_number-clause-no : goal.returns-then-not-has_number-clause-no
returns-then-not-has_number-clause-no c =
    λ h. lacks c.args.numbered.now c.args.types.now c.loop-typ.typ-index c.typ-item.result (sym c.if-not-has_number.true ∙ c.has_number.ensures)
    c.loop-typ-test.true c.typ-item.is
