use Rattle.std.proofs.Common.{ap, ◌∙◌}
use Rattle.monomorph.specs.Reading.{inside_of, read_sizes}
use Rattle.monomorph.proofs.Over.{is_fine, is_refused, over_next, over_refused}
use Rattle.monomorph.proofs.bodies.read_each_size.Goals as goal

pub loop-picked-preserved : goal.loop-picked-preserved
loop-picked-preserved c = λ found.
    let l = c.loop-picked in
    let f = read_sizes (inside_of c.args.inside.now) c.args.place c.args.indices.now in
    over_next f c.args.combinations.now l.picked-index c.picked-item.result found found _ c.loop-picked-test.true c.picked-item.is
    (is_fine c.in_ok-read_sizes.field-0 found _ c.in-None.is (c.in_ok-read_sizes.ensures found ∙ ap (λ p. f p found) c.as_slice.ensures))
    (l.invariant found)

pub returns-in-Some : goal.returns-in-Some
returns-in-Some c = λ found.
    let l = c.loop-picked in
    let f = read_sizes (inside_of c.args.inside.now) c.args.place c.args.indices.now in
    over_refused f c.args.combinations.now l.picked-index c.picked-item.result c.in-Some.refused found found found _ c.loop-picked-test.true
    c.picked-item.is
    (is_refused c.in_ok-read_sizes.field-0 c.in-Some.refused found _ c.in-Some.is
    (c.in_ok-read_sizes.ensures found ∙ ap (λ p. f p found) c.as_slice.ensures)) (l.invariant found)
