use Rattle.std.proofs.Common.{◌≡◌, ap, ◌∙◌, arith}
use Rattle.size_splits.specs.Bodies.{body_read}
use Rattle.monomorph.specs.Instances.{grow, times_enough}
use Rattle.monomorph.specs.Lasts.{model_in}
use Rattle.monomorph.proofs.Lasting.{first_refused, found_whole, lasts_refused, length_mapped}
use Rattle.monomorph.proofs.Over.{is_fine, is_refused}
use Rattle.monomorph.proofs.growing.find_all.Goals as goal

pub returns-in-Some : goal.returns-in-Some
returns-in-Some c =
    let m = model_in c.args.model.now in
    let first = c.grow.new.found in
    let enough : c.in_ok-times.times ≡ times_enough m =
    omega (arith, c.in_ok-times.ensures, c.len.ensures, length_mapped body_read c.args.model.now.bodies.now.mappings) in
    first_refused m c.args.found.now first first c.in-Some.refused
    (is_refused c.in_ok-grow.field-0 c.in-Some.refused first _ c.in-Some.is
    (c.in_ok-grow.ensures ∙ ap (λ n. grow n m 0 c.args.found.now) enough))

pub returns-in-Some-2 : goal.returns-in-Some-2
returns-in-Some-2 c =
    let m = model_in c.args.model.now in
    let first = c.grow.new.found in
    let last = c.read_lasts.new.found in
    let enough : c.in_ok-times.times ≡ times_enough m =
    omega (arith, c.in_ok-times.ensures, c.len.ensures, length_mapped body_read c.args.model.now.bodies.now.mappings) in
    lasts_refused m c.args.found.now first last c.in-Some-2.refused
    (is_fine c.in_ok-grow.field-0 first _ c.in-None.is (c.in_ok-grow.ensures ∙ ap (λ n. grow n m 0 c.args.found.now) enough))
    (is_refused c.in_ok-read_lasts.field-0 c.in-Some-2.refused last _ c.in-Some-2.is c.in_ok-read_lasts.ensures)

pub returns : goal.returns
returns c =
    let m = model_in c.args.model.now in
    let first = c.grow.new.found in
    let last = c.read_lasts.new.found in
    let enough : c.in_ok-times.times ≡ times_enough m =
    omega (arith, c.in_ok-times.ensures, c.len.ensures, length_mapped body_read c.args.model.now.bodies.now.mappings) in
    found_whole m c.args.found.now first last c.grow-2.result c.grow-2.new.found c.in_ok-times.times c.len-first.result enough c.len-first.ensures
    (is_fine c.in_ok-grow.field-0 first _ c.in-None.is (c.in_ok-grow.ensures ∙ ap (λ n. grow n m 0 c.args.found.now) enough))
    (is_fine c.in_ok-read_lasts.field-0 last _ c.in-None-2.is c.in_ok-read_lasts.ensures) c.grow-2.ensures
