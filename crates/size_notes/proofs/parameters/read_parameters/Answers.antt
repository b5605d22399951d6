use Rattle.std.proofs.Common.{◌≡◌, refl, arith}
use Rattle.value_indices.specs.Walking.{seen}
use Rattle.size_notes.specs.Bodies.{parameter_read, parameters_read}
use Rattle.size_notes.proofs.Walked.{pair_next, pair_end}
use Rattle.size_notes.proofs.parameters.read_parameters.Goals as goal

pub loop-at-preserved : goal.loop-at-preserved
loop-at-preserved c =
    let l = c.loop-at in
    let is = c.args.numbers.now in
    pair_next (λ n. parameter_read is) (parameters_read is) (λ p ps t ts. refl) (λ ts. refl) (λ p ps. refl) c.args.patterns.now c.args.types.now l.at
    c.index-patterns-at.result c.index-types-at.result (seen l.walking) (seen c.read_parameter.new.walking) _ (omega arith) (omega arith)
    c.index-patterns-at.is c.index-types-at.is _ refl c.in_ok-read_parameter.ensures l.invariant

pub returns : goal.returns
returns c =
    let l = c.loop-at in
    let is = c.args.numbers.now in
    let at : l.at ≡ c.lesser-count.result = omega (arith, c.loop-at-test.false, l.auto.at-end) in
    pair_end (λ n. parameter_read is) (parameters_read is) (λ p ps t ts. refl) (λ ts. refl) (λ p ps. refl) c.args.patterns.now c.args.types.now l.at
    (seen l.walking) _ (omega (arith, at, c.lesser-count.ensures)) l.invariant
