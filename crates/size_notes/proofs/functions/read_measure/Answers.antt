use Rattle.std.proofs.Common.{◌≡◌, ap, sym, subst, ◌∙◌}
use Rattle.value_indices.specs.Walking.{Written, got, run, seen}
use Rattle.pattern_leaves.specs.Settings.{around_of}
use Rattle.constraint_gen.specs.Functions.{own_indices}
use Rattle.size_notes.specs.Bodies.{measured_read, measure_read}
use Rattle.size_notes.specs.Reading.{IsAtRest}
use Rattle.size_notes.proofs.Chained.{own_then, read_end}
use Rattle.size_notes.proofs.Walked.{begun_rest, own_rest}
use Rattle.size_notes.proofs.functions.read_measure.Goals as goal

pub read_measured-requires : goal.read_measured-requires
read_measured-requires c =
    let f = c.args.function.now in
    let w = seen c.new-body.result in
    let walked : seen c.own_indices.new.walking ≡ run (own_indices f.variables) w =
    c.in_ok-numbers.ensures.walked ∙ ap (λ vs. run (own_indices vs) w) c.as_slice.ensures in
    subst (λ (v : Written). IsAtRest v) (sym walked)
    (own_rest f.variables w (subst (λ (v : Written). IsAtRest v) (sym c.new-body.ensures) (begun_rest 0)))

pub returns : goal.returns
returns c =
    let around = around_of c.args.around.now in
    let f = c.args.function.now in
    let measure = c.args.measure.now in
    let w = seen c.new-body.result in
    let is = c.in_ok-numbers.numbers in
    let u = seen c.own_indices.new.walking in
    read_end c.ended_body.result (measure_read around f measure) (seen c.read_measured.new.body)
    (own_then f.variables (measured_read around f measure) is w u (seen c.read_measured.new.body) c.new-body.ensures
    (c.in_ok-numbers.ensures.value ∙ ap (λ vs. got (own_indices vs) w) c.as_slice.ensures)
    (c.in_ok-numbers.ensures.walked ∙ ap (λ vs. run (own_indices vs) w) c.as_slice.ensures)
    (c.in_ok-read_measured.ensures ∙ ap (λ js. run (measured_read around f measure js) u) c.as_slice-2.ensures))
    c.ended_body.ensures
