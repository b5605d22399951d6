use Rattle.std.proofs.Common.{◌≡◌, Some, ◌∙◌}
use Rattle.value_indices.specs.Walking.{seen}
use Rattle.pattern_leaves.specs.Settings.{around_of}
use Rattle.constraint_gen.specs.Functions.{inside_function}
use Rattle.size_notes.proofs.Chained.{measured_end}
use Rattle.size_notes.proofs.functions.read_measured.Goals as goal

pub returns : goal.returns
returns c =
    let around = around_of c.args.around.now in
    let f = c.args.function.now in
    let is = c.args.numbers.now in
    let inner : around_of c.inside-inner.result ≡ inside_function around f is =
    c.inside-inner.ensures ∙ (λ j. record around { numbers = is; answer = Some (c.in_ok-answer.ensures j) }) in
    measured_end around f is (around_of c.inside-inner.result) c.as_slice.result.now c.natural_aim-aim.result (seen c.args.body.now)
    (seen c.read_clauses.new.body) inner c.as_slice.ensures c.read_clauses.result c.args.measure.now c.natural_aim-aim.ensures c.read_clauses.ensures
