use Rattle.std.proofs.Common.{◌≡◌, Some, ap, ◌∙◌}
use Rattle.value_indices.specs.Walking.{seen}
use Rattle.pattern_leaves.specs.Settings.{around_of}
use Rattle.call_arguments.specs.Aims.{aimed}
use Rattle.call_arguments.specs.declared.aims.Aim.TheVariants as Aims
use Rattle.constraint_gen.specs.Functions.{inside_function, reading_under}
use Rattle.size_notes.proofs.Chained.{arms_end, declared_end}
use Rattle.size_notes.proofs.functions.read_declared.Goals as goal

pub read_last-requires : goal.read_last-requires
read_last-requires c =
    let around = around_of c.args.around.now in
    let f = c.args.function.now in
    let is = c.args.numbers.now in
    let inner : around_of c.inside-inner.result ≡ inside_function around f is =
    c.inside-inner.ensures ∙ (λ j. record around { numbers = is; answer = Some (c.in_ok-answer.ensures j) }) in
    let aim : c.due-aim.result ≡ aimed Aims.Due (reading_under f.result is) =
    c.due-aim.ensures ∙ ap (aimed Aims.Due) c.in_ok-reading_of.ensures in
    arms_end around f is (around_of c.inside-inner.result) c.as_slice.result.now c.due-aim.result (seen c.args.body.now)
    (seen c.read_clauses.new.body) inner c.as_slice.ensures aim c.in_ok-read_clauses.ensures c.requires

pub returns : goal.returns
returns c =
    let around = around_of c.args.around.now in
    let f = c.args.function.now in
    let is = c.args.numbers.now in
    let inner : around_of c.inside-inner.result ≡ inside_function around f is =
    c.inside-inner.ensures ∙ (λ j. record around { numbers = is; answer = Some (c.in_ok-answer.ensures j) }) in
    let aim : c.due-aim.result ≡ aimed Aims.Due (reading_under f.result is) =
    c.due-aim.ensures ∙ ap (aimed Aims.Due) c.in_ok-reading_of.ensures in
    declared_end around f is (around_of c.inside-inner.result) c.as_slice.result.now c.due-aim.result (seen c.args.body.now)
    (seen c.read_clauses.new.body) inner c.as_slice.ensures c.read_last.result (seen c.read_last.new.body) c.in_ok-answer.answer aim
    c.in_ok-answer.ensures c.in_ok-read_clauses.ensures c.read_last.ensures
