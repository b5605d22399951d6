use Rattle.std.proofs.Common.{◌≡◌, Some, ap, ◌∙◌}
use Rattle.value_indices.specs.Walking.{got, run, seen}
use Rattle.pattern_leaves.specs.Settings.{around_of}
use Rattle.call_arguments.specs.Aims.{aimed}
use Rattle.call_arguments.specs.declared.aims.Aim.TheVariants as Aims
use Rattle.function_notes.specs.Functions.{own_indices, inside_function, reading_under}
use Rattle.function_notes.proofs.Chained.{function_end}
use Rattle.function_notes.proofs.functions.walk_function.Goals as goal

pub returns : goal.returns
returns c =
    let around = around_of c.args.around.now in
    let f = c.args.function.now in
    let w = seen c.args.walking.now in
    let is = c.in_ok-numbers.numbers in
    let answer : c.in_ok-answer.answer ≡ reading_under f.result is = c.in_ok-answer.ensures ∙ ap (reading_under f.result) c.as_slice-2.ensures in
    let inner : around_of c.inside-inner.result ≡ inside_function around f is =
    c.inside-inner.ensures ∙ (λ j. record around { numbers = c.as_slice-3.ensures j; answer = Some (answer j) }) in
    let aim : c.due-aim.result ≡ aimed Aims.Due (reading_under f.result is) =
    c.due-aim.ensures ∙ ap (aimed Aims.Due) (c.in_ok-reading_of.ensures ∙ ap (reading_under f.result) c.as_slice-4.ensures) in
    function_end around f (around_of c.inside-inner.result) c.as_slice-5.result.now c.as_slice-6.result.now c.due-aim.result is w
    (seen c.own_indices.new.walking) (seen c.constrain.new.walking)
    (c.in_ok-numbers.ensures.value ∙ ap (λ vs. got (own_indices vs) w) c.as_slice.ensures)
    (c.in_ok-numbers.ensures.walked ∙ ap (λ vs. run (own_indices vs) w) c.as_slice.ensures)
    c.in_ok-constrain.ensures inner c.as_slice-5.ensures c.make_last.result (seen c.walk_clauses.new.walking) (seen c.make_last.new.walking)
    c.in_ok-answer.answer c.as_slice-6.ensures aim answer c.in_ok-walk_clauses.ensures c.make_last.ensures
