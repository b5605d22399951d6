use Rattle.std.proofs.Common.{◌++◌, ap, ◌∙◌, arith}
use Rattle.std.specs.Prelude.{slice_get}
use Rattle.constraint_gen.specs.Defined.{definitions_of}
use Rattle.constraint_gen.specs.Models.{function_definitions}
use Rattle.function_notes.proofs.Lists.{got_at}
use Rattle.constraint_gen.proofs.Placing.{functions_next, functions_end}
use Rattle.constraint_gen.proofs.defined.put_functions.Goals as goal

pub loop-at-preserved : goal.loop-at-preserved
loop-at-preserved c = λ core around same.
    let l = c.loop-at in
    let all = c.args.functions.now in
    let one = c.index-functions-at.result in
    functions_next around all l.at one (definitions_of core around l.list) (definitions_of core around c.put_function.new.list)
    (definitions_of core around c.args.list.now ++ function_definitions around all) (omega arith) c.index-functions-at.is
    (c.in_ok-put_function.ensures core around (ap (λ xs. slice_get xs l.at) same ∙ got_at all l.at one (omega arith) c.index-functions-at.is))
    (l.invariant core around same)

pub returns : goal.returns
returns c = λ core around same.
    let l = c.loop-at in
    let all = c.args.functions.now in
    functions_end around all l.at (definitions_of core around l.list) (definitions_of core around c.args.list.now ++ function_definitions around all)
    (omega arith) (l.invariant core around same)
