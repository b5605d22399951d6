use Rattle.std.proofs.Common.{◌++◌, sym, ap, ◌∙◌, append-nil, arith}
use Rattle.std.specs.Prelude.{slice_get}
use Rattle.constraint_gen.specs.Defined.{definitions_of}
use Rattle.function_notes.proofs.Lists.{got_at}
use Rattle.constraint_gen.proofs.Placing.{listed_as, half_there, half_last, half_none}
use Rattle.constraint_gen.proofs.defined.put_half.Goals as goal

pub returns-then-at-directions : goal.returns-then-at-directions
returns-then-at-directions c = λ core around same.
    let old = definitions_of core around c.args.list.now in
    sym (append-nil old) ∙ ap (λ l. old ++ l) (half_none c.args.directions.now c.args.at (omega arith))

pub returns : goal.returns
returns c = λ core around same.
    let ms = c.args.directions.now in
    let m = c.index-directions-at.result in
    listed_as core around c.put.result c.args.list.now c.put.new.list
    (half_there core around m c.args.at (ap (λ l. slice_get l c.args.at) same ∙ got_at ms c.args.at m (omega arith) c.index-directions-at.is)
    ∙ half_last ms c.args.at m (omega arith) (omega arith) c.index-directions-at.is)
    (c.put.ensures core around)
