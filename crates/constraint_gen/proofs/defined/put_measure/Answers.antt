use Rattle.std.proofs.Common.{◌++◌, sym, ap, ◌∙◌, append-nil}
use Rattle.constraint_gen.specs.Defined.{definitions_of}
use Rattle.constraint_gen.specs.Models.{measure_definition}
use Rattle.constraint_gen.proofs.Placing.{listed_as, measure_there}
use Rattle.constraint_gen.proofs.defined.put_measure.Goals as goal

pub returns-in-None : goal.returns-in-None
returns-in-None c = λ core around there.
    let old = definitions_of core around c.args.list.now in
    sym (append-nil old) ∙ ap (λ o. old ++ measure_definition around c.args.function.now o) (sym c.in-None.is)

pub returns-in-Some : goal.returns-in-Some
returns-in-Some c = λ core around there.
    listed_as core around c.put.result c.args.list.now c.put.new.list
    (measure_there core around c.args.function.now _ c.args.at there c.in-Some.is) (c.put.ensures core around)
