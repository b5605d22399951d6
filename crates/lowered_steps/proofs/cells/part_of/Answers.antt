use Rattle.std.proofs.Common.{◌∙◌, List, sym, ap}
use Rattle.std.specs.Prelude.{Option}
use Rattle.sail_core.specs.declared.targets.Suffix.{Suffix}
use Rattle.lowered_steps.specs.Cells.{aim_of, cell_in, part_if, part_in}
use Rattle.lowered_steps.specs.declared.cells.Cell.{Cell}
use Rattle.lowered_steps.proofs.Aimed.{part_some}
use Rattle.lowered_steps.proofs.Lists.{none_of}
use Rattle.lowered_steps.proofs.cells.part_of.Goals as goal

pub returns-in-empty : goal.returns-in-empty
returns-in-empty c =
    ap (λ (ss : List Suffix). part_in c.args.number (aim_of c.in-Some.whole) ss) (sym (none_of c.args.suffixes.now c.in-empty.len_below))
    ∙ ap (λ (o : Option Cell). part_if c.args.number (cell_in o) c.args.suffixes.now) (sym c.in-Some.is)

pub returns-in-len1-up : goal.returns-in-len1-up
returns-in-len1-up c =
    part_some c.args.number (aim_of c.in-Some.whole) c.args.suffixes.now c.in-len1-up.len_at_least
    ∙ ap (λ (o : Option Cell). part_if c.args.number (cell_in o) c.args.suffixes.now) (sym c.in-Some.is)

pub returns-in-None : goal.returns-in-None
returns-in-None c = ap (λ (o : Option Cell). part_if c.args.number (cell_in o) c.args.suffixes.now) (sym c.in-None.is)
