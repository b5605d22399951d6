use Rattle.std.proofs.Common.{◌∙◌, ap, sym}
use Rattle.std.specs.Prelude.{◌&&◌}
use Rattle.lowered_steps.proofs.Lists.{head_of, none_of}
use Rattle.jib_lower.specs.Cycles.{directions_fall}
use Rattle.jib_lower.proofs.turns.+directions_fall.Goals as goal

pub returns-in-empty : goal.returns-in-empty
returns-in-empty t c =
    ap (directions_fall c.args.numbers.now c.args.instances.now c.args.mappings.now c.args.own) (sym (none_of c.args.directions.now c.in-empty.len_below))

pub returns-in-len1-up : goal.returns-in-len1-up
returns-in-len1-up t c =
    let ns = c.args.numbers.now in let xs = c.args.instances.now in let ms = c.args.mappings.now in
    c.both.ensures ∙ (λ i. c.mapping_falls.ensures i && c.directions_fall.ensures i)
    ∙ ap (directions_fall ns xs ms c.args.own) (sym (head_of c.args.directions.now _ c.in-len1-up.len_at_least))
