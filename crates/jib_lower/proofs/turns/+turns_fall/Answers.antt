use Rattle.std.proofs.Common.{◌∙◌, ap, sym}
use Rattle.std.specs.Prelude.{◌&&◌}
use Rattle.lowered_steps.proofs.Lists.{first_of, none_of}
use Rattle.jib_lower.specs.Cycles.{turns_fall}
use Rattle.jib_lower.proofs.turns.+turns_fall.Goals as goal

pub returns-in-empty : goal.returns-in-empty
returns-in-empty t c =
    ap (turns_fall c.args.numbers.now c.args.instances.now c.args.mappings.now c.args.turns.now) (sym (none_of c.args.callers.now c.in-empty.len_below))

pub returns-in-len1-up : goal.returns-in-len1-up
returns-in-len1-up t c =
    let ns = c.args.numbers.now in let xs = c.args.instances.now in let ms = c.args.mappings.now in
    c.both.ensures ∙ (λ i. c.turn_falls.ensures i && c.turns_fall.ensures i)
    ∙ ap (turns_fall ns xs ms c.args.turns.now) (sym (first_of c.args.callers.now c.first-item.result c.in-len1-up.len_at_least c.first-item.is))
