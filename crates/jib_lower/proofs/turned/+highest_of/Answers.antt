use Rattle.std.proofs.Common.{◌∙◌, ap, sym}
use Rattle.lowered_steps.proofs.Lists.{head_of, none_of}
use Rattle.jib_lower.specs.Crossings.{higher, highest_of}
use Rattle.jib_lower.proofs.turned.+highest_of.Goals as goal

pub returns-in-empty : goal.returns-in-empty
returns-in-empty t c =
    ap (highest_of c.args.numbers.now c.args.instances.now c.args.mappings.now) (sym (none_of c.args.directions.now c.in-empty.len_below))

pub returns-in-len1-up : goal.returns-in-len1-up
returns-in-len1-up t c =
    let ns = c.args.numbers.now in let xs = c.args.instances.now in let ms = c.args.mappings.now in
    c.higher.ensures ∙ ap (λ n. higher n c.highest_of.result) c.highest_at.ensures
    ∙ ap (higher _) c.highest_of.ensures
    ∙ ap (highest_of ns xs ms) (sym (head_of c.args.directions.now _ c.in-len1-up.len_at_least))
