use Rattle.std.proofs.Common.{None, length, replicate, ap, ◌∙◌, arith}
use Rattle.std.proofs.lemmas.List.{length-replicate}
use Rattle.constraint_gen.proofs.OwnNames.{length_steps, names_made}
use Rattle.constraint_gen.proofs.naming.names_of.Goals as goal

pub names_behind-requires : goal.names_behind-requires
names_behind-requires c =
    let many = ap length c.as_slice.ensures ∙ (ap length c.in_ok-owns.ensures ∙ (length_steps c.args.steps.now (replicate c.args.count None)
    ∙ length-replicate c.args.count None)) in
    omega (arith, many)

pub returns : goal.returns
returns c =
    names_made c.names_behind.result c.args.steps.now c.args.count c.in_ok-owns.owns c.as_slice.result.now c.as_slice.ensures c.in_ok-owns.ensures
    c.names_behind.ensures
