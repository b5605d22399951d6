use Rattle.std.proofs.Common.{◌≡◌, Bool, IfOk, length, subst, sym}
use Rattle.told_sizes.proofs.Free.{args_at}
use Rattle.told_sizes.proofs.among.sizes_among.Goals as goal

pub returns : goal.returns
returns c =
    let args = c.args.arguments.now in
    subst (λ (b : Bool). IfOk c.args_among.result (λ are. are ≡ b)) (sym (args_at c.args.types.now c.args.place (length args) 0 args c.args.constants.now))
    c.args_among.ensures
