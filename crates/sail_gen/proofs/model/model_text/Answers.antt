use Rattle.std.proofs.Common.{ℕ, ◌≤◌, List, length, sym, subst}
use Rattle.sail_gen.proofs.Lengths.{model_length}
use Rattle.sail_gen.proofs.model.model_text.Goals as goal

pub returns-clause-short : goal.returns-clause-short
returns-clause-short c =
    subst (λ (text : List ℕ). length text ≤ 4194304) (sym c.in_ok-text.ensures.text) (model_length c.args.draws.now.state c.args.size c.requires.size)
