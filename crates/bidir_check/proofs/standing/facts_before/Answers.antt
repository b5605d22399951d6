use Rattle.std.proofs.Common.{◌-◌, sym, ap, ◌∙◌, arith}
use Rattle.bidir_check.specs.Checking.{facts_before}
use Rattle.bidir_check.proofs.Steps.{facts_last}
use Rattle.bidir_check.proofs.standing.facts_before.Goals as goal

pub returns-then-place-eq0 : goal.returns-then-place-eq0
returns-then-place-eq0 c = c.requires.none ∙ ap (facts_before c.args.obligations.now) (sym c.if-place-eq0.true)

pub returns : goal.returns
returns c =
    c.as_slice.ensures
    ∙ facts_last c.args.obligations.now c.args.place (c.args.place - 1) c.index-obligations-at.result (omega arith) (omega arith) c.index-obligations-at.is
