use Rattle.std.proofs.Common.{length, sym, ap, ◌∙◌, refl, arith}
use Rattle.obligations.proofs.Spread.{went_round, went_steady, all_rounds}
use Rattle.obligations.proofs.connected.spread_all.Goals as goal

pub returns-then-len-count : goal.returns-then-len-count
returns-then-len-count c =
    went_steady c.args.facts.now c.args.atoms.now c.loop-round.atoms c.spread.new.atoms c.loop-round.round (length c.args.facts.now) (omega arith)
    c.in_ok-spread.ensures (omega arith) c.loop-round.invariant

pub loop-round-preserved : goal.loop-round-preserved
loop-round-preserved c =
    went_round c.args.facts.now c.args.atoms.now c.loop-round.atoms c.spread.new.atoms c.loop-round.round (length c.args.facts.now) (omega arith)
    c.in_ok-spread.ensures c.loop-round.invariant

pub returns : goal.returns
returns c =
    all_rounds c.args.facts.now c.args.atoms.now c.loop-round.atoms c.loop-round.round (length c.args.facts.now) (omega arith) c.loop-round.invariant
