use Rattle.std.proofs.Common.{◌∙◌, ◌&&◌, length, sym, ap}
use Rattle.std.specs.Prelude.{nat_le}
use Rattle.lowered_ends.specs.Targets.{spot_in}
use Rattle.lowered_ends.specs.declared.targets.Spot.{Spot as SpotHeld}
use Rattle.lowered_typed.proofs.Parts.{many_here}
use Rattle.lowered_typed.proofs.Written.{and_none}
use Rattle.lowered_typed.specs.Judged as judged
use Rattle.lowered_typed.proofs.spots.is_spot_asked.Goals as goal

pub returns-in-Other : goal.returns-in-Other
returns-in-Other c =
    let j = c.args.judge.now in let ps = judged.all_here j c.args.parts.now in
    and_none (nat_le 1 (length ps)) ∙ ap (λ (s : SpotHeld). judged.spot_asked j (spot_in s) ps) (sym c.in-Other.is)

pub returns-in_ok-other-in-One : goal.returns-in_ok-other-in-One
returns-in_ok-other-in-One c =
    let j = c.args.judge.now in let ps = judged.all_here j c.args.parts.now in c.both-all.ensures
    ∙ (λ i. nat_le 1 (sym (many_here j c.args.parts.now) i) && c.in_ok-other-in-One.ensures i)
    ∙ ap (λ (s : SpotHeld). judged.spot_asked j (spot_in s) ps) (sym c.in-One.is)

pub returns-in_ok-other-in-Several : goal.returns-in_ok-other-in-Several
returns-in_ok-other-in-Several c =
    let j = c.args.judge.now in let ps = judged.all_here j c.args.parts.now in c.both-all-in-Several.ensures
    ∙ (λ i. nat_le 1 (sym (many_here j c.args.parts.now) i) && c.in_ok-other-in-Several.ensures i)
    ∙ ap (λ (s : SpotHeld). judged.spot_asked j (spot_in s) ps) (sym c.in-Several.is)

pub returns-in_ok-other-in-Called : goal.returns-in_ok-other-in-Called
returns-in_ok-other-in-Called c =
    let j = c.args.judge.now in let ps = judged.all_here j c.args.parts.now in c.both-all-in-Called.ensures
    ∙ (λ i. nat_le 1 (sym (many_here j c.args.parts.now) i)
    && (c.in_ok-other-in-Called.ensures
    ∙ ap (λ n. judged.written_asked j c.in-Called.node c.in-Called.writer n) (sym (many_here j c.args.parts.now))) i)
    ∙ ap (λ (s : SpotHeld). judged.spot_asked j (spot_in s) ps) (sym c.in-Called.is)
