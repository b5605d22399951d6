use Rattle.std.proofs.Common.{◌∙◌, ◌&&◌, sym}
use Rattle.lowered_typed.proofs.Parts.{many_here}
use Rattle.lowered_typed.specs.Judging.{signs_here}
use Rattle.std.specs.Prelude.{nat_eq, not}
use Rattle.lowered_typed.proofs.calls.is_applied_asked.Goals as goal

pub returns : goal.returns
returns c =
    let j = c.args.judge.now in
    c.both-all.ensures ∙ (λ i. nat_eq (sym (many_here j c.args.parts.now) i) 1 && (c.both-behind.ensures
    ∙ (λ k. not (signs_here j).is_pure && (c.both-rest.ensures ∙ (λ h. c.may_turn-one.ensures h && c.in_ok-other.ensures h)) k)) i)
