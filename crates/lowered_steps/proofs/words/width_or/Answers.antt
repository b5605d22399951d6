use Rattle.std.proofs.Common.{◌≡◌, ◌∙◌, pos, SFits, to_z, of_z, sym, ap, subst, rules}
use Rattle.std.specs.Int.{w128}
use Rattle.std.specs.Prelude.{unsigned_abs, ◌≤ℤ◌}
use Rattle.std.proofs.lemmas.Int.{to_z-of_z}
use Rattle.lowered_steps.proofs.Wide.{width_known, width_none}
use Rattle.lowered_steps.proofs.words.width_or.Goals as goal

pub returns-in-Ok : goal.returns-in-Ok
returns-in-Ok c =
    let fits : SFits w128 c.in-Some.number = search rules in
    let same : to_z w128 (of_z w128 c.in-Some.number) ≡ c.in-Some.number = to_z-of_z w128 c.in-Some.number fits in
    width_known c.args.number c.in-Some.number c.in-Ok.width c.in-Some.is (subst (λ z. pos 0 ≤ℤ z) same c.in-Ok.ensures.0)
    (c.in-Ok.ensures.1 ∙ ap unsigned_abs same)

pub returns-in-Err : goal.returns-in-Err
returns-in-Err c =
    let fits : SFits w128 c.in-Some.number = search rules in
    let same : to_z w128 (of_z w128 c.in-Some.number) ≡ c.in-Some.number = to_z-of_z w128 c.in-Some.number fits in
    width_none c.args.number c.in-Some.number c.in-Some.is (λ low. c.in-Err.ensures (subst (λ z. pos 0 ≤ℤ z) (sym same) low))
