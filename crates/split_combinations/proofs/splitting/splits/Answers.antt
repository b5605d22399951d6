use Rattle.std.proofs.Common.{◌≡◌, ◌∙◌, ◌-◌, ap, sym, subst, length, List, ℕ, arith}
use Rattle.std.specs.Prelude.{IfOk}
use Rattle.value_indices.specs.Walking.{begun}
use Rattle.size_values.specs.Numbers.{known_at, known_of}
use Rattle.size_splits.specs.Bodies.{body_read}
use Rattle.size_splits.specs.Reading.{splits_by, steps_domains}
use Rattle.size_splits.specs.Splits.{splits_from}
use Rattle.size_splits.proofs.Notes.{notes_domained}
use Rattle.size_splits.proofs.Tables.{length_steps_domains, splits_listed}
use Rattle.split_combinations.proofs.splitting.splits.Goals as goal

pub splits_by-requires : goal.splits_by-requires
splits_by-requires c =
    let types = c.args.types.now in
    let sizing = c.args.sizing.now in
    let b = c.args.body.now in
    let of = known_at (known_of c.args.numbers.now) in
    let many : length c.as_slice-list.result.now ≡ b.variables - c.in-Ok.own =
    ap length (c.as_slice-list.ensures ∙ c.in_ok-domains.ensures)
    ∙ length_steps_domains types sizing of b.variables (b.variables - c.in-Ok.own) c.in-Ok.own (begun 0) c.as_slice-steps.result.now in
    omega (arith, many)

pub returns : goal.returns
returns c =
    let types = c.args.types.now in
    let sizing = c.args.sizing.now in
    let b = c.args.body.now in
    let of = known_at (known_of c.args.numbers.now) in
    let own = c.in-Ok.own in
    let count = b.variables - own in
    let steps = c.as_slice-steps.result.now in
    let many : own ≡ length c.args.numbers.now = omega (arith, c.in-Ok.ensures) in
    let listed : splits_by own 1 c.as_slice-list.result.now ≡ splits_from types sizing of (body_read b) count own 1 =
    ap (splits_by own 1) (c.as_slice-list.ensures ∙ c.in_ok-domains.ensures)
    ∙ (ap (λ ss. splits_by own 1 (steps_domains types sizing b.variables of count own (begun 0) ss)) c.as_slice-steps.ensures
    ∙ sym (splits_listed types sizing of (body_read b) (begun 0) b.steps
    (λ v. notes_domained types sizing b.variables of v (begun 0) b.steps) count own 1)) in
    subst (λ (vs : List ℕ). IfOk c.splits_by.result (λ made. made ≡ vs))
    (listed ∙ ap (λ n. splits_from types sizing of (body_read b) (b.variables - n) n 1) many) c.splits_by.ensures
