use Rattle.std.proofs.Common.{◌≡◌, sym, ap, ◌∙◌}
use Rattle.std.proofs.lemmas.Int.{to_z-of_z}
use Rattle.std.specs.Int.{w128}
use Rattle.sail_types.specs.Sums.{constant}
use Rattle.sail_types.specs.declared.numbers.Con.{Con}
use Rattle.value_indices.specs.Opening.{equal}
use Rattle.value_indices.specs.Steps.{assume}
use Rattle.value_indices.specs.Walking.{run, seen}
use Rattle.pattern_leaves.proofs.Walked.{integer_got, integer_run, unknown_run}
use Rattle.pattern_leaves.proofs.literals.know_integer.Goals as goal

pub returns-in_ok-assume-clause-found : goal.returns-in_ok-assume-clause-found
returns-in_ok-assume-clause-found c = cc (integer_got c.args.in_case c.args.z c.args.number.now (seen c.args.walking.now))

pub returns-in_ok-assume-clause-walked : goal.returns-in_ok-assume-clause-walked
returns-in_ok-assume-clause-walked c =
    let v = seen c.args.walking.now in
    let same = c.constant.ensures ∙ ap constant (to_z-of_z w128 c.args.z c.ranges.z) in
    let is : c.equal.result ≡ equal c.args.number.now (constant c.args.z) =
    c.equal.ensures ∙ (λ j. equal (c.in_ok-number.ensures j) (same j)) in
    c.in_ok-assume.ensures ∙ ap (λ (d : Con). run (assume d) v) is ∙ sym (integer_run c.args.in_case c.args.z c.args.number.now v c.if-in_case.true)

pub returns-else-in_case-clause-found : goal.returns-else-in_case-clause-found
returns-else-in_case-clause-found c = cc (integer_got c.args.in_case c.args.z c.args.number.now (seen c.args.walking.now))

pub returns-else-in_case-clause-walked : goal.returns-else-in_case-clause-walked
returns-else-in_case-clause-walked c = sym (unknown_run c.args.in_case c.args.z c.args.number.now (seen c.args.walking.now) c.if-in_case.false)
