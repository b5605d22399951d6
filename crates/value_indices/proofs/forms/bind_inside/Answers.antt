use Rattle.value_indices.specs.Walking.{seen}
use Rattle.value_indices.proofs.Openings.{inside_walked}
use Rattle.value_indices.proofs.forms.bind_inside.Goals as goal

pub returns-clause-walked : goal.returns-clause-walked
returns-clause-walked c =
    inside_walked c.args.name.now c.in_ok-clone.field-0 c.args.con.now c.args.indices.now c.as_slice.result.now c.in_ok-inside.inside
    c.in_ok-variable.variable c.in_ok-holds.holds (seen c.args.walked.now) (seen c.fresh_named.new.self) (seen c.assume_if.new.self)
    c.in_ok-clone.ensures c.in_ok-variable.ensures.value c.in_ok-variable.ensures.walked c.in_ok-inside.ensures c.as_slice.ensures
    c.in_ok-holds.ensures c.in_ok-assume_if.ensures
