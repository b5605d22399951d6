use Rattle.std.proofs.Common.{sym, subst, ◌∙◌}
use Rattle.value_indices.specs.Walking.{Written, run, seen}
use Rattle.pattern_leaves.specs.Settings.{around_of}
use Rattle.size_notes.specs.Bodies.{both_read, mapping_read}
use Rattle.size_notes.specs.Reading.{IsAtRest}
use Rattle.size_notes.proofs.Chained.{read_end}
use Rattle.size_notes.proofs.Walked.{begun_rest}
use Rattle.size_notes.proofs.mappings.read_mapping.Goals as goal

pub read_both-requires : goal.read_both-requires
read_both-requires c = subst (λ (v : Written). IsAtRest v) (sym c.new-body.ensures) (begun_rest 0)

pub returns : goal.returns
returns c =
    let around = around_of c.args.around.now in
    let m = c.args.forwards.now in
    let n = c.args.backwards.now in
    read_end c.ended_body.result (mapping_read around m n) (seen c.read_both.new.body)
    (c.in_ok-read_both.ensures
    ∙ ((λ j. run (both_read m.place around m n (c.arms_of.ensures j) (c.as_slice.ensures j) (c.arms_of-2.ensures j) (c.as_slice-2.ensures j))
    (c.new-body.ensures j))))
    c.ended_body.ensures
