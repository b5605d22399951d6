use Rattle.std.proofs.Common.{◌≡◌, sym, ap, ◌∙◌, subst, OnOk, Bool}
use Rattle.value_indices.specs.Walking.{run, seen, remembered_last}
use Rattle.value_indices.proofs.Walks.{run_give}
use Rattle.pattern_leaves.specs.Settings.{around_of, written_in}
use Rattle.pattern_notes.specs.Patterns.{annotation_owed}
use Rattle.pattern_notes.proofs.typed.owe_written.Goals as goal

pub returns-then-is_owed : goal.returns-then-is_owed
returns-then-is_owed c =
    let around = around_of c.args.around.now in
    let v = seen c.args.walking.now in
    sym (run_give tt v)
    ∙ ap (λ (b : Bool). run (annotation_owed around c.args.place b c.args.indices.now (written_in around c.args.written.now) (remembered_last v)) v)
    (sym c.if-is_owed.true)

pub returns : goal.returns
returns c =
    let around = around_of c.args.around.now in
    let v = seen c.args.walking.now in
    subst (λ (b : Bool). OnOk c.owe_type.result (seen c.owe_type.new.walking
    ≡ run (annotation_owed around c.args.place b c.args.indices.now (written_in around c.args.written.now) (remembered_last v)) v))
    (sym c.if-is_owed.false) c.owe_type.ensures
