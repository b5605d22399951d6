use Rattle.std.proofs.Common.{◌≡◌, refl, ap, ◌∙◌, subst, List, OnOk}
use Rattle.value_indices.specs.declared.notes.Fact.{Fact}
use Rattle.value_indices.specs.Walking.{Written, got, run, seen, remembered_last}
use Rattle.pattern_leaves.specs.Settings.{around_of, exponents_owed, written_in}
use Rattle.pattern_notes.specs.Patterns.{written_owed, annotation_owed}
use Rattle.pattern_leaves.proofs.Walked.{then_run, still_remembered}
use Rattle.pattern_notes.proofs.typed.owe_annotation.Goals as goal

pub returns : goal.returns
returns c =
    let around = around_of c.args.around.now in
    let v = seen c.args.walking.now in
    let w = seen c.owe_exponents.new.walking in
    let i = c.args.indices.now in
    let r = written_in around c.args.written.now in
    let exponents = exponents_owed around c.args.written.now.numbers in
    let was : w ≡ run exponents v =
    c.in_ok-owe_exponents.ensures ∙ ap (λ ns. run (exponents_owed around ns) v) c.as_slice.ensures in
    let last : remembered_last w ≡ remembered_last v = ap remembered_last was ∙ still_remembered exponents v in
    let same : run (annotation_owed around c.args.place c.args.is_owed i r (remembered_last w)) w
    ≡ run (written_owed around c.args.place c.args.written.now c.args.is_owed i (remembered_last v)) v =
    ap (λ (fs : List Fact). run (annotation_owed around c.args.place c.args.is_owed i r fs) w) last
    ∙ then_run exponents (λ (t : Unit {0}). annotation_owed around c.args.place c.args.is_owed i r (remembered_last v)) v w (got exponents v) refl was in
    subst (λ (z : Written). OnOk c.owe_written.result (seen c.owe_written.new.walking ≡ z)) same c.owe_written.ensures
