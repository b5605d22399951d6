use Rattle.std.proofs.Common.{sym, ap, ◌∙◌, List, map}
use Rattle.sail_core.specs.declared.patterns.Pattern.{Pattern}
use Rattle.pattern_notes.specs.Patterns.{look, only_written}
use Rattle.pattern_leaves.proofs.Rests.{one_of}
use Rattle.pattern_notes.proofs.Looked.{written_is}
use Rattle.pattern_notes.proofs.looks.+written.Goals as goal

pub written_of-returns : goal.written_of-returns
written_of-returns t c = c.form_written.ensures ∙ sym (written_is c.args.pattern.now c.as_slice.result.now c.as_slice.ensures)

pub only_written-returns-in-len1 : goal.only_written-returns-in-len1
only_written-returns-in-len1 t c =
    let one = one_of c.args.parts.now c.part-item.result c.in-len1.len_at_least c.in-len1.len_below c.part-item.is in
    c.written_of.ensures ∙ ap (λ (ps : List Pattern). only_written (map look ps)) (sym one)
