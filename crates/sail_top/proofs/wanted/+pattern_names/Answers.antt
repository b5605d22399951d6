use Rattle.std.proofs.Common.{◌∙◌, Bool, List, ap, map, sym}
use Rattle.sail_core.specs.declared.patterns.Form.{Form}
use Rattle.sail_core.specs.declared.patterns.Pattern.{Pattern, fold_out-Pattern, out-Pattern}
use Rattle.sail_top.specs.Wanted.{form_names, one_names, pattern_names}
use Rattle.sail_top.proofs.wanted.+pattern_names.Goals as goal

pub pattern_names-returns-in-Typed : goal.pattern_names-returns-in-Typed
pattern_names-returns-in-Typed t c =
    let pattern = c.args.pattern.now in
    c.one_names.ensures
    ∙ ap (λ (ps : List Pattern). one_names ps) c.as_slice.ensures
    ∙ sym (fold_out-Pattern Bool (λ p. form_names p.form p.parts) pattern
    ∙ ap (λ (form : Form). form_names form (map pattern_names (out-Pattern pattern).parts)) c.in-Typed.is)
