-- One part more, in front of those that are left.
use Rattle.std.proofs.Common.{◌≡◌, List, ◌++◌, sym, ap, ◌∙◌, append_assoc, Option}
use Rattle.shape_rules.specs.declared.error.ShapeError.{ShapeError}
use Rattle.shape_rules.specs.Findings.{first_failure}
use Rattle.shape_rules.proofs.Firsts.{first_failure_append}

-- what it has is put behind what was there
pub pushed : {B : Type 0} (old new one more left whole : List B) → new ≡ old ++ one → left ≡ one ++ more → old ++ left ≡ whole
    → new ++ more ≡ whole
pushed old new one more left whole is split before =
    ap (λ l. l ++ more) is ∙ append_assoc old one more ∙ ap (λ l. old ++ l) (sym split) ∙ before

-- its failures are noted
pub noted : (kept new : Option ShapeError) (one more left : List ShapeError) (whole : Option ShapeError) → new ≡ first_failure kept one
    → left ≡ one ++ more → first_failure kept left ≡ whole → first_failure new more ≡ whole
noted kept new one more left whole is split before =
    ap (λ k. first_failure k more) is ∙ sym (first_failure_append kept one more) ∙ ap (first_failure kept) (sym split) ∙ before

-- failures that are noted one after another
pub noted_then : (kept now new : Option ShapeError) (es fs : List ShapeError) → now ≡ first_failure kept es → new ≡ first_failure now fs
    → new ≡ first_failure kept (es ++ fs)
noted_then kept now new es fs first second = second ∙ ap (λ k. first_failure k fs) first ∙ sym (first_failure_append kept es fs)
