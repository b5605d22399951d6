-- Failures in two lists, and what holds whether or not memory was enough.
use Rattle.std.proofs.Common.{◌≡◌, List, ◌++◌, Option, Result, Ok, Err, OnOk, sym, ap, ◌∙◌}
use Rattle.shape_rules.specs.declared.error.ShapeError.{ShapeError}
use Rattle.shape_rules.specs.Findings.{first_failure}
use Rattle.shape_rules.proofs.Firsts.{first_failure_append}

-- failures behind others
pub noted_behind : (old mid new : Option ShapeError) (es fs : List ShapeError)
    → mid ≡ first_failure old es → new ≡ first_failure mid fs → new ≡ first_failure old (es ++ fs)
noted_behind old mid new es fs h k =
    k ∙ ap (λ (e : Option ShapeError). first_failure e fs) h ∙ sym (first_failure_append old es fs)

-- what holds, holds of a result
pub on_ok_of : {T E P : Type 0} (r : Result T E) → P → OnOk r P
on_ok_of (Ok x) p = p
on_ok_of (Err e) p = tt
