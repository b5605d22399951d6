-- What is noted, by another name.
use Rattle.std.proofs.Common.{◌≡◌, List, sym, ap, ◌∙◌, Option, Result, Ok, Err, OnOk}
use Rattle.shape_rules.specs.declared.error.ShapeError.{ShapeError}
use Rattle.shape_rules.specs.Findings.{first_failure}

pub noted_as : {R E : Type 0} (r : Result R E) (kept now : Option ShapeError) (found all : List ShapeError) → all ≡ found
    → OnOk r (now ≡ first_failure kept found) → OnOk r (now ≡ first_failure kept all)
noted_as (Ok x) kept now found all same h = h ∙ ap (first_failure kept) (sym same)
noted_as (Err e) kept now found all same h = tt
