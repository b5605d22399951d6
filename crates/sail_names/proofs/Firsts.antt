-- The first of failures behind others.
use Rattle.std.proofs.Common.{◌≡◌, List, [], ◌∷◌, ◌++◌, Option, refl}
use Rattle.sail_kinds.specs.declared.error.TableError.{TableError}
use Rattle.sail_kinds.specs.Failures.{earlier, first_failure}

pub first_failure_behind : (kept : Option TableError) (es fs : List TableError) → first_failure kept (es ++ fs) ≡ first_failure (first_failure kept es) fs
first_failure_behind kept [] fs = refl
first_failure_behind kept (e ∷ es) fs = first_failure_behind (earlier kept e) es fs
