-- What is marked in the end, one step further on.
use Rattle.std.proofs.Common.{◌≡◌, ◌≢◌, ℕ, zero, suc, ◌-◌, List, if◌then◌else◌, ap, refl, arith}
use Rattle.std.specs.Prelude.{Option, Some}
use Rattle.sail_types.specs.declared.table.Definition.{Definition}
use Rattle.size_values.specs.Hanging.{Marks, marked_next, marks_eq, settled}

pub one_more : (ds : List Definition) (steps : ℕ) (marks : Marks) → steps ≢ 0
    → settled ds steps marks ≡ (if marks_eq (marked_next ds marks) marks then Some marks else settled ds (steps - 1) (marked_next ds marks))
one_more ds zero marks h = absurd (h refl)
one_more ds (suc steps) marks h =
    let e : steps ≡ suc steps - 1 = omega arith in
    ap (λ k. if marks_eq (marked_next ds marks) marks then Some marks else settled ds k (marked_next ds marks)) e
