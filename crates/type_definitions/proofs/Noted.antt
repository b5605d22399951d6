-- The first of failures that stand one list behind the other.
use Rattle.std.proofs.Common.{◌≡◌, List, ◌++◌, sym, ap, ◌∙◌, Option, Result, Ok, Err, OnOk}
use Rattle.sail_kinds.specs.declared.error.TableError.{TableError}
use Rattle.sail_kinds.specs.Failures.{first_failure}
use Rattle.sail_kinds.proofs.Firsts.{first_failure_append}

-- failures of one list, and then of another
pub two_noted : (before middle after : Option TableError) (es fs : List TableError)
    → middle ≡ first_failure before es → after ≡ first_failure middle fs → after ≡ first_failure before (es ++ fs)
two_noted before middle after es fs h k = k ∙ ap (λ (kept : Option TableError). first_failure kept fs) h ∙ sym (first_failure_append before es fs)

-- what holds in any case, and what follows where a call has answered
pub on_any : {T E P : Type 0} (r : Result T E) → P → OnOk r P
on_any (Ok x) h = h
on_any (Err e) h = tt

pub on_both : {T E P Q R : Type 0} (r : Result T E) → (P → Q → R) → OnOk r P → OnOk r Q → OnOk r R
on_both (Ok x) f h k = f h k
on_both (Err e) f h k = tt

pub on_ok : {T E P Q : Type 0} (r : Result T E) → (P → Q) → OnOk r P → OnOk r Q
on_ok (Ok x) f h = f h
on_ok (Err e) f h = tt
