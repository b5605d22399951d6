-- What holds anyway holds where a call succeeds.
use Rattle.std.proofs.Common.{Err, Ok, Result}
use Rattle.std.specs.Prelude.{IfOk, OnOk}

pub ok_so : {T E P : Type 0} (r : Result T E) → P → OnOk r P
ok_so (Ok x) p = p
ok_so (Err e) p = tt

pub ok_both : {T E : Type 0} {A : T → Type 0} {P : Type 0} {R : T → Type 0} (r : Result T E) → ((x : T) → A x → P → R x) → IfOk r A → OnOk r P → IfOk r R
ok_both (Ok x) f a p = f x a p
ok_both (Err e) f a p = tt
