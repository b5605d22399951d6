-- What is put behind others, by another name.
use Rattle.std.proofs.Common.{◌≡◌, List, ◌++◌, sym, ap, ◌∙◌, Result, Ok, Err, OnOk}

pub pushed_as : {R E A : Type 0} (r : Result R E) (old found all now : List A) → all ≡ found → OnOk r (now ≡ old ++ found)
    → OnOk r (now ≡ old ++ all)
pushed_as (Ok x) old found all now same h = h ∙ ap (λ l. old ++ l) (sym same)
pushed_as (Err e) old found all now same h = tt
