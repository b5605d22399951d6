-- The nodes that read variables, as a list that grows.
use Rattle.std.proofs.Common.{◌≡◌, ◌∙◌, List, [], ◌∷◌, ◌++◌, Result, ap, map, sym}
use Rattle.std.specs.Prelude.{OnOk}
use Rattle.std.proofs.lemmas.List.{map-append}
use Rattle.std.proofs.lemmas.Result.{on_ok_weaker}
use Rattle.jib_lower.specs.declared.reads.Reading.{Reading}
use Rattle.jib_lower.specs.Reads.{Read, read_of}

pub one_read : {T E : Type 0} (r : Result T E) (old new : List Reading) (x : Reading) (here : List Read) → here ≡ read_of x ∷ []
    → OnOk r (new ≡ old ++ x ∷ []) → OnOk r (map read_of new ≡ map read_of old ++ here)
one_read r old new x here e p =
    on_ok_weaker r
    (λ (q : new ≡ old ++ x ∷ []). ap (map read_of) q ∙ map-append read_of old (x ∷ []) ∙ ap (λ rs. map read_of old ++ rs) (sym e)) p
