-- The sizes in a type, one depth further in.
use Rattle.std.proofs.Common.{◌≡◌, ◌≢◌, ℕ, zero, suc, ◌-◌, List, ap, refl, arith}
use Rattle.sail_types.specs.declared.table.Types.{Types}
use Rattle.sail_types.specs.declared.types.Typ.{Typ, out-Typ}
use Rattle.size_values.specs.declared.constants.Constant.{Constant}
use Rattle.size_values.specs.declared.listed.Listed.{Listed}
use Rattle.size_values.specs.declared.sizes.Size.{Size}
use Rattle.size_values.specs.Sizes.{form_listed, listed_within}

pub below : (types : Types) (depth : ℕ) (t : Typ) (us : List ℕ) (cs : List Constant) (own : List (List Size)) (l : Listed) → depth ≢ 0
    → listed_within types depth t us cs own l ≡ form_listed types (listed_within types (depth - 1)) (out-Typ t) us cs own l
below types zero t us cs own l h = absurd (h refl)
below types (suc depth) t us cs own l h =
    let e : depth ≡ suc depth - 1 = omega arith in
    ap (λ d. form_listed types (listed_within types d) (out-Typ t) us cs own l) e
