-- Empty ranges in the fields of structs, one depth further in.
use Rattle.std.proofs.Common.{◌≡◌, ◌≢◌, ℕ, zero, suc, ◌-◌, List, ap, refl, arith}
use Rattle.sail_types.specs.declared.table.Definition.{Definition}
use Rattle.sail_types.specs.declared.types.Typ.{Typ, out-Typ}
use Rattle.sail_bodies.specs.Voids.{voids_within, form_voids}

pub below : (table : List Definition) (depth : ℕ) (typ : Typ) → depth ≢ 0
    → voids_within table depth typ ≡ form_voids (voids_within table (depth - 1)) table (out-Typ typ)
below table zero typ h = absurd (h refl)
below table (suc depth) typ h =
    let e : depth ≡ suc depth - 1 = omega arith in
    ap (λ d. form_voids (voids_within table d) table (out-Typ typ)) e
