-- Types, one depth further in.
use Rattle.std.proofs.Common.{◌≡◌, ◌≢◌, ℕ, zero, suc, ◌-◌, List, ap, refl, arith}
use Rattle.sail_types.specs.declared.numbers.Index.{Index}
use Rattle.sail_types.specs.declared.table.Types.{Types}
use Rattle.sail_types.specs.declared.types.Typ.{Typ, out-Typ}
use Rattle.size_values.specs.declared.constants.Constant.{Constant}
use Rattle.told_sizes.specs.declared.applied.Applied.{Applied}
use Rattle.told_sizes.specs.Exact.{form_passes, form_settles, form_tells, front_form, front_tells, typ_passes, typ_settles, typ_tells}

pub passes_below : (types : Types) (depth : ℕ) (t : Typ) (seen : List Applied) (n : ℕ) (cs : List Constant) → depth ≢ 0
    → typ_passes types depth t seen n cs ≡ form_passes types (typ_passes types (depth - 1)) (out-Typ t) seen n cs
passes_below types zero t seen n cs h = absurd (h refl)
passes_below types (suc depth) t seen n cs h =
    let e : depth ≡ suc depth - 1 = omega arith in
    ap (λ (d : ℕ). form_passes types (typ_passes types d) (out-Typ t) seen n cs) e

module _ (types : Types) (of : ℕ → Constant) where
  pub settles_below : (depth : ℕ) (t : Typ) (n : ℕ) (is : List Index) (cs : List Constant) → depth ≢ 0
      → typ_settles types of depth t n is cs
      ≡ form_settles types of (typ_passes types (depth - 1)) (typ_settles types of (depth - 1)) (out-Typ t) n is cs
  settles_below zero t n is cs h = absurd (h refl)
  settles_below (suc depth) t n is cs h =
      let e : depth ≡ suc depth - 1 = omega arith in
      ap (λ (d : ℕ). form_settles types of (typ_passes types d) (typ_settles types of d) (out-Typ t) n is cs) e

  pub tells_below : (depth : ℕ) (t : Typ) (n : ℕ) (is : List Index) (cs : List Constant) → depth ≢ 0
      → typ_tells types of depth t n is cs ≡ form_tells types of (typ_settles types of (depth - 1)) (typ_tells types of (depth - 1)) (out-Typ t) n is cs
  tells_below zero t n is cs h = absurd (h refl)
  tells_below (suc depth) t n is cs h =
      let e : depth ≡ suc depth - 1 = omega arith in
      ap (λ (d : ℕ). form_tells types of (typ_settles types of d) (typ_tells types of d) (out-Typ t) n is cs) e

  pub front_below : (depth : ℕ) (t : Typ) (n : ℕ) (is : List Index) (cs : List Constant) → depth ≢ 0
      → front_tells types of depth t n is cs
      ≡ front_form (front_tells types of (depth - 1)) (form_tells types of (typ_settles types of (depth - 1)) (typ_tells types of (depth - 1)) (out-Typ t))
      (out-Typ t) n is cs
  front_below zero t n is cs h = absurd (h refl)
  front_below (suc depth) t n is cs h =
      let e : depth ≡ suc depth - 1 = omega arith in
      ap
      (λ (d : ℕ). front_form (front_tells types of d) (form_tells types of (typ_settles types of d) (typ_tells types of d) (out-Typ t)) (out-Typ t) n is cs) e
