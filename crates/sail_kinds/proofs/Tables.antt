-- A name that stands in no row of a table.
use Rattle.std.proofs.Common.{◌≡◌, ℕ, false, cond, bytes_eq, List, [], ◌∷◌, refl, ap, ◌∙◌, arith, Some, None}
use Rattle.std.proofs.lemmas.Slice.Eq.{bytes_eq-Decides}
use Rattle.sail_kinds.specs.Builtin.{Row, look_up}

differs : (xs ys : List ℕ) → (xs ≡ ys → ⊥) → bytes_eq xs ys ≡ false
differs xs ys h = grind (arith, bytes_eq-Decides xs ys)

-- a name is that of no row
abbrev pub IsAbsent : {A : Type 0} → List ℕ → List (Row A) → Type 0
IsAbsent name [] = Unit {0}
IsAbsent name (row ∷ rows) = (name ≡ row.0 → ⊥) × (IsAbsent name rows × Unit {0})

pub absent : {A : Type 0} (name : List ℕ) (rows : List (Row A)) → IsAbsent name rows → look_up name rows ≡ None
absent name [] h = refl
absent {A} name (row ∷ rows) h =
    ap (λ b. cond b (Some row.1) (look_up name rows)) (differs name row.0 h.0) ∙ absent name rows h.1.0
