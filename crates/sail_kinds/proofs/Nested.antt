-- Existential types, nested from the last name on.
use Rattle.std.proofs.Common.{◌≡◌, ℕ, ◌+◌, ◌<◌, true, List, [], ◌∷◌, ◌++◌, length, get_or, take, refl, sym, ap, ◌∙◌}
use Rattle.std.proofs.lemmas.List.{take_more}
use Rattle.sail_syntax.specs.declared.name.Name.{Name}
use Rattle.sail_types.specs.declared.numbers.Con.{Con}
use Rattle.sail_types.specs.declared.numbers.Con.TheVariants as C
use Rattle.sail_types.specs.declared.types.Typ.{Typ}
use Rattle.sail_types.specs.declared.types.Typ.TheVariants as T
use Rattle.sail_kinds.specs.Normal.{existential}

innermost : (names : List Name) (last : Name) (c : Con) (t : Typ)
    → existential (names ++ last ∷ []) c t ≡ existential names (C.Truth true) (T.Exists last.text c t)
innermost [] last c t = refl
innermost (name ∷ []) last c t = refl
innermost (name ∷ (next ∷ names)) last c t = ap (T.Exists name.text (C.Truth true)) (innermost (next ∷ names) last c t)

-- the last of so many names, nested
pub existential_more : (names : List Name) (i : ℕ) (d : Name) (c : Con) (t : Typ) → i < length names
    → existential (take i names) (C.Truth true) (T.Exists (get_or names i d).text c t) ≡ existential (take (i + 1) names) c t
existential_more names i d c t h =
    sym (ap (λ (some : List Name). existential some c t) (take_more names i d h) ∙ innermost (take i names) (get_or names i d) c t)
