-- Names that a pattern binds are in scope before others, the last of them first.
use Rattle.std.proofs.Common.{◌≡◌, ℕ, suc, false, cond, List, [], ◌∷◌, ◌++◌, reverse, refl, ap, ◌∙◌, arith}
use Rattle.std.proofs.Common.{Some, bytes_eq, All}
use Rattle.std.proofs.lemmas.List.{reverse-append, append_assoc}
use Rattle.shape_rules.specs.declared.locals.Local.{Local}
use Rattle.shape_rules.specs.Scopes.{Locals, local_of, under}

-- the last of them comes first
under_last : (found : List Local) (last : Local) (locals : Locals) → under (found ++ last ∷ []) locals ≡ last ∷ under found locals
under_last found last locals = ap (λ all. all ++ locals) (reverse-append found (last ∷ []))

pub last_innermost : (name : List ℕ) (found : List Local) (last : Local) (locals : Locals)
    → local_of name (under (found ++ last ∷ []) locals) ≡ cond (bytes_eq last.name name) (Some last) (local_of name (under found locals))
last_innermost name found last locals = ap (local_of name) (under_last found last locals)

-- the first of them is the outermost
under_first : (first : Local) (found : List Local) (locals : Locals) → under (first ∷ found) locals ≡ under found (first ∷ locals)
under_first first found locals =
    ap (λ all. all ++ locals) (reverse-append (first ∷ []) found) ∙ append_assoc (reverse found) (first ∷ []) locals

pub others_stay : (name : List ℕ) (found : List Local) (locals : Locals) → All (λ local. bytes_eq local.name name ≡ false) found
    → local_of name (under found locals) ≡ local_of name locals
others_stay name [] locals h = refl
others_stay name (first ∷ found) locals h =
    ap (local_of name) (under_first first found locals)
    ∙ others_stay name found (first ∷ locals) (λ k d less. h (suc k) d (omega arith))
    ∙ ap (λ t. cond t (Some first) (local_of name locals)) (h 0 first (omega arith))
