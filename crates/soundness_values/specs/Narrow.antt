-- Which Type variables a type names (Sail language manual, "Type variables").
use Rattle.std.specs.List.{list_all}
use Rattle.std.specs.Prelude.{ℕ, nat_lt, Bool, true}
use Rattle.sail_types.specs.declared.types.Typ.{Typ, Typ-F, fold-Typ}
use Rattle.sail_types.specs.declared.types.Typ.TheOpen as T

-- none but the first so many
abbrev pub form_narrow : ℕ → Typ-F Bool → Bool
form_narrow count (T.Variable i) = nat_lt i count
form_narrow count (T.List b) = b
form_narrow count (T.Vector n b) = b
form_narrow count (T.Tuple bs) = list_all (λ b. b) bs
form_narrow count (T.Named u is bs) = list_all (λ b. b) bs
form_narrow count (T.Exists name c b) = b
form_narrow count t = true

abbrev pub is_narrow : ℕ → Typ → Bool
is_narrow count = fold-Typ Bool (form_narrow count)
