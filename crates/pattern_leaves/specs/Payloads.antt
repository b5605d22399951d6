-- Payloads of constructors (Sail language manual, "Union types" and "Pattern matching").
use Rattle.std.specs.Prelude.{ℕ, zero, suc, List, [], ◌∷◌, map, Option, Some, None}
use Rattle.sail_types.specs.declared.numbers.Index.{Index}
use Rattle.sail_types.specs.declared.types.Typ.{Typ, Typ-F, out-Typ}
use Rattle.sail_types.specs.declared.types.Typ.TheOpen as T
use Rattle.value_indices.specs.declared.indices.Reading.{Reading}
use Rattle.value_indices.specs.declared.indices.Reading.TheVariants as R

-- the types of the parts of a tuple; of another type that one
abbrev pub part_types : Typ → Typ-F Typ → List Typ
part_types t (T.Tuple ts) = ts
part_types t form = t ∷ []

-- those that so many patterns are matched with: one pattern is matched with the whole payload
abbrev pub payload_form : ℕ → Typ → Typ-F Typ → List Typ
payload_form (suc zero) t form = t ∷ []
payload_form count t form = part_types t form

-- the payload, or the parts of one that is a tuple
abbrev pub payload_types : ℕ → Option Typ → List Typ
payload_types count None = []
payload_types count (Some t) = payload_form count t (out-Typ t)

-- each under what the variables of the union stand for
abbrev pub payload_readings : List Typ → List Index → List Reading → List Reading
payload_readings ts is rs = map (λ t. R.Of t is rs) ts
