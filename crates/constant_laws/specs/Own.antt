-- Where nothing stands for a function's Type variables, indices have no more values than where something does (Sail language manual, "Type variables").
use Rattle.std.specs.Prelude.{◌≡◌, true, List, []}
use Rattle.sail_types.specs.Belongs.{Reading as Closed}
use Rattle.sail_types.specs.Numbers.{Positive}
use Rattle.sail_types.specs.declared.table.Types.{Types}
use Rattle.sail_types.specs.declared.values.Value.{Value}
use Rattle.value_indices.specs.declared.indices.Indices.{Indices}
use Rattle.value_indices.specs.declared.indices.Reading.{Reading}
use Rattle.value_laws.specs.Belonging.{Integers, closed, has, is_of, standing}

-- whatever they stand for
pub record MeanNoLess (types : Types) (past : Positive) (own : List Closed) : Type 0 where
  pub indices : (f : Integers) (i : Indices) (v : Value) → has types (standing past f) [] i v ≡ true → has types (standing past f) own i v ≡ true
  pub readings : (f : Integers) (r : Reading) (v : Value) → is_of types (standing past f) [] r v ≡ true → is_of types (standing past f) own r v ≡ true
  -- a type that is one and the same for these integers still is
  pub alike : (f g : Integers) (r : Reading) → closed types (standing past f) [] r ≡ closed types (standing past g) [] r
      → closed types (standing past f) own r ≡ closed types (standing past g) own r

abbrev pub OwnTypesMeanNoLess : Type 0
OwnTypesMeanNoLess = (types : Types) (past : Positive) (own : List Closed) → MeanNoLess types past own
