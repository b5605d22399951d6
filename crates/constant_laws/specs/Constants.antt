-- Indices that name no variable mean the same wherever they are read.
use Rattle.std.specs.Prelude.{◌≡◌, true, List}
use Rattle.sail_types.specs.Belongs.{Reading as Closed}
use Rattle.sail_types.specs.Numbers.{Positive}
use Rattle.sail_types.specs.declared.table.Types.{Types}
use Rattle.value_indices.specs.declared.indices.Indices.{Indices}
use Rattle.value_indices.specs.declared.indices.Reading.{Reading}
use Rattle.constraint_gen.specs.Models.{is_constant, is_reading_constant}
use Rattle.value_laws.specs.Belonging.{Integers, standing, meant, closed}

-- whatever integers variables stand for
pub record MeanOneThing (types : Types) (past : Positive) (own : List Closed) : Type 0 where
  pub indices : (f g : Integers) (i : Indices) → is_constant i ≡ true → meant types (standing past f) own i ≡ meant types (standing past g) own i
  pub readings : (f g : Integers) (r : Reading) → is_reading_constant r ≡ true → closed types (standing past f) own r ≡ closed types (standing past g) own r

abbrev pub ConstantsMeanOneThing : Type 0
ConstantsMeanOneThing = (types : Types) (past : Positive) (own : List Closed) → MeanOneThing types past own
