-- What a walk takes to be known of a value of a type is so.
use Rattle.std.specs.Prelude.{◌≡◌, ℕ, Bool, true, List}
use Rattle.sail_types.specs.Belongs.{Reading as Closed}
use Rattle.sail_types.specs.Numbers.{Positive}
use Rattle.sail_types.specs.declared.table.Types.{Types}
use Rattle.sail_types.specs.declared.values.Value.{Value}
use Rattle.value_indices.specs.declared.indices.Naming.{Naming}
use Rattle.value_indices.specs.declared.indices.Reading.{Reading}
use Rattle.value_indices.specs.declared.notes.Fact.{Fact}
use Rattle.value_indices.specs.Opening.{opening}
use Rattle.value_laws.specs.Belonging.{Integers, Meant, standing, meant, closed, is_of}
use Rattle.value_laws.specs.Known.{Point, Agree, Goes}

-- where a value belongs to a type that hangs on fixed variables alone, opening the type gives indices that the value has, which mean one and the same
-- whatever variables stand for that aren't fixed, and all that comes into force is true
abbrev pub OpeningIsSound : Type 0
OpeningIsSound = (types : Types) (past : Positive) (own : List Closed) (r : Reading) (tells : Bool) (name : Naming) (n : ℕ) (f : Point n)
    (facts : List Fact) (v : Value)
    → ((g : Integers) → Agree f g → closed types (standing past g) own r ≡ closed types (standing past f.integers) own r)
    → is_of types (standing past f.integers) own r v ≡ true
    → (m : Meant) × (m.holds v ≡ true) × Goes past n f facts (opening r tells name) (λ g i. meant types (standing past g) own i ≡ m)

-- and each other value with that meaning belongs to the type too
abbrev pub OpeningKeeps : Type 0
OpeningKeeps = (types : Types) (past : Positive) (own : List Closed) (r : Reading) (tells : Bool) (name : Naming) (n : ℕ) (f : Point n)
    (facts : List Fact) (v : Value)
    → ((g : Integers) → Agree f g → closed types (standing past g) own r ≡ closed types (standing past f.integers) own r)
    → is_of types (standing past f.integers) own r v ≡ true
    → (m : Meant) × (m.holds v ≡ true) × ((w : Value) → m.holds w ≡ true → is_of types (standing past f.integers) own r w ≡ true)
    × Goes past n f facts (opening r tells name) (λ g i. meant types (standing past g) own i ≡ m)
