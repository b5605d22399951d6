-- What is known of a value where ways meet is so (Sail language manual, "Conditionals", "Pattern matching", "Exceptions").
use Rattle.std.specs.Prelude.{◌≡◌, ◌<◌, ℕ, true, List}
use Rattle.sail_types.specs.Belongs.{Reading as Closed, belongs}
use Rattle.sail_types.specs.Numbers.{Positive, true_in}
use Rattle.sail_types.specs.Zero.{deepest}
use Rattle.sail_types.specs.declared.shapes.Shape.{Shape}
use Rattle.sail_types.specs.declared.table.Types.{Types}
use Rattle.sail_types.specs.declared.values.Value.{Value}
use Rattle.value_indices.specs.Steps.{conjunction}
use Rattle.value_indices.specs.declared.indices.Indices.{Indices}
use Rattle.value_indices.specs.declared.indices.Reading.{Reading}
use Rattle.value_indices.specs.declared.indices.Reading.TheVariants as R
use Rattle.value_indices.specs.declared.notes.Fact.{Fact}
use Rattle.value_laws.specs.Belonging.{Integers, Meant, standing, meant, closed, has, is_of}
use Rattle.value_laws.specs.Known.{Point, Agree, Later, Goes}
use Rattle.wide_types.specs.Widening.{agrees_within, filled, met, value_spelled, widened, widened_type}
use Rattle.expression_forms.specs.Inside.{is_value_told}

-- ---- widened types

-- a value of a type is of its widened type, and one that has indices is of the widened type of theirs
abbrev pub WideningIsSound : Type 0
WideningIsSound = (types : Types) (past : Positive) (own : List Closed) (g : Integers) (v : Value)
    → ((r : Reading) → is_of types (standing past g) own r v ≡ true → is_of types (standing past g) own (widened_type r) v ≡ true)
    × ((i : Indices) → has types (standing past g) own i v ≡ true → is_of types (standing past g) own (widened i) v ≡ true)

-- ---- where ways meet

-- every variable before this one is fixed
abbrev pub IsFull : {m : ℕ} → Point m → Type 0
IsFull {m} f = (i : ℕ) → i < m → f.fixed i ≡ true

-- before the ways every variable is fixed; a value has the first way's indices, or is of that way's widened type, whatever the way's own variables
-- stand for there: then the walk behind the ways gives indices that the value has, which mean one and the same whatever variables stand for that
-- aren't fixed
abbrev pub MeetingIsSound : Type 0
MeetingIsSound = (types : Types) (past : Positive) (own : List Closed) (first : Indices) (shape : Shape) (m : ℕ) (f : Point m) → IsFull f
    → (h : Integers) → Agree f h → (v : Value) → is_of types (standing past h) own (R.Widened first) v ≡ true
    → (n : ℕ) (p : Point n) (facts : List Fact) → Later f p
    → (j : Meant) × (j.holds v ≡ true) × Goes past n p facts (met types m shape first) (λ g i. meant types (standing past g) own i ≡ j)

-- so it is where a value is of a later way, which agrees with the first by the numbers that are kept of it, and these say all of every item of both
abbrev pub AgreeingIsSound : Type 0
AgreeingIsSound = (types : Types) (past : Positive) (own : List Closed) (first later : Indices) (shape : Shape) (m : ℕ) (f : Point m) → IsFull f
    → (h : Integers) → Agree f h → is_value_told (value_spelled first) ≡ true → is_value_told (value_spelled later) ≡ true
    → true_in (standing past h) (conjunction (agrees_within deepest m (value_spelled first) (value_spelled later))) ≡ true
    → (v : Value) → is_of types (standing past h) own (R.Widened later) v ≡ true → (n : ℕ) (p : Point n) (facts : List Fact) → Later f p
    → (j : Meant) × (j.holds v ≡ true) × Goes past n p facts (met types m shape first) (λ g i. meant types (standing past g) own i ≡ j)

-- so it is with the widened type itself, of which each such value is
abbrev pub FillingIsSound : Type 0
FillingIsSound = (types : Types) (past : Positive) (own : List Closed) (first : Indices) (shape : Shape) (m : ℕ) (f : Point m) → IsFull f
    → (h : Integers) → Agree f h → (n : ℕ) (p : Point n) (facts : List Fact) → Later f p
    → (c : Closed) × ((v : Value) → is_of types (standing past h) own (R.Widened first) v ≡ true → belongs types v c ≡ true)
    × Goes past n p facts (filled types m shape first) (λ g r. closed types (standing past g) own r ≡ c)

-- a value that has indices is of their widened type as it stands
abbrev pub HasItsType : Type 0
HasItsType = (types : Types) (past : Positive) (own : List Closed) (g : Integers) (i : Indices) (v : Value)
    → has types (standing past g) own i v ≡ true → is_of types (standing past g) own (R.Widened i) v ≡ true
