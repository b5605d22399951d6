-- Names, parts of values, and what is assigned to (Sail language manual, "Variables and assignment", "Registers", "Structs",
-- "Vectors"). In an assignment the indexes of its targets come first, then the new value, then reading and writing.
use Rattle.std.specs.Prelude.{ℕ, List, [], ◌∷◌, ◌++◌, Option, Some, None}
use Rattle.std.specs.Option.{option_or}
use Rattle.sail_types.specs.Sums.{and_then}
use Rattle.sail_types.specs.declared.table.Types.{Types}
use Rattle.sail_types.specs.declared.values.Value.{Value, Value-F, out-Value}
use Rattle.sail_types.specs.declared.values.Value.TheOpen as W
use Rattle.sail_types.specs.declared.values.Value.TheVariants as V
use Rattle.sail_syntax.specs.declared.name.Name.{Name}
use Rattle.model_state.specs.RunState.{register_value, with_register}
use Rattle.sail_core.specs.Run.{Gives, gives, stuck, needs, held_in, changed_in, ◌then◌}
use Rattle.sail_core.specs.Values.{Into, field, with_field, through, replaced, parts_in}
use Rattle.sail_meaning.specs.Named.{member_named, field_place}
use Rattle.sail_meaning.specs.World.{World, Piece, Bindings, Meaning, register_named}

-- ---- names

-- the value of a register of the hart at work
abbrev pub register_read : World → ℕ → Piece Value
register_read w r now = needs (register_value now.state w.hart r) now

abbrev pub register_write : World → Value → ℕ → Piece Value
register_write w v r = register_read w r then λ old now. Gives V.Unit (record now { state = with_register w.hart r v now.state })

-- a member of an enum, or a name of a top-level `let`
abbrev pub constant_named : World → List ℕ → Option Value
constant_named w name = option_or (member_named w.text.types name) (held_in name w.lets)

abbrev pub not_local : World → List ℕ → Option Value → Piece Value
not_local w name (Some v) = gives v
not_local w name None = needs (register_named w name) then register_read w

abbrev pub local_or : Option Value → Piece Value → Piece Value
local_or (Some v) other = gives v
local_or None other = other

-- a name is the newest local name, else a member, a `let` or a register
abbrev pub name_read : World → List ℕ → Piece Value
name_read w name now = local_or (held_in name now.locals) (not_local w name (constant_named w name)) now

-- an assigned name is a local `var`, else a register
abbrev pub local_changed : World → List ℕ → Value → Option Bindings → Piece Value
local_changed w name v (Some locals) now = Gives V.Unit (record now { locals = locals })
local_changed w name v None now = (needs (register_named w name) then register_write w v) now

abbrev pub name_write : World → List ℕ → Value → Piece Value
name_write w name v now = local_changed w name v (changed_in name v now.locals) now

-- ---- fields, by the struct that a value is of

abbrev pub field_taken : Types → List ℕ → Value-F Value → Option Value
field_taken types name (W.Struct struct vs) = and_then (field_place types struct name) (λ i. field struct i (W.Struct struct vs))
field_taken types name v = None

abbrev pub field_changed : Types → List ℕ → Value-F Value → Value → Option Value
field_changed types name (W.Struct struct vs) new = and_then (field_place types struct name) (λ i. with_field struct i (W.Struct struct vs) new)
field_changed types name v new = None

-- the way into a value by a field of this name
abbrev pub into_field : Types → List ℕ → Into
into_field types name = record {
  take_out = λ v. field_taken types name (out-Value v);
  put_in = λ old new. field_changed types name (out-Value old) new;
}

-- a struct with other values in these fields, one after the other
abbrev pub with_fields : Types → Bindings → Value → Option Value
with_fields types [] v = Some v
with_fields types (f ∷ fs) v = and_then ((into_field types f.name).put_in v f.held) (with_fields types fs)

-- ---- indexes and fields behind a base, evaluated to the way into its value

abbrev pub Suffix : Type 0
Suffix = World → Piece Into

-- of a target: all of them from left to right
abbrev pub ways_of : List Suffix → World → Piece (List Into)
ways_of [] w = gives []
ways_of (s ∷ ss) w = s w then λ way. ways_of ss w then λ ways. gives (way ∷ ways)

-- of an expression: each is evaluated and takes its part out, and then the next
abbrev pub suffixes_of : List Suffix → World → Value → Piece Value
suffixes_of [] w v = gives v
suffixes_of (s ∷ ss) w v = s w then λ way. needs (way.take_out v) then suffixes_of ss w

-- ---- spots: targets whose arguments and indexes are evaluated

pub record Spot : Type 0 where
  pub read : Piece Value
  pub write : Value → Piece Value

abbrev pub Target : Type 0
Target = World → Piece Spot

abbrev pub name_spot : World → List ℕ → Spot
name_spot w name = record { read = name_read w name; write = name_write w name }

-- `f(a) = e` is `f(a, e)`
abbrev pub call_spot : World → Name → List Value → Spot
call_spot w name vs = record { read = w.call name.place name.text vs; write = λ v. w.call name.place name.text (vs ++ v ∷ []) }

abbrev pub reads : List Spot → Piece (List Value)
reads [] = gives []
reads (s ∷ ss) = s.read then λ v. reads ss then λ vs. gives (v ∷ vs)

abbrev pub writes : List Spot → List Value → Piece Value
writes [] [] = gives V.Unit
writes (s ∷ ss) (v ∷ vs) = s.write v then λ done. writes ss vs
writes ss vs = stuck

-- `(a, b) = e` writes the parts of a tuple from left to right
abbrev pub tuple_spot : List Spot → Spot
tuple_spot ss = record {
  read = reads ss then λ vs. gives (V.Tuple vs);
  write = λ v. needs (parts_in v) then writes ss;
}

-- `a[i] = e` reads a, puts the new part in, and writes a
abbrev pub part_spot : Spot → List Into → Spot
part_spot base ways = record {
  read = base.read then λ old. needs (through ways old);
  write = λ v. base.read then λ old. needs (replaced ways old v) then base.write;
}

abbrev pub spots_of : List Target → World → Piece (List Spot)
spots_of [] w = gives []
spots_of (t ∷ ts) w = t w then λ spot. spots_of ts w then λ spots. gives (spot ∷ spots)

-- `a = b = e`: the indexes of a, then all that is on its right, then the write
abbrev pub assigned : Target → List Target → Meaning → Meaning
assigned target [] value w = target w then λ spot. value w then spot.write
assigned target (next ∷ more) value w = target w then λ spot. assigned next more value w then spot.write
