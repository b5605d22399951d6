-- Loops: each turn is a tick, so there are no more turns than ticks (Sail language manual, "Loops").
use Rattle.std.specs.Prelude.{ℕ, zero, suc, nat_lt, ℤ, pos, ◌+ℤ◌, ◌-ℤ◌, int_le, Bool, if◌then◌else◌, List, [], ◌∷◌, Option, Some, None}
use Rattle.sail_base.specs.declared.place.Place.{Place}
use Rattle.sail_types.specs.declared.values.Value.{Value}
use Rattle.sail_types.specs.declared.values.Value.TheVariants as V
use Rattle.sail_syntax.specs.declared.words.Direction.{Direction}
use Rattle.sail_syntax.specs.declared.words.Direction.TheVariants.{Up, Down}
use Rattle.sail_syntax.specs.declared.words.Looping.{Looping}
use Rattle.sail_syntax.specs.declared.words.Looping.TheVariants.{While, Repeat}
use Rattle.model_state.specs.declared.cause.Cause.TheVariants.{Measure, WorkLimit}
use Rattle.sail_core.specs.Run.{gives, stuck, stops, if_so, tick, within, local, ◌then◌}
use Rattle.sail_meaning.specs.World.{Piece, Meaning, truth, natural, plain}

-- ---- `foreach`: the test, the tick, the body; then the next number

abbrev pub is_in_span : Direction → ℤ → ℤ → Bool
is_in_span Up i to = int_le i to
is_in_span Down i to = int_le to i

abbrev pub next_number : Direction → ℤ → ℤ → ℤ
next_number Up i by = i +ℤ by
next_number Down i by = i -ℤ by

-- so many turns at most
abbrev pub count_turns : ℕ → List ℕ → Direction → ℤ → ℤ → ℤ → Piece Value → Piece Value
count_turns zero name direction i to by body = stops WorkLimit
count_turns (suc turns) name direction i to by body =
    if_so
    (tick then λ t. within (local name (V.Integer i) ∷ []) body then λ v. count_turns turns name direction (next_number direction i by) to by body)
    (gives V.Unit)
    (is_in_span direction i to)

-- a step below 1 is stuck
abbrev pub foreach : List ℕ → Direction → ℤ → ℤ → ℤ → Piece Value → Piece Value
foreach name direction from to by body now =
    if_so (count_turns (suc now.ticks) name direction from to by body) stuck (int_le (pos 1) by) now

-- ---- measures: one that isn't below that of the turn before stops the run at the loop

abbrev pub fallen : Place → Option ℕ → ℕ → Piece ℕ
fallen place None n = gives n
fallen place (Some before) n = if nat_lt n before then gives n else stops (Measure place)

abbrev pub measured : Place → Piece Value → Option ℕ → Piece ℕ
measured place measure before = measure then λ v. natural v then fallen place before

abbrev pub holds : Piece Value → Piece Bool
holds condition = condition then truth

-- ---- `while`: condition, tick, measure, body

abbrev pub while_turns : ℕ → Place → Piece Value → Piece Value → Piece Value → Option ℕ → Piece Value
while_turns zero place measure condition body before = stops WorkLimit
while_turns (suc turns) place measure condition body before =
    holds condition then if_so
    (tick then λ t. measured place measure before then λ n. body then λ v. while_turns turns place measure condition body (Some n))
    (gives V.Unit)

-- ---- `repeat`: tick, measure, body, condition

abbrev pub repeat_turns : ℕ → Place → Piece Value → Piece Value → Piece Value → Option ℕ → Piece Value
repeat_turns zero place measure condition body before = stops WorkLimit
repeat_turns (suc turns) place measure condition body before =
    tick then λ t. measured place measure before then λ n. body then λ v. holds condition
    then if_so (gives V.Unit) (repeat_turns turns place measure condition body (Some n))

-- each of these loops has a measure
abbrev pub looped : Looping → Place → Option Meaning → Meaning → Meaning → Meaning
looped While place (Some measure) condition body w now = while_turns (suc now.ticks) place (measure (plain w)) (condition w) (body w) None now
looped Repeat place (Some measure) condition body w now = repeat_turns (suc now.ticks) place (measure (plain w)) (condition w) (body w) None now
looped looping place None condition body w now = stuck now
