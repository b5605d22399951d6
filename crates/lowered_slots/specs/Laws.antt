-- Laws of the numbers of slots.
use Rattle.std.specs.Prelude.{◌≡◌, ℕ, ◌<◌, List, ◌++◌, length, map, slice_index_or}
use Rattle.lowered_slots.specs.declared.slots.Place.{Place}
use Rattle.lowered_slots.specs.declared.slots.Slot.{Slot}
use Rattle.lowered_slots.specs.Slots.{name_in, with_slot}

-- a slot that is there is for one place and one type alone
abbrev pub SlotsApart : Type 0
SlotsApart = (ss : List Slot) (p q : Place) (t u : ℕ) → name_in ss p t < length ss → name_in ss q u ≡ name_in ss p t → (q ≡ p) × (u ≡ t)

-- it has its type
abbrev pub SlotsTyped : Type 0
SlotsTyped = (ss : List Slot) (p : Place) (t : ℕ) → name_in ss p t < length ss → slice_index_or (map (λ s. s.typ) ss) (name_in ss p t) 0 ≡ t

-- a slot that is put is there, and one that is there keeps its number
abbrev pub SlotsLast : Type 0
SlotsLast = (ss : List Slot) (p : Place) (t : ℕ)
    → (name_in (with_slot p t ss) p t < length (with_slot p t ss))
    × ((more : List Slot) → name_in ss p t < length ss → name_in (ss ++ more) p t ≡ name_in ss p t)
