-- The numbers of slots by what stands in them: a place, and a type.
use Rattle.std.specs.Prelude.{ℕ, suc, nat_eq, nat_lt, Bool, true, false, ◌&&◌, List, [], ◌∷◌, ◌++◌, length, if◌then◌else◌}
use Rattle.lowered_slots.specs.declared.slots.Place.{Place}
use Rattle.lowered_slots.specs.declared.slots.Place.TheVariants as P
use Rattle.lowered_slots.specs.declared.slots.Slot.{Slot}

abbrev pub same_place : Place → Place → Bool
same_place P.Raised P.Raised = true
same_place (P.Given i) (P.Given j) = nat_eq i j
same_place (P.Local i) (P.Local j) = nat_eq i j
same_place (P.Number x d) (P.Number y e) = nat_eq x y && nat_eq d e
same_place (P.Temp i) (P.Temp j) = nat_eq i j
same_place p q = false

-- whether a slot is the one for values of this type at this place
abbrev pub is_for : Place → ℕ → Slot → Bool
is_for p t s = same_place p s.place && nat_eq t s.typ

-- the number of the first that is so; where there is none, how many there are
abbrev pub name_in : List Slot → Place → ℕ → ℕ
name_in [] p t = 0
name_in (s ∷ ss) p t = if is_for p t s then 0 else suc (name_in ss p t)

-- with the slot for values of this type at this place, behind the others where there was none
abbrev pub with_slot : Place → ℕ → List Slot → List Slot
with_slot p t ss = if nat_lt (name_in ss p t) (length ss) then ss else ss ++ record { place = p; typ = t } ∷ []
