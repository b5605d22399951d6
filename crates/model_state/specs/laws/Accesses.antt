-- What the accesses of a run, in order, say of its reservations and of the bytes that it reads.
use Rattle.std.specs.Prelude.{◌≡◌, ℕ, ◌+◌, ◌-◌, ◌<◌, nat_eq, nat_le, nat_lt, Bool, true, false, not, ◌&&◌, ◌||◌}
use Rattle.std.specs.Prelude.{if◌then◌else◌, List, [], ◌∷◌, ◌++◌, length, map, slice_index, Option, Some, None}
use Rattle.std.specs.Prelude.{IsTrue, ◌↔◌, ◌⊎◌}
use Rattle.std.specs.List.{fold, list_all, range_with_len}
use Rattle.mem_store.specs.Bytes.{word_of, word_bytes}
use Rattle.model_state.specs.declared.state.Hart.{Hart}
use Rattle.model_state.specs.declared.state.Reservation.{Reservation}
use Rattle.model_state.specs.RunState.{RunState, Access, read, reserve, write, write_cond, mapped, put}
use Rattle.model_state.specs.StateRows.{reservation, touches, covers, Call, reserving, writing_cond, access_of, state_after, then_accesses}

abbrev pub reservations : RunState → List (Option Reservation)
reservations state = map (λ hart. hart.reservation) state.harts

-- memory and reservations are as before: a register was set, a hart rests from now on
pub record SameMemory (before after : RunState) : Type 0 where
  pub base : after.base ≡ before.base
  pub bytes : after.bytes ≡ before.bytes
  pub kept : reservations after ≡ reservations before

-- the hart that reserves or writes conditionally is there
abbrev pub IsCall : Call → RunState → Type 0
IsCall (reserving hart w a) s = hart < length s.harts
IsCall (writing_cond hart w a word) s = hart < length s.harts
IsCall call s = Unit {0}

-- calls of builtins one after another, by whatever harts, with their accesses in order; between them whatever leaves memory
-- and reservations as they are
abbrev pub Calls : List Call → RunState → List Access → RunState → Type 0
Calls [] s accesses t = SameMemory s t × (accesses ≡ [])
Calls (call ∷ calls) s accesses t =
    (u : RunState) × SameMemory s u × IsCall call u
    × ((rest : List Access) × (accesses ≡ then_accesses (access_of call u) rest) × Calls calls (state_after call u) rest t)

-- ---- reservations

-- the access ends this reservation of a hart: a later reservation of the hart, a conditional write of it, or a write of
-- whatever hart that touches a reserved byte
abbrev pub ends : ℕ → Reservation → Access → Bool
ends hart kept (reserve h w a word) = nat_eq h hart
ends hart kept (write h w a word) = touches w a (Some kept)
ends hart kept (write_cond h w a word done) = nat_eq h hart || (done && touches w a (Some kept))
ends hart kept x = false

-- a reservation of a hart stands after these accesses: it was made, and no access since then ends it
pub record Stands (hart : ℕ) (kept : Reservation) (accesses : List Access) : Type 0 where
  pub earlier : List Access
  pub word : List Bool
  pub since : List Access
  pub made : accesses ≡ earlier ++ reserve hart kept.width kept.place word ∷ since
  pub unended : list_all (λ x. not (ends hart kept x)) since ≡ true

-- a conditional write of `w` bytes at `a` by a hart writes, where a reservation of it stands that covers them
pub record MayWrite (hart w a : ℕ) (accesses : List Access) : Type 0 where
  pub kept : Reservation
  pub stands : Stands hart kept accesses
  pub covered : covers w a (Some kept) ≡ true

-- no hart has a reservation
abbrev pub Unreserved : RunState → Type 0
Unreserved s = (hart : ℕ) → reservation s hart ≡ None

-- every conditional write that doesn't stop writes exactly where the hart's reservation stands and covers the bytes
abbrev pub ReservationsHold : Type 0
ReservationsHold =
    (calls : List Call) (s t : RunState) (before after : List Access) (hart w a : ℕ) (word : List Bool) (done : Bool)
    → Unreserved s → Calls calls s (before ++ write_cond hart w a word done ∷ after) t
    → IsTrue done ↔ MayWrite hart w a before

-- ---- bytes

-- a byte after an access: the one that is written there, else as before
abbrev pub byte_after : ℕ → ℕ → Access → ℕ
byte_after at byte (write h w a word) = if nat_le a at && nat_lt at (a + w) then slice_index (word_bytes w word) (at - a) else byte
byte_after at byte (write_cond h w a word true) = if nat_le a at && nat_lt at (a + w) then slice_index (word_bytes w word) (at - a) else byte
byte_after at byte x = byte

-- the byte at an address after accesses from a state on: as the last write to it wrote it, else the state's
abbrev pub byte_now : RunState → List Access → ℕ → ℕ
byte_now s accesses at = fold (byte_after at) (slice_index s.bytes (at - s.base)) accesses

-- a read of these accesses, plain or reserving
abbrev pub word_now : RunState → List Access → ℕ → ℕ → List Bool
word_now s accesses w a = word_of (map (byte_now s accesses) (range_with_len a w))

-- every read that doesn't stop, plain or reserving, gives each byte as the last write before it wrote it, else as it was
abbrev pub ReadsHold : Type 0
ReadsHold =
    (calls : List Call) (s t : RunState) (before after : List Access) (hart w a : ℕ) (word : List Bool)
    → Calls calls s (before ++ read hart w a word ∷ after) t ⊎ Calls calls s (before ++ reserve hart w a word ∷ after) t
    → word ≡ word_now s before w a
