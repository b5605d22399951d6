-- The harts of a schedule, one by one.
use Rattle.std.proofs.Common.{◌≡◌, ℕ, ◌+◌, ◌<◌, ◌%◌, List, length, get_or, ap, sym, ◌∙◌, arith}
use Rattle.std.proofs.Math.Nat.{mod-eq_of_lt, mod-add-mod}
use Rattle.std.proofs.lemmas.List.{ext_get_or}
use Rattle.std.proofs.lemmas.List.FromFn.{length-map-range_with_len, get_or-map-range_with_len}
use Rattle.harts.specs.Schedule.{schedule}

pub length-schedule : (order : List ℕ) (events : ℕ) → length (schedule order events) ≡ events
length-schedule order events = length-map-range_with_len (λ event. get_or order (event % length order) 0) 0 events

pub hart_at : (order : List ℕ) (events i : ℕ) → i < events → get_or (schedule order events) i 0 ≡ get_or order (i % length order) 0
hart_at order events i lt = get_or-map-range_with_len (λ event. get_or order (event % length order) 0) 0 events i i 0 lt (omega arith)

-- the place in an order after so many events, and the hart there
pub after_place : (count events place : ℕ) → place ≡ events % count → (place + 1) % count ≡ (events + 1) % count
after_place count events place at = ap (λ p. (p + 1) % count) at ∙ mod-add-mod events count 1

pub hart_of : (order : List ℕ) (events i place : ℕ) → i < events → place ≡ i % length order
    → get_or order place 0 ≡ get_or (schedule order events) i 0
hart_of order events i place lt at = ap (λ p. get_or order p 0) at ∙ sym (hart_at order events i lt)

-- an order is the schedule of as many events
pub whole_order : (order : List ℕ) → schedule order (length order) ≡ order
whole_order order =
    ext_get_or 0 (schedule order (length order)) order (length-schedule order (length order))
    (λ i lt.
    let within : i < length order = omega (arith, lt, length-schedule order (length order)) in
    hart_at order (length order) i within ∙ ap (λ k. get_or order k 0) (mod-eq_of_lt within))
