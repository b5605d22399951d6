-- Numbers below 256, in parts of a list of them.
use Rattle.std.proofs.Common.{ℕ, zero, suc, ◌+◌, ◌<◌, List, [], ◌∷◌, length, take, drop, get_or, slice_index, All, arith}
use Rattle.std.proofs.lemmas.List.{get_or-drop}

-- every item is a byte, also past the end, where a list reads as 0
abbrev pub AreBytes : List ℕ → Type 0
AreBytes bytes = (k : ℕ) → slice_index bytes k < 256

pub AreBytes-drop : (n : ℕ) (bytes : List ℕ) → AreBytes bytes → AreBytes (drop n bytes)
AreBytes-drop n bytes fits = λ k. rw (get_or-drop n bytes k 0) (fits (n + k))

pub AreBytes-take : (n : ℕ) (bytes : List ℕ) → AreBytes bytes → AreBytes (take n bytes)
AreBytes-take zero bytes fits = λ k. omega arith
AreBytes-take (suc n) [] fits = fits
AreBytes-take (suc n) (byte ∷ bytes) fits =
    λ k. elim k as (λ k. slice_index (take (suc n) (byte ∷ bytes)) k < 256) [ zero ↦ fits 0 | suc (k → ih) ↦ AreBytes-take n bytes (λ j. fits (suc j)) k ]

pub All-AreBytes : (bytes : List ℕ) → AreBytes bytes → All (λ byte. byte < 256) bytes
All-AreBytes [] fits = λ k d h. absurd (omega arith)
All-AreBytes (byte ∷ bytes) fits =
    λ k. elim k as (λ k. (d : ℕ) → k < length (byte ∷ bytes) → get_or (byte ∷ bytes) k d < 256)
    [ zero ↦ λ d h. fits 0 | suc (k → ih) ↦ λ d h. All-AreBytes bytes (λ j. fits (suc j)) k d (omega arith) ]
