-- One digit more.
use Rattle.std.proofs.Common.{◌≡◌, ℕ, suc, ◌+◌, ◌*◌, ◌-◌, ◌<◌, ◌≤◌, ◌^◌, Bool, List, [], ◌∷◌, ◌++◌, length, take, drop, sym, ap, ◌∙◌, subst}
use Rattle.std.proofs.Common.{arith, length-take}
use Rattle.std.proofs.Math.Pow.{pow_mono}
use Rattle.std.proofs.lemmas.List.{drop-drop}
use Rattle.sail_base.specs.Bits.{value_of, slice_bits}
use Rattle.sail_types.specs.Texts.{digit, digits}

-- a part of at most four bits is below sixteen
pub below_sixteen : (n bits_each low : ℕ) (part word : List Bool) → 0 < bits_each → bits_each ≤ 4
    → part ≡ slice_bits word (low + bits_each - 1) low → n < 2 ^ length part → n < 16
below_sixteen n bits_each low part word some few is h =
    let short : length part ≤ 4 = omega (arith, ap length is, length-take (low + bits_each - 1 - low + 1) (drop low word)) in
    let up : 2 ^ length part ≤ 2 ^ 4 = pow_mono {i = length part} {j = 4} short in
    omega (arith, up, h)

-- one digit more
digits_next : (bits_each left count : ℕ) (word : List Bool) → left < count
    → digits bits_each (count - suc left) (drop (bits_each * suc left) word)
    ++ digit (value_of (take bits_each (drop (bits_each * left) word))) ∷ [] ≡ digits bits_each (count - left) (drop (bits_each * left) word)
digits_next bits_each left count word within =
    let longer : suc (count - suc left) ≡ count - left = omega arith in
    let behind : bits_each * suc left ≡ bits_each * left + bits_each = omega arith in
    let cut : drop (bits_each * suc left) word ≡ drop bits_each (drop (bits_each * left) word) = ap (λ k. drop k word) behind
    ∙ sym (drop-drop bits_each (bits_each * left) word) in
    ap (λ bits. digits bits_each (count - suc left) bits ++ digit (value_of (take bits_each (drop (bits_each * left) word))) ∷ []) cut
    ∙ ap (λ n. digits bits_each n (drop (bits_each * left) word)) longer

pub digits_more : (bits_each left count : ℕ) (word : List Bool) → 0 < left → left ≤ count
    → digits bits_each (count - left) (drop (bits_each * left) word)
    ++ digit (value_of (take bits_each (drop (bits_each * (left - 1)) word))) ∷ []
    ≡ digits bits_each (count - (left - 1)) (drop (bits_each * (left - 1)) word)
digits_more bits_each left count word some within =
    let is : suc (left - 1) ≡ left = omega arith in
    subst (λ k. digits bits_each (count - k) (drop (bits_each * k) word) ++ digit (value_of (take bits_each (drop (bits_each * (left - 1))
    word))) ∷ [] ≡ digits bits_each (count - (left - 1)) (drop (bits_each * (left - 1)) word)) is
    (digits_next bits_each (left - 1) count word (omega arith))
