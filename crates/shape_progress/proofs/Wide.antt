-- How wide bits are: a part that is taken out is as wide as its slice, and bits with another part in them are as wide as before.
use Rattle.std.proofs.Common.{◌≡◌, ℕ, zero, suc, ◌-◌, ◌+◌, ◌<◌, ◌≤◌, ℤ, pos, negsuc, nat_eq, nat_lt, List, [], ◌∷◌, ◌++◌, length, take, drop, ap, sym, ◌∙◌}
use Rattle.std.proofs.Common.{refl, Bool, true, false, ◌&&◌, Some, None, slice_set, if◌then◌else◌, arith}
use Rattle.std.proofs.lemmas.Bool.{and_parts}
use Rattle.std.proofs.lemmas.Bool.Decides.{nat_tests}
use Rattle.std.proofs.lemmas.List.{length-take-le, length-drop, length-append}
use Rattle.std.specs.Prelude.{nat_le}
use Rattle.sail_types.specs.declared.values.Value.{Value, Value-F, out-Value}
use Rattle.sail_types.specs.declared.values.Value.TheOpen as W
use Rattle.sail_types.specs.declared.values.Value.TheVariants as Val
use Rattle.sail_types.specs.declared.values.Value.TheViews.{out-roll-Value}
use Rattle.sail_core.specs.Values.{with_item, with_bit, slice, with_slice, with_bits, is_slice}
use Rattle.shape_joins.proofs.Order.{equal}
use Rattle.shape_joins.proofs.JoinsLeast.{some_same, none}

-- the width of bits
abbrev pub wide : Value-F Value → ℕ
wide (W.Bits bs) = length bs
wide v = 0

bits_width : (bs : List Bool) → wide (out-Value (Val.Bits bs)) ≡ length bs
bits_width bs = ap wide (ap out-Value (sym (Val.rolls-Bits bs)) ∙ out-roll-Value (W.Bits bs))

same_bits : (bs : List Bool) (x : Value) → Val.Bits bs ≡ x → wide (out-Value x) ≡ length bs
same_bits bs x is = ap (λ v. wide (out-Value v)) (sym is) ∙ bits_width bs

-- ---- numbers

below_is : (a b : ℕ) → nat_lt a b ≡ true → a < b
below_is a b h = grind (arith, nat_tests)

most_is : (a b : ℕ) → nat_le a b ≡ true → a ≤ b
most_is a b h = grind (arith, nat_tests)

is_equal : (a b : ℕ) → a ≡ b → nat_eq a b ≡ true
is_equal a b h = grind (arith, h)

-- ---- what is taken out

taken_width : (hi lo : ℕ) (bs : List Bool) → is_slice hi lo bs ≡ true → length (take (suc hi - lo) (drop lo bs)) ≡ suc hi - lo
taken_width hi lo bs h =
    let both = and_parts (nat_le lo hi) (nat_lt hi (length bs)) h in
    let low : lo ≤ hi = most_is lo hi both.0 in
    let high : hi < length bs = below_is hi (length bs) both.1 in
    let rest : length (drop lo bs) ≡ length bs - lo = length-drop lo bs in
    let inside : suc hi - lo ≤ length (drop lo bs) = omega arith in
    length-take-le (suc hi - lo) (drop lo bs) inside

slice_if : (b : Bool) (cs : List Bool) (u : Value) → (if b then Some (Val.Bits cs) else None) ≡ Some u → (b ≡ true) × (wide (out-Value u) ≡ length cs)
slice_if true cs u e = (refl, same_bits cs u (some_same (Val.Bits cs) u e))
slice_if false cs u e = none e

-- bits of a slice are as wide as what is taken out there
pub slice_wide : (hi lo : ℕ) (bs cs : List Bool) (u : Value) → slice (pos hi) (pos lo) (W.Bits bs) ≡ Some u → length cs ≡ wide (out-Value u)
    → nat_eq (length cs) (suc hi - lo) ≡ true
slice_wide hi lo bs cs u e same =
    let r = slice_if (is_slice hi lo bs) (take (suc hi - lo) (drop lo bs)) u e in
    is_equal (length cs) (suc hi - lo) (same ∙ r.1 ∙ taken_width hi lo bs r.0)

-- ---- what is put in

set_width : (bs : List Bool) (n : ℕ) (b : Bool) → length (slice_set bs n b) ≡ length bs
set_width [] n b = refl
set_width (c ∷ bs) zero b = refl
set_width (c ∷ bs) (suc n) b = ap suc (set_width bs n b)

bits_if : (t : Bool) (cs : List Bool) (x : Value) (n : ℕ) → length cs ≡ n → (if t then Some (Val.Bits cs) else None) ≡ Some x → wide (out-Value x) ≡ n
bits_if true cs x n many e = same_bits cs x (some_same (Val.Bits cs) x e) ∙ many
bits_if false cs x n many e = none e

bit_width : (bs : List Bool) (n : ℕ) (y : Value-F Value) (x : Value) → with_bit bs n y ≡ Some x → wide (out-Value x) ≡ length bs
bit_width bs n (W.Bit b) x e = bits_if (nat_lt n (length bs)) (slice_set bs n b) x (length bs) (set_width bs n b) e
bit_width bs n y x e = none e

-- bits with another bit
pub item_wide : (z : ℤ) (bs : List Bool) (u x : Value) → with_item z (W.Bits bs) u ≡ Some x → wide (out-Value x) ≡ length bs
item_wide (pos n) bs u x e = bit_width bs n (out-Value u) x e
item_wide (negsuc n) bs u x e = none e

put_width : (hi lo : ℕ) (bs cs : List Bool) → (is_slice hi lo bs && nat_eq (length cs) (suc hi - lo)) ≡ true
    → length (take lo bs ++ (cs ++ drop (suc hi) bs)) ≡ length bs
put_width hi lo bs cs h =
    let both = and_parts (is_slice hi lo bs) (nat_eq (length cs) (suc hi - lo)) h in
    let ends = and_parts (nat_le lo hi) (nat_lt hi (length bs)) both.0 in
    let low : lo ≤ hi = most_is lo hi ends.0 in
    let high : hi < length bs = below_is hi (length bs) ends.1 in
    let count : length cs ≡ suc hi - lo = equal (length cs) (suc hi - lo) both.1 in
    let within : lo ≤ length bs = omega arith in
    let front : length (take lo bs) ≡ lo = length-take-le lo bs within in
    let back : length (drop (suc hi) bs) ≡ length bs - suc hi = length-drop (suc hi) bs in
    let inner : length (cs ++ drop (suc hi) bs) ≡ length cs + length (drop (suc hi) bs) = length-append cs (drop (suc hi) bs) in
    let outer : length (take lo bs ++ (cs ++ drop (suc hi) bs)) ≡ length (take lo bs) + length (cs ++ drop (suc hi) bs) =
    length-append (take lo bs) (cs ++ drop (suc hi) bs) in
    let sum : length (take lo bs) + length (cs ++ drop (suc hi) bs) ≡ length bs = omega arith in
    outer ∙ sum

put_if : (hi lo : ℕ) (bs cs : List Bool) (t : Bool) (x : Value) → (is_slice hi lo bs && nat_eq (length cs) (suc hi - lo)) ≡ t
    → (if t then Some (Val.Bits (take lo bs ++ (cs ++ drop (suc hi) bs))) else None) ≡ Some x → wide (out-Value x) ≡ length bs
put_if hi lo bs cs true x is e =
    same_bits (take lo bs ++ (cs ++ drop (suc hi) bs)) x (some_same (Val.Bits (take lo bs ++ (cs ++ drop (suc hi) bs))) x e) ∙ put_width hi lo bs cs is
put_if hi lo bs cs false x is e = none e

bits_width_of : (hi lo : ℕ) (bs : List Bool) (y : Value-F Value) (x : Value) → with_bits bs hi lo y ≡ Some x → wide (out-Value x) ≡ length bs
bits_width_of hi lo bs (W.Bits cs) x e = put_if hi lo bs cs (is_slice hi lo bs && nat_eq (length cs) (suc hi - lo)) x refl e
bits_width_of hi lo bs y x e = none e

-- bits with another slice
pub slice_keeps : (hi lo : ℤ) (bs : List Bool) (u x : Value) → with_slice hi lo (W.Bits bs) u ≡ Some x → wide (out-Value x) ≡ length bs
slice_keeps (pos hi) (pos lo) bs u x e = bits_width_of hi lo bs (out-Value u) x e
slice_keeps (pos hi) (negsuc lo) bs u x e = none e
slice_keeps (negsuc hi) lo bs u x e = none e
