-- A field's number, as it is read.
use Rattle.std.proofs.Common.{◌≡◌, ℕ, ◌+◌, ◌-◌, ◌*◌, ◌^◌, ◌<◌, ◌≤◌, List, [], ◌∷◌, length, take, drop, refl, sym, ap, ◌∙◌, arith, length-take, length-drop}
use Rattle.byteorder.specs.Endian.{little_from}
use Rattle.byteorder.specs.Numbers.{little_from-cons, little_from-take, little_from-lt}
use Rattle.mem_store.specs.laws.AreBytes.{AreBytes, AreBytes-take, AreBytes-drop}
use Rattle.elf_load.specs.Fields.{little, number_at}

little_from-whole : (bytes : List ℕ) → little_from 0 (length bytes) bytes ≡ little bytes
little_from-whole [] = refl
little_from-whole (byte ∷ bytes) = ap (λ n. byte + 256 * n) (little_from-cons 0 (length bytes) byte bytes ∙ little_from-whole bytes)

-- the number that is read is that of the field
pub field_number : (file : List ℕ) (at width n : ℕ) → at + width ≤ length file → n ≡ little_from 0 width
    (take (length file - at) (drop at file)) → n ≡ number_at file at width
unfolding number_at
field_number file at width n h e =
    let k : length (take width (drop at file)) ≡ width = omega (arith, length-take width (drop at file), length-drop at file) in
    e ∙ little_from-take 0 width (length file - at) (drop at file) (omega arith)
    ∙ sym (little_from-take 0 width width (drop at file) (omega arith))
    ∙ ap (λ w. little_from 0 w (take width (drop at file))) (sym k) ∙ little_from-whole (take width (drop at file))

-- it is below 256 to the width
pub field_below : (file : List ℕ) (at width n : ℕ) → AreBytes file → n ≡ little_from 0 width (take (length file - at) (drop at file)) → n < 256 ^ width
field_below file at width n fits e =
    rw e (little_from-lt 0 width (take (length file - at) (drop at file)) (AreBytes-take (length file - at) (drop at file) (AreBytes-drop at file fits)))
