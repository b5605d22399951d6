-- Slices of bits.
use Rattle.std.proofs.Common.{◌≡◌, ℕ, suc, ◌-◌, ◌<◌, ◌≤◌, ℤ, pos, negsuc, ◌+ℤ◌, ◌-ℤ◌, int_le, Bool, true, ◌&&◌, if◌then◌else◌, List, ◌++◌}
use Rattle.std.proofs.Common.{length, take, drop, nat_eq, nat_lt, Some, None, refl, sym, ap, ◌∙◌, subst, arith}
use Rattle.std.proofs.lemmas.Bool.Decides.{nat_tests}
use Rattle.std.proofs.lemmas.Int.{ints}
use Rattle.std.proofs.lemmas.List.{length-append, length-drop, length-take-le}
use Rattle.std.specs.Prelude.{int_lt, nat_le}
use Rattle.sail_types.specs.Belongs.{Reading as Closed}
use Rattle.sail_types.specs.Limits.{is_width}
use Rattle.sail_types.specs.Numbers.{Assignment, number}
use Rattle.sail_types.specs.declared.numbers.Num.{Num}
use Rattle.sail_types.specs.declared.table.Types.{Types}
use Rattle.sail_types.specs.declared.values.Value.{Value, out-Value}
use Rattle.sail_types.specs.declared.values.Value.TheOpen as V
use Rattle.sail_types.specs.declared.values.Value.TheVariants as Val
use Rattle.sail_types.proofs.SumNumbers.{some_same}
use Rattle.sail_core.specs.Values.{is_slice, slice, slice_way, with_bits, with_slice}
use Rattle.value_indices.specs.declared.indices.Indices.{Indices, out-Indices, roll-Indices}
use Rattle.value_indices.specs.declared.indices.Indices.TheOpen as W
use Rattle.value_indices.specs.declared.indices.Indices.TheOpen.{Indices-F}
use Rattle.value_indices.specs.declared.indices.Indices.TheVariants as I
use Rattle.value_indices.specs.declared.indices.Indices.TheViews.{roll-out-Indices}
use Rattle.value_indices.specs.declared.indices.Reading.{Reading}
use Rattle.value_indices.specs.declared.indices.Reading.TheVariants as R
use Rattle.expression_forms.specs.Ways.{inside_slice, into_slice}
use Rattle.expression_forms.specs.declared.ways.Reached.{Reached}
use Rattle.value_laws.specs.Belonging.{has, is_of}
use Rattle.value_laws.proofs.Basics.{two}
use Rattle.value_laws.proofs.Numbers.{at_most_true}
use Rattle.way_laws.specs.Laws.{AreTrue, HasPart, Replaced, SlicesAreThere}
use Rattle.way_laws.proofs.Conditions.{natural_inside, slice_inside}
use Rattle.way_laws.proofs.Parts.{bits_have, bits_in, bits_of_type, bits_typed}

none : {A B : Type 0} {x : B} → None ≡ Some x → A
none h = absurd (cc)

below : (a b : ℕ) → a < b → nat_lt a b ≡ true
below a b h = grind (arith, nat_tests)

at_most : (a b : ℕ) → a ≤ b → nat_le a b ≡ true
at_most a b h = grind (arith, nat_tests)

equal : (a b : ℕ) → a ≡ b → nat_eq a b ≡ true
equal a b h = grind (arith, nat_tests, h)

is_at_most : (a b : ℕ) → nat_le a b ≡ true → a ≤ b
is_at_most a b h = grind (arith, nat_tests)

-- what is not wider than something narrow is narrow
narrower : (a b : ℕ) → a ≤ b → is_width b ≡ true → is_width a ≡ true
narrower a b le h = let k : b ≤ 128 = is_at_most b 128 h in at_most a 128 (omega (arith, le, k))

-- ---- two ends inside a length

lower : (z : ℤ) (hi : ℕ) → int_le (pos 0) z ≡ true → int_le z (pos hi) ≡ true → (lo : ℕ) × (z ≡ pos lo) × (lo ≤ hi)
lower (pos lo) hi low high = (lo, refl, omega (arith, ints, high))
lower (negsuc lo) hi low high = absurd (omega (arith, ints, low))

not_below : (y z : ℤ) → int_le (pos 0) y ≡ true → int_le y z ≡ true → int_le (pos 0) z ≡ true
not_below (pos l) (pos h) low high = at_most_true (pos 0) (pos h) (omega (arith, ints))
not_below (pos l) (negsuc h) low high = absurd (omega (arith, ints, high))
not_below (negsuc l) z low high = absurd (omega (arith, ints, low))

span : (hi lo : ℕ) → lo ≤ hi → (pos hi -ℤ pos lo) +ℤ pos 1 ≡ pos (suc hi - lo)
span hi lo le = omega (arith, ints, le)

module _ (hi lo : ℕ) (bs : List Bool) (low : lo ≤ hi) (high : hi < length bs) where
  rest_width : length (drop lo bs) ≡ length bs - lo
  rest_width = length-drop lo bs

  pub taken_width : length (take (suc hi - lo) (drop lo bs)) ≡ suc hi - lo
  taken_width = length-take-le (suc hi - lo) (drop lo bs) (omega (arith, rest_width, low, high))

  inside : is_slice hi lo bs ≡ true
  inside = two (nat_le lo hi) (nat_lt hi (length bs)) (at_most lo hi low) (below hi (length bs) high)

  pub taken : slice (pos hi) (pos lo) (V.Bits bs) ≡ Some (Val.Bits (take (suc hi - lo) (drop lo bs)))
  taken = ap (λ t. if t then Some (Val.Bits (take (suc hi - lo) (drop lo bs))) else None) inside

  module _ (cs : List Bool) (wide : length cs ≡ suc hi - lo) where
    abbrev pub whole : List Bool
    whole = take lo bs ++ (cs ++ drop (suc hi) bs)

    fitting : (is_slice hi lo bs && nat_eq (length cs) (suc hi - lo)) ≡ true
    fitting = two (is_slice hi lo bs) (nat_eq (length cs) (suc hi - lo)) inside (equal (length cs) (suc hi - lo) wide)

    pub put : with_bits bs hi lo (V.Bits cs) ≡ Some (Val.Bits whole)
    put = ap (λ t. if t then Some (Val.Bits whole) else None) fitting

    pub whole_width : length whole ≡ length bs
    whole_width =
        let first : length (take lo bs) ≡ lo = length-take-le lo bs (omega (arith, low, high)) in
        let last : length (drop (suc hi) bs) ≡ length bs - suc hi = length-drop (suc hi) bs in
        let outer = length-append (take lo bs) (cs ++ drop (suc hi) bs) in
        let inner = length-append cs (drop (suc hi) bs) in
        omega (arith, first, last, outer, inner, wide, low, high)

same_pos : (a b : ℕ) → pos a ≡ pos b → a ≡ b
same_pos a b h = omega (arith, ints, h)

module _ (types : Types) (mu : Assignment) (own : List Closed) (i : Indices) (v : Value) (hi lo width n : Num)
    (wide : number mu width ≡ (number mu hi -ℤ number mu lo) +ℤ pos 1) where
  -- between two ends
  module _ (is : roll-Indices (W.Bits n) ≡ i) (a b : ℕ) (high : number mu hi ≡ pos a) (low : number mu lo ≡ pos b) (ordered : b ≤ a) (bs : List Bool)
      (held : out-Value v ≡ V.Bits bs) (long : pos (length bs) ≡ number mu n) (fits : is_width (length bs) ≡ true) (within : a < length bs) where
    abbrev part : List Bool
    part = take (suc a - b) (drop b bs)

    part_width : length part ≡ suc a - b
    part_width = taken_width a b bs ordered within

    size : number mu width ≡ pos (suc a - b)
    size = wide ∙ ((λ j. (high j -ℤ low j) +ℤ pos 1) ∙ span a b ordered)

    part_there : slice (number mu hi) (number mu lo) (out-Value v) ≡ Some (Val.Bits part)
    part_there = (λ j. slice (high j) (low j) (held j)) ∙ taken a b bs ordered within

    part_typed : is_of types mu own (R.Widened (I.Bits width)) (Val.Bits part) ≡ true
    part_typed =
        bits_typed types mu own width part (ap pos part_width ∙ sym size)
        (narrower (length part) (length bs) (omega (arith, part_width, ordered, within)) fits)

    put_there : (new : Value) (cs : List Bool) → out-Value new ≡ V.Bits cs → pos (length cs) ≡ number mu width
        → Replaced types mu own i v new (slice_way (number mu hi) (number mu lo))
    put_there new cs is_new as_wide =
        let same : length cs ≡ suc a - b = same_pos (length cs) (suc a - b) (as_wide ∙ size) in
        let all : List Bool = whole a b bs ordered within cs same in
        let longer : length all ≡ length bs = whole_width a b bs ordered within cs same in record {
          whole = Val.Bits all;
          is_there = (λ j. with_slice (high j) (low j) (held j) new) ∙ (ap (with_bits bs a b) is_new ∙ put a b bs ordered within cs same);
          is_so = bits_have types mu own i n all is (ap pos longer ∙ long) (ap is_width longer ∙ fits);
        }

    ends_there : HasPart types mu own i v (R.Widened (I.Bits width)) (slice_way (number mu hi) (number mu lo))
    ends_there = record {
      part = Val.Bits part;
      is_there = part_there;
      is_typed = part_typed;
      replaced = λ new typed. let cs = bits_of_type types mu own width new typed in put_there new cs.0 cs.1 cs.2;
    }

  pub slice_there : roll-Indices (W.Bits n) ≡ i → has types mu own i v ≡ true → AreTrue mu (inside_slice hi lo n)
      → HasPart types mu own i v (R.Widened (I.Bits width)) (slice_way (number mu hi) (number mu lo))
  slice_there is h met =
      let held = bits_in types mu own i n v is h in
      let ends = slice_inside mu hi lo n met in
      let above = natural_inside (number mu hi) (length held.0) (not_below (number mu lo) (number mu hi) ends.0 ends.1)
      (ap (int_lt (number mu hi)) held.2 ∙ ends.2) in
      let under = lower (number mu lo) above.0 ends.0 (ap (int_le (number mu lo)) (sym above.1) ∙ ends.1) in
      ends_there is above.0 under.0 above.1 under.1 under.2 held.0 held.1 held.2 held.3 above.2

-- by the form of the indices
module _ (types : Types) (mu : Assignment) (own : List Closed) (i : Indices) (v : Value) (hi lo width : Num) (x : Reached)
    (wide : number mu width ≡ (number mu hi -ℤ number mu lo) +ℤ pos 1) (h : has types mu own i v ≡ true) (met : AreTrue mu x.conditions) where
  abbrev There : Reached → Type 0
  There y = AreTrue mu y.conditions → HasPart types mu own i v y.typ (slice_way (number mu hi) (number mu lo))

  form_there : (f : Indices-F Indices Reading) → roll-Indices f ≡ i → into_slice hi lo width f ≡ Some x → There x
  form_there (W.Bits n) is some = subst There (some_same _ x some) (slice_there types mu own i v hi lo width n wide is h)
  form_there f is some = none some

  pub slices_there : into_slice hi lo width (out-Indices i) ≡ Some x → HasPart types mu own i v x.typ (slice_way (number mu hi) (number mu lo))
  slices_there some = form_there (out-Indices i) (roll-out-Indices i) some met

pub slices_are_there : SlicesAreThere
slices_are_there types mu own i v hi lo width x wide h some met = slices_there types mu own i v hi lo width x wide h met some
