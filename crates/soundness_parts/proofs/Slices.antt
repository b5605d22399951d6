-- A slice of bits beside its run: its width, and its part.
use Rattle.std.proofs.Common.{◌≡◌, ◌∙◌, ◌≤◌, ℕ, suc, ◌-◌, ℤ, pos, negsuc, ◌+ℤ◌, ◌-ℤ◌, int_le, Bool, true, false, List, [], ◌∷◌, length, Option, Some, None, refl, sym, ap, subst, arith}
use Rattle.std.proofs.lemmas.Bool.Decides.{nat_tests}
use Rattle.std.proofs.lemmas.Int.{ints}
use Rattle.std.specs.Prelude.{int_lt, nat_le, ◌^◌}
use Rattle.sail_base.specs.declared.place.Place.{Place}
use Rattle.sail_types.specs.Limits.{is_small, largest}
use Rattle.sail_types.specs.Numbers.{number}
use Rattle.sail_types.specs.Sums.{constant, difference, sum}
use Rattle.sail_types.specs.declared.numbers.Num.{Num}
use Rattle.sail_types.specs.declared.types.Typ.TheVariants as U
use Rattle.sail_types.proofs.Substituted.{number_constant}
use Rattle.sail_types.proofs.SumNumbers.{difference_number, sum_number_is, then_parts}
use Rattle.sail_types.specs.declared.values.Value.{Value}
use Rattle.sail_core.specs.Meaning.{taken}
use Rattle.sail_core.specs.Values.{slice_way}
use Rattle.value_indices.specs.declared.indices.Indices.{Indices, out-Indices, roll-Indices}
use Rattle.value_indices.specs.declared.indices.Indices.TheOpen as W
use Rattle.value_indices.specs.declared.indices.Indices.TheOpen.{Indices-F}
use Rattle.value_indices.specs.declared.indices.Indices.TheVariants as I
use Rattle.value_indices.specs.declared.indices.Indices.TheViews.{roll-out-Indices}
use Rattle.value_indices.specs.declared.indices.Reading.{Reading}
use Rattle.value_indices.specs.declared.indices.Reading.TheVariants as R
use Rattle.value_indices.specs.declared.notes.Fact.{Fact}
use Rattle.value_indices.specs.Opening.{number_or_fresh}
use Rattle.value_indices.specs.Steps.{give}
use Rattle.expression_forms.specs.Ways.{ends, inside_slice, into_slice, slice_width, taken_out, with_width}
use Rattle.expression_forms.specs.declared.ways.Ends.{Ends}
use Rattle.expression_forms.specs.declared.ways.Reached.{Reached}
use Rattle.checked_meaning.specs.Items.{Item}
use Rattle.value_laws.specs.Belonging.{Integers, plain, standing}
use Rattle.value_laws.specs.Known.{Point, Agree}
use Rattle.value_laws.proofs.Knowing.{number_goes}
use Rattle.value_laws.proofs.Numbers.{at_most_true}
use Rattle.value_laws.proofs.Steps.{same}
use Rattle.way_laws.specs.Laws.{AreTrue, HasPart}
use Rattle.way_laws.proofs.Conditions.{natural_inside, slice_inside}
use Rattle.way_laws.proofs.Parts.{bits_in, bits_type}
use Rattle.way_laws.proofs.Slices.{slice_there}
use Rattle.soundness_steps.specs.Works.{Scene}
use Rattle.soundness_steps.specs.Steps.{Beside, Walks}
use Rattle.soundness_steps.specs.Values.{Has, Is, IsSteady}
use Rattle.soundness_steps.proofs.Steps.{given_back, known_walk, walks_mean, walks_on}
use Rattle.soundness_forms.proofs.Basics.{has_there}
use Rattle.soundness_parts.proofs.Indexes.{Counts}
use Rattle.soundness_parts.proofs.Suffixes.{unreached}
use Rattle.soundness_parts.proofs.Taken.{HasThere, taken_fine, z}

-- ---- the width is one integer, and where that is within the limit it is the one that the ends give

abbrev pub width_of : ℤ → ℤ → ℤ
width_of hi lo = (hi -ℤ lo) +ℤ pos 1

small_zero : is_small (pos 0) ≡ true
unfolding largest
small_zero = refl

module _ (q : Scene) {n : ℕ} (f : Point n) where
  pub record IsWide (t : Num) (width : ℤ) : Type 0 where
    pub integer : ℤ
    pub same : (g : Integers) → Agree f g → number (standing q.set.past g) t ≡ integer
    pub right : is_small width ≡ true → integer ≡ width

module _ (q : Scene) {n : ℕ} {f : Point n} (high low : Num) (hi lo : ℤ)
    (is_high : (g : Integers) → Agree f g → number (standing q.set.past g) high ≡ hi)
    (is_low : (g : Integers) → Agree f g → number (standing q.set.past g) low ≡ lo) where
  -- one that is said
  said : (t : Num) → slice_width high low ≡ Some t → (g : Integers) → Agree f g → number (standing q.set.past g) t ≡ width_of hi lo
  said t e g a =
      let mu = standing q.set.past g in
      let parts = then_parts (difference high low) (λ d. sum d (constant (pos 1))) t e in
      sum_number_is mu parts.0 (constant (pos 1)) t parts.2
      ∙ ((λ j. difference_number mu high low parts.0 parts.1 j +ℤ number_constant mu (pos 1) j)
      ∙ (λ j. (is_high g a j -ℤ is_low g a j) +ℤ pos 1))

  width_by : {facts : List Fact} (o : Option Num) → slice_width high low ≡ o → (b : Bool) → is_small (width_of hi lo) ≡ b
      → Walks q n f facts (number_or_fresh o) (λ m g t. IsWide q g t (width_of hi lo))
  unfolding number_or_fresh
  width_by (Some t) e b small = given_back t (record { integer = width_of hi lo; same = said t e; right = λ h. refl })
  width_by None e true small =
      walks_mean (λ m g t h. record { integer = width_of hi lo; same = h; right = λ k. refl })
      (known_walk (number_goes q.set.around.types q.set.past q.work.types None (width_of hi lo) small (λ u k. absurd (cc))))
  width_by None e false small =
      walks_mean (λ m g t h. record { integer = pos 0; same = h; right = λ k. absurd (cc) })
      (known_walk (number_goes q.set.around.types q.set.past q.work.types None (pos 0) small_zero (λ u k. absurd (cc))))

  abbrev pub EndsAre : {m : ℕ} → Point m → Option Ends → Type 0
  EndsAre g None = ⊥
  EndsAre g (Some e) = (e.high ≡ high) × (e.low ≡ low) × IsWide q g e.width (width_of hi lo)

  pub width_walks : {facts : List Fact} → Walks q n f facts (with_width high low) (λ m g o. EndsAre g o)
  width_walks =
      walks_on (λ t. give (Some (ends high low t))) (width_by (slice_width high low) refl (is_small (width_of hi lo)) refl) (λ m g fs t l h.
      given_back (Some (ends high low t)) (refl, refl, h))

-- ---- its part

lower : (j : ℤ) (a : ℕ) → int_le (pos 0) j ≡ true → int_le j (pos a) ≡ true → (b : ℕ) × (j ≡ pos b) × (b ≤ a)
lower (pos b) a low high = (b, refl, omega (arith, ints, high))
lower (negsuc b) a low high = absurd (omega (arith, ints, low))

not_below : (j l : ℤ) → int_le (pos 0) j ≡ true → int_le j l ≡ true → int_le (pos 0) l ≡ true
not_below (pos a) (pos b) low high = at_most_true (pos 0) (pos b) (omega (arith, ints))
not_below (pos a) (negsuc b) low high = absurd (omega (arith, ints, high))
not_below (negsuc a) l low high = absurd (omega (arith, ints, low))

small_width : (a b k : ℕ) → b ≤ a → suc a ≤ k → k ≤ 128 → is_small (width_of (pos a) (pos b)) ≡ true
unfolding largest
small_width a b k low high few =
    let is : width_of (pos a) (pos b) ≡ pos (suc a - b) = omega (arith, ints, low) in
    ap is_small is ∙ at_most (suc a - b) (2 ^ 126) (omega (arith, low, high, few))
  where
    at_most : (x y : ℕ) → x ≤ y → nat_le x y ≡ true
    at_most x y h = grind (arith, nat_tests)

is_at_most : (a b : ℕ) → nat_le a b ≡ true → a ≤ b
is_at_most a b h = grind (arith, nat_tests)

module _ (q : Scene) {n : ℕ} {f : Point n} (i : Indices) (v : Value) (h : Has q.set q.work f i v)
    (high low width : Num) (y u : Item) (hi lo : ℤ) (is_high : Counts q f high y hi) (is_low : Counts q f low u lo) (wide : IsWide q f width (width_of hi lo)) where
  pub found_steady : IsSteady q.set q.work f (R.Widened (I.Bits width))
  found_steady g a =
      bits_type q.set.around.types (standing q.set.past g) q.work.types width
      ∙ ((λ j. plain (standing q.set.past g) (U.Bits (constant ((wide.same g a ∙ sym (wide.same f.integers (same f))) j))) [])
      ∙ sym (bits_type q.set.around.types (standing q.set.past f.integers) q.work.types width))

  -- where its ends are inside it is as wide as they say
  right_width : (m : Num) → roll-Indices (W.Bits m) ≡ i → (g : Integers) → Agree f g → AreTrue (standing q.set.past g) (inside_slice high low m)
      → is_small (width_of hi lo) ≡ true
  right_width m is g a met =
      let mu = standing q.set.past g in
      let held = bits_in q.set.around.types mu q.work.types i m v is (has_there h g a) in
      let inside = slice_inside mu high low m met in
      let above = natural_inside (number mu high) (length held.0) (not_below (number mu low) (number mu high) inside.0 inside.1)
      (ap (int_lt (number mu high)) held.2 ∙ inside.2) in
      let under = lower (number mu low) above.0 inside.0 (ap (int_le (number mu low)) (sym above.1) ∙ inside.1) in
      ap is_small (λ j. width_of ((sym (is_high.same g a) ∙ above.1) j) ((sym (is_low.same g a) ∙ under.1) j))
      ∙ small_width above.0 under.0 (length held.0) under.2 above.2 (is_at_most (length held.0) 128 held.3)

  -- the part, of the type that the walk says
  abbrev pub found_reached : Num → Reached
  found_reached m = record { conditions = inside_slice high low m; numbers = high ∷ low ∷ []; typ = R.Widened (I.Bits width) }

  pub slice_found : (m : Num) → roll-Indices (W.Bits m) ≡ i → HasThere q f i v (found_reached m) (slice_way hi lo)
  slice_found m is = λ g a met.
      let mu = standing q.set.past g in
      let wide_there : number mu width ≡ (number mu high -ℤ number mu low) +ℤ pos 1 =
      wide.same g a ∙ (wide.right (right_width m is g a met) ∙ (λ j. width_of (sym (is_high.same g a) j) (sym (is_low.same g a) j))) in
      subst (λ c. HasPart q.set.around.types mu q.work.types i v (R.Widened (I.Bits width)) (slice_way c lo)) (is_high.same g a)
      (subst (λ c. HasPart q.set.around.types mu q.work.types i v (R.Widened (I.Bits width)) (slice_way (number mu high) c)) (is_low.same g a)
      (slice_there q.set.around.types mu q.work.types i v high low width m wide_there is (has_there h g a) met))

module _ (q : Scene) {n : ℕ} {f : Point n} (place : Place) (k : ℕ) (i : Indices) (x : Item) (h : Is q.set q.work f i x)
    (high low width : Num) (y u : Item) (hi lo : ℤ) (is_high : Counts q f high y hi) (is_low : Counts q f low u lo) (wide : IsWide q f width (width_of hi lo)) where
  pub slice_steady : IsSteady q.set q.work f (R.Widened (I.Bits width))
  slice_steady = found_steady q i x.val h.has high low width y u hi lo is_high is_low wide

  abbrev pub slice_reached : Num → Reached
  slice_reached m = found_reached q i x.val h.has high low width y u hi lo is_high is_low wide m

  pub slice_part : (m : Num) → roll-Indices (W.Bits m) ≡ i → HasThere q f i x.val (slice_reached m) (slice_way hi lo)
  slice_part m is = slice_found q i x.val h.has high low width y u hi lo is_high is_low wide m is

  slice_by : {facts : List Fact} (w : Indices-F Indices Reading) → roll-Indices w ≡ i
      → Beside q n f facts (taken_out place k i (into_slice high low width w)) (taken (z q) k (slice_way hi lo) x (y ∷ u ∷ [])) (λ m g j v. Is q.set q.work g j v)
  slice_by (W.Bits m) is =
      taken_fine place k i x (slice_reached m) (slice_way hi lo) (y ∷ u ∷ []) h (is_high.is_integer.typ, (is_low.is_integer.typ, tt)) (slice_part m is)
      slice_steady
  slice_by w is = unreached place k i x h (taken (z q) k (slice_way hi lo) x (y ∷ u ∷ []))

  pub slice_fine : {facts : List Fact} → Beside q n f facts (taken_out place k i (into_slice high low width (out-Indices i))) (taken (z q) k (slice_way hi lo) x (y ∷ u ∷ []))
      (λ m g j v. Is q.set q.work g j v)
  slice_fine = slice_by (out-Indices i) (roll-out-Indices i)
