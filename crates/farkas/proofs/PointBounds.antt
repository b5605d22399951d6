-- The value that a variable gets makes each row before it true.
use Rattle.std.proofs.Common.{◌≡◌, ℕ, zero, suc, ◌+◌, Bool, true, false, Option, Some, None, List, [], ◌∷◌, drop}
use Rattle.std.proofs.Common.{sym, ap, ◌∙◌, subst, refl, arith, inl, inr, ℤ, pos, negsuc, neg_ℤ, ◌+ℤ◌, ◌-ℤ◌, ◌*ℤ◌, ◌≤ℤ◌, ◌<ℤ◌, unsigned_abs}
use Rattle.std.specs.Prelude.{int_lt, int_div, if◌then◌else◌}
use Rattle.std.specs.Int.{◌∣◌}
use Rattle.std.specs.List.{fold}
use Rattle.std.proofs.lemmas.Int.{ints, by_lt_z}
use Rattle.std.proofs.lemmas.Bool.{cases_Bool, cond-false, eqb-true, eq-eqb, false≢true, false_from_ne_true}
use Rattle.std.proofs.Math.Nat.{eq-zero_of_zero-dvd}
use Rattle.std.proofs.Math.IntN.{*ℤ_comm, *ℤ-zero, zero-*ℤ}
use Rattle.linear.specs.declared.row.Row.{Row}
use Rattle.linear.specs.Numbers.{is_zero, is_within, are_within, gcd, scaled}
use Rattle.linear.specs.Rows.{coefficient, combination, added}
use Rattle.linear.specs.laws.Integers.{times_assoc, sum_times, times_order, order_back, neg_times}
use Rattle.linear.specs.laws.Divisors.{gcd_divides, gcd_size, gcd_positive, multiple}
use Rattle.linear.specs.laws.Totals.{exact}
use Rattle.farkas.specs.declared.elimination.Held.{Held}
use Rattle.farkas.specs.declared.points.Fraction.{Fraction}
use Rattle.farkas.specs.declared.points.Bounds.{Bounds}
use Rattle.farkas.specs.declared.points.Point.{Point}
use Rattle.farkas.specs.Validity.{then_do}
use Rattle.farkas.specs.Elimination.{sum_of}
use Rattle.farkas.specs.Points.{limited, part, lowest, lessened, spent, bound_of, is_under, greatest_of, least_of}
use Rattle.farkas.specs.Points.{tightened, bounded, no_bounds, value_of, value_within, all_limited, extended}
use Rattle.farkas.proofs.Goings.{fold_stays}
use Rattle.farkas.proofs.PointNumbers.{swap, weak, sat_lower, sat_upper, times_difference, pair_sat, value_sat}
use Rattle.farkas.proofs.PointRows.{dot, dot_scaled, dot_added, dot_values, dot_first, drop_mapped, drop_added, Holds}
use Rattle.farkas.proofs.PointSteps.{In, Says}

pub parts : {A B : Type 0} (o : Option A) (f : A → Option B) (b : B) → then_do o f ≡ Some b → (a : A) × (o ≡ Some a) × (f a ≡ Some b)
parts None f b e = absurd (cc)
parts (Some a) f b e = (a, refl, e)

limit_is : (z y : ℤ) (t : Bool) → (if t then Some z else None) ≡ Some y → y ≡ z
limit_is z y true e = cc
limit_is z y false e = absurd (cc)

pub limited_is : (z y : ℤ) → limited z ≡ Some y → y ≡ z
limited_is z y e = limit_is z y (is_within z) e

limits_are : (zs ys : List ℤ) (t : Bool) → (if t then Some zs else None) ≡ Some ys → ys ≡ zs
limits_are zs ys true e = cc
limits_are zs ys false e = absurd (cc)

less_none : (z : ℤ) → z ≡ z -ℤ pos 0
less_none z = omega (arith, ints)

regrouped : (z x y : ℤ) → (z -ℤ x) -ℤ y ≡ z -ℤ (x +ℤ y)
regrouped z x y = omega (arith, ints)

spent_is : (z : ℤ) (xs vs : List ℤ) (r : ℤ) → spent z xs vs ≡ Some r → r ≡ z -ℤ dot xs vs
spent_is z [] vs r e = (let same : r ≡ z = cc in same) ∙ less_none z
spent_is z (x ∷ xs) [] r e = (let same : r ≡ z = cc in same) ∙ less_none z
spent_is z (x ∷ xs) (v ∷ vs) r e =
    let p = parts (lessened z x v) (λ rest. spent rest xs vs) r e in
    let q = parts (limited (x *ℤ v)) (λ product. limited (z -ℤ product)) p.0 p.1 in
    spent_is p.0 xs vs r p.2
    ∙ (ap (λ y. y -ℤ dot xs vs) (limited_is (z -ℤ q.0) p.0 q.2 ∙ ap (λ y. z -ℤ y) (limited_is (x *ℤ v) q.0 q.1)) ∙ regrouped z (x *ℤ v) (dot xs vs))

-- ---- signs of products

contradiction : (b : ℤ) → pos 0 <ℤ b → b ≤ℤ pos 0 → ⊥
contradiction b h k = omega (arith, ints)

pub product_positive : (a b : ℤ) → pos 0 <ℤ a → pos 0 <ℤ b → pos 0 <ℤ (a *ℤ b)
product_positive a b h k =
    by_lt_z (pos 0) (a *ℤ b) (λ l. l) (λ l. absurd (contradiction b k (order_back a b (pos 0) h (subst (λ z. (a *ℤ b) ≤ℤ z) (sym (*ℤ-zero a)) l))))

negative_not : (c : ℤ) → c <ℤ pos 0 → pos 0 ≤ℤ c → ⊥
negative_not c h k = omega (arith, ints)

product_negative : (c d : ℤ) → c <ℤ pos 0 → pos 0 <ℤ d → (c *ℤ d) <ℤ pos 0
product_negative c d h k =
    by_lt_z (c *ℤ d) (pos 0) (λ l. l) (λ l. absurd (negative_not c h (order_back d (pos 0) c k (subst (λ z. z ≤ℤ (d *ℤ c)) (sym (*ℤ-zero d))
    (subst (λ z. pos 0 ≤ℤ z) (*ℤ_comm c d) l)))))

pub is_positive : (z : ℤ) → int_lt (pos 0) z ≡ true → pos 0 <ℤ z
is_positive z h = omega (arith, ints)

is_negative : (z : ℤ) → int_lt z (pos 0) ≡ true → z <ℤ pos 0
is_negative z h = omega (arith, ints)

tests_positive : (z : ℤ) → pos 0 <ℤ z → int_lt (pos 0) z ≡ true
tests_positive z h = grind (arith, ints)

pub zero_is : (z : ℤ) → is_zero z ≡ true → z ≡ pos 0
zero_is z h = omega (arith, ints, eqb-true (unsigned_abs z) 0 h)

nonzero_positive : (z : ℤ) → pos 0 <ℤ z → is_zero z ≡ false
nonzero_positive z h = false_from_ne_true (is_zero z) (λ e. let f = zero_is z e in omega (arith, ints, f))

nonzero_negative : (z : ℤ) → z <ℤ pos 0 → is_zero z ≡ false
nonzero_negative z h = false_from_ne_true (is_zero z) (λ e. let f = zero_is z e in omega (arith, ints, f))

not_both : (z : ℤ) → int_lt z (pos 0) ≡ true → is_zero z ≡ true → ⊥
not_both z h e = let f = zero_is z e in omega (arith, ints, f)

positive_zero : (z : ℤ) → int_lt (pos 0) z ≡ true → is_zero z ≡ true → ⊥
positive_zero z h e = let f = zero_is z e in omega (arith, ints, f)

both_signs : (z : ℤ) → int_lt z (pos 0) ≡ true → int_lt (pos 0) z ≡ true → ⊥
both_signs z h k = omega (arith, ints)

other_sign : (z : ℤ) → is_zero z ≡ false → int_lt z (pos 0) ≡ false → pos 0 <ℤ z
other_sign z e h =
    by_lt_z (pos 0) z (λ l. l) (λ l. absurd (false≢true (sym e ∙ eq-eqb (unsigned_abs z) 0 (let s : z ≡ pos 0 = omega (arith, ints) in ap unsigned_abs s))))

-- ---- fractions in lowest terms

-- the greatest common divisor is positive where the second number isn't 0
gcd_some : (a b : ℤ) → is_zero b ≡ false → pos 0 <ℤ gcd a b
gcd_some a b h =
    by_lt_z (pos 0) (gcd a b) (λ l. l) (λ l.
    let size : unsigned_abs (gcd a b) ≡ 0 = (let s = gcd_size a b in omega (arith, ints, s)) in
    absurd (false≢true (sym h ∙ eq-eqb (unsigned_abs b) 0 (eq-zero_of_zero-dvd (subst (λ k. k ∣ unsigned_abs b) size (gcd_divides a b).1)))))

pub part_is : (z g : ℤ) → pos 0 <ℤ g → unsigned_abs g ∣ unsigned_abs z → z ≡ g *ℤ part z g
part_is z g h d = exact z g (multiple z g d) ∙ ap (λ q. g *ℤ q) (sym (cond-false (is_zero g) z (int_div z g) (nonzero_positive g h)))

pub part_positive : (x g b : ℤ) → x ≡ g *ℤ b → pos 0 <ℤ x → pos 0 <ℤ g → pos 0 <ℤ b
part_positive x g b e h k =
    by_lt_z (pos 0) b (λ l. l) (λ l. absurd (contradiction x h (subst (λ z. z ≤ℤ pos 0) (sym e) (subst (λ z. (g *ℤ b) ≤ℤ z) (*ℤ-zero g)
    (times_order g b (pos 0) (weak g k) l)))))

cross : (t b g t' b' : ℤ) → t ≡ g *ℤ t' → b ≡ g *ℤ b' → t' *ℤ b ≡ t *ℤ b'
cross t b g t' b' e f = ap (λ z. t' *ℤ z) f ∙ (swap t' g b' ∙ (sym (times_assoc g t' b') ∙ ap (λ z. z *ℤ b') (sym e)))

times_neg : (x y : ℤ) → x *ℤ neg_ℤ y ≡ neg_ℤ (x *ℤ y)
times_neg x y = *ℤ_comm x (neg_ℤ y) ∙ (neg_times y x ∙ ap neg_ℤ (*ℤ_comm y x))

neg_same : (x y : ℤ) → neg_ℤ x ≡ neg_ℤ y → x ≡ y
neg_same x y e = omega (arith, ints)

neg_size : (z : ℤ) → unsigned_abs (neg_ℤ z) ≡ unsigned_abs z
neg_size (pos zero) = refl
neg_size (pos (suc n)) = refl
neg_size (negsuc n) = refl

neg_positive : (z : ℤ) → z <ℤ pos 0 → pos 0 <ℤ neg_ℤ z
neg_positive z h = omega (arith, ints)

-- a fraction that is another, its denominator above 0
abbrev IsOver : Fraction → ℤ → ℤ → Type 0
IsOver f top bottom = (pos 0 <ℤ f.bottom) × (f.top *ℤ bottom ≡ top *ℤ f.bottom)

lowest_from : (top bottom : ℤ) (t : Bool) → int_lt bottom (pos 0) ≡ t → is_zero bottom ≡ false → IsOver (if t
    then record { top = part (neg_ℤ top) (gcd top bottom); bottom = part (neg_ℤ bottom) (gcd top bottom) }
    else record { top = part top (gcd top bottom); bottom = part bottom (gcd top bottom) }) top bottom
lowest_from top bottom true e some =
    let g = gcd top bottom in
    let h = gcd_some top bottom some in
    let d = gcd_divides top bottom in
    let p = part_is (neg_ℤ top) g h (subst (λ n. unsigned_abs g ∣ n) (sym (neg_size top)) d.0) in
    let q = part_is (neg_ℤ bottom) g h (subst (λ n. unsigned_abs g ∣ n) (sym (neg_size bottom)) d.1) in (
      part_positive (neg_ℤ bottom) g (part (neg_ℤ bottom) g) q (neg_positive bottom (is_negative bottom e)) h,
      neg_same _ _ (sym (times_neg (part (neg_ℤ top) g) bottom) ∙ (cross (neg_ℤ top) (neg_ℤ bottom) g _ _ p q ∙ neg_times top (part (neg_ℤ bottom) g))),
    )
lowest_from top bottom false e some =
    let g = gcd top bottom in
    let h = gcd_some top bottom some in
    let d = gcd_divides top bottom in
    let p = part_is top g h d.0 in
    let q = part_is bottom g h d.1 in
    (part_positive bottom g (part bottom g) q (other_sign bottom some e) h, cross top bottom g _ _ p q)

lowest_is : (top bottom : ℤ) → is_zero bottom ≡ false → IsOver (lowest top bottom) top bottom
lowest_is top bottom some = lowest_from top bottom (int_lt bottom (pos 0)) refl some

left_over : (a b c d : ℤ) → (a +ℤ b) ≤ℤ (c +ℤ d) → pos 0 ≤ℤ ((c -ℤ a) +ℤ (d -ℤ b))
left_over a b c d h = omega (arith, ints)

module _ (i : ℕ) (den : ℤ) (vs : List ℤ) (positive : pos 0 <ℤ den) (stage : List Held) where
  abbrev Here : Point
  Here = record { denominator = den; numerators = vs }

  -- what a row leaves of the variable's part of it
  abbrev Room : Row → ℤ
  Room row = (row.bound *ℤ den) -ℤ dot (drop (suc i) row.coefficients) vs

  -- a row allows this value
  abbrev Allows : Row → Fraction → Type 0
  Allows row f = ((coefficient row i *ℤ den) *ℤ f.top) ≤ℤ (Room row *ℤ f.bottom)

  -- it bounds the variable by this value
  abbrev IsBound : Row → Fraction → Type 0
  IsBound row f = (pos 0 <ℤ f.bottom) × (f.top *ℤ (coefficient row i *ℤ den) ≡ Room row *ℤ f.bottom)

  some_product : (c : ℤ) → is_zero c ≡ false → is_zero (c *ℤ den) ≡ false
  some_product c e =
      elim (cases_Bool (int_lt c (pos 0))) [
        | inl t ↦ nonzero_negative (c *ℤ den) (product_negative c den (is_negative c t) positive)
        | inr f ↦ nonzero_positive (c *ℤ den) (product_positive c den (other_sign c e f) positive)
      ]

  bound_is : (row : Row) (new : Fraction) → bound_of i Here row ≡ Some new → is_zero (coefficient row i) ≡ false → IsBound row new
  bound_is row new e some =
      let p = parts (limited (row.bound *ℤ den)) _ new e in
      let q = parts (spent p.0 (drop (i + 1) row.coefficients) vs) _ new p.2 in
      let r = parts (limited (coefficient row i *ℤ den)) _ new q.2 in
      let next : i + 1 ≡ suc i = omega arith in
      let room : q.0 ≡ Room row =
      spent_is p.0 (drop (i + 1) row.coefficients) vs q.0 q.1
      ∙ (λ j. limited_is (row.bound *ℤ den) p.0 p.1 j -ℤ dot (drop (next j) row.coefficients) vs) in
      let bottom : r.0 ≡ coefficient row i *ℤ den = limited_is (coefficient row i *ℤ den) r.0 r.1 in
      let same : lowest q.0 r.0 ≡ new = (let f = r.2 in cc) in
      let over = lowest_is q.0 r.0 (ap is_zero bottom ∙ some_product (coefficient row i) some) in
      subst (IsBound row) same (over.0, (ap (λ z. (lowest q.0 r.0).top *ℤ z) (sym bottom) ∙ (over.1 ∙ ap (λ z. z *ℤ (lowest q.0 r.0).bottom) room)))

  bound_allows : (row : Row) (f : Fraction) → IsBound row f → Allows row f
  bound_allows row f h = equal _ _ (*ℤ_comm (coefficient row i *ℤ den) f.top ∙ h.1)
    where
      equal : (x y : ℤ) → x ≡ y → x ≤ℤ y
      equal x y e = omega (arith, ints)

  -- ---- the bounds so far

  abbrev Q : Row → Type 0
  Q row = (up : Held) → In up stage → int_lt (pos 0) (coefficient up.row i) ≡ true → Holds (suc i) den vs (sum_of i up.row row)

  abbrev Negative : Row → Type 0
  Negative row = int_lt (coefficient row i) (pos 0) ≡ true

  abbrev Positive : Row → Type 0
  Positive row = int_lt (pos 0) (coefficient row i) ≡ true

  abbrev AllowsEnd : Row → Option Fraction → Type 0
  AllowsEnd row None = ⊥
  AllowsEnd row (Some f) = Allows row f

  abbrev LowFine : Option Fraction → Type 0
  LowFine None = Unit {0}
  LowFine (Some low) = (row : Row) × Q row × Negative row × IsBound row low

  abbrev HighFine : Option Fraction → Type 0
  HighFine None = Unit {0}
  HighFine (Some high) = pos 0 <ℤ high.bottom

  under_is : (a b : Fraction) (t : Bool) → is_under a b ≡ Some t → int_lt (a.top *ℤ b.bottom) (b.top *ℤ a.bottom) ≡ t
  under_is a b t e =
      let p = parts (limited (a.top *ℤ b.bottom)) _ t e in
      let q = parts (limited (b.top *ℤ a.bottom)) _ t p.2 in
      (λ j. int_lt (sym (limited_is (a.top *ℤ b.bottom) p.0 p.1) j) (sym (limited_is (b.top *ℤ a.bottom) q.0 q.1) j))
      ∙ (let f = q.2 in cc)

  at_most : (x y : ℤ) → int_lt x y ≡ true → x ≤ℤ y
  at_most x y h = omega (arith, ints)

  at_least : (x y : ℤ) → int_lt x y ≡ false → y ≤ℤ x
  at_least x y h = omega (arith, ints)

  raised : (row : Row) (old new : Fraction) → Negative row → pos 0 <ℤ old.bottom → pos 0 <ℤ new.bottom →
      (old.top *ℤ new.bottom) ≤ℤ (new.top *ℤ old.bottom) → Allows row old → Allows row new
  raised row old new n h k le sat =
      sat_lower (coefficient row i *ℤ den) (Room row) old.top old.bottom new.top new.bottom
      (product_negative (coefficient row i) den (is_negative (coefficient row i) n) positive) h k le sat

  lowered : (row : Row) (old new : Fraction) → Positive row → pos 0 <ℤ old.bottom → pos 0 <ℤ new.bottom →
      (new.top *ℤ old.bottom) ≤ℤ (old.top *ℤ new.bottom) → Allows row old → Allows row new
  lowered row old new n h k le sat =
      sat_upper (coefficient row i *ℤ den) (Room row) old.top old.bottom new.top new.bottom
      (product_positive (coefficient row i) den (is_positive (coefficient row i) n) positive) h k le sat

  -- one more lower bound
  abbrev LowTold : Row → Option Fraction → Fraction → Type 0
  LowTold row old low = LowFine (Some low) × ((g : Row) → Negative g → AllowsEnd g old → Allows g low) × Allows row low

  low_chosen : (row : Row) (new old : Fraction) (t : Bool) → Q row → Negative row → IsBound row new → LowFine (Some old) →
      int_lt (old.top *ℤ new.bottom) (new.top *ℤ old.bottom) ≡ t → LowTold row (Some old) (if t then new else old)
  low_chosen row new old true q n b fine e =
      ((row, q, n, b), (λ g m sat. raised g old new m fine.3.0 b.0 (at_most _ _ e) sat), bound_allows row new b)
  low_chosen row new old false q n b fine e =
      (fine, (λ g m sat. sat), raised row new old n b.0 fine.3.0 (at_least _ _ e) (bound_allows row new b))

  low_step : (row : Row) (new : Fraction) → Q row → Negative row → IsBound row new → (old : Option Fraction) (low : Fraction) →
      greatest_of old new ≡ Some low → LowFine old → LowTold row old low
  low_step row new q n b None low e fine =
      subst (LowTold row None) (let same : new ≡ low = cc in same) ((row, q, n, b), (λ g m sat. elim sat [ ]), bound_allows row new b)
  low_step row new q n b (Some old) low e fine =
      let p = parts (is_under old new) _ low e in
      subst (LowTold row (Some old)) (let f = p.2 in cc) (low_chosen row new old p.0 q n b fine (under_is old new p.0 p.1))

  -- one more upper bound
  abbrev HighTold : Row → Option Fraction → Fraction → Type 0
  HighTold row old high = HighFine (Some high) × ((g : Row) → Positive g → AllowsEnd g old → Allows g high) × Allows row high

  high_chosen : (row : Row) (new old : Fraction) (t : Bool) → Positive row → IsBound row new → HighFine (Some old) →
      int_lt (new.top *ℤ old.bottom) (old.top *ℤ new.bottom) ≡ t → HighTold row (Some old) (if t then new else old)
  high_chosen row new old true n b fine e = (b.0, (λ g m sat. lowered g old new m fine b.0 (at_most _ _ e) sat), bound_allows row new b)
  high_chosen row new old false n b fine e = (fine, (λ g m sat. sat), lowered row new old n b.0 fine (at_least _ _ e) (bound_allows row new b))

  high_step : (row : Row) (new : Fraction) → Positive row → IsBound row new → (old : Option Fraction) (high : Fraction) →
      least_of old new ≡ Some high → HighFine old → HighTold row old high
  high_step row new n b None high e fine =
      subst (HighTold row None) (let same : new ≡ high = cc in same) (b.0, (λ g m sat. elim sat [ ]), bound_allows row new b)
  high_step row new n b (Some old) high e fine =
      let p = parts (is_under new old) _ high e in
      subst (HighTold row (Some old)) (let f = p.2 in cc) (high_chosen row new old p.0 n b fine (under_is new old p.0 p.1))

  -- ---- all bounds

  record Fine (b : Bounds) : Type 0 where
    low : LowFine b.low
    high : HighFine b.high

  record Grows (b c : Bounds) : Type 0 where
    lows : (g : Row) → Negative g → AllowsEnd g b.low → AllowsEnd g c.low
    highs : (g : Row) → Positive g → AllowsEnd g b.high → AllowsEnd g c.high

  record Met (row : Row) (b : Bounds) : Type 0 where
    below : Negative row → AllowsEnd row b.low
    above : Positive row → AllowsEnd row b.high

  abbrev Step : Row → Bounds → Bounds → Type 0
  Step row b c = Fine c × Grows b c × Met row c

  stays : (row : Row) (b : Bounds) → is_zero (coefficient row i) ≡ true → Fine b → Step row b b
  stays row b e fine = (
    fine,
    record { lows = λ g m s. s; highs = λ g m s. s },
    record {
      below = λ n. absurd (not_both (coefficient row i) n e);
      above = λ n. absurd (positive_zero (coefficient row i) n e);
    },
  )

  tighter : (row : Row) (b c : Bounds) (new : Fraction) (t : Bool) → int_lt (coefficient row i) (pos 0) ≡ t → is_zero (coefficient row i) ≡ false →
      (if t
      then then_do (greatest_of b.low new) (λ low. Some (record { low = Some low; high = b.high }))
      else then_do (least_of b.high new) (λ high. Some (record { low = b.low; high = Some high }))) ≡ Some c →
      (Negative row → Q row) → IsBound row new → Fine b → Step row b c
  tighter row b c new true n some e q bound fine =
      let p = parts (greatest_of b.low new) _ c e in
      let told = low_step row new (q n) n bound b.low p.0 p.1 fine.low in
      let same : record { low = Some p.0; high = b.high } ≡ c = (let f = p.2 in cc) in
      subst (Step row b) same (
        record { low = told.0; high = fine.high },
        record { lows = told.1; highs = λ g m s. s },
        record { below = λ m. told.2; above = λ m. absurd (both_signs (coefficient row i) n m) },
      )
  tighter row b c new false n some e q bound fine =
      let p = parts (least_of b.high new) _ c e in
      let told = high_step row new (tests_positive (coefficient row i) (other_sign (coefficient row i) some n)) bound b.high p.0 p.1 fine.high in
      let same : record { low = b.low; high = Some p.0 } ≡ c = (let f = p.2 in cc) in
      subst (Step row b) same (
        record { low = fine.low; high = told.0 },
        record { lows = λ g m s. s; highs = told.1 },
        record { below = λ m. absurd (false≢true (sym n ∙ m)); above = λ m. told.2 },
      )

  one_bound : (h : Held) (b c : Bounds) (t : Bool) → is_zero (coefficient h.row i) ≡ t →
      (if t then Some b else then_do (bound_of i Here h.row) (λ new. tightened i b h.row new)) ≡ Some c → (Negative h.row → Q h.row) → Fine b →
      Step h.row b c
  one_bound h b c true z e q fine = subst (Step h.row b) (let same : b ≡ c = cc in same) (stays h.row b z fine)
  one_bound h b c false z e q fine =
      let p = parts (bound_of i Here h.row) _ c e in
      tighter h.row b c p.0 (int_lt (coefficient h.row i) (pos 0)) refl z p.2 q (bound_is h.row p.0 p.1 z) fine

  abbrev Loop : List Held → Bounds → Bounds → Type 0
  Loop hs b c = Fine c × Grows b c × ((h : Held) → In h hs → Met h.row c)

  grown : (row : Row) (b c : Bounds) → Grows b c → Met row b → Met row c
  grown row b c g m = record { below = λ n. g.lows row n (m.below n); above = λ n. g.highs row n (m.above n) }

  looped : (h : Held) (hs : List Held) (b c d : Bounds) → Step h.row b c → Loop hs c d → Loop (h ∷ hs) b d
  looped h hs b c d s l = (
    l.0,
    record { lows = λ g n a. l.1.lows g n (s.1.lows g n a); highs = λ g n a. l.1.highs g n (s.1.highs g n a) },
    λ k p.
        elim p [
          | inl e ↦ subst (λ (x : Held). Met x.row d) (sym e) (grown h.row c d l.1 s.2)
          | inr q ↦ l.2 k q
        ],
  )

  next_bounds : (h : Held) (hs : List Held) (b d : Bounds) (o : Option Bounds) → ((c : Bounds) → fold (bounded i Here) (Some c) hs ≡ Some d → Fine c →
      Loop hs c d) → bounded i Here (Some b) h ≡ o → fold (bounded i Here) o hs ≡ Some d → (Negative h.row → Q h.row) → Fine b → Loop (h ∷ hs) b d
  next_bounds h hs b d None later f e q fine =
      absurd (let g : None ≡ Some d = sym (fold_stays (bounded i Here) None (λ x. refl) hs) ∙ e in cc)
  next_bounds h hs b d (Some c) later f e q fine =
      let s = one_bound h b c (is_zero (coefficient h.row i)) refl f q fine in
      looped h hs b c d s (later c e s.0)

  all_bounds : (hs : List Held) (b d : Bounds) → fold (bounded i Here) (Some b) hs ≡ Some d → ((h : Held) → In h hs → Negative h.row → Q h.row) →
      Fine b → Loop hs b d
  all_bounds [] b d e q fine =
      subst (Loop [] b) (let same : b ≡ d = cc in same)
      (fine, record { lows = λ g n a. a; highs = λ g n a. a }, λ h p. elim p [ ])
  all_bounds (h ∷ hs) b d e q fine =
      next_bounds h hs b d (bounded i Here (Some b) h) (λ c f g. all_bounds hs c d f (λ k p. q k (inr p)) g) refl e (q h (inl refl)) fine

  -- ---- the value

  module _ (count : ℕ) (says : Says count i den vs positive stage) where
    room_pair : (m n : ℤ) (a b : Row) → Holds (suc i) den vs (combination m a n b) → pos 0 ≤ℤ ((m *ℤ Room a) +ℤ (n *ℤ Room b))
    room_pair m n a b h =
        let x = dot (drop (suc i) a.coefficients) vs in
        let y = dot (drop (suc i) b.coefficients) vs in
        let left : dot (drop (suc i) (added (scaled m a.coefficients) (scaled n b.coefficients))) vs ≡ (m *ℤ x) +ℤ (n *ℤ y) =
        ap (λ xs. dot xs vs) (drop_added (suc i) (scaled m a.coefficients) (scaled n b.coefficients))
        ∙ (dot_added (drop (suc i) (scaled m a.coefficients)) (drop (suc i) (scaled n b.coefficients)) vs
        ∙ (λ j. (ap (λ xs. dot xs vs) (drop_mapped (λ z. m *ℤ z) (suc i) a.coefficients) ∙ dot_scaled m (drop (suc i) a.coefficients) vs) j
        +ℤ (ap (λ xs. dot xs vs) (drop_mapped (λ z. n *ℤ z) (suc i) b.coefficients) ∙ dot_scaled n (drop (suc i) b.coefficients) vs) j)) in
        let right : ((m *ℤ a.bound) +ℤ (n *ℤ b.bound)) *ℤ den ≡ (m *ℤ (a.bound *ℤ den)) +ℤ (n *ℤ (b.bound *ℤ den)) =
        sum_times (m *ℤ a.bound) (n *ℤ b.bound) den ∙ (λ j. times_assoc m a.bound den j +ℤ times_assoc n b.bound den j) in
        subst (λ z. pos 0 ≤ℤ z) (λ j. sym (times_difference m (a.bound *ℤ den) x) j +ℤ sym (times_difference n (b.bound *ℤ den) y) j)
        (left_over (m *ℤ x) (n *ℤ y) (m *ℤ (a.bound *ℤ den)) (n *ℤ (b.bound *ℤ den)) (subst (λ z. z ≤ℤ ((m *ℤ (a.bound *ℤ den)) +ℤ (n *ℤ
        (b.bound *ℤ den)))) left (subst (λ z. dot (drop (suc i) (added (scaled m a.coefficients) (scaled n b.coefficients))) vs ≤ℤ z) right h)))

    -- a lower bound is allowed by each row with a positive coefficient
    pair_allows : (up : Held) (row : Row) (low : Fraction) → In up stage → Positive up.row → Negative row → Q row → IsBound row low → Allows up.row low
    pair_allows up row low p u n q b =
        let c = coefficient up.row i in
        let d = coefficient row i in
        let g = gcd c d in
        let h = gcd_positive c d u in
        let divides = gcd_divides c d in
        pair_sat (int_div (neg_ℤ d) g) (int_div c g) g c d (Room up.row) (Room row) den low.top low.bottom
        (exact (neg_ℤ d) g (multiple (neg_ℤ d) g (subst (λ k. unsigned_abs g ∣ k) (sym (neg_size d)) divides.1)))
        (exact c g (multiple c g divides.0)) h (is_negative d n) b.0
        (room_pair (int_div (neg_ℤ d) g) (int_div c g) up.row row (q up p u)) b.1

    not_above : (x y z : ℤ) → x ≤ℤ y → z ≡ pos 0 → z ≤ℤ (y -ℤ x)
    not_above x y z h e = omega (arith, ints)

    zero_allows : (h : Held) (f : Fraction) → In h stage → is_zero (coefficient h.row i) ≡ true → pos 0 <ℤ f.bottom → Allows h.row f
    zero_allows h f p z b =
        let none : (coefficient h.row i *ℤ den) *ℤ f.top ≡ pos 0 =
        ap (λ c. (c *ℤ den) *ℤ f.top) (zero_is (coefficient h.row i) z) ∙ (ap (λ y. y *ℤ f.top) (zero-*ℤ den) ∙ zero-*ℤ f.top) in
        let room : pos 0 ≤ℤ Room h.row = not_above _ _ (pos 0) (says.without h p z) refl in
        subst (λ y. y ≤ℤ (Room h.row *ℤ f.bottom)) (sym none)
        (subst (λ y. y ≤ℤ (Room h.row *ℤ f.bottom)) (*ℤ-zero f.bottom) (subst (λ y. (f.bottom *ℤ pos 0) ≤ℤ y) (*ℤ_comm f.bottom (Room h.row))
        (times_order f.bottom (pos 0) (Room h.row) (weak f.bottom b) room)))

    any_sign : {P : Type 0} (c : ℤ) → (is_zero c ≡ true → P) → (int_lt c (pos 0) ≡ true → P) → (int_lt (pos 0) c ≡ true → P) → P
    any_sign c zero_case low_case high_case =
        elim (cases_Bool (is_zero c)) [
          | inl z ↦ zero_case z
          | inr s ↦
              elim (cases_Bool (int_lt c (pos 0))) [
                | inl n ↦ low_case n
                | inr n ↦ high_case (tests_positive c (other_sign c s n))
              ]
        ]

    one_above : pos 0 <ℤ pos 1
    one_above = omega (arith, ints)

    -- the value that is taken
    abbrev Good : Fraction → Type 0
    Good f = (pos 0 <ℤ f.bottom) × ((h : Held) → In h stage → Allows h.row f)

    value_from : (low high : Option Fraction) → LowFine low → HighFine high →
        ((h : Held) → In h stage → Negative h.row → AllowsEnd h.row low) → ((h : Held) → In h stage → Positive h.row → AllowsEnd h.row high) →
        Good (value_within low high)
    value_from (Some low) high fine_low fine_high lows highs = (
      fine_low.3.0,
      λ h p. any_sign (coefficient h.row i) (λ z. zero_allows h low p z fine_low.3.0) (λ n. lows h p n) (λ n. pair_allows h fine_low.0
          low p n fine_low.2 fine_low.1 fine_low.3),
    )
    value_from None (Some high) fine_low fine_high lows highs =
        (fine_high, λ h p. any_sign (coefficient h.row i) (λ z. zero_allows h high p z fine_high) (λ n. elim (lows h p n) [ ]) (λ n. highs h p n))
    value_from None None fine_low fine_high lows highs = (
      one_above,
      λ h p. any_sign (coefficient h.row i) (λ z. zero_allows h _ p z one_above) (λ n. elim (lows h p n) [ ]) (λ n.
          elim (highs h p n) [ ]),
    )

    value_good : (d : Bounds) → fold (bounded i Here) (Some no_bounds) stage ≡ Some d → Good (value_of d)
    value_good d e =
        let l = all_bounds stage no_bounds d e (λ h p n up q u. says.pairs up h q p u n) (record { low = tt; high = tt }) in
        value_from d.low d.high l.0.low l.0.high (λ h p n. (l.2 h p).below n) (λ h p n. (l.2 h p).above n)

    -- the point with the value for the variable
    abbrev True : Point → Type 0
    True point = (pos 0 <ℤ point.denominator) × ((h : Held) → In h stage → Holds i point.denominator point.numerators h.row)

    pub extended_true : (point : Point) → extended i stage Here ≡ Some point → True point
    extended_true point e =
        let p = parts (fold (bounded i Here) (Some no_bounds) stage) _ point e in
        let f = value_of p.0 in
        let good = value_good p.0 p.1 in
        let g = gcd den f.bottom in
        let h = gcd_positive den f.bottom (tests_positive den positive) in
        let divides = gcd_divides den f.bottom in
        let own = part den g in
        let times = part f.bottom g in
        let is_own : den ≡ g *ℤ own = part_is den g h divides.0 in
        let is_times : f.bottom ≡ g *ℤ times = part_is f.bottom g h divides.1 in
        let q = parts (limited (own *ℤ f.bottom)) _ point p.2 in
        let r = parts (limited (f.top *ℤ own)) _ point q.2 in
        let s = parts (all_limited (scaled times vs)) _ point r.2 in
        let made : record { denominator = own *ℤ f.bottom; numerators = (f.top *ℤ own) ∷ scaled times vs } ≡ point =
        (λ j. record {
          denominator = sym (limited_is (own *ℤ f.bottom) q.0 q.1) j;
          numerators = sym (limited_is (f.top *ℤ own) r.0 r.1) j ∷ sym (limits_are (scaled times vs) s.0 (are_within (scaled times vs)) s.1) j;
        }) ∙ (let k = s.2 in cc) in
        subst True made (
          product_positive own f.bottom (part_positive den g own is_own positive h) good.0,
          λ k t.
              subst (λ z. z ≤ℤ (k.row.bound *ℤ (own *ℤ f.bottom)))
              (sym (dot_first i k.row.coefficients (f.top *ℤ own) (scaled times vs) ∙ ap (λ z. (coefficient k.row i *ℤ (f.top *ℤ own)) +ℤ z)
              (dot_values times (drop (suc i) k.row.coefficients) vs)))
              (value_sat (coefficient k.row i) f.top f.bottom g own times den k.row.bound (dot (drop (suc i) k.row.coefficients) vs) is_own is_times h
              (good.1 k t)),
        )
