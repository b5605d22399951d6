-- Products of integers beside sums and the order.
use Rattle.std.proofs.Common.{◌≡◌, zero, suc, sym, ap, ◌∙◌, subst, arith, ℤ, pos, negsuc, neg_ℤ, ◌+ℤ◌, ◌-ℤ◌, ◌*ℤ◌, ◌≤ℤ◌, ◌<ℤ◌}
use Rattle.std.proofs.lemmas.Int.{ints, by_lt_z}
use Rattle.std.proofs.Math.IntN.{suc_ℤ, pred_ℤ, suc_ℤ-*ℤ, pred_ℤ-*ℤ, zero-*ℤ, *ℤ_comm, +ℤ_idl}

-- a statement about all integers, from 0 by steps of 1 both ways
both_ways : (P : ℤ → Type 0) → P (pos 0) → ((m : ℤ) → P m → P (suc_ℤ m)) → ((m : ℤ) → P m → P (pred_ℤ m)) → (m : ℤ) → P m
both_ways P base up down (pos zero) = base
both_ways P base up down (pos (suc n)) = up (pos n) (both_ways P base up down (pos n))
both_ways P base up down (negsuc zero) = down (pos 0) base
both_ways P base up down (negsuc (suc n)) = down (negsuc n) (both_ways P base up down (negsuc n))

joined : (p q r a b : ℤ) → p ≡ q +ℤ r → p +ℤ (a +ℤ b) ≡ (q +ℤ a) +ℤ (r +ℤ b)
joined p q r a b e = omega (arith, ints)

parted : (p q r a b : ℤ) → p ≡ q +ℤ r → p -ℤ (a +ℤ b) ≡ (q -ℤ a) +ℤ (r -ℤ b)
parted p q r a b e = omega (arith, ints)

-- a product of a sum
pub times_sum : (m a b : ℤ) → m *ℤ (a +ℤ b) ≡ (m *ℤ a) +ℤ (m *ℤ b)
times_sum m a b =
    both_ways (λ m. m *ℤ (a +ℤ b) ≡ (m *ℤ a) +ℤ (m *ℤ b))
    (zero-*ℤ (a +ℤ b) ∙ sym ((λ j. zero-*ℤ a j +ℤ zero-*ℤ b j) ∙ +ℤ_idl (pos 0)))
    (λ m e. suc_ℤ-*ℤ m (a +ℤ b) ∙ (joined _ _ _ a b e ∙ sym (λ j. suc_ℤ-*ℤ m a j +ℤ suc_ℤ-*ℤ m b j)))
    (λ m e. pred_ℤ-*ℤ m (a +ℤ b) ∙ (parted _ _ _ a b e ∙ sym (λ j. pred_ℤ-*ℤ m a j +ℤ pred_ℤ-*ℤ m b j)))
    m

-- and the other way round
pub sum_times : (a b m : ℤ) → (a +ℤ b) *ℤ m ≡ (a *ℤ m) +ℤ (b *ℤ m)
sum_times a b m = *ℤ_comm (a +ℤ b) m ∙ (times_sum m a b ∙ (λ j. *ℤ_comm m a j +ℤ *ℤ_comm m b j))

negated : (a : ℤ) → neg_ℤ a +ℤ a ≡ pos 0
negated a = omega (arith, ints)

cancelled : (x y : ℤ) → x +ℤ y ≡ pos 0 → x ≡ neg_ℤ y
cancelled x y e = omega (arith, ints)

pub neg_times : (a m : ℤ) → neg_ℤ a *ℤ m ≡ neg_ℤ (a *ℤ m)
neg_times a m = cancelled _ _ (sym (sum_times (neg_ℤ a) a m) ∙ (ap (λ z. z *ℤ m) (negated a) ∙ zero-*ℤ m))

minus : (a b : ℤ) → a -ℤ b ≡ a +ℤ neg_ℤ b
minus a b = omega (arith, ints)

pub difference_times : (a b m : ℤ) → (a -ℤ b) *ℤ m ≡ (a *ℤ m) -ℤ (b *ℤ m)
difference_times a b m = ap (λ z. z *ℤ m) (minus a b) ∙ (sum_times a (neg_ℤ b) m ∙ (ap (λ z. (a *ℤ m) +ℤ z) (neg_times b m) ∙
    sym (minus (a *ℤ m) (b *ℤ m))))

pub times_assoc : (m a b : ℤ) → (m *ℤ a) *ℤ b ≡ m *ℤ (a *ℤ b)
times_assoc m a b =
    both_ways (λ m. (m *ℤ a) *ℤ b ≡ m *ℤ (a *ℤ b))
    (ap (λ z. z *ℤ b) (zero-*ℤ a) ∙ (zero-*ℤ b ∙ sym (zero-*ℤ (a *ℤ b))))
    (λ m e. ap (λ z. z *ℤ b) (suc_ℤ-*ℤ m a) ∙ (sum_times (m *ℤ a) a b ∙ (ap (λ z. z +ℤ (a *ℤ b)) e ∙ sym (suc_ℤ-*ℤ m (a *ℤ b)))))
    (λ m e. ap (λ z. z *ℤ b) (pred_ℤ-*ℤ m a) ∙ (difference_times (m *ℤ a) a b ∙ (ap (λ z. z -ℤ (a *ℤ b)) e ∙ sym (pred_ℤ-*ℤ m (a *ℤ b)))))
    m

-- products keep the order
pub at_least_zero : (m a : ℤ) → pos 0 ≤ℤ m → pos 0 ≤ℤ a → pos 0 ≤ℤ (m *ℤ a)
at_least_zero (pos m) (pos a) h k = omega (arith, ints)
at_least_zero (pos m) (negsuc a) h k = absurd (omega (arith, ints))
at_least_zero (negsuc m) a h k = absurd (omega (arith, ints))

apart : (x y : ℤ) → x ≤ℤ y → pos 0 ≤ℤ (y -ℤ x)
apart x y h = omega (arith, ints)

rejoined : (x y : ℤ) → x +ℤ (y -ℤ x) ≡ y
rejoined x y = omega (arith, ints)

above : (x z : ℤ) → pos 0 ≤ℤ z → x ≤ℤ (x +ℤ z)
above x z h = omega (arith, ints)

pub times_order : (m x y : ℤ) → pos 0 ≤ℤ m → x ≤ℤ y → (m *ℤ x) ≤ℤ (m *ℤ y)
times_order m x y h k =
    subst (λ z. (m *ℤ x) ≤ℤ z) (sym (times_sum m x (y -ℤ x)) ∙ ap (λ z. m *ℤ z) (rejoined x y))
    (above (m *ℤ x) (m *ℤ (y -ℤ x)) (at_least_zero m (y -ℤ x) h (apart x y k)))

one_times : (m : ℤ) → m *ℤ pos 1 ≡ m
one_times m = *ℤ_comm m (pos 1) ∙ (suc_ℤ-*ℤ (pos 0) m ∙ (ap (λ z. z +ℤ m) (zero-*ℤ m) ∙ +ℤ_idl m))

next : (x y : ℤ) → y <ℤ x → (y +ℤ pos 1) ≤ℤ x
next x y h = omega (arith, ints)

crossed : (d p q : ℤ) → pos 0 <ℤ d → (p +ℤ d) ≤ℤ q → q ≤ℤ p → ⊥
crossed d p q h k l = omega (arith, ints)

-- and give it back
pub order_back : (d x y : ℤ) → pos 0 <ℤ d → (d *ℤ x) ≤ℤ (d *ℤ y) → x ≤ℤ y
order_back d x y h k =
    by_lt_z y x
    (λ l. absurd (crossed d (d *ℤ y) (d *ℤ x) h
    (subst (λ z. z ≤ℤ (d *ℤ x)) (times_sum d y (pos 1) ∙ ap (λ z. (d *ℤ y) +ℤ z) (one_times d))
    (times_order d (y +ℤ pos 1) x (let w : pos 0 ≤ℤ d = omega (arith, ints) in w) (next x y l))) k))
    (λ l. l)
