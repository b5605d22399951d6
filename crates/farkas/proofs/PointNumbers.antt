-- Products of integers, as the bounds of a variable are compared and its value is put among the others.
use Rattle.std.proofs.Common.{◌≡◌, sym, ap, ◌∙◌, refl, arith, ℤ, pos, neg_ℤ, ◌+ℤ◌, ◌-ℤ◌, ◌*ℤ◌, ◌≤ℤ◌, ◌<ℤ◌}
use Rattle.std.proofs.lemmas.Int.{ints}
use Rattle.std.proofs.Math.IntN.{*ℤ_comm, *ℤ-zero}
use Rattle.linear.specs.laws.Integers.{times_sum, times_assoc, times_order, order_back, neg_times, difference_times}

pub swap : (a b c : ℤ) → a *ℤ (b *ℤ c) ≡ b *ℤ (a *ℤ c)
swap a b c = sym (times_assoc a b c) ∙ (ap (λ z. z *ℤ c) (*ℤ_comm a b) ∙ times_assoc b a c)

pub weak : (z : ℤ) → pos 0 <ℤ z → pos 0 ≤ℤ z
weak z h = omega (arith, ints)

chain : (a b c d : ℤ) → a ≡ b → b ≤ℤ c → c ≡ d → a ≤ℤ d
chain a b c d p h q = omega (arith, ints)

trans : (a b c : ℤ) → a ≤ℤ b → b ≤ℤ c → a ≤ℤ c
trans a b c h k = omega (arith, ints)

turned : (x y : ℤ) → neg_ℤ x ≤ℤ neg_ℤ y → y ≤ℤ x
turned x y h = omega (arith, ints)

positive_neg : (e : ℤ) → e <ℤ pos 0 → pos 0 ≤ℤ neg_ℤ e
positive_neg e h = omega (arith, ints)

-- a product with a negative number turns the order
pub neg_order : (e x y : ℤ) → e <ℤ pos 0 → x ≤ℤ y → (e *ℤ y) ≤ℤ (e *ℤ x)
neg_order e x y h k =
    turned (e *ℤ x) (e *ℤ y) (chain _ _ _ _ (sym (neg_times e x)) (times_order (neg_ℤ e) x y (positive_neg e h) k) (neg_times e y))

-- what holds at one fraction holds at another that is on the right side of it
pub sat_moves : (e r t b t' b' : ℤ) → pos 0 <ℤ b → pos 0 <ℤ b' → (e *ℤ (t' *ℤ b)) ≤ℤ (e *ℤ (t *ℤ b')) → (e *ℤ t) ≤ℤ (r *ℤ b) → (e *ℤ t') ≤ℤ (r *ℤ b')
sat_moves e r t b t' b' h h' moved sat =
    order_back b (e *ℤ t') (r *ℤ b') h
    (chain _ _ _ _ (swap b e t' ∙ ap (λ z. e *ℤ z) (*ℤ_comm b t'))
    (trans _ _ _ moved (chain _ _ _ _ (ap (λ z. e *ℤ z) (*ℤ_comm t b') ∙ swap e b' t) (times_order b' (e *ℤ t) (r *ℤ b) (weak b' h') sat) refl))
    (swap b' r b ∙ (ap (λ z. r *ℤ z) (*ℤ_comm b' b) ∙ swap r b b')))

-- a greater lower bound, and a lesser upper bound
pub sat_lower : (e r t b t' b' : ℤ) → e <ℤ pos 0 → pos 0 <ℤ b → pos 0 <ℤ b' → (t *ℤ b') ≤ℤ (t' *ℤ b) → (e *ℤ t) ≤ℤ (r *ℤ b) → (e *ℤ t') ≤ℤ (r *ℤ b')
sat_lower e r t b t' b' n h h' k sat = sat_moves e r t b t' b' h h' (neg_order e (t *ℤ b') (t' *ℤ b) n k) sat

pub sat_upper : (e r t b t' b' : ℤ) → pos 0 <ℤ e → pos 0 <ℤ b → pos 0 <ℤ b' → (t' *ℤ b) ≤ℤ (t *ℤ b') → (e *ℤ t) ≤ℤ (r *ℤ b) → (e *ℤ t') ≤ℤ (r *ℤ b')
sat_upper e r t b t' b' n h h' k sat = sat_moves e r t b t' b' h h' (times_order e (t' *ℤ b) (t *ℤ b') (weak e n) k) sat

pub times_difference : (m a b : ℤ) → m *ℤ (a -ℤ b) ≡ (m *ℤ a) -ℤ (m *ℤ b)
times_difference m a b = *ℤ_comm m (a -ℤ b) ∙ (difference_times a b m ∙ (λ j. *ℤ_comm a m j -ℤ *ℤ_comm b m j))

below : (x y z : ℤ) → pos 0 ≤ℤ (x +ℤ y) → z +ℤ y ≡ pos 0 → z ≤ℤ x
below x y z h e = omega (arith, ints)

opposed : (x y : ℤ) → x ≡ neg_ℤ y → x +ℤ y ≡ pos 0
opposed x y e = omega (arith, ints)

at_zero : (x y : ℤ) → pos 0 ≤ℤ x → x ≡ y → pos 0 ≤ℤ y
at_zero x y h e = omega (arith, ints)

-- a lower bound, from a row with the coefficient d below 0, holds in a row with the coefficient p above 0, where their sum does
pub pair_sat : (m n g p d ru rd den t b : ℤ) → neg_ℤ d ≡ g *ℤ m → p ≡ g *ℤ n → pos 0 <ℤ g → d <ℤ pos 0 → pos 0 <ℤ b →
    pos 0 ≤ℤ ((m *ℤ ru) +ℤ (n *ℤ rd)) → t *ℤ (d *ℤ den) ≡ rd *ℤ b → ((p *ℤ den) *ℤ t) ≤ℤ (ru *ℤ b)
pair_sat m n g p d ru rd den t b dm pn hg hd hb pair frac =
    let q = neg_ℤ d in
    let x = (p *ℤ den) *ℤ t in
    -- 0 <= q ru + p rd
    let grown : pos 0 ≤ℤ ((q *ℤ ru) +ℤ (p *ℤ rd)) =
    at_zero _ _ (chain _ _ _ _ (sym (*ℤ-zero g)) (times_order g (pos 0) ((m *ℤ ru) +ℤ (n *ℤ rd)) (weak g hg) pair) refl)
    (times_sum g (m *ℤ ru) (n *ℤ rd) ∙ (λ j. (sym (times_assoc g m ru) ∙ ap (λ z. z *ℤ ru) (sym dm)) j +ℤ (sym (times_assoc g n rd) ∙
    ap (λ z. z *ℤ rd) (sym pn)) j)) in
    -- the same times b
    let more : pos 0 ≤ℤ ((q *ℤ (ru *ℤ b)) +ℤ (p *ℤ (rd *ℤ b))) =
    at_zero _ _ (chain _ _ _ _ (sym (*ℤ-zero b)) (times_order b (pos 0) ((q *ℤ ru) +ℤ (p *ℤ rd)) (weak b hb) grown) refl)
    (times_sum b (q *ℤ ru) (p *ℤ rd) ∙ (λ j. (swap b q ru ∙ ap (λ z. q *ℤ z) (*ℤ_comm b ru)) j +ℤ (swap b p rd ∙ ap (λ z. p *ℤ z) (*ℤ_comm b rd)) j)) in
    -- p (rd b) is -q x
    let turned_round : p *ℤ (rd *ℤ b) ≡ d *ℤ x =
    ap (λ z. p *ℤ z) (sym frac)
    ∙ (ap (λ z. p *ℤ z) (swap t d den) ∙ (swap p d (t *ℤ den) ∙ ap (λ z. d *ℤ z) (ap (λ z. p *ℤ z) (*ℤ_comm t den) ∙ sym (times_assoc p den t)))) in
    order_back q x (ru *ℤ b) (positive d hd)
    (below (q *ℤ (ru *ℤ b)) (p *ℤ (rd *ℤ b)) (q *ℤ x) more (opposed (q *ℤ x) (p *ℤ (rd *ℤ b)) (neg_times d x ∙ ap neg_ℤ (sym turned_round))))
  where
    positive : (e : ℤ) → e <ℤ pos 0 → pos 0 <ℤ neg_ℤ e
    positive e h = omega (arith, ints)

rest_over : (x y z : ℤ) → x ≤ℤ (y -ℤ z) → (x +ℤ z) ≤ℤ y
rest_over x y z h = omega (arith, ints)

-- a value that a row allows makes it true, over the common denominator
pub value_sat : (c t b g own times den bound rest : ℤ) → den ≡ g *ℤ own → b ≡ g *ℤ times → pos 0 <ℤ g →
    ((c *ℤ den) *ℤ t) ≤ℤ ((((bound *ℤ den) -ℤ rest)) *ℤ b) → ((c *ℤ (t *ℤ own)) +ℤ (times *ℤ rest)) ≤ℤ (bound *ℤ (own *ℤ b))
value_sat c t b g own times den bound rest de be hg sat =
    let left : (c *ℤ den) *ℤ t ≡ g *ℤ (c *ℤ (t *ℤ own)) =
    ap (λ z. (c *ℤ z) *ℤ t) de ∙ (times_assoc c (g *ℤ own) t ∙ (ap (λ z. c *ℤ z) (times_assoc g own t ∙ ap (λ z. g *ℤ z) (*ℤ_comm own t)) ∙
    swap c g (t *ℤ own))) in
    let whole : (bound *ℤ den) *ℤ b ≡ g *ℤ (bound *ℤ (own *ℤ b)) =
    ap (λ z. (bound *ℤ z) *ℤ b) de ∙ (times_assoc bound (g *ℤ own) b ∙ (ap (λ z. bound *ℤ z) (times_assoc g own b) ∙ swap bound g (own *ℤ b))) in
    let less : rest *ℤ b ≡ g *ℤ (times *ℤ rest) =
    ap (λ z. rest *ℤ z) be ∙ (swap rest g times ∙ ap (λ z. g *ℤ z) (*ℤ_comm rest times)) in
    order_back g _ _ hg
    (chain _ _ _ _ (times_sum g (c *ℤ (t *ℤ own)) (times *ℤ rest))
    (rest_over (g *ℤ (c *ℤ (t *ℤ own))) (g *ℤ (bound *ℤ (own *ℤ b))) (g *ℤ (times *ℤ rest))
    (chain _ _ _ _ (sym left) sat (difference_times (bound *ℤ den) rest b ∙ (λ j. whole j -ℤ less j)))) refl)
