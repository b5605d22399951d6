-- Laws of integers.
use Rattle.std.proofs.Common.{◌≡◌, ap, sym, ◌∙◌, arith}
use Rattle.std.specs.Prelude.{ℤ, pos, negsuc, ◌+ℤ◌, ◌*ℤ◌, ◌-ℤ◌, neg_ℤ}
use Rattle.std.proofs.Math.IntN.{pred_ℤ, suc_ℤ-*ℤ, pred_ℤ-*ℤ, ℤ_ind, *ℤ_comm, +ℤ_one, +ℤ_assoc, +ℤ_idr, zero-*ℤ, *ℤ-one, *ℤ-negsuc, +ℤ_invl}
use Rattle.std.proofs.Math.IntN.{+ℤ-suc_ℤ, +ℤ-pred_ℤ, -ℤ_one}
use Rattle.std.proofs.lemmas.Int.{ints}

up : (a b k : ℤ) → (a +ℤ b) *ℤ k ≡ a *ℤ k +ℤ b *ℤ k → (a +ℤ (b +ℤ pos 1)) *ℤ k ≡ a *ℤ k +ℤ (b +ℤ pos 1) *ℤ k
up a b k h =
    ap (λ x. (a +ℤ x) *ℤ k) (+ℤ_one b) ∙ ap (λ x. x *ℤ k) (+ℤ-suc_ℤ a b) ∙ suc_ℤ-*ℤ (a +ℤ b) k ∙ ap (λ x. x +ℤ k) h
    ∙ +ℤ_assoc (a *ℤ k) (b *ℤ k) k ∙ ap (λ x. a *ℤ k +ℤ x) (sym (suc_ℤ-*ℤ b k) ∙ ap (λ x. x *ℤ k) (sym (+ℤ_one b)))

less : (a b k : ℤ) → (a +ℤ b) *ℤ k ≡ a *ℤ k +ℤ b *ℤ k → (a +ℤ pred_ℤ b) *ℤ k ≡ a *ℤ k +ℤ pred_ℤ b *ℤ k
less a b k h =
    ap (λ x. x *ℤ k) (+ℤ-pred_ℤ a b) ∙ pred_ℤ-*ℤ (a +ℤ b) k ∙ ap (λ x. x -ℤ k) h
    ∙ +ℤ_assoc (a *ℤ k) (b *ℤ k) (neg_ℤ k) ∙ ap (λ x. a *ℤ k +ℤ x) (sym (pred_ℤ-*ℤ b k))

down : (a b k : ℤ) → (a +ℤ b) *ℤ k ≡ a *ℤ k +ℤ b *ℤ k → (a +ℤ (b +ℤ neg_ℤ (pos 1))) *ℤ k ≡ a *ℤ k +ℤ (b +ℤ neg_ℤ (pos 1)) *ℤ k
down a b k h = ap (λ x. (a +ℤ x) *ℤ k) (-ℤ_one b) ∙ less a b k h ∙ ap (λ x. a *ℤ k +ℤ x *ℤ k) (sym (-ℤ_one b))

pub spread : (a b k : ℤ) → (a +ℤ b) *ℤ k ≡ a *ℤ k +ℤ b *ℤ k
spread a b k = ℤ_ind (λ x. (a +ℤ x) *ℤ k ≡ a *ℤ k +ℤ x *ℤ k)
    (ap (λ x. x *ℤ k) (+ℤ_idr a) ∙ sym (ap (λ x. a *ℤ k +ℤ x) (zero-*ℤ k) ∙ +ℤ_idr (a *ℤ k)))
    (λ n h. up a (pos n) k h) (λ n h. down a (neg_ℤ (pos n)) k h) b

pub spread_right : (a b k : ℤ) → k *ℤ (a +ℤ b) ≡ k *ℤ a +ℤ k *ℤ b
spread_right a b k = *ℤ_comm k (a +ℤ b) ∙ spread a b k ∙ (λ i. *ℤ_comm a k i +ℤ *ℤ_comm b k i)

one_of : (b : ℤ) → pos 1 *ℤ b ≡ b
unfolding lib.IntN.one
one_of b = *ℤ_comm (pos 1) b ∙ *ℤ-one b

one_times : (b k : ℤ) → (pos 1 *ℤ b) *ℤ k ≡ pos 1 *ℤ (b *ℤ k)
one_times b k = ap (λ x. x *ℤ k) (one_of b) ∙ sym (one_of (b *ℤ k))

less_of : (b : ℤ) → neg_ℤ (pos 1) *ℤ b ≡ neg_ℤ b
unfolding lib.IntN.one
less_of b = *ℤ_comm (neg_ℤ (pos 1)) b ∙ *ℤ-negsuc b 0 ∙ ap neg_ℤ (*ℤ-one b)

neg_times : (b k : ℤ) → neg_ℤ b *ℤ k ≡ neg_ℤ (b *ℤ k)
neg_times b k =
    let both : neg_ℤ b *ℤ k +ℤ b *ℤ k ≡ pos 0 = sym (spread (neg_ℤ b) b k) ∙ ap (λ x. x *ℤ k) (+ℤ_invl b) ∙ zero-*ℤ k in
    omega (arith, ints, both)

less_times : (b k : ℤ) → (neg_ℤ (pos 1) *ℤ b) *ℤ k ≡ neg_ℤ (pos 1) *ℤ (b *ℤ k)
less_times b k = ap (λ x. x *ℤ k) (less_of b) ∙ neg_times b k ∙ sym (less_of (b *ℤ k))

pub regroup : (a b k : ℤ) → (a *ℤ b) *ℤ k ≡ a *ℤ (b *ℤ k)
regroup a b k = ℤ_ind (λ x. (x *ℤ b) *ℤ k ≡ x *ℤ (b *ℤ k))
    (ap (λ x. x *ℤ k) (zero-*ℤ b) ∙ zero-*ℤ k ∙ sym (zero-*ℤ (b *ℤ k)))
    (λ n h. ap (λ x. x *ℤ k) (spread (pos n) (pos 1) b) ∙ spread (pos n *ℤ b) (pos 1 *ℤ b) k
    ∙ (λ i. h i +ℤ one_times b k i) ∙ sym (spread (pos n) (pos 1) (b *ℤ k)))
    (λ n h. ap (λ x. x *ℤ k) (spread (neg_ℤ (pos n)) (neg_ℤ (pos 1)) b) ∙ spread (neg_ℤ (pos n) *ℤ b) (neg_ℤ (pos 1) *ℤ b) k
    ∙ (λ i. h i +ℤ less_times b k i) ∙ sym (spread (neg_ℤ (pos n)) (neg_ℤ (pos 1)) (b *ℤ k)))
    a

pub one_time : (b : ℤ) → pos 1 *ℤ b ≡ b
one_time b = one_of b

pub minus_one_time : (b : ℤ) → negsuc 0 *ℤ b ≡ neg_ℤ b
minus_one_time b = less_of b
