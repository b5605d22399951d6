-- The zero of a type belongs to it, and so does whatever is made to fit it.
use Rattle.std.proofs.Common.{◌≡◌, ℕ, zero, suc, ◌+◌, ◌<◌, List, [], ◌∷◌, length, map, replicate, Option, Some, None, refl, ap, ◌∙◌, arith}
use Rattle.std.proofs.Common.{Bool, true, false, cond, eq-eqb}
use Rattle.std.specs.Prelude.{pos, ◌&&◌, nat_eq, nat_lt, nat_le, slice_get}
use Rattle.std.specs.List.{list_all}
use Rattle.std.proofs.lemmas.Bool.Decides.{nat_tests}
use Rattle.sail_types.specs.declared.values.Value.{Value, Value-F, roll-Value}
use Rattle.sail_types.specs.declared.values.Value.TheFolds.{fold-roll-Value, map-Value}
use Rattle.sail_types.specs.declared.values.Value.TheOpen as W
use Rattle.sail_types.specs.Limits.{is_small, largest}
use Rattle.jib.specs.declared.types.ValueType.{ValueType}
use Rattle.jib.specs.declared.types.ValueType.TheVariants as T
use Rattle.jib.specs.Values.{Asked, has, is_of, form_has, each_has, form_zero, zero_form, zero_within, zero_of, fit}
use Rattle.jib.specs.Operands.{each}
use Rattle.jib.specs.Valid.{before, typ_right}
use Rattle.jib.proofs.ValidLaws.{left_of, right_of, each_of}

abbrev told : List ValueType → Value-F Asked → ℕ → Bool
told ts v k = is_of v (slice_get ts k)

-- what a value of this form is asked, where the type is known
pub of_form : (ts : List ValueType) (form : Value-F Value) (k : ℕ) (t : ValueType) → slice_get ts k ≡ Some t
    → has ts (roll-Value form) k ≡ form_has (map-Value Value Asked (has ts) form) t
of_form ts form k t e =
    ap (λ f. f k) (fold-roll-Value Asked (told ts) form) ∙ ap (is_of (map-Value Value Asked (has ts) form)) e

both : (a b : Bool) → a ≡ true → b ≡ true → (a && b) ≡ true
both a b p q = ap (λ x. x && b) p ∙ q

same_nat : (a b : ℕ) → a ≡ b → nat_eq a b ≡ true
same_nat a b e = eq-eqb a b e

pub is_below : (a b : ℕ) → nat_lt a b ≡ true → a < b
is_below a b h = grind (arith, nat_tests)

length_zeros : (w : ℕ) → length (replicate w false) ≡ w
length_zeros zero = refl
length_zeros (suc w) = ap suc (length_zeros w)

length_asked : (ts : List ValueType) (n : ℕ) (v : Value) → length (map (has ts) (replicate n v)) ≡ n
length_asked ts zero v = refl
length_asked ts (suc n) v = ap suc (length_asked ts n v)

all_asked : (ts : List ValueType) (n : ℕ) (v : Value) (t : ℕ) → has ts v t ≡ true → list_all (λ f. f t) (map (has ts) (replicate n v)) ≡ true
all_asked ts zero v t h = refl
all_asked ts (suc n) v t h = both _ _ h (all_asked ts n v t h)

each_zero : (ts : List ValueType) (z : ℕ → Value) (n : ℕ) (us : List ℕ) (j : ℕ) → each (before n) j us ≡ true
    → ((k : ℕ) → k < n → has ts (z k) k ≡ true) → each_has (map (has ts) (map z us)) us ≡ true
each_zero ts z n [] j r h = refl
each_zero ts z n (u ∷ us) j r h =
    both _ _ (h u (is_below u n (left_of (nat_lt u n) (each (before n) (j + 1) us) r)))
    (each_zero ts z n us (j + 1) (right_of (nat_lt u n) (each (before n) (j + 1) us) r) h)

zero_small : is_small (pos 0) ≡ true
unfolding largest
zero_small = refl

-- the zero of a form belongs, where the zeros of the types before it do
form_zero_has : (ts : List ValueType) (z : ℕ → Value) (n k : ℕ) (t : ValueType) → slice_get ts k ≡ Some t → typ_right n t ≡ true
    → ((j : ℕ) → j < n → has ts (z j) j ≡ true) → has ts (form_zero z t) k ≡ true
unfolding roll-Value denote.Hole.Carrier.roll
form_zero_has ts z n k T.Unit e r h = of_form ts W.Unit k T.Unit e
form_zero_has ts z n k T.Integer e r h = of_form ts (W.Integer (pos 0)) k T.Integer e ∙ zero_small
form_zero_has ts z n k T.Truth e r h = of_form ts (W.Truth false) k T.Truth e
form_zero_has ts z n k T.Bit e r h = of_form ts (W.Bit false) k T.Bit e
form_zero_has ts z n k (T.Bits w) e r h = of_form ts (W.Bits (replicate w false)) k (T.Bits w) e ∙ same_nat _ _ (length_zeros w)
form_zero_has ts z n k T.String e r h = of_form ts (W.String []) k T.String e
form_zero_has ts z n k (T.Enum i c) e r h = of_form ts (W.Member i 0) k (T.Enum i c) e ∙ both _ _ (same_nat i i refl) r
form_zero_has ts z n k (T.List t) e r h = of_form ts (W.List []) k (T.List t) e
form_zero_has ts z n k (T.Vector c t) e r h =
    of_form ts (W.Vector (replicate c (z t))) k (T.Vector c t) e
    ∙ both _ _ (same_nat _ _ (length_asked ts c (z t))) (all_asked ts c (z t) t (h t (is_below t n (right_of (nat_le c 4096) (nat_lt t n) r))))
form_zero_has ts z n k (T.Tuple us) e r h = of_form ts (W.Tuple (map z us)) k (T.Tuple us) e ∙ each_zero ts z n us 0 r h
form_zero_has ts z n k (T.Struct i us) e r h =
    of_form ts (W.Struct i (map z us)) k (T.Struct i us) e ∙ both _ _ (same_nat i i refl) (each_zero ts z n us 0 r h)
form_zero_has ts z n k (T.Union i []) e r h = cc
form_zero_has ts z n k (T.Union i (u ∷ us)) e r h =
    of_form ts (W.Union i 0 (z u)) k (T.Union i (u ∷ us)) e
    ∙ both _ _ (same_nat i i refl) (h u (is_below u n (left_of (nat_lt u n) (each (before n) 1 us)
    (right_of (nat_lt 0 (length (u ∷ us))) (each (before n) 0 (u ∷ us)) r))))

some_at : (ts : List ValueType) (k : ℕ) → k < length ts → slice_get ts k ≡ None → ⊥
some_at [] k l e = absurd (omega (arith, l))
some_at (t ∷ ts) zero l e = cc
some_at (t ∷ ts) (suc k) l e = some_at ts k (omega (arith, l)) e

zero_found : (ts : List ValueType) → each typ_right 0 ts ≡ true → (d k : ℕ) (o : Option ValueType) → slice_get ts k ≡ o → k < length ts
    → ((j : ℕ) → j < k → has ts (zero_within ts d j) j ≡ true) → has ts (zero_form (zero_within ts d) o) k ≡ true
zero_found ts r d k None e l h = absurd (some_at ts k l e)
zero_found ts r d k (Some t) e l h = form_zero_has ts (zero_within ts d) k k t e (each_of typ_right ts k t r e) h

within_has : (ts : List ValueType) → each typ_right 0 ts ≡ true → (d k : ℕ) → k < d → k < length ts → has ts (zero_within ts d k) k ≡ true
within_has ts r zero k s l = absurd (omega (arith, s))
within_has ts r (suc d) k s l =
    zero_found ts r d k (slice_get ts k) refl l (λ j b. within_has ts r d j (omega (arith, b, s)) (omega (arith, b, l)))

pub zero_has : (ts : List ValueType) → each typ_right 0 ts ≡ true → (k : ℕ) → k < length ts → has ts (zero_of ts k) k ≡ true
zero_has ts r k l = within_has ts r (length ts) k l l

fit_by : (ts : List ValueType) → each typ_right 0 ts ≡ true → (k : ℕ) → k < length ts → (v : Value) (b : Bool) → has ts v k ≡ b
    → has ts (cond b v (zero_of ts k)) k ≡ true
fit_by ts r k l v true e = e
fit_by ts r k l v false e = zero_has ts r k l

pub fit_has : (ts : List ValueType) → each typ_right 0 ts ≡ true → (k : ℕ) → k < length ts → (v : Value) → has ts (fit ts k v) k ≡ true
fit_has ts r k l v = fit_by ts r k l v (has ts v k) refl
