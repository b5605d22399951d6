-- Rows at a point, with the variables from some on: those that elimination leaves out say no more than those that it keeps.
use Rattle.std.proofs.Common.{◌≡◌, ℕ, zero, suc, ◌+◌, Bool, true, false, List, [], ◌∷◌, ◌++◌, map, drop, get_or, set, length}
use Rattle.std.proofs.Common.{sym, ap, ◌∙◌, subst, refl, arith, ℤ, pos, ◌+ℤ◌, ◌-ℤ◌, ◌*ℤ◌, ◌≤ℤ◌, ◌<ℤ◌, unsigned_abs}
use Rattle.std.specs.Prelude.{int_lt, int_div, int_rem, if◌then◌else◌, nat_lt}
use Rattle.std.specs.List.{fold, list_all}
use Rattle.std.proofs.lemmas.Int.{ints}
use Rattle.std.proofs.lemmas.Bool.{and_parts, cond_both, eqb-true}
use Rattle.std.proofs.Math.IntN.{*ℤ_comm, *ℤ-zero, zero-*ℤ, +ℤ_idl}
use Rattle.linear.specs.declared.row.Row.{Row}
use Rattle.linear.specs.Numbers.{is_zero, scaled, divided, are_multiples}
use Rattle.linear.specs.Rows.{added, is_constant, are_same, quotient_row, numbers_of, divisor_of, reduced}
use Rattle.linear.specs.laws.Integers.{times_sum, times_assoc, sum_times, times_order}
use Rattle.linear.specs.laws.Divisors.{divisor_positive, row_multiples}
use Rattle.linear.specs.laws.Totals.{exact}
use Rattle.farkas.specs.declared.keeping.Fate.{Fate}
use Rattle.farkas.specs.declared.keeping.Fate.TheVariants.{Closes, Drops, Replaces, Joins}
use Rattle.farkas.specs.declared.keeping.Starts.{Starts}
use Rattle.farkas.specs.declared.keeping.Starts.TheVariants.{Kept, Contradiction, TooMany}
use Rattle.farkas.specs.Keeping.{against, fate, settled, started, most_rows}
use Rattle.farkas.proofs.Goings.{fold_stays}
use Rattle.farkas.proofs.PointNumbers.{swap, weak}

-- the sum of coefficients, each times its value
abbrev pub dot : List ℤ → List ℤ → ℤ
dot [] vs = pos 0
dot (a ∷ xs) [] = pos 0
dot (a ∷ xs) (v ∷ vs) = (a *ℤ v) +ℤ dot xs vs

swapped : (a b c d : ℤ) → (a +ℤ b) +ℤ (c +ℤ d) ≡ (a +ℤ c) +ℤ (b +ℤ d)
swapped a b c d = omega (arith, ints)

nothing_more : (z : ℤ) → z ≡ z +ℤ pos 0
nothing_more z = omega (arith, ints)

nothing_before : (z : ℤ) → z ≡ pos 0 +ℤ z
nothing_before z = omega (arith, ints)

pub dot_scaled : (m : ℤ) (xs vs : List ℤ) → dot (scaled m xs) vs ≡ m *ℤ dot xs vs
dot_scaled m [] vs = sym (*ℤ-zero m)
dot_scaled m (x ∷ xs) [] = sym (*ℤ-zero m)
dot_scaled m (x ∷ xs) (v ∷ vs) = (λ j. times_assoc m x v j +ℤ dot_scaled m xs vs j) ∙ sym (times_sum m (x *ℤ v) (dot xs vs))

pub dot_added : (xs ys vs : List ℤ) → dot (added xs ys) vs ≡ dot xs vs +ℤ dot ys vs
dot_added [] ys vs = nothing_before (dot ys vs)
dot_added (x ∷ xs) [] vs = nothing_more (dot (x ∷ xs) vs)
dot_added (x ∷ xs) (y ∷ ys) [] = nothing_more (pos 0)
dot_added (x ∷ xs) (y ∷ ys) (v ∷ vs) = (λ j. sum_times x y v j +ℤ dot_added xs ys vs j) ∙ swapped (x *ℤ v) (y *ℤ v) (dot xs vs) (dot ys vs)

pub dot_values : (k : ℤ) (xs vs : List ℤ) → dot xs (scaled k vs) ≡ k *ℤ dot xs vs
dot_values k [] vs = sym (*ℤ-zero k)
dot_values k (x ∷ xs) [] = sym (*ℤ-zero k)
dot_values k (x ∷ xs) (v ∷ vs) = (λ j. swap x k v j +ℤ dot_values k xs vs j) ∙ sym (times_sum k (x *ℤ v) (dot xs vs))

dot_divided : (d : ℤ) (xs vs : List ℤ) → are_multiples d xs ≡ true → dot xs vs ≡ d *ℤ dot (divided d xs) vs
dot_divided d [] vs h = sym (*ℤ-zero d)
dot_divided d (x ∷ xs) [] h = sym (*ℤ-zero d)
dot_divided d (x ∷ xs) (v ∷ vs) h =
    let p = and_parts (is_zero (int_rem x d)) (are_multiples d xs) h in
    (λ j. (exact x d p.0 j *ℤ v) +ℤ dot_divided d xs vs p.1 j)
    ∙ ((λ j. times_assoc d (int_div x d) v j +ℤ (d *ℤ dot (divided d xs) vs))
    ∙ sym (times_sum d (int_div x d *ℤ v) (dot (divided d xs) vs)))

none : (z : ℤ) → is_zero z ≡ true → z ≡ pos 0
none z h = omega (arith, ints, eqb-true (unsigned_abs z) 0 h)

pub dot_zeros : (xs vs : List ℤ) → list_all is_zero xs ≡ true → dot xs vs ≡ pos 0
dot_zeros [] vs h = refl
dot_zeros (x ∷ xs) [] h = refl
dot_zeros (x ∷ xs) (v ∷ vs) h =
    let p = and_parts (is_zero x) (list_all is_zero xs) h in
    (λ j. (none x p.0 j *ℤ v) +ℤ dot_zeros xs vs p.1 j) ∙ (ap (λ z. z +ℤ pos 0) (zero-*ℤ v) ∙ +ℤ_idl (pos 0))

equal_numbers : (x y : ℤ) → is_zero (x -ℤ y) ≡ true → x ≡ y
equal_numbers x y h = let e : x -ℤ y ≡ pos 0 = none (x -ℤ y) h in omega (arith, ints)

dot_same : (xs ys vs : List ℤ) → are_same xs ys ≡ true → dot xs vs ≡ dot ys vs
dot_same [] ys vs h = sym (dot_zeros ys vs h)
dot_same (x ∷ xs) [] vs h = dot_zeros (x ∷ xs) vs h
dot_same (x ∷ xs) (y ∷ ys) [] h = refl
dot_same (x ∷ xs) (y ∷ ys) (v ∷ vs) h =
    let p = and_parts (is_zero (x -ℤ y)) (are_same xs ys) h in
    λ j. (equal_numbers x y p.0 j *ℤ v) +ℤ dot_same xs ys vs p.1 j

-- ---- without the first variables

pub drop_mapped : (f : ℤ → ℤ) (i : ℕ) (xs : List ℤ) → drop i (map f xs) ≡ map f (drop i xs)
drop_mapped f zero xs = refl
drop_mapped f (suc i) [] = refl
drop_mapped f (suc i) (x ∷ xs) = drop_mapped f i xs

drop_none : (i : ℕ) → drop {A = ℤ} i [] ≡ []
drop_none zero = refl
drop_none (suc i) = refl

pub drop_added : (i : ℕ) (xs ys : List ℤ) → drop i (added xs ys) ≡ added (drop i xs) (drop i ys)
drop_added zero xs ys = refl
drop_added (suc i) [] ys = refl
drop_added (suc i) (x ∷ xs) [] = front i xs
  where
    front : (i : ℕ) (xs : List ℤ) → drop i xs ≡ added (drop i xs) []
    front zero [] = refl
    front zero (x ∷ xs) = refl
    front (suc i) [] = refl
    front (suc i) (x ∷ xs) = front i xs
drop_added (suc i) (x ∷ xs) (y ∷ ys) = drop_added i xs ys

drop_all : (p : ℤ → Bool) (i : ℕ) (xs : List ℤ) → list_all p xs ≡ true → list_all p (drop i xs) ≡ true
drop_all p zero xs h = h
drop_all p (suc i) [] h = refl
drop_all p (suc i) (x ∷ xs) h = drop_all p i xs (and_parts (p x) (list_all p xs) h).1

zeros_same : (xs : List ℤ) → list_all is_zero xs ≡ true → are_same xs [] ≡ true
zeros_same [] h = refl
zeros_same (x ∷ xs) h = h

drop_same : (i : ℕ) (xs ys : List ℤ) → are_same xs ys ≡ true → are_same (drop i xs) (drop i ys) ≡ true
drop_same zero xs ys h = h
drop_same (suc i) [] ys h = drop_all is_zero (suc i) ys h
drop_same (suc i) (x ∷ xs) [] h = zeros_same (drop i xs) (drop_all is_zero i xs (and_parts (is_zero x) (list_all is_zero xs) h).1)
drop_same (suc i) (x ∷ xs) (y ∷ ys) h = drop_same i xs ys (and_parts (is_zero (x -ℤ y)) (are_same xs ys) h).1

-- the first of them apart
pub dot_first : (i : ℕ) (xs : List ℤ) (v : ℤ) (vs : List ℤ) → dot (drop i xs) (v ∷ vs) ≡ (get_or xs i (pos 0) *ℤ v) +ℤ dot (drop (suc i) xs) vs
dot_first zero [] v vs = sym (ap (λ z. z +ℤ pos 0) (zero-*ℤ v) ∙ +ℤ_idl (pos 0))
dot_first zero (x ∷ xs) v vs = refl
dot_first (suc i) [] v vs = sym (ap (λ z. z +ℤ pos 0) (zero-*ℤ v) ∙ +ℤ_idl (pos 0))
dot_first (suc i) (x ∷ xs) v vs = dot_first i xs v vs

at_most : (a b c : ℤ) → a ≡ b → b ≤ℤ c → a ≤ℤ c
at_most a b c e h = omega (arith, ints)

over : (a b c : ℤ) → a ≤ℤ b → b ≡ c → a ≤ℤ c
over a b c h e = omega (arith, ints)

wider : (a b c : ℤ) → a ≤ℤ b → b ≤ℤ c → a ≤ℤ c
wider a b c h k = omega (arith, ints)

lesser : (a b : ℤ) → int_lt a b ≡ true → a ≤ℤ b
lesser a b h = omega (arith, ints)

not_lesser : (a b : ℤ) → int_lt a b ≡ false → b ≤ℤ a
not_lesser a b h = omega (arith, ints)

module _ (i : ℕ) (den : ℤ) (vs : List ℤ) where
  -- a row holds, as far as the variables from i on go
  abbrev pub Holds : Row → Type 0
  Holds row = dot (drop i row.coefficients) vs ≤ℤ (row.bound *ℤ den)

  abbrev pub HoldAll : List Row → Type 0
  HoldAll [] = Unit {0}
  HoldAll (row ∷ rows) = Holds row × HoldAll rows

  quotient_back : (d : ℤ) (row : Row) → pos 0 <ℤ d → are_multiples d (numbers_of row) ≡ true → Holds (quotient_row d row) → Holds row
  quotient_back d row h multiples p =
      let parts = and_parts (is_zero (int_rem row.bound d)) (are_multiples d row.coefficients) multiples in
      at_most _ _ _
      (dot_divided d (drop i row.coefficients) vs (drop_all (λ x. is_zero (int_rem x d)) i row.coefficients parts.1)
      ∙ ap (λ xs. d *ℤ dot xs vs) (sym (drop_mapped (λ x. int_div x d) i row.coefficients)))
      (over _ _ _ (times_order d _ _ (weak d h) p) (sym (times_assoc d (int_div row.bound d) den) ∙ ap (λ z. z *ℤ den) (sym (exact row.bound d parts.0))))

  -- a row holds where it does, divided
  pub reduced_back : (row : Row) → Holds (reduced row) → Holds row
  reduced_back row =
      cond_both (is_zero (divisor_of row)) row (quotient_row (divisor_of row) row) (λ r. Holds r → Holds row)
      (λ h p. p)
      (λ h p. quotient_back (divisor_of row) row (divisor_positive row h) (row_multiples row) p)

  pub push_back : (kept : List Row) (row : Row) → HoldAll (kept ++ row ∷ []) → HoldAll kept × Holds row
  push_back [] row h = (tt, h.0)
  push_back (first ∷ kept) row h = let rest = push_back kept row h.1 in ((h.0, rest.0), rest.1)

  module _ (positive : pos 0 <ℤ den) where
    wider_bound : (a b : ℤ) → a ≤ℤ b → (a *ℤ den) ≤ℤ (b *ℤ den)
    wider_bound a b h = at_most _ _ _ (*ℤ_comm a den) (over _ _ _ (times_order den a b (weak den positive) h) (*ℤ_comm den b))

    holds_wider : (a b : Row) → are_same a.coefficients b.coefficients ≡ true → b.bound ≤ℤ a.bound → Holds b → Holds a
    holds_wider a b same h p = wider _ _ _ (at_most _ _ _ (dot_same (drop i a.coefficients) (drop i b.coefficients) vs (drop_same i a.coefficients
        b.coefficients same)) p) (wider_bound b.bound a.bound h)

    holds_same : (a b : Row) → are_same a.coefficients b.coefficients ≡ true → a.bound ≤ℤ b.bound → Holds a → Holds b
    holds_same a b same h p = wider _ _ _ (at_most _ _ _ (sym (dot_same (drop i a.coefficients) (drop i b.coefficients) vs (drop_same i a.coefficients
        b.coefficients same))) p) (wider_bound a.bound b.bound h)

    -- what is kept says as much as what was kept and the row
    abbrev Back : ℕ → List Row → Row → Fate → Type 0
    Back j kept row Closes = Unit {0}
    Back j kept row Drops = HoldAll kept → Holds row
    Back j kept row (Replaces k) = (m : ℕ) × (k ≡ j + m) × (HoldAll (set kept m row) → HoldAll kept × Holds row)
    Back j kept row Joins = Unit {0}

    later_back : (j : ℕ) (x : Row) (xs : List Row) (row : Row) (f : Fate) → Back (suc j) xs row f → Back j (x ∷ xs) row f
    later_back j x xs row Closes b = tt
    later_back j x xs row Drops b = λ h. b h.1
    later_back j x xs row (Replaces k) b = (suc b.0, (let e = b.1 in omega arith), λ h. let r = b.2 h.1 in ((h.0, r.0), r.1))
    later_back j x xs row Joins b = tt

    step : (row : Row) (j : ℕ) (x : Row) (xs : List Row) (t u : Bool) → are_same x.coefficients row.coefficients ≡ t → int_lt row.bound x.bound ≡ u →
        Back (suc j) xs row (against row (suc j) xs) → Back j (x ∷ xs) row (if t then (if u then Replaces j else Drops) else against row (suc j) xs)
    step row j x xs true true same less b =
        (0, (omega arith), λ h. ((holds_wider x row same (lesser row.bound x.bound less) h.0, h.1), h.0))
    step row j x xs true false same less b = λ h. holds_same x row same (not_lesser row.bound x.bound less) h.0
    step row j x xs false u same less b = later_back j x xs row (against row (suc j) xs) b

    against_back : (row : Row) (j : ℕ) (kept : List Row) → Back j kept row (against row j kept)
    against_back row j [] = tt
    against_back row j (x ∷ xs) = step row j x xs (are_same x.coefficients row.coefficients) (int_lt row.bound x.bound) refl refl
        (against_back row (suc j) xs)

    holds_constant : (row : Row) → is_constant row ≡ true → int_lt row.bound (pos 0) ≡ false → Holds row
    holds_constant row zeros h =
        at_most _ _ _ (dot_zeros (drop i row.coefficients) vs (drop_all is_zero i row.coefficients zeros) ∙ sym (zero-*ℤ den))
        (wider_bound (pos 0) row.bound (not_lesser row.bound (pos 0) h))

    constant_back : (kept : List Row) (row : Row) (t u : Bool) → is_constant row ≡ t → int_lt row.bound (pos 0) ≡ u →
        Back 0 kept row (if t then (if u then Closes else Drops) else against row 0 kept)
    constant_back kept row true true e h = tt
    constant_back kept row true false e h = λ all. holds_constant row e h
    constant_back kept row false u e h = against_back row 0 kept

    fate_back : (kept : List Row) (row : Row) → Back 0 kept row (fate kept row)
    fate_back kept row = constant_back kept row (is_constant row) (int_lt row.bound (pos 0)) refl refl

    -- the rows after one with this fate
    abbrev pub after : List Row → Row → Fate → List Row
    after kept row Closes = kept ++ row ∷ []
    after kept row Drops = kept
    after kept row (Replaces k) = set kept k row
    after kept row Joins = kept ++ row ∷ []

    settle : (kept : List Row) (row : Row) (f : Fate) → Back 0 kept row f → HoldAll (after kept row f) → HoldAll kept × Holds row
    settle kept row Closes b h = push_back kept row h
    settle kept row Drops b h = (h, b h)
    settle kept row (Replaces k) b h = b.2 (subst (λ m. HoldAll (set kept m row)) (let e = b.1 in omega arith) h)
    settle kept row Joins b h = push_back kept row h

    pub settle_back : (kept : List Row) (row : Row) (f : Fate) → f ≡ fate kept (reduced row) → HoldAll (after kept (reduced row) f) →
        HoldAll kept × Holds row
    settle_back kept row f e h =
        let r = settle kept (reduced row) f (subst (Back 0 kept (reduced row)) (sym e) (fate_back kept (reduced row))) h in
        (r.0, reduced_back row r.1)

    -- ---- the rows that are kept of a case

    joins_back : (kept : List Row) (row : Row) (t : Bool) (more : List Row) → (if t then Kept (kept ++ row ∷ []) else TooMany) ≡ Kept more →
        kept ++ row ∷ [] ≡ more
    joins_back kept row true more e = cc
    joins_back kept row false more e = absurd (cc)

    settled_is : (kept : List Row) (row : Row) (f : Fate) (more : List Row) → settled kept row f ≡ Kept more → after kept row f ≡ more
    settled_is kept row Closes more e = absurd (cc)
    settled_is kept row Drops more e = cc
    settled_is kept row (Replaces k) more e = cc
    settled_is kept row Joins more e = joins_back kept row (nat_lt (length kept) most_rows) more e

    one_back : (row : Row) (rows kept more : List Row) (s : Starts) → ((next : List Row) → fold started (Kept next) rows ≡ Kept more → HoldAll more →
        HoldAll next × HoldAll rows) → started (Kept kept) row ≡ s → fold started s rows ≡ Kept more → HoldAll more → HoldAll kept × HoldAll (row ∷ rows)
    one_back row rows kept more (Kept next) later e f h =
        let rest = later next f h in
        let first = settle_back kept row (fate kept (reduced row)) refl (subst HoldAll (sym (settled_is kept (reduced row) (fate kept
        (reduced row)) next e)) rest.0) in
        (first.0, (first.1, rest.1))
    one_back row rows kept more (Contradiction next) later e f h = absurd (let g : Contradiction next ≡ Kept more = sym (fold_stays started
        (Contradiction next) (λ x. refl) rows) ∙ f in cc)
    one_back row rows kept more TooMany later e f h =
        absurd (let g : TooMany ≡ Kept more = sym (fold_stays started TooMany (λ x. refl) rows) ∙ f in cc)

    pub starts_back : (rows kept more : List Row) → fold started (Kept kept) rows ≡ Kept more → HoldAll more → HoldAll kept × HoldAll rows
    starts_back [] kept more e h = (subst HoldAll (let same : more ≡ kept = cc in same) h, tt)
    starts_back (row ∷ rows) kept more e h =
        one_back row rows kept more (started (Kept kept) row) (λ next f g. starts_back rows next more f g) refl e h
