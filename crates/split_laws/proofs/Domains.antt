-- The number of a variable is among those that it takes, where the conditions that tell them are true.
use Rattle.std.proofs.Common.{◌≡◌, ◌∙◌, ap, sym, refl, subst, ℕ, zero, suc, Bool, true, false, ◌&&◌, List, [], ◌∷◌, ◌++◌, map, pos, arith}
use Rattle.std.proofs.Common.{◌⊎◌, inl, inr}
use Rattle.std.specs.Prelude.{ℤ, ◌+ℤ◌, ◌≤ℤ◌, int_le, int_lt, nat_lt, length, Option, Some, None, if◌then◌else◌}
use Rattle.std.specs.List.{list_all, list_any}
use Rattle.std.specs.Ordering.{int_eq}
use Rattle.std.proofs.lemmas.Bool.{and_parts}
use Rattle.std.proofs.lemmas.Bool.Decides.{Decides-int_eq}
use Rattle.std.proofs.lemmas.Int.{ints}
use Rattle.sail_types.specs.Numbers.{Assignment, Positive, compares, form_true, number, true_in}
use Rattle.sail_types.specs.Places.{first, is_variable}
use Rattle.sail_types.specs.Readings.{behind}
use Rattle.sail_types.specs.declared.numbers.Comparison.{Comparison}
use Rattle.sail_types.specs.declared.numbers.Comparison.TheVariants as Is
use Rattle.sail_types.specs.declared.numbers.Con.{Con, Con-F, out-Con, fold-roll-Con, map-Con}
use Rattle.sail_types.specs.declared.numbers.Con.TheOpen as E
use Rattle.sail_types.specs.declared.numbers.Con.TheViews.{roll-out-Con}
use Rattle.sail_types.proofs.SumNumbers.{some_same}
use Rattle.size_values.specs.declared.constants.Constant.{Constant}
use Rattle.size_values.specs.Numbers.{number_in}
use Rattle.size_splits.specs.Splits.{at_most_64, constant_number, domain, domain_at, few_from, first_set, is_at_most, lower_end, names_it}
use Rattle.size_splits.specs.Splits.{once_more, one_more, range_between, range_of, set_in, set_of, up_to, upper_end}
use Rattle.value_laws.specs.Belonging.{Integers, standing}
use Rattle.value_laws.specs.Known.{AllTrue}
use Rattle.value_laws.proofs.Basics.{no}
use Rattle.call_fits.proofs.Variables.{number_is}
use Rattle.split_laws.specs.Counted.{IsIn}
use Rattle.split_laws.proofs.Basics.{either, in_back, in_front, none, or_cases}
use Rattle.split_laws.proofs.Values.{value_is}

-- ---- options

if_some : {A : Type 0} (b : Bool) (o : Option A) (x : A) → (if b then o else None) ≡ Some x → (b ≡ true) × (o ≡ Some x)
if_some true o x h = (refl, h)
if_some false o x h = none h

first_of_both : {A : Type 0} (o p : Option A) (x : A) → first o p ≡ Some x → (o ≡ Some x) ⊎ (p ≡ Some x)
first_of_both None p x h = inr h
first_of_both (Some y) p x h = inl h

behind_one : (x : ℤ) (o : Option (List ℤ)) (zs : List ℤ) → behind (x ∷ []) o ≡ Some zs → (ws : List ℤ) × (o ≡ Some ws) × (x ∷ ws ≡ zs)
behind_one x None zs h = none h
behind_one x (Some ws) zs h = (ws, refl, some_same (x ∷ ws) zs h)

-- ---- ranges

pub le_true : (x y : ℤ) → int_le x y ≡ true → x ≤ℤ y
le_true x y h = omega (arith, ints, h)

by_order : (w x : ℤ) (b : Bool) → int_lt x w ≡ b → x ≤ℤ w → (w ≡ x) ⊎ ((x +ℤ pos 1) ≤ℤ w)
by_order w x true e h = inr (omega (arith, ints, e, h))
by_order w x false e h = inl (omega (arith, ints, e, h))

here_or_more : (w x : ℤ) (ws : List ℤ) → (w ≡ x) ⊎ ((x +ℤ pos 1) ≤ℤ w) → ((x +ℤ pos 1) ≤ℤ w → IsIn w ws) → IsIn w (x ∷ ws)
here_or_more w x ws (inl e) h = inl e
here_or_more w x ws (inr k) h = inr (h k)

one_up : (w x y : ℤ) (zs : List ℤ) (b : Bool) (o : Option (List ℤ)) → int_lt x y ≡ b
    → (if b then behind (x ∷ []) o else Some (x ∷ [])) ≡ Some zs → x ≤ℤ w → w ≤ℤ y
    → ((ws : List ℤ) → o ≡ Some ws → (x +ℤ pos 1) ≤ℤ w → IsIn w ws) → IsIn w zs
one_up w x y zs true o e h low high more =
    let found = behind_one x o zs h in
    subst (λ (l : List ℤ). IsIn w l) found.2 (here_or_more w x found.0 (by_order w x (int_lt x w) refl low) (λ k. more found.0 found.1 k))
one_up w x y zs false o e h low high more =
    let same : w ≡ x = omega (arith, ints, e, low, high) in
    subst (λ (l : List ℤ). IsIn w l) (some_same (x ∷ []) zs h) (inl same)

up_has : (w : ℤ) (n : ℕ) (x y : ℤ) (zs : List ℤ) → up_to n x y ≡ Some zs → x ≤ℤ w → w ≤ℤ y → IsIn w zs
unfolding up_to
up_has w zero x y zs h low high = none h
up_has w (suc n) x y zs h low high =
    one_up w x y zs (int_lt x y) (up_to n (x +ℤ pos 1) y) refl h low high (λ ws e k. up_has w n (x +ℤ pos 1) y ws e k high)

few_has : (w x y : ℤ) (zs : List ℤ) → few_from x y ≡ Some zs → x ≤ℤ w → w ≤ℤ y → IsIn w zs
unfolding few_from
few_has w x y zs h low high = up_has w 64 x y zs h low high

between_has : (w : ℤ) (o p : Option ℤ) (zs : List ℤ) → range_between o p ≡ Some zs → ((x : ℤ) → o ≡ Some x → x ≤ℤ w)
    → ((y : ℤ) → p ≡ Some y → w ≤ℤ y) → IsIn w zs
between_has w None p zs h low high = none h
between_has w (Some x) None zs h low high = none h
between_has w (Some x) (Some y) zs h low high = few_has w x y zs h (low x refl) (high y refl)

-- ---- sets

any_in : (w : ℤ) (zs : List ℤ) → list_any (int_eq w) zs ≡ true → IsIn w zs
any_in w [] h = no h
any_in w (z ∷ zs) h =
    either (or_cases (int_eq w z) (list_any (int_eq w) zs) h) (λ e. inl ((Decides-int_eq w z).0 e)) (λ e. inr (any_in w zs e))

kept_where : (b : Bool) (w z : ℤ) (seen : List ℤ) → IsIn w seen → IsIn w (if b then seen else seen ++ z ∷ [])
kept_where true w z seen h = h
kept_where false w z seen h = in_front w seen (z ∷ []) h

new_where : (b : Bool) (w z : ℤ) (seen : List ℤ) → (b ≡ true → IsIn z seen) → w ≡ z → IsIn w (if b then seen else seen ++ z ∷ [])
new_where true w z seen h e = subst (λ (x : ℤ). IsIn x seen) (sym e) (h refl)
new_where false w z seen h e = in_back w seen (z ∷ []) (inl e)

once_kept : (w : ℤ) (seen zs : List ℤ) → IsIn w seen → IsIn w (once_more seen zs)
once_kept w seen [] h = h
once_kept w seen (z ∷ zs) h = once_kept w (one_more seen z) zs (kept_where (list_any (int_eq z) seen) w z seen h)

once_has : (w : ℤ) (seen zs : List ℤ) → IsIn w zs → IsIn w (once_more seen zs)
once_has w seen [] h = absurd h
once_has w seen (z ∷ zs) (inl e) = once_kept w (one_more seen z) zs (new_where (list_any (int_eq z) seen) w z seen (any_in z seen) e)
once_has w seen (z ∷ zs) (inr h) = once_has w (one_more seen z) zs h

few_are : (zs ws : List ℤ) → at_most_64 zs ≡ Some ws → zs ≡ ws
few_are zs ws h = some_same zs ws (if_some (nat_lt (length zs) 65) (Some zs) ws h).1

-- ---- by what is true

compared_low : (how : Comparison) (a b x w : ℤ) → is_at_most how ≡ true → a ≡ x → b ≡ w → compares how a b ≡ true → x ≤ℤ w
compared_low Is.Less a b x w h e g k = no h
compared_low Is.LessEqual a b x w h e g k = let m : a ≤ℤ b = le_true a b k in omega (arith, ints, m, e, g)
compared_low Is.Equal a b x w h e g k = no h
compared_low Is.NotEqual a b x w h e g k = no h
compared_low Is.GreaterEqual a b x w h e g k = no h
compared_low Is.Greater a b x w h e g k = no h

module _ (past : Positive) (f : Integers) (of : ℕ → Constant) (agrees : (v : ℕ) (z : ℤ) → number_in (of v) ≡ Some z → f v ≡ z) where
  abbrev mu : Assignment
  mu = standing past f

  true_out : (c : Con) → true_in mu c ≡ true → form_true mu (map-Con Con Bool (true_in mu) (out-Con c)) ≡ true
  true_out c h = sym (fold-roll-Con Bool (form_true mu) (out-Con c)) ∙ (ap (true_in mu) (roll-out-Con c) ∙ h)

  module _ (v : ℕ) where
    set_in_has : (y : Con-F Con) (zs : List ℤ) → form_true mu (map-Con Con Bool (true_in mu) y) ≡ true → set_in v y ≡ Some zs → IsIn (f v) zs
    set_in_has (E.Truth b) zs h e = none e
    set_in_has (E.Holds p) zs h e = none e
    set_in_has (E.Compare how t u) zs h e = none e
    set_in_has (E.OneOf t us) zs h e =
        let found = if_some (is_variable v t) (at_most_64 (once_more [] us)) zs e in
        let one : list_any (int_eq (f v)) us ≡ true = ap (λ (x : ℤ). list_any (int_eq x) us) (sym (number_is mu t v found.0)) ∙ h in
        subst (λ (l : List ℤ). IsIn (f v) l) (few_are (once_more [] us) zs found.1) (once_has (f v) [] us (any_in (f v) us one))
    set_in_has (E.Not y) zs h e = none e
    set_in_has (E.All ys) zs h e = none e
    set_in_has (E.Any ys) zs h e = none e

    first_set_has : (ds : List Con) (zs : List ℤ) → list_all (λ b. b) (map (true_in mu) ds) ≡ true → first_set v ds ≡ Some zs → IsIn (f v) zs
    first_set_has [] zs h e = none e
    first_set_has (d ∷ ds) zs h e =
        let both = and_parts (true_in mu d) (list_all (λ b. b) (map (true_in mu) ds)) h in
        either (first_of_both (set_in v (out-Con d)) (first_set v ds) zs e) (λ a. set_in_has (out-Con d) zs (true_out d both.0) a)
        (λ a. first_set_has ds zs both.1 a)

    set_has : (y : Con-F Con) (zs : List ℤ) → form_true mu (map-Con Con Bool (true_in mu) y) ≡ true → set_of v y ≡ Some zs → IsIn (f v) zs
    set_has (E.Truth b) zs h e = none e
    set_has (E.Holds p) zs h e = none e
    set_has (E.Compare how t u) zs h e = none e
    set_has (E.OneOf t us) zs h e = set_in_has (E.OneOf t us) zs h e
    set_has (E.Not y) zs h e = none e
    set_has (E.All ys) zs h e = first_set_has ys zs h e
    set_has (E.Any ys) zs h e = none e

    lower_has : (y : Con-F Con) (x : ℤ) → form_true mu (map-Con Con Bool (true_in mu) y) ≡ true → lower_end of v y ≡ Some x → x ≤ℤ f v
    lower_has (E.Truth b) x h e = none e
    lower_has (E.Holds p) x h e = none e
    lower_has (E.Compare how low t) x h e =
        let found = if_some (is_at_most how && is_variable v t) (constant_number of low) x e in
        let both = and_parts (is_at_most how) (is_variable v t) found.0 in
        compared_low how (number mu low) (number mu t) x (f v) both.0 (value_is past f of agrees low x found.1) (number_is mu t v both.1) h
    lower_has (E.OneOf t us) x h e = none e
    lower_has (E.Not y) x h e = none e
    lower_has (E.All ys) x h e = none e
    lower_has (E.Any ys) x h e = none e

    upper_has : (y : Con-F Con) (x : ℤ) → form_true mu (map-Con Con Bool (true_in mu) y) ≡ true → upper_end of v y ≡ Some x → f v ≤ℤ x
    upper_has (E.Truth b) x h e = none e
    upper_has (E.Holds p) x h e = none e
    upper_has (E.Compare how t high) x h e =
        let found = if_some (is_at_most how && is_variable v t) (constant_number of high) x e in
        let both = and_parts (is_at_most how) (is_variable v t) found.0 in
        compared_low how (number mu t) (number mu high) (f v) x both.0 (number_is mu t v both.1) (value_is past f of agrees high x found.1) h
    upper_has (E.OneOf t us) x h e = none e
    upper_has (E.Not y) x h e = none e
    upper_has (E.All ys) x h e = none e
    upper_has (E.Any ys) x h e = none e

    range_has : (c : Con) (ds : List Con) (zs : List ℤ) → true_in mu c ≡ true → AllTrue mu ds → range_of of v c ds ≡ Some zs → IsIn (f v) zs
    range_has c [] zs h hs e = none e
    range_has c (d ∷ ds) zs h hs e =
        between_has (f v) (lower_end of v (out-Con c)) (upper_end of v (out-Con d)) zs e (λ x a. lower_has (out-Con c) x (true_out c h) a)
        (λ x a. upper_has (out-Con d) x (true_out d (hs.0)) a)

    named_has : (b : Bool) (c : Con) (cs : List Con) (zs : List ℤ) → AllTrue mu (c ∷ cs)
        → (if b then domain_at of v c cs else domain of v cs) ≡ Some zs → (domain of v cs ≡ Some zs → IsIn (f v) zs) → IsIn (f v) zs
    named_has true c cs zs h e more =
        either (first_of_both (set_of v (out-Con c)) (range_of of v c cs) zs e) (λ a. set_has (out-Con c) zs (true_out c (h.0)) a)
        (λ a. range_has c cs zs (h.0) (h.1) a)
    named_has false c cs zs h e more = more e

    pub domain_has : (cs : List Con) (zs : List ℤ) → AllTrue mu cs → domain of v cs ≡ Some zs → IsIn (f v) zs
    domain_has [] zs h e = none e
    domain_has (c ∷ cs) zs h e = named_has (names_it v c) c cs zs h e (λ a. domain_has cs zs (h.1) a)
