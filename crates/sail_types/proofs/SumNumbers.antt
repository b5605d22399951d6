-- Sums and substitutions keep what numbers are under an assignment.
use Rattle.std.proofs.Common.{◌≡◌, ℕ, zero, suc, ◌<◌, List, [], ◌∷◌, ◌++◌, map, length, get_or, ap, sym, ◌∙◌, refl, subst, arith, Bool}
use Rattle.std.proofs.Common.{true, false, ◌&&◌, set}
use Rattle.std.specs.Prelude.{ℤ, pos, negsuc, ◌+ℤ◌, ◌*ℤ◌, ◌-ℤ◌, Option, Some, None, cond, Decides}
use Rattle.std.specs.List.{position, remove}
use Rattle.std.specs.Ordering.{int_eq}
use Rattle.std.proofs.Math.IntN.{zero-*ℤ, *ℤ-zero}
use Rattle.std.proofs.lemmas.Int.{ints}
use Rattle.std.proofs.lemmas.Bool.Decides.{Decides-int_eq}
use Rattle.std.proofs.lemmas.List.Quantifiers.{position-Some}
use Rattle.sail_types.specs.Limits.{is_small}
use Rattle.sail_types.specs.Numbers.{Assignment, number, number_of_atom, number_of_term, total, atom_number, term_number, sum_number}
use Rattle.sail_types.specs.Sums.{num, term, terms_of, constant_of, coefficient_of, coefficient_at, atom_of, eq_atom, and_then, placed_term}
use Rattle.sail_types.specs.Sums.{with_term, merged, plus_term, plus_terms, plus_constant, plus, sum, difference}
use Rattle.sail_types.specs.declared.numbers.Num.{Num}
use Rattle.sail_types.specs.declared.numbers.Term.{Term}
use Rattle.sail_types.specs.declared.numbers.Atom.{Atom}
use Rattle.sail_types.specs.declared.numbers.Atom.TheFolds.{para-roll-Num, para-roll-Term}
use Rattle.sail_types.specs.declared.numbers.Atom.TheViews.{roll-out-Num, roll-out-Term}
use Rattle.sail_types.proofs.EqualAtoms.{eq_atom-Decides}
use Rattle.sail_types.proofs.Integers.{spread, spread_right, regroup, one_time, minus_one_time}
use Rattle.sail_types.proofs.TermSums.{at_item}

abbrev pub weights : Assignment → List Term → List ℤ
weights nu ts = map (number_of_term nu) ts

seconds : {A : Type 0} (f : A → ℤ) (ts : List A) → map (λ (t : A × ℤ). t.1) (map (λ y. (y, f y)) ts) ≡ map f ts
seconds f [] = refl
seconds f (t ∷ ts) = ap (λ zs. f t ∷ zs) (seconds f ts)

pub number_num : (nu : Assignment) (ts : List Term) (z : ℤ) → number nu (num ts z) ≡ total (weights nu ts) +ℤ z
number_num nu ts z =
    para-roll-Num ℤ ℤ ℤ (atom_number nu) sum_number (term_number) (record { terms = ts; constant = z })
    ∙ ap (λ zs. total zs +ℤ z) (seconds (number_of_term nu) ts)

pub number_parts : (nu : Assignment) (n : Num) → number nu n ≡ total (weights nu (terms_of n)) +ℤ constant_of n
number_parts nu n = ap (number nu) (sym (roll-out-Num n)) ∙ number_num nu (terms_of n) (constant_of n)

pub number_term : (nu : Assignment) (c : ℤ) (a : Atom) → number_of_term nu (term c a) ≡ c *ℤ number_of_atom nu a
number_term nu c a = para-roll-Term ℤ ℤ ℤ (atom_number nu) sum_number (term_number) (record { coefficient = c; atom = a })

pub term_parts : (nu : Assignment) (t : Term) → number_of_term nu t ≡ coefficient_of t *ℤ number_of_atom nu (atom_of t)
term_parts nu t = ap (number_of_term nu) (sym (roll-out-Term t)) ∙ number_term nu (coefficient_of t) (atom_of t)

-- ---- a list of terms with one more, one changed or one taken out

pub total_append : (xs ys : List ℤ) → total (xs ++ ys) ≡ total xs +ℤ total ys
total_append [] ys = omega (arith, ints)
total_append (x ∷ xs) ys = ap (λ z. x +ℤ z) (total_append xs ys) ∙ omega (arith, ints)

map_append : (nu : Assignment) (ts us : List Term) → weights nu (ts ++ us) ≡ weights nu ts ++ weights nu us
map_append nu [] us = refl
map_append nu (t ∷ ts) us = ap (λ zs. number_of_term nu t ∷ zs) (map_append nu ts us)

pub appended : (nu : Assignment) (ts : List Term) (t : Term) → total (weights nu (ts ++ t ∷ [])) ≡ total (weights nu ts) +ℤ number_of_term nu t
appended nu ts t = ap total (map_append nu ts (t ∷ [])) ∙ total_append (weights nu ts) (number_of_term nu t ∷ []) ∙ omega (arith, ints)

pub changed : (nu : Assignment) (ts : List Term) (i : ℕ) (d t : Term) → i < length ts
    → total (weights nu (set ts i t)) +ℤ number_of_term nu (get_or ts i d) ≡ total (weights nu ts) +ℤ number_of_term nu t
changed nu [] i d t h = absurd (omega arith)
changed nu (u ∷ ts) zero d t h = omega (arith, ints)
changed nu (u ∷ ts) (suc i) d t h =
    let k : total (weights nu (set ts i t)) +ℤ number_of_term nu (get_or ts i d)
    ≡ total (weights nu ts) +ℤ number_of_term nu t = changed nu ts i d t (omega arith) in
    omega (arith, ints, k)

pub taken : (nu : Assignment) (ts : List Term) (i : ℕ) (d : Term) → i < length ts
    → total (weights nu (remove ts i)) +ℤ number_of_term nu (get_or ts i d) ≡ total (weights nu ts)
taken nu [] i d h = absurd (omega arith)
taken nu (u ∷ ts) zero d h = omega (arith, ints)
taken nu (u ∷ ts) (suc i) d h =
    let k : total (weights nu (remove ts i)) +ℤ number_of_term nu (get_or ts i d) ≡ total (weights nu ts) = taken nu ts i d (omega arith) in
    omega (arith, ints, k)

get_again : (ts : List Term) (i : ℕ) (d : Term) → get_or ts i (get_or ts i d) ≡ get_or ts i d
get_again [] i d = refl
get_again (t ∷ ts) zero d = refl
get_again (t ∷ ts) (suc i) d = get_again ts i d

-- ---- one term more

no : {A : Type 0} → false ≡ true → A
no h = absurd (cc)

pub some_same : {A : Type 0} (x y : A) → Some x ≡ Some y → x ≡ y
some_same x y h = cc

placed_zero : (nu : Assignment) (ts : List Term) (i : ℕ) (c : ℤ) (a : Atom) (t : Term) → i < length ts → get_or ts i t ≡ t → atom_of t ≡ a
    → coefficient_of t +ℤ c ≡ pos 0 → total (weights nu (remove ts i)) ≡ total (weights nu ts) +ℤ c *ℤ number_of_atom nu a
placed_zero nu ts i c a t h is one e =
    let k : total (weights nu (remove ts i)) +ℤ number_of_term nu (get_or ts i t) ≡ total (weights nu ts) = taken nu ts i t h in
    let w : number_of_term nu (get_or ts i t) ≡ coefficient_of t *ℤ number_of_atom nu a =
    ap (number_of_term nu) is ∙ term_parts nu t ∙ ap (λ b. coefficient_of t *ℤ number_of_atom nu b) one in
    let s : coefficient_of t *ℤ number_of_atom nu a +ℤ c *ℤ number_of_atom nu a ≡ pos 0 =
    sym (spread (coefficient_of t) c (number_of_atom nu a)) ∙ ap (λ x. x *ℤ number_of_atom nu a) e ∙ zero-*ℤ (number_of_atom nu a) in
    omega (arith, ints, k, w, s)

placed_other : (nu : Assignment) (ts : List Term) (i : ℕ) (c : ℤ) (a : Atom) (t : Term) → i < length ts → get_or ts i t ≡ t → atom_of t ≡ a
    → total (weights nu (set ts i (term (coefficient_of t +ℤ c) a))) ≡ total (weights nu ts) +ℤ c *ℤ number_of_atom nu a
placed_other nu ts i c a t h is one =
    let k : total (weights nu (set ts i (term (coefficient_of t +ℤ c) a))) +ℤ number_of_term nu (get_or ts i t)
    ≡ total (weights nu ts) +ℤ number_of_term nu (term (coefficient_of t +ℤ c) a) = changed nu ts i t (term (coefficient_of t +ℤ c) a) h in
    let w : number_of_term nu (get_or ts i t) ≡ coefficient_of t *ℤ number_of_atom nu a =
    ap (number_of_term nu) is ∙ term_parts nu t ∙ ap (λ b. coefficient_of t *ℤ number_of_atom nu b) one in
    let s : number_of_term nu (term (coefficient_of t +ℤ c) a) ≡ coefficient_of t *ℤ number_of_atom nu a +ℤ c *ℤ number_of_atom nu a =
    number_term nu (coefficient_of t +ℤ c) a ∙ spread (coefficient_of t) c (number_of_atom nu a) in
    omega (arith, ints, k, w, s)

placed_by : (nu : Assignment) (ts : List Term) (i : ℕ) (c : ℤ) (a : Atom) (t : Term) (b : Bool) → i < length ts → get_or ts i t ≡ t → atom_of t ≡ a
    → Decides b (coefficient_of t +ℤ c ≡ pos 0)
    → total (weights nu (cond b (remove ts i) (set ts i (term (coefficient_of t +ℤ c) a)))) ≡ total (weights nu ts) +ℤ c *ℤ number_of_atom nu a
placed_by nu ts i c a t true h is one d = placed_zero nu ts i c a t h is one (d.0 refl)
placed_by nu ts i c a t false h is one d = placed_other nu ts i c a t h is one

with_by : (nu : Assignment) (ts us : List Term) (x : List Term) (z : ℤ) (b : Bool) → (total (weights nu x) ≡ z)
    → cond b (Some x) None ≡ Some us → total (weights nu us) ≡ z
with_by nu ts us x z true e h = ap (λ y. total (weights nu y)) (sym (some_same x us h)) ∙ e
with_by nu ts us x z false e h = absurd (cc)

merged_at : (nu : Assignment) (ts us : List Term) (c : ℤ) (a : Atom) (i : ℕ) (t : Term) → i < length ts → get_or ts i t ≡ t → atom_of t ≡ a
    → coefficient_at ts i ≡ coefficient_of t → with_term ts i (coefficient_at ts i +ℤ c) a ≡ Some us
    → total (weights nu us) ≡ total (weights nu ts) +ℤ c *ℤ number_of_atom nu a
merged_at nu ts us c a i t h is one e k =
    with_by nu ts us (placed_term ts i (coefficient_of t +ℤ c) a) _ (is_small (coefficient_of t +ℤ c))
    (placed_by nu ts i c a t (int_eq (coefficient_of t +ℤ c) (pos 0)) h is one (Decides-int_eq (coefficient_of t +ℤ c) (pos 0)))
    (subst (λ x. with_term ts i (x +ℤ c) a ≡ Some us) e k)

appended_by : (nu : Assignment) (ts us : List Term) (c : ℤ) (a : Atom) (b : Bool) → Decides b (c ≡ pos 0) → Some (cond b ts (ts ++ term c a ∷ [])) ≡ Some us
    → total (weights nu us) ≡ total (weights nu ts) +ℤ c *ℤ number_of_atom nu a
appended_by nu ts us c a true d h =
    let w : c *ℤ number_of_atom nu a ≡ pos 0 = ap (λ x. x *ℤ number_of_atom nu a) (d.0 refl) ∙ zero-*ℤ (number_of_atom nu a) in
    ap (λ y. total (weights nu y)) (sym (some_same ts us h)) ∙ omega (arith, ints, w)
appended_by nu ts us c a false d h =
    ap (λ y. total (weights nu y)) (sym (some_same (ts ++ term c a ∷ []) us h)) ∙ appended nu ts (term c a)
    ∙ ap (λ z. total (weights nu ts) +ℤ z) (number_term nu c a)

merged_by : (nu : Assignment) (ts us : List Term) (c : ℤ) (a : Atom) (o : Option ℕ) → position (λ t. eq_atom (atom_of t) a) ts ≡ o → merged ts c a o ≡ Some us
    → total (weights nu us) ≡ total (weights nu ts) +ℤ c *ℤ number_of_atom nu a
merged_by nu ts us c a None e h = appended_by nu ts us c a (int_eq c (pos 0)) (Decides-int_eq c (pos 0)) h
merged_by nu ts us c a (Some i) e h =
    let found = position-Some (λ t. eq_atom (atom_of t) a) ts i (get_or ts i (term c a)) e in
    let t : Term = get_or ts i (term c a) in
    let is : get_or ts i t ≡ t = get_again ts i (term c a) in
    merged_at nu ts us c a i t found.0 is ((eq_atom-Decides (atom_of t) a).0 (ap (λ x. eq_atom (atom_of x) a) (sym is) ∙ found.1))
    (at_item ts i t (sym is) found.0) h

guarded : {A : Type 0} (b : Bool) (o : Option A) (x : A) → cond b o None ≡ Some x → o ≡ Some x
guarded true o x h = h
guarded false o x h = absurd (cc)

pub plus_term_number : (nu : Assignment) (ts us : List Term) (c : ℤ) (a : Atom) → plus_term ts c a ≡ Some us
    → total (weights nu us) ≡ total (weights nu ts) +ℤ c *ℤ number_of_atom nu a
plus_term_number nu ts us c a h =
    merged_by nu ts us c a (position (λ t. eq_atom (atom_of t) a) ts) refl
    (guarded (is_small c) (merged ts c a (position (λ t. eq_atom (atom_of t) a) ts)) us h)

-- ---- terms, numbers

pub then_parts : {A B : Type 0} (o : Option A) (f : A → Option B) (y : B) → and_then o f ≡ Some y → (x : A) × (o ≡ Some x) × (f x ≡ Some y)
then_parts None f y h = absurd (cc)
then_parts (Some x) f y h = (x, refl, h)

pub plus_terms_number : (nu : Assignment) (times : ℤ) (us ts rs : List Term) → plus_terms times us ts ≡ Some rs
    → total (weights nu rs) ≡ total (weights nu ts) +ℤ times *ℤ total (weights nu us)
plus_terms_number nu times [] ts rs h =
    let w : times *ℤ pos 0 ≡ pos 0 = *ℤ-zero times in
    ap (λ y. total (weights nu y)) (sym (some_same ts rs h)) ∙ omega (arith, ints, w)
plus_terms_number nu times (u ∷ us) ts rs h =
    let k = then_parts (plus_term ts (times *ℤ coefficient_of u) (atom_of u)) (plus_terms times us) rs h in
    let first : total (weights nu k.0) ≡ total (weights nu ts) +ℤ times *ℤ number_of_term nu u =
    plus_term_number nu ts k.0 (times *ℤ coefficient_of u) (atom_of u) k.1
    ∙ ap (λ z. total (weights nu ts) +ℤ z) (regroup times (coefficient_of u) (number_of_atom nu (atom_of u)) ∙ ap (λ z. times *ℤ z) (sym (term_parts nu u))) in
    let rest : total (weights nu rs) ≡ total (weights nu k.0) +ℤ times *ℤ total (weights nu us) = plus_terms_number nu times us k.0 rs k.2 in
    let both : times *ℤ (number_of_term nu u +ℤ total (weights nu us)) ≡ times *ℤ number_of_term nu u +ℤ times *ℤ total (weights nu us) =
    spread_right (number_of_term nu u) (total (weights nu us)) times in
    omega (arith, ints, first, rest, both)

pub plus_constant_number : (nu : Assignment) (c : ℤ) (n m : Num) → plus_constant c n ≡ Some m → number nu m ≡ number nu n +ℤ c
plus_constant_number nu c n m h =
    let e : num (terms_of n) (constant_of n +ℤ c) ≡ m = some_same _ m (guarded (is_small c && is_small (constant_of n +ℤ c)) (Some (num
    (terms_of n) (constant_of n +ℤ c))) m h) in
    let k : number nu (num (terms_of n) (constant_of n +ℤ c))
    ≡ total (weights nu (terms_of n)) +ℤ (constant_of n +ℤ c) = number_num nu (terms_of n) (constant_of n +ℤ c) in
    let l : number nu n ≡ total (weights nu (terms_of n)) +ℤ constant_of n = number_parts nu n in
    ap (number nu) (sym e) ∙ omega (arith, ints, k, l)

pub plus_number : (nu : Assignment) (times : ℤ) (b a m : Num) → plus times b a ≡ Some m → number nu m ≡ number nu a +ℤ times *ℤ number nu b
plus_number nu times b a m h =
    let k = then_parts (plus_terms times (terms_of b) (terms_of a)) (λ ts. plus_constant (times *ℤ constant_of b) (num ts (constant_of a))) m h in
    let ts : total (weights nu k.0) ≡ total (weights nu (terms_of a)) +ℤ times *ℤ total (weights nu (terms_of b)) =
    plus_terms_number nu times (terms_of b) (terms_of a) k.0 k.1 in
    let c : number nu m ≡ number nu (num k.0 (constant_of a)) +ℤ times *ℤ constant_of b =
    plus_constant_number nu (times *ℤ constant_of b) (num k.0 (constant_of a)) m k.2 in
    let s : number nu (num k.0 (constant_of a)) ≡ total (weights nu k.0) +ℤ constant_of a = number_num nu k.0 (constant_of a) in
    let n : number nu a ≡ total (weights nu (terms_of a)) +ℤ constant_of a = number_parts nu a in
    let o : times *ℤ number nu b ≡ times *ℤ total (weights nu (terms_of b)) +ℤ times *ℤ constant_of b =
    ap (λ z. times *ℤ z) (number_parts nu b) ∙ spread_right (total (weights nu (terms_of b))) (constant_of b) times in
    omega (arith, ints, ts, c, s, n, o)

pub sum_number_is : (nu : Assignment) (a b m : Num) → sum a b ≡ Some m → number nu m ≡ number nu a +ℤ number nu b
sum_number_is nu a b m h = plus_number nu (pos 1) b a m h ∙ ap (λ z. number nu a +ℤ z) (one_time (number nu b))

pub difference_number : (nu : Assignment) (a b m : Num) → difference a b ≡ Some m → number nu m ≡ number nu a -ℤ number nu b
difference_number nu a b m h = plus_number nu (negsuc 0) b a m h ∙ ap (λ z. number nu a +ℤ z) (minus_one_time (number nu b))
