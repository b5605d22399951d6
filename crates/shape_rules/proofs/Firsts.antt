-- The first of some failures: it is found in parts, is one of them, and none of them stands before it.
use Rattle.std.proofs.Common.{◌≡◌, ℕ, ◌<◌, Bool, true, false, ◌&&◌, ◌||◌, nat_lt, nat_eq, zero, suc, length, get_or, cond, List, [], ◌∷◌, ◌++◌, refl, sym, ap, ◌∙◌, subst, arith, Option, Some, None, Contains, ◌⊎◌, inl, inr}
use Rattle.std.proofs.lemmas.Bool.Decides.{nat_tests}
use Rattle.shape_rules.specs.declared.error.ShapeError.{ShapeError}
use Rattle.shape_rules.specs.Findings.{position_of, is_less, is_before, earlier, first_failure, IsFirst}

-- failures in two lists, one after the other
pub first_failure_append : (kept : Option ShapeError) (es fs : List ShapeError)
    → first_failure kept (es ++ fs) ≡ first_failure (first_failure kept es) fs
first_failure_append kept [] fs = refl
first_failure_append kept (e ∷ es) fs = first_failure_append (earlier kept e) es fs

less_at : (x y z : ℕ) (a b c : Bool) → (a ≡ false → b ≡ false → c ≡ false)
    → (nat_lt x y || (nat_eq x y && a)) ≡ false → (nat_lt y z || (nat_eq y z && b)) ≡ false → (nat_lt x z || (nat_eq x z && c)) ≡ false
less_at x y z a b c rest h k = grind (arith, nat_tests)

-- nothing comes in between: what isn't before one that isn't before a third isn't before the third
pub not_less : (xs ys zs : List ℕ) → is_less xs ys ≡ false → is_less ys zs ≡ false → is_less xs zs ≡ false
not_less [] [] zs h k = k
not_less [] (y ∷ ys) zs h k = absurd (cc)
not_less (x ∷ xs) [] [] h k = refl
not_less (x ∷ xs) [] (z ∷ zs) h k = absurd (cc)
not_less (x ∷ xs) (y ∷ ys) [] h k = refl
not_less (x ∷ xs) (y ∷ ys) (z ∷ zs) h k = less_at x y z (is_less xs ys) (is_less ys zs) (is_less xs zs) (not_less xs ys zs) h k

turned_at : (x y : ℕ) (a b : Bool) → (a ≡ true → b ≡ false) → (nat_lt x y || (nat_eq x y && a)) ≡ true → (nat_lt y x || (nat_eq y x && b)) ≡ false
turned_at x y a b rest h = grind (arith, nat_tests)

-- of two at most one is before the other
turned : (xs ys : List ℕ) → is_less xs ys ≡ true → is_less ys xs ≡ false
turned [] [] h = refl
turned [] (y ∷ ys) h = refl
turned (x ∷ xs) [] h = absurd (cc)
turned (x ∷ xs) (y ∷ ys) h = turned_at x y (is_less xs ys) (is_less ys xs) (turned xs ys) h

equal_at : (x : ℕ) (a : Bool) → a ≡ false → (nat_lt x x || (nat_eq x x && a)) ≡ false
equal_at x a h = grind (arith, nat_tests)

not_before_itself : (xs : List ℕ) → is_less xs xs ≡ false
not_before_itself [] = refl
not_before_itself (x ∷ xs) = equal_at x (is_less xs xs) (not_before_itself xs)

-- what the first failure is, where one was kept before
record Least (kept : ShapeError) (es : List ShapeError) (e : ShapeError) : Type 0 where
  before : is_before kept e ≡ false
  all : (k : ℕ) (d : ShapeError) → k < length es → is_before (get_or es k d) e ≡ false
  one : (kept ≡ e) ⊎ Contains es e

-- one failure more in front
more : (kept x : ShapeError) (es : List ShapeError) (e : ShapeError) → is_before x e ≡ false
    → ((k : ℕ) (d : ShapeError) → k < length es → is_before (get_or es k d) e ≡ false)
    → (k : ℕ) (d : ShapeError) → k < length (x ∷ es) → is_before (get_or (x ∷ es) k d) e ≡ false
more kept x es e first rest zero d h = first
more kept x es e first rest (suc k) d h = rest k d (omega arith)

contains_more : (x : ShapeError) (es : List ShapeError) (e : ShapeError) → Contains es e → Contains (x ∷ es) e
contains_more x es e found = (suc found.0, omega arith, found.2)

contains_first : (x : ShapeError) (es : List ShapeError) (e : ShapeError) → x ≡ e → Contains (x ∷ es) e
contains_first x es e same = (0, omega arith, same)

least_behind : (kept x : ShapeError) (es : List ShapeError) (e : ShapeError) (b : Bool) → is_before x kept ≡ b
    → ((k : ShapeError) → first_failure (Some k) es ≡ Some e → Least k es e)
    → first_failure (cond b (Some x) (Some kept)) es ≡ Some e → Least kept (x ∷ es) e
least_behind kept x es e true is behind h =
    let rest = behind x h in record {
      before = not_less (position_of kept) (position_of x) (position_of e) (turned (position_of x) (position_of kept) is) rest.before;
      all = more kept x es e rest.before rest.all;
      one = inr (elim rest.one [ inl same ↦ contains_first x es e same | inr found ↦ contains_more x es e found ]);
    }
least_behind kept x es e false is behind h =
    let rest = behind kept h in record {
      before = rest.before;
      all = more kept x es e (not_less (position_of x) (position_of kept) (position_of e) is rest.before) rest.all;
      one = elim rest.one [ inl same ↦ inl same | inr found ↦ inr (contains_more x es e found) ];
    }

least_of : (kept : ShapeError) (es : List ShapeError) (e : ShapeError) → first_failure (Some kept) es ≡ Some e → Least kept es e
least_of kept [] e h =
    let same : kept ≡ e = cc in record {
      before = subst (λ (x : ShapeError). is_before kept x ≡ false) same (not_before_itself (position_of kept));
      all = λ k d less. absurd (omega arith);
      one = inl same;
    }
least_of kept (x ∷ es) e h = least_behind kept x es e (is_before x kept) refl (λ k. least_of k es e) h

-- the first of some failures is one of them, and none of them stands before it
pub first_is_least : (es : List ShapeError) (e : ShapeError) → first_failure None es ≡ Some e → IsFirst es e
first_is_least [] e h = absurd (cc)
first_is_least (x ∷ es) e h =
    let rest = least_of x es e h in (
      elim rest.one [ inl same ↦ contains_first x es e same | inr found ↦ contains_more x es e found ],
      more x x es e rest.before rest.all,
    )

kept_or_new : (b : Bool) (kept x : ShapeError) → (k : ShapeError) × (cond b (Some x) (Some kept) ≡ Some k)
kept_or_new true kept x = (x, refl)
kept_or_new false kept x = (kept, refl)

is_kept : (kept : ShapeError) (es : List ShapeError) → first_failure (Some kept) es ≡ None → ⊥
is_kept kept [] h = cc
is_kept kept (x ∷ es) h =
    let next = kept_or_new (is_before x kept) kept x in
    is_kept next.0 es (sym (ap (λ k. first_failure k es) next.1) ∙ h)

-- where there is none, there is no failure
pub none_failed : (es : List ShapeError) → first_failure None es ≡ None → es ≡ []
none_failed [] h = refl
none_failed (x ∷ es) h = absurd (is_kept x es h)
