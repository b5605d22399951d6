-- As many rounds as there are facts are enough to gather the variables of those that are connected.
use Rattle.std.proofs.Common.{◌≡◌, ℕ, zero, suc, ◌+◌, ◌-◌, ◌≤◌, ◌<◌, ◌⊎◌, inl, inr, Bool, true, false, ◌||◌, List, [], ◌∷◌, ◌++◌}
use Rattle.std.proofs.Common.{length, sym, ap, ◌∙◌, refl, arith}
use Rattle.std.specs.Prelude.{if◌then◌else◌}
use Rattle.std.specs.List.{list_any}
use Rattle.std.proofs.lemmas.List.Folds.{list_any-append}
use Rattle.std.proofs.lemmas.Bool.{false≢true, cases_lt}
use Rattle.sail_types.specs.declared.numbers.Atom.{Atom}
use Rattle.sail_types.specs.declared.numbers.Con.{Con}
use Rattle.sail_types.specs.Sums.{eq_atom}
use Rattle.linear.specs.Choices.{variables_in}
use Rattle.obligations.specs.Connected.{has_atom, shares, spread, spread_for, sharing}
use Rattle.obligations.specs.Spreading.{AreSame}
use Rattle.obligations.proofs.Same.{shares_same, rounds_steady}
use Rattle.fact_index.proofs.Bools.{or_left, or_right, or_absorbed, any_into}

-- ---- variables that are among others

abbrev Within : List Atom → List Atom → Type 0
Within xs ys = (f : Atom → Bool) → list_any f xs ≡ true → list_any f ys ≡ true

shares_into : (vs xs ys : List Atom) → Within xs ys → shares vs xs ≡ true → shares vs ys ≡ true
shares_into vs xs ys h = any_into (has_atom xs) (has_atom ys) (λ a. h (eq_atom a)) vs

within_put : (vs xs : List Atom) (t : Bool) → Within xs (if t then vs ++ xs else xs)
within_put vs xs true f e = list_any-append f vs xs ∙ or_right (list_any f vs) (list_any f xs) e
within_put vs xs false f e = e

put_within : (vs xs : List Atom) (t : Bool) → t ≡ true → Within vs (if t then vs ++ xs else xs)
put_within vs xs true e f p = list_any-append f vs xs ∙ or_left (list_any f vs) (list_any f xs) p
put_within vs xs false e f p = absurd (false≢true e)

within_round : (cs : List Con) (xs : List Atom) → Within xs (spread cs xs)
within_round [] xs f e = e
within_round (c ∷ cs) xs f e = within_round cs _ f (within_put (variables_in c) xs (shares (variables_in c) xs) f e)

-- ---- facts that share a variable with some, and have all of theirs among others

abbrev AreTaken : List Con → List Atom → List Atom → Type 0
AreTaken [] xs zs = Unit {0}
AreTaken (c ∷ cs) xs zs = (shares (variables_in c) xs ≡ true → Within (variables_in c) zs) × AreTaken cs xs zs

-- in a round
taken : (cs : List Con) (xs more zs : List Atom) → Within xs more → Within (spread cs more) zs → AreTaken cs xs zs
taken [] xs more zs h k = tt
taken (c ∷ cs) xs more zs h k =
    let vs = variables_in c in (
      (λ e f p. k f (within_round cs _ f (put_within vs more (shares vs more) (shares_into vs xs more h e) f p))),
      taken cs xs _ zs (λ f p. within_put vs more (shares vs more) f (h f p)) k,
    )

-- where they are among the same, a round brings nothing
put_inside : (vs zs xs : List Atom) (t : Bool) → (t ≡ true → Within vs zs) → AreSame xs zs → AreSame (if t then vs ++ xs else xs) zs
put_inside vs zs xs true h k f =
    list_any-append f vs xs ∙ (ap (λ b. list_any f vs || b) (k f) ∙ or_absorbed (list_any f vs) (list_any f zs) (h refl f))
put_inside vs zs xs false h k f = k f

inside_same : (cs : List Con) (zs xs : List Atom) → AreTaken cs zs zs → AreSame xs zs → AreSame (spread cs xs) zs
inside_same [] zs xs h k = k
inside_same (c ∷ cs) zs xs h k =
    let vs = variables_in c in
    inside_same cs zs _ h.1 (put_inside vs zs xs (shares vs xs) (λ e. h.0 (sym (shares_same vs xs zs k) ∙ e)) k)

both_steady : (n m : ℕ) (cs : List Con) (zs : List Atom) → AreTaken cs zs zs → AreSame (spread_for n cs zs) (spread_for m cs zs)
both_steady n m cs zs h f =
    rounds_steady n cs zs (inside_same cs zs zs h (λ g. refl)) f ∙ sym (rounds_steady m cs zs (inside_same cs zs zs h (λ g. refl)) f)

-- ---- how many share a variable

module _ (c : Con) (ls ms : List Con) where
  fewer_put : (t u : Bool) → (t ≡ true → u ≡ true) → length ls ≤ length ms → length (if t then c ∷ ls else ls) ≤ length (if u then c ∷ ms else ms)
  fewer_put true true h le = omega (arith, le)
  fewer_put true false h le = absurd (false≢true (h refl))
  fewer_put false true h le = omega (arith, le)
  fewer_put false false h le = le

  most_put : (t : Bool) → length ls ≤ length ms → length (if t then c ∷ ls else ls) ≤ length (c ∷ ms)
  most_put true le = omega (arith, le)
  most_put false le = omega (arith, le)

  same_put : (t u : Bool) → u ≡ true → length ls ≤ length ms → length (if u then c ∷ ms else ms) ≤ length (if t then c ∷ ls else ls) → t ≡ true
  same_put true u e le h = refl
  same_put false true e le h = absurd (omega (arith, le, h))
  same_put false false e le h = absurd (false≢true e)

  rest_put : (t u : Bool) → (t ≡ true → u ≡ true) → length (if u then c ∷ ms else ms) ≤ length (if t then c ∷ ls else ls) → length ms ≤ length ls
  rest_put true true e h = omega (arith, h)
  rest_put true false e h = absurd (false≢true (e refl))
  rest_put false true e h = omega (arith, h)
  rest_put false false e h = h

none_put : (c : Con) (ls : List Con) (t : Bool) → length (if t then c ∷ ls else ls) ≡ 0 → (t ≡ true → ⊥) × (length ls ≡ 0)
none_put c ls true h = absurd (omega (arith, h))
none_put c ls false h = (false≢true, h)

fewer : (cs : List Con) (xs zs : List Atom) → Within xs zs → length (sharing xs cs) ≤ length (sharing zs cs)
fewer [] xs zs h = omega arith
fewer (c ∷ cs) xs zs h =
    let vs = variables_in c in fewer_put c (sharing xs cs) (sharing zs cs) (shares vs xs) (shares vs zs) (shares_into vs xs zs h) (fewer cs xs zs h)

most : (cs : List Con) (zs : List Atom) → length (sharing zs cs) ≤ length cs
most [] zs = omega arith
most (c ∷ cs) zs = most_put c (sharing zs cs) cs (shares (variables_in c) zs) (most cs zs)

-- where no more share a variable than before
no_more : (cs : List Con) (xs zs : List Atom) → Within xs zs → AreTaken cs xs zs → length (sharing zs cs) ≤ length (sharing xs cs) → AreTaken cs zs zs
no_more [] xs zs h n le = tt
no_more (c ∷ cs) xs zs h n le =
    let vs = variables_in c in
    let ls = sharing xs cs in
    let ms = sharing zs cs in (
      (λ e. n.0 (same_put c ls ms (shares vs xs) (shares vs zs) e (fewer cs xs zs h) le)),
      no_more cs xs zs h n.1 (rest_put c ls ms (shares vs xs) (shares vs zs) (shares_into vs xs zs h) le),
    )

none_taken : (cs : List Con) (xs : List Atom) → length (sharing xs cs) ≡ 0 → AreTaken cs xs xs
none_taken [] xs e = tt
none_taken (c ∷ cs) xs e =
    let none = none_put c (sharing xs cs) (shares (variables_in c) xs) e in ((λ k. absurd (none.0 k)), none_taken cs xs none.1)

-- a round more
round_taken : (cs : List Con) (xs : List Atom) → length (sharing (spread cs xs) cs) ≤ length (sharing xs cs)
    → AreTaken cs (spread cs xs) (spread cs xs)
round_taken cs xs le = no_more cs xs (spread cs xs) (within_round cs xs) (taken cs xs xs (spread cs xs) (λ f p. p) (λ f p. p)) le

-- ---- enough rounds

agree_by : (k n m : ℕ) (cs : List Con) (xs : List Atom) → length cs ≤ length (sharing xs cs) + suc k
    → (length cs ≤ length (sharing (spread cs xs) cs) + k → AreSame (spread_for n cs (spread cs xs)) (spread_for m cs (spread cs xs)))
    → (length (sharing xs cs) < length (sharing (spread cs xs) cs)) ⊎ (length (sharing (spread cs xs) cs) ≤ length (sharing xs cs))
    → AreSame (spread_for n cs (spread cs xs)) (spread_for m cs (spread cs xs))
agree_by k n m cs xs le next (inl more) = next (omega (arith, le, more))
agree_by k n m cs xs le next (inr same) = both_steady n m cs (spread cs xs) (round_taken cs xs same)

agree : (k n m : ℕ) (cs : List Con) (xs : List Atom) → length cs ≤ length (sharing xs cs) + k → suc k ≤ n → suc k ≤ m
    → AreSame (spread_for n cs xs) (spread_for m cs xs)
agree k zero m cs xs le a b = absurd (omega (arith, a))
agree k (suc n) zero cs xs le a b = absurd (omega (arith, b))
agree zero (suc n) (suc m) cs xs le a b =
    both_steady n m cs (spread cs xs) (round_taken cs xs (let p = most cs (spread cs xs) in omega (arith, le, p)))
agree (suc k) (suc n) (suc m) cs xs le a b =
    agree_by k n m cs xs le (λ l. agree k n m cs (spread cs xs) l (omega (arith, a)) (omega (arith, b)))
    (cases_lt (length (sharing xs cs)) (length (sharing (spread cs xs) cs)))

enough_by : (p n : ℕ) (cs : List Con) (xs : List Atom) → length (sharing xs cs) ≡ p → length cs ≤ n
    → AreSame (spread_for n cs xs) (spread_for (length cs) cs xs)
enough_by zero n cs xs e le = both_steady n (length cs) cs xs (none_taken cs xs e)
enough_by (suc p) n cs xs e le =
    let q = most cs xs in
    agree (length cs - 1) n (length cs) cs xs (omega (arith, e, q)) (omega (arith, e, q, le)) (omega (arith, e, q))

pub enough : (n : ℕ) (cs : List Con) (xs : List Atom) → length cs ≤ n → AreSame (spread_for n cs xs) (spread_for (length cs) cs xs)
enough n cs xs le = enough_by (length (sharing xs cs)) n cs xs refl le
