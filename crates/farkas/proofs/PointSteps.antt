-- The rows behind a variable say what those without it say, and the sum of each pair in which it goes.
use Rattle.std.proofs.Common.{◌≡◌, ◌⊎◌, ℕ, zero, suc, Bool, true, false, List, [], ◌∷◌, ◌++◌, map, set, length, cond}
use Rattle.std.proofs.Common.{sym, ap, ◌∙◌, subst, refl, inl, inr, ℤ, pos, ◌<ℤ◌}
use Rattle.std.specs.Prelude.{int_lt, if◌then◌else◌, nat_lt}
use Rattle.std.specs.List.{fold, filter}
use Rattle.std.proofs.lemmas.List.{map-append}
use Rattle.linear.specs.declared.row.Row.{Row}
use Rattle.linear.specs.Numbers.{is_zero}
use Rattle.linear.specs.Rows.{coefficient, reduced}
use Rattle.farkas.specs.declared.certificate.Step.{Step}
use Rattle.farkas.specs.declared.elimination.Held.{Held}
use Rattle.farkas.specs.declared.keeping.Fate.{Fate}
use Rattle.farkas.specs.declared.keeping.Fate.TheVariants.{Closes, Drops, Replaces, Joins}
use Rattle.farkas.specs.Keeping.{most_rows}
use Rattle.farkas.specs.Elimination.{
  Progress,
  Going,
  Closed,
  RowsPast,
  NumbersPast,
  ups,
  downs,
  others,
  sum_of,
  can_sum,
  step_of,
  made,
  taken,
  row_of,
  fate_of,
  paired,
  met_all,
  eliminated,
}
use Rattle.farkas.proofs.PointRows.{Holds, HoldAll, settle_back, after}

-- a row is one of a list
abbrev pub In : Held → List Held → Type 0
In h [] = ⊥
In h (x ∷ xs) = (h ≡ x) ⊎ In h xs

kept_by : (test : Held → Bool) (x : Held) (xs : List Held) (h : Held) (t : Bool) → In h (filter test xs) → In h (cond t (x ∷ filter test xs) (filter test xs))
kept_by test x xs h true p = inr p
kept_by test x xs h false p = p

first_by : (test : Held → Bool) (x : Held) (xs : List Held) (h : Held) (t : Bool) → t ≡ true → h ≡ x → In h (cond t (x ∷ filter test xs) (filter test xs))
first_by test x xs h true e p = inl p
first_by test x xs h false e p = absurd (cc)

pub in_filter : (test : Held → Bool) (xs : List Held) (h : Held) → In h xs → test h ≡ true → In h (filter test xs)
in_filter test [] h p e = p
in_filter test (x ∷ xs) h (inl p) e = first_by test x xs h (test x) (ap test (sym p) ∙ e) p
in_filter test (x ∷ xs) h (inr p) e = kept_by test x xs h (test x) (in_filter test xs h p e)

map_set : (held : List Held) (k : ℕ) (h : Held) → map row_of (set held k h) ≡ set (map row_of held) k h.row
map_set [] k h = refl
map_set (x ∷ held) zero h = refl
map_set (x ∷ held) (suc k) h = ap (λ rows. x.row ∷ rows) (map_set held k h)

module _ (count i : ℕ) (den : ℤ) (vs : List ℤ) (positive : pos 0 <ℤ den) where
  -- the kept rows hold, as far as the later variables go
  abbrev pub Later : List Held → Type 0
  Later held = HoldAll (suc i) den vs (map row_of held)

  abbrev pub Pair : Held → Held → Type 0
  Pair up down = Holds (suc i) den vs (sum_of i up.row down.row)

  joins_back : (held : List Held) (steps : List Step) (step : Step) (row : Row) (h1 : List Held) (s1 : List Step) (t : Bool) →
      (if t then Going (held ++ made count steps row ∷ []) (steps ++ step ∷ []) else RowsPast) ≡ Going h1 s1 → held ++ made count steps row ∷ [] ≡ h1
  joins_back held steps step row h1 s1 true e = cc
  joins_back held steps step row h1 s1 false e = absurd (cc)

  -- the rows after a step's
  taken_is : (held : List Held) (steps : List Step) (step : Step) (row : Row) (f : Fate) (h1 : List Held) (s1 : List Step) →
      taken count held steps step row f ≡ Going h1 s1 → map row_of h1 ≡ after (suc i) den vs positive (map row_of held) row f
  taken_is held steps step row Closes h1 s1 e = absurd (cc)
  taken_is held steps step row Drops h1 s1 e = ap (map row_of) (let same : h1 ≡ held = cc in same)
  taken_is held steps step row (Replaces k) h1 s1 e =
      ap (map row_of) (let same : h1 ≡ set held k (made count steps row) = cc in same) ∙ map_set held k (made count steps row)
  taken_is held steps step row Joins h1 s1 e =
      ap (map row_of) (sym (joins_back held steps step row h1 s1 (nat_lt (length held) most_rows) e))
      ∙ map-append row_of held (made count steps row ∷ [])

  -- a pair's rows
  abbrev Told : Held → Progress → Held → Type 0
  Told up p down = (h : List Held) × (s : List Step) × (p ≡ Going h s) × (Later h × Pair up down)

  sum_back : (up down : Held) (held : List Held) (steps : List Step) (h1 : List Held) (s1 : List Step) (t : Bool) →
      (if t then taken count held steps (step_of i up down) (reduced (sum_of i up.row down.row)) (fate_of held (reduced (sum_of i up.row down.row)))
      else NumbersPast) ≡ Going h1 s1 → Later h1 → Later held × Pair up down
  sum_back up down held steps h1 s1 true e all =
      let sum = sum_of i up.row down.row in
      settle_back (suc i) den vs positive (map row_of held) sum (fate_of held (reduced sum)) refl
      (subst (HoldAll (suc i) den vs) (taken_is held steps (step_of i up down) (reduced sum) (fate_of held (reduced sum)) h1 s1 e) all)
  sum_back up down held steps h1 s1 false e all = absurd (cc)

  paired_back : (up down : Held) (p : Progress) (h1 : List Held) (s1 : List Step) → paired count i up p down ≡ Going h1 s1 → Later h1 → Told up p down
  paired_back up down (Going held steps) h1 s1 e all = (held, steps, refl, sum_back up down held steps h1 s1 (can_sum i up.row down.row) e all)
  paired_back up down (Closed steps) h1 s1 e all = absurd (cc)
  paired_back up down RowsPast h1 s1 e all = absurd (cc)
  paired_back up down NumbersPast h1 s1 e all = absurd (cc)

  -- one row's pairs with several
  abbrev pub Pairs : Held → List Held → Type 0
  Pairs up [] = Unit {0}
  Pairs up (down ∷ rest) = Pair up down × Pairs up rest

  row_back : (up : Held) (lows : List Held) (p : Progress) (h1 : List Held) (s1 : List Step) → fold (paired count i up) p lows ≡ Going h1 s1 → Later h1 →
      (h : List Held) × (s : List Step) × (p ≡ Going h s) × (Later h × Pairs up lows)
  row_back up [] p h1 s1 e all = (h1, s1, e, (all, tt))
  row_back up (down ∷ lows) p h1 s1 e all =
      let rest = row_back up lows (paired count i up p down) h1 s1 e all in
      let first = paired_back up down p rest.0 rest.1 rest.2 rest.3.0 in
      (first.0, first.1, first.2, (first.3.0, (first.3.1, rest.3.1)))

  -- several rows' pairs with those in which the variable has a negative coefficient
  abbrev pub AllPairs : List Held → List Held → Type 0
  AllPairs [] lows = Unit {0}
  AllPairs (up ∷ rest) lows = Pairs up lows × AllPairs rest lows

  met_back : (stage highs : List Held) (p : Progress) (h1 : List Held) (s1 : List Step) → met_all count i stage p highs ≡ Going h1 s1 → Later h1 →
      (h : List Held) × (s : List Step) × (p ≡ Going h s) × (Later h × AllPairs highs (downs i stage))
  met_back stage [] p h1 s1 e all = (h1, s1, e, (all, tt))
  met_back stage (up ∷ highs) p h1 s1 e all =
      let rest = met_back stage highs (fold (paired count i up) p (downs i stage)) h1 s1 e all in
      let first = row_back up (downs i stage) p rest.0 rest.1 rest.2 rest.3.0 in
      (first.0, first.1, first.2, (first.3.0, (first.3.1, rest.3.1)))

  at_pair : (up down : Held) (lows : List Held) → Pairs up lows → In down lows → Pair up down
  at_pair up down [] h p = elim p [ ]
  at_pair up down (x ∷ lows) h (inl e) = subst (λ d. Pair up d) (sym e) h.0
  at_pair up down (x ∷ lows) h (inr p) = at_pair up down lows h.1 p

  at_pairs : (up down : Held) (highs lows : List Held) → AllPairs highs lows → In up highs → In down lows → Pair up down
  at_pairs up down [] lows h p q = elim p [ ]
  at_pairs up down (x ∷ highs) lows h (inl e) q = subst (λ u. Pair u down) (sym e) (at_pair x down lows h.0 q)
  at_pairs up down (x ∷ highs) lows h (inr p) q = at_pairs up down highs lows h.1 p q

  pub at_row : (held : List Held) (h : Held) → Later held → In h held → Holds (suc i) den vs h.row
  at_row [] h all p = elim p [ ]
  at_row (x ∷ held) h all (inl e) = subst (λ (k : Held). Holds (suc i) den vs k.row) (sym e) all.0
  at_row (x ∷ held) h all (inr p) = at_row held h all.1 p

  -- what the rows behind a variable say of those before it
  pub record Says (stage : List Held) : Type 0 where
    pub without : (h : Held) → In h stage → is_zero (coefficient h.row i) ≡ true → Holds (suc i) den vs h.row
    pub pairs : (up down : Held) → In up stage → In down stage → int_lt (pos 0) (coefficient up.row i) ≡ true →
        int_lt (coefficient down.row i) (pos 0) ≡ true → Pair up down

  pub eliminated_back : (stage : List Held) (steps : List Step) (h1 : List Held) (s1 : List Step) → eliminated count i stage steps ≡ Going h1 s1 →
      Later h1 → Says stage
  eliminated_back stage steps h1 s1 e all =
      let r = met_back stage (ups i stage) (Going (others i stage) steps) h1 s1 e all in
      let same : r.0 ≡ others i stage = (let g = r.2 in cc) in
      record {
        without = λ h p z. at_row (others i stage) h (subst Later same r.3.0) (in_filter (λ (k : Held). is_zero (coefficient k.row i)) stage h p z);
        pairs = λ up down p q u d. at_pairs up down (ups i stage) (downs i stage) r.3.1
            (in_filter (λ (k : Held). int_lt (pos 0) (coefficient k.row i)) stage up p u)
            (in_filter (λ (k : Held). int_lt (coefficient k.row i) (pos 0)) stage down q d);
      }
