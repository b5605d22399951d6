-- What an elimination makes is a replay of its steps.
use Rattle.std.proofs.Common.{◌≡◌, ℕ, zero, suc, ◌+◌, ◌⊎◌, Bool, true, false, Option, Some, None, List, [], ◌∷◌, ◌++◌}
use Rattle.std.proofs.Common.{length, map, set, sym, ap, ◌∙◌, subst, refl, arith, inl, inr, ℤ, pos, neg_ℤ, ◌<ℤ◌}
use Rattle.std.proofs.Common.{unsigned_abs, cond}
use Rattle.std.specs.Prelude.{int_lt, if◌then◌else◌, nat_lt, slice_get}
use Rattle.std.specs.Int.{◌∣◌}
use Rattle.std.specs.List.{fold, filter}
use Rattle.std.proofs.lemmas.Int.{ints}
use Rattle.std.proofs.lemmas.Bool.{and_from, cond-true, cond-false, eqb-true}
use Rattle.std.proofs.lemmas.List.{length_push, append_assoc}
use Rattle.linear.specs.declared.row.Row.{Row}
use Rattle.linear.specs.Numbers.{is_zero, gcd}
use Rattle.linear.specs.Rows.{coefficient, divisor_of, quotient_row, reduced, is_constant, are_same}
use Rattle.linear.specs.laws.Divisors.{gcd_positive, gcd_divides, multiple, divisor_positive, row_multiples, zero_row}
use Rattle.linear.specs.laws.Totals.{quotient_positive}
use Rattle.farkas.specs.declared.certificate.Step.{Step}
use Rattle.farkas.specs.declared.elimination.Held.{Held}
use Rattle.farkas.specs.declared.elimination.Solved.{Solved}
use Rattle.farkas.specs.declared.elimination.Solved.TheVariants as solved_as
use Rattle.farkas.specs.declared.keeping.Fate.{Fate}
use Rattle.farkas.specs.declared.keeping.Fate.TheVariants.{Closes, Drops, Replaces, Joins}
use Rattle.farkas.specs.Keeping.{fate, against, most_rows}
use Rattle.farkas.specs.Elimination.{Progress, Going, Closed, RowsPast, NumbersPast, ups, downs, others, up_times}
use Rattle.farkas.specs.Elimination.{down_times, sum_of, can_sum, step_of, made, taken, row_of, fate_of, paired}
use Rattle.farkas.specs.Elimination.{met_all, eliminated, continued, solved, numbered}
use Rattle.farkas.specs.Validity.{row_at, made_by, made_of, then_do, replayed, is_exact, is_closing, ends_closing}
use Rattle.farkas.proofs.Pruned.{number_pushed, pushed_last, ends_pushed}

-- a row is one of a list
abbrev Among : Held → List Held → Type 0
Among h [] = ⊥
Among h (x ∷ xs) = (x ≡ h) ⊎ Among h xs

among_push : (h : Held) (xs : List Held) (y : Held) → Among h (xs ++ y ∷ []) → (y ≡ h) ⊎ Among h xs
among_push h [] y (inl e) = inl e
among_push h [] y (inr p) = elim p [ ]
among_push h (x ∷ xs) y (inl e) = inr (inl e)
among_push h (x ∷ xs) y (inr p) = elim (among_push h xs y p) [ inl e ↦ inl e | inr q ↦ inr (inr q) ]

among_set : (h : Held) (xs : List Held) (i : ℕ) (y : Held) → Among h (set xs i y) → (y ≡ h) ⊎ Among h xs
among_set h [] i y p = elim p [ ]
among_set h (x ∷ xs) zero y (inl e) = inl e
among_set h (x ∷ xs) zero y (inr p) = inr (inr p)
among_set h (x ∷ xs) (suc i) y (inl e) = inr (inl e)
among_set h (x ∷ xs) (suc i) y (inr p) = elim (among_set h xs i y p) [ inl e ↦ inl e | inr q ↦ inr (inr q) ]

filtered : (test : Held → Bool) (h x : Held) (xs : List Held) (t : Bool) → test x ≡ t → Among h (cond t (x ∷ filter test xs) (filter test xs))
    → (Among h (filter test xs) → Among h xs × (test h ≡ true)) → ((x ≡ h) ⊎ Among h xs) × (test h ≡ true)
filtered test h x xs true e (inl p) rest = (inl p, ap test (sym p) ∙ e)
filtered test h x xs true e (inr p) rest = let q = rest p in (inr q.0, q.1)
filtered test h x xs false e p rest = let q = rest p in (inr q.0, q.1)

among_filter : (test : Held → Bool) (h : Held) (xs : List Held) → Among h (filter test xs) → Among h xs × (test h ≡ true)
among_filter test h [] p = elim p [ ]
among_filter test h (x ∷ xs) p = filtered test h x xs (test x) refl p (among_filter test h xs)

fold_keeps : (P : Progress → Type 0) (f : Progress → Held → Progress) (xs : List Held) (p : Progress)
    → ((q : Progress) (x : Held) → Among x xs → P q → P (f q x)) → P p → P (fold f p xs)
fold_keeps P f [] p step h = h
fold_keeps P f (x ∷ xs) p step h = fold_keeps P f xs (f p x) (λ q y a. step q y (inr a)) (step p x (inl refl) h)

at_front : (front : List Row) (row : Row) (rows : List Row) → slice_get (front ++ row ∷ rows) (length front) ≡ Some row
at_front [] row rows = refl
at_front (first ∷ front) row rows = at_front front row rows

-- ---- one step

is_positive : (z : ℤ) → pos 0 <ℤ z → int_lt (pos 0) z ≡ true
is_positive z h = grind (arith, ints)

positive : (z : ℤ) → int_lt (pos 0) z ≡ true → pos 0 <ℤ z
positive z h = omega (arith, ints)

negated_positive : (z : ℤ) → int_lt z (pos 0) ≡ true → pos 0 <ℤ neg_ℤ z
negated_positive z h = omega (arith, ints)

negated_size : (z : ℤ) → unsigned_abs z ≡ unsigned_abs (neg_ℤ z)
negated_size z = omega (arith, ints)

module _ (i : ℕ) (up down : Row) (above : int_lt (pos 0) (coefficient up i) ≡ true) (below : int_lt (coefficient down i) (pos 0) ≡ true) where
  common : ℤ
  common = gcd (coefficient up i) (coefficient down i)

  up_times_positive : int_lt (pos 0) (up_times i up down) ≡ true
  up_times_positive =
      let g = gcd (coefficient up i) (coefficient down i) in
      is_positive (up_times i up down) (quotient_positive (neg_ℤ (coefficient down i)) g (negated_positive (coefficient down i) below)
      (gcd_positive (coefficient up i) (coefficient down i) above)
      (multiple (neg_ℤ (coefficient down i)) g (subst (λ n. unsigned_abs g ∣ n) (negated_size (coefficient down i))
      (gcd_divides (coefficient up i) (coefficient down i)).1)))

  down_times_positive : int_lt (pos 0) (down_times i up down) ≡ true
  down_times_positive =
      let g = gcd (coefficient up i) (coefficient down i) in
      is_positive (down_times i up down) (quotient_positive (coefficient up i) g (positive (coefficient up i) above)
      (gcd_positive (coefficient up i) (coefficient down i) above)
      (multiple (coefficient up i) g (gcd_divides (coefficient up i) (coefficient down i)).0))

exact_step : (i : ℕ) (up down : Held) → int_lt (pos 0) (coefficient up.row i) ≡ true → int_lt (coefficient down.row i) (pos 0) ≡ true
    → can_sum i up.row down.row ≡ true → is_zero (divisor_of (sum_of i up.row down.row)) ≡ false → is_exact (step_of i up down) up.row down.row ≡ true
exact_step i up down above below fits nonzero =
    and_from _ _ (up_times_positive i up.row down.row above below)
    (and_from _ _ (down_times_positive i up.row down.row above below)
    (and_from _ _ (is_positive (divisor_of (sum_of i up.row down.row)) (divisor_positive (sum_of i up.row down.row) nonzero))
    (and_from _ _ fits (row_multiples (sum_of i up.row down.row)))))

step_makes : (i : ℕ) (up down : Held) → int_lt (pos 0) (coefficient up.row i) ≡ true → int_lt (coefficient down.row i) (pos 0) ≡ true
    → can_sum i up.row down.row ≡ true → is_zero (divisor_of (sum_of i up.row down.row)) ≡ false
    → made_of (step_of i up down) (Some up.row) (Some down.row) ≡ Some (reduced (sum_of i up.row down.row))
step_makes i up down above below fits nonzero =
    cond-true (is_exact (step_of i up down) up.row down.row) _ _ (exact_step i up down above below fits nonzero)
    ∙ ap Some (sym (cond-false (is_zero (divisor_of (sum_of i up.row down.row))) _ _ nonzero))

-- a sum of zeros is dropped
not_negative : (z : ℤ) → is_zero z ≡ true → int_lt z (pos 0) ≡ false
not_negative z h = let e : unsigned_abs z ≡ 0 = eqb-true (unsigned_abs z) 0 h in grind (arith, ints)

zeros_drop : (kept : List Row) (row : Row) → is_zero (divisor_of row) ≡ true → fate kept (reduced row) ≡ Drops
zeros_drop kept row h =
    let z = zero_row row h in
    ap (fate kept) (cond-true (is_zero (divisor_of row)) row (quotient_row (divisor_of row) row) h)
    ∙ (cond-true (is_constant row) _ _ z.1 ∙ cond-false (int_lt row.bound (pos 0)) _ _ (not_negative row.bound z.0))

-- a row that closes has only zeros and a negative bound
abbrev pub ClosesWell : Row → Fate → Type 0
ClosesWell row Closes = is_closing row ≡ true
ClosesWell row f = Unit {0}

plain : (row : Row) (t : Bool) (f g : Fate) → ClosesWell row f → ClosesWell row g → ClosesWell row (if t then f else g)
plain row true f g p q = p
plain row false f g p q = q

against_well : (row : Row) (i : ℕ) (ks : List Row) → ClosesWell row (against row i ks)
against_well row i [] = tt
against_well row i (k ∷ ks) = plain row (are_same k.coefficients row.coefficients) _ _ (plain row (int_lt row.bound k.bound) (Replaces i) Drops tt tt)
    (against_well row (suc i) ks)

constant_well : (row : Row) (t u : Bool) → is_constant row ≡ t → int_lt row.bound (pos 0) ≡ u → (rest : Fate) → ClosesWell row rest
    → ClosesWell row (if t then (if u then Closes else Drops) else rest)
constant_well row true true e h rest w = and_from (is_constant row) (int_lt row.bound (pos 0)) e h
constant_well row true false e h rest w = tt
constant_well row false u e h rest w = w

pub fate_well : (kept : List Row) (row : Row) → ClosesWell row (fate kept row)
fate_well kept row = constant_well row (is_constant row) (int_lt row.bound (pos 0)) refl refl (against row 0 kept) (against_well row 0 kept)

same_all : (a b : List Row) → Some a ≡ Some b → a ≡ b
same_all a b e = cc

none_left : (all : List Row) → None ≡ Some all → ⊥
none_left all e = cc

after_push : (rows : List Row) (o : Option Row) (steps : List Step) (all : List Row) (step : Step) (row : Row)
    → then_do o (λ r. replayed (rows ++ r ∷ []) steps) ≡ Some all → made_by all step ≡ Some row →
    ((r : Row) → replayed (rows ++ r ∷ []) steps ≡ Some all → replayed (rows ++ r ∷ []) (steps ++ step ∷ []) ≡ Some (all ++ row ∷ [])) →
    then_do o (λ r. replayed (rows ++ r ∷ []) (steps ++ step ∷ [])) ≡ Some (all ++ row ∷ [])
after_push rows None steps all step row e m rest = absurd (none_left all e)
after_push rows (Some r) steps all step row e m rest = rest r e

replay_push : (rows : List Row) (steps : List Step) (all : List Row) (step : Step) (row : Row) → replayed rows steps ≡ Some all
    → made_by all step ≡ Some row → replayed rows (steps ++ step ∷ []) ≡ Some (all ++ row ∷ [])
replay_push rows [] all step row e m =
    subst (λ rs. then_do (made_by rs step) (λ r. Some (rs ++ r ∷ [])) ≡ Some (all ++ row ∷ [])) (sym (same_all rows all e))
    (ap (λ o. then_do o (λ r. Some (all ++ r ∷ []))) m)
replay_push rows (first ∷ steps) all step row e m =
    after_push rows (made_by rows first) steps all step row e m (λ r f. replay_push (rows ++ r ∷ []) steps all step row f m)

-- ---- an elimination

module _ (starts : List Row) where
  -- the row of a number is there
  abbrev In : List Row → Held → Type 0
  In all h = row_at all h.number ≡ Some h.row

  -- steps that make rows, with rows that are among them
  pub record Made (watched held : List Held) (steps : List Step) : Type 0 where
    pub all : List Row
    pub replays : replayed starts steps ≡ Some all
    pub count : length all ≡ length starts + length steps
    pub watches : (h : Held) → Among h watched → In all h
    pub holds : (h : Held) → Among h held → In all h

  -- steps that end in a row that can't be true
  pub record Ended (steps : List Step) : Type 0 where
    pub first : Step
    pub rest : List Step
    pub some : steps ≡ first ∷ rest
    pub rows : List Row
    pub replays : replayed starts steps ≡ Some rows
    pub ends : ends_closing rows ≡ true

  abbrev Good : List Held → Progress → Type 0
  Good watched (Going held steps) = Made watched held steps
  Good watched (Closed steps) = Ended steps
  Good watched RowsPast = Unit {0}
  Good watched NumbersPast = Unit {0}

  nonempty : (steps : List Step) (step : Step) → (first : Step) × (rest : List Step) × (steps ++ step ∷ [] ≡ first ∷ rest)
  nonempty [] step = (step, [], refl)
  nonempty (first ∷ steps) step = (first, steps ++ step ∷ [], refl)

  new_row : (all : List Row) (steps : List Step) (row : Row) → length all ≡ length starts + length steps
      → row_at (all ++ row ∷ []) (length starts + suc (length steps)) ≡ Some row
  new_row all steps row count =
      let e : length starts + suc (length steps) ≡ suc (length all) = omega arith in
      ap (row_at (all ++ row ∷ [])) e ∙ pushed_last all row

  new_in : (all : List Row) (steps : List Step) (row : Row) (h : Held) → length all ≡ length starts + length steps → made (length starts) steps row ≡ h
      → In (all ++ row ∷ []) h
  new_in all steps row h count e = subst (In (all ++ row ∷ [])) e (new_row all steps row count)

  counted : (all : List Row) (steps : List Step) (row : Row) (step : Step) → length all ≡ length starts + length steps
      → length (all ++ row ∷ []) ≡ length starts + length (steps ++ step ∷ [])
  counted all steps row step count = omega (arith, length_push all row, length_push steps step)

  module _ (watched : List Held) where
    joins_good : (held : List Held) (steps : List Step) (step : Step) (row : Row) (t : Bool) (m : Made watched held steps)
        → made_by m.all step ≡ Some row → Good watched (if t then Going (held ++ made (length starts) steps row ∷ []) (steps ++ step ∷ []) else RowsPast)
    joins_good held steps step row true m e = record {
      all = m.all ++ row ∷ [];
      replays = replay_push starts steps m.all step row m.replays e;
      count = counted m.all steps row step m.count;
      watches = λ h a. number_pushed m.all h.number h.row row (m.watches h a);
      holds = λ h a. elim (among_push h held (made (length starts) steps row) a) [
        | inl p ↦ new_in m.all steps row h m.count p
        | inr p ↦ number_pushed m.all h.number h.row row (m.holds h p)
      ];
    }
    joins_good held steps step row false m e = tt

    taken_good : (held : List Held) (steps : List Step) (step : Step) (row : Row) (f : Fate) (m : Made watched held steps)
        → made_by m.all step ≡ Some row → ClosesWell row f → Good watched (taken (length starts) held steps step row f)
    taken_good held steps step row Closes m e w =
        let some = nonempty steps step in
        record {
          first = some.0;
          rest = some.1;
          some = some.2;
          rows = m.all ++ row ∷ [];
          replays = replay_push starts steps m.all step row m.replays e;
          ends = ends_pushed m.all row ∙ w;
        }
    taken_good held steps step row Drops m e w = m
    taken_good held steps step row (Replaces k) m e w = record {
      all = m.all ++ row ∷ [];
      replays = replay_push starts steps m.all step row m.replays e;
      count = counted m.all steps row step m.count;
      watches = λ h a. number_pushed m.all h.number h.row row (m.watches h a);
      holds = λ h a. elim (among_set h held k (made (length starts) steps row) a) [
        | inl p ↦ new_in m.all steps row h m.count p
        | inr p ↦ number_pushed m.all h.number h.row row (m.holds h p)
      ];
    }
    taken_good held steps step row Joins m e w = joins_good held steps step row (nat_lt (length held) most_rows) m e

    module _ (i : ℕ) (up down : Held) (above : int_lt (pos 0) (coefficient up.row i) ≡ true) (below :
        int_lt (coefficient down.row i) (pos 0) ≡ true) (first : Among up watched) (second : Among down watched) where
      step_good : (held : List Held) (steps : List Step) (m : Made watched held steps) (t u : Bool) → can_sum i up.row down.row ≡ t
          → is_zero (divisor_of (sum_of i up.row down.row)) ≡ u →
          Good watched (if t then taken (length starts) held steps (step_of i up down) (reduced (sum_of i up.row down.row))
          (fate_of held (reduced (sum_of i up.row down.row))) else NumbersPast)
      step_good held steps m true true fits zeros =
          subst (λ f. Good watched (taken (length starts) held steps (step_of i up down) (reduced (sum_of i up.row down.row)) f))
          (sym (zeros_drop (map row_of held) (sum_of i up.row down.row) zeros)) m
      step_good held steps m true false fits nonzero =
          taken_good held steps (step_of i up down) (reduced (sum_of i up.row down.row)) (fate_of held (reduced (sum_of i up.row down.row))) m
          ((λ j. made_of (step_of i up down) (m.watches up first j) (m.watches down second j)) ∙ step_makes i up down above below fits nonzero)
          (fate_well (map row_of held) (reduced (sum_of i up.row down.row)))
      step_good held steps m false u fits zeros = tt

      paired_good : (p : Progress) → Good watched p → Good watched (paired (length starts) i up p down)
      paired_good (Going held steps) m = step_good held steps m (can_sum i up.row down.row) (is_zero (divisor_of (sum_of i up.row down.row))) refl refl
      paired_good (Closed steps) m = m
      paired_good RowsPast m = tt
      paired_good NumbersPast m = tt

    all_good : (i : ℕ) (p : Progress) → Good watched p → Good watched (met_all (length starts) i watched p (ups i watched))
    all_good i p m =
        fold_keeps (Good watched) _ (ups i watched) p
        (λ q up a good.
        let u = among_filter (λ h. int_lt (pos 0) (coefficient h.row i)) up watched a in
        fold_keeps (Good watched) (paired (length starts) i up) (downs i watched) q
        (λ r down b fine.
        let d = among_filter (λ h. int_lt (coefficient h.row i) (pos 0)) down watched b in
        paired_good i up down u.1 d.1 u.0 d.0 r fine)
        good)
        m

  -- how an elimination ends
  abbrev pub EndsWell : Solved → Type 0
  EndsWell (solved_as.Closed steps) = Ended steps
  EndsWell s = Unit {0}

  going_on : (i : ℕ) (watched : List Held) (next : List Held → List Step → Solved) (p : Progress) → Good watched p
      → ((held : List Held) (steps : List Step) → Made held held steps → EndsWell (next held steps)) → EndsWell (continued i next p)
  going_on i watched next (Going held steps) m rest = rest held steps
      (record { all = m.all; replays = m.replays; count = m.count; watches = m.holds; holds = m.holds })
  going_on i watched next (Closed steps) m rest = m
  going_on i watched next RowsPast m rest = tt
  going_on i watched next NumbersPast m rest = tt

  solved_good : (left i : ℕ) (held : List Held) (steps : List Step) (stages : List (List Held)) → Made held held steps
      → EndsWell (solved (length starts) left i held steps stages)
  solved_good zero i held steps stages m = tt
  solved_good (suc left) i held steps stages m =
      going_on i held _ (eliminated (length starts) i held steps)
      (all_good held i (Going (others i held) steps) (record {
        all = m.all;
        replays = m.replays;
        count = m.count;
        watches = m.holds;
        holds = λ h a. m.holds h (among_filter (λ x. is_zero (coefficient x.row i)) h held a).0;
      }))
      (λ next made fine. solved_good left (suc i) next made (stages ++ held ∷ []) fine)

numbers_in : (front rows : List Row) (n : ℕ) (h : Held) → n ≡ suc (length front) → Among h (numbered n rows) → row_at (front ++ rows) h.number ≡ Some h.row
numbers_in front [] n h e p = elim p [ ]
numbers_in front (row ∷ rows) n h e (inl p) =
    subst (λ (x : Held). row_at (front ++ row ∷ rows) x.number ≡ Some x.row) p (ap (row_at (front ++ row ∷ rows)) e ∙ at_front front row rows)
numbers_in front (row ∷ rows) n h e (inr p) =
    subst (λ all. row_at all h.number ≡ Some h.row) (append_assoc front (row ∷ []) rows)
    (numbers_in (front ++ row ∷ []) rows (suc n) h (omega (arith, length_push front row)) p)

-- an elimination of starting rows that closes
pub ends_well : (starts : List Row) (variables : ℕ) → EndsWell starts (solved (length starts) variables 0 (numbered 1 starts) [] [])
ends_well starts variables =
    solved_good starts variables 0 (numbered 1 starts) [] []
    (record {
      all = starts;
      replays = refl;
      count = omega arith;
      watches = λ h a. numbers_in [] starts 1 h refl a;
      holds = λ h a. numbers_in [] starts 1 h refl a;
    })
