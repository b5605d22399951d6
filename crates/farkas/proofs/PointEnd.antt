-- Where elimination ends with no variable left, its point makes true the rows that it began with.
use Rattle.std.proofs.Common.{◌≡◌, ◌⊎◌, ℕ, zero, suc, ◌+◌, ◌<◌, ◌≤◌, Bool, true, false, Option, Some, None, List, [], ◌∷◌, ◌++◌}
use Rattle.std.proofs.Common.{map, set, length, get_or, reverse, sym, ap, ◌∙◌, subst, refl, arith, inl, inr, cond}
use Rattle.std.proofs.Common.{ℤ, pos, neg_ℤ, ◌+ℤ◌, ◌*ℤ◌, ◌≤ℤ◌, ◌<ℤ◌, unsigned_abs}
use Rattle.std.specs.Prelude.{int_lt, int_div, int_rem, if◌then◌else◌, nat_lt}
use Rattle.std.specs.Int.{◌∣◌}
use Rattle.std.specs.List.{fold, filter, list_all}
use Rattle.std.proofs.lemmas.Int.{ints}
use Rattle.std.proofs.lemmas.Bool.{cases_lt, and_parts, and_from, cond_both, false≢true}
use Rattle.std.proofs.lemmas.List.{append_assoc, append-nil, reverse-append}
use Rattle.std.proofs.Math.IntN.{*ℤ_comm, *ℤ-zero, +ℤ_idl}
use Rattle.linear.specs.declared.row.Row.{Row}
use Rattle.linear.specs.Numbers.{is_zero, gcd, scaled, divided, are_multiples}
use Rattle.linear.specs.Rows.{coefficient, added, is_constant, combination, quotient_row, divisor_of, reduced}
use Rattle.linear.specs.laws.Integers.{times_sum, times_assoc, order_back, neg_times}
use Rattle.linear.specs.laws.Divisors.{gcd_divides, multiple, gcd_positive, row_multiples, divisor_positive}
use Rattle.linear.specs.laws.Totals.{exact}
use Rattle.farkas.specs.declared.certificate.Step.{Step}
use Rattle.farkas.specs.declared.elimination.Held.{Held}
use Rattle.farkas.specs.declared.elimination.Solved.TheVariants as solved_as
use Rattle.farkas.specs.declared.keeping.Fate.{Fate}
use Rattle.farkas.specs.declared.keeping.Fate.TheVariants.{Closes, Drops, Replaces, Joins}
use Rattle.farkas.specs.declared.points.Point.{Point}
use Rattle.farkas.specs.Validity.{then_do}
use Rattle.farkas.specs.Keeping.{against, fate, most_rows}
use Rattle.farkas.specs.Elimination.{Progress, Going, Closed, RowsPast, NumbersPast, ups, downs, others, up_times}
use Rattle.farkas.specs.Elimination.{down_times, sum_of, can_sum, step_of, made, taken, row_of, fate_of, paired}
use Rattle.farkas.specs.Elimination.{met_all, eliminated, continued, solved}
use Rattle.farkas.specs.Points.{extended, went_back, no_point}
use Rattle.farkas.proofs.PointRows.{Holds, HoldAll}
use Rattle.farkas.proofs.PointSteps.{In, eliminated_back}
use Rattle.farkas.proofs.PointBounds.{parts, extended_true, zero_is}

-- ---- coefficients of sums and quotients

at_scaled : (m : ℤ) (xs : List ℤ) (j : ℕ) → get_or (scaled m xs) j (pos 0) ≡ m *ℤ get_or xs j (pos 0)
at_scaled m [] j = sym (*ℤ-zero m)
at_scaled m (x ∷ xs) zero = refl
at_scaled m (x ∷ xs) (suc j) = at_scaled m xs j

nothing_before : (z : ℤ) → z ≡ pos 0 +ℤ z
nothing_before z = omega (arith, ints)

nothing_more : (z : ℤ) → z ≡ z +ℤ pos 0
nothing_more z = omega (arith, ints)

at_added : (xs ys : List ℤ) (j : ℕ) → get_or (added xs ys) j (pos 0) ≡ get_or xs j (pos 0) +ℤ get_or ys j (pos 0)
at_added [] ys j = nothing_before (get_or ys j (pos 0))
at_added (x ∷ xs) [] j = nothing_more (get_or (x ∷ xs) j (pos 0))
at_added (x ∷ xs) (y ∷ ys) zero = refl
at_added (x ∷ xs) (y ∷ ys) (suc j) = at_added xs ys j

at_divided : (d : ℤ) (xs : List ℤ) (j : ℕ) → are_multiples d xs ≡ true → get_or xs j (pos 0) ≡ d *ℤ get_or (divided d xs) j (pos 0)
at_divided d [] j h = sym (*ℤ-zero d)
at_divided d (x ∷ xs) zero h = exact x d (and_parts (is_zero (int_rem x d)) (are_multiples d xs) h).0
at_divided d (x ∷ xs) (suc j) h = at_divided d xs j (and_parts (is_zero (int_rem x d)) (are_multiples d xs) h).1

both_bounds : (q : ℤ) → q ≤ℤ pos 0 → pos 0 ≤ℤ q → q ≡ pos 0
both_bounds q h k = omega (arith, ints)

same_order : (x y : ℤ) → x ≡ y → x ≤ℤ y
same_order x y e = omega (arith, ints)

no_factor : (d q : ℤ) → pos 0 <ℤ d → d *ℤ q ≡ pos 0 → q ≡ pos 0
no_factor d q h e =
    both_bounds q (order_back d q (pos 0) h (same_order _ _ (e ∙ sym (*ℤ-zero d)))) (order_back d (pos 0) q h (same_order _ _ (*ℤ-zero d ∙ sym e)))

pub reduced_zero : (row : Row) (j : ℕ) → coefficient row j ≡ pos 0 → coefficient (reduced row) j ≡ pos 0
reduced_zero row j e =
    cond_both (is_zero (divisor_of row)) row (quotient_row (divisor_of row) row) (λ r. coefficient r j ≡ pos 0)
    (λ h. e)
    (λ h. no_factor (divisor_of row) _ (divisor_positive row h) (sym (at_divided (divisor_of row) row.coefficients j (and_parts
    (is_zero (int_rem row.bound (divisor_of row))) (are_multiples (divisor_of row) row.coefficients) (row_multiples row)).1) ∙ e))

sum_at : (m n : ℤ) (a b : Row) (j : ℕ) → coefficient (combination m a n b) j ≡ (m *ℤ coefficient a j) +ℤ (n *ℤ coefficient b j)
sum_at m n a b j = at_added (scaled m a.coefficients) (scaled n b.coefficients) j ∙ (λ k. at_scaled m a.coefficients j k +ℤ at_scaled n b.coefficients j k)

sum_zero : (m n : ℤ) (a b : Row) (j : ℕ) → coefficient a j ≡ pos 0 → coefficient b j ≡ pos 0 → coefficient (combination m a n b) j ≡ pos 0
sum_zero m n a b j e f =
    sum_at m n a b j ∙ ((λ k. (m *ℤ e k) +ℤ (n *ℤ f k)) ∙ ((λ k. *ℤ-zero m k +ℤ *ℤ-zero n k) ∙ +ℤ_idl (pos 0)))

cancels : (x y : ℤ) → x ≡ neg_ℤ y → x +ℤ y ≡ pos 0
cancels x y e = omega (arith, ints)

neg_size : (z : ℤ) → unsigned_abs (neg_ℤ z) ≡ unsigned_abs z
neg_size z = omega (arith, ints)

-- the variable goes
goes : (i : ℕ) (up down : Row) → int_lt (pos 0) (coefficient up i) ≡ true → coefficient (sum_of i up down) i ≡ pos 0
goes i up down u =
    let c = coefficient up i in
    let d = coefficient down i in
    let g = gcd c d in
    let h = gcd_positive c d u in
    let divides = gcd_divides c d in
    let m = int_div (neg_ℤ d) g in
    let n = int_div c g in
    let is_m : neg_ℤ d ≡ g *ℤ m = exact (neg_ℤ d) g (multiple (neg_ℤ d) g (subst (λ k. unsigned_abs g ∣ k) (sym (neg_size d)) divides.1)) in
    let is_n : c ≡ g *ℤ n = exact c g (multiple c g divides.0) in
    -- g (m c) = -d c = -g (n d)
    no_factor g _ h (ap (λ z. g *ℤ z) (sum_at m n up down i) ∙ (times_both g (m *ℤ c) (n *ℤ d) ∙ cancels _ _
    (sym (times_assoc g m c) ∙ (ap (λ z. z *ℤ c) (sym is_m) ∙ (neg_times d c ∙ ap neg_ℤ (*ℤ_comm d c ∙ (ap (λ z. z *ℤ d) is_n ∙ times_assoc g n d)))))))
  where
    times_both : (m a b : ℤ) → m *ℤ (a +ℤ b) ≡ (m *ℤ a) +ℤ (m *ℤ b)
    times_both m a b = times_sum m a b

-- ---- rows that name variables from some on

module _ (n : ℕ) where
  pub record Clean (i : ℕ) (row : Row) : Type 0 where
    pub gone : (j : ℕ) → j < i → coefficient row j ≡ pos 0
    pub within : (j : ℕ) → n ≤ j → coefficient row j ≡ pos 0
    pub some : is_constant row ≡ false

  abbrev pub AllClean : ℕ → List Held → Type 0
  AllClean i held = (h : Held) → In h held → Clean i h.row

  all_zero : (xs : List ℤ) → ((j : ℕ) → get_or xs j (pos 0) ≡ pos 0) → list_all is_zero xs ≡ true
  all_zero [] h = refl
  all_zero (x ∷ xs) h = and_from (is_zero x) (list_all is_zero xs) (ap is_zero (h 0)) (all_zero xs (λ j. h (suc j)))

  -- no row is left where each variable is gone
  none_left : (row : Row) → Clean n row → ⊥
  none_left row c =
      false≢true (sym c.some ∙ all_zero row.coefficients (λ j.
      elim (cases_lt j n) [
        | inl l ↦ c.gone j l
        | inr l ↦ c.within j l
      ]))

  -- ---- what is kept

  not_constant : (kept : List Row) (row : Row) (t : Bool) (u : Bool) (f : Fate) → is_constant row ≡ t →
      (if t then (if u then Closes else Drops) else against row 0 kept) ≡ f → (f ≡ Closes → ⊥) → (f ≡ Drops → ⊥) → is_constant row ≡ false
  not_constant kept row true true f e g p q = absurd (p (sym g))
  not_constant kept row true false f e g p q = absurd (q (sym g))
  not_constant kept row false u f e g p q = e

  pub named : (kept : List Row) (row : Row) (f : Fate) → fate kept row ≡ f → (f ≡ Closes → ⊥) → (f ≡ Drops → ⊥) → is_constant row ≡ false
  named kept row f e p q = not_constant kept row (is_constant row) (int_lt row.bound (pos 0)) f refl e p q

  in_set : (held : List Held) (k : ℕ) (m h : Held) → In h (set held k m) → In h held ⊎ (h ≡ m)
  in_set [] k m h p = inl p
  in_set (x ∷ held) zero m h (inl e) = inr e
  in_set (x ∷ held) zero m h (inr p) = inl (inr p)
  in_set (x ∷ held) (suc k) m h (inl e) = inl (inl e)
  in_set (x ∷ held) (suc k) m h (inr p) =
      elim (in_set held k m h p) [
        | inl q ↦ inl (inr q)
        | inr e ↦ inr e
      ]

  in_push : (held : List Held) (m h : Held) → In h (held ++ m ∷ []) → In h held ⊎ (h ≡ m)
  in_push [] m h (inl e) = inr e
  in_push [] m h (inr p) = inl p
  in_push (x ∷ held) m h (inl e) = inl (inl e)
  in_push (x ∷ held) m h (inr p) =
      elim (in_push held m h p) [
        | inl q ↦ inl (inr q)
        | inr e ↦ inr e
      ]

  clean_more : (i : ℕ) (held more : List Held) (m : Held) → ((h : Held) → In h more → In h held ⊎ (h ≡ m)) → AllClean i held → Clean i m.row →
      AllClean i more
  clean_more i held more m apart all one h p =
      elim (apart h p) [
        | inl q ↦ all h q
        | inr e ↦ subst (λ (x : Held). Clean i x.row) (sym e) one
      ]

  module _ (count : ℕ) where
    abbrev CleanGoing : ℕ → Progress → Type 0
    CleanGoing i (Going held steps) = AllClean i held
    CleanGoing i p = Unit {0}

    -- a row whose coefficients are gone, unless it says nothing
    abbrev Gone : ℕ → Row → Type 0
    Gone i row = ((j : ℕ) → j < i → coefficient row j ≡ pos 0) × ((j : ℕ) → n ≤ j → coefficient row j ≡ pos 0)

    joins_clean : (i : ℕ) (held : List Held) (steps : List Step) (step : Step) (row : Row) (t : Bool) → AllClean i held → Clean i row →
        CleanGoing i (if t then Going (held ++ made count steps row ∷ []) (steps ++ step ∷ []) else RowsPast)
    joins_clean i held steps step row true all one = clean_more i held (held ++ made count steps row ∷ []) (made count steps row)
        (in_push held (made count steps row)) all one
    joins_clean i held steps step row false all one = tt

    taken_clean : (i : ℕ) (held : List Held) (steps : List Step) (step : Step) (row : Row) (f : Fate) → fate_of held row ≡ f → AllClean i held →
        Gone i row → CleanGoing i (taken count held steps step row f)
    taken_clean i held steps step row Closes e all gone = tt
    taken_clean i held steps step row Drops e all gone = all
    taken_clean i held steps step row (Replaces k) e all gone =
        clean_more i held (set held k (made count steps row)) (made count steps row) (in_set held k (made count steps row)) all
        (record { gone = gone.0; within = gone.1; some = named (map row_of held) row (Replaces k) e (λ q. cc) (λ q. cc) })
    taken_clean i held steps step row Joins e all gone =
        joins_clean i held steps step row (nat_lt (length held) most_rows) all
        (record { gone = gone.0; within = gone.1; some = named (map row_of held) row Joins e (λ q. cc) (λ q. cc) })

    -- the sum of a pair is without the variable too
    pair_gone : (i : ℕ) (up down : Row) → Clean i up → Clean i down → int_lt (pos 0) (coefficient up i) ≡ true → Gone (suc i) (reduced (sum_of i up down))
    pair_gone i up down a b u = (
      (λ j l. reduced_zero (sum_of i up down) j
          (elim (cases_lt j i) [
            | inl m ↦ sum_zero (up_times i up down) (down_times i up down) up down j (a.gone j m) (b.gone j m)
            | inr m ↦ (let same : i ≡ j = omega arith in subst (λ k. coefficient (sum_of i up down) k ≡ pos 0) same (goes i up down u))
          ])),
      (λ j l. reduced_zero (sum_of i up down) j (sum_zero (up_times i up down) (down_times i up down) up down j (a.within j l) (b.within j l))),
    )

    sum_clean : (i : ℕ) (up down : Held) (held : List Held) (steps : List Step) (t : Bool) → AllClean (suc i) held → Gone (suc i) (reduced (sum_of i
        up.row down.row)) →
        CleanGoing (suc i) (if t
        then taken count held steps (step_of i up down) (reduced (sum_of i up.row down.row)) (fate_of held (reduced (sum_of i up.row down.row)))
        else NumbersPast)
    sum_clean i up down held steps true all gone = taken_clean (suc i) held steps (step_of i up down) (reduced (sum_of i up.row down.row))
        (fate_of held (reduced (sum_of i up.row down.row))) refl all gone
    sum_clean i up down held steps false all gone = tt

    paired_clean : (i : ℕ) (up : Held) (p : Progress) (down : Held) → Clean i up.row → Clean i down.row → int_lt (pos 0) (coefficient up.row i) ≡ true →
        CleanGoing (suc i) p → CleanGoing (suc i) (paired count i up p down)
    paired_clean i up (Going held steps) down a b u all = sum_clean i up down held steps (can_sum i up.row down.row) all (pair_gone i up.row down.row a b u)
    paired_clean i up (Closed steps) down a b u all = tt
    paired_clean i up RowsPast down a b u all = tt
    paired_clean i up NumbersPast down a b u all = tt

    row_clean : (i : ℕ) (up : Held) (lows : List Held) (p : Progress) → Clean i up.row → AllClean i lows → int_lt (pos 0) (coefficient up.row i) ≡ true →
        CleanGoing (suc i) p → CleanGoing (suc i) (fold (paired count i up) p lows)
    row_clean i up [] p a b u all = all
    row_clean i up (down ∷ lows) p a b u all =
        row_clean i up lows (paired count i up p down) a (λ h q. b h (inr q)) u (paired_clean i up p down a (b down (inl refl)) u all)

    met_clean : (i : ℕ) (stage highs : List Held) (p : Progress) → AllClean i highs → AllClean i (downs i stage) →
        ((h : Held) → In h highs → int_lt (pos 0) (coefficient h.row i) ≡ true) → CleanGoing (suc i) p → CleanGoing (suc i) (met_all count i stage p highs)
    met_clean i stage [] p a b u all = all
    met_clean i stage (up ∷ highs) p a b u all =
        met_clean i stage highs (fold (paired count i up) p (downs i stage)) (λ h q. a h (inr q)) b (λ h q. u h (inr q))
        (row_clean i up (downs i stage) p (a up (inl refl)) b (u up (inl refl)) all)

    filtered : (test : Held → Bool) (x : Held) (xs : List Held) (h : Held) (t : Bool) → test x ≡ t → In h (cond t (x ∷ filter test xs) (filter test xs)) →
        ((h ≡ x) × (test x ≡ true)) ⊎ In h (filter test xs)
    filtered test x xs h true e (inl q) = inl (q, e)
    filtered test x xs h true e (inr q) = inr q
    filtered test x xs h false e q = inr q

    from_filter : (test : Held → Bool) (xs : List Held) (h : Held) → In h (filter test xs) → In h xs × (test h ≡ true)
    from_filter test [] h p = elim p [ ]
    from_filter test (x ∷ xs) h p =
        elim (filtered test x xs h (test x) refl p) [
          | inl q ↦ (inl q.0, ap test q.0 ∙ q.1)
          | inr q ↦ (let r = from_filter test xs h q in (inr r.0, r.1))
        ]

    others_clean : (i : ℕ) (stage : List Held) → AllClean i stage → AllClean (suc i) (others i stage)
    others_clean i stage all h p =
        let r = from_filter (λ (k : Held). is_zero (coefficient k.row i)) stage h p in
        let c = all h r.0 in
        record {
          gone = λ j l.
              elim (cases_lt j i) [
                | inl m ↦ c.gone j m
                | inr m ↦ (let same : i ≡ j = omega arith in subst (λ k. coefficient h.row k ≡ pos 0) same (zero_is (coefficient h.row i) r.1))
              ];
          within = c.within;
          some = c.some;
        }

    stage_clean : (i : ℕ) (stage : List Held) (steps : List Step) → AllClean i stage → CleanGoing (suc i) (eliminated count i stage steps)
    stage_clean i stage steps all =
        met_clean i stage (ups i stage) (Going (others i stage) steps)
        (λ h p. all h (from_filter (λ (k : Held). int_lt (pos 0) (coefficient k.row i)) stage h p).0)
        (λ h p. all h (from_filter (λ (k : Held). int_lt (coefficient k.row i) (pos 0)) stage h p).0)
        (λ h p. (from_filter (λ (k : Held). int_lt (pos 0) (coefficient k.row i)) stage h p).1)
        (others_clean i stage all)

    -- ---- going back

    abbrev pub found : ℕ → List (List Held) → Option Point
    found i [] = Some no_point
    found i (stage ∷ later) = then_do (found (suc i) later) (extended i stage)

    pub record TrueFrom (i : ℕ) (held : List Held) (point : Point) : Type 0 where
      pub positive : pos 0 <ℤ point.denominator
      pub rows : (h : Held) → In h held → Holds i point.denominator point.numerators h.row

    all_hold : (i : ℕ) (den : ℤ) (vs : List ℤ) (held : List Held) → ((h : Held) → In h held → Holds i den vs h.row) → HoldAll i den vs (map row_of held)
    all_hold i den vs [] h = tt
    all_hold i den vs (x ∷ held) h = (h x (inl refl), all_hold i den vs held (λ k p. h k (inr p)))

    one_above : pos 0 <ℤ pos 1
    one_above = omega (arith, ints)

    abbrev Finds : ℕ → List Held → List (List Held) → List (List Held) → Type 0
    Finds i held stages all = (later : List (List Held)) × (all ≡ stages ++ later) × ((point : Point) → found i later ≡ Some point → TrueFrom i held point)

    more_found : (i : ℕ) (held next : List Held) (steps made_steps : List Step) (stages all : List (List Held)) → AllClean i held →
        eliminated count i held steps ≡ Going next made_steps → Finds (suc i) next (stages ++ held ∷ []) all → Finds i held stages all
    more_found i held next steps made_steps stages all clean e f = (
      held ∷ f.0,
      f.1 ∙ append_assoc stages (held ∷ []) f.0,
      λ point q.
          let p = parts (found (suc i) f.0) (extended i held) point q in
          let t = f.2 p.0 p.1 in
          let says = eliminated_back count i p.0.denominator p.0.numerators t.positive held steps next made_steps e
          (all_hold (suc i) p.0.denominator p.0.numerators next t.rows) in
          let r = extended_true i p.0.denominator p.0.numerators t.positive held count says point p.2 in
          record { positive = r.0; rows = r.1 },
    )

    progress_found : (left i : ℕ) (held : List Held) (steps : List Step) (stages all : List (List Held)) (p : Progress) →
        ((next : List Held) (made_steps : List Step) → AllClean (suc i) next →
        solved count left (suc i) next made_steps (stages ++ held ∷ []) ≡ solved_as.Open all → Finds (suc i) next (stages ++ held ∷ []) all) →
        AllClean i held → eliminated count i held steps ≡ p →
        continued i (λ next made_steps. solved count left (suc i) next made_steps (stages ++ held ∷ [])) p ≡ solved_as.Open all → Finds i held stages all
    progress_found left i held steps stages all (Going next made_steps) rest clean e q =
        more_found i held next steps made_steps stages all clean e (rest next made_steps (subst (CleanGoing (suc i)) e (stage_clean i held steps clean)) q)
    progress_found left i held steps stages all (Closed made_steps) rest clean e q = absurd (cc)
    progress_found left i held steps stages all RowsPast rest clean e q = absurd (cc)
    progress_found left i held steps stages all NumbersPast rest clean e q = absurd (cc)

    pub solved_found : (left i : ℕ) (held : List Held) (steps : List Step) (stages all : List (List Held)) → left + i ≡ n → AllClean i held →
        solved count left i held steps stages ≡ solved_as.Open all → Finds i held stages all
    solved_found zero i held steps stages all e clean q =
        let last : i ≡ n = omega arith in (
          [],
          (let same : all ≡ stages = cc in same) ∙ sym (append-nil stages),
          λ point f.
              let same : no_point ≡ point = cc in
              subst (TrueFrom i held) same (record {
                positive = one_above;
                rows = λ h p. absurd (none_left h.row (subst (λ k. Clean k h.row) last (clean h p)));
              }),
        )
    solved_found (suc left) i held steps stages all e clean q =
        progress_found left i held steps stages all (eliminated count i held steps)
        (λ next made_steps c r. solved_found left (suc i) next made_steps (stages ++ held ∷ []) all (omega arith) c r) clean refl q

    -- the point that is worked out from the last variable back
    apart : (o : Option Point) (f g : Point → Option Point) → then_do o (λ p. then_do (f p) g) ≡ then_do (then_do o f) g
    apart None f g = refl
    apart (Some p) f g = refl

    pub back_found : (later earlier : List (List Held)) (i : ℕ) → length earlier ≡ i →
        went_back (reverse later ++ earlier) no_point ≡ then_do (found i later) (went_back earlier)
    back_found [] earlier i e = refl
    back_found (stage ∷ later) earlier i e =
        ap (λ all. went_back (all ++ earlier) no_point) (reverse-append (stage ∷ []) later)
        ∙ (ap (λ all. went_back all no_point) (append_assoc (reverse later) (stage ∷ []) earlier)
        ∙ (back_found later (stage ∷ earlier) (suc i) (ap suc e)
        ∙ (ap (λ k. then_do (found (suc i) later) (λ p. then_do (extended k stage p) (went_back earlier))) e
        ∙ apart (found (suc i) later) (extended i stage) (went_back earlier))))
