-- The point of an open case makes all of its rows true.
use Rattle.std.proofs.Common.{◌≡◌, ℕ, zero, suc, ◌+◌, ◌≤◌, Bool, true, false, Option, Some, None, List, [], ◌∷◌, ◌++◌}
use Rattle.std.proofs.Common.{map, set, length, get_or, reverse, sym, ap, ◌∙◌, subst, refl, arith, inl, inr, ℤ, pos, ◌+ℤ◌, ◌*ℤ◌, ◌≤ℤ◌, ◌<ℤ◌}
use Rattle.std.specs.Prelude.{int_div, int_rem, if◌then◌else◌, nat_lt}
use Rattle.std.specs.List.{fold}
use Rattle.std.proofs.lemmas.Int.{ints}
use Rattle.std.proofs.lemmas.Bool.{and_parts, cond-false, false_from_ne_true}
use Rattle.std.proofs.lemmas.List.{append-nil}
use Rattle.std.proofs.Math.IntN.{*ℤ-zero}
use Rattle.linear.specs.declared.row.Row.{Row}
use Rattle.linear.specs.Numbers.{is_zero, gcd_of, scaled, are_multiples}
use Rattle.linear.specs.Rows.{total, is_constant, reduced}
use Rattle.linear.specs.laws.Integers.{order_back}
use Rattle.linear.specs.laws.Divisors.{row_multiples, divisor_positive, zero_row}
use Rattle.linear.specs.laws.Totals.{exact}
use Rattle.farkas.specs.declared.elimination.Held.{Held}
use Rattle.farkas.specs.declared.elimination.Solved.{Solved}
use Rattle.farkas.specs.declared.elimination.Solved.TheVariants as solved_as
use Rattle.farkas.specs.declared.keeping.Fate.{Fate}
use Rattle.farkas.specs.declared.keeping.Fate.TheVariants.{Closes, Drops, Replaces, Joins}
use Rattle.farkas.specs.declared.keeping.Starts.{Starts}
use Rattle.farkas.specs.declared.keeping.Starts.TheVariants.{Kept, Contradiction, TooMany}
use Rattle.farkas.specs.declared.points.Point.{Point}
use Rattle.farkas.specs.declared.refuting.End.TheVariants as end
use Rattle.farkas.specs.Validity.{then_do}
use Rattle.farkas.specs.Keeping.{starts, started, settled, fate, most_rows}
use Rattle.farkas.specs.Elimination.{solved, numbered}
use Rattle.farkas.specs.Points.{part, went_back, no_point, least_point, point_of}
use Rattle.farkas.specs.Ends.{at_point, ended, end_from, case_end}
use Rattle.farkas.specs.Shown.{AreTrueAt, Shows, AreOver}
use Rattle.farkas.proofs.PointNumbers.{swap}
use Rattle.farkas.proofs.PointRows.{dot, dot_values, Holds, HoldAll, starts_back}
use Rattle.farkas.proofs.PointSteps.{In}
use Rattle.farkas.proofs.PointBounds.{parts, part_positive, zero_is}
use Rattle.farkas.proofs.PointEnd.{Clean, AllClean, named, reduced_zero, found, solved_found, back_found}

module _ (n : ℕ) where
  -- ---- the rows to start with

  abbrev Ready : List Row → Type 0
  Ready [] = Unit {0}
  Ready (row ∷ rows) = Clean n 0 row × Ready rows

  abbrev ReadyStarts : Starts → Type 0
  ReadyStarts (Kept rows) = Ready rows
  ReadyStarts s = Unit {0}

  past_end : (xs : List ℤ) (j : ℕ) → length xs ≤ j → get_or xs j (pos 0) ≡ pos 0
  past_end [] j h = refl
  past_end (x ∷ xs) zero h = absurd (omega arith)
  past_end (x ∷ xs) (suc j) h = past_end xs j (omega arith)

  clean_row : (row : Row) → length row.coefficients ≤ n → is_constant (reduced row) ≡ false → Clean n 0 (reduced row)
  clean_row row few some = record {
    gone = λ j l. absurd (omega arith);
    within = λ j l. reduced_zero row j (past_end row.coefficients j (omega arith));
    some = some;
  }

  push_ready : (kept : List Row) (row : Row) → Ready kept → Clean n 0 row → Ready (kept ++ row ∷ [])
  push_ready [] row h c = (c, tt)
  push_ready (x ∷ kept) row h c = (h.0, push_ready kept row h.1 c)

  set_ready : (kept : List Row) (k : ℕ) (row : Row) → Ready kept → Clean n 0 row → Ready (set kept k row)
  set_ready [] k row h c = tt
  set_ready (x ∷ kept) zero row h c = (c, h.1)
  set_ready (x ∷ kept) (suc k) row h c = (h.0, set_ready kept k row h.1 c)

  joins_ready : (kept : List Row) (row : Row) (t : Bool) → Ready kept → Clean n 0 row → ReadyStarts (if t then Kept (kept ++ row ∷ []) else TooMany)
  joins_ready kept row true h c = push_ready kept row h c
  joins_ready kept row false h c = tt

  settled_ready : (kept : List Row) (row : Row) (f : Fate) → fate kept (reduced row) ≡ f → Ready kept → length row.coefficients ≤ n →
      ReadyStarts (settled kept (reduced row) f)
  settled_ready kept row Closes e h few = tt
  settled_ready kept row Drops e h few = h
  settled_ready kept row (Replaces k) e h few =
      set_ready kept k (reduced row) h (clean_row row few (named n kept (reduced row) (Replaces k) e (λ q. cc) (λ q. cc)))
  settled_ready kept row Joins e h few =
      joins_ready kept (reduced row) (nat_lt (length kept) most_rows) h
      (clean_row row few (named n kept (reduced row) Joins e (λ q. cc) (λ q. cc)))

  started_ready : (s : Starts) (row : Row) → ReadyStarts s → length row.coefficients ≤ n → ReadyStarts (started s row)
  started_ready (Kept kept) row h few = settled_ready kept row (fate kept (reduced row)) refl h few
  started_ready (Contradiction kept) row h few = tt
  started_ready TooMany row h few = tt

  starts_ready : (rows : List Row) (s : Starts) → ReadyStarts s → AreOver n rows → ReadyStarts (fold started s rows)
  starts_ready [] s h few = h
  starts_ready (row ∷ rows) s h few = starts_ready rows (started s row) (started_ready s row h few.0) few.1

  numbered_clean : (k : ℕ) (rows : List Row) → Ready rows → AllClean n 0 (numbered k rows)
  numbered_clean k [] h x p = elim p [ ]
  numbered_clean k (row ∷ rows) h x (inl e) = subst (λ (y : Held). Clean n 0 y.row) (sym e) h.0
  numbered_clean k (row ∷ rows) h x (inr p) = numbered_clean (suc k) rows h.1 x p

-- ---- the least denominator

positive_not_zero : (z : ℤ) → pos 0 <ℤ z → is_zero z ≡ true → ⊥
positive_not_zero z h e = let f = zero_is z e in omega (arith, ints, f)

parts_back : (g : ℤ) (xs : List ℤ) → is_zero g ≡ false → are_multiples g xs ≡ true → xs ≡ scaled g (map (λ x. part x g) xs)
parts_back g [] h m = refl
parts_back g (x ∷ xs) h m =
    let p = and_parts (is_zero (int_rem x g)) (are_multiples g xs) m in
    λ j. (exact x g p.0 ∙ ap (λ q. g *ℤ q) (sym (cond-false (is_zero g) x (int_div x g) h))) j ∷ parts_back g xs h p.1 j

same_left : (a b c : ℤ) → a ≡ b → b ≤ℤ c → a ≤ℤ c
same_left a b c e h = omega (arith, ints)

same_right : (a b c : ℤ) → a ≤ℤ b → b ≡ c → a ≤ℤ c
same_right a b c h e = omega (arith, ints)

-- a row that holds at a point holds at it with the least denominator
least_holds : (den : ℤ) (vs : List ℤ) → pos 0 <ℤ den → let least = least_point (record { denominator = den; numerators = vs }) in
    (pos 0 <ℤ least.denominator) × ((row : Row) → Holds 0 den vs row → Holds 0 least.denominator least.numerators row)
least_holds den vs positive =
    let numbers : Row = record { coefficients = vs; bound = den } in
    let g = gcd_of (den ∷ vs) in
    let some : is_zero g ≡ false = false_from_ne_true (is_zero g) (λ e. positive_not_zero den positive (zero_row numbers e).0) in
    let h : pos 0 <ℤ g = divisor_positive numbers some in
    let m = and_parts (is_zero (int_rem den g)) (are_multiples g vs) (row_multiples numbers) in
    let own : den ≡ g *ℤ part den g = exact den g m.0 ∙ ap (λ q. g *ℤ q) (sym (cond-false (is_zero g) den (int_div den g) some)) in
    let rest : vs ≡ scaled g (map (λ x. part x g) vs) = parts_back g vs some m.1 in (
      part_positive den g (part den g) own positive h,
      λ row p.
          order_back g _ _ h
          (same_left _ _ _ (sym (ap (dot row.coefficients) rest ∙ dot_values g row.coefficients (map (λ x. part x g) vs)))
          (same_right _ _ _ p (ap (λ z. row.bound *ℤ z) own ∙ swap row.bound g (part den g)))),
    )

-- ---- the sums of the definition

nothing_more : (z : ℤ) → z ≡ z +ℤ pos 0
nothing_more z = omega (arith, ints)

total_none : (xs : List ℤ) → total xs (λ (i : ℕ). pos 0) ≡ pos 0
total_none [] = refl
total_none (x ∷ xs) = (λ j. *ℤ-zero x j +ℤ total_none xs j) ∙ sym (nothing_more (pos 0))

total_dot : (xs vs : List ℤ) → total xs (λ i. get_or vs i (pos 0)) ≡ dot xs vs
total_dot [] vs = refl
total_dot (x ∷ xs) [] = total_none (x ∷ xs)
total_dot (x ∷ xs) (v ∷ vs) = ap (λ z. (x *ℤ v) +ℤ z) (total_dot xs vs)

all_true_at : (point : Point) (rows : List Row) → HoldAll 0 point.denominator point.numerators rows → AreTrueAt point rows
all_true_at point [] h = tt
all_true_at point (row ∷ rows) h =
    (subst (λ z. z ≤ℤ (row.bound *ℤ point.denominator)) (sym (total_dot row.coefficients point.numerators)) h.0, all_true_at point rows h.1)

-- ---- a case

held_all : (den : ℤ) (vs : List ℤ) (k : ℕ) (rows : List Row) → ((h : Held) → In h (numbered k rows) → Holds 0 den vs h.row) → HoldAll 0 den vs rows
held_all den vs k [] h = tt
held_all den vs k (row ∷ rows) h = (h (record { row = row; number = k }) (inl refl), held_all den vs (suc k) rows (λ x p. h x (inr p)))

all_least : (den : ℤ) (vs : List ℤ) (den' : ℤ) (vs' : List ℤ) → ((row : Row) → Holds 0 den vs row → Holds 0 den' vs' row) → (rows : List Row) →
    HoldAll 0 den vs rows → HoldAll 0 den' vs' rows
all_least den vs den' vs' f [] h = tt
all_least den vs den' vs' f (row ∷ rows) h = (f row h.0, all_least den vs den' vs' f rows h.1)

point_is : (o : Option Point) (point : Point) → at_point o ≡ end.Open point → o ≡ Some point
point_is None point e = absurd (cc)
point_is (Some p) point e = cc

module _ (n : ℕ) (rows : List Row) (few : AreOver n rows) (point : Point) where
  open_shows : (kept : List Row) (s : Solved) → starts rows ≡ Kept kept → solved (length kept) n 0 (numbered 1 kept) [] [] ≡ s →
      ended kept s ≡ end.Open point → Shows point rows
  open_shows kept (solved_as.Closed steps) k e q = absurd (cc)
  open_shows kept (solved_as.RowsPast i) k e q = absurd (cc)
  open_shows kept solved_as.NumbersPast k e q = absurd (cc)
  open_shows kept (solved_as.Open stages) k e q =
      let ready : Ready n kept = subst (ReadyStarts n) k (starts_ready n rows (Kept []) tt few) in
      let whole : n + 0 ≡ n = omega arith in
      let f = solved_found n (length kept) n 0 (numbered 1 kept) [] [] stages whole (numbered_clean n 1 kept ready) e in
      let p = parts (went_back (reverse stages) no_point) (λ x. Some (least_point x)) point (point_is (point_of stages) point q) in
      let back : found n (length kept) 0 f.0 ≡ Some p.0 =
      sym (back_then (found n (length kept) 0 f.0))
      ∙ (sym (back_found n (length kept) f.0 [] 0 refl)
      ∙ (ap (λ all. went_back all no_point) (append-nil (reverse f.0) ∙ ap reverse (sym f.1)) ∙ p.1)) in
      let t = f.2 p.0 back in
      let least = least_holds p.0.denominator p.0.numerators t.positive in
      let at_kept = held_all p.0.denominator p.0.numerators 1 kept t.rows in
      let at_rows = (starts_back 0 p.0.denominator p.0.numerators t.positive rows [] kept k at_kept).1 in
      let same : least_point p.0 ≡ point = (let g = p.2 in cc) in
      subst (λ x. Shows x rows) same (record {
        positive = least.0;
        each = all_true_at (least_point p.0) rows (all_least p.0.denominator p.0.numerators (least_point p.0).denominator
            (least_point p.0).numerators least.1 rows at_rows);
      })
    where
      back_then : (o : Option Point) → then_do o (λ x. Some x) ≡ o
      back_then None = refl
      back_then (Some x) = refl

  starts_shows : (s : Starts) → starts rows ≡ s → end_from n s ≡ end.Open point → Shows point rows
  starts_shows (Kept kept) k q = open_shows kept (solved (length kept) n 0 (numbered 1 kept) [] []) k refl q
  starts_shows (Contradiction kept) k q = absurd (cc)
  starts_shows TooMany k q = absurd (cc)

  -- the point of an open case shows that its rows can be true
  pub case_shows : case_end n rows ≡ end.Open point → Shows point rows
  case_shows q = starts_shows (starts rows) refl q
