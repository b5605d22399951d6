-- A case with a valid certificate can't be: no values of its variables make all of its rows true.
use Rattle.std.proofs.Common.{◌≡◌, ℕ, zero, suc, ◌-◌, List, [], ◌∷◌, ◌++◌, Bool, true, false, Option, Some, None}
use Rattle.std.proofs.Common.{subst, refl, arith, ℤ, pos, ◌<ℤ◌, length, set, inl, inr}
use Rattle.std.specs.Prelude.{int_lt, slice_get, if◌then◌else◌, nat_lt}
use Rattle.std.specs.List.{fold}
use Rattle.std.proofs.lemmas.Int.{ints}
use Rattle.std.proofs.lemmas.Bool.{and_parts, false≢true}
use Rattle.linear.specs.declared.row.Row.{Row}
use Rattle.linear.specs.Rows.{IsTrueOf, quotient_row, is_constant, reduced}
use Rattle.linear.specs.laws.Totals.{combination_true, quotient_true, never_true, reduced_true}
use Rattle.linear.specs.laws.Alternatives.{AllTrue, SomeTrue}
use Rattle.farkas.specs.declared.certificate.Step.{Step}
use Rattle.farkas.specs.declared.certificate.Case.{Case}
use Rattle.farkas.specs.declared.keeping.Starts.{Starts}
use Rattle.farkas.specs.declared.keeping.Starts.TheVariants.{Kept, Contradiction, TooMany}
use Rattle.farkas.specs.declared.keeping.Fate.{Fate}
use Rattle.farkas.specs.declared.keeping.Fate.TheVariants.{Closes, Drops, Replaces, Joins}
use Rattle.farkas.specs.Keeping.{starts, started, settled, fate, most_rows}
use Rattle.farkas.specs.Validity.{row_at, made_by, made_of, then_do, replayed, is_exact, sum_by, closing}
use Rattle.farkas.specs.Validity.{ends_closing, closes, starting_rows, IsValidCase, AreValid}

module _ (value : ℕ → ℤ) where
  -- a row that is there is one of them
  abbrev Perhaps : Option Row → Type 0
  Perhaps None = Unit {0}
  Perhaps (Some row) = IsTrueOf value row

  picked : (rows : List Row) (i : ℕ) → AllTrue value rows → Perhaps (slice_get rows i)
  picked [] i h = tt
  picked (row ∷ rows) zero h = h.0
  picked (row ∷ rows) (suc i) h = picked rows i h.1

  numbered : (rows : List Row) (i : ℕ) → AllTrue value rows → Perhaps (row_at rows i)
  numbered rows zero h = tt
  numbered rows (suc i) h = picked rows i h

  pub push_true : (rows : List Row) (row : Row) → AllTrue value rows → IsTrueOf value row → AllTrue value (rows ++ row ∷ [])
  push_true [] row h p = (p, tt)
  push_true (first ∷ rows) row h p = (h.0, push_true rows row h.1 p)

  set_true : (rows : List Row) (i : ℕ) (row : Row) → AllTrue value rows → IsTrueOf value row → AllTrue value (set rows i row)
  set_true [] i row h p = tt
  set_true (first ∷ rows) zero row h p = (p, h.1)
  set_true (first ∷ rows) (suc i) row h p = (h.0, set_true rows i row h.1 p)

  positive : (z : ℤ) → int_lt (pos 0) z ≡ true → pos 0 <ℤ z
  positive z h = omega (arith, ints)

  negative : (z : ℤ) → int_lt z (pos 0) ≡ true → z <ℤ pos 0
  negative z h = omega (arith, ints)

  exactly : (step : Step) (a b : Row) → is_exact step a b ≡ true → IsTrueOf value a → IsTrueOf value b
      → IsTrueOf value (quotient_row step.divisor (sum_by step a b))
  exactly step a b h p q =
      let s = and_parts (int_lt (pos 0) step.first_times) _ h in
      let t = and_parts (int_lt (pos 0) step.second_times) _ s.1 in
      let u = and_parts (int_lt (pos 0) step.divisor) _ t.1 in
      let v = and_parts _ _ u.1 in
      quotient_true value step.divisor (sum_by step a b) (positive step.divisor u.0) v.1
      (combination_true value step.first_times a step.second_times b (positive step.first_times s.0) (positive step.second_times t.0) p q)

  chosen : (step : Step) (a b : Row) (t : Bool) → is_exact step a b ≡ t → IsTrueOf value a → IsTrueOf value b
      → Perhaps (if t then Some (quotient_row step.divisor (sum_by step a b)) else None)
  chosen step a b true h p q = exactly step a b h p q
  chosen step a b false h p q = tt

  made_true : (step : Step) (a b : Option Row) → Perhaps a → Perhaps b → Perhaps (made_of step a b)
  made_true step None b p q = tt
  made_true step (Some a) None p q = tt
  made_true step (Some a) (Some b) p q = chosen step a b (is_exact step a b) refl p q

  -- what a replay gives is true
  abbrev PerhapsAll : Option (List Row) → Type 0
  PerhapsAll None = Unit {0}
  PerhapsAll (Some rows) = AllTrue value rows

  after : (rows : List Row) (made : Option Row) (steps : List Step) → AllTrue value rows → Perhaps made
      → ((row : Row) → IsTrueOf value row → PerhapsAll (replayed (rows ++ row ∷ []) steps))
      → PerhapsAll (then_do made (λ row. replayed (rows ++ row ∷ []) steps))
  after rows None steps h p rest = tt
  after rows (Some row) steps h p rest = rest row p

  replay_true : (rows : List Row) (steps : List Step) → AllTrue value rows → PerhapsAll (replayed rows steps)
  replay_true rows [] h = h
  replay_true rows (step ∷ steps) h =
      after rows (made_by rows step) steps h
      (made_true step (row_at rows step.first) (row_at rows step.second) (numbered rows step.first h) (numbered rows step.second h))
      (λ row p. replay_true (rows ++ row ∷ []) steps (push_true rows row h p))

  not_last : (row : Option Row) → Perhaps row → closing row ≡ true → ⊥
  not_last None h e = false≢true e
  not_last (Some row) h e =
      let p = and_parts (is_constant row) _ e in
      never_true value row p.0 (negative row.bound p.1) h

  never_closing : (rows : List Row) → AllTrue value rows → ends_closing rows ≡ true → ⊥
  never_closing rows h e = not_last (slice_get rows (length rows - 1)) (picked rows (length rows - 1) h) e

  never_closes : (rows : Option (List Row)) → PerhapsAll rows → closes rows ≡ true → ⊥
  never_closes None h e = false≢true e
  never_closes (Some rows) h e = never_closing rows h e

  -- the kept rows are true
  abbrev Standing : Starts → Type 0
  Standing (Kept rows) = AllTrue value rows
  Standing (Contradiction rows) = AllTrue value rows
  Standing TooMany = Unit {0}

  joins : (kept : List Row) (row : Row) (t : Bool) → AllTrue value kept → IsTrueOf value row → Standing (if t then Kept (kept ++ row ∷ []) else TooMany)
  joins kept row true h p = push_true kept row h p
  joins kept row false h p = tt

  settles : (kept : List Row) (row : Row) (f : Fate) → AllTrue value kept → IsTrueOf value row → Standing (settled kept row f)
  settles kept row Closes h p = push_true kept row h p
  settles kept row Drops h p = h
  settles kept row (Replaces i) h p = set_true kept i row h p
  settles kept row Joins h p = joins kept row (nat_lt (length kept) most_rows) h p

  starts_more : (s : Starts) (row : Row) → Standing s → IsTrueOf value row → Standing (started s row)
  starts_more (Kept kept) row h p = settles kept (reduced row) (fate kept (reduced row)) h (reduced_true value row p)
  starts_more (Contradiction kept) row h p = h
  starts_more TooMany row h p = tt

  starts_true : (rows : List Row) (s : Starts) → Standing s → AllTrue value rows → Standing (fold started s rows)
  starts_true [] s h p = h
  starts_true (row ∷ rows) s h p = starts_true rows (started s row) (starts_more s row h p.0) p.1

  standing_rows : (s : Starts) (rows : List Row) → starting_rows s ≡ Some rows → Standing s → AllTrue value rows
  standing_rows (Kept kept) rows e h = let e' : kept ≡ rows = cc in subst (AllTrue value) e' h
  standing_rows (Contradiction kept) rows e h = let e' : kept ≡ rows = cc in subst (AllTrue value) e' h
  standing_rows TooMany rows e h = absurd (cc)

  pub case_refuted : (rows : List Row) (case : Case) → IsValidCase rows case → AllTrue value rows → ⊥
  case_refuted rows case valid h =
      never_closes (replayed case.starts case.steps)
      (replay_true case.starts case.steps (standing_rows (starts rows) case.starts valid.0 (starts_true rows (Kept []) tt h)))
      valid.1

  pub cases_refuted : (cases : List (List Row)) (certificates : List Case) → AreValid cases certificates → SomeTrue value cases → ⊥
  cases_refuted [] certificates valid h = h
  cases_refuted (case ∷ cases) [] valid h = elim valid [ ]
  cases_refuted (case ∷ cases) (certificate ∷ certificates) valid (inl h) = case_refuted case certificate valid.0 h
  cases_refuted (case ∷ cases) (certificate ∷ certificates) valid (inr h) = cases_refuted cases certificates valid.1 h
