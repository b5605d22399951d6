-- The steps that the last one stands on make its row too.
use Rattle.std.proofs.Common.{◌≡◌, ℕ, zero, suc, ◌+◌, ◌-◌, ◌<◌, ◌≤◌, ◌≢◌, Bool, true, false, Option, Some, None, List}
use Rattle.std.proofs.Common.{[], ◌∷◌, ◌++◌, length, get_or, set, replicate, reverse, sym, ap, ◌∙◌, subst, refl}
use Rattle.std.proofs.Common.{arith, inl, inr, length-set}
use Rattle.std.specs.Prelude.{slice_get, slice_index, if◌then◌else◌}
use Rattle.std.proofs.lemmas.Bool.{cases_Bool, cases_eq, cond-true, cond-false, false≢true}
use Rattle.std.proofs.lemmas.List.{get_or-set_same, get_or-set_other, get_or_append_left, get_or_at, length_push}
use Rattle.std.proofs.lemmas.List.{length-replicate, length-reverse, reverse-append}
use Rattle.linear.specs.declared.row.Row.{Row}
use Rattle.farkas.specs.declared.certificate.Step.{Step}
use Rattle.farkas.specs.Pruning.{marked, last_marked, renumbered, pruned, up_to, stood_on}
use Rattle.farkas.specs.Validity.{row_at, made_by, made_of, then_do, replayed, ends_closing, closing}

-- a row is marked
abbrev Marked : List Bool → ℕ → Type 0
Marked marks r = get_or marks r false ≡ true

-- a fact of each step with its number, from one on, and the same from the last step back
abbrev Forth : (ℕ → Step → Type 0) → ℕ → List Step → Type 0
Forth P n [] = Unit {0}
Forth P n (step ∷ steps) = P n step × Forth P (suc n) steps

abbrev Back : (ℕ → Step → Type 0) → ℕ → List Step → Type 0
Back P before [] = Unit {0}
Back P before (step ∷ earlier) = P (before + suc (length earlier)) step × Back P before earlier

moved : (P : ℕ → Step → Type 0) (m n : ℕ) (step : Step) → m ≡ n → P m step → P n step
moved P m n step e p = subst (λ k. P k step) e p

back_push : (P : ℕ → Step → Type 0) (before : ℕ) (steps : List Step) (step : Step) → P (suc before) step → Back P (suc before) steps
    → Back P before (steps ++ step ∷ [])
back_push P before [] step p h = (moved P (suc before) (before + suc 0) step (omega arith) p, tt)
back_push P before (last ∷ earlier) step p h = (
  moved P (suc before + suc (length earlier)) (before + suc (length (earlier ++ step ∷ []))) last (omega (arith, length_push earlier step)) h.0,
  back_push P before earlier step p h.1,
)

back_first : (P : ℕ → Step → Type 0) (before : ℕ) (steps : List Step) (step : Step) → Back P before (steps ++ step ∷ [])
    → P (suc before) step × Back P (suc before) steps
back_first P before [] step h = (moved P (before + suc 0) (suc before) step (omega arith) h.0, tt)
back_first P before (last ∷ earlier) step h =
    let rest = back_first P before earlier step h.1 in (
      rest.0,
      (
        moved P (before + suc (length (earlier ++ step ∷ []))) (suc before + suc (length earlier)) last
            (omega (arith, length_push earlier step)) h.0,
        rest.1,
      ),
    )

reverse_more : (step : Step) (steps : List Step) → reverse (step ∷ steps) ≡ reverse steps ++ step ∷ []
reverse_more step steps = reverse-append (step ∷ []) steps

turned : (P : ℕ → Step → Type 0) (before : ℕ) (steps : List Step) → Forth P (suc before) steps → Back P before (reverse steps)
turned P before [] h = tt
turned P before (step ∷ steps) h = subst (Back P before) (sym (reverse_more step steps))
    (back_push P before (reverse steps) step h.0 (turned P (suc before) steps h.1))

turned_back : (P : ℕ → Step → Type 0) (before : ℕ) (steps : List Step) → Back P before (reverse steps) → Forth P (suc before) steps
turned_back P before [] h = tt
turned_back P before (step ∷ steps) h =
    let p = back_first P before (reverse steps) step (subst (Back P before) (reverse_more step steps) h) in
    (p.0, turned_back P (suc before) steps p.1)

-- ---- marks

set_keeps : (marks : List Bool) (r q : ℕ) → Marked marks q → Marked (set marks r true) q
set_keeps [] r q h = h
set_keeps (m ∷ marks) zero zero h = refl
set_keeps (m ∷ marks) zero (suc q) h = h
set_keeps (m ∷ marks) (suc r) zero h = h
set_keeps (m ∷ marks) (suc r) (suc q) h = set_keeps marks r q h

both_marked : List Bool → Step → List Bool
both_marked marks step = set (set marks step.first true) step.second true

next_marks : List Bool → Step → Bool → List Bool
next_marks marks step flag = if flag then set (set marks step.first true) step.second true else marks

next_keeps : (marks : List Bool) (step : Step) (flag : Bool) (q : ℕ) → Marked marks q
    → Marked (if flag then set (set marks step.first true) step.second true else marks) q
next_keeps marks step true q h = set_keeps (set marks step.first true) step.second q (set_keeps marks step.first q h)
next_keeps marks step false q h = h

next_length : (marks : List Bool) (step : Step) (flag : Bool) →
    length (if flag then set (set marks step.first true) step.second true else marks) ≡ length marks
next_length marks step true = length-set (set marks step.first true) step.second true ∙ length-set marks step.first true
next_length marks step false = refl

next_other : (marks : List Bool) (step : Step) (flag : Bool) (q : ℕ) → step.first < q → step.second < q
    → get_or (if flag then set (set marks step.first true) step.second true else marks) q false ≡ get_or marks q false
next_other marks step true q h k =
    let p : q ≢ step.second = omega arith in
    let r : q ≢ step.first = omega arith in
    get_or-set_other (set marks step.first true) step.second q true false p ∙ get_or-set_other marks step.first q true false r
next_other marks step false q h k = refl

module _ (count : ℕ) where
  -- the rows of a step are earlier ones
  abbrev Earlier : ℕ → Step → Type 0
  Earlier n step = (step.first < n) × (step.second < n)

  -- the rows of a marked step are marked
  abbrev Closed : List Bool → ℕ → Step → Type 0
  Closed marks n step = Marked marks n → Marked marks step.first × Marked marks step.second

  marked_keeps : (steps : List Step) (marks : List Bool) (q : ℕ) → Marked marks q → Marked (marked count steps marks) q
  marked_keeps [] marks q h = h
  marked_keeps (step ∷ earlier) marks q h = marked_keeps earlier _ q (next_keeps marks step (get_or marks (count + suc (length earlier)) false) q h)

  untouched : (steps : List Step) (marks : List Bool) (q : ℕ) → Back Earlier count steps → count + length steps < q
      → get_or (marked count steps marks) q false ≡ get_or marks q false
  untouched [] marks q h l = refl
  untouched (step ∷ earlier) marks q h l =
      untouched earlier _ q h.1 (omega arith)
      ∙ next_other marks step (get_or marks (count + suc (length earlier)) false) q (let k : step.first < q = omega (arith, h.0.0) in
      k) (let k : step.second < q = omega (arith, h.0.1) in k)

  next_both : (marks : List Bool) (step : Step) (flag : Bool) → flag ≡ true → step.first < length marks → step.second < length marks
      → Marked (if flag then set (set marks step.first true) step.second true else marks) step.first × Marked
      (if flag then set (set marks step.first true) step.second true else marks) step.second
  next_both marks step true e h k = (
    set_keeps (set marks step.first true) step.second step.first (get_or-set_same marks step.first true false h),
    get_or-set_same (set marks step.first true) step.second true false (let l : step.second < length (set marks step.first true) =
        omega (arith, length-set marks step.first true) in l),
  )
  next_both marks step false e h k = absurd (false≢true e)

  closed_marks : (steps : List Step) (marks : List Bool) → Back Earlier count steps → count + length steps < length marks
      → Back (Closed (marked count steps marks)) count steps
  closed_marks [] marks h l = tt
  closed_marks (step ∷ earlier) marks h l =
      let n = count + suc (length earlier) in
      let flag = get_or marks (count + suc (length earlier)) false in
      let next = if get_or marks (count + suc (length earlier)) false then set (set marks step.first true) step.second true else marks in
      let long : length next ≡ length marks = next_length marks step flag in
      let same : get_or (marked count earlier next) n false ≡ get_or marks n false =
      untouched earlier next n h.1 (omega arith) ∙ next_other marks step flag n h.0.0 h.0.1 in (
        (λ m.
            let both = next_both marks step flag (sym same ∙ m) (let k : step.first < length marks = omega (arith, h.0.0) in
            k) (let k : step.second < length marks = omega (arith, h.0.1) in k) in
            (marked_keeps earlier next step.first both.0, marked_keeps earlier next step.second both.1)),
        closed_marks earlier next h.1 (omega arith),
      )

-- ---- rows

found : (rows : List Row) (i : ℕ) → i < length rows → (row : Row) × (slice_get rows i ≡ Some row)
found [] i h = absurd (omega arith)
found (row ∷ rows) zero h = (row, refl)
found (row ∷ rows) (suc i) h = found rows i (omega arith)

within : (rows : List Row) (i : ℕ) (row : Row) → slice_get rows i ≡ Some row → i < length rows
within [] i row e = absurd (cc)
within (first ∷ rows) zero row e = omega arith
within (first ∷ rows) (suc i) row e = let l : i < length rows = within rows i row e in omega arith

pub pushed : (rows : List Row) (i : ℕ) (row more : Row) → slice_get rows i ≡ Some row → slice_get (rows ++ more ∷ []) i ≡ Some row
pushed [] i row more e = absurd (cc)
pushed (first ∷ rows) zero row more e = e
pushed (first ∷ rows) (suc i) row more e = pushed rows i row more e

pub pushed_last : (rows : List Row) (more : Row) → slice_get (rows ++ more ∷ []) (length rows) ≡ Some more
pushed_last [] more = refl
pushed_last (first ∷ rows) more = pushed_last rows more

pub number_pushed : (rows : List Row) (n : ℕ) (row more : Row) → row_at rows n ≡ Some row → row_at (rows ++ more ∷ []) n ≡ Some row
number_pushed rows zero row more e = absurd (cc)
number_pushed rows (suc i) row more e = pushed rows i row more e

number_within : (rows : List Row) (n : ℕ) (row : Row) → row_at rows n ≡ Some row → (0 < n) × (n < suc (length rows))
number_within rows zero row e = absurd (cc)
number_within rows (suc i) row e = let l = within rows i row e in (omega arith, omega arith)

pub ends_pushed : (rows : List Row) (more : Row) → ends_closing (rows ++ more ∷ []) ≡ closing (Some more)
ends_pushed rows more =
    let e : length (rows ++ more ∷ []) - 1 ≡ length rows = omega (arith, length_push rows more) in
    ap closing (ap (slice_get (rows ++ more ∷ [])) e ∙ pushed_last rows more)

some_back : (a b : List Row) → Some a ≡ Some b → a ≡ b
some_back a b e = cc

-- the rows of a step that makes one
record Makes (rows : List Row) (step : Step) (made : Row) : Type 0 where
  first : Row
  second : Row
  has_first : row_at rows step.first ≡ Some first
  has_second : row_at rows step.second ≡ Some second
  makes : made_of step (Some first) (Some second) ≡ Some made

made_from : (step : Step) (a b : Option Row) (rows : List Row) (made : Row) → row_at rows step.first ≡ a → row_at rows step.second ≡ b
    → made_of step a b ≡ Some made → Makes rows step made
made_from step None b rows made p q e = absurd (cc)
made_from step (Some a) None rows made p q e = absurd (cc)
made_from step (Some a) (Some b) rows made p q e = record { first = a; second = b; has_first = p; has_second = q; makes = e }

made_with : (rows : List Row) (step : Step) (made : Row) → made_by rows step ≡ Some made → Makes rows step made
made_with rows step made e = made_from step (row_at rows step.first) (row_at rows step.second) rows made refl refl e

-- a replay goes on with the row that its first step makes
goes_on : (rows : List Row) (o : Option Row) (steps : List Step) (all : List Row) → then_do o (λ row. replayed (rows ++ row ∷ []) steps) ≡ Some all
    → (row : Row) × (o ≡ Some row) × (replayed (rows ++ row ∷ []) steps ≡ Some all)
goes_on rows None steps all e = absurd (cc)
goes_on rows (Some row) steps all e = (row, refl, e)

earlier_rows : (rows : List Row) (steps : List Step) (all : List Row) → replayed rows steps ≡ Some all → Forth (Earlier 0) (suc (length rows)) steps
earlier_rows rows [] all e = tt
earlier_rows rows (step ∷ steps) all e =
    let g = goes_on rows (made_by rows step) steps all e in
    let m = made_with rows step g.0 g.1 in
    let p = number_within rows step.first m.first m.has_first in
    let q = number_within rows step.second m.second m.has_second in (
      (p.1, q.1),
      subst (λ n. Forth (Earlier 0) n steps) (let e : suc (length (rows ++ g.0 ∷ [])) ≡ suc (suc (length rows)) =
          omega (arith, length_push rows g.0) in e) (earlier_rows (rows ++ g.0 ∷ []) steps all g.2),
    )

-- rows that are kept among fewer: a marked one has its new number
abbrev Kept : List Bool → List Row → List Row → List ℕ → Type 0
Kept marks rows few numbers = (i : ℕ) → i < length rows → Marked marks (suc i) → row_at few (slice_index numbers (suc i)) ≡ row_at rows (suc i)

-- the fewer rows end as all of them
pub record Again (few : List Row) (steps : List Step) (all : List Row) : Type 0 where
  pub rows : List Row
  pub again : replayed few steps ≡ Some rows
  pub ends : ends_closing rows ≡ ends_closing all

module _ (marks : List Bool) where
  kept_more : (rows few : List Row) (numbers : List ℕ) (before : ℕ) (made : Row) → length numbers ≡ suc (length rows) → before ≡ length few
      → Kept marks rows few numbers → Kept marks (rows ++ made ∷ []) (few ++ made ∷ []) (numbers ++ suc before ∷ [])
  kept_more rows few numbers before made long count kept i h m =
      elim (cases_eq i (length rows)) [
        | inl e ↦
            (let here : length numbers ≡ suc i = omega arith in
            ap (row_at (few ++ made ∷ [])) (get_or_at numbers (suc before) [] 0 (suc i) here)
            ∙ (ap (slice_get (few ++ made ∷ [])) count ∙ (pushed_last few made
            ∙ sym (ap (slice_get (rows ++ made ∷ [])) e ∙ pushed_last rows made))))
        | inr ne ↦
            (let small : i < length rows = omega (arith, length_push rows made) in
            let row = found rows i small in
            let near : suc i < length numbers = omega arith in
            ap (row_at (few ++ made ∷ [])) (get_or_append_left numbers (suc before ∷ []) 0 (suc i) near)
            ∙ (number_pushed few (slice_index numbers (suc i)) row.0 made (kept i small m ∙ row.1)
            ∙ sym (pushed rows i row.0 made row.1)))
      ]

  kept_less : (rows few : List Row) (numbers : List ℕ) (made : Row) → length numbers ≡ suc (length rows) → get_or marks (length numbers) false ≡ false
      → Kept marks rows few numbers → Kept marks (rows ++ made ∷ []) few (numbers ++ 0 ∷ [])
  kept_less rows few numbers made long unmarked kept i h m =
      elim (cases_eq i (length rows)) [
        | inl e ↦
            (let here : length numbers ≡ suc i = omega arith in
            absurd (false≢true (sym unmarked ∙ (ap (λ k. get_or marks k false) here ∙ m))))
        | inr ne ↦
            (let small : i < length rows = omega (arith, length_push rows made) in
            let row = found rows i small in
            let near : suc i < length numbers = omega arith in
            ap (row_at few) (get_or_append_left numbers (0 ∷ []) 0 (suc i) near)
            ∙ (kept i small m ∙ (row.1 ∙ sym (pushed rows i row.0 made row.1))))
      ]

  -- the number of a row that is there is above 0
  kept_row : (rows few : List Row) (numbers : List ℕ) (n : ℕ) (row : Row) → Kept marks rows few numbers → row_at rows n ≡ Some row → Marked marks n
      → row_at few (slice_index numbers n) ≡ Some row
  kept_row rows few numbers zero row kept e m = absurd (cc)
  kept_row rows few numbers (suc i) row kept e m = kept i (within rows i row e) m ∙ e

  made_again : (rows few : List Row) (numbers : List ℕ) (step : Step) (made : Row) → Kept marks rows few numbers → Makes rows step made
      → Marked marks step.first → Marked marks step.second → made_by few (renumbered numbers step) ≡ Some made
  made_again rows few numbers step made kept m p q =
      (λ j. made_of (renumbered numbers step) (kept_row rows few numbers step.first m.first kept m.has_first p j)
      (kept_row rows few numbers step.second m.second kept m.has_second q j)) ∙ m.makes

  -- the list after a step that is kept, and after one that isn't
  with_step : (numbers : List ℕ) (before : ℕ) (step : Step) (steps : List Step) → get_or marks (length numbers) false ≡ true
      → pruned marks numbers before (step ∷ steps) ≡ renumbered numbers step ∷ pruned marks (numbers ++ suc before ∷ []) (suc before) steps
  with_step numbers before step steps h = cond-true (get_or marks (length numbers) false) _ _ h

  without_step : (numbers : List ℕ) (before : ℕ) (step : Step) (steps : List Step) → get_or marks (length numbers) false ≡ false
      → pruned marks numbers before (step ∷ steps) ≡ pruned marks (numbers ++ 0 ∷ []) before steps
  without_step numbers before step steps h = cond-false (get_or marks (length numbers) false) _ _ h

  longer : (rows : List Row) (numbers : List ℕ) (made : Row) (n : ℕ) → length numbers ≡ suc (length rows)
      → length (numbers ++ n ∷ []) ≡ suc (length (rows ++ made ∷ []))
  longer rows numbers made n long = omega (arith, length_push rows made, length_push numbers n)

  replay_again : (steps : List Step) (step : Step) (rows few : List Row) (numbers : List ℕ) (before : ℕ) (all : List Row) →
      length numbers ≡ suc (length rows) → before ≡ length few → Kept marks rows few numbers →
      Forth (Closed 0 marks) (length numbers) (step ∷ steps) → Marked marks (length numbers + length steps) →
      replayed rows (step ∷ steps) ≡ Some all → Again few (pruned marks numbers before (step ∷ steps)) all
  replay_again [] step rows few numbers before all long count kept closed last e =
      let g = goes_on rows (made_by rows step) [] all e in
      let m = made_with rows step g.0 g.1 in
      let here : Marked marks (length numbers) = subst (Marked marks) (let z : length numbers + 0 ≡ length numbers = omega arith in z) last in
      let both = closed.0 here in
      let whole : rows ++ g.0 ∷ [] ≡ all = some_back (rows ++ g.0 ∷ []) all g.2 in
      record {
        rows = few ++ g.0 ∷ [];
        again = ap (replayed few) (with_step numbers before step [] here)
            ∙ ap (λ o. then_do o (λ row. replayed (few ++ row ∷ []) [])) (made_again rows few numbers step g.0 kept m both.0 both.1);
        ends = ends_pushed few g.0 ∙ (sym (ends_pushed rows g.0) ∙ ap ends_closing whole);
      }
  replay_again (next ∷ rest) step rows few numbers before all long count kept closed last e =
      let g = goes_on rows (made_by rows step) (next ∷ rest) all e in
      let m = made_with rows step g.0 g.1 in
      elim (cases_Bool (get_or marks (length numbers) false)) [
        | inl here ↦
            (let both = closed.0 here in
            let more : suc (length numbers) ≡ length (numbers ++ suc before ∷ []) = omega (arith, length_push numbers (suc before)) in
            let end : length numbers + length (next ∷ rest) ≡ length (numbers ++ suc before ∷ []) + length rest =
            omega (arith, length_push numbers (suc before)) in
            let count' : suc before ≡ length (few ++ g.0 ∷ []) = omega (arith, length_push few g.0) in
            let rec = replay_again rest next (rows ++ g.0 ∷ []) (few ++ g.0 ∷ []) (numbers ++ suc before ∷ []) (suc before) all
            (longer rows numbers g.0 (suc before) long) count' (kept_more rows few numbers before g.0 long count kept)
            (subst (λ n. Forth (Closed 0 marks) n (next ∷ rest)) more closed.1) (subst (Marked marks) end last) g.2 in
            record {
              rows = rec.rows;
              again = ap (replayed few) (with_step numbers before step (next ∷ rest) here)
                  ∙ (ap (λ o. then_do o (λ row. replayed (few ++ row ∷ []) (pruned marks (numbers ++ suc before ∷ []) (suc before) (next ∷ rest))))
                  (made_again rows few numbers step g.0 kept m both.0 both.1)
                  ∙ rec.again);
              ends = rec.ends;
            })
        | inr not_here ↦
            (let more : suc (length numbers) ≡ length (numbers ++ 0 ∷ []) = omega (arith, length_push numbers 0) in
            let end : length numbers + length (next ∷ rest) ≡ length (numbers ++ 0 ∷ []) + length rest = omega (arith, length_push numbers 0) in
            let rec = replay_again rest next (rows ++ g.0 ∷ []) few (numbers ++ 0 ∷ []) before all
            (longer rows numbers g.0 0 long) count (kept_less rows few numbers g.0 long not_here kept)
            (subst (λ n. Forth (Closed 0 marks) n (next ∷ rest)) more closed.1) (subst (Marked marks) end last) g.2 in
            record {
              rows = rec.rows;
              again = ap (replayed few) (without_step numbers before step (next ∷ rest) not_here) ∙ rec.again;
              ends = rec.ends;
            })
      ]

up_to_length : (n : ℕ) → length (up_to n) ≡ suc n
up_to_length zero = refl
up_to_length (suc n) = omega (arith, length_push (up_to n) (suc n), up_to_length n)

up_to_at : (n i : ℕ) → i ≤ n → slice_index (up_to n) i ≡ i
up_to_at zero zero h = refl
up_to_at zero (suc i) h = absurd (omega arith)
up_to_at (suc n) i h =
    elim (cases_eq i (suc n)) [
      | inl e ↦ get_or_at (up_to n) (suc n) [] 0 i (up_to_length n ∙ sym e) ∙ sym e
      | inr ne ↦ get_or_append_left (up_to n) (suc n ∷ []) 0 i (let l : i < length (up_to n) = omega (arith, up_to_length n) in l) ∙
          up_to_at n i (omega arith)
    ]

last_is_marked : (count : ℕ) (steps : List Step) → Marked (last_marked count steps) (count + length steps)
last_is_marked count steps = get_or_at (replicate (count + length steps) false) true [] false (count + length steps)
    (length-replicate (count + length steps) false)

last_length : (count : ℕ) (steps : List Step) → length (last_marked count steps) ≡ suc (count + length steps)
last_length count steps = omega (arith, length_push (replicate (count + length steps) false) true, length-replicate (count + length steps) false)

-- the steps that the last one stands on end as all of them
pub stood_on_again : (starts : List Row) (step : Step) (steps : List Step) (all : List Row) → replayed starts (step ∷ steps) ≡ Some all
    → Again starts (stood_on (length starts) (step ∷ steps)) all
stood_on_again starts step steps all e =
    let count = length starts in
    let whole = step ∷ steps in
    let first = last_marked count whole in
    let marks = marked count (reverse whole) first in
    let back : Back (Earlier 0) count (reverse whole) = turned (Earlier 0) count whole (earlier_rows starts whole all e) in
    let long : count + length (reverse whole) < length first = omega (arith, last_length count whole, length-reverse whole) in
    let closed : Forth (Closed 0 marks) (suc count) whole = turned_back (Closed 0 marks) count whole (closed_marks count (reverse whole) first back long) in
    let end : count + length whole ≡ length (up_to count) + length steps = omega (arith, up_to_length count) in
    replay_again marks steps step starts starts (up_to count) count all (up_to_length count) refl
    (λ i l m. ap (row_at starts) (up_to_at count (suc i) l))
    (subst (λ n. Forth (Closed 0 marks) n whole) (sym (up_to_length count)) closed)
    (subst (Marked marks) end (marked_keeps count (reverse whole) first (count + length whole) (last_is_marked count whole)))
    e
