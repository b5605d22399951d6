-- A step of marking, and how many rows are kept.
use Rattle.std.proofs.Common.{◌≡◌, ℕ, suc, ◌+◌, ◌<◌, ◌≤◌, Bool, true, false, List, [], ◌∷◌, ◌++◌, length, get_or, set}
use Rattle.std.proofs.Common.{take, reverse, sym, ap, ◌∙◌, subst, refl, arith, length-set}
use Rattle.std.specs.Prelude.{if◌then◌else◌, nat_lt}
use Rattle.std.specs.List.{fold}
use Rattle.std.proofs.lemmas.Bool.{ltb-true}
use Rattle.std.proofs.lemmas.List.{take_more, reverse-append, length-reverse, length-take-le, length_push}
use Rattle.linear.specs.declared.row.Row.{Row}
use Rattle.linear.specs.Rows.{reduced}
use Rattle.farkas.specs.declared.certificate.Step.{Step}
use Rattle.farkas.specs.declared.keeping.Fate.{Fate}
use Rattle.farkas.specs.declared.keeping.Fate.TheVariants.{Closes, Drops, Replaces, Joins}
use Rattle.farkas.specs.declared.keeping.Starts.{Starts}
use Rattle.farkas.specs.declared.keeping.Starts.TheVariants.{Kept, Contradiction, TooMany}
use Rattle.farkas.specs.Keeping.{starts, started, settled, fate, most_rows, IsFew}
use Rattle.farkas.specs.Pruning.{marked}

pub marked_more : (count : ℕ) (steps : List Step) (left n number : ℕ) (step : Step) (marks next whole : List Bool) →
    n < length steps → step ≡ get_or steps n step → left ≡ n + 1 → number ≡ count + n + 1 →
    next ≡ (if get_or marks number false then set (set marks step.first true) step.second true else marks) →
    marked count (reverse (take left steps)) marks ≡ whole → marked count (reverse (take n steps)) next ≡ whole
marked_more count steps left n number step marks next whole within read one place made same =
    let turned : reverse (take left steps) ≡ step ∷ reverse (take n steps) =
    ap (λ k. reverse (take k steps)) one ∙ (ap reverse (take_more steps n step within ∙ ap (λ x. take n steps ++ x ∷ []) (sym read))
    ∙ reverse-append (take n steps) (step ∷ [])) in
    let long : length (reverse (take n steps)) ≡ n = length-reverse (take n steps) ∙ length-take-le n steps (omega arith) in
    let here : number ≡ count + suc (length (reverse (take n steps))) = omega arith in
    ap (marked count (reverse (take n steps))) made
    ∙ (ap (λ k. marked count (reverse (take n steps)) (if get_or marks k false then set (set marks step.first true) step.second true else marks)) here
    ∙ (ap (λ s. marked count s marks) (sym turned) ∙ same))

-- at most 4,096 rows are kept
joins_few : (kept : List Row) (row : Row) (t : Bool) → nat_lt (length kept) most_rows ≡ t → IsFew (if t then Kept (kept ++ row ∷ []) else TooMany)
joins_few kept row true e = let l : length kept < 4096 = ltb-true (length kept) 4096 e in omega (arith, length_push kept row)
joins_few kept row false e = tt

settled_few : (kept : List Row) (row : Row) (f : Fate) → length kept ≤ 4096 → IsFew (settled kept row f)
settled_few kept row Closes h = tt
settled_few kept row Drops h = h
settled_few kept row (Replaces i) h = omega (arith, length-set kept i row)
settled_few kept row Joins h = joins_few kept row (nat_lt (length kept) most_rows) refl

started_few : (s : Starts) (row : Row) → IsFew s → IsFew (started s row)
started_few (Kept kept) row h = settled_few kept (reduced row) (fate kept (reduced row)) h
started_few (Contradiction kept) row h = tt
started_few TooMany row h = tt

pub fold_few : (rows : List Row) (s : Starts) → IsFew s → IsFew (fold started s rows)
fold_few [] s h = h
fold_few (row ∷ rows) s h = fold_few rows (started s row) (started_few s row h)

pub few_kept : (rows : List Row) (s : Starts) (kept : List Row) → s ≡ starts rows → s ≡ Kept kept → length kept ≤ 4096
few_kept rows s kept e h = subst IsFew (sym e ∙ h) (fold_few rows (Kept []) (omega arith))
