-- A case that closes has a valid certificate, and so have all of them.
use Rattle.std.proofs.Common.{◌≡◌, ℕ, zero, suc, ◌+◌, ◌<◌, Bool, true, false, Option, Some, None, List, [], ◌∷◌, ◌++◌}
use Rattle.std.proofs.Common.{length, get_or, take, drop, Result, sym, ap, ◌∙◌, subst, refl, arith}
use Rattle.std.proofs.lemmas.List.{take_more, drop_more}
use Rattle.linear.specs.declared.row.Row.{Row}
use Rattle.farkas.specs.declared.certificate.Case.{Case}
use Rattle.farkas.specs.declared.certificate.Step.{Step}
use Rattle.farkas.specs.declared.elimination.Solved.{Solved}
use Rattle.farkas.specs.declared.elimination.Solved.TheVariants as solved_as
use Rattle.farkas.specs.declared.keeping.Starts.{Starts}
use Rattle.farkas.specs.declared.keeping.Starts.TheVariants as start
use Rattle.farkas.specs.declared.keeping.Fate.{Fate}
use Rattle.farkas.specs.declared.keeping.Fate.TheVariants.{Closes, Drops, Replaces, Joins}
use Rattle.farkas.specs.declared.points.Point.{Point}
use Rattle.farkas.specs.declared.refuting.End.{End}
use Rattle.farkas.specs.declared.refuting.End.TheVariants as end
use Rattle.linear.specs.Rows.{reduced}
use Rattle.std.specs.List.{fold}
use Rattle.std.specs.Prelude.{if◌then◌else◌, nat_lt}
use Rattle.farkas.specs.Keeping.{starts, started, settled, fate, most_rows}
use Rattle.farkas.specs.Elimination.{solved, numbered}
use Rattle.farkas.specs.Pruning.{stood_on}
use Rattle.farkas.specs.Points.{point_of}
use Rattle.farkas.specs.Ends.{at_point, ended, end_from, case_end}
use Rattle.farkas.specs.Validity.{replayed, ends_closing, closes, starting_rows, IsValidCase, AreValid}
use Rattle.farkas.specs.declared.verdict.Verdict.{Verdict}
use Rattle.farkas.specs.declared.verdict.FarkasError.{FarkasError}
use Rattle.farkas.specs.Verdicts.{answer_of, eliminated_from}
use Rattle.farkas.proofs.Pruned.{stood_on_again, ends_pushed}
use Rattle.farkas.proofs.Ledger.{Ended, EndsWell, ends_well, ClosesWell, fate_well}

-- an end that is a certificate is a valid one of these starting rows
abbrev Certifies : Option (List Row) → End → Type 0
Certifies kept (end.Closed certificate) = (kept ≡ Some certificate.starts) × (closes (replayed certificate.starts certificate.steps) ≡ true)
Certifies kept e = Unit {0}

again : (rows : List Row) (steps : List Step) → Ended rows steps → closes (replayed rows (stood_on (length rows) steps)) ≡ true
again rows steps h =
    let a = stood_on_again rows h.first h.rest h.rows (ap (replayed rows) (sym h.some) ∙ h.replays) in
    ap (λ s. closes (replayed rows (stood_on (length rows) s))) h.some ∙ (ap closes a.again ∙ (a.ends ∙ h.ends))

at_point_certifies : (kept : Option (List Row)) (o : Option Point) → Certifies kept (at_point o)
at_point_certifies kept None = tt
at_point_certifies kept (Some p) = tt

ended_certifies : (rows : List Row) (s : Solved) → EndsWell rows s → Certifies (Some rows) (ended rows s)
ended_certifies rows (solved_as.Closed steps) h = (refl, again rows steps h)
ended_certifies rows (solved_as.Open stages) h = at_point_certifies (Some rows) (point_of stages)
ended_certifies rows (solved_as.RowsPast i) h = tt
ended_certifies rows solved_as.NumbersPast h = tt

-- a contradiction ends in a row that can't be true
abbrev Contradicts : Starts → Type 0
Contradicts (start.Contradiction rows) = ends_closing rows ≡ true
Contradicts s = Unit {0}

choice_well : (kept : List Row) (row : Row) (t : Bool) → Contradicts (if t then start.Kept (kept ++ row ∷ []) else start.TooMany)
choice_well kept row true = tt
choice_well kept row false = tt

settled_well : (kept : List Row) (row : Row) (f : Fate) → ClosesWell row f → Contradicts (settled kept row f)
settled_well kept row Closes w = ends_pushed kept row ∙ w
settled_well kept row Drops w = tt
settled_well kept row (Replaces i) w = tt
settled_well kept row Joins w = choice_well kept row (nat_lt (length kept) most_rows)

started_well : (s : Starts) (row : Row) → Contradicts s → Contradicts (started s row)
started_well (start.Kept kept) row h = settled_well kept (reduced row) (fate kept (reduced row)) (fate_well kept (reduced row))
started_well (start.Contradiction rows) row h = h
started_well start.TooMany row h = tt

starts_well : (rows : List Row) (s : Starts) → Contradicts s → Contradicts (fold started s rows)
starts_well [] s h = h
starts_well (row ∷ rows) s h = starts_well rows (started s row) (started_well s row h)

end_certifies : (variables : ℕ) (s : Starts) → Contradicts s → Certifies (starting_rows s) (end_from variables s)
end_certifies variables (start.Contradiction rows) h = (refl, h)
end_certifies variables start.TooMany h = tt
end_certifies variables (start.Kept rows) h = ended_certifies rows (solved (length rows) variables 0 (numbered 1 rows) [] []) (ends_well rows variables)

-- the certificate of a case that closes is valid
case_certifies : (variables : ℕ) (rows : List Row) → Certifies (starting_rows (starts rows)) (case_end variables rows)
case_certifies variables rows = end_certifies variables (starts rows) (starts_well rows (start.Kept []) tt)

pub case_valid : (variables : ℕ) (rows : List Row) (e : End) (certificate : Case) → e ≡ case_end variables rows → e ≡ end.Closed certificate
    → IsValidCase rows certificate
case_valid variables rows e certificate p q = subst (Certifies (starting_rows (starts rows))) (sym p ∙ q) (case_certifies variables rows)

pub valid_push : (cases : List (List Row)) (certificates : List Case) (case : List Row) (certificate : Case) → AreValid cases certificates
    → IsValidCase case certificate → AreValid (cases ++ case ∷ []) (certificates ++ certificate ∷ [])
valid_push [] [] case certificate h v = (v, tt)
valid_push [] (c ∷ cs) case certificate h v = elim h [ ]
valid_push (r ∷ rs) [] case certificate h v = elim h [ ]
valid_push (r ∷ rs) (c ∷ cs) case certificate h v = (h.0, valid_push rs cs case certificate h.1 v)

-- ---- several cases

module _ (variables : ℕ) (cases : List (List Row)) (i : ℕ) (case : List Row) (within : i < length cases) (read : case ≡ get_or cases i case) where
  pub verdict_more : (before more : List Case) (e : End) (certificate : Case) (whole : Result Verdict FarkasError) → e ≡ case_end variables case
      → e ≡ end.Closed certificate → more ≡ before ++ certificate ∷ [] →
      eliminated_from variables (drop i cases) before ≡ whole → eliminated_from variables (drop (i + 1) cases) more ≡ whole
  verdict_more before more e certificate whole p q pushed same =
      ap (eliminated_from variables (drop (i + 1) cases)) pushed
      ∙ (ap (λ x. answer_of before x (eliminated_from variables (drop (i + 1) cases))) (sym q ∙ p)
      ∙ (ap (λ rows. answer_of before (case_end variables rows) (eliminated_from variables (drop (i + 1) cases))) read
      ∙ (ap (λ rest. eliminated_from variables rest before) (sym (drop_more cases i case within)) ∙ same)))

  pub valid_more : (before more : List Case) (certificate : Case) → more ≡ before ++ certificate ∷ [] → AreValid (take i cases) before
      → IsValidCase case certificate → AreValid (take (i + 1) cases) more
  valid_more before more certificate pushed h v =
      subst (AreValid (take (i + 1) cases)) (sym pushed)
      (subst (λ rows. AreValid rows (before ++ certificate ∷ [])) (sym (take_more cases i case within ∙ ap (λ x. take i cases ++ x ∷ []) (sym read)))
      (valid_push (take i cases) before case certificate h v))

pub valid_length : (cases : List (List Row)) (certificates : List Case) → AreValid cases certificates → length cases ≡ length certificates
valid_length [] [] h = refl
valid_length [] (c ∷ cs) h = elim h [ ]
valid_length (r ∷ rs) [] h = elim h [ ]
valid_length (r ∷ rs) (c ∷ cs) h = ap suc (valid_length rs cs h.1)

pub valid_at : (cases : List (List Row)) (certificates : List Case) (i : ℕ) (case : List Row) (certificate : Case) → i < length cases
    → AreValid cases certificates → IsValidCase (get_or cases i case) (get_or certificates i certificate)
valid_at [] certificates i case certificate l h = absurd (omega arith)
valid_at (r ∷ rs) [] i case certificate l h = elim h [ ]
valid_at (r ∷ rs) (c ∷ cs) zero case certificate l h = h.0
valid_at (r ∷ rs) (c ∷ cs) (suc i) case certificate l h = valid_at rs cs i case certificate (omega arith) h.1

pub valid_next : (cases : List (List Row)) (certificates : List Case) (i : ℕ) (case : List Row) (certificate : Case) → i < length cases
    → i < length certificates → case ≡ get_or cases i case → certificate ≡ get_or certificates i certificate →
    AreValid (take i cases) (take i certificates) → IsValidCase case certificate → AreValid (take (i + 1) cases) (take (i + 1) certificates)
valid_next cases certificates i case certificate l m p q h v =
    valid_more 0 cases i case l p (take i certificates) (take (i + 1) certificates) certificate (take_more certificates i certificate m
    ∙ ap (λ x. take i certificates ++ x ∷ []) (sym q)) h v

pub invalid_at : (cases : List (List Row)) (certificates : List Case) (i : ℕ) (case : List Row) (certificate : Case) → i < length cases
    → case ≡ get_or cases i case → certificate ≡ get_or certificates i certificate →
    (IsValidCase case certificate → ⊥) → AreValid cases certificates → ⊥
invalid_at cases certificates i case certificate l p q refuted h =
    refuted (subst (λ c. IsValidCase case c) (sym q) (subst (λ rows. IsValidCase rows (get_or certificates i certificate)) (sym p)
    (valid_at cases certificates i case certificate l h)))
