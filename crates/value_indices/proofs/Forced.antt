-- What is in force behind a step, as the code keeps it.
use Rattle.std.proofs.Common.{◌≡◌, ◌∙◌, ap, sym, refl, subst, ℕ, suc, ◌≤◌, List, [], ◌∷◌, ◌++◌, append-nil, length, take, drop, reverse}
use Rattle.std.proofs.Common.{take_all, take-append-drop, length-take-le, drop_of_length-le, le_refl, arith}
use Rattle.std.proofs.lemmas.List.{take-append-le, reverse-append, length-append}
use Rattle.std.specs.List.{remove}
use Rattle.sail_types.specs.declared.numbers.Con.{Con}
use Rattle.value_indices.specs.declared.notes.Fact.{Fact}
use Rattle.value_indices.specs.declared.notes.Fact.TheVariants as Y
use Rattle.value_indices.specs.declared.notes.Step.{Step}
use Rattle.value_indices.specs.declared.notes.Step.TheVariants as S
use Rattle.value_indices.specs.Force.{beginnings, AreWithin, IsInForce}
use Rattle.value_indices.specs.Walking.{Written, begun, step_read, remembering, claiming}
use Rattle.value_indices.specs.Walking.{restored, restored_to, forgotten, forgotten_of, unclaimed, unclaimed_to}

-- ---- facts behind those that are remembered

within_more : (facts more : List Fact) (ms : List ℕ) → AreWithin facts ms → AreWithin (facts ++ more) ms
within_more facts more [] h = tt
within_more facts more (m ∷ ms) h =
    (omega (arith, h.0, length-append facts more), subst (λ fs. AreWithin fs ms) (sym (take-append-le m facts more h.0)) h.1)

beginnings_more : (facts more : List Fact) (ms : List ℕ) → AreWithin facts ms → beginnings (facts ++ more) ms ≡ beginnings facts ms
beginnings_more facts more [] h = refl
beginnings_more facts more (m ∷ ms) h = ap (λ fs. fs ∷ beginnings fs ms) (take-append-le m facts more h.0)

pub none_in_force : IsInForce (begun 0) [] []
none_in_force = record { in_force = refl; remembered = refl; within = tt }

pub fact_in_force : (w : Written) (facts : List Fact) (marks : List ℕ) (f : Fact) → IsInForce w facts marks
    → IsInForce (record w { facts = w.facts ++ f ∷ [] }) (facts ++ f ∷ []) marks
fact_in_force w facts marks f h = record {
  in_force = ap (λ fs. fs ++ f ∷ []) h.in_force;
  remembered = h.remembered ∙ sym (beginnings_more facts (f ∷ []) (reverse marks) h.within);
  within = within_more facts (f ∷ []) (reverse marks) h.within;
}

-- ---- marks

newest : (marks : List ℕ) (m : ℕ) → reverse (marks ++ m ∷ []) ≡ m ∷ reverse marks
newest marks m = reverse-append marks (m ∷ [])

-- a mark at the end of what is in force
at_end : (facts : List Fact) (ms : List ℕ) → beginnings facts (length facts ∷ ms) ≡ facts ∷ beginnings facts ms
at_end facts ms = ap (λ fs. fs ∷ beginnings fs ms) (take_all (length facts) facts (le_refl (length facts)))

within_end : (facts : List Fact) (ms : List ℕ) → AreWithin facts ms → AreWithin facts (length facts ∷ ms)
within_end facts ms h = (le_refl (length facts), subst (λ fs. AreWithin fs ms) (sym (take_all (length facts) facts (le_refl (length facts)))) h)

pub mark_in_force : (w : Written) (facts : List Fact) (marks : List ℕ) → IsInForce w facts marks
    → IsInForce (remembering w) facts (marks ++ length facts ∷ [])
unfolding remembering
mark_in_force w facts marks h = record {
  in_force = h.in_force;
  remembered =
      (λ i. h.in_force i ∷ h.remembered i)
      ∙ sym (at_end facts (reverse marks))
      ∙ ap (beginnings facts) (sym (newest marks (length facts)));
  within = subst (AreWithin facts) (sym (newest marks (length facts))) (within_end facts (reverse marks) h.within);
}

pub claim_in_force : (w : Written) (facts : List Fact) (marks : List ℕ) (c : Con) → IsInForce w facts marks
    → IsInForce (claiming c w) (facts ++ Y.Holds c ∷ []) (marks ++ length facts ∷ [])
unfolding remembering claiming
claim_in_force w facts marks c h =
    fact_in_force (remembering w) facts (marks ++ length facts ∷ []) (Y.Holds c) (mark_in_force w facts marks h)

-- ---- what was remembered last

-- that there is a mark, and what it says
last_mark : (w : Written) (facts : List Fact) (marks rest : List ℕ) (m : ℕ) → marks ≡ rest ++ m ∷ [] → IsInForce w facts marks
    → (w.remembered ≡ take m facts ∷ beginnings (take m facts) (reverse rest)) × (m ≤ length facts) × AreWithin (take m facts) (reverse rest)
last_mark w facts marks rest m e h =
    let turned : reverse marks ≡ m ∷ reverse rest = ap reverse e ∙ newest rest m in
    let within : AreWithin facts (m ∷ reverse rest) = subst (AreWithin facts) turned h.within in
    (h.remembered ∙ ap (beginnings facts) turned, within.0, within.1)

pub restore_in_force : (w : Written) (facts : List Fact) (marks rest : List ℕ) (m : ℕ) → marks ≡ rest ++ m ∷ [] → IsInForce w facts marks
    → IsInForce (restored w) (take m facts) rest
unfolding restored
restore_in_force w facts marks rest m e h =
    let l = last_mark w facts marks rest m e h in
    subst (λ r. IsInForce (restored_to w r) (take m facts) rest) (sym l.0) (record { in_force = refl; remembered = refl; within = l.2 })

pub forget_in_force : (w : Written) (facts : List Fact) (marks rest : List ℕ) (m : ℕ) → marks ≡ rest ++ m ∷ [] → IsInForce w facts marks
    → IsInForce (forgotten w) facts rest
unfolding forgotten
forget_in_force w facts marks rest m e h =
    let l = last_mark w facts marks rest m e h in
    let all : beginnings facts (reverse rest) ≡ beginnings (take m facts) (reverse rest) =
    ap (λ fs. beginnings fs (reverse rest)) (sym (take-append-drop m facts))
    ∙ beginnings_more (take m facts) (drop m facts) (reverse rest) l.2 in
    let within : AreWithin facts (reverse rest) = subst (λ fs. AreWithin fs (reverse rest)) (take-append-drop m facts)
    (within_more (take m facts) (drop m facts) (reverse rest) l.2) in
    subst (λ r. IsInForce (forgotten_of w r) facts rest) (sym l.0) (record { in_force = h.in_force; remembered = sym all; within = within })

pub unclaim_in_force : (w : Written) (facts : List Fact) (marks rest : List ℕ) (m : ℕ) → marks ≡ rest ++ m ∷ [] → IsInForce w facts marks
    → IsInForce (unclaimed w) (remove facts m) rest
unfolding unclaimed
unclaim_in_force w facts marks rest m e h =
    let l = last_mark w facts marks rest m e h in
    let more = drop (suc m) facts in
    let left : take m facts ++ drop (suc (length (take m facts))) w.facts ≡ remove facts m =
    λ i. take m facts ++ drop (suc (length-take-le m facts l.1 i)) (h.in_force i) in
    subst (λ r. IsInForce (unclaimed_to w r) (remove facts m) rest) (sym l.0) (record {
      in_force = left;
      remembered = sym (beginnings_more (take m facts) more (reverse rest) l.2);
      within = within_more (take m facts) more (reverse rest) l.2;
    })

-- ---- as the code finds them

pub restored_in_force : (w : Written) (facts new : List Fact) (marks rest : List ℕ) (m : ℕ) → new ≡ take m facts → marks ≡ rest ++ m ∷ []
    → IsInForce w facts marks → IsInForce (restored w) new rest
restored_in_force w facts new marks rest m e f h = subst (λ fs. IsInForce (restored w) fs rest) (sym e) (restore_in_force w facts marks rest m f h)

pub unclaimed_in_force : (w : Written) (facts new : List Fact) (marks rest : List ℕ) (m : ℕ) → new ≡ remove facts m → marks ≡ rest ++ m ∷ []
    → IsInForce w facts marks → IsInForce (unclaimed w) new rest
unclaimed_in_force w facts new marks rest m e f h = subst (λ fs. IsInForce (unclaimed w) fs rest) (sym e) (unclaim_in_force w facts marks rest m f h)

-- nothing behind the mark
pub nothing_removed : (facts : List Fact) (m : ℕ) → length facts ≤ m → remove facts m ≡ facts
nothing_removed facts m h =
    let past : drop (suc m) facts ≡ [] = drop_of_length-le facts {i = suc m} (omega arith) in
    (λ i. (take_all m facts h i) ++ (past i)) ∙ append-nil facts

-- ---- nothing is remembered

no_mark : (w : Written) (facts : List Fact) → IsInForce w facts [] → w.remembered ≡ []
no_mark w facts h = h.remembered

restore_nothing : (w : Written) (facts : List Fact) → IsInForce w facts [] → IsInForce (restored w) facts []
unfolding restored
restore_nothing w facts h = subst (λ r. IsInForce (restored_to w r) facts []) (sym (no_mark w facts h)) h

forget_nothing : (w : Written) (facts : List Fact) → IsInForce w facts [] → IsInForce (forgotten w) facts []
unfolding forgotten
forget_nothing w facts h = subst (λ r. IsInForce (forgotten_of w r) facts []) (sym (no_mark w facts h)) h

unclaim_nothing : (w : Written) (facts : List Fact) → IsInForce w facts [] → IsInForce (unclaimed w) facts []
unfolding unclaimed
unclaim_nothing w facts h = subst (λ r. IsInForce (unclaimed_to w r) facts []) (sym (no_mark w facts h)) h

pub restore_none : (w : Written) (facts : List Fact) (marks rest : List ℕ) → (marks ≡ []) × (rest ≡ []) → IsInForce w facts marks
    → IsInForce (restored w) facts rest
restore_none w facts marks rest e h =
    subst (IsInForce (restored w) facts) (sym e.1) (restore_nothing w facts (subst (IsInForce w facts) e.0 h))

pub forget_none : (w : Written) (facts : List Fact) (marks rest : List ℕ) → (marks ≡ []) × (rest ≡ []) → IsInForce w facts marks
    → IsInForce (forgotten w) facts rest
forget_none w facts marks rest e h =
    subst (IsInForce (forgotten w) facts) (sym e.1) (forget_nothing w facts (subst (IsInForce w facts) e.0 h))

pub unclaim_none : (w : Written) (facts : List Fact) (marks rest : List ℕ) → (marks ≡ []) × (rest ≡ []) → IsInForce w facts marks
    → IsInForce (unclaimed w) facts rest
unclaim_none w facts marks rest e h =
    subst (IsInForce (unclaimed w) facts) (sym e.1) (unclaim_nothing w facts (subst (IsInForce w facts) e.0 h))

-- ---- a step of each kind

pub assumed_step : (w : Written) (facts new : List Fact) (marks : List ℕ) (step : Step) (f : Fact) → step ≡ S.Assumes f → new ≡ facts ++ f ∷ []
    → IsInForce w facts marks → IsInForce (step_read w step) new marks
assumed_step w facts new marks step f is e h =
    subst (λ s. IsInForce (step_read w s) new marks) (sym is)
    (subst (λ fs. IsInForce (step_read w (S.Assumes f)) fs marks) (sym e) (fact_in_force w facts marks f h))

pub marked_step : (w : Written) (facts : List Fact) (marks new : List ℕ) (step : Step) (m : ℕ) → step ≡ S.Remembers → m ≡ length facts → new ≡ marks ++ m ∷ []
    → IsInForce w facts marks → IsInForce (step_read w step) facts new
marked_step w facts marks new step m is n e h =
    subst (λ s. IsInForce (step_read w s) facts new) (sym is)
    (subst (IsInForce (remembering w) facts) (sym (e ∙ ap (λ k. marks ++ k ∷ []) n)) (mark_in_force w facts marks h))

pub claimed_step : (w : Written) (facts new : List Fact) (marks rest : List ℕ) (step : Step) (m : ℕ) (c : Con) → step ≡ S.Claims c → m ≡ length facts
    → rest ≡ marks ++ m ∷ [] → new ≡ facts ++ Y.Holds c ∷ [] → IsInForce w facts marks → IsInForce (step_read w step) new rest
claimed_step w facts new marks rest step m c is n e f h =
    subst (λ s. IsInForce (step_read w s) new rest) (sym is)
    (subst (λ fs. IsInForce (claiming c w) fs rest) (sym f)
    (subst (IsInForce (claiming c w) (facts ++ Y.Holds c ∷ [])) (sym (e ∙ ap (λ k. marks ++ k ∷ []) n)) (claim_in_force w facts marks c h)))
