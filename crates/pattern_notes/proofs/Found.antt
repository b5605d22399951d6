-- What is written down behind the walks over patterns.
use Rattle.std.proofs.Common.{◌≡◌, refl, sym, ◌∙◌, ap, List, [], ◌++◌, append_assoc, append-nil, subst, Result, Ok, Err, IfOk, OnOk}
use Rattle.value_indices.specs.declared.notes.Fact.{Fact}
use Rattle.value_indices.specs.Steps.{Walk, bind, give, facts_here}
use Rattle.value_indices.specs.Walking.{Written, got, run, remembering, forgotten, remembered_last}
use Rattle.value_indices.proofs.Walks.{got_give, run_give, got_bind, run_bind, got_facts, run_facts, got_remembering}
use Rattle.pattern_leaves.specs.declared.names.Bound.{Bound}
use Rattle.pattern_leaves.proofs.Walked.{then_got, then_run}
use Rattle.pattern_notes.specs.Patterns.{also, after_inner}

-- ---- names of one walk, and those of another behind it

pub also_got : (first next : Walk (List Bound)) (v : Written) → got (also first next) v ≡ got first v ++ got next (run first v)
unfolding also
also_got first next v =
    got_bind first (λ found. bind next (λ more. give (found ++ more))) v
    ∙ got_bind next (λ more. give (got first v ++ more)) (run first v)
    ∙ got_give (got first v ++ got next (run first v)) (run next (run first v))

pub also_run : (first next : Walk (List Bound)) (v : Written) → run (also first next) v ≡ run next (run first v)
unfolding also
also_run first next v =
    run_bind first (λ found. bind next (λ more. give (found ++ more))) v
    ∙ run_bind next (λ more. give (got first v ++ more)) (run first v)
    ∙ run_give (got first v ++ got next (run first v)) (run next (run first v))

-- ---- what is owed behind an inner walk, under what was in force before it

owed_after : {A B : Type 0} (inner : Walk A) (owes : List Fact → Walk B) (v : Written)
    → run (owes v.facts) (run inner v) ≡ forgotten (run (owes (remembered_last (run inner (remembering v)))) (run inner (remembering v)))
unfolding run remembering forgotten remembered_last
owed_after inner owes v = refl

behind_facts : (inner : Walk (List Bound)) (owes : List Fact → Walk (Unit {0})) (facts : List Fact) (v : Written)
    → run (bind inner (λ found. bind (owes facts) (λ t. give found))) v ≡ run (owes facts) (run inner v)
behind_facts inner owes facts v =
    run_bind inner (λ found. bind (owes facts) (λ t. give found)) v
    ∙ run_bind (owes facts) (λ t. give (got inner v)) (run inner v)
    ∙ run_give (got inner v) (run (owes facts) (run inner v))

found_facts : (inner : Walk (List Bound)) (owes : List Fact → Walk (Unit {0})) (facts : List Fact) (v : Written)
    → got (bind inner (λ found. bind (owes facts) (λ t. give found))) v ≡ got inner v
found_facts inner owes facts v =
    got_bind inner (λ found. bind (owes facts) (λ t. give found)) v
    ∙ got_bind (owes facts) (λ t. give (got inner v)) (run inner v)
    ∙ got_give (got inner v) (run (owes facts) (run inner v))

pub after_got : (inner : Walk (List Bound)) (owes : List Fact → Walk (Unit {0})) (v w : Written) (x : List Bound) → w ≡ remembering v → x ≡ got inner w
    → x ≡ got (after_inner inner owes) v
unfolding after_inner
after_got inner owes v w x was is =
    is ∙ ap (λ (u : Written). got inner u) was ∙ got_remembering inner v
    ∙ sym (got_bind facts_here (λ earlier. bind inner (λ found. bind (owes earlier) (λ t. give found))) v
    ∙ (λ i. got (bind inner (λ found. bind (owes (got_facts v i)) (λ t. give found))) (run_facts v i))
    ∙ found_facts inner owes v.facts v)

pub after_run : (inner : Walk (List Bound)) (owes : List Fact → Walk (Unit {0})) (v w1 w2 w3 w4 : Written) → w1 ≡ remembering v → w2 ≡ run inner w1
    → w3 ≡ run (owes (remembered_last w2)) w2 → w4 ≡ forgotten w3 → w4 ≡ run (after_inner inner owes) v
unfolding after_inner
after_run inner owes v w1 w2 w3 w4 one two three four =
    let inside : w2 ≡ run inner (remembering v) = two ∙ ap (λ (u : Written). run inner u) one in
    four ∙ ap forgotten three ∙ (λ i. forgotten (run (owes (remembered_last (inside i))) (inside i)))
    ∙ sym (owed_after inner owes v)
    ∙ sym (run_bind facts_here (λ earlier. bind inner (λ found. bind (owes earlier) (λ t. give found))) v
    ∙ (λ i. run (bind inner (λ found. bind (owes (got_facts v i)) (λ t. give found))) (run_facts v i))
    ∙ behind_facts inner owes v.facts v)

-- ---- loops: names so far, with what the rest of a walk gives

pub more_got : (before now found : List Bound) (whole first rest : Walk (List Bound)) (v w : Written) → now ≡ before ++ found → found ≡ got first v
    → w ≡ run first v → whole ≡ also first rest → now ++ got rest w ≡ before ++ got whole v
more_got before now found whole first rest v w grown is was opens =
    (λ j. grown j ++ got rest (was j)) ∙ append_assoc before found (got rest (run first v))
    ∙ (λ j. before ++ (is j ++ got rest (run first v)))
    ∙ ap (λ (l : List Bound). before ++ l) (sym (ap (λ (a : Walk (List Bound)). got a v) opens ∙ also_got first rest v))

pub more_run : (whole first rest : Walk (List Bound)) (v w : Written) → w ≡ run first v → whole ≡ also first rest → run rest w ≡ run whole v
more_run whole first rest v w was opens =
    ap (λ (u : Written). run rest u) was ∙ sym (ap (λ (a : Walk (List Bound)). run a v) opens ∙ also_run first rest v)

-- names so far, of a walk that gives no more
pub ended_got : (found : List Bound) (whole last : Walk (List Bound)) (v : Written) (all : List Bound) → whole ≡ last → got last v ≡ []
    → found ++ got whole v ≡ all → found ≡ all
ended_got found whole last v all is none total =
    sym (append-nil found) ∙ ap (λ (l : List Bound). found ++ l) (sym (ap (λ (a : Walk (List Bound)). got a v) is ∙ none)) ∙ total

pub on_ok : {A E : Type 0} (r : Result A E) (P : Type 0) → P → OnOk r P
on_ok (Ok x) P h = h
on_ok (Err e) P h = tt

-- ---- what another walk that is the same gives

pub found_as : {A E : Type 0} (r : Result A E) (a b : Walk A) (v : Written) → a ≡ b → IfOk r (λ x. x ≡ got a v) → IfOk r (λ x. x ≡ got b v)
found_as {A} r a b v is h = subst (λ (walk : Walk A). IfOk r (λ x. x ≡ got walk v)) is h

pub left_as : {A B E : Type 0} (r : Result B E) (a b : Walk A) (v w : Written) → a ≡ b → OnOk r (w ≡ run a v) → OnOk r (w ≡ run b v)
left_as {A} r a b v w is h = subst (λ (walk : Walk A). OnOk r (w ≡ run walk v)) is h

-- ---- what a walk gives and leaves behind another, which gave what it is over

pub taken_found : {B A E : Type 0} (r : Result B E) (first : Walk A) (next : A → Walk B) (second : Walk B) (v w : Written) (x : A) → second ≡ next x
    → x ≡ got first v → w ≡ run first v → IfOk r (λ y. y ≡ got second w) → IfOk r (λ y. y ≡ got (bind first next) v)
taken_found {B} r first next second v w x same is was h =
    subst (λ (z : B). IfOk r (λ y. y ≡ z)) (ap (λ (a : Walk B). got a w) same ∙ then_got first next v w x is was) h

pub taken_left : {B A C E : Type 0} (r : Result C E) (first : Walk A) (next : A → Walk B) (second : Walk B) (v w u : Written) (x : A) → second ≡ next x
    → x ≡ got first v → w ≡ run first v → OnOk r (u ≡ run second w) → OnOk r (u ≡ run (bind first next) v)
taken_left {B} r first next second v w u x same is was h =
    subst (λ (z : Written). OnOk r (u ≡ z)) (ap (λ (a : Walk B). run a w) same ∙ then_run first next v w x is was) h
