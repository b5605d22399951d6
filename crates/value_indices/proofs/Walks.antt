-- What is written down behind one walk and another.
use Rattle.std.proofs.Common.{◌≡◌, ◌∙◌, ap, sym, refl, ◌-◌, ◌++◌, length, drop_of_length-le, append_assoc, append-nil, arith}
use Rattle.sail_base.specs.declared.place.Place.{Place}
use Rattle.sail_types.specs.declared.numbers.Con.{Con}
use Rattle.value_indices.specs.Steps.{Walk, Went, bind, give, facts_here, next_variable, scoped, claimed, owe_under, Conditions}
use Rattle.value_indices.specs.Walking.{Written, got, run, remembering, restored, forgotten, claiming, unclaimed, earlier, remembered_last, recalled}

-- ---- one walk, then another

pub got_give : {A : Type 0} (x : A) (w : Written) → got (give x) w ≡ x
unfolding got give
got_give x w = refl

pub run_give : {A : Type 0} (x : A) (w : Written) → run (give x) w ≡ w
unfolding run give
run_give x w = λ i. record w { notes = append-nil w.notes i }

pub got_bind : {A B : Type 0} (first : Walk A) (next : A → Walk B) (w : Written) → got (bind first next) w ≡ got (next (got first w)) (run first w)
unfolding got run bind
got_bind first next w = refl

abbrev continued : {A B : Type 0} → Walk A → (A → Walk B) → Written → Went B
continued first next w = next (first w.facts w.next).value (first w.facts w.next).facts (first w.facts w.next).next

pub run_bind : {A B : Type 0} (first : Walk A) (next : A → Walk B) (w : Written) → run (bind first next) w ≡ run (next (got first w)) (run first w)
unfolding got run bind
run_bind first next w =
    λ i. record (run (next (got first w)) (run first w)) {
      notes = sym (append_assoc w.notes (first w.facts w.next).notes (continued first next w).notes) i;
    }

-- ---- what is in force and the next number

pub got_facts : (w : Written) → got facts_here w ≡ w.facts
unfolding got facts_here
got_facts w = refl

pub run_facts : (w : Written) → run facts_here w ≡ w
unfolding run facts_here
run_facts w = λ i. record w { notes = append-nil w.notes i }

pub got_next : (w : Written) → got next_variable w ≡ w.next
unfolding got next_variable
got_next w = refl

pub run_next : (w : Written) → run next_variable w ≡ w
unfolding run next_variable
run_next w = λ i. record w { notes = append-nil w.notes i }

-- ---- scopes

pub got_scoped : {A : Type 0} (inner : Walk A) (w : Written) → got (scoped inner) w ≡ got inner (remembering w)
unfolding got scoped remembering
got_scoped inner w = refl

pub run_scoped : {A : Type 0} (inner : Walk A) (w : Written) → run (scoped inner) w ≡ restored (run inner (remembering w))
unfolding run scoped remembering restored
run_scoped inner w = refl

pub got_claimed : {A : Type 0} (c : Con) (inner : Walk A) (w : Written) → got (claimed c inner) w ≡ got inner (claiming c w)
unfolding got claimed claiming
got_claimed c inner w = refl

pub run_claimed : {A : Type 0} (c : Con) (inner : Walk A) (w : Written) → run (claimed c inner) w ≡ unclaimed (run inner (claiming c w))
unfolding run claimed claiming unclaimed
run_claimed c inner w = refl

-- ---- what is remembered changes no walk

pub got_remembering : {A : Type 0} (inner : Walk A) (w : Written) → got inner (remembering w) ≡ got inner w
unfolding got remembering
got_remembering inner w = refl

pub forgotten_behind : {A : Type 0} (inner : Walk A) (w : Written) → forgotten (run inner (remembering w)) ≡ run inner w
unfolding run remembering forgotten
forgotten_behind inner w = refl

-- what is owed behind an inner walk, under what was in force before it
pub owed_behind : {A : Type 0} (inner : Walk A) (place : Place) (cs : Conditions) (w : Written)
    → run (owe_under w.facts place cs) (run inner w)
    ≡ forgotten (run (owe_under (remembered_last (run inner (remembering w))) place cs) (run inner (remembering w)))
unfolding run remembering forgotten remembered_last owe_under
owed_behind inner place cs w = refl

-- nothing but what was remembered last
pub recalled_none : (w : Written) → recalled 0 w ≡ remembered_last w
unfolding recalled remembered_last
recalled_none w =
    ap (λ fs. earlier w.remembered ++ fs) (drop_of_length-le w.facts {i = length w.facts - 0} (omega arith)) ∙ append-nil (earlier w.remembered)

pub ruleset walks = (run_bind, got_bind, run_give, got_give, run_scoped, got_scoped, run_claimed, got_claimed, run_facts, got_facts, run_next, got_next)
