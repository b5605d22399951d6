-- What each method of a walk that is written down makes of it is what its step makes.
use Rattle.std.proofs.Common.{◌≡◌, sym, refl, ℕ, suc, List, [], ◌∷◌, ◌++◌, append_assoc, append-nil, Option}
use Rattle.sail_base.specs.declared.place.Place.{Place}
use Rattle.sail_core.specs.declared.tree.Callee.{Callee}
use Rattle.sail_core.specs.declared.tree.Giver.{Giver}
use Rattle.sail_types.specs.declared.numbers.Con.{Con}
use Rattle.sail_types.specs.declared.numbers.Index.{Index}
use Rattle.value_indices.specs.declared.indices.Indices.{Indices}
use Rattle.value_indices.specs.declared.indices.Reading.{Reading}
use Rattle.value_indices.specs.declared.notes.Fact.{Fact}
use Rattle.value_indices.specs.declared.notes.Fact.TheVariants as Y
use Rattle.value_indices.specs.declared.notes.Made.{Made}
use Rattle.value_indices.specs.declared.notes.Step.TheVariants as S
use Rattle.value_indices.specs.Steps as steps
use Rattle.value_indices.specs.Steps.{note, assume, assume_if, assume_all, give_number, fresh, fresh_named, owe, owe_under, conjunction, Conditions}
use Rattle.value_indices.specs.Walking.{Written, run, got, step_read, with_facts, counted_from, recalled}
use Rattle.value_indices.proofs.Walks.{run_give, run_bind}

-- nothing is noted
quiet : (w : Written) → (f : List Fact) → (n : ℕ)
    → record w { facts = f; next = n; notes = w.notes ++ [] } ≡ record w { facts = f; next = n }
quiet w f n = λ i. record w { facts = f; next = n; notes = append-nil w.notes i }

-- ---- what comes into force

pub assume_read : (c : Con) (w : Written) → run (assume c) w ≡ step_read w (S.Assumes (Y.Holds c))
unfolding run assume
assume_read c w = quiet w (w.facts ++ Y.Holds c ∷ []) w.next

pub given_read : (v : ℕ) (w : Written) → run (give_number v) w ≡ step_read w (S.Assumes (Y.IsGiven v))
unfolding run give_number
given_read v w = quiet w (w.facts ++ Y.IsGiven v ∷ []) w.next

pub fact_read : (f : Fact) (w : Written) → with_facts (f ∷ []) w ≡ step_read w (S.Assumes f)
unfolding with_facts
fact_read f w = refl

-- no fact more
pub no_facts : (w : Written) → with_facts [] w ≡ w
unfolding with_facts
no_facts w = λ i. record w { facts = append-nil w.facts i }

-- one fact, then others
pub more_facts : (f : Fact) (fs : List Fact) (w : Written) → with_facts (f ∷ fs) w ≡ with_facts fs (with_facts (f ∷ []) w)
unfolding with_facts
more_facts f fs w = λ i. record w { facts = sym (append_assoc w.facts (f ∷ []) fs) i }

pub none_assumed : (w : Written) → run (assume_all []) w ≡ w
none_assumed w = run_give tt w

pub one_assumed : (c : Option Con) (cs : Conditions) (w : Written) → run (assume_all (c ∷ cs)) w ≡ run (assume_all cs) (run (assume_if c) w)
one_assumed c cs w = run_bind (assume_if c) (λ t. assume_all cs) w

-- ---- variables

pub got_fresh : (w : Written) → got fresh w ≡ w.next
unfolding got fresh
got_fresh w = refl

pub fresh_taken : (w : Written) → run fresh w ≡ counted_from (suc w.next) w
unfolding run fresh counted_from
fresh_taken w = quiet w w.facts (suc w.next)

pub got_named : (name : List ℕ) (w : Written) → got (fresh_named name) w ≡ w.next
unfolding got fresh_named
got_named name w = refl

pub named_taken : (name : List ℕ) (w : Written) → run (fresh_named name) w ≡ step_read (counted_from (suc w.next) w) (S.Names w.next name)
unfolding run fresh_named counted_from
named_taken name w = refl

-- ---- what is owed

pub owed_none : (place : Place) (w : Written) → run (owe place []) w ≡ w
unfolding run owe
owed_none place w = quiet w w.facts w.next

pub owed_read : (place : Place) (c : Option Con) (cs : Conditions) (w : Written)
    → run (owe place (c ∷ cs)) w ≡ step_read w (S.Owes place (conjunction (c ∷ cs)))
unfolding run owe
owed_read place c cs w = refl

pub owed_read_of : (place : Place) (cs : Conditions) (w : Written) → ((cs ≡ []) → ⊥) → run (owe place cs) w ≡ step_read w (S.Owes place (conjunction cs))
owed_read_of place [] w some = absurd (some refl)
owed_read_of place (c ∷ cs) w some = owed_read place c cs w

pub earlier_none : (facts : List Fact) (place : Place) (w : Written) → run (owe_under facts place []) w ≡ w
unfolding run owe_under
earlier_none facts place w = quiet w w.facts w.next

pub earlier_read : (place : Place) (recent : ℕ) (c : Option Con) (cs : Conditions) (w : Written)
    → run (owe_under (recalled recent w) place (c ∷ cs)) w ≡ step_read w (S.OwesEarlier place recent (conjunction (c ∷ cs)))
unfolding run owe_under
earlier_read place recent c cs w = refl

pub earlier_read_of : (place : Place) (recent : ℕ) (cs : Conditions) (w : Written) → ((cs ≡ []) → ⊥)
    → run (owe_under (recalled recent w) place cs) w ≡ step_read w (S.OwesEarlier place recent (conjunction cs))
earlier_read_of place recent [] w some = absurd (some refl)
earlier_read_of place recent (c ∷ cs) w some = earlier_read place recent c cs w

-- ---- what is noted

pub sizes_read : (place : Place) (made : Made) (w : Written) → run (note (λ facts. steps.size_note facts place made)) w ≡ step_read w (S.Sizes place made)
unfolding run note
sizes_read place made w = refl

pub made_read : (k : ℕ) (operands : List Indices) (made : Made) (w : Written)
    → run (note (λ facts. steps.made_note facts k operands made)) w ≡ step_read w (S.Makes k operands made)
unfolding run note
made_read k operands made w = refl

pub call_read : (place : Place) (k : ℕ) (operands : List Indices) (callee : Callee) (numbers : List Index) (types : List Reading) (w : Written)
    → run (note (λ facts. steps.call_note facts place k operands callee numbers types)) w ≡ step_read w (S.Calls place k operands callee numbers types)
unfolding run note
call_read place k operands callee numbers types w = refl

pub way_read : (direction : ℕ) (w : Written) → run (note (λ facts. steps.way_note facts direction)) w ≡ step_read w (S.Converts direction)
unfolding run note
way_read direction w = refl

pub gives_read : (g : Giver) (indices : Indices) (w : Written) → run (note (λ facts. steps.given_note facts g indices)) w ≡ step_read w (S.Gives g indices)
unfolding run note
gives_read g indices w = refl
