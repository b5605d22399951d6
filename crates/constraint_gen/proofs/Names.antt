-- The names of variables, read off notes and off steps.
use Rattle.std.proofs.Common.{◌≡◌, ℕ, Option, Some, None, List, [], ◌∷◌, ◌++◌, sym, ap, ◌∙◌, refl}
use Rattle.std.specs.Prelude.{nat_eq, Bool, true, false, if◌then◌else◌}
use Rattle.value_indices.specs.declared.notes.Step.{Step}
use Rattle.value_indices.specs.declared.notes.Step.TheVariants as S
use Rattle.value_indices.specs.Steps.{Note, goal_note, size_note, made_note, call_note, way_note, given_note, name_note}
use Rattle.value_indices.specs.Walking.{Written, begun, step_read, steps_read, remembering, claiming}
use Rattle.value_indices.specs.Walking.{restored, forgotten, unclaimed}
use Rattle.constraint_gen.specs.Obligations.{named}
use Rattle.constraint_gen.specs.Reading.{given_by, first_of, named_by}
use Rattle.constraint_gen.proofs.Unchanged.{restored_notes, forgotten_notes, unclaimed_notes}

pub first_alone : (o : Option (List ℕ)) → first_of o None ≡ o
first_alone None = refl
first_alone (Some name) = refl

pub first_back : (o p q : Option (List ℕ)) → first_of (first_of o p) q ≡ first_of o (first_of p q)
first_back None p q = refl
first_back (Some name) p q = refl

chosen : (t : Bool) (name : List ℕ) (o p : Option (List ℕ)) → (if t then Some name else first_of o p) ≡ first_of (if t then Some name else o) p
chosen true name o p = refl
chosen false name o p = refl

named_append : (v : ℕ) (xs ys : List Note) → named v (xs ++ ys) ≡ first_of (named v xs) (named v ys)
named_append v [] ys = refl
named_append v (goal_note facts place goal ∷ xs) ys = named_append v xs ys
named_append v (size_note facts place made ∷ xs) ys = named_append v xs ys
named_append v (made_note facts k operands made ∷ xs) ys = named_append v xs ys
named_append v (call_note facts place k operands callee numbers types ∷ xs) ys = named_append v xs ys
named_append v (way_note facts d ∷ xs) ys = named_append v xs ys
named_append v (given_note facts k indices ∷ xs) ys = named_append v xs ys
named_append v (name_note w name ∷ xs) ys =
    ap (λ o. if nat_eq v w then Some name else o) (named_append v xs ys) ∙ chosen (nat_eq v w) name (named v xs) (named v ys)

nothing_named : (v : ℕ) (xs ys : List Note) → xs ≡ ys → named v xs ≡ first_of (named v ys) None
nothing_named v xs ys e = ap (named v) e ∙ sym (first_alone (named v ys))

step_named : (v : ℕ) (w : Written) (s : Step) → named v (step_read w s).notes ≡ first_of (named v w.notes) (given_by v s)
unfolding restored forgotten unclaimed remembering claiming
step_named v w (S.Assumes fact) = nothing_named v w.notes w.notes refl
step_named v w S.Remembers = nothing_named v w.notes w.notes refl
step_named v w S.Restores = nothing_named v _ w.notes (restored_notes w w.remembered)
step_named v w S.Forgets = nothing_named v _ w.notes (forgotten_notes w w.remembered)
step_named v w (S.Claims c) = nothing_named v w.notes w.notes refl
step_named v w S.Unclaims = nothing_named v _ w.notes (unclaimed_notes w w.remembered)
step_named v w (S.Owes place c) = named_append v w.notes _
step_named v w (S.OwesEarlier place recent c) = named_append v w.notes _
step_named v w (S.Sizes place made) = named_append v w.notes _
step_named v w (S.Makes k operands made) = named_append v w.notes _
step_named v w (S.Calls place k operands callee numbers types) = named_append v w.notes _
step_named v w (S.Converts direction) = named_append v w.notes _
step_named v w (S.Gives k indices) = named_append v w.notes _
step_named v w (S.Names u name) = named_append v w.notes (name_note u name ∷ [])

steps_named : (v : ℕ) (w : Written) (ss : List Step) → named v (steps_read w ss).notes ≡ first_of (named v w.notes) (named_by v ss)
steps_named v w [] = sym (first_alone (named v w.notes))
steps_named v w (s ∷ ss) =
    steps_named v (step_read w s) ss
    ∙ (ap (λ o. first_of o (named_by v ss)) (step_named v w s) ∙ first_back (named v w.notes) (given_by v s) (named_by v ss))

pub all_named : (v : ℕ) (ss : List Step) → named v (steps_read (begun 0) ss).notes ≡ named_by v ss
all_named v ss = steps_named v (begun 0) ss
