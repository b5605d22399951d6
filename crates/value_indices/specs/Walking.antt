-- What a walk has written down so far, and how one walk goes on from there.
use Rattle.std.specs.Prelude.{ℕ, suc, ◌-◌, List, [], ◌∷◌, ◌++◌, length, drop}
use Rattle.sail_types.specs.declared.numbers.Con.{Con}
use Rattle.value_indices.specs.declared.notes.Fact.{Fact}
use Rattle.value_indices.specs.declared.notes.Fact.TheVariants as Y
use Rattle.value_indices.specs.declared.notes.Step.{Step}
use Rattle.value_indices.specs.declared.notes.Step.TheVariants as S
use Rattle.value_indices.specs.declared.walking.Walking.{Walking}
use Rattle.value_indices.specs.Steps.{Note, goal_note, size_note, made_note, call_note, way_note, given_note, name_note, Walk}

-- the facts in force, those that are remembered, the newest first, the number of the next variable, and the notes
pub record Written : Type 0 where
  pub facts : List Fact
  pub remembered : List (List Fact)
  pub next : ℕ
  pub notes : List Note

-- before the first step
abbrev pub begun : ℕ → Written
begun n = record { facts = []; remembered = []; next = n; notes = [] }

-- ---- a walk that goes on from there

unfoldable pub got : {A : Type 0} → Walk A → Written → A
got walk w = (walk w.facts w.next).value

unfoldable pub run : {A : Type 0} → Walk A → Written → Written
run walk w = record {
  facts = (walk w.facts w.next).facts;
  remembered = w.remembered;
  next = (walk w.facts w.next).next;
  notes = w.notes ++ (walk w.facts w.next).notes;
}

-- ---- what comes into force, and what is remembered

-- these facts more are in force
unfoldable pub with_facts : List Fact → Written → Written
with_facts facts w = record w { facts = w.facts ++ facts }

-- variables are counted from here on
unfoldable pub counted_from : ℕ → Written → Written
counted_from n w = record w { next = n }

unfoldable pub remembering : Written → Written
remembering w = record w { remembered = w.facts ∷ w.remembered }

abbrev pub restored_to : Written → List (List Fact) → Written
restored_to w [] = w
restored_to w (facts ∷ remembered) = record w { facts = facts; remembered = remembered }

-- what was remembered last is in force again, and nothing else
unfoldable pub restored : Written → Written
restored w = restored_to w w.remembered

abbrev pub forgotten_of : Written → List (List Fact) → Written
forgotten_of w [] = w
forgotten_of w (facts ∷ remembered) = record w { remembered = remembered }

unfoldable pub forgotten : Written → Written
forgotten w = forgotten_of w w.remembered

unfoldable pub claiming : Con → Written → Written
claiming c w = record w { facts = w.facts ++ Y.Holds c ∷ []; remembered = w.facts ∷ w.remembered }

abbrev pub unclaimed_to : Written → List (List Fact) → Written
unclaimed_to w [] = w
unclaimed_to w (facts ∷ remembered) = record w { facts = facts ++ drop (suc (length facts)) w.facts; remembered = remembered }

-- the condition that was claimed last is in force no more
unfoldable pub unclaimed : Written → Written
unclaimed w = unclaimed_to w w.remembered

-- what was remembered last; nothing where nothing was
abbrev pub earlier : List (List Fact) → List Fact
earlier [] = []
earlier (facts ∷ remembered) = facts

unfoldable pub remembered_last : Written → List Fact
remembered_last w = earlier w.remembered

-- what was remembered last, and so many of the newest facts in force
unfoldable pub recalled : ℕ → Written → List Fact
recalled recent w = earlier w.remembered ++ drop (length w.facts - recent) w.facts

-- ---- steps as they are read

abbrev pub noting : Written → Note → Written
noting w note = record w { notes = w.notes ++ note ∷ [] }

abbrev pub step_read : Written → Step → Written
step_read w (S.Assumes fact) = record w { facts = w.facts ++ fact ∷ [] }
step_read w S.Remembers = remembering w
step_read w S.Restores = restored w
step_read w S.Forgets = forgotten w
step_read w (S.Claims c) = claiming c w
step_read w S.Unclaims = unclaimed w
step_read w (S.Owes place c) = noting w (goal_note w.facts place c)
step_read w (S.OwesEarlier place recent c) = noting w (goal_note (recalled recent w) place c)
step_read w (S.Sizes place made) = noting w (size_note w.facts place made)
step_read w (S.Makes k operands made) = noting w (made_note w.facts k operands made)
step_read w (S.Calls place k operands callee numbers types) = noting w (call_note w.facts place k operands callee numbers types)
step_read w (S.Converts direction) = noting w (way_note w.facts direction)
step_read w (S.Gives giver indices) = noting w (given_note w.facts giver indices)
step_read w (S.Names variable name) = noting w (name_note variable name)

abbrev pub steps_read : Written → List Step → Written
steps_read w [] = w
steps_read w (step ∷ steps) = steps_read (step_read w step) steps

-- what the code has written down
unfoldable pub seen : Walking → Written
seen walking = record (steps_read (begun 0) walking.steps) { next = walking.next }
