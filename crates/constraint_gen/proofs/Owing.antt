-- Obligations, read off notes and off steps.
use Rattle.std.proofs.Common.{◌≡◌, ℕ, ◌+◌, ◌-◌, ◌<◌, List, [], ◌∷◌, ◌++◌, length, take, drop, get_or}
use Rattle.std.proofs.Common.{sym, ap, ◌∙◌, refl, arith, append_assoc, append-nil, Result, Ok, Err}
use Rattle.std.specs.Prelude.{OnOk, reverse, Some, None, slice_get}
use Rattle.std.proofs.lemmas.List.{take_all, take_more, reverse-append, nil_from_length}
use Rattle.std.proofs.lemmas.Option.{slice_get-get_or, slice_get_within, get_or_from_slice_get, none-some}
use Rattle.sail_base.specs.declared.place.Place.{Place}
use Rattle.sail_types.specs.declared.numbers.Con.{Con}
use Rattle.linear.specs.Choices.{variables_in}
use Rattle.value_indices.specs.declared.notes.Fact.{Fact}
use Rattle.value_indices.specs.declared.notes.Step.{Step}
use Rattle.value_indices.specs.declared.notes.Step.TheVariants as S
use Rattle.value_indices.specs.declared.walking.Walking.{Walking}
use Rattle.value_indices.specs.Force.{IsInForce, beginnings}
use Rattle.value_indices.specs.Steps.{Note, goal_note, size_note, made_note, call_note, way_note, given_note, name_note, conditions}
use Rattle.value_indices.specs.Walking.{Written, begun, step_read, steps_read, remembering, claiming, recalled, earlier, seen}
use Rattle.value_indices.specs.Walking.{restored, forgotten, unclaimed}
use Rattle.value_indices.proofs.Written.{steps_behind}
use Rattle.obligations.specs.declared.obligation.Obligation.{Obligation}
use Rattle.obligations.specs.Closing.{with_closing}
use Rattle.obligations.specs.Connected.{connected}
use Rattle.obligations.specs.Owed.{owed, names_for}
use Rattle.constraint_gen.specs.Obligations.{goals_in, names_of}
use Rattle.constraint_gen.specs.Reading.{step_goals, obligations_of}
use Rattle.constraint_gen.proofs.Unchanged.{restored_notes, forgotten_notes, unclaimed_notes}

-- ---- what was remembered last

pub no_last : (ms : List ℕ) → slice_get ms (length ms - 1) ≡ None → length ms ≡ 0
no_last [] e = refl
no_last (m ∷ ms) e =
    let h = slice_get-get_or (m ∷ ms) (length (m ∷ ms) - 1) 0 (omega arith) in absurd (none-some (get_or (m ∷ ms) (length (m ∷ ms) - 1) 0) (sym e ∙ h))

last_first : (ms : List ℕ) (d : ℕ) → 0 < length ms → reverse ms ≡ get_or ms (length ms - 1) d ∷ reverse (take (length ms - 1) ms)
last_first ms d lt =
    let n : length ms - 1 < length ms = omega arith in
    let whole : length ms - 1 + 1 ≡ length ms = omega arith in
    ap reverse (sym (take_all (length ms - 1 + 1) ms (omega arith)) ∙ take_more ms (length ms - 1) d n)
    ∙ reverse-append (take (length ms - 1) ms) (get_or ms (length ms - 1) d ∷ [])

pub none_remembered : (w : Written) (facts : List Fact) (marks : List ℕ) → length marks ≡ 0 → IsInForce w facts marks → take 0 facts ≡ earlier w.remembered
none_remembered w facts marks e h =
    sym (ap earlier (h.remembered ∙ ap (λ ms. beginnings facts (reverse ms)) (nil_from_length marks e)))

pub last_remembered : (w : Written) (facts : List Fact) (marks : List ℕ) (m : ℕ) → slice_get marks (length marks - 1) ≡ Some m → IsInForce w facts marks
    → take m facts ≡ earlier w.remembered
last_remembered w facts marks m got h =
    let within = slice_get_within marks (length marks - 1) m got in
    ap (λ n. take n facts) (sym (get_or_from_slice_get marks (length marks - 1) m 0 got))
    ∙ sym (ap earlier (h.remembered ∙ ap (beginnings facts) (last_first marks 0 (omega (arith, within)))))

-- ---- what a step owes

goals_append : (names : List (List ℕ)) (xs ys : List Note) → goals_in names (xs ++ ys) ≡ goals_in names xs ++ goals_in names ys
goals_append names [] ys = refl
goals_append names (goal_note facts place goal ∷ xs) ys = ap (λ l. owed names (conditions facts) goal place ∷ l) (goals_append names xs ys)
goals_append names (size_note facts place made ∷ xs) ys = goals_append names xs ys
goals_append names (made_note facts k operands made ∷ xs) ys = goals_append names xs ys
goals_append names (call_note facts place k operands callee numbers types ∷ xs) ys = goals_append names xs ys
goals_append names (way_note facts d ∷ xs) ys = goals_append names xs ys
goals_append names (given_note facts k indices ∷ xs) ys = goals_append names xs ys
goals_append names (name_note w name ∷ xs) ys = goals_append names xs ys

nothing_owed : (names : List (List ℕ)) (xs ys : List Note) → xs ≡ ys → goals_in names xs ≡ goals_in names ys ++ []
nothing_owed names xs ys e = ap (goals_in names) e ∙ sym (append-nil (goals_in names ys))

step_owed : (names : List (List ℕ)) (w : Written) (s : Step) → goals_in names (step_read w s).notes ≡ goals_in names w.notes ++ step_goals names w s
unfolding restored forgotten unclaimed remembering claiming
step_owed names w (S.Assumes fact) = nothing_owed names w.notes w.notes refl
step_owed names w S.Remembers = nothing_owed names w.notes w.notes refl
step_owed names w S.Restores = nothing_owed names _ w.notes (restored_notes w w.remembered)
step_owed names w S.Forgets = nothing_owed names _ w.notes (forgotten_notes w w.remembered)
step_owed names w (S.Claims c) = nothing_owed names w.notes w.notes refl
step_owed names w S.Unclaims = nothing_owed names _ w.notes (unclaimed_notes w w.remembered)
step_owed names w (S.Owes place c) = goals_append names w.notes _
step_owed names w (S.OwesEarlier place recent c) = goals_append names w.notes _
step_owed names w (S.Sizes place made) = goals_append names w.notes _
step_owed names w (S.Makes k operands made) = goals_append names w.notes _
step_owed names w (S.Calls place k operands callee numbers types) = goals_append names w.notes _
step_owed names w (S.Converts direction) = goals_append names w.notes _
step_owed names w (S.Gives k indices) = goals_append names w.notes _
step_owed names w (S.Names u name) = goals_append names w.notes _

pub steps_owed : (names : List (List ℕ)) (start so_far new : List Obligation) (ss : List Step) (s : Step)
    → so_far ≡ start ++ goals_in names (steps_read (begun 0) ss).notes → new ≡ so_far ++ step_goals names (steps_read (begun 0) ss) s
    → new ≡ start ++ goals_in names (steps_read (begun 0) (ss ++ s ∷ [])).notes
steps_owed names start so_far new ss s h e =
    let w = steps_read (begun 0) ss in
    e ∙ (ap (λ l. l ++ step_goals names w s) h ∙ (append_assoc start (goals_in names w.notes) (step_goals names w s)
    ∙ ap (λ l. start ++ l) (sym (step_owed names w s) ∙ ap (λ v. goals_in names v.notes) (sym (steps_behind (begun 0) ss (s ∷ []))))))

-- an obligation is the same where the same facts are connected to its goal
abbrev owed_of : List (List ℕ) → Con → Place → List Con → Obligation
owed_of names c place facts = record {
  facts = with_closing facts c;
  goal = c;
  place = place;
  names = names_for names (with_closing facts c) c;
}

owed_same : (names : List (List ℕ)) (cs ds : List Con) (c : Con) (place : Place) → connected cs (variables_in c) ≡ connected ds (variables_in c)
    → owed names cs c place ≡ owed names ds c place
owed_same names cs ds c place e = ap (owed_of names c place) e

-- a goal under what is in force, and under what was remembered
module _ (names : List (List ℕ)) (made new : List Obligation) (w : Written) (facts : List Fact) (marks : List ℕ) (place : Place) (c : Con) (s : Step)
    (f : IsInForce w facts marks) (known given : List Con) (lent : given ≡ known) where
  under : (there : List Fact) → connected known (variables_in c) ≡ connected (conditions there) (variables_in c)
      → new ≡ made ++ owed names given c place ∷ [] → new ≡ made ++ owed names (conditions there) c place ∷ []
  under there e h =
      h ∙ ap (λ o. made ++ o ∷ []) (owed_same names given (conditions there) c place (ap (λ l. connected l (variables_in c)) lent ∙ e))

  pub owed_here : {A E : Type 0} (r : Result A E) → s ≡ S.Owes place c
      → connected known (variables_in c) ≡ connected (conditions (take 0 facts ++ drop 0 facts)) (variables_in c)
      → OnOk r (new ≡ made ++ owed names given c place ∷ []) → OnOk r (new ≡ made ++ step_goals names w s)
  owed_here (Ok x) is e h =
      under facts e h
      ∙ (ap (λ (l : List Fact). made ++ owed names (conditions l) c place ∷ []) (sym f.in_force) ∙ ap (λ (t : Step). made ++ step_goals names w t) (sym is))
  owed_here (Err x) is e h = tt

  pub owed_earlier : {A E : Type 0} (r : Result A E) (until since recent : ℕ) → s ≡ S.OwesEarlier place recent c
      → take until facts ≡ earlier w.remembered → since ≡ length facts - recent
      → connected known (variables_in c) ≡ connected (conditions (take until facts ++ drop since facts)) (variables_in c)
      → OnOk r (new ≡ made ++ owed names given c place ∷ []) → OnOk r (new ≡ made ++ step_goals names w s)
  unfolding recalled
  owed_earlier (Ok x) until since recent is before newest e h =
      let more : drop since facts ≡ drop (length w.facts - recent) w.facts =
      ap (λ n. drop n facts) newest ∙ ap (λ (l : List Fact). drop (length l - recent) l) (sym f.in_force) in
      under (take until facts ++ drop since facts) e h
      ∙ ((λ j. made ++ owed names (conditions (before j ++ more j)) c place ∷ []) ∙ ap (λ (t : Step). made ++ step_goals names w t) (sym is))
  owed_earlier (Err x) until since recent is before newest e h = tt

-- ---- what a walk has written down

pub walked_owed : {A E : Type 0} (r : Result A E) (made new : List Obligation) (v : Walking) (steps : List Step) (count : ℕ) (names : List (List ℕ))
    → steps ≡ v.steps → count ≡ (seen v).next → names ≡ names_of count (steps_read (begun 0) steps).notes
    → OnOk r (new ≡ made ++ goals_in names (steps_read (begun 0) steps).notes) → OnOk r (new ≡ made ++ obligations_of (seen v))
unfolding seen
walked_owed (Ok x) made new v steps count names read counted named h =
    h ∙ (ap (λ (ns : List (List ℕ)). made ++ goals_in ns (steps_read (begun 0) steps).notes) named
    ∙ (λ j. made ++ goals_in (names_of (counted j) (steps_read (begun 0) (read j)).notes) (steps_read (begun 0) (read j)).notes))
walked_owed (Err x) made new v steps count names read counted named h = tt
