-- Notes, and the steps that write them.
use Rattle.std.proofs.Common.{◌≡◌, ℕ, Bool, true, false, List, [], ◌∷◌, ◌++◌, sym, ap, ◌∙◌, refl, append_assoc, append-nil}
use Rattle.std.specs.Prelude.{ℤ, Option, Some, None, if◌then◌else◌, ◌||◌, ◌&&◌}
use Rattle.sail_types.specs.Places.{first}
use Rattle.sail_types.specs.declared.numbers.Con.{Con}
use Rattle.sail_types.specs.declared.table.Types.{Types}
use Rattle.value_indices.specs.Steps.{Note, goal_note, size_note, made_note, call_note, way_note, given_note, name_note, conditions}
use Rattle.value_indices.specs.Walking.{Written, step_read, steps_read, remembering, claiming, recalled}
use Rattle.value_indices.specs.Walking.{restored, restored_to, forgotten, forgotten_of, unclaimed, unclaimed_to}
use Rattle.value_indices.specs.declared.notes.Fact.{Fact}
use Rattle.value_indices.specs.declared.notes.Step.{Step}
use Rattle.value_indices.specs.declared.notes.Step.TheVariants as S
use Rattle.size_values.specs.declared.constants.Constant.{Constant}
use Rattle.size_splits.specs.Reading.{in_steps, is_open_step, named_in, notes_behind, step_conditions, step_domain, step_names, steps_domain}
use Rattle.size_splits.specs.Sizing.{Sizing, first_named, in_notes, names_type}
use Rattle.size_splits.specs.Splits.{domain, notes_domain}

-- what is written down, with these notes in the place of its own
abbrev noting_only : List Note → Written → Written
noting_only ns w = record w { notes = ns }

-- the notes that a step writes
abbrev pub note_by : Written → Step → List Note
note_by w (S.Owes place c) = goal_note w.facts place c ∷ []
note_by w (S.OwesEarlier place recent c) = goal_note (recalled recent w) place c ∷ []
note_by w (S.Sizes place made) = size_note w.facts place made ∷ []
note_by w (S.Makes k operands made) = made_note w.facts k operands made ∷ []
note_by w (S.Calls place k operands callee numbers types) = call_note w.facts place k operands callee numbers types ∷ []
note_by w (S.Converts direction) = way_note w.facts direction ∷ []
note_by w (S.Gives k indices) = given_note w.facts k indices ∷ []
note_by w (S.Names variable name) = name_note variable name ∷ []
note_by w step = []

-- ---- a step writes the same, whatever was noted before

restored_noting : (ns : List Note) (w : Written) (r : List (List Fact)) → restored_to (noting_only ns w) r ≡ noting_only ns (restored_to w r)
restored_noting ns w [] = refl
restored_noting ns w (facts ∷ r) = refl

forgotten_noting : (ns : List Note) (w : Written) (r : List (List Fact)) → forgotten_of (noting_only ns w) r ≡ noting_only ns (forgotten_of w r)
forgotten_noting ns w [] = refl
forgotten_noting ns w (facts ∷ r) = refl

unclaimed_noting : (ns : List Note) (w : Written) (r : List (List Fact)) → unclaimed_to (noting_only ns w) r ≡ noting_only ns (unclaimed_to w r)
unclaimed_noting ns w [] = refl
unclaimed_noting ns w (facts ∷ r) = refl

-- nothing is noted
none_more : (ns : List Note) (v : Written) → noting_only ns v ≡ noting_only (ns ++ []) v
none_more ns v = ap (λ (l : List Note). noting_only l v) (sym (append-nil ns))

step_noted : (ns : List Note) (w : Written) (s : Step) → step_read (noting_only ns w) s ≡ noting_only (ns ++ note_by w s) (step_read w s)
unfolding restored forgotten unclaimed remembering claiming recalled
step_noted ns w (S.Assumes fact) = none_more ns (step_read w (S.Assumes fact))
step_noted ns w S.Remembers = none_more ns (step_read w S.Remembers)
step_noted ns w S.Restores = restored_noting ns w w.remembered ∙ none_more ns (step_read w S.Restores)
step_noted ns w S.Forgets = forgotten_noting ns w w.remembered ∙ none_more ns (step_read w S.Forgets)
step_noted ns w (S.Claims c) = none_more ns (step_read w (S.Claims c))
step_noted ns w S.Unclaims = unclaimed_noting ns w w.remembered ∙ none_more ns (step_read w S.Unclaims)
step_noted ns w (S.Owes place c) = refl
step_noted ns w (S.OwesEarlier place recent c) = refl
step_noted ns w (S.Sizes place made) = refl
step_noted ns w (S.Makes k operands made) = refl
step_noted ns w (S.Calls place k operands callee numbers types) = refl
step_noted ns w (S.Converts direction) = refl
step_noted ns w (S.Gives k indices) = refl
step_noted ns w (S.Names variable name) = refl

steps_noted : (ns : List Note) (w : Written) (ss : List Step) → (steps_read (noting_only ns w) ss).notes ≡ ns ++ notes_behind w ss
steps_noted ns w [] = sym (append-nil ns)
steps_noted ns w (s ∷ ss) =
    ap (λ (v : Written). (steps_read v ss).notes) (step_noted ns w s)
    ∙ (steps_noted (ns ++ note_by w s) (step_read w s) ss
    ∙ (append_assoc ns (note_by w s) (notes_behind (step_read w s) ss)
    ∙ ap (λ (l : List Note). ns ++ l) (sym (steps_noted (note_by w s) (step_read w s) ss)
    ∙ ap (λ (v : Written). (steps_read v ss).notes) (sym (step_noted [] w s)))))

-- the notes of a step, then those of the others
pub notes_next : (w : Written) (s : Step) (ss : List Step) → notes_behind w (s ∷ ss) ≡ note_by w s ++ notes_behind (step_read w s) ss
notes_next w s ss = ap (λ (v : Written). (steps_read v ss).notes) (step_noted [] w s) ∙ steps_noted (note_by w s) (step_read w s) ss

-- ---- the first type variable that is named

named_or : (b : Bool) (v : ℕ) (o : Option ℕ) → (if b then Some v else o) ≡ first (if b then Some v else None) o
named_or true v o = refl
named_or false v o = refl

named_step : (w : Written) (s : Step) (ns : List Note) (ss : List Step) → first_named ns ≡ named_in ss
    → first_named (note_by w s ++ ns) ≡ named_in (s ∷ ss)
named_step w (S.Assumes fact) ns ss h = h
named_step w S.Remembers ns ss h = h
named_step w S.Restores ns ss h = h
named_step w S.Forgets ns ss h = h
named_step w (S.Claims c) ns ss h = h
named_step w S.Unclaims ns ss h = h
named_step w (S.Owes place c) ns ss h = refl
named_step w (S.OwesEarlier place recent c) ns ss h = refl
named_step w (S.Sizes place made) ns ss h = refl
named_step w (S.Makes k operands made) ns ss h = refl
named_step w (S.Calls place k operands callee numbers types) ns ss h = refl
named_step w (S.Converts direction) ns ss h = refl
named_step w (S.Gives k indices) ns ss h = refl
named_step w (S.Names variable name) ns ss h =
    ap (λ (o : Option ℕ). if names_type name then Some variable else o) h ∙ named_or (names_type name) variable (named_in ss)

pub named_behind : (w : Written) (ss : List Step) → first_named (notes_behind w ss) ≡ named_in ss
named_behind w [] = refl
named_behind w (s ∷ ss) =
    ap first_named (notes_next w s ss) ∙ named_step w s (notes_behind (step_read w s) ss) ss (named_behind (step_read w s) ss)

-- ---- what has to be constant

module _ (types : Types) (sizing : Sizing) (beyond v : ℕ) where
  in_step : (w : Written) (s : Step) (ns : List Note) (ss : List Step) → first_named ns ≡ named_in ss
      → in_notes types sizing beyond v ns ≡ in_steps types sizing beyond v ss
      → in_notes types sizing beyond v (note_by w s ++ ns) ≡ in_steps types sizing beyond v (s ∷ ss)
  in_step w (S.Assumes fact) ns ss e h = h
  in_step w S.Remembers ns ss e h = h
  in_step w S.Restores ns ss e h = h
  in_step w S.Forgets ns ss e h = h
  in_step w (S.Claims c) ns ss e h = h
  in_step w S.Unclaims ns ss e h = h
  in_step w (S.Owes place c) ns ss e h = h
  in_step w (S.OwesEarlier place recent c) ns ss e h = h
  in_step w (S.Sizes place made) ns ss e h = λ j. step_names types sizing beyond v (S.Sizes place made) (e j) || h j
  in_step w (S.Makes k operands made) ns ss e h = h
  in_step w (S.Calls place k operands callee numbers readings) ns ss e h =
      λ j. step_names types sizing beyond v (S.Calls place k operands callee numbers readings) (e j) || h j
  in_step w (S.Converts direction) ns ss e h = h
  in_step w (S.Gives k indices) ns ss e h = h
  in_step w (S.Names variable name) ns ss e h = h

  pub notes_in : (w : Written) (ss : List Step) → in_notes types sizing beyond v (notes_behind w ss) ≡ in_steps types sizing beyond v ss
  notes_in w [] = refl
  notes_in w (s ∷ ss) =
      ap (in_notes types sizing beyond v) (notes_next w s ss)
      ∙ in_step w s (notes_behind (step_read w s) ss) ss (named_behind (step_read w s) ss) (notes_in (step_read w s) ss)

-- ---- the numbers that a variable takes

both_tests : {A : Type 0} (a b : Bool) (o : Option A) → (if a && b then o else None) ≡ (if a then (if b then o else None) else None)
both_tests true b o = refl
both_tests false b o = refl

module _ (types : Types) (sizing : Sizing) (beyond : ℕ) (of : ℕ → Constant) (v : ℕ) where
  -- at a step with this in force
  abbrev domain_under : Step → List Con → Option ℕ → Option (List ℤ)
  domain_under s cs named =
      if is_open_step types sizing beyond of s named && step_names types sizing beyond v s named then domain of v cs else None

  domain_step : (w : Written) (s : Step) (ns : List Note) (ss : List Step) (o : Option (List ℤ)) → first_named ns ≡ named_in ss
      → notes_domain types sizing beyond of v ns ≡ o
      → notes_domain types sizing beyond of v (note_by w s ++ ns) ≡ first (step_domain types sizing beyond of v w.facts s (named_in ss)) o
  domain_step w (S.Assumes fact) ns ss o e h = h
  domain_step w S.Remembers ns ss o e h = h
  domain_step w S.Restores ns ss o e h = h
  domain_step w S.Forgets ns ss o e h = h
  domain_step w (S.Claims c) ns ss o e h = h
  domain_step w S.Unclaims ns ss o e h = h
  domain_step w (S.Owes place c) ns ss o e h = h
  domain_step w (S.OwesEarlier place recent c) ns ss o e h = h
  domain_step w (S.Sizes place made) ns ss o e h =
      let s = S.Sizes place made in
      (λ j. first (domain_under s (step_conditions beyond w.facts s (e j)) (e j)) (h j))
      ∙ ap (λ (d : Option (List ℤ)). first d o) (both_tests (is_open_step types sizing beyond of s (named_in ss))
      (step_names types sizing beyond v s (named_in ss)) (domain of v (step_conditions beyond w.facts s (named_in ss))))
  domain_step w (S.Makes k operands made) ns ss o e h = h
  domain_step w (S.Calls place k operands callee numbers readings) ns ss o e h =
      let s = S.Calls place k operands callee numbers readings in
      (λ j. first (domain_under s (conditions (sym (append-nil w.facts) j)) (e j)) (h j))
      ∙ ap (λ (d : Option (List ℤ)). first d o) (both_tests (is_open_step types sizing beyond of s (named_in ss))
      (step_names types sizing beyond v s (named_in ss)) (domain of v (step_conditions beyond w.facts s (named_in ss))))
  domain_step w (S.Converts direction) ns ss o e h = h
  domain_step w (S.Gives k indices) ns ss o e h = h
  domain_step w (S.Names variable name) ns ss o e h = h

  pub notes_domained : (w : Written) (ss : List Step)
      → notes_domain types sizing beyond of v (notes_behind w ss) ≡ steps_domain types sizing beyond of v w ss
  notes_domained w [] = refl
  notes_domained w (s ∷ ss) =
      ap (notes_domain types sizing beyond of v) (notes_next w s ss)
      ∙ domain_step w s (notes_behind (step_read w s) ss) ss (steps_domain types sizing beyond of v (step_read w s) ss)
      (named_behind (step_read w s) ss) (notes_domained (step_read w s) ss)
