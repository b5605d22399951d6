-- What is read of steps is what is read of the notes that they write.
use Rattle.std.proofs.Common.{◌≡◌, ◌∙◌, ap, sym, refl, ℕ, ◌+◌, ◌<◌, ◌≤◌, List, [], ◌∷◌, ◌++◌, drop, take, length, get_or}
use Rattle.std.specs.Prelude.{Option, Some, None, Result, Ok, Err, IfOk}
use Rattle.std.proofs.lemmas.List.{take_more}
use Rattle.sail_base.specs.declared.place.Place.{Place}
use Rattle.sail_types.specs.declared.numbers.Index.{Index}
use Rattle.sail_core.specs.declared.tree.Callee.{Callee}
use Rattle.sail_core.specs.declared.tree.Callee.TheVariants as D
use Rattle.value_indices.specs.declared.indices.Reading.{Reading}
use Rattle.value_indices.specs.declared.notes.Fact.{Fact}
use Rattle.value_indices.specs.declared.notes.Made.{Made}
use Rattle.value_indices.specs.declared.notes.Step.{Step}
use Rattle.value_indices.specs.declared.notes.Step.TheVariants as S
use Rattle.value_indices.specs.Steps.{Note}
use Rattle.value_indices.specs.Walking.{Written, begun, step_read, steps_read}
use Rattle.value_indices.proofs.Written.{steps_behind}
use Rattle.size_notes.proofs.Lists.{rest_at, none_left}
use Rattle.size_values.specs.declared.constants.Constant.{Constant}
use Rattle.size_values.specs.declared.constants.Picked.{Picked}
use Rattle.size_values.specs.Numbers.{known_of}
use Rattle.size_splits.specs.Reading.{named_in, notes_behind}
use Rattle.size_splits.specs.Sizing.{first_named, made_facts, made_indices}
use Rattle.size_splits.specs.Telling.{telling}
use Rattle.size_splits.proofs.Notes.{named_behind, note_by, notes_next}
use Rattle.size_splits.proofs.Unsaid.{counted_told}
use Rattle.monomorph.specs.declared.error.MonoError.{MonoError}
use Rattle.monomorph.specs.declared.found.Found.{Found}
use Rattle.monomorph.specs.Found.{Answer, and_then, outcome, over}
use Rattle.monomorph.specs.Reading.{Inside, called, read_call, read_made, read_notes, read_sizes, read_way}
use Rattle.monomorph.specs.Steps.{read_step}
use Rattle.monomorph.proofs.Over.{then_on, then_refused}

-- one step more
pub one_step : (steps : List Step) (k : ℕ) (s : Step) → k < length steps → s ≡ get_or steps k s
    → steps_read (begun 0) (take (k + 1) steps) ≡ step_read (steps_read (begun 0) (take k steps)) s
one_step steps k s within read =
    ap (steps_read (begun 0)) (take_more steps k s within ∙ ap (λ t. take k steps ++ t ∷ []) (sym read))
    ∙ steps_behind (begun 0) (take k steps) (s ∷ [])

-- a step, then the notes of the others
module _ (r : Inside) where
  step_then : (w : Written) (s : Step) (ss : List Step) (ns : List Note) → first_named ns ≡ named_in ss → (found : List Found)
      → read_notes r (note_by w s ++ ns) found ≡ and_then (read_step r w.facts s ss found) (read_notes r ns)
  step_then w (S.Assumes fact) ss ns e found = refl
  step_then w S.Remembers ss ns e found = refl
  step_then w S.Restores ss ns e found = refl
  step_then w S.Forgets ss ns e found = refl
  step_then w (S.Claims c) ss ns e found = refl
  step_then w S.Unclaims ss ns e found = refl
  step_then w (S.Owes place c) ss ns e found = refl
  step_then w (S.OwesEarlier place recent c) ss ns e found = refl
  step_then w (S.Sizes place made) ss ns e found =
      ap (λ (o : Option ℕ). and_then (read_made r w.facts place made o found) (read_notes r ns)) e
  step_then w (S.Makes k operands made) ss ns e found = refl
  step_then w (S.Calls place k operands callee js qs) ss ns e found = refl
  step_then w (S.Converts d) ss ns e found = refl
  step_then w (S.Gives k indices) ss ns e found = refl
  step_then w (S.Names variable name) ss ns e found = refl

  steps_then : (w : Written) (s : Step) (ss : List Step) (found : List Found) → read_notes r (notes_behind w (s ∷ ss)) found
      ≡ and_then (read_step r w.facts s ss found) (read_notes r (notes_behind (step_read w s) ss))
  steps_then w s ss found =
      ap (λ ns. read_notes r ns found) (notes_next w s ss)
      ∙ step_then w s ss (notes_behind (step_read w s) ss) (named_behind (step_read w s) ss) found

  -- by what the facts tell
  abbrev told_of : List Fact → List Fact
  told_of facts = telling (known_of r.numbers) r.split facts

  told_alike : (facts : List Fact) (s : Step) (ss : List Step) (found : List Found)
      → read_step r (told_of facts) s ss found ≡ read_step r facts s ss found
  told_alike facts (S.Assumes fact) ss found = refl
  told_alike facts S.Remembers ss found = refl
  told_alike facts S.Restores ss found = refl
  told_alike facts S.Forgets ss found = refl
  told_alike facts (S.Claims c) ss found = refl
  told_alike facts S.Unclaims ss found = refl
  told_alike facts (S.Owes place c) ss found = refl
  told_alike facts (S.OwesEarlier place recent c) ss found = refl
  told_alike facts (S.Sizes place made) ss found =
      ap (λ (l : List (List Picked)). over (read_sizes r place (made_indices r.variables made (named_in ss))) l found)
      (counted_told (known_of r.numbers) r.split facts (made_facts r.variables made (named_in ss)))
  told_alike facts (S.Makes k operands made) ss found = refl
  told_alike facts (S.Calls place k operands callee js qs) ss found =
      ap (λ (l : List (List Picked)). over (read_call r place operands callee js qs) l found) (counted_told (known_of r.numbers) r.split facts [])
  told_alike facts (S.Converts d) ss found =
      ap (λ (l : List (List Picked)). over (read_way d) l found) (counted_told (known_of r.numbers) r.split facts [])
  told_alike facts (S.Gives k indices) ss found = refl
  told_alike facts (S.Names variable name) ss found = refl

  -- one step more
  module _ (steps : List Step) (k : ℕ) (s : Step) (facts : List Fact) (behind : List Step) (found : List Found) (all : Answer) (within : k < length steps)
      (read : s ≡ get_or steps k s) (rest : behind ≡ drop (k + 1) steps) (here : told_of (steps_read (begun 0) (take k steps)).facts ≡ facts)
      (whole : read_notes r (notes_behind (steps_read (begun 0) (take k steps)) (drop k steps)) found ≡ all) where
    abbrev before : Written
    before = steps_read (begun 0) (take k steps)

    this_then : and_then (read_step r facts s behind found) (read_notes r (notes_behind (step_read before s) (drop (k + 1) steps))) ≡ all
    this_then =
        (λ j. and_then (read_step r (sym here j) s (rest j) found) (read_notes r (notes_behind (step_read before s) (drop (k + 1) steps))))
        ∙ (ap (λ (a : Answer). and_then a (read_notes r (notes_behind (step_read before s) (drop (k + 1) steps))))
        (told_alike before.facts s (drop (k + 1) steps) found)
        ∙ (sym (steps_then before s (drop (k + 1) steps) found)
        ∙ (ap (λ l. read_notes r (notes_behind before l) found) (sym (rest_at steps k s within read)) ∙ whole)))

    pub read_next : (new : List Found) → outcome None new ≡ read_step r facts s behind found
        → read_notes r (notes_behind (steps_read (begun 0) (take (k + 1) steps)) (drop (k + 1) steps)) new ≡ all
    read_next new fine =
        ap (λ (w : Written). read_notes r (notes_behind w (drop (k + 1) steps)) new) (one_step steps k s within read)
        ∙ (sym (then_on (read_step r facts s behind found) (read_notes r (notes_behind (step_read before s) (drop (k + 1) steps))) new fine) ∙ this_then)

    pub read_refused : (e : MonoError) (new last : List Found) → outcome (Some e) new ≡ read_step r facts s behind found → outcome (Some e) last ≡ all
    read_refused e new last refused =
        sym (then_refused (read_step r facts s behind found) (read_notes r (notes_behind (step_read before s) (drop (k + 1) steps))) e new refused)
        ∙ this_then

  pub read_end : (steps : List Step) (k : ℕ) (w : Written) (found : List Found) (all : Answer) → length steps ≤ k
      → read_notes r (notes_behind w (drop k steps)) found ≡ all → outcome None found ≡ all
  read_end steps k w found all past h = ap (λ l. read_notes r (notes_behind w l) found) (sym (none_left steps k past)) ∙ h

-- ---- what kinds of steps and calls come to

pub made_step : {E : Type 0} (r : Result (Option MonoError) E) (ins : Inside) (facts : List Fact) (step : Step) (behind : List Step) (found : List Found)
    (place : Place) (made : Made) (named : Option ℕ) → step ≡ S.Sizes place made → named ≡ named_in behind
    → IfOk r (λ refused. outcome refused found ≡ read_made ins facts place made named found)
    → IfOk r (λ refused. outcome refused found ≡ read_step ins facts step behind found)
made_step (Ok o) ins facts step behind found place made named is name h =
    h
    ∙ (ap (λ (n : Option ℕ). read_made ins facts place made n found) name
    ∙ ap (λ (s : Step). read_step ins facts s behind found) (sym is))
made_step (Err e) ins facts step behind found place made named is name h = tt

module _ {E : Type 0} (r : Result (Option MonoError) E) (ins : Inside) (place : Place) (of : ℕ → Constant) (callee : Callee) (js : List Index)
    (qs : List Reading) (found new : List Found) (d : ℕ) where
  by_way : (o : Result (Option MonoError) E) → ((ps : List Picked) → IfOk o (λ refused. outcome refused new ≡ read_way d ps found)) → callee ≡ D.Converts d
      → IfOk o (λ refused. outcome refused new ≡ called ins place of callee js qs found)
  by_way (Ok p) h is = h [] ∙ ap (λ (k : Callee). called ins place of k js qs found) (sym is)
  by_way (Err e) h is = tt

  by_other : (o : Result (Option MonoError) E) → ((ps : List Picked) → IfOk o (λ refused. outcome refused new ≡ read_way d ps found)) → callee ≡ D.Applies d
      → IfOk o (λ refused. outcome refused new ≡ called ins place of callee js qs found)
  by_other (Ok p) h is = h [] ∙ ap (λ (k : Callee). called ins place of k js qs found) (sym is)
  by_other (Err e) h is = tt

  pub converts : ((ps : List Picked) → IfOk r (λ refused. outcome refused new ≡ read_way d ps found)) → callee ≡ D.Converts d
      → IfOk r (λ refused. outcome refused new ≡ called ins place of callee js qs found)
  converts h is = by_way r h is

  pub applies : ((ps : List Picked) → IfOk r (λ refused. outcome refused new ≡ read_way d ps found)) → callee ≡ D.Applies d
      → IfOk r (λ refused. outcome refused new ≡ called ins place of callee js qs found)
  applies h is = by_other r h is
