-- What the steps of a walk of its own note behind those of others, with the sizes of written types among them.
use Rattle.std.proofs.Common.{◌≡◌, ◌++◌, ◌∙◌, ap, sym, refl, ℕ, List, [], ◌∷◌, map, append-nil, append_assoc}
use Rattle.value_indices.specs.declared.notes.Fact.{Fact}
use Rattle.value_indices.specs.declared.notes.Step.{Step}
use Rattle.value_indices.specs.declared.notes.Step.TheVariants as S
use Rattle.value_indices.specs.declared.walking.Walking.{Walking}
use Rattle.value_indices.specs.Steps.{Note, goal_note, size_note, made_note, call_note, way_note, given_note, name_note}
use Rattle.value_indices.specs.Walking.{Written, begun, step_read, steps_read, seen, restored, restored_to, forgotten, forgotten_of}
use Rattle.value_indices.specs.Walking.{counted_from, unclaimed, unclaimed_to, remembering, claiming, recalled}
use Rattle.value_indices.proofs.Written.{steps_behind as read_behind}
use Rattle.size_notes.specs.declared.written.WrittenSize.{WrittenSize}
use Rattle.size_notes.specs.declared.behind.Behind.{Behind}
use Rattle.size_notes.specs.Behind.{notes_with, size_behind, sizes_behind, sizes_noted}
use Rattle.size_notes.specs.Reading.{IsAtRest, size_step, step_behind, steps_behind, step_with, steps_with, with_alone}

-- ---- notes with sizes

notes_append : (bs : List Behind) (xs ys : List Note) → notes_with bs (xs ++ ys) ≡ notes_with bs xs ++ notes_with bs ys
notes_append bs [] ys = refl
notes_append bs (goal_note facts place goal ∷ xs) ys = ap (λ l. goal_note facts place goal ∷ l) (notes_append bs xs ys)
notes_append bs (size_note facts place made ∷ xs) ys = ap (λ l. size_note facts place made ∷ l) (notes_append bs xs ys)
notes_append bs (made_note facts k operands made ∷ xs) ys =
    ap (λ l. made_note facts k operands made ∷ l) (
    ap (λ l. sizes_noted facts (sizes_behind k bs) ++ l) (notes_append bs xs ys)
    ∙ sym (append_assoc (sizes_noted facts (sizes_behind k bs)) (notes_with bs xs) (notes_with bs ys)))
notes_append bs (call_note facts place k operands callee numbers types ∷ xs) ys =
    ap (λ l. call_note facts place k operands callee numbers types ∷ l) (notes_append bs xs ys)
notes_append bs (way_note facts d ∷ xs) ys = ap (λ l. way_note facts d ∷ l) (notes_append bs xs ys)
notes_append bs (given_note facts k indices ∷ xs) ys = ap (λ l. given_note facts k indices ∷ l) (notes_append bs xs ys)
notes_append bs (name_note w name ∷ xs) ys = ap (λ l. name_note w name ∷ l) (notes_append bs xs ys)

noted_append : (facts : List Fact) (xs ys : List WrittenSize) → sizes_noted facts (xs ++ ys) ≡ sizes_noted facts xs ++ sizes_noted facts ys
noted_append facts [] ys = refl
noted_append facts (x ∷ xs) ys = ap (λ l. sizes_noted facts (x ∷ []) ++ l) (noted_append facts xs ys)

-- ---- steps that note sizes

abbrev noting_all : Written → List Note → Written
noting_all w notes = record w { notes = w.notes ++ notes }

sizes_read : (w : Written) (ss : List WrittenSize) → steps_read w (map size_step ss) ≡ noting_all w (sizes_noted w.facts ss)
sizes_read w [] = λ i. record w { notes = sym (append-nil w.notes) i }
sizes_read w (s ∷ ss) =
    let first = sizes_noted w.facts (s ∷ []) in
    sizes_read (noting_all w first) ss
    ∙ (λ i. record w { notes = append_assoc w.notes first (sizes_noted w.facts ss) i })

behind_read : (w : Written) (k : ℕ) (bs : List Behind) → steps_read w (steps_behind k bs) ≡ noting_all w (sizes_noted w.facts (sizes_behind k bs))
behind_read w k [] = λ i. record w { notes = sym (append-nil w.notes) i }
behind_read w k (b ∷ bs) =
    let first = sizes_noted w.facts (size_behind k b) in
    let more = sizes_noted w.facts (sizes_behind k bs) in
    read_behind w (step_behind k b) (steps_behind k bs)
    ∙ (ap (λ v. steps_read v (steps_behind k bs)) (sizes_read w (size_behind k b))
    ∙ (behind_read (noting_all w first) k bs
    ∙ ((λ i. record w { notes = append_assoc w.notes first more i })
    ∙ ap (noting_all w) (sym (noted_append w.facts (size_behind k b) (sizes_behind k bs))))))

-- ---- the same in force, with these notes before, and sizes among the notes

module _ (bs : List Behind) (n : ℕ) (before : List Note) where
  abbrev among : Written → Written
  among v = record { facts = v.facts; remembered = v.remembered; next = n; notes = before ++ notes_with bs v.notes }

  one_more : (v : Written) (note : Note) → noting_all (among v) (notes_with bs (note ∷ [])) ≡ among (noting_all v (note ∷ []))
  one_more v note =
      λ i. record (among v) {
        notes = (append_assoc before (notes_with bs v.notes) (notes_with bs (note ∷ []))
            ∙ ap (λ l. before ++ l) (sym (notes_append bs v.notes (note ∷ [])))) i;
      }

  restored_among : (v : Written) (r : List (List Fact)) → restored_to (among v) r ≡ among (restored_to v r)
  restored_among v [] = refl
  restored_among v (facts ∷ r) = refl

  forgotten_among : (v : Written) (r : List (List Fact)) → forgotten_of (among v) r ≡ among (forgotten_of v r)
  forgotten_among v [] = refl
  forgotten_among v (facts ∷ r) = refl

  unclaimed_among : (v : Written) (r : List (List Fact)) → unclaimed_to (among v) r ≡ among (unclaimed_to v r)
  unclaimed_among v [] = refl
  unclaimed_among v (facts ∷ r) = refl

  made_among : (v : Written) (k : ℕ) (note : Note) → notes_with bs (note ∷ []) ≡ note ∷ sizes_noted v.facts (sizes_behind k bs)
      → steps_read (noting_all (among v) (note ∷ [])) (steps_behind k bs) ≡ among (noting_all v (note ∷ []))
  made_among v k note is =
      let more = sizes_noted v.facts (sizes_behind k bs) in
      behind_read (noting_all (among v) (note ∷ [])) k bs
      ∙ ((λ i. record (among v) { notes = append_assoc (among v).notes (note ∷ []) more i })
      ∙ (ap (noting_all (among v)) (sym is) ∙ one_more v note))

  step_among : (v : Written) (s : Step) → steps_read (among v) (step_with bs s) ≡ among (step_read v s)
  unfolding restored forgotten unclaimed remembering claiming recalled
  step_among v (S.Assumes fact) = refl
  step_among v S.Remembers = refl
  step_among v S.Restores = restored_among v v.remembered
  step_among v S.Forgets = forgotten_among v v.remembered
  step_among v (S.Claims c) = refl
  step_among v S.Unclaims = unclaimed_among v v.remembered
  step_among v (S.Owes place c) = one_more v (goal_note v.facts place c)
  step_among v (S.OwesEarlier place recent c) = one_more v (goal_note (recalled recent v) place c)
  step_among v (S.Sizes place made) = one_more v (size_note v.facts place made)
  step_among v (S.Makes k operands made) =
      made_among v k (made_note v.facts k operands made)
      (ap (λ l. made_note v.facts k operands made ∷ l) (append-nil (sizes_noted v.facts (sizes_behind k bs))))
  step_among v (S.Calls place k operands callee numbers types) = one_more v (call_note v.facts place k operands callee numbers types)
  step_among v (S.Converts direction) = one_more v (way_note v.facts direction)
  step_among v (S.Gives k indices) = one_more v (given_note v.facts k indices)
  step_among v (S.Names variable name) = one_more v (name_note variable name)

  steps_among : (v : Written) (ss : List Step) → steps_read (among v) (steps_with bs ss) ≡ among (steps_read v ss)
  steps_among v [] = refl
  steps_among v (s ∷ ss) =
      read_behind (among v) (step_with bs s) (steps_with bs ss)
      ∙ (ap (λ w. steps_read w (steps_with bs ss)) (step_among v s) ∙ steps_among (step_read v s) ss)

-- ---- a walk of its own behind others

nothing_before : (bs : List Behind) (n : ℕ) (notes : List Note)
    → record { facts = []; remembered = []; next = n; notes = notes } ≡ among bs n notes (begun 0)
nothing_before bs n notes = λ i. record { facts = []; remembered = []; next = n; notes = sym (append-nil notes) i }

pub appended : (bs : List Behind) (old mid inner : Walking) (own : List Step) (n : ℕ) (new : Written) → IsAtRest (seen old) → IsAtRest (seen inner)
    → own ≡ inner.steps → mid.steps ≡ old.steps ++ steps_with bs own → n ≡ (seen inner).next → new ≡ counted_from n (seen mid)
    → new ≡ with_alone bs (seen inner) (seen old)
unfolding seen counted_from
appended bs old mid inner own n new rest ended whole steps next counted =
    let w = steps_read (begun 0) old.steps in
    let v = steps_read (begun 0) inner.steps in
    let here : steps_read w (steps_with bs inner.steps) ≡ among bs w.next w.notes v =
    ap (λ (u : Written). steps_read u (steps_with bs inner.steps))
    ((λ i. record { facts = rest.facts i; remembered = rest.remembered i; next = w.next; notes = w.notes }) ∙ nothing_before bs w.next w.notes)
    ∙ steps_among bs w.next w.notes (begun 0) inner.steps in
    let read : steps_read (begun 0) mid.steps ≡ among bs w.next w.notes v =
    ap (steps_read (begun 0)) (steps ∙ ap (λ l. old.steps ++ steps_with bs l) whole)
    ∙ (read_behind (begun 0) old.steps (steps_with bs inner.steps) ∙ here) in
    counted
    ∙ ((λ i. record (read i) { next = next i })
    ∙ (λ i. record {
      facts = (ended.facts ∙ sym rest.facts) i;
      remembered = (ended.remembered ∙ sym rest.remembered) i;
      next = inner.next;
      notes = w.notes ++ notes_with bs v.notes;
    }))
