-- Walks that hang on no facts: what is in force before one changes nothing of what it gives, of the variables it takes and of what it puts in force.
use Rattle.std.proofs.Common.{◌≡◌, ◌∙◌, ◌≤◌, ℕ, false, List, [], ◌∷◌, ◌++◌, Option, Some, None, refl, sym, ap, subst, arith}
use Rattle.std.proofs.lemmas.List.{append-nil, append_assoc}
use Rattle.sail_base.specs.declared.place.Place.{Place}
use Rattle.sail_core.specs.declared.tree.Giver.TheVariants as By
use Rattle.sail_types.specs.declared.numbers.Con.{Con}
use Rattle.sail_types.specs.declared.numbers.Con.TheVariants as C
use Rattle.value_indices.specs.declared.indices.Indices.{Indices}
use Rattle.value_indices.specs.declared.indices.Indices.TheVariants as I
use Rattle.value_indices.specs.declared.notes.Fact.{Fact}
use Rattle.value_indices.specs.declared.notes.Fact.TheVariants as Y
use Rattle.value_indices.specs.declared.notes.Made.{Made}
use Rattle.value_indices.specs.declared.notes.Made.TheVariants as Makes
use Rattle.value_indices.specs.Steps.{Conditions, Note, Walk, assume, assume_all, assume_if, bind, each, fresh, fresh_named, give, made_note}
use Rattle.value_indices.specs.Steps.{next_variable, note, owe}
use Rattle.value_fits.specs.Fitting.{owe_fit, owe_made}
use Rattle.value_fits.specs.declared.fitted.Fitted.{Fitted}
use Rattle.call_notes.specs.Ends.{wrong_value}
use Rattle.call_notes.specs.Noted.{node_ended, node_made}
use Rattle.value_laws.specs.Known.{given_in}

pub record FactFree {A : Type 0} (walk : Walk A) : Type 0 where
  pub value : (facts : List Fact) (n : ℕ) → (walk facts n).value ≡ (walk [] n).value
  pub next : (facts : List Fact) (n : ℕ) → (walk facts n).next ≡ (walk [] n).next
  -- what comes into force behind what is
  pub facts : (facts : List Fact) (n : ℕ) → (walk facts n).facts ≡ facts ++ (walk [] n).facts

-- ---- steps

pub give_free : {A : Type 0} (x : A) → FactFree (give x)
unfolding give
give_free x = record { value = λ facts n. refl; next = λ facts n. refl; facts = λ facts n. sym (append-nil facts) }

pub bind_free : {A B : Type 0} (w : Walk A) (k : A → Walk B) → FactFree w → ((a : A) → FactFree (k a)) → FactFree (bind w k)
unfolding bind
bind_free w k h more = record {
  value = λ facts n.
      (more (w facts n).value).value (w facts n).facts (w facts n).next
      ∙ (λ i. (k (h.value facts n i) [] (h.next facts n i)).value)
      ∙ sym ((more (w [] n).value).value (w [] n).facts (w [] n).next);
  next = λ facts n.
      (more (w facts n).value).next (w facts n).facts (w facts n).next
      ∙ (λ i. (k (h.value facts n i) [] (h.next facts n i)).next)
      ∙ sym ((more (w [] n).value).next (w [] n).facts (w [] n).next);
  facts = λ facts n.
      let behind : List Fact = (k (w [] n).value [] (w [] n).next).facts in
      (more (w facts n).value).facts (w facts n).facts (w facts n).next
      ∙ (λ i. h.facts facts n i ++ (k (h.value facts n i) [] (h.next facts n i)).facts)
      ∙ append_assoc facts (w [] n).facts behind
      ∙ ap (λ fs. facts ++ fs) (sym ((more (w [] n).value).facts (w [] n).facts (w [] n).next));
}

pub note_free : (make : List Fact → Note) → FactFree (note make)
unfolding note
note_free make = record { value = λ facts n. refl; next = λ facts n. refl; facts = λ facts n. sym (append-nil facts) }

pub assume_free : (c : Con) → FactFree (assume c)
unfolding assume
assume_free c = record { value = λ facts n. refl; next = λ facts n. refl; facts = λ facts n. refl }

pub assume_if_free : (o : Option Con) → FactFree (assume_if o)
assume_if_free None = give_free tt
assume_if_free (Some c) = assume_free c

pub assume_all_free : (cs : Conditions) → FactFree (assume_all cs)
assume_all_free [] = give_free tt
assume_all_free (c ∷ cs) = bind_free (assume_if c) (λ t. assume_all cs) (assume_if_free c) (λ t. assume_all_free cs)

pub fresh_free : FactFree fresh
unfolding fresh
fresh_free = record { value = λ facts n. refl; next = λ facts n. refl; facts = λ facts n. sym (append-nil facts) }

pub fresh_named_free : (name : List ℕ) → FactFree (fresh_named name)
unfolding fresh_named
fresh_named_free name = record { value = λ facts n. refl; next = λ facts n. refl; facts = λ facts n. sym (append-nil facts) }

pub next_free : FactFree next_variable
unfolding next_variable
next_free = record { value = λ facts n. refl; next = λ facts n. refl; facts = λ facts n. sym (append-nil facts) }

pub owe_free : (place : Place) (cs : Conditions) → FactFree (owe place cs)
unfolding owe
owe_free place cs = record { value = λ facts n. refl; next = λ facts n. refl; facts = λ facts n. sym (append-nil facts) }

pub owe_fit_free : (place : Place) (a : ℕ → Fitted) → FactFree (owe_fit place a)
unfolding owe_fit owe_made
owe_fit_free place a = record { value = λ facts n. refl; next = λ facts n. refl; facts = λ facts n. refl }

pub each_free : {A B : Type 0} (f : A → Walk B) → ((x : A) → FactFree (f x)) → (xs : List A) → FactFree (each f xs)
each_free f h [] = give_free []
each_free f h (x ∷ xs) = bind_free (f x) _ (h x) (λ y. bind_free (each f xs) _ (each_free f h xs) (λ ys. give_free (y ∷ ys)))

pub wrong_free : (place : Place) → FactFree (wrong_value place)
wrong_free place = bind_free (owe place (Some (C.Truth false) ∷ [])) (λ t. give I.Never) (owe_free place (Some (C.Truth false) ∷ []))
    (λ t. give_free I.Never)

-- ---- walks that put in force only what is true

both_none : (fs gs : List Fact) → given_in fs ≡ [] → given_in gs ≡ [] → given_in (fs ++ gs) ≡ []
both_none [] gs h k = k
both_none (Y.Holds c ∷ fs) gs h k = both_none fs gs h k
both_none (Y.IsGiven v ∷ fs) gs h k = absurd (cc)

-- and no number is noted there, and none of the variables taken again
pub record Quiet {A : Type 0} (walk : Walk A) : Type 0 where
  pub free : FactFree walk
  pub on : (n : ℕ) → n ≤ (walk [] n).next
  pub none : (n : ℕ) → given_in (walk [] n).facts ≡ []

pub give_quiet : {A : Type 0} (x : A) → Quiet (give x)
unfolding give
give_quiet x = record { free = give_free x; on = λ n. omega arith; none = λ n. refl }

pub bind_quiet : {A B : Type 0} (w : Walk A) (k : A → Walk B) → Quiet w → ((a : A) → Quiet (k a)) → Quiet (bind w k)
unfolding bind
bind_quiet w k h more = record {
  free = bind_free w k h.free (λ a. (more a).free);
  on = λ n.
      let first = w [] n in
      let a = h.on n in
      let b = (more first.value).on first.next in
      subst (λ (m : ℕ). n ≤ m) (sym ((more first.value).free.next first.facts first.next)) (omega arith);
  none = λ n.
      let first = w [] n in
      ap given_in ((more first.value).free.facts first.facts first.next)
      ∙ both_none first.facts (k first.value [] first.next).facts (h.none n) ((more first.value).none first.next);
}

pub note_quiet : (make : List Fact → Note) → Quiet (note make)
unfolding note
note_quiet make = record { free = note_free make; on = λ n. omega arith; none = λ n. refl }

pub assume_quiet : (c : Con) → Quiet (assume c)
unfolding assume
assume_quiet c = record { free = assume_free c; on = λ n. omega arith; none = λ n. refl }

pub assume_if_quiet : (o : Option Con) → Quiet (assume_if o)
assume_if_quiet None = give_quiet tt
assume_if_quiet (Some c) = assume_quiet c

pub fresh_quiet : Quiet fresh
unfolding fresh
fresh_quiet = record { free = fresh_free; on = λ n. omega arith; none = λ n. refl }

pub fresh_named_quiet : (name : List ℕ) → Quiet (fresh_named name)
unfolding fresh_named
fresh_named_quiet name = record { free = fresh_named_free name; on = λ n. omega arith; none = λ n. refl }

pub owe_quiet : (place : Place) (cs : Conditions) → Quiet (owe place cs)
unfolding owe
owe_quiet place cs = record { free = owe_free place cs; on = λ n. omega arith; none = λ n. refl }

pub each_quiet : {A B : Type 0} (f : A → Walk B) → ((x : A) → Quiet (f x)) → (xs : List A) → Quiet (each f xs)
each_quiet f h [] = give_quiet []
each_quiet f h (x ∷ xs) = bind_quiet (f x) _ (h x) (λ y. bind_quiet (each f xs) _ (each_quiet f h xs) (λ ys. give_quiet (y ∷ ys)))

pub wrong_quiet : (place : Place) → Quiet (wrong_value place)
wrong_quiet place = bind_quiet (owe place (Some (C.Truth false) ∷ [])) (λ t. give I.Never) (owe_quiet place (Some (C.Truth false) ∷ []))
    (λ t. give_quiet I.Never)

-- ---- nodes

pub made_free : (k : ℕ) (is : List Indices) (m : Made) → FactFree (node_made k is m)
made_free k is m = note_free (λ facts. made_note facts k is m)

pub ended_free : (k : ℕ) (is : List Indices) (i : Indices) → FactFree (node_ended k is i)
ended_free k is i = bind_free (node_made k is (Makes.ByIndices i)) (λ t. give i) (made_free k is (Makes.ByIndices i)) (λ t. give_free i)
