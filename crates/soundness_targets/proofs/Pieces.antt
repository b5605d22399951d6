-- Pieces of walks put together otherwise.
use Rattle.std.proofs.Common.{◌∙◌, ◌++◌, ℕ, List, sym, ap, subst}
use Rattle.std.proofs.lemmas.List.{append-nil, append_assoc}
use Rattle.sail_core.specs.Run.{Run, gives, ◌then◌}
use Rattle.value_indices.specs.declared.notes.Fact.{Fact}
use Rattle.value_indices.specs.Steps.{Walk, bind, give}
use Rattle.checked_meaning.specs.Items.{Item}
use Rattle.value_laws.specs.Known.{Point}
use Rattle.soundness_steps.specs.Points.{Later}
use Rattle.soundness_steps.specs.Works.{Scene}
use Rattle.soundness_steps.specs.Steps.{AllMet, Beside}
use Rattle.soundness_steps.proofs.Steps.{means}
use Rattle.soundness_parts.proofs.Indexes.{maps}

-- a walk, then two others one behind the other
pub walk_regrouped : {q : Scene} {n : ℕ} {f : Point n} {facts : List Fact} {A B C D : Type 0} (w : Walk A) (k : A → Walk B) (l : B → Walk C) {c : Run Item D}
    {Holds : (m : ℕ) → Point m → C → D → Type 0} → Beside q n f facts (bind w (λ a. bind (k a) l)) c Holds → Beside q n f facts (bind (bind w k) l) c Holds
unfolding bind
walk_regrouped {q} {n} {f} {facts} w k l b = record {
  run = λ now stands met ok.
      let first = w facts n in
      let second = k first.value first.facts first.next in
      let third = l second.value second.facts second.next in
      b.run now stands (subst (AllMet q) (append_assoc first.notes second.notes third.notes) met) ok;
}

-- what a run gives, with something made of it
pub maps_on : {q : Scene} {n : ℕ} {f : Point n} {facts : List Fact} {A B C : Type 0} {w : Walk A} {c : Run Item B} (h : B → C)
    {Holds : (m : ℕ) → Point m → A → B → Type 0} {Then : (m : ℕ) → Point m → A → C → Type 0}
    → ((m : ℕ) (g : Point m) (a : A) (x : B) → Later f g → Holds m g a x → Then m g a (h x)) → Beside q n f facts w c Holds
    → Beside q n f facts w (c then λ x. gives (h x)) Then
maps_on h say b = maps h (λ m g a x k. k) (means say b)

abbrev pub both : {A B : Type 0} → A → B → A × B
both a b = (a, b)

-- two walks and what they give, and a third
pub walk_spread : {q : Scene} {n : ℕ} {f : Point n} {facts : List Fact} {A B C D : Type 0} (w : Walk A) (k : A → Walk B) (l : A → B → Walk C) {c : Run Item D}
    {Holds : (m : ℕ) → Point m → C → D → Type 0}
    → Beside q n f facts (bind (bind w (λ a. bind (k a) (λ b. give (both a b)))) (λ p. l p.0 p.1)) c Holds
    → Beside q n f facts (bind w (λ a. bind (k a) (l a))) c Holds
unfolding bind give
walk_spread {q} {n} {f} {facts} w k l b = record {
  run = λ now stands met ok.
      let first = w facts n in
      let second = k first.value first.facts first.next in
      let third = l first.value second.value second.facts second.next in
      b.run now stands (subst (AllMet q) (sym (append_assoc first.notes second.notes third.notes)
      ∙ ap (λ ns. (first.notes ++ ns) ++ third.notes) (sym (append-nil second.notes))) met) ok;
}

-- what is given goes on
pub starts : {q : Scene} {n : ℕ} {f : Point n} {facts : List Fact} {A C D : Type 0} (a : A) (k : A → Walk C) {c : Run Item D}
    {Holds : (m : ℕ) → Point m → C → D → Type 0} → Beside q n f facts (k a) c Holds → Beside q n f facts (bind (give a) k) c Holds
unfolding bind give
starts a k b = record { run = b.run }

-- what is given doesn't count
pub give_any : {q : Scene} {n : ℕ} {f : Point n} {facts : List Fact} {A B C : Type 0} {H : (m : ℕ) → Point m → A → C → Type 0} {c : Run Item C} (b : A) (a : B)
    (P : B → Type 0) → P a → Beside q n f facts (give b) c H → Beside q n f facts (give a) c (λ m p x r. P x)
unfolding give
give_any {q} {n} {f} {facts} {c = c} b a P h beside =
    let said : Beside q n f facts (give b) c (λ m p x r. P a) = means (λ m g x r l k. h) beside in
    record { run = λ now stands met ok. said.run now stands met ok }
