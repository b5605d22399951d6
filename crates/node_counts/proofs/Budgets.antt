-- Budgets of walks: what the notes of a walk weigh together, at most.
use Rattle.std.proofs.Common.{◌≡◌, ℕ, ◌+◌, ◌≤◌, List, [], ◌∷◌, ◌++◌, sym, subst, refl, arith}
use Rattle.sail_types.specs.declared.numbers.Con.{Con}
use Rattle.value_indices.specs.declared.notes.Fact.{Fact}
use Rattle.value_indices.specs.declared.notes.Fact.TheVariants as Y
use Rattle.value_indices.specs.Steps.{Note, Walk, bind, claimed, give, note, scoped}
use Rattle.node_counts.specs.Counts.{mass}

module _ (weigh : Note → ℕ) where
  pub mass_both : (xs ys : List Note) → mass weigh (xs ++ ys) ≡ mass weigh xs + mass weigh ys
  mass_both [] ys = omega arith
  mass_both (x ∷ xs) ys = let e : mass weigh (xs ++ ys) ≡ mass weigh xs + mass weigh ys = mass_both xs ys in omega (arith, e)

  -- out of this budget
  abbrev pub Within : {A : Type 0} → ℕ → Walk A → Type 0
  Within b w = (facts : List Fact) (n : ℕ) → mass weigh (w facts n).notes ≤ b

  -- and what is left of it behind a value
  abbrev pub Leaves : {A : Type 0} → ℕ → Walk A → (A → ℕ → Type 0) → Type 0
  Leaves b w Q = (facts : List Fact) (n : ℕ) → (d : ℕ) × (mass weigh (w facts n).notes + d ≤ b) × Q (w facts n).value d

  pub within_more : {A : Type 0} {a b : ℕ} (w : Walk A) → a ≤ b → Within a w → Within b w
  within_more w l h facts n = let k : mass weigh (w facts n).notes ≤ _ = h facts n in omega (arith, l, k)

  pub within_give : {A : Type 0} (x : A) → Within 0 (give x)
  unfolding give
  within_give x facts n = omega arith

  pub within_bind : {A B : Type 0} {a b : ℕ} (w : Walk A) (k : A → Walk B) → Within a w → ((x : A) → Within b (k x)) → Within (a + b) (bind w k)
  unfolding bind
  within_bind {a = a} {b = b} w k h more facts n =
      let r = w facts n in
      let s = k r.value r.facts r.next in
      let e : mass weigh (r.notes ++ s.notes) ≡ mass weigh r.notes + mass weigh s.notes = mass_both r.notes s.notes in
      let l : mass weigh r.notes ≤ a = h facts n in
      let m : mass weigh s.notes ≤ b = more r.value r.facts r.next in
      subst (λ (x : ℕ). x ≤ a + b) (sym e) (omega (arith, l, m))

  -- a walk that weighs nothing, before another and behind it
  pub light_first : {A B : Type 0} {b : ℕ} (w : Walk A) (k : A → Walk B) → Within 0 w → ((x : A) → Within b (k x)) → Within b (bind w k)
  light_first {b = b} w k h more = within_more (bind w k) (omega arith) (within_bind w k h more)

  pub light_last : {A B : Type 0} {b : ℕ} (w : Walk A) (k : A → Walk B) → Within b w → ((x : A) → Within 0 (k x)) → Within b (bind w k)
  light_last {b = b} w k h more = within_more (bind w k) (omega arith) (within_bind w k h more)

  pub within_scoped : {A : Type 0} {b : ℕ} (w : Walk A) → Within b w → Within b (scoped w)
  unfolding scoped
  within_scoped w h facts n = h facts n

  pub within_claimed : {A : Type 0} {b : ℕ} (c : Con) (w : Walk A) → Within b w → Within b (claimed c w)
  unfolding claimed
  within_claimed c w h facts n = h (facts ++ Y.Holds c ∷ []) n

  pub within_note : {b : ℕ} (make : List Fact → Note) → ((facts : List Fact) → weigh (make facts) ≤ b) → Within b (note make)
  unfolding note
  within_note make h facts n = let l : weigh (make facts) ≤ _ = h facts in omega (arith, l)

  -- ---- what is left

  pub leaves_give : {A : Type 0} (Q : A → ℕ → Type 0) (b : ℕ) (x : A) → Q x b → Leaves b (give x) Q
  unfolding give
  leaves_give Q b x h facts n = (b, omega arith, h)

  pub leaves_bind : {A B : Type 0} {b : ℕ} (w : Walk A) (k : A → Walk B) (Q : A → ℕ → Type 0) (R : B → ℕ → Type 0) → Leaves b w Q
      → ((x : A) (d : ℕ) → Q x d → Leaves d (k x) R) → Leaves b (bind w k) R
  unfolding bind
  leaves_bind {b = b} w k Q R h more facts n =
      let r = w facts n in
      let one = h facts n in
      let s = k r.value r.facts r.next in
      let two = more r.value one.0 one.2 r.facts r.next in
      let e : mass weigh (r.notes ++ s.notes) ≡ mass weigh r.notes + mass weigh s.notes = mass_both r.notes s.notes in
      let l : mass weigh r.notes + one.0 ≤ b = one.1 in
      let m : mass weigh s.notes + two.0 ≤ one.0 = two.1 in
      (two.0, subst (λ (x : ℕ). x + two.0 ≤ b) (sym e) (omega (arith, l, m)), two.2)

  pub within_left : {A B : Type 0} {b : ℕ} (w : Walk A) (k : A → Walk B) (Q : A → ℕ → Type 0) → Leaves b w Q
      → ((x : A) (d : ℕ) → Q x d → Within d (k x)) → Within b (bind w k)
  unfolding bind
  within_left {b = b} w k Q h more facts n =
      let r = w facts n in
      let one = h facts n in
      let s = k r.value r.facts r.next in
      let e : mass weigh (r.notes ++ s.notes) ≡ mass weigh r.notes + mass weigh s.notes = mass_both r.notes s.notes in
      let l : mass weigh r.notes + one.0 ≤ b = one.1 in
      let m : mass weigh s.notes ≤ one.0 = more r.value one.0 one.2 r.facts r.next in
      subst (λ (x : ℕ). x ≤ b) (sym e) (omega (arith, l, m))

  -- a walk that spends its part of a budget leaves the rest
  pub leaves_rest : {A : Type 0} {a : ℕ} (w : Walk A) (b d : ℕ) (Q : A → ℕ → Type 0) → Within a w → a + d ≤ b → ((x : A) → Q x d) → Leaves b w Q
  leaves_rest {a = a} w b d Q h l left facts n =
      let k : mass weigh (w facts n).notes ≤ a = h facts n in
      (d, omega (arith, k, l), left (w facts n).value)

  pub leaves_more : {A : Type 0} {a b : ℕ} (w : Walk A) (Q : A → ℕ → Type 0) → a ≤ b → Leaves a w Q → Leaves b w Q
  leaves_more w Q l h facts n =
      let one = h facts n in
      let k : mass weigh (w facts n).notes + one.0 ≤ _ = one.1 in
      (one.0, omega (arith, l, k), one.2)

  -- what isn't touched is left too
  pub leaves_beside : {A : Type 0} {b : ℕ} (c : ℕ) (w : Walk A) (Q : A → ℕ → Type 0) → Leaves b w Q
      → Leaves (c + b) w (λ x e. (d : ℕ) × (e ≡ c + d) × Q x d)
  leaves_beside {b = b} c w Q h facts n =
      let one = h facts n in
      let k : mass weigh (w facts n).notes + one.0 ≤ b = one.1 in
      (c + one.0, omega (arith, k), (one.0, refl, one.2))
