-- One suffix after the other: an index, its part, and what stands behind it.
use Rattle.std.proofs.Common.{◌≡◌, ℕ, suc, ℤ, false, List, [], ◌∷◌, if◌then◌else◌, length, take, drop, nat_lt, Option, Some, None, refl, sym, ap, subst, arith}
use Rattle.std.proofs.lemmas.Bool.Decides.{nat_tests}
use Rattle.sail_base.specs.declared.place.Place.{Place}
use Rattle.sail_types.specs.declared.numbers.Num.{Num}
use Rattle.sail_core.specs.Making.{World, integer}
use Rattle.sail_core.specs.Meaning.{taken as taken_run}
use Rattle.sail_core.specs.Run.{Run, ◌then◌}
use Rattle.sail_core.specs.Values.{item_way}
use Rattle.sail_core.specs.declared.targets.Way.TheVariants as Y
use Rattle.value_indices.specs.declared.indices.Indices.{Indices, out-Indices}
use Rattle.value_indices.specs.declared.notes.Fact.{Fact}
use Rattle.value_indices.specs.Steps.{Walk, bind, give}
use Rattle.pattern_leaves.specs.Settings.{Scope}
use Rattle.expression_forms.specs.Ways.{into_item}
use Rattle.expression_steps.specs.Parts.{Part, numbers_walk}
use Rattle.expression_steps.specs.Values.{Passed, Taken, no_way, passed, read_taken, taken, then_on, way_taken, way_walk}
use Rattle.checked_meaning.specs.Items.{Item}
use Rattle.value_laws.specs.Known.{Point}
use Rattle.soundness_steps.specs.Points.{Later}
use Rattle.soundness_steps.specs.Works.{Scene, here}
use Rattle.soundness_steps.specs.Steps.{Beside, Walks}
use Rattle.soundness_steps.specs.Values.{Is}
use Rattle.soundness_steps.proofs.Steps.{binds, given_back, regrouped, runs_as, walks_on}
use Rattle.soundness_forms.specs.Forms.{Fine}
use Rattle.soundness_forms.specs.Worlds.{Surrounds}
use Rattle.soundness_forms.proofs.Basics.{is_on, then_walks}
use Rattle.soundness_parts.proofs.Indexes.{Counts, OneIndex, counted, counts_on, one_index, paired}
use Rattle.soundness_parts.proofs.Suffixes.{item_fine}
use Rattle.soundness_parts.proofs.Taken.{z}

enough : (n : ℕ) → nat_lt (suc n) 1 ≡ false
enough n = grind (arith, nat_tests)

module _ (q : Scene) (w : World Item) (scope : Scope) (place : Place) (k : ℕ) (i : Indices) (x : Item) where
  -- the part that is reached, and the parts of the expression behind its index
  abbrev TakenIs : {n : ℕ} → Point n → List Part → Option Taken → Item → ℤ → Type 0
  TakenIs g ps o y c = (t : Num) × (o ≡ taken (into_item t (out-Indices i)) ps) × Counts q g t y c

  abbrev pub PassedIs : {n : ℕ} → Point n → List Part → Option Passed → Item → Type 0
  PassedIs g ps o u = (j : Indices) × (o ≡ passed ps j) × Is q.set q.work g j u

  reached_walks : {n : ℕ} {g : Point n} {fs : List Fact} (ps : List Part) (o : Option (List Num)) (y : Item) (c : ℤ) → OneIndex q g o y c
      → Walks q n g fs (way_taken (here q) i Y.Item ps o) (λ m d r. TakenIs d ps r y c)
  reached_walks ps (Some (t ∷ [])) y c h =
      walks_on (λ r. give (taken r ps)) (given_back (into_item t (out-Indices i)) refl) (λ m d fs r l e.
      given_back (taken r ps) (t, ap (λ o. taken o ps) e, counts_on l h))
  reached_walks ps None y c h = absurd h
  reached_walks ps (Some []) y c h = absurd h
  reached_walks ps (Some (t ∷ u ∷ ts)) y c h = absurd h

  takes : {n : ℕ} {g : Point n} {fs : List Fact} (ps : List Part) (o : Option Taken) (y : Item) (c : ℤ) → Is q.set q.work g i x → TakenIs g ps o y c
      → Beside q n g fs (read_taken false place k i o) (taken_run (z q) k (item_way c) x (y ∷ [])) (λ m d r u. PassedIs d ps r u)
  takes {n} {g} {fs} ps o y c h t =
      subst (λ s. Beside q n g fs (read_taken false place k i s) (taken_run (z q) k (item_way c) x (y ∷ [])) (λ m d r u. PassedIs d ps r u)) (sym t.1)
      (then_walks (λ j. give (passed ps j)) (item_fine place k i x h t.0 y c t.2.is_integer t.2.same) (λ m d gs j u l is.
      given_back (passed ps j) (j, refl, is)))

  -- an index, and what stands behind its part
  pub item_step : {n : ℕ} {f : Point n} {facts : List Fact} {A : Type 0} (p : Part) (ps : List Part) (a : Run Item Item) → Fine q w false false p a
      → Surrounds q w f scope → Is q.set q.work f i x → (more : List Part → Indices → Walk (Option A)) (runs : Item → Run Item Item)
      → {Then : (m : ℕ) → Point m → Option A → Item → Type 0}
      → ((m : ℕ) (g : Point m) (fs : List Fact) (j : Indices) (u : Item) → Later f g → Is q.set q.work g j u → Beside q m g fs (more ps j) (runs u) Then)
      → Beside q n f facts (bind (bind (way_walk place (p ∷ ps) (here q) scope i Y.Item) (read_taken false place k i)) (then_on more))
      (a then λ y. integer (z q) y then λ c. taken_run (z q) k (item_way c) x (y ∷ []) then runs) Then
  item_step {n} {f} {facts} p ps a fine there h more runs {Then} next =
      let reads : Item × ℤ → Run Item Item = λ r. taken_run (z q) k (item_way r.1) x (r.0 ∷ []) in
      let found = then_walks (way_taken (here q) i Y.Item ps) (one_index q w p a fine scope there) (λ m g fs o r l e. reached_walks ps o r.0 r.1 e) in
      let read = binds (read_taken false place k i) reads found (λ m g fs o r l t. takes ps o r.0 r.1 (is_on l h) t) in
      let behind = binds (then_on more) runs read (λ m g fs o u l e.
      subst (λ s. Beside q m g fs (then_on more s) (runs u) Then) (sym e.1) (next m g fs e.0 u l e.2)) in
      subst (λ s. Beside q n f facts (bind (bind s (read_taken false place k i)) (then_on more))
      (a then λ y. integer (z q) y then λ c. taken_run (z q) k (item_way c) x (y ∷ []) then runs) Then)
      (sym (ap (λ b. if b then no_way place else bind (numbers_walk (take 1 (p ∷ ps)) (here q) scope) (way_taken (here q) i Y.Item (drop 1 (p ∷ ps))))
      (enough (length ps))))
      (runs_as (λ now. paired (a now) (integer (z q)) (λ y c. taken_run (z q) k (item_way c) x (y ∷ []) then runs))
      (regrouped (counted q w p a fine) reads runs behind))
