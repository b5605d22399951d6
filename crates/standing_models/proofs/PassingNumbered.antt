-- Numbers of nodes are of no matter to their tests; and what passes them stands.
use Rattle.std.proofs.Common.{◌≡◌, ℕ, suc, Bool, true, ◌&&◌, List, [], ◌∷◌, map, length, ap, sym, ◌∙◌, refl, subst}
use Rattle.std.proofs.lemmas.Bool.{and_parts}
use Rattle.std.proofs.lemmas.List.{length-map}
use Rattle.std.specs.List.{list_all}
use Rattle.sail_types.specs.declared.numbers.Index.{Index}
use Rattle.sail_core.specs.declared.patterns.Pattern.{Pattern}
use Rattle.sail_core.specs.declared.tree.Core.{Core, Core-F, fold-roll-Core, ind-Core, map-Core, roll-Core}
use Rattle.sail_core.specs.declared.tree.Kind.{Kind}
use Rattle.sail_core.specs.declared.tree.Kind.TheVariants as K
use Rattle.core_numbers.specs.Numbers.{Numbered, Numbering, core_with, each_numbered, kind_numbered, numbered}
use Rattle.pattern_leaves.specs.Settings.{Around}
use Rattle.shape_joins.proofs.Order.{two}
use Rattle.soundness_forms.specs.Standing.{kind_stands}
use Rattle.soundness_sizes.specs.Kinds.{sizes_stand}
use Rattle.standing_cores.specs.Places.{kinds_stand, node_kinds}
use Rattle.standing_models.specs.Tests.{kind_fits, node_passes, passes, patterns_tested}

module _ (around : Around) (numbers : List Index) (fits : Pattern → Bool) where
  -- ---- numbers

  abbrev as_tested : Kind → List Bool → Bool
  as_tested kind bs = kind_fits around numbers fits kind (length bs) && list_all (λ b. b) bs

  kind_same : (kind : Kind) (n : ℕ) (bs : List Bool) → as_tested (kind_numbered kind n).it bs ≡ as_tested kind bs
  kind_same (K.Part suffixes) n bs = refl
  kind_same (K.Assign targets) n bs = refl
  kind_same kind n bs = refl

  abbrev PassesSame : Core → Type 0
  PassesSame core = (n : ℕ) → passes around numbers fits (numbered core n).it ≡ passes around numbers fits core

  abbrev Such : Type 0
  Such = (core : Core) × PassesSame core

  parts_same : (ys : List Such) (n : ℕ) → map (passes around numbers fits) (each_numbered (map numbered (map (λ (y : Such). y.0) ys)) n).it
      ≡ map (passes around numbers fits) (map (λ (y : Such). y.0) ys)
  parts_same [] n = refl
  parts_same (y ∷ ys) n = λ i. y.1 n i ∷ parts_same ys (numbered y.0 n).next i

  core_step : (y : Core-F Such) → PassesSame (roll-Core (map-Core Such Core (λ q. q.0) y))
  core_step y n =
      let d : Core-F Core = map-Core Such Core (λ q. q.0) y in
      let kind : Numbered Kind = kind_numbered y.kind (suc n) in
      let parts : List Core = (each_numbered (map numbered d.parts) kind.next).it in
      let unroll = fold-roll-Core Bool (node_passes around numbers fits) in
      ap (λ (f : Numbering Core). passes around numbers fits (f n).it)
      (fold-roll-Core (Numbering Core) (λ c n. core_with c n (kind_numbered c.kind (suc n))) d)
      ∙ unroll (record { place = y.place; number = n; kind = kind.it; parts = parts })
      ∙ ap (as_tested kind.it) (parts_same y.parts kind.next)
      ∙ kind_same y.kind (suc n) (map (passes around numbers fits) d.parts) ∙ sym (unroll d)

  pub passes_numbered : (core : Core) → PassesSame core
  passes_numbered = ind-Core PassesSame (λ e y is. subst (λ d. PassesSame (roll-Core d)) is (core_step y))

  -- ---- kinds

  abbrev Has : Core → Type 0
  Has c = passes around numbers fits c ≡ true → kinds_stand around c ≡ true

  abbrev SuchKinds : Type 0
  SuchKinds = (c : Core) × Has c

  abbrev bare : List SuchKinds → List Core
  bare ys = map (λ (y : SuchKinds). y.0) ys

  parts_have : (ys : List SuchKinds) → list_all (λ b. b) (map (passes around numbers fits) (bare ys)) ≡ true
      → list_all (λ b. b) (map (kinds_stand around) (bare ys)) ≡ true
  parts_have [] h = refl
  parts_have (y ∷ ys) h =
      let b = and_parts (passes around numbers fits y.0) (list_all (λ b. b) (map (passes around numbers fits) (bare ys))) h in
      two (kinds_stand around y.0) (list_all (λ b. b) (map (kinds_stand around) (bare ys))) (y.1 b.0) (parts_have ys b.1)

  node_has : (y : Core-F SuchKinds) → Has (roll-Core (map-Core SuchKinds Core (λ q. q.0) y))
  node_has y h =
      let d : Core-F Core = map-Core SuchKinds Core (λ q. q.0) y in
      let bs : List Bool = map (passes around numbers fits) d.parts in
      let b = and_parts (kind_fits around numbers fits d.kind (length bs)) (list_all (λ b. b) bs)
      (sym (fold-roll-Core Bool (node_passes around numbers fits) d) ∙ h) in
      let k = and_parts (kind_stands around d.kind (length bs)) (patterns_tested fits d.kind && sizes_stand numbers d.kind) b.0 in
      let count : length (map (kinds_stand around) d.parts) ≡ length bs =
      length-map d.parts (kinds_stand around) ∙ sym (length-map d.parts (passes around numbers fits)) in
      fold-roll-Core Bool (node_kinds around) d
      ∙ two (kind_stands around d.kind (length (map (kinds_stand around) d.parts))) (list_all (λ b. b) (map (kinds_stand around) d.parts))
      (ap (kind_stands around d.kind) count ∙ k.0) (parts_have y.parts b.1)

  pub passes_kinds : (c : Core) → passes around numbers fits c ≡ true → kinds_stand around c ≡ true
  passes_kinds = ind-Core Has (λ c y e. subst (λ d. Has (roll-Core d)) e (node_has y))
