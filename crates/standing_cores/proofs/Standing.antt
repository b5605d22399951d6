-- How an expression stands is how its casts and guards do.
use Rattle.std.proofs.Common.{◌≡◌, Bool, true, ◌&&◌, List, [], ◌∷◌, length, map, ap, sym, ◌∙◌, refl, subst}
use Rattle.std.proofs.lemmas.Bool.{and_parts}
use Rattle.std.proofs.lemmas.List.{length-map}
use Rattle.std.specs.List.{list_all}
use Rattle.sail_core.specs.declared.tree.Core.{Core, Core-F, fold-roll-Core, ind-Core, map-Core, roll-Core}
use Rattle.pattern_leaves.specs.Settings.{Around}
use Rattle.soundness_forms.specs.Standing.{Standing, is_cast, is_guard, kind_stands, node_standing, parts_right, standing}
use Rattle.standing_cores.specs.Laws.{StandingIs}
use Rattle.standing_cores.specs.Places.{kinds_stand, node_kinds, node_places, places}

module _ (around : Around) where
  abbrev Such : Core → Type 0
  Such c = kinds_stand around c ≡ true → standing around c ≡ places c

  abbrev SuchCore : Type 0
  SuchCore = (c : Core) × Such c

  abbrev bare : List SuchCore → List Core
  bare ys = map (λ y. y.0) ys

  parts_as : (ys : List SuchCore) → list_all (λ b. b) (map (kinds_stand around) (bare ys)) ≡ true
      → map (standing around) (bare ys) ≡ map places (bare ys)
  parts_as [] h = refl
  parts_as (y ∷ ys) h =
      let both = and_parts (kinds_stand around y.0) (list_all (λ b. b) (map (kinds_stand around) (bare ys))) h in
      λ i. y.1 both.0 i ∷ parts_as ys both.1 i

  node_as : (y : Core-F SuchCore) → Such (roll-Core (map-Core SuchCore Core (λ p. p.0) y))
  node_as y h =
      let d : Core-F Core = map-Core SuchCore Core (λ p. p.0) y in
      let both = and_parts (kind_stands around d.kind (length (map (kinds_stand around) d.parts))) (list_all (λ b. b) (map (kinds_stand around) d.parts))
      (sym (fold-roll-Core Bool (node_kinds around) d) ∙ h) in
      let asked : kind_stands around d.kind (length (map (standing around) d.parts)) ≡ true =
      ap (kind_stands around d.kind) (length-map d.parts (standing around) ∙ sym (length-map d.parts (kinds_stand around))) ∙ both.0 in
      fold-roll-Core Standing (node_standing around) d
      ∙ ap (λ (b : Bool). record {
        cast = is_cast d.kind;
        guard = is_guard d.kind;
        right = b && parts_right d.kind (map (standing around) d.parts);
      }) asked
      ∙ ap (λ (ss : List Standing). record { cast = is_cast d.kind; guard = is_guard d.kind; right = parts_right d.kind ss }) (parts_as y.parts both.1)
      ∙ sym (fold-roll-Core Standing node_places d)

  each : (c : Core) → Such c
  each = ind-Core Such (λ c y e. subst (λ d. Such (roll-Core d)) e (node_as y))

pub stands_as : StandingIs
stands_as around c h = each around c h
