-- Where each node of an expression passes the tests of its kind, nothing more is asked of it.
use Rattle.std.proofs.Common.{◌≡◌, Bool, true, List, [], ◌∷◌, ◌++◌, map, sym, ◌∙◌, subst}
use Rattle.std.proofs.lemmas.Bool.{and_parts}
use Rattle.std.specs.List.{list_all}
use Rattle.sail_core.specs.Making.{World}
use Rattle.sail_core.specs.declared.tree.Core.{Core, Core-F, fold-roll-Core, ind-Core, map-Core, roll-Core}
use Rattle.checked_meaning.specs.Items.{Item}
use Rattle.soundness_steps.specs.Works.{Scene}
use Rattle.sail_soundness.specs.Whole.{CoresFit, EachFine, core_fits, joined, kind_asks, node_fits, nodes}
use Rattle.sail_soundness.proofs.Whole.{nodes_are}

module _ (q : Scene) (w : World Item) where
  abbrev fits : Core → Bool
  fits = core_fits q.set.around.types q.numbers

  abbrev Such : Core → Type 0
  Such c = fits c ≡ true → EachFine q w (nodes c)

  abbrev SuchCore : Type 0
  SuchCore = (c : Core) × Such c

  abbrev bare : List SuchCore → List Core
  bare ys = map (λ y. y.0) ys

  both : (ns ms : List (Core-F Core)) → EachFine q w ns → EachFine q w ms → EachFine q w (ns ++ ms)
  both [] ms h k = k
  both (c ∷ ns) ms h k = (h.0, both ns ms h.1 k)

  parts_fine : (ys : List SuchCore) → list_all (λ b. b) (map fits (bare ys)) ≡ true → EachFine q w (joined (map nodes (bare ys)))
  parts_fine [] h = tt
  parts_fine (y ∷ ys) h =
      let k = and_parts (fits y.0) (list_all (λ b. b) (map fits (bare ys))) h in
      both (nodes y.0) (joined (map nodes (bare ys))) (y.1 k.0) (parts_fine ys k.1)

  node_fine : (y : Core-F SuchCore) → Such (roll-Core (map-Core SuchCore Core (λ p. p.0) y))
  node_fine y h =
      let d : Core-F Core = map-Core SuchCore Core (λ p. p.0) y in
      let k = and_parts (kind_asks q.set.around.types q.numbers d.kind) (list_all (λ b. b) (map fits d.parts))
      (sym (fold-roll-Core Bool (node_fits q.set.around.types q.numbers) d) ∙ h) in
      subst (EachFine q w) (sym (nodes_are d)) (record { asks = k.0 }, parts_fine y.parts k.1)

  all_fit : (c : Core) → Such c
  all_fit = ind-Core Such (λ c y e. subst (λ d. Such (roll-Core d)) e (node_fine y))

pub fit : CoresFit
fit q w c h = all_fit q w c h
