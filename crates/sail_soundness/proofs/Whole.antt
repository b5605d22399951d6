-- An expression is fine where each of its nodes is.
use Rattle.std.proofs.Common.{◌≡◌, true, List, [], ◌∷◌, ◌++◌, map, refl, sym, ap, ◌∙◌, subst}
use Rattle.std.proofs.lemmas.Bool.{and_parts}
use Rattle.sail_core.specs.Making.{World}
use Rattle.sail_core.specs.Meaning.{kind_meaning, meaning}
use Rattle.sail_core.specs.Run.{Run}
use Rattle.sail_core.specs.declared.tree.Core.{Core, Core-F, fold-roll-Core, ind-Core, map-Core, para-roll-Core, roll-Core}
use Rattle.expression_steps.specs.Expressions.{core_part, part}
use Rattle.expression_steps.specs.Parts.{Part}
use Rattle.checked_meaning.specs.Items.{Item}
use Rattle.soundness_steps.specs.Works.{Scene}
use Rattle.soundness_forms.specs.Forms.{Fine, z}
use Rattle.soundness_forms.specs.Standing.{Standing, node_standing, standing}
use Rattle.soundness_forms.specs.EachKind.{PartsFine}
use Rattle.soundness_binding.specs.Patterned.{patterns_stand}
use Rattle.soundness_sizes.specs.Kinds.{sizes_stand}
use Rattle.sail_soundness.specs.Whole.{EachFine, EachFollows, ModelStands, NodeFine, NodeStands, joined, nodes, nodes_over}
use Rattle.sail_soundness.proofs.Nodes.{proved}

-- ---- nodes

firsts : (cs : List Core) → map (λ (p : Core × List (Core-F Core)). p.0) (map (λ c. (c, nodes c)) cs) ≡ cs
firsts [] = refl
firsts (c ∷ cs) = ap (λ ds. c ∷ ds) (firsts cs)

nexts : (cs : List Core) → joined (map (λ (p : Core × List (Core-F Core)). p.1) (map (λ c. (c, nodes c)) cs)) ≡ joined (map nodes cs)
nexts [] = refl
nexts (c ∷ cs) = ap (λ ns. nodes c ++ ns) (nexts cs)

pub nodes_are : (d : Core-F Core) → nodes (roll-Core d) ≡ d ∷ joined (map nodes d.parts)
nodes_are d =
    para-roll-Core (List (Core-F Core)) nodes_over d
    ∙ ap (λ ps. record { place = d.place; number = d.number; kind = d.kind; parts = ps }
    ∷ joined (map (λ (p : Core × List (Core-F Core)). p.1) (map (λ c. (c, nodes c)) d.parts))) (firsts d.parts)
    ∙ ap (λ ns. d ∷ ns) (nexts d.parts)

-- ---- what is asked of them

module _ (q : Scene) (w : World Item) where
  front : (ns ms : List (Core-F Core)) → EachFine q w (ns ++ ms) → EachFine q w ns
  front [] ms h = tt
  front (c ∷ ns) ms h = (h.0, front ns ms h.1)

  behind : (ns ms : List (Core-F Core)) → EachFine q w (ns ++ ms) → EachFine q w ms
  behind [] ms h = h
  behind (c ∷ ns) ms h = behind ns ms h.1

  -- those of a node's one part are among its own
  pub part_fine : (d : Core-F Core) (c : Core) → d.parts ≡ c ∷ [] → EachFine q w (nodes (roll-Core d)) → EachFine q w (nodes c)
  part_fine d c is h =
      front (nodes c) [] (subst (λ cs. EachFine q w (joined (map nodes cs))) is (subst (EachFine q w) (nodes_are d) h).1)

-- ---- each of them is fine

module _ (q : Scene) (w : World Item) (model : ModelStands q.set q.work) where
  each : (d : Core-F Core) → NodeStands q w d → NodeFine q w d
  each d stands =
      let both = and_parts (patterns_stand q.set.around.types q.numbers d.kind) (sizes_stand q.numbers d.kind) stands.asks in
      proved q w model d.kind both.0 both.1 d.place d.number (map (standing q.set.around) d.parts) (map part d.parts) (map (meaning (z q w) w) d.parts)

  -- ---- an expression with its part, its run and how it stands

  abbrev Such : Core → Type 0
  Such c = EachFine q w (nodes c) → (standing q.set.around c).right ≡ true
      → Fine q w (standing q.set.around c).cast (standing q.set.around c).guard (part c) (meaning (z q w) w c)

  abbrev SuchCore : Type 0
  SuchCore = (c : Core) × Such c

  abbrev bare : List SuchCore → List Core
  bare ys = map (λ y. y.0) ys

  parts_fine : (ys : List SuchCore) → EachFine q w (joined (map nodes (bare ys)))
      → PartsFine q w (map (standing q.set.around) (bare ys)) (map part (bare ys)) (map (meaning (z q w) w) (bare ys))
  parts_fine [] h = tt
  parts_fine (y ∷ ys) h =
      (y.1 (front q w (nodes y.0) (joined (map nodes (bare ys))) h), parts_fine ys (behind q w (nodes y.0) (joined (map nodes (bare ys))) h))

  node_fine : (y : Core-F SuchCore) → Such (roll-Core (map-Core SuchCore Core (λ p. p.0) y))
  node_fine y others right =
      let d : Core-F Core = map-Core SuchCore Core (λ p. p.0) y in
      let s = fold-roll-Core Standing (node_standing q.set.around) d in
      let p = fold-roll-Core Part core_part d in
      let r = fold-roll-Core (Run Item Item) (λ c. kind_meaning (z q w) w c.place c.number c.kind c.parts) d in
      let here = subst (EachFine q w) (nodes_are d) others in
      subst (λ m. Fine q w (standing q.set.around (roll-Core d)).cast (standing q.set.around (roll-Core d)).guard (part (roll-Core d)) m) (sym r)
      (subst (λ a. Fine q w (standing q.set.around (roll-Core d)).cast (standing q.set.around (roll-Core d)).guard a
      (kind_meaning (z q w) w d.place d.number d.kind (map (meaning (z q w) w) d.parts))) (sym p)
      (subst (λ t. Fine q w t.cast t.guard (core_part (map-Core Core Part part d))
      (kind_meaning (z q w) w d.place d.number d.kind (map (meaning (z q w) w) d.parts))) (sym s)
      (each d here.0 (parts_fine y.parts here.1) (sym (ap (λ t. t.right) s) ∙ right))))

  fine : (c : Core) → Such c
  fine = ind-Core Such (λ c y e. subst (λ d. Such (roll-Core d)) e (node_fine y))

pub whole : EachFollows
whole q w c right others = fine q w others.0 c others.1 right
