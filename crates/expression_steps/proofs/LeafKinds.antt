-- Kinds that have no parts, by what they are.
use Rattle.std.proofs.Common.{◌≡◌, ◌∙◌, ◌==◌, ap, sym, refl, ℕ, Option, List, [], ◌∷◌, length, slice_get, true, arith}
use Rattle.std.proofs.lemmas.Bool.{eqb-true}
use Rattle.sail_base.specs.declared.place.Place.{Place}
use Rattle.model_state.specs.declared.state.Register.{Register}
use Rattle.sail_core.specs.declared.patterns.Literal.{Literal}
use Rattle.sail_core.specs.declared.tree.Core.{Core}
use Rattle.sail_core.specs.declared.tree.Kind.{Kind}
use Rattle.sail_core.specs.declared.tree.Kind.TheVariants as K
use Rattle.value_indices.specs.Walking.{Written, got, run}
use Rattle.pattern_leaves.specs.Settings.{Around, Scope}
use Rattle.pattern_leaves.specs.declared.names.TopLevel.{TopLevel}
use Rattle.expression_forms.specs.Names.{literal_indices, register_walk, top_level_walk}
use Rattle.expression_steps.specs.Coded.{each_part}
use Rattle.expression_steps.specs.Expressions.{leaf_form, leaf_walk}
use Rattle.expression_steps.proofs.BranchEnds.{alone_got, alone_run}

-- without parts
bare_leaf : (place : Place) (number : ℕ) (kind : Kind) (cs : List Core) (around : Around) (scope : Scope) → (length cs == 0) ≡ true
    → leaf_walk place number kind (each_part cs) around scope ≡ leaf_form place number kind around scope
bare_leaf place number kind [] around scope bare = refl
bare_leaf place number kind (c ∷ cs) around scope bare =
    let empty : length (c ∷ cs) ≡ 0 = eqb-true (length (c ∷ cs)) 0 bare in absurd (omega (arith, empty))

module _ (place : Place) (number : ℕ) (kind : Kind) (cs : List Core) (around : Around) (scope : Scope) (bare : (length cs == 0) ≡ true) where
  as_kind : (other : Kind) → kind ≡ other → leaf_walk place number kind (each_part cs) around scope ≡ leaf_form place number other around scope
  as_kind other is = bare_leaf place number kind cs around scope bare ∙ ap (λ (k : Kind). leaf_form place number k around scope) is

  pub literal_got : (literal : Literal) (w : Written) → kind ≡ K.Constant literal
      → literal_indices literal ≡ got (leaf_walk place number kind (each_part cs) around scope) w
  literal_got literal w is =
      alone_got (leaf_walk place number kind (each_part cs) around scope) (literal_indices literal) w (as_kind (K.Constant literal) is)

  pub literal_run : (literal : Literal) (w : Written) → kind ≡ K.Constant literal → w ≡ run (leaf_walk place number kind (each_part cs) around scope) w
  literal_run literal w is =
      alone_run (leaf_walk place number kind (each_part cs) around scope) (literal_indices literal) w (as_kind (K.Constant literal) is)

  pub top_level_is : (i : ℕ) (found : Option TopLevel) → kind ≡ K.TopLevel i → found ≡ slice_get around.lets i
      → top_level_walk around.types place number found ≡ leaf_walk place number kind (each_part cs) around scope
  top_level_is i found is there = ap (λ (o : Option TopLevel). top_level_walk around.types place number o) there ∙ sym (as_kind (K.TopLevel i) is)

  pub register_is : (r : ℕ) (found : Option Register) → kind ≡ K.Register r → found ≡ slice_get around.registers r
      → register_walk place number found ≡ leaf_walk place number kind (each_part cs) around scope
  register_is r found is there = ap (λ (o : Option Register). register_walk place number o) there ∙ sym (as_kind (K.Register r) is)
