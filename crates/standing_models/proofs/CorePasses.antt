-- Cores pass the tests of nodes where each of their parts does, and what their kind asks holds.
use Rattle.std.proofs.Common.{◌≡◌, ℕ, Bool, true, false, List, [], ◌∷◌, ◌++◌, map, ap, ◌∙◌, refl, Option, Some, None, length, nat_eq, if◌then◌else◌}
use Rattle.std.specs.List.{list_all}
use Rattle.std.proofs.lemmas.List.{length-map}
use Rattle.sail_base.specs.declared.place.Place.{Place}
use Rattle.sail_types.specs.declared.numbers.Index.{Index}
use Rattle.sail_types.specs.declared.shapes.Shape.{Shape}
use Rattle.sail_syntax.specs.declared.name.Literal.{Literal}
use Rattle.sail_syntax.specs.declared.name.Literal.TheVariants as N
use Rattle.sail_syntax.specs.declared.words.Brackets.{Brackets}
use Rattle.sail_syntax.specs.declared.words.Brackets.TheVariants as B
use Rattle.sail_core.specs.declared.patterns.Literal.TheVariants as L
use Rattle.sail_core.specs.declared.patterns.Pattern.{Pattern}
use Rattle.sail_core.specs.declared.tree.Core.{Core, fold-roll-Core}
use Rattle.sail_core.specs.declared.tree.Kind.{Kind}
use Rattle.sail_core.specs.declared.tree.Kind.TheVariants as K
use Rattle.pattern_leaves.specs.Settings.{Around}
use Rattle.shape_joins.specs.Joins.{join}
use Rattle.shape_joins.proofs.Order.{no, two}
use Rattle.shape_rules.specs.declared.error.ShapeError.TheVariants as error
use Rattle.shape_rules.specs.Calls.{counted}
use Rattle.shape_rules.specs.Findings.{Found, cast, missing, over, refused, settled, settled_as}
use Rattle.shape_rules.specs.Patterns.{core_literal}
use Rattle.shape_rules.specs.Values.{constant_found}
use Rattle.shape_meanings.specs.Trees.{group_written, literal_written}
use Rattle.shape_meanings.specs.Whole.{all_of}
use Rattle.soundness_forms.specs.Standing.{literal_right}
use Rattle.standing_models.specs.Tests.{kind_fits, node_passes, passes}

-- what is in brackets is as the grammar has it, where a group is
pub group_all : (brackets : Brackets) (bs : List Bool) → group_written brackets bs ≡ true → all_of bs ≡ true
group_all B.Tuple [] h = h
group_all B.Tuple (b ∷ []) h = no h
group_all B.Tuple (b ∷ c ∷ bs) h = h
group_all B.Vector bs h = h
group_all B.List bs h = h

module _ (around : Around) (numbers : List Index) (fits : Pattern → Bool) where
  -- ---- cores

  abbrev pub Passes : Core → Type 0
  Passes c = passes around numbers fits c ≡ true

  abbrev pub AllPass : List Core → Type 0
  AllPass [] = Unit {0}
  AllPass (c ∷ cs) = Passes c × AllPass cs

  all_pass : (cs : List Core) → AllPass cs → list_all (λ b. b) (map (passes around numbers fits) cs) ≡ true
  all_pass [] h = refl
  all_pass (c ∷ cs) h = two (passes around numbers fits c) (list_all (λ b. b) (map (passes around numbers fits) cs)) h.0 (all_pass cs h.1)

  pub also_pass : (cs ds : List Core) → AllPass cs → AllPass ds → AllPass (cs ++ ds)
  also_pass [] ds h k = k
  also_pass (c ∷ cs) ds h k = (h.0, also_pass cs ds h.1 k)

  pub over_passes : (place : Place) (kind : Kind) (cs : List Core) → kind_fits around numbers fits kind (length cs) ≡ true → AllPass cs
      → Passes (over place kind cs)
  over_passes place kind cs h all =
      fold-roll-Core Bool (node_passes around numbers fits) (record { place = place; number = 0; kind = kind; parts = cs })
      ∙ two (kind_fits around numbers fits kind (length (map (passes around numbers fits) cs))) (list_all (λ b. b) (map (passes around numbers fits) cs))
      (ap (kind_fits around numbers fits kind) (length-map cs (passes around numbers fits)) ∙ h) (all_pass cs all)

  pub missing_passes : (place : Place) → Passes (missing place)
  missing_passes place = over_passes place (K.Constant L.Unit) [] refl tt

  pub cast_passes : (c : Core) (place : Place) → Passes c → Passes (cast c place)
  cast_passes c place h = over_passes place (K.Cast None) (c ∷ []) refl (h, tt)

  pub settled_passes : (place : Place) (want shape : Shape) (core : Shape → Core) → ((s : Shape) → Passes (core s))
      → Passes (settled place want shape core).core
  settled_passes place want shape core h = by_join (join shape want)
    where
      by_join : (o : Option Shape) → Passes (settled_as place want shape core o).core
      by_join None = missing_passes _
      by_join (Some s) = h s

  pub counted_passes : (place : Place) (wanted count : ℕ) (found : Found)
      → (nat_eq wanted count ≡ true → found.faults ≡ [] → Passes found.core) → (counted place wanted count found).faults ≡ []
      → Passes (counted place wanted count found).core
  counted_passes place wanted count found h = by_count (nat_eq wanted count) refl
    where
      by_count : (b : Bool) → nat_eq wanted count ≡ b → (if b then found else refused (error.Arity place wanted count)).faults ≡ []
          → Passes (if b then found else refused (error.Arity place wanted count)).core
      by_count true is e = h is e
      by_count false is e = missing_passes _

  -- ---- literals

  pub literal_fits : (literal : Literal) → literal_written literal ≡ true → literal_right around.types (core_literal literal) ≡ true
  literal_fits (N.Number z) h = h
  literal_fits (N.Bits bits) h = h
  literal_fits (N.String text) h = refl
  literal_fits (N.Bool b) h = refl
  literal_fits (N.Bit b) h = refl

  pub constant_passes : (place : Place) (literal : Literal) (want : Shape) → literal_written literal ≡ true
      → Passes (constant_found place literal want).core
  constant_passes place literal want h =
      settled_passes place want _ _ (λ s. over_passes place (K.Constant (core_literal literal)) []
      (two (literal_right around.types (core_literal literal)) true (literal_fits literal h) refl) tt)
