-- What is left out of the patterns of a function without a `val` means nothing to a run.
use Rattle.std.proofs.Common.{◌≡◌, ◌∙◌, ap, sym, refl, subst, suc, Bool, true, false, List, [], ◌∷◌, map, length, None}
use Rattle.sail_base.specs.declared.place.Place.{Place}
use Rattle.sail_core.specs.declared.patterns.Arm.{Arm}
use Rattle.sail_core.specs.declared.patterns.Arm.TheVariants as A
use Rattle.sail_core.specs.declared.patterns.Form.{Form}
use Rattle.sail_core.specs.declared.patterns.Form.TheVariants as F
use Rattle.sail_core.specs.declared.patterns.Pattern.{Pattern, Pattern-F, roll-Pattern, map-Pattern, fold-roll-Pattern, ind-Pattern}
use Rattle.sail_core.specs.declared.tree.Giver.{Giver}
use Rattle.sail_core.specs.Making.{Making, World}
use Rattle.sail_core.specs.Meaning.{arm_taken, names_noted}
use Rattle.sail_core.specs.Patterns.{Matcher, arm_meaning, counted, matcher, parts_match, pattern_meaning}
use Rattle.sail_core.specs.Run.{Run, within, ◌then◌}
use Rattle.function_notes.specs.Functions.{arm_of, bare_arm, bare_form, bare_of, bare_pattern, is_typed, only}

no_only : {A : Type 0} (xs : List A) → only false xs ≡ None
no_only [] = refl
no_only (x ∷ []) = refl
no_only (x ∷ y ∷ xs) = refl

module _ {X : Type 0} (z : Making X) (w : World X) where
  -- ---- patterns

  abbrev SameP : Pattern → Type 0
  SameP p = matcher z w (bare_pattern p) ≡ matcher z w p

  abbrev Such : Type 0
  Such = (p : Pattern) × SameP p

  abbrev patterns_of : List Such → List Pattern
  patterns_of ys = map (λ (y : Such). y.0) ys

  abbrev plain : Pattern-F Such → Pattern-F Pattern
  plain y = map-Pattern Such Pattern (λ p. p.0) y

  matcher_is : (y : Pattern-F Pattern) → matcher z w (roll-Pattern y) ≡ pattern_meaning z w y.form (map (matcher z w) y.parts)
  matcher_is y = fold-roll-Pattern (Matcher X) (λ p. pattern_meaning z w p.form p.parts) y

  parts_same : (ys : List Such) → map (matcher z w) (map bare_pattern (patterns_of ys)) ≡ map (matcher z w) (patterns_of ys)
  parts_same [] = refl
  parts_same (y ∷ ys) = λ j. y.1 j ∷ parts_same ys j

  abbrev pattern_at : Place → Form → List Pattern → Pattern-F Pattern
  pattern_at place form ps = record { place = place; form = form; parts = ps }

  -- an annotated pattern means what its part means
  typed_same : (place : Place) (form : Form) (ps : List Pattern) (b : Bool) → is_typed form ≡ b
      → matcher z w (bare_of (pattern_at place form ps) (only b ps)) ≡ pattern_meaning z w form (map (matcher z w) ps)
  typed_same place form ps false e = ap (λ o. matcher z w (bare_of (pattern_at place form ps) o)) (no_only ps) ∙ matcher_is (pattern_at place form ps)
  typed_same place form [] true e = matcher_is (pattern_at place form [])
  typed_same place form (p ∷ q ∷ ps) true e = matcher_is (pattern_at place form (p ∷ q ∷ ps))
  typed_same place (F.Typed written) (p ∷ []) true e = refl
  typed_same place form (p ∷ []) true e = let h : false ≡ true = e in absurd (cc)

  rolled_same : (y : Pattern-F Such) → SameP (roll-Pattern (plain y))
  rolled_same y =
      ap (matcher z w) (fold-roll-Pattern Pattern bare_form (plain y))
      ∙ typed_same y.place y.form (map bare_pattern (patterns_of y.parts)) (is_typed y.form) refl
      ∙ ap (pattern_meaning z w y.form) (parts_same y.parts)
      ∙ sym (matcher_is (plain y))

  pattern_same : (p : Pattern) → SameP p
  pattern_same = ind-Pattern SameP (λ e y is. subst (λ d. SameP (roll-Pattern d)) is (rolled_same y))

  patterns_same : (ps : List Pattern) → map (matcher z w) (map bare_pattern ps) ≡ map (matcher z w) ps
  patterns_same [] = refl
  patterns_same (p ∷ ps) = λ j. pattern_same p j ∷ patterns_same ps j

  as_many : (ps : List Pattern) → length (map bare_pattern ps) ≡ length ps
  as_many [] = refl
  as_many (p ∷ ps) = ap suc (as_many ps)

  bare_arm_same : (arm : Arm) (xs : List X) → arm_meaning z w (bare_arm arm) xs ≡ arm_meaning z w arm xs
  bare_arm_same (A.Nested ps) xs = λ j. counted (as_many ps j) xs (parts_match (patterns_same ps j) xs)
  bare_arm_same (A.Flat count steps) xs = refl

  arm_same : (declared : Bool) (arm : Arm) (xs : List X) → arm_meaning z w (arm_of declared arm) xs ≡ arm_meaning z w arm xs
  arm_same true arm xs = refl
  arm_same false arm xs = bare_arm_same arm xs

  -- an arm with its body, as it is walked
  pub taken_same : (giver : Giver) (declared : Bool) (arm : Arm) (body : Run X X) (xs : List X)
      → arm_taken z w giver (arm_of declared arm) body xs ≡ arm_taken z w giver arm body xs
  taken_same giver declared arm body xs =
      λ j. arm_same declared arm xs j then λ found. names_noted z giver xs found then λ t. within found body
