-- Arms without mappings match what the older ones match.
use Rattle.std.proofs.Common.{◌≡◌, Bool, true, ◌&&◌, List, [], ◌∷◌, map, refl, sym, ap, subst, ◌∙◌, true≢false}
use Rattle.std.proofs.lemmas.List.{length-map}
use Rattle.sail_base.specs.declared.place.Place.{Place}
use Rattle.sail_core.specs.declared.fragments.Fragment.TheVariants as G
use Rattle.sail_core.specs.declared.patterns.Head.TheVariants as H
use Rattle.sail_core.specs.declared.patterns.Form.{Form}
use Rattle.sail_core.specs.declared.patterns.Form.TheVariants as F
use Rattle.sail_core.specs.declared.patterns.Pattern.{Pattern, roll-Pattern, fold-roll-Pattern, map-Pattern, ind-Pattern}
use Rattle.sail_core.specs.declared.patterns.Arm.{Arm}
use Rattle.sail_core.specs.declared.patterns.Arm.TheVariants as A
use Rattle.sail_core.specs.Run.{gives, ◌then◌}
use Rattle.sail_core.specs.Making.{Making, World}
use Rattle.sail_core.specs.Patterns.{Matcher, parts_match, pattern_meaning, matcher, counted, arm_meaning}
use Rattle.sail_core.specs.Program.{Ways}
use Rattle.sail_core.specs.Fragments.{all_true, form_in, pattern_in, arm_in}
use Rattle.mappings.specs.Rewriting.{pattern, some, free_form, free_pattern, free_arm}
use Rattle.mappings.proofs.Options.{both_true, optioned, in_option}

-- the world in which directions give options
abbrev pub with_options : {X : Type 0} → World X → Ways X → World X
with_options w ways = record w { enter = λ d v. optioned (w.enter d v); way = ways }

-- what a direction gives there is an option of what it gave
abbrev pub GiveOptions : {X : Type 0} → Making X → World X → Ways X → Type 0
GiveOptions {X} z w ways = (d : _) (x : X) (m : Matcher X) → (ways d x then in_option z w.numbers m) ≡ (w.way d x then m)

module _ {X : Type 0} (z : Making X) (w : World X) (ways : Ways X) (options : GiveOptions z w ways) where
  roll_meaning : (v : World X) (place : Place) (form : Form) (ps : List Pattern)
      → matcher z v (pattern place form ps) ≡ pattern_meaning z v form (map (matcher z v) ps)
  roll_meaning v place form ps = fold-roll-Pattern (Matcher X) (λ p. pattern_meaning z v p.form p.parts) (record { place = place; form = form; parts = ps })

  form_free : (place : Place) (form : Form) (ps : List Pattern) → form_in G.Resolved form ≡ true
      → matcher z (with_options w ways) (free_form place form ps) ≡ pattern_meaning z w form (map (matcher z (with_options w ways)) ps)
  form_free place (F.Maps d) (p ∷ []) h =
      roll_meaning (with_options w ways) place (F.Sees d) (some place p ∷ [])
      ∙ ap (λ m. pattern_meaning z (with_options w ways) (F.Sees d) (m ∷ [])) (roll_meaning (with_options w ways) place (F.Opens (H.Constructor 0 0)) (p ∷ []))
      ∙ (λ i x. options d x (matcher z (with_options w ways) p) i)
  form_free place (F.Maps d) [] h = roll_meaning (with_options w ways) place (F.Sees d) []
  form_free place (F.Maps d) (p ∷ q ∷ ps) h = roll_meaning (with_options w ways) place (F.Sees d) (p ∷ q ∷ ps)
  form_free place (F.Sees d) ps h = absurd (true≢false (sym h))
  form_free place F.Any ps h = roll_meaning (with_options w ways) place F.Any ps
  form_free place (F.Binds name) ps h = roll_meaning (with_options w ways) place (F.Binds name) ps
  form_free place (F.As name) ps h = roll_meaning (with_options w ways) place (F.As name) ps
  form_free place (F.Typed written) ps h = roll_meaning (with_options w ways) place (F.Typed written) ps
  form_free place (F.Opens head) ps h = roll_meaning (with_options w ways) place (F.Opens head) ps

  Free : Pattern → Type 0
  Free p = pattern_in G.Resolved p ≡ true → matcher z (with_options w ways) (free_pattern p) ≡ matcher z w p

  parts_free : (ys : List ((p : Pattern) × Free p)) → all_true (map (pattern_in G.Resolved) (map (λ y. y.0) ys)) ≡ true
      → map (matcher z (with_options w ways)) (map free_pattern (map (λ y. y.0) ys)) ≡ map (matcher z w) (map (λ y. y.0) ys)
  unfolding Free
  parts_free [] h = refl
  parts_free (y ∷ ys) h =
      let b : (pattern_in G.Resolved y.0 ≡ true) × (all_true (map (pattern_in G.Resolved) (map (λ u. u.0) ys)) ≡ true)
      = both_true (pattern_in G.Resolved y.0) (all_true (map (pattern_in G.Resolved) (map (λ u. u.0) ys))) h in
      λ i. y.1 b.0 i ∷ parts_free ys b.1 i

  pub pattern_free : (p : Pattern) → pattern_in G.Resolved p ≡ true → matcher z (with_options w ways) (free_pattern p) ≡ matcher z w p
  unfolding Free
  pattern_free = ind-Pattern Free (λ p y is. subst (λ d. Free (roll-Pattern d)) is (λ e.
      let b : (form_in G.Resolved y.form ≡ true) × (all_true (map (pattern_in G.Resolved) (map (λ u. u.0) y.parts)) ≡ true)
      = both_true (form_in G.Resolved y.form) (all_true (map (pattern_in G.Resolved) (map (λ u. u.0) y.parts)))
      (sym (fold-roll-Pattern Bool (λ q. form_in G.Resolved q.form && all_true q.parts) (map-Pattern ((q : Pattern) × Free q) Pattern (λ q. q.0) y)) ∙ e) in
      ap (matcher z (with_options w ways)) (fold-roll-Pattern Pattern (λ q. free_form q.place q.form q.parts)
      (map-Pattern ((q : Pattern) × Free q) Pattern (λ q. q.0) y))
      ∙ form_free y.place y.form (map free_pattern (map (λ u. u.0) y.parts)) b.0
      ∙ ap (pattern_meaning z w y.form) (parts_free y.parts b.1)
      ∙ sym (fold-roll-Pattern (Matcher X) (λ q. pattern_meaning z w q.form q.parts) (map-Pattern ((q : Pattern) × Free q) Pattern (λ q. q.0) y))))

  patterns_free : (ps : List Pattern) → all_true (map (pattern_in G.Resolved) ps) ≡ true
      → map (matcher z (with_options w ways)) (map free_pattern ps) ≡ map (matcher z w) ps
  patterns_free [] h = refl
  patterns_free (p ∷ ps) h =
      let b : (pattern_in G.Resolved p ≡ true) × (all_true (map (pattern_in G.Resolved) ps) ≡ true)
      = both_true (pattern_in G.Resolved p) (all_true (map (pattern_in G.Resolved) ps)) h in
      λ i. pattern_free p b.0 i ∷ patterns_free ps b.1 i

  pub arm_free : (arm : Arm) (xs : List X) → arm_in G.Resolved arm ≡ true
      → arm_meaning z (with_options w ways) (free_arm arm) xs ≡ arm_meaning z w arm xs
  arm_free (A.Nested ps) xs h = λ i. counted (length-map ps free_pattern i) xs (parts_match (patterns_free ps h i) xs)
  arm_free (A.Flat k ss) xs h = absurd (true≢false (sym h))
