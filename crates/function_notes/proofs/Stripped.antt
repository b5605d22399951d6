-- Patterns without the types that are written in them.
use Rattle.std.proofs.Common.{◌≡◌, Some, None, List, [], ◌∷◌, map, sym, ap, ◌∙◌, refl}
use Rattle.std.specs.Prelude.{Bool, true, false, option_map}
use Rattle.sail_core.specs.declared.patterns.Pattern.{Pattern, roll-Pattern, out-Pattern, fold-roll-Pattern}
use Rattle.sail_core.specs.declared.patterns.Pattern.TheViews.{roll-out-Pattern}
use Rattle.function_notes.specs.Functions.{only, is_typed, bare_of, bare_form, bare_pattern}

only_map : {A B : Type 0} (f : A → B) (t : Bool) (xs : List A) → only t (map f xs) ≡ option_map f (only t xs)
only_map f true [] = refl
only_map f true (x ∷ []) = refl
only_map f true (x ∷ y ∷ xs) = refl
only_map f false [] = refl
only_map f false (x ∷ []) = refl
only_map f false (x ∷ y ∷ xs) = refl

rolled : (p : Pattern) → bare_pattern p ≡ bare_of (record (out-Pattern p) { parts = map bare_pattern (out-Pattern p).parts })
    (option_map bare_pattern (only (is_typed (out-Pattern p).form) (out-Pattern p).parts))
rolled p =
    ap bare_pattern (sym (roll-out-Pattern p))
    ∙ (fold-roll-Pattern Pattern bare_form (out-Pattern p)
    ∙ ap (bare_of (record (out-Pattern p) { parts = map bare_pattern (out-Pattern p).parts }))
    (only_map bare_pattern (is_typed (out-Pattern p).form) (out-Pattern p).parts))

pub bare_part : (p q : Pattern) → only (is_typed (out-Pattern p).form) (out-Pattern p).parts ≡ Some q → bare_pattern p ≡ bare_pattern q
bare_part p q e = rolled p ∙ ap (λ o. bare_of (record (out-Pattern p) { parts = map bare_pattern (out-Pattern p).parts }) (option_map bare_pattern o)) e

pub bare_whole : (p : Pattern) → only (is_typed (out-Pattern p).form) (out-Pattern p).parts ≡ None
    → bare_pattern p ≡ roll-Pattern (record (out-Pattern p) { parts = map bare_pattern (out-Pattern p).parts })
bare_whole p e = rolled p ∙ ap (λ o. bare_of (record (out-Pattern p) { parts = map bare_pattern (out-Pattern p).parts }) (option_map bare_pattern o)) e
