-- What is made of a base and its suffixes.
use Rattle.std.proofs.Common.{◌≡◌, List, [], ◌∷◌, refl, sym, ap}
use Rattle.sail_base.specs.declared.place.Place.{Place}
use Rattle.sail_syntax.specs.declared.expressions.Exp.{Exp}
use Rattle.sail_syntax.specs.declared.expressions.Exp.TheVariants as V
use Rattle.sail_syntax.specs.declared.expressions.Suffix.{Suffix}
use Rattle.sail_grammar.specs.ExpTrees as T

-- a base alone, or a part
pub base_alone : (place : Place) (base : Exp) (suffixes : List Suffix) → suffixes ≡ [] → base ≡ T.with_suffixes place base suffixes
base_alone place base suffixes e = sym (ap (T.with_suffixes place base) e)

pub base_part : (place : Place) (base : Exp) (suffixes : List Suffix) → (suffixes ≡ [] → ⊥) →
    V.Part place base suffixes ≡ T.with_suffixes place base suffixes
base_part place base [] h = absurd (h refl)
base_part place base (s ∷ suffixes) h = refl
