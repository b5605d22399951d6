-- What is taken of a type of items that fits into another.
use Rattle.std.specs.Prelude.{ℕ, List}
use Rattle.sail_base.specs.declared.place.Place.{Place}
use Rattle.sail_types.specs.declared.values.Value.{Value}
use Rattle.value_indices.specs.declared.indices.Reading.{Reading}
use Rattle.value_indices.specs.declared.notes.Fact.{Fact}
use Rattle.value_fits.specs.Fitting.{fits, item_fits, owe_fit}
use Rattle.value_laws.specs.Known.{Point}
use Rattle.soundness_steps.specs.Works.{Scene}
use Rattle.soundness_steps.specs.Steps.{Walks}
use Rattle.soundness_steps.specs.Values.{Belongs, IsSteady, IsWanted}

-- what belongs to it belongs to that
abbrev pub LikenessSuffices : Type 0
LikenessSuffices = (q : Scene) (n : ℕ) (f : Point n) (facts : List Fact) (place : Place) (r s : Reading) → IsSteady q.set q.work f r
    → IsWanted q.set q.work f s
    → Walks q n f facts (owe_fit place (item_fits (fits q.set.around.types) r s))
    (λ m g t. (v : Value) → Belongs q.set q.work f r v → Belongs q.set q.work g s v)
