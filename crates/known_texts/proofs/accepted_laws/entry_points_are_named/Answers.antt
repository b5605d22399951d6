use Rattle.std.proofs.Common.{[], ◌∷◌, codes, refl}
use Rattle.sail_types.specs.declared.shapes.Shape.TheVariants as V
use Rattle.known_texts.proofs.Failures.{nothing_fails}
use Rattle.known_texts.proofs.Found.{function_named}
use Rattle.known_texts.proofs.Starts.{reset_typed, step_typed}
use Rattle.known_texts.proofs.accepted_laws.entry_points_are_named.Goals as goal

pub returns : goal.returns
returns c = λ text end accepted.
    let clear = nothing_fails text end accepted in (
      function_named text clear (codes "step") (V.Unit ∷ []) refl (step_typed text clear.step),
      function_named text clear (codes "reset") (V.Int ∷ V.Bits ∷ []) refl (reset_typed text clear.reset),
    )
