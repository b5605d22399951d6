use Rattle.std.proofs.Common.{[], ◌∷◌, codes, refl}
use Rattle.sail_types.specs.declared.shapes.Shape.TheVariants as V
use Rattle.shapes.specs.Tabled.{tabled_of}
use Rattle.known_texts.proofs.Opened.{whole_text_means_text}
use Rattle.known_texts.proofs.Failures.{nothing_fails}
use Rattle.known_texts.proofs.Found.{function_named}
use Rattle.known_texts.proofs.Once.{names_once, types_closed}
use Rattle.known_texts.proofs.Registers.{registers_typed}
use Rattle.known_texts.proofs.Starts.{reset_typed, step_typed}
use Rattle.known_texts.proofs.Types.{types_known}
use Rattle.known_texts.proofs.Assembled.{definitions_known}
use Rattle.known_texts.proofs.Openings.{openings_known}
use Rattle.known_texts.proofs.Parts.{tuples_have_parts}
use Rattle.known_texts.proofs.known_laws.accepted_texts_mean_text.Goals as goal

pub returns : goal.returns
returns c = λ text end cycle accepted kept is_written.
    let clear = nothing_fails text end accepted in
    let parts = tuples_have_parts text is_written in
    whole_text_means_text (tabled_of text) cycle text kept (definitions_known text clear is_written parts kept) (types_closed text clear cycle)
    (registers_typed text (types_known text clear.types) 0 text clear.bodies) (names_once text clear) (openings_known text clear is_written parts)
    (function_named text clear (codes "step") (V.Unit ∷ []) refl (step_typed text clear.step))
    (function_named text clear (codes "reset") (V.Int ∷ V.Bits ∷ []) refl (reset_typed text clear.reset))
