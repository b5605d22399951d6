-- The code of functions: a tick, the measure, the body, and where exceptions, failed matches and failed measures go.
use Rattle.std.specs.Prelude.{ℕ, ◌+◌, Bool, true, List, [], ◌∷◌, ◌++◌, Option, Some, None}
use Rattle.sail_base.specs.declared.place.Place.{Place as TextPlace}
use Rattle.sail_core.specs.declared.tree.Core.{Core}
use Rattle.model_state.specs.declared.cause.Cause.TheVariants.{MatchFailure}
use Rattle.jib.specs.declared.code.Instruction.{Instruction}
use Rattle.jib.specs.declared.code.Instruction.TheVariants as I
use Rattle.lowered_pieces.specs.Places.{Raised, Temp, Kit, from}
use Rattle.lowered_pieces.specs.Forms.{Depths, Stand, Piece, no_tail, code_of, count_of, return_piece}

abbrev pub body_depths : Depths
body_depths = record { here = 0; of = λ x. 0 }

-- label 0 is for exceptions and label 1 for No; label 2 is where no pattern of the measure matches
abbrev pub body_stand : Stand
body_stand = record { scope = []; temp = 0; on_throw = 0; on_no = 1; depths = body_depths }

abbrev pub measure_stand : Stand
measure_stand = record body_stand { on_no = 2 }

-- what is thrown leaves the function, and where no clause is taken the run stops at the function
abbrev pub ends_code : Kit → TextPlace → List Instruction
ends_code kit place = I.Label 1 ∷ I.Stop (MatchFailure place) ∷ I.Label 0 ∷ I.Throw (from kit Raised kit.exception) ∷ []

-- ---- the body

-- the clauses with the type of the result, and the ends: the value comes to its type at a node of its own
abbrev pub answer_code : Kit → TextPlace → Piece → ℕ → List Instruction
answer_code kit place body l = (return_piece kit body).ended no_tail body_stand l ++ ends_code kit place

abbrev pub measure_code : Kit → Option Piece → List Instruction
measure_code kit None = []
measure_code kit (Some m) = code_of m measure_stand 3 ++ I.Measure (from kit (Temp 0) kit.integer) ∷ []

abbrev pub measure_labels : Option Piece → ℕ
measure_labels None = 0
measure_labels (Some m) = count_of m

abbrev pub no_measure_code : Option Piece → List Instruction
no_measure_code None = []
no_measure_code (Some m) = I.Label 2 ∷ I.NoMeasure ∷ []

-- a function that calls enter: the tick comes after the arguments, and before the measure
abbrev pub called_code : Kit → TextPlace → Option Piece → Piece → List Instruction
called_code kit place measure body =
    I.Tick ∷ (measure_code kit measure ++ (answer_code kit place body (3 + measure_labels measure) ++ no_measure_code measure))

-- a function that an event of the machine enters: no tick, no measure
abbrev pub event_code : Kit → TextPlace → Piece → List Instruction
event_code kit place body = answer_code kit place body 3

-- a direction of a mapping: no tick, which calls of it take before they enter it
abbrev pub direction_code : Kit → TextPlace → Piece → List Instruction
direction_code kit place body = event_code kit place body

-- ---- the measure of a function that is in a cycle

abbrev pub measure_of : Option ℕ → Option Core → Option Core
measure_of (Some cycle) measure = measure
measure_of None measure = None

abbrev pub all_in : (Core → Bool) → Option Core → Bool
all_in p None = true
all_in p (Some c) = p c
