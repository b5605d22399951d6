-- A clause counts variables on: its parameters, what is owed of exponents, its patterns and its body.
use Rattle.std.proofs.Common.{Bool, true, List, [], ◌∷◌}
use Rattle.sail_base.specs.declared.place.Place.{Place}
use Rattle.sail_types.specs.declared.numbers.Index.{Index}
use Rattle.sail_types.specs.declared.types.Typ.{Typ}
use Rattle.sail_core.specs.declared.model.Direction.{Direction}
use Rattle.sail_core.specs.declared.patterns.Arm.{Arm}
use Rattle.sail_core.specs.declared.tree.Core.{Core}
use Rattle.sail_core.specs.declared.tree.Giver.{Giver}
use Rattle.sail_core.specs.declared.written.WrittenNumber.{WrittenNumber}
use Rattle.value_indices.specs.declared.indices.Indices.{Indices}
use Rattle.value_indices.specs.declared.indices.Reading.{Reading}
use Rattle.value_indices.specs.declared.indices.Reading.TheVariants as R
use Rattle.value_indices.specs.Steps.{bind, give, owe}
use Rattle.fitting_laws.proofs.Counting as Counting
use Rattle.pattern_leaves.specs.Settings.{Around, exponents_owed, number_owed}
use Rattle.pattern_notes.specs.Patterns.{Look, arm_match, looks}
use Rattle.pattern_notes.specs.declared.matching.Matching.{Matching}
use Rattle.pattern_laws.proofs.Growing as Growing
use Rattle.call_arguments.specs.Aims.{aimed}
use Rattle.call_arguments.specs.declared.aims.Aim.{Aim}
use Rattle.call_arguments.specs.declared.aims.Aim.TheVariants as Aims
use Rattle.call_notes.specs.Noted.{names_given}
use Rattle.expression_steps.specs.Expressions.{part}
use Rattle.expression_steps.specs.Parts.{Part}
use Rattle.function_notes.specs.Functions.{arm_of, body_part, clause_names, clause_walk, direction_giver, in_clause, other_looks}
use Rattle.function_notes.specs.Functions.{parameter_naming, parameter_opened, parameters_opened, reading_under}
use Rattle.soundness_steps.specs.Works.{Scene, here}
use Rattle.soundness_steps.specs.Steps.{Grows}
use Rattle.soundness_forms.proofs.Growth.{grows_bind, grows_give, grows_opening, grows_owe, grows_scoped}
use Rattle.soundness_forms.proofs.NamesGiven.{names_grow}
use Rattle.soundness_calls.specs.Premises.{ClausesGrow}
use Rattle.soundness_calls.specs.Directions.{WaysGrow}
use Rattle.sail_calls.specs.ArmLaws.{AllCount, EachGrows, PartGrows}

-- ---- parameters

parameters_grow : (ps : List Look) (is : List Index) (ts : List Typ) → Grows (parameters_opened ps is ts)
parameters_grow ps is [] = grows_give []
parameters_grow ps is (t ∷ ts) =
    grows_bind (parameter_opened ps is t) (λ i. bind (parameters_opened (other_looks ps) is ts) (λ more. give (i ∷ more)))
    (grows_opening (reading_under t is) true (parameter_naming ps)) (λ i.
    grows_bind (parameters_opened (other_looks ps) is ts) (λ more. give (i ∷ more)) (parameters_grow (other_looks ps) is ts) (λ more.
    grows_give (i ∷ more)))

-- ---- a clause

exponents_grow : (around : Around) (ns : List WrittenNumber) → Grows (exponents_owed around ns)
exponents_grow around [] = grows_give tt
exponents_grow around (t ∷ ns) = grows_bind (owe t.place (number_owed around t t.role)) (λ u. exponents_owed around ns)
    (grows_owe t.place (number_owed around t t.role)) (λ u. exponents_grow around ns)

arm_grows : (around : Around) (place : Place) (arm : Arm) (how : Matching) (is : List Indices) → Grows (arm_match place arm around how is)
arm_grows around place arm how is =
    let h : Counting.Grows (arm_match place arm around how is) = Growing.arm_grows around place arm how is in
    record { onward = h.onward; more = h.more; extends = h.extends }

clause_grows : (place : Place) (giver : Giver) (around : Around) (ts : List Typ) (once : List WrittenNumber) (aim : Aim) (arm : Arm) (body : Part)
    → PartGrows body → Grows (clause_walk place giver around ts once aim arm body)
clause_grows place giver around ts once aim arm body h =
    grows_scoped (bind (parameters_opened (looks arm) around.numbers ts) (λ is. bind (exponents_owed around once) (λ t.
    bind (clause_names place giver around arm is) (λ found. body.walk around found aim))))
    (grows_bind (parameters_opened (looks arm) around.numbers ts)
    (λ is. bind (exponents_owed around once) (λ t. bind (clause_names place giver around arm is) (λ found. body.walk around found aim)))
    (parameters_grow (looks arm) around.numbers ts) (λ is.
    grows_bind (exponents_owed around once) (λ t. bind (clause_names place giver around arm is) (λ found. body.walk around found aim))
    (exponents_grow around once) (λ t.
    grows_bind (clause_names place giver around arm is) (λ found. body.walk around found aim)
    (grows_bind (arm_match place arm around in_clause is) (names_given giver is) (arm_grows around place arm in_clause is) (names_grow giver is))
    (λ found. h around found aim))))

-- ---- clauses of functions, and of directions of mappings

clauses_grow : (q : Scene) (place : Place) (ts : List Typ) (r : Reading) (declared : Bool) (arms : List Arm) (bodies : List Core)
    → EachGrows (body_part declared) bodies → ClausesGrow q place ts r declared arms bodies
clauses_grow q place ts r declared [] bodies h = tt
clauses_grow q place ts r declared (arm ∷ arms) [] h = tt
clauses_grow q place ts r declared (arm ∷ arms) (body ∷ bodies) h = (
  λ giver once facts n.
      (clause_grows place giver (here q) ts once (Aims.Due r) (arm_of declared arm) (body_part declared body) h.0).onward facts n,
  clauses_grow q place ts r declared arms bodies h.1,
)

ways_grow : (q : Scene) (place : Place) (m : Direction) (arms : List Arm) (bodies : List Core) → EachGrows part bodies → WaysGrow q place m arms bodies
ways_grow q place m [] bodies h = tt
ways_grow q place m (arm ∷ arms) [] h = tt
ways_grow q place m (arm ∷ arms) (body ∷ bodies) h = (
  λ behind facts n.
      (clause_grows place (direction_giver m behind) (here q) (m.parameter ∷ []) [] (aimed Aims.Due (R.Of m.result [] [])) arm (part body)
      h.0).onward facts n,
  ways_grow q place m arms bodies h.1,
)

pub all_count : AllCount
all_count = record { clauses = clauses_grow; ways = ways_grow }
