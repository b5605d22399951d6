-- A clause goes through the mappings of its patterns and its body.
use Rattle.std.specs.Prelude.{true, List, [], ◌∷◌}
use Rattle.sail_base.specs.declared.place.Place.{Place}
use Rattle.sail_types.specs.declared.numbers.Con.{Con, out-Con}
use Rattle.sail_types.specs.declared.numbers.Index.{Index}
use Rattle.sail_types.specs.declared.types.Typ.{Typ}
use Rattle.sail_core.specs.declared.patterns.Arm.{Arm}
use Rattle.sail_core.specs.declared.tree.Giver.{Giver}
use Rattle.sail_core.specs.declared.written.WrittenNumber.{WrittenNumber}
use Rattle.pattern_leaves.specs.Settings.{Around}
use Rattle.pattern_notes.specs.Patterns.{Look, looks}
use Rattle.call_arguments.specs.declared.aims.Aim.{Aim}
use Rattle.call_arguments.specs.Placing.{is_trivial_form}
use Rattle.expression_steps.specs.Parts.{Part}
use Rattle.function_notes.specs.Functions.{constrained, parameter_naming, other_looks, reading_under, parameter_opened}
use Rattle.function_notes.specs.Functions.{parameters_opened, in_clause, clause_walk}
use Rattle.note_laws.specs.Ways.{Told}
use Rattle.note_laws.proofs.Goes.{Goes, IsTabled, Every, PartGoes, LookGoes, ArmGoes, give_goes, bind_goes, if_goes, assume_goes, scoped_goes}
use Rattle.note_laws.proofs.LeafGoes.{exponents_owed_goes}
use Rattle.note_laws.proofs.NodeGoes.{names_given_goes}
use Rattle.note_laws.proofs.OpeningGoes.{opening_goes}
use Rattle.note_laws.proofs.PatternGoes.{arm_match_goes, looks_goes}

module _ (told : Told) where
  pub parameter_opened_goes : (ps : List Look) → Every (LookGoes told) ps → (is : List Index) (t : Typ) → Goes told (parameter_opened ps is t)
  parameter_opened_goes ps ps_go is t = opening_goes told (reading_under t is) true (parameter_naming ps)

  other_looks_goes : (ps : List Look) → Every (LookGoes told) ps → Every (LookGoes told) (other_looks ps)
  other_looks_goes [] h = tt
  other_looks_goes (p ∷ ps) h = h.1

  pub parameters_opened_goes : (ps : List Look) → Every (LookGoes told) ps → (is : List Index) (ts : List Typ) → Goes told (parameters_opened ps is ts)
  parameters_opened_goes ps ps_go is [] = give_goes told _
  parameters_opened_goes ps ps_go is (t ∷ ts) =
      bind_goes told _ _ (parameter_opened_goes ps ps_go is t)
      (λ i. bind_goes told _ _ (parameters_opened_goes (other_looks ps) (other_looks_goes ps ps_go) is ts) (λ more. give_goes told _))

  pub clause_walk_goes : (place : Place) (g : Giver) (around : Around) (tabled : IsTabled told around) (ts : List Typ)
      (once : List WrittenNumber) (aim : Aim) (arm : Arm)
      → ArmGoes told arm → (body : Part) → PartGoes told body → Goes told (clause_walk place g around ts once aim arm body)
  clause_walk_goes place g around tabled ts once aim arm arm_go body body_go =
      scoped_goes told _ (bind_goes told _ _ (parameters_opened_goes (looks arm) (looks_goes told arm arm_go) around.numbers ts)
      (λ is. bind_goes told _ _ (exponents_owed_goes told around once)
      (λ t. bind_goes told _ _ (bind_goes told _ _ (arm_match_goes told place arm arm_go around tabled in_clause is) (names_given_goes told g is))
      (λ found. body_go.walk around tabled found aim))))

  pub constrained_goes : (c : Con) → Goes told (constrained c)
  constrained_goes c = if_goes told (is_trivial_form (out-Con c)) _ _ (give_goes told _) (assume_goes told c)
